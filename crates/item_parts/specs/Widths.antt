-- The widths of nets, selects and expressions, in bits.
use Rattle.std.specs.Prelude.{ℕ, ◌+◌, sum_by, Option, None, Some}
use Rattle.std.specs.Int.{abs_diff}
use Rattle.std.specs.Option.{option_and_then, unwrap_or}
use Rattle.v_tree.specs.declared.expressions.RangeBounds.{RangeBounds}
use Rattle.v_tree.specs.declared.expressions.Select.{Select}
use Rattle.v_tree.specs.declared.expressions.Pick.{Pick}
use Rattle.v_tree.specs.declared.expressions.Expr.{Expr}
use Rattle.v_tree.specs.declared.expressions.Expr.TheOpen.{Expr-F}
use Rattle.v_tree.specs.declared.expressions.Expr.TheFolds.{fold-Expr}
use Rattle.module_scope.specs.declared.nets.ScopeNet.{ScopeNet}
use Rattle.module_scope.specs.declared.scopes.Scope.{Scope}
use Rattle.module_scope.specs.Scopes.{scope_net}

-- how many numbers there are from one bound to the other, whichever is greater
abbrev pub bounds_width : ℕ → ℕ → ℕ
bounds_width left right = abs_diff left right + 1

-- the width of a net by its range: a scalar has one bit (IEEE 1364-2005, 4.3.1)
abbrev pub range_width : Option RangeBounds → ℕ
range_width None = 1
range_width (Some range) = bounds_width range.left range.right

-- one bit, or a part of a vector (IEEE 1364-2005, 5.2.1)
abbrev pub select_width : Select → ℕ
select_width select = bounds_width select.left (unwrap_or select.right select.left)

-- the range of a net, where there is one and it is a vector
abbrev pub net_range : Option ScopeNet → Option RangeBounds
net_range net = option_and_then (λ n. n.range) net

-- the width of a select, or that of the whole net where there is none
abbrev pub width_in : Option RangeBounds → Option Select → ℕ
width_in range None = range_width range
width_in range (Some select) = select_width select

-- the width of a net or of bits of it; a name without a net counts as a scalar
abbrev pub pick_width : Scope → Pick → ℕ
pick_width scope pick = width_in (net_range (scope_net scope pick.name.text)) pick.select

-- one layer of an expression, with the widths of its parts: in a concatenation what has no width of its own counts 0
abbrev pub width_layer : Scope → Expr-F (Option ℕ) → Option ℕ
width_layer scope (Expr-F.Pick pick) = Some (pick_width scope pick)
width_layer scope (Expr-F.Number location n) = None
width_layer scope (Expr-F.Based location literal) = literal.size
width_layer scope (Expr-F.Concat location parts) = Some (sum_by (λ width. unwrap_or width 0) parts)

-- the width of an expression (IEEE 1364-2005, 5.4.1): None for a literal without size, which takes the width of its place
abbrev pub expr_width : Scope → Expr → Option ℕ
expr_width scope = fold-Expr (Option ℕ) (width_layer scope)
