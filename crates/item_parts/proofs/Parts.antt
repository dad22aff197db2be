-- Expressions made of others.
use Rattle.std.proofs.Common.{◌≡◌, ℕ, ◌+◌, Bool, ◌||◌, List, [], ◌∷◌, map, Option, Some, sum_by, refl, sym, ap, ◌∙◌}
use Rattle.std.specs.List.{flat_map, list_any}
use Rattle.std.specs.Option.{unwrap_or}
use Rattle.std.proofs.lemmas.List.Folds.{flat_map-map, fold-map}
use Rattle.v_tree.specs.declared.locations.Location.{Location}
use Rattle.v_tree.specs.declared.expressions.Expr.{Expr, fold-roll-Expr}
use Rattle.v_tree.specs.declared.expressions.Expr.TheOpen.{Expr-F}
use Rattle.v_tree.specs.declared.expressions.Expr.TheVariants as expr
use Rattle.module_scope.specs.declared.scopes.Scope.{Scope}
use Rattle.item_parts.specs.Widths.{width_layer, expr_width}
use Rattle.item_parts.specs.Literals.{has_literal_layer, has_literal, unsized_layer, unsized_literals}

pub unsized_literals-concat : (location : Location) (parts : List Expr) → unsized_literals (expr.Concat location parts) ≡ flat_map unsized_literals parts
unsized_literals-concat location parts =
    ap unsized_literals (sym (expr.rolls-Concat location parts))
    ∙ fold-roll-Expr (List Location) unsized_layer (Expr-F.Concat location parts)
    ∙ flat_map-map (λ (part : List Location). part) unsized_literals parts

list_any-map : {X Y : Type 0} (test : Y → Bool) (f : X → Y) (xs : List X) → list_any test (map f xs) ≡ list_any (λ x. test (f x)) xs
list_any-map test f [] = refl
list_any-map test f (x ∷ xs) = ap (λ (rest : Bool). test (f x) || rest) (list_any-map test f xs)

pub has_literal-concat : (location : Location) (parts : List Expr) → has_literal (expr.Concat location parts) ≡ list_any has_literal parts
has_literal-concat location parts =
    ap has_literal (sym (expr.rolls-Concat location parts))
    ∙ fold-roll-Expr Bool has_literal_layer (Expr-F.Concat location parts)
    ∙ list_any-map (λ (part : Bool). part) has_literal parts

-- what a part adds to the width of a concatenation
abbrev pub part_width : Scope → Expr → ℕ
part_width scope part = unwrap_or (expr_width scope part) 0

pub expr_width-concat : (scope : Scope) (location : Location) (parts : List Expr) → expr_width scope (expr.Concat location parts) ≡ Some (sum_by (part_width scope) parts)
expr_width-concat scope location parts =
    ap (expr_width scope) (sym (expr.rolls-Concat location parts))
    ∙ fold-roll-Expr (Option ℕ) (width_layer scope) (Expr-F.Concat location parts)
    ∙ ap (λ (n : ℕ). Some n) (fold-map (λ (a : ℕ) (width : Option ℕ). a + unwrap_or width 0) (expr_width scope) 0 parts)
