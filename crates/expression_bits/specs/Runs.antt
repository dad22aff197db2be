-- The runs of bits that expressions stand for, from the left.
use Rattle.std.specs.Prelude.{ℕ, suc, zero, ◌+◌, ◌-◌, List, [], ◌∷◌, ◌++◌, length, replicate, sum_by}
use Rattle.std.specs.List.{flat_map}
use Rattle.v_lexer.specs.declared.literals.Bit.TheVariants as bit
use Rattle.v_tree.specs.declared.expressions.Pick.{Pick}
use Rattle.v_tree.specs.declared.expressions.Expr.{Expr, out-Expr}
use Rattle.v_tree.specs.declared.expressions.Expr.TheOpen.{Expr-F}
use Rattle.v_tree.specs.declared.expressions.Expr.TheFolds.{fold-Expr}
use Rattle.module_scope.specs.declared.scopes.Scope.{Scope}
use Rattle.module_scope.specs.Scopes.{scope_net}
use Rattle.item_parts.specs.Widths.{net_range, width_in}
use Rattle.expression_bits.specs.declared.runs.BitRun.{BitRun}
use Rattle.expression_bits.specs.declared.runs.BitRun.TheVariants.{Net, Literal}
use Rattle.expression_bits.specs.declared.values.ValueRuns.{ValueRuns}
use Rattle.expression_bits.specs.Literals.{number_bits, place_bits, value_bits}

-- a net or bits of it
abbrev pub pick_run : Pick → BitRun
pick_run pick = Net pick.name.text pick.select

-- one layer of a part of a concatenation, with the runs of its parts, the leftmost first (IEEE 1364-2005, 5.1.14): a literal
-- without size has its 32 bits there
abbrev pub part_layer : Expr-F (List BitRun) → List BitRun
part_layer (Expr-F.Pick pick) = pick_run pick ∷ []
part_layer (Expr-F.Number location n) = Literal (number_bits 32 n) ∷ []
part_layer (Expr-F.Based location literal) = Literal literal.bits ∷ []
part_layer (Expr-F.Concat location parts) = flat_map (λ part. part) parts

-- the runs of a part of a concatenation
abbrev pub part_runs : Expr → List BitRun
part_runs = fold-Expr (List BitRun) part_layer

abbrev pub place_runs_in : ℕ → Expr-F Expr → List BitRun
place_runs_in width (Expr-F.Pick pick) = pick_run pick ∷ []
place_runs_in width (Expr-F.Number location n) = Literal (number_bits width n) ∷ []
place_runs_in width (Expr-F.Based location literal) = Literal (place_bits width literal.size literal) ∷ []
place_runs_in width (Expr-F.Concat location parts) = flat_map part_runs parts

-- the runs of a terminal or a connection of a width
abbrev pub place_runs : ℕ → Expr → List BitRun
place_runs width e = place_runs_in width (out-Expr e)

-- how many bits a run has; a name without a net counts as a scalar
abbrev pub run_width : Scope → BitRun → ℕ
run_width scope (Net name select) = width_in (net_range (scope_net scope name)) select
run_width scope (Literal bits) = length bits

-- how many bits runs have
abbrev pub runs_width : Scope → List BitRun → ℕ
runs_width scope runs = sum_by (run_width scope) runs

-- a literal of so many zeros; no run where that is none
abbrev pub zeros_run : ℕ → List BitRun
zeros_run zero = []
zeros_run (suc n) = Literal (replicate (suc n) bit.Zero) ∷ []

-- runs for so many bits, of which they have a width: zeros on the left of them, or so many cut on the left
abbrev pub fit_runs : ℕ → ℕ → List BitRun → ValueRuns
fit_runs width own runs = record { runs = zeros_run (width - own) ++ runs; cut = own - width }

-- a literal alone, which has the width
abbrev pub literal_alone : BitRun → ValueRuns
literal_alone run = record { runs = run ∷ []; cut = 0 }

abbrev pub value_runs_in : Scope → ℕ → Expr-F Expr → ValueRuns
value_runs_in scope width (Expr-F.Pick pick) = fit_runs width (runs_width scope (pick_run pick ∷ [])) (pick_run pick ∷ [])
value_runs_in scope width (Expr-F.Number location n) = literal_alone (Literal (number_bits width n))
value_runs_in scope width (Expr-F.Based location literal) = literal_alone (Literal (value_bits width literal.size literal))
value_runs_in scope width (Expr-F.Concat location parts) =
    fit_runs width (runs_width scope (flat_map part_runs parts)) (flat_map part_runs parts)

-- the runs of the right side of an assignment to so many bits
abbrev pub value_runs : Scope → ℕ → Expr → ValueRuns
value_runs scope width e = value_runs_in scope width (out-Expr e)
