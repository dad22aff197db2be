-- The runs of concatenations.
use Rattle.std.proofs.Common.{◌≡◌, List, sym, ap, ◌∙◌}
use Rattle.std.specs.List.{flat_map}
use Rattle.std.proofs.lemmas.List.Folds.{flat_map-map}
use Rattle.v_tree.specs.declared.locations.Location.{Location}
use Rattle.v_tree.specs.declared.expressions.Expr.{Expr, fold-roll-Expr}
use Rattle.v_tree.specs.declared.expressions.Expr.TheOpen.{Expr-F}
use Rattle.v_tree.specs.declared.expressions.Expr.TheVariants as expr
use Rattle.expression_bits.specs.declared.runs.BitRun.{BitRun}
use Rattle.expression_bits.specs.Runs.{part_layer, part_runs}

pub part_runs-concat : (location : Location) (parts : List Expr) → part_runs (expr.Concat location parts) ≡ flat_map part_runs parts
part_runs-concat location parts =
    ap part_runs (sym (expr.rolls-Concat location parts))
    ∙ fold-roll-Expr (List BitRun) part_layer (Expr-F.Concat location parts)
    ∙ flat_map-map (λ (part : List BitRun). part) part_runs parts
