-- The runs of targets that are concatenations.
use Rattle.std.proofs.Common.{◌≡◌, List, sym, ap, ◌∙◌}
use Rattle.std.specs.List.{flat_map}
use Rattle.std.proofs.lemmas.List.Folds.{flat_map-map}
use Rattle.v_tree.specs.declared.locations.Location.{Location}
use Rattle.v_tree.specs.declared.expressions.Target.{Target, fold-roll-Target}
use Rattle.v_tree.specs.declared.expressions.Target.TheOpen.{Target-F}
use Rattle.v_tree.specs.declared.expressions.Target.TheVariants as target
use Rattle.expression_bits.specs.declared.runs.BitRun.{BitRun}
use Rattle.module_parts.specs.Parts.{target_layer, target_runs}

pub target_runs-concat : (location : Location) (parts : List Target) → target_runs (target.Concat location parts) ≡ flat_map target_runs parts
target_runs-concat location parts =
    ap target_runs (sym (target.rolls-Concat location parts))
    ∙ fold-roll-Target (List BitRun) target_layer (Target-F.Concat location parts)
    ∙ flat_map-map (λ (part : List BitRun). part) target_runs parts
