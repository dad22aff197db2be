use Rattle.std.proofs.Common.{List, ap, ◌∙◌}
use Rattle.std.proofs.lemmas.List.{take_all}
use Rattle.std.specs.List.{flat_map}
use Rattle.module_parts.specs.declared.parts.ModulePart.{ModulePart}
use Rattle.plan_counts.specs.PartCounts.{part_counts}
use Rattle.plan_counts.proofs.CountLaws.{bounds-are}
use Rattle.plan_counts.proofs.instances.instance_counts.Goals as goal

pub returns : goal.returns
returns c = λ given m plans are.
    c.from_vec.ensures
    ∙ c.loop-part.invariant
    ∙ ap (λ (parts : List ModulePart). flat_map (part_counts c.args.scope.now c.args.widths.now) parts) (take_all c.loop-part.part-index c.args.parts.now c.loop-part-test.false)
    ∙ bounds-are c.args.scope.now given m c.args.parts.now plans c.args.widths.now are
