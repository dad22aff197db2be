use Rattle.std.proofs.Common.{List, [], ◌∷◌, length, sum_by, subst}
use Rattle.std.proofs.lemmas.List.{take_all}
use Rattle.std.proofs.lemmas.List.Sums.{sum_by-append}
use Rattle.module_parts.specs.declared.parts.ModulePart.{ModulePart}
use Rattle.netlist_plan.specs.Unnamed.{unnamed_count}
use Rattle.module_nets.specs.Entries.{HasGained}
use Rattle.module_nets.proofs.Gaining.{HasGained-next, HasGained-none, HasGained-part}
use Rattle.module_nets.proofs.Sources.{parts_sources, parts_sources-push}
use Rattle.module_nets.proofs.parts.push_parts.Goals as goal

pub loop-part-init : goal.loop-part-init
loop-part-init c = HasGained-none c.args.scope.now c.args.entries.now c.requires

pub loop-part-preserved : goal.loop-part-preserved
loop-part-preserved c =
    HasGained-next parts_sources (λ (parts : List ModulePart). sum_by unnamed_count parts)
    parts_sources-push (λ parts part. sum_by-append unnamed_count parts (part ∷ []))
    c.args.scope.now c.args.entries.now c.loop-part.entries c.push_part.new.entries c.args.parts.now c.loop-part.part-index c.part-item.result
    c.loop-part-test.true c.part-item.is c.loop-part.invariant
    (HasGained-part c.args.scope.now c.loop-part.entries c.push_part.new.entries c.part-item.result c.in_ok-push_part.ensures)

pub returns : goal.returns
returns c =
    subst (λ (parts : List ModulePart). HasGained c.args.scope.now c.args.entries.now c.loop-part.entries (parts_sources (length c.args.entries.now.literal_firsts) parts) (sum_by unnamed_count parts))
    (take_all c.loop-part.part-index c.args.parts.now c.loop-part-test.false) c.loop-part.invariant
