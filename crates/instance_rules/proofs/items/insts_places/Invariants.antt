use Rattle.std.specs.List.{flat_map}
use Rattle.instance_rules.specs.Links.{ports_of}
use Rattle.instance_rules.specs.Walks.{inst_places}
use Rattle.instance_rules.proofs.Seeing.{IsSeen}
use Rattle.instance_rules.proofs.items.insts_places.Given as goal

abbrev pub invariant-loop-inst : goal.invariant-loop-inst
invariant-loop-inst l = IsSeen
    (λ rule. inst_places rule l.scope (ports_of l.tables l.counts l.master))
    l.instances
    (λ rule. flat_map (inst_places rule l.scope (ports_of l.tables l.counts l.master)) l.instances)
    l.inst-index l.places
