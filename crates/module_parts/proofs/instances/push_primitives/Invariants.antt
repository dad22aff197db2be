use Rattle.std.proofs.Common.{◌≡◌, [], ◌++◌, map, take}
use Rattle.module_graph.specs.declared.references.Master.TheVariants.{Udp}
use Rattle.instance_rules.specs.Links.{ports_of}
use Rattle.module_parts.specs.Parts.{primitive_instance}
use Rattle.module_parts.proofs.instances.push_primitives.Given as goal

abbrev pub invariant-loop-inst : goal.invariant-loop-inst
invariant-loop-inst l =
    l.parts ≡ l.initial.parts ++ map (primitive_instance l.item (ports_of l.tables [] (Udp l.primitive))) (take l.inst-index l.instances)
