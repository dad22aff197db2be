use Rattle.std.proofs.Common.{◌≡◌, [], ◌++◌, map, take}
use Rattle.module_graph.specs.declared.references.Master.TheVariants.{Module}
use Rattle.instance_rules.specs.Links.{ports_of}
use Rattle.module_parts.specs.Parts.{module_instance}
use Rattle.module_parts.proofs.instances.push_modules.Given as goal

abbrev pub invariant-loop-inst : goal.invariant-loop-inst
invariant-loop-inst l =
    l.parts ≡ l.initial.parts ++ map (module_instance l.item l.master (ports_of l.tables [] (Module l.master))) (take l.inst-index l.instances)
