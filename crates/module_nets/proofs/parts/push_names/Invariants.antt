use Rattle.std.proofs.Common.{map, take}
use Rattle.netlist_plan.specs.declared.nets.NetSource.TheVariants.{Named}
use Rattle.module_nets.specs.Entries.{HasGained}
use Rattle.module_nets.proofs.parts.push_names.Given as goal

abbrev pub invariant-loop-name : goal.invariant-loop-name
invariant-loop-name l = HasGained l.scope l.initial.entries l.entries (map Named (take l.name-index l.names)) 0
