use Rattle.std.proofs.Common.{length, sum_by, take}
use Rattle.netlist_plan.specs.Unnamed.{unnamed_count}
use Rattle.module_nets.specs.Entries.{HasGained}
use Rattle.module_nets.proofs.Sources.{parts_sources}
use Rattle.module_nets.proofs.parts.push_parts.Given as goal

abbrev pub invariant-loop-part : goal.invariant-loop-part
invariant-loop-part l =
    HasGained l.scope l.initial.entries l.entries (parts_sources (length l.initial.entries.literal_firsts) (take l.part-index l.parts)) (sum_by unnamed_count (take l.part-index l.parts))
