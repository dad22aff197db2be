use Rattle.std.proofs.Common.{List, length, take}
use Rattle.expression_bits.specs.declared.runs.BitRun.{BitRun}
use Rattle.module_nets.specs.Entries.{HasGained}
use Rattle.module_nets.proofs.Sources.{literals_in, sources_in}
use Rattle.module_nets.proofs.runs.push_terminals.Given as goal

abbrev pub invariant-loop-runs : goal.invariant-loop-runs
invariant-loop-runs l =
    HasGained l.scope l.initial.entries l.entries (sources_in (λ (list : List BitRun). list) (length l.initial.entries.literal_firsts) (take l.runs-index l.terminals)) (literals_in (λ (list : List BitRun). list) (take l.runs-index l.terminals))
