use Rattle.std.proofs.Common.{◌≡◌, ℕ, ◌<◌, ◌≤◌, List, ◌++◌, get_or, Option, Some, None}
use Rattle.std.specs.List.{flat_map, range_with_len}
use Rattle.first_machine.specs.Machine.{Machine}
use Rattle.first_machine.specs.Shown.{logic_at}
use Rattle.first_machine.specs.Trace.{output_at, line_at}
use Rattle.first_machine.specs.PrintedPlaces.{IsStep}
use Rattle.first_machine.proofs.trace.push_step.Given as goal

abbrev pub invariant-loop-j : goal.invariant-loop-j
invariant-loop-j l = record {
  lines : (m : Machine) (last : List (Option (List ℕ))) → IsStep l.netlist l.tick l.seen l.initial.printed m last → l.text.items ≡ l.initial.text.items ++ flat_map (line_at l.netlist m last) (range_with_len 0 l.j);
  done : (k : ℕ) → k < l.j → get_or l.printed k None ≡ Some (logic_at l.seen (output_at l.netlist k));
  rest : (k : ℕ) → l.j ≤ k → get_or l.printed k None ≡ get_or l.initial.printed k None;
}
