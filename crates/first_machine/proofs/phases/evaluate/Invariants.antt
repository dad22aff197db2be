use Rattle.std.proofs.Common.{◌≡◌, ℕ, ◌<◌, get_or}
use Rattle.first_machine.specs.Pass.{no_gate}
use Rattle.first_machine.specs.Shown.{logic_at, next_value, SaysDue}
use Rattle.first_machine.proofs.phases.evaluate.Given as goal

abbrev pub invariant-loop-k : goal.invariant-loop-k
invariant-loop-k l = record {
  targets : (j : ℕ) → j < l.k → logic_at l.targets j ≡ next_value (get_or l.gates j no_gate) l.seen;
  due : SaysDue l.due l.outs l.targets l.k;
}
