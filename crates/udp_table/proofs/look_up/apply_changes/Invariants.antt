use Rattle.std.proofs.Common.{◌≡◌, [], take, drop}
use Rattle.udp_table.specs.LookUp.{state_after}
use Rattle.udp_table.proofs.look_up.apply_changes.Given as goal

abbrev pub invariant-loop-k : goal.invariant-loop-k
invariant-loop-k l =
    state_after l.rows (take l.k l.new) (drop l.k l.old) (drop l.k l.new) l.present ≡ state_after l.rows [] l.old l.new l.fn.state
