use Rattle.std.proofs.Common.{◌≡◌, ◌++◌, drop}
use Rattle.udp_table.specs.LookUp.{matching_output, level_inputs}
use Rattle.udp_table.proofs.look_up.level_output.Given as goal

abbrev pub invariant-loop-row : goal.invariant-loop-row
invariant-loop-row l =
    matching_output (drop l.row-index l.rows) (level_inputs (l.before ++ l.after)) l.state ≡ matching_output l.rows (level_inputs (l.before ++ l.after)) l.state
