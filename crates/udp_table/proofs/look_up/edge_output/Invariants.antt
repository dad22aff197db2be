use Rattle.std.proofs.Common.{◌≡◌, drop}
use Rattle.udp_table.specs.LookUp.{matching_output, edge_inputs}
use Rattle.udp_table.proofs.look_up.edge_output.Given as goal

abbrev pub invariant-loop-row : goal.invariant-loop-row
invariant-loop-row l =
    matching_output (drop l.row-index l.rows) (edge_inputs l.before l.was l.now l.after) l.state ≡ matching_output l.rows (edge_inputs l.before l.was l.now l.after) l.state
