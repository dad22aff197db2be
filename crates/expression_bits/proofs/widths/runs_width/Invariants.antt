use Rattle.std.proofs.Common.{◌≡◌, ◌*◌, ◌≤◌, take}
use Rattle.expression_bits.specs.Runs.{runs_width}
use Rattle.expression_bits.proofs.widths.runs_width.Given as goal

abbrev pub invariant-loop-run : goal.invariant-loop-run
invariant-loop-run l = record {
  value : l.width ≡ runs_width l.scope (take l.run-index l.runs);
  room : l.width ≤ 18446744073709551615 * l.run-index;
}
