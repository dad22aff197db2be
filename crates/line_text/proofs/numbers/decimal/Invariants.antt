use Rattle.std.proofs.Common.{◌≡◌, ◌<◌, ◌^◌}
use Rattle.line_text.specs.Numbers.{capped_decimal}
use Rattle.line_text.proofs.NumberLemmas.{number_from}
use Rattle.line_text.proofs.numbers.decimal.Given as goal

abbrev pub invariant-loop-byte : goal.invariant-loop-byte
invariant-loop-byte l = record {
  so_far : number_from l.number l.byte-index l.field ≡ capped_decimal l.field;
  small : l.number < 2 ^ 64;
}
