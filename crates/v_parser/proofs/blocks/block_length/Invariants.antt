use Rattle.std.proofs.Common.{◌≡◌, ◌-◌, length}
use Rattle.v_parser.specs.Blocks.{block_length, block_length_from}
use Rattle.v_parser.proofs.blocks.block_length.Given as goal

-- what is passed over from here on, added to what was, is what is passed over from the beginning
abbrev pub invariant-loop : goal.invariant-loop
invariant-loop l = record { counted : l.count ≡ l.counter; all : block_length_from (length l.initial.cursor.tokens - l.counter) l.count l.cursor ≡ block_length l.initial.cursor }
