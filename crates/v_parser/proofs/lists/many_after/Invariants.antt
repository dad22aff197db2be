use Rattle.std.proofs.Common.{◌≡◌, ◌-◌, length}
use Rattle.v_parser.specs.Input.{many_after, many_from}
use Rattle.v_parser.proofs.lists.many_after.Given as goal

-- what is read from here on, behind what was found, is what is read from the beginning
abbrev pub invariant-loop : goal.invariant-loop
invariant-loop g l = many_from g.P.RepeatedPart.stops g.P.Part.reader (length l.initial.cursor.tokens - l.counter) l.found.items l.cursor ≡ many_after g.P.RepeatedPart.stops g.P.Part.reader l.initial.found.items l.initial.cursor
