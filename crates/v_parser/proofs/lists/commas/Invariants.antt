use Rattle.std.proofs.Common.{◌≡◌, ◌-◌, length}
use Rattle.v_parser.specs.Input.{commas, commas_from}
use Rattle.v_parser.proofs.lists.commas.Given as goal

-- what is read from here on, behind what was found, is what is read from the beginning
abbrev pub invariant-loop : goal.invariant-loop
invariant-loop g l = commas_from g.P.Part.reader (length l.initial.cursor.tokens - l.counter) l.found.items l.cursor ≡ commas g.P.Part.reader l.initial.found.items l.initial.cursor
