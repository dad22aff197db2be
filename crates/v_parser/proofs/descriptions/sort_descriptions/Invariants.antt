use Rattle.std.proofs.Common.{◌-◌, length}
use Rattle.v_parser.specs.Input.{many, is_finish}
use Rattle.v_parser.specs.Descriptions.{description}
use Rattle.v_parser.proofs.Sorting.{IsSorted}
use Rattle.v_parser.proofs.descriptions.sort_descriptions.Given as goal

-- what was read so far is sorted, and the rest gives what is read from the beginning
abbrev pub invariant-loop : goal.invariant-loop
invariant-loop l = IsSorted (length l.fn.cursor.tokens - l.counter) l.modules.items l.udps.items l.directives.items l.cursor (many is_finish description l.fn.cursor)
