use Rattle.std.proofs.Common.{◌≡◌, ◌-◌, ◌+◌, ◌*◌, length}
use Rattle.v_parser.specs.Input.{commas, commas_from}
use Rattle.v_parser.specs.Expressions.{target_at}
use Rattle.v_parser.proofs.expressions.«+target».Given as goal

abbrev pub decreases-target_at : goal.decreases-target_at
decreases-target_at l = 2 * l.depth

abbrev pub decreases-targets_at : goal.decreases-targets_at
decreases-targets_at l = 2 * l.depth + 1

-- what is read from here on, behind what was found, is what is read from the beginning
abbrev pub invariant-targets_at-loop : goal.invariant-targets_at-loop
invariant-targets_at-loop l = commas_from (target_at l.depth) (length l.initial.cursor.tokens - l.counter) l.parts.items l.cursor ≡ commas (target_at l.depth) l.initial.parts.items l.initial.cursor
