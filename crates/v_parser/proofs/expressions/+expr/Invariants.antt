use Rattle.std.proofs.Common.{◌≡◌, ◌-◌, ◌+◌, ◌*◌, length}
use Rattle.v_parser.specs.Input.{commas, commas_from}
use Rattle.v_parser.specs.Expressions.{expr_at}
use Rattle.v_parser.proofs.expressions.«+expr».Given as goal

abbrev pub decreases-expr_at : goal.decreases-expr_at
decreases-expr_at l = 2 * l.depth

abbrev pub decreases-exprs_at : goal.decreases-exprs_at
decreases-exprs_at l = 2 * l.depth + 1

-- what is read from here on, behind what was found, is what is read from the beginning
abbrev pub invariant-exprs_at-loop : goal.invariant-exprs_at-loop
invariant-exprs_at-loop l = commas_from (expr_at l.depth) (length l.initial.cursor.tokens - l.counter) l.parts.items l.cursor ≡ commas (expr_at l.depth) l.initial.parts.items l.initial.cursor
