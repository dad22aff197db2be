use Rattle.std.proofs.Common.{◌≡◌, ℕ, List, ◌||◌, length}
use Rattle.name_table.specs.Names.{is_among}
use Rattle.v_lexer.specs.Words.{words_of}
use Rattle.v_lexer.proofs.words.add_words.Given as goal

abbrev pub invariant-loop-front : goal.invariant-loop-front
invariant-loop-front l = (name : List ℕ) → (is_among name l.table || is_among name (words_of l.rest)) ≡ (is_among name l.fn.table || is_among name (words_of l.text))

abbrev pub decreases-loop-front : goal.decreases-loop-front
decreases-loop-front l = length l.rest
