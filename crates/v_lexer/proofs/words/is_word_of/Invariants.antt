use Rattle.std.proofs.Common.{◌≡◌, length}
use Rattle.name_table.specs.Names.{is_among}
use Rattle.v_lexer.specs.Words.{words_of}
use Rattle.v_lexer.proofs.words.is_word_of.Given as goal

abbrev pub invariant-loop-front : goal.invariant-loop-front
invariant-loop-front l = is_among l.word (words_of l.rest) ≡ is_among l.word (words_of l.text)

abbrev pub decreases-loop-front : goal.decreases-loop-front
decreases-loop-front l = length l.rest
