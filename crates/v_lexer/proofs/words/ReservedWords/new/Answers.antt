use Rattle.std.proofs.Common.{ℕ, List}
use Rattle.v_lexer.specs.Words.{grammar_words, left_out_words, reserved_words, is_reserved}
use Rattle.v_lexer.proofs.Added.{both_added}
use Rattle.v_lexer.proofs.words.ReservedWords.new.Goals as goal

pub invariant_of-result : goal.invariant_of-result
unfolding is_reserved reserved_words grammar_words left_out_words
invariant_of-result c = record {
  all = λ (name : List ℕ).
      both_added name c.new-table.result c.add_words.new.table c.add_words-2.new.table grammar_words left_out_words c.new-table.ensures (c.in_ok-add_words.ensures name) (c.in_ok-add_words-2.ensures name);
}
