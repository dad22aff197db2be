use Rattle.std.proofs.Common.{ℕ, List, ◌||◌}
use Rattle.name_table.specs.Names.{is_among}
use Rattle.v_lexer.specs.Words.{words_of}
use Rattle.v_lexer.proofs.Added.{words_go_on}
use Rattle.v_lexer.proofs.words.add_words.Goals as goal

pub loop-front-preserved : goal.loop-front-preserved
loop-front-preserved c = λ (name : List ℕ).
    words_go_on name c.in-Some.front.now c.loop-front.table c.add.new.self (words_of c.loop-front.rest.now) (words_of c.in-Some.back.now) c.in_ok-add.field-0 (is_among name c.args.table.now || is_among name (words_of c.args.text.now))
    c.in-Some.ensures.first c.in_ok-add.ensures.new c.in_ok-add.ensures.names (c.loop-front.invariant name)
