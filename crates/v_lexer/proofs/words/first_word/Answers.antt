use Rattle.std.proofs.Common.{rules, ◌<◌, ◌+◌, length, refl, ap, ◌∙◌, arith, length-drop}
use Rattle.v_lexer.proofs.Added.{first_word}
use Rattle.v_lexer.proofs.words.first_word.Goals as goal

pub returns-clause-first : goal.returns-clause-first
returns-clause-first c =
    let some : 0 < length c.args.text.now = search rules in
    first_word c.args.text.now c.word_run-len.result some c.word_run-len.ensures.len ∙ rw (c.before-word.ensures, c.after-rest.ensures) refl

pub returns-clause-shorter : goal.returns-clause-shorter
returns-clause-shorter c =
    let some : 0 < length c.args.text.now = search rules in
    omega (arith, some, ap length c.after-rest.ensures, length-drop (c.word_run-len.result + 1) c.args.text.now)
