use Rattle.std.proofs.Common.{◌≡◌, ◌∷◌, ◌∙◌, ◌+◌, arith, sym, ap, length, eqb, false, List, ℕ}
use Rattle.std.specs.Str.Lines.{lines}
use Rattle.std.proofs.lemmas.Bool.{eqb-false}
use Rattle.line_text.proofs.FieldLemmas.{from}
use Rattle.line_text.proofs.LineLemmas.{line_cut, line_whole}
use Rattle.line_text.proofs.lines.line_at.Goals as goal

pub returns-in-Some-clause-parts : goal.returns-in-Some-clause-parts
returns-in-Some-clause-parts c =
    line_cut c.args.text.now c.in-Some.end (sym c.in-Some.ensures)
    ∙ ap (λ (x : List ℕ). x ∷ lines (from c.args.text.now (c.in-Some.end + 1))) (sym c.without_return.ensures)

pub returns-in-None-clause-parts : goal.returns-in-None-clause-parts
returns-in-None-clause-parts c =
    let filled : eqb (length c.args.text.now) 0 ≡ false = cc in
    line_whole c.args.text.now (omega (arith, eqb-false (length c.args.text.now) 0 filled)) (sym c.in-None.ensures)
