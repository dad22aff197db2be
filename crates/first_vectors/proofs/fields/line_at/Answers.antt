use Rattle.std.proofs.Common.{◌≡◌, arith, sym, length, eqb, false}
use Rattle.std.proofs.lemmas.Bool.{eqb-false}
use Rattle.first_vectors.proofs.Text.{line_cut, line_whole}
use Rattle.first_vectors.proofs.fields.line_at.Goals as goal

pub returns-in-Some-clause-parts : goal.returns-in-Some-clause-parts
returns-in-Some-clause-parts c = line_cut c.args.text.now c.in-Some.i (sym c.in-Some.ensures)

pub returns-in-None-clause-parts : goal.returns-in-None-clause-parts
returns-in-None-clause-parts c =
    let filled : eqb (length c.args.text.now) 0 ≡ false = cc in
    line_whole c.args.text.now (omega (arith, eqb-false (length c.args.text.now) 0 filled)) (sym c.in-None.ensures)
