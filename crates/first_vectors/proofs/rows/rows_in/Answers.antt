use Rattle.std.proofs.Common.{◌≡◌, ◌∷◌, ◌<◌, ◌≤◌, ◌^◌, ◌∙◌, ap, Some, length, eqb, true, false, arith, rules}
use Rattle.std.proofs.lemmas.Bool.{eqb-false, eqb-true}
use Rattle.std.proofs.lemmas.Result.{err_from_is_err_and}
use Rattle.first_vectors.specs.Fields.{lines_of, table_of}
use Rattle.first_vectors.specs.Reading.{rows_of}
use Rattle.first_vectors.proofs.Loops.{rows_step, rows_stop, rows_end, rows_early, rows_short}
use Rattle.first_vectors.proofs.rows.rows_in.Goals as goal

pub returns-in_err-line : goal.returns-in_err-line
returns-in_err-line c =
    let p = err_from_is_err_and c.from_residual.result c.from_residual.ensures.1 in
    let cut : lines_of c.loop-line.rest.now ≡ c.in-Some.line.now ∷ lines_of c.in-Some.after.now = search rules in
    rw (p.1, p.2) (rows_stop c.in_err-line.field-0.0 c.args.width c.loop-line.least c.loop-line.lines.items c.loop-line.rest.now c.in-Some.line.now c.in-Some.after.now (rows_of c.args.width 0 (table_of c.args.text.now)) cut c.in_err-line.ensures.row c.loop-line.invariant.so_far)

pub returns-in-End : goal.returns-in-End
returns-in-End c =
    let cut : lines_of c.loop-line.rest.now ≡ c.in-Some.line.now ∷ lines_of c.in-Some.after.now = search rules in
    let none : eqb (length c.in-Some.after.now) 0 ≡ true = cc in
    rows_end c.args.width c.loop-line.least c.in-End.time c.loop-line.lines.items c.loop-line.rest.now c.in-Some.line.now c.in-Some.after.now (rows_of c.args.width 0 (table_of c.args.text.now)) cut (c.in_ok-line.ensures.row ∙ ap Some c.in-End.is) (eqb-true (length c.in-Some.after.now) 0 none) c.loop-line.invariant.so_far

pub returns-in-End-2 : goal.returns-in-End-2
returns-in-End-2 c =
    let cut : lines_of c.loop-line.rest.now ≡ c.in-Some.line.now ∷ lines_of c.in-Some.after.now = search rules in
    let some : eqb (length c.in-Some.after.now) 0 ≡ false = cc in
    let more : 0 < length c.in-Some.after.now = omega (arith, eqb-false (length c.in-Some.after.now) 0 some) in
    rows_early c.args.width c.loop-line.least c.in-End-2.field-0 c.loop-line.lines.items c.loop-line.rest.now c.in-Some.line.now c.in-Some.after.now (rows_of c.args.width 0 (table_of c.args.text.now)) cut (c.in_ok-line.ensures.row ∙ ap Some c.in-End-2.is) more c.loop-line.invariant.so_far

pub loop-line-preserved : goal.loop-line-preserved
loop-line-preserved c =
    let cut : lines_of c.loop-line.rest.now ≡ c.in-Some.line.now ∷ lines_of c.in-Some.after.now = search rules in
    record {
      small = (let at : c.in-Values.line.time ≤ 2 ^ 40 = rw c.in-Values.is at c.in_ok-line.ensures.small in omega arith);
      so_far = rw c.in_ok-push-in-Values.ensures.items (rows_step c.args.width c.loop-line.least c.loop-line.lines.items c.in-Values.line c.loop-line.rest.now c.in-Some.line.now c.in-Some.after.now (rows_of c.args.width 0 (table_of c.args.text.now)) cut (c.in_ok-line.ensures.row ∙ ap Some c.in-Values.is) c.loop-line.invariant.so_far);
    }

pub returns : goal.returns
returns c = rows_short c.args.width c.loop-line.least c.loop-line.lines.items c.loop-line.rest.now (rows_of c.args.width 0 (table_of c.args.text.now)) (search rules) c.loop-line.invariant.so_far
