use Rattle.std.proofs.Common.{◌≡◌, ◌<◌, [], ◌∷◌, ◌∙◌, length, true, false, sym, arith, rules}
use Rattle.std.specs.Str.Lines.{lines}
use Rattle.line_text.specs.Lines.{is_passed_over}
use Rattle.line_text.proofs.LineLemmas.{behind_none, behind_passed, behind_kept}
use Rattle.line_text.proofs.lines.next_line.Goals as goal

pub returns-then-not-is_passed_over-clause-parts : goal.returns-then-not-is_passed_over-clause-parts
returns-then-not-is_passed_over-clause-parts c =
    let cut : lines c.loop-bytes.rest.now ≡ c.in-Some.bytes.now ∷ lines c.in-Some.behind.now = search rules in
    let kept : is_passed_over c.in-Some.bytes.now ≡ false = cc in
    sym c.loop-bytes.invariant.so_far ∙ behind_kept c.loop-bytes.number c.loop-bytes.rest.now c.in-Some.bytes.now c.in-Some.behind.now cut kept

pub loop-bytes-preserved : goal.loop-bytes-preserved
loop-bytes-preserved c =
    let cut : lines c.loop-bytes.rest.now ≡ c.in-Some.bytes.now ∷ lines c.in-Some.behind.now = search rules in
    let passed : is_passed_over c.in-Some.bytes.now ≡ true = cc in
    let less : length c.in-Some.behind.now < length c.loop-bytes.rest.now = search rules in
    record {
      so_far = sym (behind_passed c.loop-bytes.number c.loop-bytes.rest.now c.in-Some.bytes.now c.in-Some.behind.now cut passed) ∙ c.loop-bytes.invariant.so_far;
      room = omega arith;
      shorter = omega arith;
    }

pub returns-clause-parts : goal.returns-clause-parts
returns-clause-parts c =
    let none : lines c.loop-bytes.rest.now ≡ [] = search rules in
    sym c.loop-bytes.invariant.so_far ∙ behind_none c.loop-bytes.number c.loop-bytes.rest.now none

pub returns-clause-shorter : goal.returns-clause-shorter
returns-clause-shorter c =
    let none : lines c.loop-bytes.rest.now ≡ [] = search rules in
    sym c.loop-bytes.invariant.so_far ∙ behind_none c.loop-bytes.number c.loop-bytes.rest.now none
