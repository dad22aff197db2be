use Rattle.std.proofs.Common.{◌≡◌, ℕ, suc, ◌-◌, Some, ap, sym, ◌∙◌, arith}
use Rattle.vector_text.specs.declared.stimulus.StimulusWhat.TheVariants.{Strobe}
use Rattle.vector_text.specs.declared.stimulus.StimulusLine.{StimulusLine}
use Rattle.stimulus_run.proofs.Strobes.{reads_at, strobe-none, strobe-last, strobe-other}
use Rattle.stimulus_run.proofs.lines.strobe_line.Goals as goal

-- stands for a line where there is none
no_line : StimulusLine
no_line = record { time = 0; what = Strobe }

pub returns-then-done-eq0 : goal.returns-then-done-eq0
returns-then-done-eq0 c = sym (strobe-none c.args.lines.now c.args.done c.args.tick c.requires.order c.requires.done c.if-done-eq0.true no_line)

pub returns-then-reads_at : goal.returns-then-reads_at
returns-then-reads_at c =
    let is : c.args.done ≡ suc (c.args.done - 1) = (let some = c.if-done-eq0.false in omega arith) in
    let line = c.index-lines-done.result in
    ap (λ (l : StimulusLine). Some l.what) c.index-lines-done.is
    ∙ sym (strobe-last c.args.lines.now c.args.done c.args.tick c.requires.order c.requires.done (c.args.done - 1) is line
    (ap (reads_at c.args.tick) (sym c.index-lines-done.is) ∙ sym c.reads_at.ensures ∙ c.if-reads_at.true))

pub returns-else-reads_at : goal.returns-else-reads_at
returns-else-reads_at c =
    let is : c.args.done ≡ suc (c.args.done - 1) = (let some = c.if-done-eq0.false in omega arith) in
    let line = c.index-lines-done.result in
    sym (strobe-other c.args.lines.now c.args.done c.args.tick c.requires.order c.requires.done (c.args.done - 1) is line
    (ap (reads_at c.args.tick) (sym c.index-lines-done.is) ∙ sym c.reads_at.ensures ∙ c.if-reads_at.false))
