use Rattle.std.proofs.Common.{◌≡◌, ℕ, ◌+◌, ◌<◌, ◌≤◌, List, length, take, get_or, Option, ap, sym, ◌∙◌, subst, arith, inl, inr}
use Rattle.std.specs.Option.{option_or}
use Rattle.std.proofs.lemmas.Bool.{cases_eq, cases_lt}
use Rattle.std.proofs.lemmas.List.{get_or_default}
use Rattle.level_range.specs.declared.range.Logic.{Logic}
use Rattle.plain_sim.specs.Lists.{AreForcedBy}
use Rattle.plain_sim.proofs.Inputs.{missing-undriven}
use Rattle.vector_text.specs.declared.stimulus.StimulusLine.{StimulusLine}
use Rattle.stimulus_run.specs.Inputs.{listed_signals, last_values, values_of}
use Rattle.stimulus_run.proofs.Filtering.{last_values-more}
use Rattle.stimulus_run.proofs.lines.take_lines.Goals as goal

pub take_line-requires-clause-others : goal.take_line-requires-clause-others
take_line-requires-clause-others c net lt none =
    let s = c.args.stimulus.now in
    let nets = c.as_slice-nets.ensures in
    let long = ap length nets in
    c.lines.invariant.forced net lt
    ∙ missing-undriven s.inputs (listed_signals (length s.inputs) (last_values (take c.lines.at s.lines))) net
    (λ k within e. none k (omega arith) (ap (λ (l : List ℕ). get_or l k 0) nets ∙ e))

pub lines-preserved : goal.lines-preserved
lines-preserved c =
    let s = c.args.stimulus.now in
    let k = c.lines.at in
    let lines = c.as_slice-lines.ensures in
    let within : k < length s.lines = (let e = ap length lines in let t = c.lines-test.true in omega arith) in
    let item = c.index-lines-at-in-lines.result in
    let line = get_or c.as_slice-lines.result.now k item in
    let read : get_or s.lines k line ≡ line =
    get_or_default s.lines k line item within ∙ ap (λ (l : List StimulusLine). get_or l k item) (sym lines) in
    let before = last_values (take k s.lines) in
    let nets = c.as_slice-nets.ensures in
    let base = subst (λ (n : List ℕ). AreForcedBy n (listed_signals (length n) before) c.lines.forced) (sym nets) c.lines.invariant.forced in
    let step = subst (λ (n : List ℕ). AreForcedBy n (listed_signals (length n) (option_or (values_of line.what) before)) c.take_line.new.forced) nets
    (c.take_line.ensures before base) in
    record {
      from = let f = c.lines.invariant.from in omega arith;
      most = omega arith;
      early = λ j d lt. elim (cases_eq j k) [
        | inl e ↦
            let first = c.index-lines-at.result in
            let here : (get_or s.lines k d).time ≡ (get_or c.as_slice-lines.result.now k first).time =
            ap (λ (x : StimulusLine). x.time) (get_or_default s.lines k d first within)
            ∙ ap (λ (l : List StimulusLine). (get_or l k first).time) (sym lines) in
            let there : (get_or s.lines j d).time ≡ (get_or s.lines k d).time = ap (λ (i : ℕ). (get_or s.lines i d).time) e in
            let t = c.if-lines-at.true in
            omega arith
        | inr ne ↦ c.lines.invariant.early j d (let g = ne in omega arith)
      ];
      forced =
          subst (λ (o : Option (List Logic)). AreForcedBy s.inputs (listed_signals (length s.inputs) o) c.take_line.new.forced)
          (sym (last_values-more s.lines k line within read)) step;
    }

pub returns-else-lines-at-clause-lines : goal.returns-else-lines-at-clause-lines
returns-else-lines-at-clause-lines c =
    let s = c.args.stimulus.now in
    let at = c.lines.at in
    let lines = c.as_slice-lines.ensures in
    let within : at < length s.lines = (let e = ap length lines in let t = c.lines-test.true in omega arith) in
    record {
      most = c.lines.invariant.most;
      early = c.lines.invariant.early;
      late = λ k d ge inside.
          let first = c.index-lines-at.result in
          let here : (get_or s.lines at d).time ≡ (get_or c.as_slice-lines.result.now at first).time =
          ap (λ (x : StimulusLine). x.time) (get_or_default s.lines at d first within)
          ∙ ap (λ (l : List StimulusLine). (get_or l at first).time) (sym lines) in
          let t = c.if-lines-at.false in
          elim (cases_lt at k) [
            | inl less ↦ let le = c.requires.order at k d less inside in omega arith
            | inr more ↦
                let e : k ≡ at = omega arith in
                let same : (get_or s.lines k d).time ≡ (get_or s.lines at d).time = ap (λ (i : ℕ). (get_or s.lines i d).time) e in
                omega arith
          ];
    }
