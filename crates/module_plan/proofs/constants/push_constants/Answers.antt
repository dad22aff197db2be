use Rattle.std.proofs.Common.{ℕ, ◌+◌, List, [], ◌∷◌, ◌++◌, ap, ◌∙◌}
use Rattle.std.proofs.lemmas.List.{take_all}
use Rattle.expression_bits.specs.declared.runs.BitRun.{BitRun}
use Rattle.netlist_plan.specs.Unnamed.{literal_count}
use Rattle.module_nets.proofs.Sources.{literal_count-append}
use Rattle.module_plan.proofs.Walks.{made_more, next_more}
use Rattle.module_plan.proofs.Steps.{constant_steps, constant_steps-append}
use Rattle.module_plan.proofs.constants.push_constants.Goals as goal

pub loop-run-preserved : goal.loop-run-preserved
loop-run-preserved c =
    let nets = c.args.nets.now in
    let runs = c.args.runs.now in
    let i = c.loop-run.run-index in
    let run = c.run-item.result in
    let next = c.loop-run.next in
    record {
      made =
          made_more (constant_steps nets) literal_count (λ n xs x. constant_steps-append nets n xs (x ∷ [])) c.args.number runs i run c.loop-run-test.true c.run-item.is next c.loop-run.invariant.next
          c.args.steps.now c.loop-run.steps c.push_run.new.steps c.loop-run.invariant.made c.in_ok-push_run.ensures;
      next =
          next_more literal_count (λ xs x. literal_count-append xs (x ∷ [])) c.args.number runs i run c.loop-run-test.true c.run-item.is next c.in_ok-next.next c.loop-run.invariant.next
          (c.in_ok-next.ensures ∙ ap (λ (count : ℕ). next + count) c.literals_in.ensures);
    }

pub returns : goal.returns
returns c =
    let all = take_all c.loop-run.run-index c.args.runs.now c.loop-run-test.false in
    record {
      steps = c.loop-run.invariant.made ∙ ap (λ (runs : List BitRun). c.args.steps.now ++ constant_steps c.args.nets.now c.args.number runs) all;
      next = c.loop-run.invariant.next ∙ ap (λ (runs : List BitRun). c.args.number + literal_count runs) all;
    }
