use Rattle.std.proofs.Common.{ℕ, ◌+◌, List, ◌++◌, sym, ap, ◌∙◌}
use Rattle.std.proofs.lemmas.List.{take_all}
use Rattle.expression_bits.specs.declared.runs.BitRun.{BitRun}
use Rattle.netlist_plan.specs.declared.plan.PlanStep.{PlanStep}
use Rattle.netlist_plan.specs.Unnamed.{literal_count}
use Rattle.module_nets.proofs.Sources.{literals_in, literals_in-push}
use Rattle.module_plan.proofs.Walks.{made_more, next_more}
use Rattle.module_plan.proofs.Steps.{constant_steps, constants_in, constants_in-one, constants_in-push, literals_in-one}
use Rattle.module_plan.proofs.constants.push_terminal_constants.Goals as goal

pub loop-runs-preserved : goal.loop-runs-preserved
loop-runs-preserved c =
    let nets = c.args.nets.now in
    let runs_of = λ (list : List BitRun). list in
    let list = c.args.terminals.now in
    let i = c.loop-runs.runs-index in
    let item = c.runs-item.result in
    let next = c.loop-runs.next in
    let made = c.loop-runs.steps in
    record {
      made =
          made_more (constants_in nets runs_of) (literals_in runs_of) (constants_in-push nets runs_of) c.args.number list i item c.loop-runs-test.true c.runs-item.is next c.loop-runs.invariant.next
          c.args.steps.now made c.push_constants.new.steps c.loop-runs.invariant.made
          (c.in_ok-next.ensures.steps
          ∙ ap (λ (runs : List BitRun). made ++ constant_steps nets next runs) c.as_slice.ensures
          ∙ ap (λ (steps : List PlanStep). made ++ steps) (sym (constants_in-one nets runs_of next item)));
      next =
          next_more (literals_in runs_of) (literals_in-push runs_of) c.args.number list i item c.loop-runs-test.true c.runs-item.is next c.in_ok-next.next c.loop-runs.invariant.next
          (c.in_ok-next.ensures.next
          ∙ ap (λ (runs : List BitRun). next + literal_count runs) c.as_slice.ensures
          ∙ ap (λ (count : ℕ). next + count) (sym (literals_in-one nets runs_of item)));
    }

pub returns : goal.returns
returns c =
    let runs_of = λ (list : List BitRun). list in
    let all = take_all c.loop-runs.runs-index c.args.terminals.now c.loop-runs-test.false in
    record {
      steps = c.loop-runs.invariant.made ∙ ap (λ (list : List (List BitRun)). c.args.steps.now ++ constants_in c.args.nets.now runs_of c.args.number list) all;
      next = c.loop-runs.invariant.next ∙ ap (λ (list : List (List BitRun)). c.args.number + literals_in runs_of list) all;
    }
