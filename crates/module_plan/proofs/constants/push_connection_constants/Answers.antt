use Rattle.std.proofs.Common.{ℕ, ◌+◌, List, ◌++◌, sym, ap, ◌∙◌}
use Rattle.std.proofs.lemmas.List.{take_all}
use Rattle.expression_bits.specs.declared.runs.BitRun.{BitRun}
use Rattle.module_parts.specs.declared.parts.PortRuns.{PortRuns}
use Rattle.netlist_plan.specs.declared.plan.PlanStep.{PlanStep}
use Rattle.netlist_plan.specs.Unnamed.{literal_count}
use Rattle.module_nets.proofs.Sources.{literals_in, literals_in-push}
use Rattle.module_plan.proofs.Walks.{made_more, next_more}
use Rattle.module_plan.proofs.Steps.{constant_steps, constants_in, constants_in-one, constants_in-push, literals_in-one}
use Rattle.module_plan.proofs.constants.push_connection_constants.Goals as goal

pub loop-connection-preserved : goal.loop-connection-preserved
loop-connection-preserved c =
    let nets = c.args.nets.now in
    let runs_of = λ (connection : PortRuns). connection.runs in
    let list = c.args.connections.now in
    let i = c.loop-connection.connection-index in
    let item = c.connection-item.result in
    let next = c.loop-connection.next in
    let made = c.loop-connection.steps in
    record {
      made =
          made_more (constants_in nets runs_of) (literals_in runs_of) (constants_in-push nets runs_of) c.args.number list i item c.loop-connection-test.true c.connection-item.is next c.loop-connection.invariant.next
          c.args.steps.now made c.push_constants.new.steps c.loop-connection.invariant.made
          (c.in_ok-next.ensures.steps
          ∙ ap (λ (runs : List BitRun). made ++ constant_steps nets next runs) c.as_slice.ensures
          ∙ ap (λ (steps : List PlanStep). made ++ steps) (sym (constants_in-one nets runs_of next item)));
      next =
          next_more (literals_in runs_of) (literals_in-push runs_of) c.args.number list i item c.loop-connection-test.true c.connection-item.is next c.in_ok-next.next c.loop-connection.invariant.next
          (c.in_ok-next.ensures.next
          ∙ ap (λ (runs : List BitRun). next + literal_count runs) c.as_slice.ensures
          ∙ ap (λ (count : ℕ). next + count) (sym (literals_in-one nets runs_of item)));
    }

pub returns : goal.returns
returns c =
    let runs_of = λ (connection : PortRuns). connection.runs in
    let all = take_all c.loop-connection.connection-index c.args.connections.now c.loop-connection-test.false in
    record {
      steps = c.loop-connection.invariant.made ∙ ap (λ (list : List (PortRuns)). c.args.steps.now ++ constants_in c.args.nets.now runs_of c.args.number list) all;
      next = c.loop-connection.invariant.next ∙ ap (λ (list : List (PortRuns)). c.args.number + literals_in runs_of list) all;
    }
