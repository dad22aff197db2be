use Rattle.std.proofs.Common.{◌≡◌, arith, sym, ◌∙◌, subst}
use Rattle.first_machine.specs.Machine.{Machine}
use Rattle.first_machine.specs.Pass.{is_due, pass}
use Rattle.first_machine.specs.Shown.{AreShown}
use Rattle.first_machine.specs.StateValues.{values_of}
use Rattle.first_machine.proofs.StepLemmas.{further_settled, further_none, further_more, first_pass}
use Rattle.first_machine.proofs.state.State.step.Goals as goal

pub loop-due-init : goal.loop-due-init
loop-due-init c = record {
  sizes = c.in_ok-due.ensures.sizes;
  forced = c.pass.ensures.forced;
  so_far = λ m shown. (pass c.args.netlist.now m, (c.in_ok-due.ensures.shown m shown, c.in_ok-due.ensures.due m shown, first_pass c.args.limit c.args.netlist.now m));
}

pub loop-due-preserved : goal.loop-due-preserved
loop-due-preserved c = record {
  sizes = c.in_ok-due-2.ensures.sizes;
  forced = c.pass-in-loop-due.ensures.forced ∙ c.loop-due.invariant.forced;
  so_far = λ m shown.
      let n = c.loop-due.invariant.so_far m shown in
      (pass c.args.netlist.now n.0, (c.in_ok-due-2.ensures.shown n.0 n.1.0, c.in_ok-due-2.ensures.due n.0 n.1.0, sym (further_more c.loop-due.left c.args.netlist.now n.0 (omega arith) (n.1.1 ∙ c.loop-due-test.true)) ∙ n.1.2));
}

pub returns-else-left-gt0-clause-shown : goal.returns-else-left-gt0-clause-shown
returns-else-left-gt0-clause-shown c m shown =
    let n = c.loop-due.invariant.so_far m shown in
    subst (λ (x : Machine). AreShown c.args.netlist.now (values_of c.loop-due.self) x) (sym (further_none c.loop-due.left c.args.netlist.now n.0 (omega arith)) ∙ n.1.2) n.1.0

pub returns-else-left-gt0-clause-due : goal.returns-else-left-gt0-clause-due
returns-else-left-gt0-clause-due c m shown =
    let n = c.loop-due.invariant.so_far m shown in
    subst (λ (x : Machine). is_due x ≡ c.loop-due.due) (sym (further_none c.loop-due.left c.args.netlist.now n.0 (omega arith)) ∙ n.1.2) n.1.1

pub returns-after-loop-due-clause-shown : goal.returns-after-loop-due-clause-shown
returns-after-loop-due-clause-shown c m shown =
    let n = c.loop-due.invariant.so_far m shown in
    subst (λ (x : Machine). AreShown c.args.netlist.now (values_of c.loop-due.self) x) (sym (further_settled c.loop-due.left c.args.netlist.now n.0 (n.1.1 ∙ c.loop-due-test.false)) ∙ n.1.2) n.1.0

pub returns-after-loop-due-clause-due : goal.returns-after-loop-due-clause-due
returns-after-loop-due-clause-due c m shown =
    let n = c.loop-due.invariant.so_far m shown in
    subst (λ (x : Machine). is_due x ≡ c.loop-due.due) (sym (further_settled c.loop-due.left c.args.netlist.now n.0 (n.1.1 ∙ c.loop-due-test.false)) ∙ n.1.2) n.1.1
