use Rattle.std.proofs.Common.{◌≡◌, arith, sym, subst}
use Rattle.std.proofs.lemmas.List.{with_items_is}
use Rattle.std.specs.Vec.{with_items}
use Rattle.first_machine.specs.Pass.{pass}
use Rattle.first_machine.specs.Shown.{Values, values_from, ArePassed, AreShown}
use Rattle.first_machine.specs.StateValues.{values_of}
use Rattle.first_machine.proofs.PassLemmas.{pass_shown, due_shown, same_values}
use Rattle.first_machine.proofs.state.State.pass.Goals as goal
use Rattle.first_machine.proofs.state.State.pass.Goals.{In_ok-due}

-- the values after the pass
after : In_ok-due → Values
after c = values_from c.pass_over.new.outs c.pass_over.new.targets c.pass_over.new.seen c.args.self.now.forced.items

passed : (c : In_ok-due) → ArePassed c.args.netlist.now (values_of c.args.self.now) (after c)
unfolding after
passed c =
    rw (c.as_mut_slice.ensures.value, c.as_mut_slice-2.ensures.value, c.as_mut_slice-3.ensures.value, c.as_slice.ensures.value) at c.in_ok-due.ensures.passed

after_is : (c : In_ok-due) → after c ≡ values_from (with_items c.args.self.now.outs c.pass_over.new.outs).items (with_items c.args.self.now.targets c.pass_over.new.targets).items (with_items c.args.self.now.seen c.pass_over.new.seen).items c.args.self.now.forced.items
unfolding after
after_is c =
    let outs = sym (with_items_is c.args.self.now.outs c.pass_over.new.outs (omega arith)) in
    let targets = sym (with_items_is c.args.self.now.targets c.pass_over.new.targets (omega arith)) in
    let seen = sym (with_items_is c.args.self.now.seen c.pass_over.new.seen (omega arith)) in
    same_values _ _ _ _ _ _ _ outs targets seen

pub returns-clause-shown : goal.returns-clause-shown
returns-clause-shown c m shown =
    subst (λ (v : Values). AreShown c.args.netlist.now v (pass c.args.netlist.now m)) (after_is c)
    (pass_shown c.args.netlist.now c.requires.sound (values_of c.args.self.now) (after c) m shown (passed c))

pub returns-clause-due : goal.returns-clause-due
unfolding after
returns-clause-due c m shown =
    due_shown c.args.netlist.now (after c) (pass c.args.netlist.now m) c.in_ok-due.due
    (pass_shown c.args.netlist.now c.requires.sound (values_of c.args.self.now) (after c) m shown (passed c)) c.in_ok-due.ensures.due
