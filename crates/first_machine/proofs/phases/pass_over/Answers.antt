use Rattle.std.proofs.Common.{get_or, arith, refl, sym, ◌∙◌}
use Rattle.first_machine.proofs.Writes.{driven_at}
use Rattle.first_machine.proofs.phases.pass_over.Goals as goal

pub returns-clause-passed : goal.returns-clause-passed
returns-clause-passed c =
    let netlist = c.args.netlist.now in
    let driven = rw c.as_slice-gates.ensures at c.drive_outputs.ensures.driven in
    let kept = rw c.as_slice-gates.ensures at c.drive_outputs.ensures.others in
    let entered = rw c.as_slice.ensures at c.drive_inputs.ensures.entered in
    let others = rw c.as_slice.ensures at c.drive_inputs.ensures.others in
    let targets = rw c.as_slice-gates.ensures at c.in_ok-due.ensures.targets in
    record {
      sizes = record { outs = omega arith; targets = omega arith; seen = omega arith; forced = c.requires.sizes.forced };
      outs = c.drive_outputs.ensures.outs;
      forced = refl;
      driven = driven;
      entered = λ k h. kept (get_or netlist.inputs k 0) (λ j lt e. c.requires.sound.inputs_free k j h lt (sym (driven_at netlist.gates j lt ∙ e))) ∙ entered k h;
      idle = λ n h no_driver no_input. kept n no_driver ∙ others n no_input;
      targets = targets;
    }
