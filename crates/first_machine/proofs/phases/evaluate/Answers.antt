use Rattle.std.proofs.Common.{◌<◌, length, arith, ap, ◌∙◌}
use Rattle.std.proofs.lemmas.List.{get_or_default, get_or_read}
use Rattle.gate_net.specs.declared.netlist.Gate.{Gate}
use Rattle.first_machine.specs.Pass.{no_gate}
use Rattle.first_machine.specs.Shown.{next_value}
use Rattle.first_machine.proofs.Writes.{targets_more, says_differs, says_same, differs_if, same_if}
use Rattle.first_machine.proofs.phases.evaluate.Goals as goal
use Rattle.first_machine.proofs.phases.evaluate.Goals.{then-differ, else-differ}

pub loop-k-preserved : goal.loop-k-preserved
loop-k-preserved c =
    let h : c.loop-k.k < length c.args.gates.now = omega arith in
    let h-targets : c.loop-k.k < length c.loop-k.targets = omega arith in
    let value = c.in_ok-target.ensures ∙ ap (λ (g : Gate). next_value g c.args.seen.now) (get_or_read c.args.gates.now c.loop-k.k _ h c.index-gates-k.is no_gate) in
    let out = get_or_default c.args.outs.now c.loop-k.k _ _ (omega arith) in
    record {
      targets = targets_more c.args.gates.now c.args.seen.now c.loop-k.targets c.loop-k.k c.in_ok-target.target h-targets value c.loop-k.invariant.targets;
      due = elim c.if-differ.branch [
        | then-differ w ↦ rw w.due-is (says_differs c.args.outs.now c.loop-k.targets c.loop-k.k c.in_ok-target.target h-targets (differs_if _ _ _ c.differ.result out c.differ.ensures w.if-differ.true))
        | else-differ w ↦ rw w.due-is (says_same c.loop-k.due c.args.outs.now c.loop-k.targets c.loop-k.k c.in_ok-target.target h-targets (same_if _ _ _ c.differ.result out c.differ.ensures w.if-differ.false) c.loop-k.invariant.due)
      ];
    }
