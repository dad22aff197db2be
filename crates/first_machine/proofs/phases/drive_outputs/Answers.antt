use Rattle.std.proofs.Common.{◌≡◌, ◌<◌, length, get_or, arith, sym, ◌∙◌}
use Rattle.std.proofs.lemmas.List.{length-map, get_or_default}
use Rattle.gate_net.specs.Sound.{driven_nets}
use Rattle.gate_net.specs.declared.netlist.Gate.{Gate}
use Rattle.first_machine.proofs.Writes.{write_more, others_more, gate_output, driven_at, gate_in_range, copied_more}
use Rattle.first_machine.proofs.phases.drive_outputs.Goals as goal

pub loop-k-preserved : goal.loop-k-preserved
loop-k-preserved c =
    let h : c.loop-k.k < length c.args.gates.now = omega arith in
    let len : length (driven_nets c.args.gates.now) ≡ length c.args.gates.now = length-map c.args.gates.now (λ (g : Gate). g.output) in
    let fits : get_or (driven_nets c.args.gates.now) c.loop-k.k 0 < length c.loop-k.seen = omega (arith, gate_in_range _ c.args.gates.now c.loop-k.k c.requires.in_range h) in
    let output = gate_output c.args.gates.now c.loop-k.k c.index-gates-k.result h c.index-gates-k.is in
    record {
      outs = copied_more c.args.targets.now c.loop-k.outs c.loop-k.k (omega arith) (omega arith) c.loop-k.invariant.outs;
      written = rw output (write_more (driven_nets c.args.gates.now) c.args.targets.now c.loop-k.seen c.loop-k.k _ c.requires.apart (omega arith) fits (get_or_default c.args.targets.now c.loop-k.k _ _ (omega arith)) c.loop-k.invariant.written);
      others = rw output (others_more (driven_nets c.args.gates.now) c.args.seen.now c.loop-k.seen c.loop-k.k _ c.loop-k.invariant.others);
    }

pub returns-clause-others : goal.returns-clause-others
returns-clause-others c n undriven =
    c.loop-k.invariant.others.each n (λ j lt e. undriven j (omega arith) (sym (driven_at c.args.gates.now j (omega arith)) ∙ e))
