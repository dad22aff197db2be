use Rattle.std.proofs.Common.{◌≡◌, ℕ, ◌+◌, ◌≤◌, List, length, ap, sym, ◌∙◌, subst, arith}
use Rattle.std.specs.Prelude.{map, replicate}
use Rattle.std.specs.Vec.{with_items}
use Rattle.std.proofs.lemmas.List.{with_items_is, length-replicate, get_or-replicate}
use Rattle.level_range.specs.declared.range.Logic.{Logic}
use Rattle.level_range.specs.declared.range.Logic.TheVariants.{X}
use Rattle.level_range.specs.Signal.{Signal, undriven}
use Rattle.flat_net.specs.Patches.{Netlist}
use Rattle.flat_net.specs.Soundness.{AreDistinctNets}
use Rattle.machine.specs.Machine.{Machine}
use Rattle.machine.specs.System.{machines}
use Rattle.machine.specs.Run.{Run, run_from, run}
use Rattle.plain_sim.specs.Lists.{AreForcedBy}
use Rattle.stimulus_run.specs.Inputs.{driven_signal, schedule_of}
use Rattle.stimulus_run.specs.Lines.{AreForcedByLines}
use Rattle.stimulus_run.proofs.Filtering.{all-unknown}
use Rattle.stimulus_run.proofs.Lawful.{lawful-nets}
use Rattle.stimulus_run.proofs.run.StimulusRun.new.Goals as goal

pub drive_inputs-requires-clause-nets : goal.drive_inputs-requires-clause-nets
drive_inputs-requires-clause-nets c =
    let parts = c.args.flat.now.parts in
    let s = c.args.stimulus.now in
    let size : length c.as_mut_slice.result.now ≡ length parts.nets =
    ap length c.as_mut_slice.ensures.value ∙ ap length c.in_ok-forced.ensures
    ∙ length-replicate c.net_count.result undriven ∙ c.net_count.ensures.count in
    subst (AreDistinctNets (length c.as_mut_slice.result.now)) (sym c.as_slice-nets.ensures)
    (subst (λ n. AreDistinctNets n s.inputs) (sym size)
    (lawful-nets parts c.net_count.ensures.sound.sound s c.requires.lawful))

pub invariant_of-result : goal.invariant_of-result
invariant_of-result c =
    let parts = c.args.flat.now.parts in
    let s = c.args.stimulus.now in
    let limit = c.in_ok-run.ensures.limit in
    let some = c.requires.limit in
    let forced = c.drive_inputs.new.forced in
    let n = length c.as_slice-nets.result.now in
    let kept = with_items_is c.in_ok-forced.forced forced
    (let a = c.drive_inputs.auto.forced in let b = c.as_mut_slice.ensures.len in omega arith) in
    let size = c.drive_inputs.auto.forced ∙ ap length c.as_mut_slice.ensures.value ∙ ap length c.in_ok-forced.ensures
    ∙ length-replicate c.net_count.result undriven ∙ c.net_count.ensures.count in
    let driven : map driven_signal c.as_slice.result.now ≡ replicate (length s.inputs) (driven_signal X) =
    ap (map driven_signal) (c.as_slice.ensures.value ∙ c.in_ok-first.ensures)
    ∙ all-unknown n ∙ ap (λ (l : List ℕ). replicate (length l) (driven_signal X)) c.as_slice-nets.ensures in
    record {
      netlist = c.in_ok-run.ensures.netlist;
      lawful = c.requires.lawful;
      some = omega arith;
      few = omega arith;
      inputs = ap length c.in_ok-inputs.ensures ∙ length-replicate (length c.as_slice-2.result.now) undriven
          ∙ ap length (c.as_slice-2.ensures ∙ c.inputs.ensures);
      nets = ap length kept ∙ size;
      forced =
          subst (AreForcedByLines s 0) (sym kept)
          (subst (λ (l : List Signal). AreForcedBy s.inputs l forced) driven
          (subst (λ (l : List ℕ). AreForcedBy l (map driven_signal c.as_slice.result.now) forced) c.as_slice-nets.ensures c.drive_inputs.ensures));
      ahead = (record { most = omega arith; early = λ k d lt. absurd (omega arith); late = λ k d ge within. omega arith }, omega arith);
      behind = tt;
    }

pub returns-clause-whole : goal.returns-clause-whole
unfolding run
returns-clause-whole c =
    let s = c.args.stimulus.now in
    let made : Netlist → ℕ → Machine → Run Machine = λ n l m. run_from (s.end + 1) (machines n) l (schedule_of n.parts s) 0 m in
    ap (λ (n : Netlist). made n c.in_ok-run.run'.limit c.in_ok-run.run'.machine) c.in_ok-run.ensures.netlist
    ∙ ap (λ (l : ℕ). made c.args.flat.now l c.in_ok-run.run'.machine) c.in_ok-run.ensures.limit
    ∙ ap (λ (m : Machine). made c.args.flat.now c.args.limit m) c.in_ok-run.ensures.start
