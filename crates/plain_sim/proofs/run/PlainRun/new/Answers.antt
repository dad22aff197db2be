use Rattle.std.proofs.Common.{◌≡◌, ◌++◌, ℕ, ◌<◌, List, length, get_or, ap, sym, subst, ◌∙◌, arith}
use Rattle.std.specs.Prelude.{replicate, map}
use Rattle.std.specs.List.{range_with_len}
use Rattle.flat_net.specs.declared.kinds.Cell.TheVariants.{Element as ElementCell, Island as IslandCell}
use Rattle.std.proofs.lemmas.List.{length-replicate, get_or-replicate}
use Rattle.level_range.specs.Signal.{Signal, undriven}
use Rattle.cell_step.specs.declared.states.CellState.{CellState}
use Rattle.machine.specs.Machine.{input_among, cell_start}
use Rattle.plain_sim.specs.Due.{AreSoon, key_count}
use Rattle.plain_sim.proofs.Inputs.{all-undriven}
use Rattle.plain_sim.proofs.Times.{AllTimes, Soon, start-times, due-none}
use Rattle.plain_sim.proofs.Keys.{keys-start}
use Rattle.plain_sim.proofs.Passes.{start-cells, start-is}
use Rattle.plain_sim.proofs.run.PlainRun.new.Goals as goal

pub invariant_of-result : goal.invariant_of-result
invariant_of-result c =
    let parts = c.args.flat.now.parts in
    let count = ap length (c.as_slice-count.ensures ∙ c.inputs.ensures) in
    let n = length c.as_slice-count.result.now in
    record {
      elements = c.in_ok-elements.ensures.fits;
      islands = c.in_ok-islands.ensures.fits;
      inputs = ap length c.in_ok-inputs.ensures ∙ length-replicate n undriven ∙ count;
      last_inputs = ap length c.in_ok-last_inputs.ensures ∙ length-replicate n undriven ∙ count;
      forced = record {
        count = ap length c.in_ok-forced.ensures ∙ length-replicate c.net_count.result undriven ∙ c.net_count.ensures.count;
        signals = λ net lt.
            let long = ap length c.in_ok-forced.ensures ∙ length-replicate c.net_count.result undriven in
            ap (λ (l : List Signal). get_or l net undriven) c.in_ok-forced.ensures
            ∙ get_or-replicate c.net_count.result net undriven undriven (omega arith)
            ∙ sym (all-undriven parts.inputs n net)
            ∙ ap (λ (l : List Signal). input_among parts.inputs l net) (sym c.in_ok-inputs.ensures);
      };
      room = c.in_ok-bench.ensures;
      soon_elements = subst AreSoon (sym c.in_ok-elements.ensures.states) (start-times Soon c.args.flat.now ElementCell (length parts.elements));
      soon_islands = subst AreSoon (sym c.in_ok-islands.ensures.states) (start-times Soon c.args.flat.now IslandCell (length parts.islands));
      due =
          due-none parts c.in_ok-elements.elements.items c.in_ok-islands.islands.items c.in_ok-due.due.times
          (subst (AllTimes (λ t. ⊥)) (sym c.in_ok-elements.ensures.states) (start-times (λ t. ⊥) c.args.flat.now ElementCell (length parts.elements)))
          (subst (AllTimes (λ t. ⊥)) (sym c.in_ok-islands.ensures.states) (start-times (λ t. ⊥) c.args.flat.now IslandCell (length parts.islands)))
          c.in_ok-due.ensures.times;
      keys = keys-start (key_count parts) c.in_ok-due.due c.in_ok-due.ensures.times c.in_ok-due.ensures.room;
      time = omega arith;
    }

pub returns-clause-start : goal.returns-clause-start
returns-clause-start c =
    let flat = c.args.flat.now in
    let count = ap length (c.as_slice-count.ensures ∙ c.inputs.ensures) in
    let short = ap (λ (k : ℕ). replicate k undriven) count in
    start-is flat c.in_ok-inputs.inputs.items c.in_ok-last_inputs.last_inputs.items
    (c.in_ok-elements.elements.items ++ c.in_ok-islands.islands.items)
    (c.in_ok-inputs.ensures ∙ short) (c.in_ok-last_inputs.ensures ∙ short)
    (ap (λ (l : List CellState). l ++ c.in_ok-islands.islands.items) c.in_ok-elements.ensures.states
    ∙ ap (λ (l : List CellState). map (λ number. cell_start flat (ElementCell number)) (range_with_len 0 (length flat.parts.elements)) ++ l) c.in_ok-islands.ensures.states
    ∙ sym (start-cells flat))
