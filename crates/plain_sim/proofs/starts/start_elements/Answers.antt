use Rattle.std.proofs.Common.{◌≡◌, ℕ, ◌+◌, ◌++◌, ◌∷◌, [], List, ap, sym, ◌∙◌, subst, arith}
use Rattle.std.specs.Prelude.{map}
use Rattle.std.specs.List.{range_with_len}
use Rattle.std.proofs.lemmas.List.FromFn.{map-range_with_len_more}
use Rattle.flat_net.specs.declared.kinds.Cell.TheVariants.{Element as ElementCell}
use Rattle.flat_net.specs.declared.kinds.Patch.{Patch}
use Rattle.cell_step.specs.declared.states.ElementState.{ElementState}
use Rattle.cell_step.specs.declared.states.CellState.{CellState}
use Rattle.cell_step.specs.declared.states.CellState.TheVariants.{Element}
use Rattle.cell_step.specs.Elements.{element_start}
use Rattle.machine.specs.Machine.{cell_start}
use Rattle.plain_sim.specs.Lists.{FitEach}
use Rattle.plain_sim.proofs.Stepping.{fits-push}
use Rattle.plain_sim.proofs.starts.start_elements.Goals as goal

pub loop-number-preserved : goal.loop-number-preserved
loop-number-preserved c =
    let k = c.loop-number.number in
    let flat = c.args.flat.now in
    let f = λ (number : ℕ). cell_start flat (ElementCell number) in
    let s : CellState = Element c.start_element.result in
    let is : s ≡ cell_start flat (ElementCell k) =
    ap (λ (e : ElementState). Element e)
    (c.start_element.ensures.state ∙ ap (λ (p : Patch). element_start flat.parts k p) c.patch-patch.ensures.patch) in
    record {
      states =
          c.in_ok-push.ensures.items
          ∙ ap (λ (l : List CellState). l ++ s ∷ []) c.loop-number.invariant.states
          ∙ ap (λ (x : CellState). map f (range_with_len 0 k) ++ x ∷ []) is
          ∙ sym (map-range_with_len_more f 0 k k (omega arith));
      fits =
          subst (FitEach flat.parts ElementCell (k + 1)) (sym c.in_ok-push.ensures.items)
          (fits-push flat.parts ElementCell k c.loop-number.states.items s c.start_element.ensures.fits c.loop-number.invariant.fits);
    }
