use Rattle.std.proofs.Common.{ℕ, ◌<◌, length, get_or, ap, sym, ◌∙◌, subst, refl, arith, ◌+◌}
use Rattle.std.proofs.lemmas.Option.{get_or_from_slice_get}
use Rattle.cell_step.specs.Changes.{mature_net}
use Rattle.cell_step.specs.Islands.{no_state}
use Rattle.cell_step.proofs.Filling.{IsFilled, filled-more, filled-map}
use Rattle.cell_step.proofs.changes.mature_nets.Goals as goal

pub loop-place-preserved : goal.loop-place-preserved
loop-place-preserved c =
    let f = λ (k : ℕ). mature_net c.args.now (get_or c.args.nets.now k no_state) in
    let there = sym (get_or_from_slice_get c.loop-place.nets c.loop-place.place c.at-state.result no_state c.at-state.ensures)
    ∙ c.loop-place.invariant.back c.loop-place.place (omega arith) in
    subst (λ l. IsFilled f no_state c.args.nets.now l (c.loop-place.place + 1)) (sym c.set.ensures)
    (filled-more f no_state c.args.nets.now c.loop-place.nets c.loop-place.place c.mature_net.result
    (let f = c.loop-place-test.true in let g = c.len-place-end.ensures in omega arith)
    (c.mature_net.ensures ∙ ap (mature_net c.args.now) there) c.loop-place.invariant)

pub returns : goal.returns
returns c =
    filled-map (mature_net c.args.now) no_state no_state c.args.nets.now c.args.nets.now c.loop-place.nets c.loop-place.place refl
    (let f = c.loop-place-test.false in let g = c.len-place-end.ensures in omega arith) c.loop-place.invariant
