use Rattle.std.proofs.Common.{ℕ, List, [], get_or, length, ap, sym, ◌∙◌, arith}
use Rattle.level_range.specs.Signal.{undriven}
use Rattle.level_range.specs.Combine.{join_of}
use Rattle.flat_net.specs.Islands.{combination_kind}
use Rattle.cell_step.specs.Readings.{net_at}
use Rattle.cell_step.specs.Islands.{own_driver}
use Rattle.cell_step.specs.Owns.{place_signal}
use Rattle.cell_step.proofs.Filling.{filled-more, filled-all}
use Rattle.cell_step.proofs.Owning.{first-is}
use Rattle.cell_step.proofs.islands.start_own.Goals as goal

pub loop-place-preserved : goal.loop-place-preserved
loop-place-preserved g c =
    let parts = c.args.flat.now.parts in
    let r = g.V.View.readings c.args.view.now in
    filled-more (place_signal parts r c.args.island.now []) undriven c.args.own.now c.loop-place.own c.loop-place.place c.first_signal.result
    (let t = c.loop-place-test.true in let s = c.loop-place.invariant.size in omega arith)
    (c.first_signal.ensures
    ∙ ap (λ (l : List ℕ). join_of (combination_kind (net_at parts (get_or l c.loop-place.place 0)).kind)
    (own_driver (net_at parts (get_or l c.loop-place.place 0)).kind) (r.input (get_or l c.loop-place.place 0))) c.as_slice-nets.ensures
    ∙ first-is parts r c.args.island.now c.loop-place.place)
    c.loop-place.invariant

pub returns : goal.returns
returns g c =
    filled-all (place_signal c.args.flat.now.parts (g.V.View.readings c.args.view.now) c.args.island.now []) undriven
    c.args.own.now c.loop-place.own (length c.args.island.now.nets) c.loop-place.place c.requires.size
    (let t = c.loop-place-test.false in let s = c.requires.size in omega arith) c.loop-place.invariant
