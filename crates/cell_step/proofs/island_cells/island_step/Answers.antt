use Rattle.std.proofs.Common.{◌≡◌, ℕ, length, ap, sym, ◌∙◌, subst, arith}
use Rattle.std.specs.Prelude.{map}
use Rattle.std.proofs.lemmas.Option.{get_or_from_slice_get}
use Rattle.flat_net.specs.declared.parts.Island.{Island}
use Rattle.cell_step.specs.Readings.{no_island, island_at}
use Rattle.cell_step.specs.Rooms.{Room}
use Rattle.cell_step.specs.Islands.{own_signals, next_island}
use Rattle.cell_step.specs.Fitting.{FitsIsland}
use Rattle.cell_step.proofs.Facts.{can-settle}
use Rattle.cell_step.proofs.IslandsKept.{next-island_fits-of}
use Rattle.cell_step.proofs.island_cells.island_step.Goals as goal

pub settle_in_lists-requires-clause-island : goal.settle_in_lists-requires-clause-island
settle_in_lists-requires-clause-island g c =
    can-settle c.args.flat.now.parts c.net_count-nets.ensures.sound.sound c.args.i c.requires.island c.args.state.now c.requires.state
    c.island.result.now c.island.ensures

pub settle_in_lists-requires-clause-own : goal.settle_in_lists-requires-clause-own
settle_in_lists-requires-clause-own g c =
    let same = get_or_from_slice_get c.args.flat.now.parts.islands c.args.i c.island.result.now no_island c.island.ensures in
    let nets = ap (λ (i : Island). length i.nets) same in
    let room = ap (λ (r : Room). r.nets) c.bench.view_is in
    let list = ap length c.as_mut_slice.ensures.value in
    let most = c.requires.nets in
    omega arith

pub settle_in_lists-requires-clause-on : goal.settle_in_lists-requires-clause-on
settle_in_lists-requires-clause-on g c =
    let same = get_or_from_slice_get c.args.flat.now.parts.islands c.args.i c.island.result.now no_island c.island.ensures in
    let links = ap (λ (i : Island). length i.links) same in
    let room = ap (λ (r : Room). r.links) c.bench.view_is in
    let list = ap length c.as_mut_slice-2.ensures.value in
    let most = c.requires.links in
    omega arith

pub settle_in_lists-requires-clause-charges : goal.settle_in_lists-requires-clause-charges
settle_in_lists-requires-clause-charges g c =
    let same = get_or_from_slice_get c.args.flat.now.parts.islands c.args.i c.island.result.now no_island c.island.ensures in
    let nets = ap (λ (i : Island). length i.nets) same in
    let room = ap (λ (r : Room). r.nets) c.bench.view_is in
    let list = ap length c.as_mut_slice-3.ensures.value in
    let inner = c.bench.invariant.charges in
    let most = c.requires.nets in
    omega arith

pub settle_in_lists-requires-clause-driven : goal.settle_in_lists-requires-clause-driven
settle_in_lists-requires-clause-driven g c =
    let same = get_or_from_slice_get c.args.flat.now.parts.islands c.args.i c.island.result.now no_island c.island.ensures in
    let nets = ap (λ (i : Island). length i.nets) same in
    let room = ap (λ (r : Room). r.nets) c.bench.view_is in
    let list = ap length c.as_mut_slice-4.ensures.value in
    let inner = c.bench.invariant.driven in
    let most = c.requires.nets in
    omega arith

pub settle_in_lists-requires-clause-signals : goal.settle_in_lists-requires-clause-signals
settle_in_lists-requires-clause-signals g c =
    let same = get_or_from_slice_get c.args.flat.now.parts.islands c.args.i c.island.result.now no_island c.island.ensures in
    let nets = ap (λ (i : Island). length i.nets) same in
    let room = ap (λ (r : Room). r.nets) c.bench.view_is in
    let list = ap length c.as_mut_slice-5.ensures.value in
    let inner = c.bench.invariant.out in
    let most = c.requires.nets in
    omega arith

pub settle_in_lists-requires-clause-room : goal.settle_in_lists-requires-clause-room
settle_in_lists-requires-clause-room g c =
    let same = get_or_from_slice_get c.args.flat.now.parts.islands c.args.i c.island.result.now no_island c.island.ensures in
    let nets = ap (λ (i : Island). length i.nets) same in
    let room = ap (λ (r : Room). r.nets) c.bench.view_is in
    let inner = c.bench.invariant.scratch in
    let most = c.requires.nets in
    omega arith

pub returns-clause-state : goal.returns-clause-state
returns-clause-state g c =
    let parts = c.args.flat.now.parts in
    let r = g.V.View.readings c.args.view.now in
    let same = get_or_from_slice_get parts.islands c.args.i c.island.result.now no_island c.island.ensures in
    c.settle_in_lists.ensures.state
    ∙ ap (λ (i : Island). next_island parts i c.args.now (own_signals parts r c.args.patch i) (map r.conduct i.links) c.args.state.now) (sym same)

pub returns-clause-fits : goal.returns-clause-fits
returns-clause-fits g c =
    let parts = c.args.flat.now.parts in
    let r = g.V.View.readings c.args.view.now in
    next-island_fits-of parts c.net_count-nets.ensures.sound.sound c.args.i c.requires.island c.args.state.now c.requires.state
    c.island.result.now c.island.ensures c.args.now (own_signals parts r c.args.patch c.island.result.now)
    (map r.conduct c.island.result.now.links) c.settle_in_lists.ensures.charges c.settle_in_lists.new.state c.settle_in_lists.ensures.state
