use Rattle.std.proofs.Common.{◌≡◌, ◌≤◌, ℕ, length, ap, sym, ◌∙◌, subst, arith, inl, inr}
use Rattle.std.proofs.lemmas.Bool.{cases_eq}
use Rattle.std.proofs.lemmas.Option.{get_or_from_slice_get}
use Rattle.flat_net.specs.declared.parts.Island.{Island}
use Rattle.cell_step.specs.Readings.{no_island, island_at}
use Rattle.plain_sim.specs.Lists.{HasRoomForIsland}
use Rattle.plain_sim.proofs.starts.bench_for.Goals as goal

pub loop-number-preserved : goal.loop-number-preserved
loop-number-preserved c k lt = elim (cases_eq k c.loop-number.number) [
  | inl e ↦
      let parts = c.args.flat.now.parts in
      let island = c.island-island.result.now in
      let same : island_at parts c.loop-number.number ≡ island =
      get_or_from_slice_get parts.islands c.loop-number.number island no_island c.island-island.ensures in
      let nets = ap (λ (i : Island). length i.nets) same in
      let links = ap (λ (i : Island). length i.links) same in
      let there = ap length c.as_slice.ensures in
      let joined = ap length c.as_slice-in-loop-number.ensures in
      let one = c.in_ok-nets.ensures in
      let two = c.in_ok-links.ensures in
      let room = c.in_ok-reserve.ensures.nets in
      let more = c.in_ok-reserve.ensures.links in
      subst (HasRoomForIsland parts c.reserve.new.self) (sym e) (omega arith, omega arith)
  | inr ne ↦
      let before = c.loop-number.invariant k (let g = ne in omega arith) in
      let room = c.in_ok-reserve.ensures.more_nets in
      let more = c.in_ok-reserve.ensures.more_links in
      (omega arith, omega arith)
]
