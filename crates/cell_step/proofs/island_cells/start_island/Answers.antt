use Rattle.std.proofs.Common.{◌≡◌, ℕ, ◌≤◌, List, length, ap, sym, ◌∙◌, subst, arith}
use Rattle.std.specs.Prelude.{All, map}
use Rattle.std.proofs.lemmas.Option.{get_or_from_slice_get}
use Rattle.flat_net.specs.declared.parts.Island.{Island}
use Rattle.cell_step.specs.declared.states.NetState.{NetState}
use Rattle.cell_step.specs.declared.states.IslandState.{IslandState}
use Rattle.cell_step.specs.Readings.{no_island, island_at}
use Rattle.cell_step.specs.Nets.{net_start}
use Rattle.cell_step.specs.Fitting.{FitsIsland}
use Rattle.cell_step.proofs.IslandsKept.{island_start-fits, levels-most}
use Rattle.cell_step.proofs.island_cells.start_island.Goals as goal

pub start_nets-requires : goal.start_nets-requires
start_nets-requires c =
    let same = get_or_from_slice_get c.args.flat.now.parts.islands c.args.i c.island.result.now no_island c.island.ensures in
    let levels = c.as_slice-levels.ensures ∙ ap (λ (i : Island). i.shape.charge) (sym same) in
    subst (All (λ level. level ≤ 7)) (sym levels)
    (levels-most c.args.flat.now.parts c.net_count-nets.ensures.sound.sound c.args.i c.requires)

pub returns-clause-start : goal.returns-clause-start
returns-clause-start c =
    let same = get_or_from_slice_get c.args.flat.now.parts.islands c.args.i c.island.result.now no_island c.island.ensures in
    let levels = c.as_slice-levels.ensures ∙ ap (λ (i : Island). i.shape.charge) (sym same) in
    ap (λ l. let s : IslandState = record { nets = l } in s) (c.in_ok-start_nets.ensures ∙ ap (map net_start) levels)

pub returns-clause-fits : goal.returns-clause-fits
returns-clause-fits c =
    let same = get_or_from_slice_get c.args.flat.now.parts.islands c.args.i c.island.result.now no_island c.island.ensures in
    let levels = c.as_slice-levels.ensures ∙ ap (λ (i : Island). i.shape.charge) (sym same) in
    subst (FitsIsland c.args.flat.now.parts c.args.i)
    (sym (ap (λ l. let s : IslandState = record { nets = l } in s) (c.in_ok-start_nets.ensures ∙ ap (map net_start) levels)))
    (island_start-fits c.args.flat.now.parts c.net_count-nets.ensures.sound.sound c.args.i c.requires)
