-- The state fits the island, and the bench has room for it.
use Rattle.std.specs.Prelude.{ℕ, ◌≤◌, length}
use Rattle.flat_net.specs.declared.parts.Parts.{Parts}
use Rattle.cell_step.specs.declared.states.IslandState.{IslandState}
use Rattle.cell_step.specs.Fitting.{FitsIsland}
use Rattle.cell_step.specs.Readings.{island_at}
use Rattle.cell_step_tests.proofs.tests.islands.passes.Given as goal

pub record IsReady (parts : Parts) (state : IslandState) (net_room link_room : ℕ) : Type 0 where
  pub fits : FitsIsland parts 0 state
  pub nets : length (island_at parts 0).nets ≤ net_room
  pub links : length (island_at parts 0).links ≤ link_room

abbrev pub invariant-loop-pass : goal.invariant-loop-pass
invariant-loop-pass g l = IsReady l.flat.parts l.state l.bench.nets l.bench.links
