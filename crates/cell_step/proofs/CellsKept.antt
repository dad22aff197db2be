-- Maturing keeps what holds of a cell's state.
use Rattle.std.proofs.Common.{◌≡◌, ℕ, List, refl, ap, sym, subst}
use Rattle.std.specs.Prelude.{map}
use Rattle.flat_net.specs.declared.kinds.Cell.{Cell}
use Rattle.flat_net.specs.declared.kinds.Cell.TheVariants.{Element as ElementCell, Island as IslandCell}
use Rattle.flat_net.specs.declared.parts.Parts.{Parts}
use Rattle.cell_step.specs.declared.states.NetState.{NetState}
use Rattle.cell_step.specs.declared.states.IslandState.{IslandState}
use Rattle.cell_step.specs.declared.states.CellState.{CellState}
use Rattle.cell_step.specs.declared.states.CellState.TheVariants.{Element, Island}
use Rattle.cell_step.specs.Changes.{mature_net, mature_cell}
use Rattle.cell_step.specs.Fitting.{FitsCell, HasSignals}
use Rattle.cell_step.proofs.ElementsKept.{mature_element-fits, mature_element-signals}
use Rattle.cell_step.proofs.IslandsKept.{mature_island-fits, mature_island-signals}

pub mature_cell-fits : (parts : Parts) (cell : Cell) (now : ℕ) (s : CellState) → FitsCell parts cell s → FitsCell parts cell (mature_cell now s)
mature_cell-fits parts (ElementCell number) now (Element s) fits = mature_element-fits parts number now s fits
mature_cell-fits parts (ElementCell number) now (Island s) fits = fits
mature_cell-fits parts (IslandCell number) now (Element s) fits = fits
mature_cell-fits parts (IslandCell number) now (Island s) fits = mature_island-fits parts number now s fits

pub mature_cell-signals : (now : ℕ) (s : CellState) → HasSignals s → HasSignals (mature_cell now s)
mature_cell-signals now (Element s) has = mature_element-signals now s has
mature_cell-signals now (Island s) has = mature_island-signals now s has

-- an island whose nets have matured
pub island-fits : (parts : Parts) (cell : Cell) (now : ℕ) (before : CellState) (s : IslandState) (nets : List NetState) → before ≡ Island s →
    nets ≡ map (mature_net now) s.nets → FitsCell parts cell before → FitsCell parts cell (Island (record { nets = nets }))
island-fits parts cell now before s nets is mature fits =
    subst (λ l. FitsCell parts cell (Island (record { nets = l }))) (sym mature)
    (mature_cell-fits parts cell now (Island s) (subst (FitsCell parts cell) is fits))
