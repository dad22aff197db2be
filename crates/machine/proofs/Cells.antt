-- What a cell's part in a pass and its start keep, in a sound netlist whose primitives are accepted.
use Rattle.std.proofs.Common.{◌≡◌, ℕ, ap}
use Rattle.flat_net.specs.declared.kinds.Cell.{Cell}
use Rattle.flat_net.specs.declared.kinds.Cell.TheVariants.{Element as ElementCell, Island as IslandCell}
use Rattle.flat_net.specs.Patches.{Netlist, IsCell, patch_of}
use Rattle.flat_net.specs.Soundness.{IsSound}
use Rattle.cell_step.specs.declared.states.CellState.{CellState}
use Rattle.cell_step.specs.declared.states.CellState.TheVariants.{Element, Island}
use Rattle.cell_step.specs.Readings.{Readings}
use Rattle.cell_step.specs.Fitting.{FitsCell, HasSignals, HasAcceptedPrimitives}
use Rattle.cell_step.proofs.Signals.{AreReadings}
use Rattle.cell_step.proofs.ElementsKept.{element_after-again, element_after-fits, element_after-signals, element_start-fits, element_start-signals}
use Rattle.cell_step.proofs.IslandsKept.{island_after-again, island_after-fits, island_after-signals, island_start-fits, island_start-signals}
use Rattle.machine.specs.Machine.{as_element, cell_start}
use Rattle.machine.specs.Pass.{cell_after}

module _ (netlist : Netlist) (sound : IsSound netlist.parts) where
  -- a cell's part in a pass, done again from the same readings, changes nothing
  pub cell_after-again : (cell : Cell) → IsCell netlist.parts cell → (now later : ℕ) (r : Readings) (s : CellState) → AreReadings r →
      FitsCell netlist.parts cell s → cell_after netlist cell later r (cell_after netlist cell now r s) ≡ cell_after netlist cell now r s
  cell_after-again (ElementCell number) lt now later r s are fits =
      ap Element (element_after-again netlist.parts sound number (patch_of netlist (ElementCell number)) now later r (as_element s) lt)
  cell_after-again (IslandCell number) lt now later r (Element s) are fits = absurd fits
  cell_after-again (IslandCell number) lt now later r (Island s) are fits =
      ap Island (island_after-again netlist.parts sound number lt (patch_of netlist (IslandCell number)) r are s fits now later)

  pub cell_after-signals : (cell : Cell) → IsCell netlist.parts cell → (now : ℕ) (r : Readings) (s : CellState) → AreReadings r →
      FitsCell netlist.parts cell s → HasSignals s → HasSignals (cell_after netlist cell now r s)
  cell_after-signals (ElementCell number) lt now r (Element s) are fits has =
      element_after-signals netlist.parts sound number lt (patch_of netlist (ElementCell number)) now r s are has
  cell_after-signals (ElementCell number) lt now r (Island s) are fits has = absurd fits
  cell_after-signals (IslandCell number) lt now r (Element s) are fits has = absurd fits
  cell_after-signals (IslandCell number) lt now r (Island s) are fits has =
      island_after-signals netlist.parts sound number lt (patch_of netlist (IslandCell number)) r are s fits now has

  pub cell_after-fits : HasAcceptedPrimitives netlist.parts → (cell : Cell) → IsCell netlist.parts cell → (now : ℕ) (r : Readings) (s : CellState) → AreReadings r →
      FitsCell netlist.parts cell s → FitsCell netlist.parts cell (cell_after netlist cell now r s)
  cell_after-fits accepted (ElementCell number) lt now r (Element s) are fits =
      element_after-fits netlist.parts sound number lt accepted (patch_of netlist (ElementCell number)) now r s fits
  cell_after-fits accepted (ElementCell number) lt now r (Island s) are fits = absurd fits
  cell_after-fits accepted (IslandCell number) lt now r (Element s) are fits = absurd fits
  cell_after-fits accepted (IslandCell number) lt now r (Island s) are fits =
      island_after-fits netlist.parts sound number lt (patch_of netlist (IslandCell number)) r are s fits now

  pub cell_start-fits : HasAcceptedPrimitives netlist.parts → (cell : Cell) → IsCell netlist.parts cell → FitsCell netlist.parts cell (cell_start netlist cell)
  cell_start-fits accepted (ElementCell number) lt =
      element_start-fits netlist.parts sound number lt accepted (patch_of netlist (ElementCell number))
  cell_start-fits accepted (IslandCell number) lt = island_start-fits netlist.parts sound number lt

  pub cell_start-signals : (cell : Cell) → IsCell netlist.parts cell → HasSignals (cell_start netlist cell)
  cell_start-signals (ElementCell number) lt = element_start-signals netlist.parts sound number lt (patch_of netlist (ElementCell number))
  cell_start-signals (IslandCell number) lt = island_start-signals netlist.parts sound number lt
