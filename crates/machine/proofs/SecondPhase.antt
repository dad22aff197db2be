-- The second phase of a pass changes nothing that cells read: no island, and of no element what it drives and conducts.
use Rattle.std.proofs.Common.{◌≡◌, ℕ, ◌<◌, ◌≤◌, cond, length, refl, ap, sym, ◌∙◌, inl, inr, arith}
use Rattle.std.specs.Prelude.{nat_eq}
use Rattle.std.proofs.lemmas.Bool.{cases_lt}
use Rattle.std.proofs.lemmas.List.{get_or_past}
use Rattle.level_range.specs.Signal.{Signal}
use Rattle.flat_net.specs.declared.kinds.Cell.{Cell}
use Rattle.flat_net.specs.declared.kinds.Cell.TheVariants.{Element as ElementCell, Island as IslandCell}
use Rattle.flat_net.specs.declared.kinds.Patch.{Patch}
use Rattle.flat_net.specs.declared.kinds.Patch.TheVariants.{Whole, NetStuck, InStuck, OutStuck, Open, Closed}
use Rattle.flat_net.specs.declared.parts.Parts.{Parts}
use Rattle.flat_net.specs.Soundness.{IsSound}
use Rattle.flat_net.specs.Patches.{Netlist, patch_of}
use Rattle.cell_step.specs.declared.states.ElementState.{ElementState}
use Rattle.cell_step.specs.declared.states.CellState.{CellState}
use Rattle.cell_step.specs.declared.states.CellState.TheVariants.{Island}
use Rattle.cell_step.specs.Readings.{Readings, element_at, net_at}
use Rattle.cell_step.specs.Changes.{mature_cell}
use Rattle.cell_step.specs.Elements.{stuck_signal, conduction, input_signals, element_after, drive_at, conduct_at}
use Rattle.cell_step.specs.Islands.{state_at}
use Rattle.cell_step.proofs.ElementsKept.{next-out, next-on}
use Rattle.machine.specs.Machine.{Machine, number_of, cell_state, no_island_state, as_element, as_island, net_state, readings}
use Rattle.machine.specs.Pass.{evaluate_cell, cell_after, mature, evaluate, first_phase, pass, next_readings, next_cell}
use Rattle.machine.specs.Touched.{AgreeAt, last_readings}
use Rattle.machine.proofs.Numbers.{cell_of-element, cell_of-island}
use Rattle.machine.proofs.PassAt.{length-evaluate, mature-at, evaluate-at, pass-at}
use Rattle.machine.proofs.Reading.{drives-within, links-within}

-- ---- islands

-- a state that stands at the number of an island stays
pub island-stays : (netlist : Netlist) (m : Machine) (island : ℕ) →
    cell_state (evaluate netlist m) (number_of netlist.parts (IslandCell island)) ≡ cell_state m (number_of netlist.parts (IslandCell island))
island-stays netlist m island =
    let number : ℕ = number_of netlist.parts (IslandCell island) in
    elim (cases_lt number (length m.cells)) [
      | inl lt ↦
          evaluate-at netlist m number lt
          ∙ ap (λ (cell : Cell). evaluate_cell netlist cell m.time (readings netlist m.inputs m.cells) (cell_state m number))
          (cell_of-island netlist.parts island)
      | inr ge ↦
          get_or_past (evaluate netlist m).cells number (Island no_island_state) (let e = length-evaluate netlist m in omega arith)
          ∙ sym (get_or_past m.cells number (Island no_island_state) ge)
    ]

pub seen-stays : (netlist : Netlist) (m : Machine) (net : ℕ) →
    (net_state netlist.parts (evaluate netlist m).cells net).seen ≡ (net_state netlist.parts m.cells net).seen
seen-stays netlist m net =
    let part = net_at netlist.parts net in
    ap (λ (s : CellState). (state_at (as_island s).nets part.place).seen) (island-stays netlist m part.island)

-- ---- elements

-- the two drive and conduct the same
pub record DriveAlike (a b : ElementState) : Type 0 where
  pub out : a.out ≡ b.out
  pub on : a.on ≡ b.on

pub drive_at-alike : (patch : Patch) (pin : ℕ) (a b : ElementState) → DriveAlike a b → drive_at patch pin a ≡ drive_at patch pin b
drive_at-alike (OutStuck stuck v) pin a b alike = ap (λ (s : Signal). cond (nat_eq stuck pin) (stuck_signal 6 v) s) alike.out
drive_at-alike Open pin a b alike = refl
drive_at-alike Closed pin a b alike = alike.out
drive_at-alike Whole pin a b alike = alike.out
drive_at-alike (NetStuck net v) pin a b alike = alike.out
drive_at-alike (InStuck input v) pin a b alike = alike.out

pub conduct_at-alike : (patch : Patch) (a b : ElementState) → DriveAlike a b → conduct_at patch a ≡ conduct_at patch b
conduct_at-alike patch a b alike = ap (conduction patch) alike.on

-- an element's part in a pass leaves what it drives and conducts
pub element_after-alike : (parts : Parts) (number : ℕ) (patch : Patch) (now : ℕ) (r : Readings) (s : ElementState) →
    DriveAlike (element_after parts number patch now r s) s
element_after-alike parts number patch now r s =
    let e = element_at parts number in
    let ins = input_signals r patch e in
    record { out = next-out parts e patch now ins s; on = next-on parts e patch now ins s }

-- after a pass an element drives and conducts what it does once what is due has taken effect
pub pass-alike : (netlist : Netlist) (m : Machine) (element : ℕ) → element < length netlist.parts.elements → element < length m.cells →
    DriveAlike (as_element (cell_state (pass netlist m) element)) (as_element (cell_state (mature m) element))
unfolding next_cell
pass-alike netlist m element inner lt =
    let cell = cell_of-element netlist.parts element inner in
    let before = mature-at m element in
    let s : CellState = mature_cell m.time (cell_state m element) in
    let after : cell_state (pass netlist m) element ≡ cell_after netlist (ElementCell element) m.time (next_readings netlist m (ElementCell element)) s =
    pass-at netlist m element lt
    ∙ ap (λ (c : Cell). cell_after netlist c m.time (next_readings netlist m c) s) cell in
    let alike = element_after-alike netlist.parts element (patch_of netlist (ElementCell element)) m.time
    (next_readings netlist m (ElementCell element)) (as_element s) in
    record {
      out = ap (λ (c : CellState). (as_element c).out) after ∙ alike.out ∙ sym (ap (λ (c : CellState). (as_element c).out) before);
      on = ap (λ (c : CellState). (as_element c).on) after ∙ alike.on ∙ sym (ap (λ (c : CellState). (as_element c).on) before);
    }

-- ---- what a cell read in its part of a pass is what it reads after the pass

module _ (netlist : Netlist) (m : Machine) (sound : IsSound netlist.parts) (long : length netlist.parts.elements ≤ length m.cells) where
  abbrev after : Readings
  after = last_readings netlist (pass netlist m)

  abbrev before : Readings
  before = readings netlist m.inputs (mature m).cells

  element-read : (element : ℕ) → AgreeAt netlist.parts (ElementCell element) after (next_readings netlist m (ElementCell element))
  unfolding pass
  element-read element = λ k d lt. seen-stays netlist (first_phase netlist m) _

  drive-read : (element pin : ℕ) → element < length netlist.parts.elements → after.drive element pin ≡ before.drive element pin
  drive-read element pin inner =
      drive_at-alike (patch_of netlist (ElementCell element)) pin _ _ (pass-alike netlist m element inner (omega arith))

  conduct-read : (element : ℕ) → element < length netlist.parts.elements → after.conduct element ≡ before.conduct element
  conduct-read element inner =
      conduct_at-alike (patch_of netlist (ElementCell element)) _ _ (pass-alike netlist m element inner (omega arith))

  island-read : (island : ℕ) → AgreeAt netlist.parts (IslandCell island) after (next_readings netlist m (IslandCell island))
  unfolding pass
  island-read island = record {
    drives = λ k d lt. drive-read _ _ (drives-within netlist.parts sound island k d lt);
    links = λ k d lt. conduct-read _ (links-within netlist.parts sound island k d lt);
    inputs = λ k d lt. refl;
  }

  pub reads-kept : (cell : Cell) → AgreeAt netlist.parts cell after (next_readings netlist m cell)
  reads-kept (ElementCell element) = element-read element
  reads-kept (IslandCell island) = island-read island
