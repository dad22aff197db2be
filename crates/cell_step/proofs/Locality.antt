-- Locality: where two readings agree on what a cell reads, its part in a pass is the same.
use Rattle.std.proofs.Common.{◌≡◌, ℕ, suc, ◌<◌, List, [], ◌∷◌, length, refl, ap, ◌∙◌}
use Rattle.std.specs.Prelude.{All, Bool, Option, Some, None, map, nat_eq, slice_index_or}
use Rattle.std.proofs.lemmas.List.Elements.{All-head, All-tail, All-filter}
use Rattle.level_range.specs.Signal.{Signal}
use Rattle.level_range.specs.Combine.{combination_of}
use Rattle.flat_net.specs.declared.kinds.Patch.{Patch}
use Rattle.flat_net.specs.declared.parts.Drive.{Drive}
use Rattle.flat_net.specs.declared.parts.Element.{Element}
use Rattle.flat_net.specs.declared.parts.Island.{Island}
use Rattle.flat_net.specs.declared.parts.Parts.{Parts}
use Rattle.flat_net.specs.Islands.{combination_kind}
use Rattle.cell_step.specs.declared.states.ElementState.{ElementState}
use Rattle.cell_step.specs.declared.states.IslandState.{IslandState}
use Rattle.cell_step.specs.Readings.{Readings, AgreeAtElement, AgreeAtIsland, element_at, island_at, net_at}
use Rattle.cell_step.specs.Elements.{input_stuck, pin_signal, signals_from, input_signals, next_element, element_after}
use Rattle.cell_step.specs.Islands.{own_driver, drives_at, net_stuck, unless_stuck, own_signal, own_signals, next_island, island_after}
use Rattle.cell_step.proofs.Mapping.{map-agree, range-agree}

pin-agree : (r s : Readings) (stuck : Option Bool) (net : ℕ) → r.seen net ≡ s.seen net → pin_signal r stuck net ≡ pin_signal s stuck net
pin-agree r s None net agree = agree
pin-agree r s (Some v) net agree = refl

signals_from-agree : (r s : Readings) (patch : Patch) (number : ℕ) (nets : List ℕ) → All (λ net. r.seen net ≡ s.seen net) nets →
    signals_from r patch number nets ≡ signals_from s patch number nets
signals_from-agree r s patch number [] agree = refl
signals_from-agree r s patch number (net ∷ nets) agree =
    ap (λ x. x ∷ signals_from r patch (suc number) nets)
    (pin-agree r s (input_stuck patch number) net (All-head (λ net. r.seen net ≡ s.seen net) net nets agree))
    ∙ ap (λ xs. pin_signal s (input_stuck patch number) net ∷ xs)
    (signals_from-agree r s patch (suc number) nets (All-tail (λ net. r.seen net ≡ s.seen net) net nets agree))

input_signals-agree : (r s : Readings) (patch : Patch) (e : Element) → AgreeAtElement e r s → input_signals r patch e ≡ input_signals s patch e
unfolding input_signals
input_signals-agree r s patch e agree = signals_from-agree r s patch _ e.ins agree

-- an element reads the nets of its input pins
pub element_after-local : (parts : Parts) (number : ℕ) (patch : Patch) (now : ℕ) (r s : Readings) (state : ElementState) →
    AgreeAtElement (element_at parts number) r s → element_after parts number patch now r state ≡ element_after parts number patch now s state
element_after-local parts number patch now r s state agree =
    ap (λ ins. next_element parts (element_at parts number) patch now ins state)
    (input_signals-agree r s patch (element_at parts number) agree)

module _ (parts : Parts) (r s : Readings) (patch : Patch) (island : Island) (agree : AgreeAtIsland island r s) where
  drives-agree : (place : ℕ) → drives_at r island.drives place ≡ drives_at s island.drives place
  drives-agree place =
      map-agree (λ (drive : Drive). r.drive drive.element drive.pin) (λ (drive : Drive). s.drive drive.element drive.pin) _
      (All-filter (λ (drive : Drive). nat_eq drive.place place)
      (λ (drive : Drive). r.drive drive.element drive.pin ≡ s.drive drive.element drive.pin) island.drives agree.drives)

  own_signal-agree : (place : ℕ) → place < length island.nets → own_signal parts r patch island place ≡ own_signal parts s patch island place
  own_signal-agree place lt =
      let net = slice_index_or island.nets place 0 in
      let kind = (net_at parts net).kind in
      ap (λ x. unless_stuck (net_stuck patch net) (combination_of (combination_kind kind) (own_driver kind ∷ x ∷ drives_at r island.drives place)))
      (agree.inputs place 0 lt)
      ∙ ap (λ xs. unless_stuck (net_stuck patch net) (combination_of (combination_kind kind) (own_driver kind ∷ s.input net ∷ xs)))
      (drives-agree place)

  own_signals-agree : own_signals parts r patch island ≡ own_signals parts s patch island
  own_signals-agree = range-agree (own_signal parts r patch island) (own_signal parts s patch island) (length island.nets) own_signal-agree

-- an island reads the output pins that drive its nets, its switches, and the inputs at its nets
pub island_after-local : (parts : Parts) (number : ℕ) (patch : Patch) (now : ℕ) (r s : Readings) (state : IslandState) →
    AgreeAtIsland (island_at parts number) r s → island_after parts number patch now r state ≡ island_after parts number patch now s state
island_after-local parts number patch now r s state agree =
    let island = island_at parts number in
    ap (λ own. next_island parts island now own (map r.conduct island.links) state) (own_signals-agree parts r s patch island agree)
    ∙ ap (λ on. next_island parts island now (own_signals parts s patch island) on state)
    (map-agree r.conduct s.conduct island.links agree.links)
