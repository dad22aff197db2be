-- An island's part in a pass, done again with the same own signals and switches, changes nothing.
use Rattle.std.proofs.Common.{◌≡◌, ℕ, ◌<◌, List, length, get_or, refl, ap, sym, ◌∙◌, arith}
use Rattle.std.specs.Prelude.{All, map}
use Rattle.std.specs.List.{range_with_len}
use Rattle.std.proofs.lemmas.List.{same_lists, get_or_default, get_or-map, length-map}
use Rattle.std.proofs.lemmas.List.FromFn.{length-map-range_with_len, get_or-map-range_with_len}
use Rattle.level_range.specs.declared.range.Conduct.{Conduct}
use Rattle.level_range.specs.Signal.{Signal, IsSignal, undriven}
use Rattle.net_settle.specs.Charges.{signal_at, driven_signals, island_signals, charges_left}
use Rattle.net_settle.specs.Conditions.{IsIsland, AreCharges, WiredAlone}
use Rattle.net_settle.proofs.SettlingAgain.{signals-again, charges-again, length-left}
use Rattle.flat_net.specs.declared.parts.Island.{Island}
use Rattle.flat_net.specs.declared.parts.Parts.{Parts}
use Rattle.cell_step.specs.declared.states.NetState.{NetState}
use Rattle.cell_step.specs.declared.states.IslandState.{IslandState}
use Rattle.cell_step.specs.Nets.{next_net}
use Rattle.cell_step.specs.Islands.{no_state, state_at, charges_of, part_at, nets_after, next_island}
use Rattle.cell_step.proofs.Mapping.{range-agree}
use Rattle.cell_step.proofs.NetStillness.{next_net-again}

pub length-nets_after : (parts : Parts) (island : Island) (now : ℕ) (driven signals charges : List Signal) (states : List NetState) →
    length (nets_after parts island now driven signals charges states) ≡ length island.nets
unfolding nets_after
length-nets_after parts island now driven signals charges states = length-map-range_with_len _ 0 (length island.nets)

pub nets_after-at : (parts : Parts) (island : Island) (now : ℕ) (driven signals charges : List Signal) (states : List NetState)
    (place : ℕ) (d : NetState) → place < length island.nets →
    get_or (nets_after parts island now driven signals charges states) place d
    ≡ next_net (part_at parts island place) now (signal_at driven place) (signal_at signals place) (signal_at charges place) (state_at states place)
unfolding nets_after
nets_after-at parts island now driven signals charges states place d lt =
    get_or-map-range_with_len _ 0 (length island.nets) place place d lt (omega arith)

nets_after-again : (parts : Parts) (island : Island) (now later : ℕ) (driven signals charges : List Signal) (states : List NetState) →
    nets_after parts island later driven signals charges (nets_after parts island now driven signals charges states)
    ≡ nets_after parts island now driven signals charges states
nets_after-again parts island now later driven signals charges states =
    let once = nets_after parts island now driven signals charges states in
    same_lists _ _
    (length-nets_after parts island later driven signals charges once ∙ sym (length-nets_after parts island now driven signals charges states))
    (λ k d lt.
    let inside : k < length island.nets = (let e = length-nets_after parts island later driven signals charges once in omega arith) in
    nets_after-at parts island later driven signals charges once k d inside
    ∙ ap (next_net (part_at parts island k) later (signal_at driven k) (signal_at signals k) (signal_at charges k))
    (nets_after-at parts island now driven signals charges states k no_state inside)
    ∙ next_net-again (part_at parts island k) now later (signal_at driven k) (signal_at signals k) (signal_at charges k) (state_at states k)
    ∙ sym (nets_after-at parts island now driven signals charges states k d inside))

-- the charges of the nets are those that were given
pub charges_of-after : (parts : Parts) (island : Island) (now : ℕ) (driven signals charges : List Signal) (states : List NetState) →
    length charges ≡ length island.nets → charges_of (nets_after parts island now driven signals charges states) ≡ charges
charges_of-after parts island now driven signals charges states long =
    let once = nets_after parts island now driven signals charges states in
    same_lists _ _ (length-map once (λ (s : NetState). s.charge) ∙ length-nets_after parts island now driven signals charges states ∙ sym long)
    (λ k d lt.
    let inside : k < length once = (let e = length-map once (λ (s : NetState). s.charge) in omega arith) in
    let within : k < length island.nets = (let e = length-nets_after parts island now driven signals charges states in omega arith) in
    get_or-map (λ (s : NetState). s.charge) once k no_state d inside
    ∙ ap (λ (s : NetState). s.charge) (nets_after-at parts island now driven signals charges states k no_state within)
    ∙ get_or_default charges k undriven d (omega arith))

module _ (parts : Parts) (island : Island) (now later : ℕ) (own : List Signal) (on : List Conduct) (s : IslandState)
    (nets : length s.nets ≡ length island.nets)
    (is_island : IsIsland island.shape (length own) (charges_of s.nets))
    (wired : WiredAlone island.shape)
    (signals : All IsSignal own)
    (charged : AreCharges island.shape.charge (charges_of s.nets)) where
  abbrev charges : List Signal
  charges = charges_of s.nets

  abbrev settled_signals : List Signal
  settled_signals = island_signals island.shape on own charges

  abbrev left : List Signal
  left = charges_left island.shape.charge charges settled_signals

  abbrev driven : List Signal
  driven = driven_signals island.shape on own

  long-left : length left ≡ length island.nets
  long-left = length-left island.shape.charge charges settled_signals ∙ length-map s.nets (λ (n : NetState). n.charge) ∙ nets

  -- an island that settles with what is left of its charges
  abbrev settles : List Signal → List NetState → IslandState
  settles with states = record {
    nets =
        nets_after parts island later driven (island_signals island.shape on own with)
        (charges_left island.shape.charge with (island_signals island.shape on own with)) states;
  }

  same-left : charges_left island.shape.charge left (island_signals island.shape on own left) ≡ left
  same-left =
      ap (charges_left island.shape.charge left) (signals-again island.shape on own charges is_island wired signals charged)
      ∙ charges-again island.shape on own charges is_island wired signals charged settled_signals refl

  pub next_island-again : next_island parts island later own on (next_island parts island now own on s) ≡ next_island parts island now own on s
  unfolding next_island
  next_island-again =
      let once = nets_after parts island now driven settled_signals left s.nets in
      ap (λ c. settles c once) (charges_of-after parts island now driven settled_signals left s.nets long-left)
      ∙ ap (λ x. let i : IslandState = record { nets = nets_after parts island later driven x (charges_left island.shape.charge left x) once } in i)
      (signals-again island.shape on own charges is_island wired signals charged)
      ∙ ap (λ c. let i : IslandState = record { nets = nets_after parts island later driven settled_signals c once } in i)
      (charges-again island.shape on own charges is_island wired signals charged settled_signals refl)
      ∙ ap (λ l. let i : IslandState = record { nets = l } in i)
      (nets_after-again parts island now later driven settled_signals left s.nets)
