-- What cells read of a machine are signals, and which cells they read.
use Rattle.std.proofs.Common.{ℕ, ◌<◌, Bool, true, false, cond, List, [], ◌∷◌, length, sym, subst, inl, inr}
use Rattle.std.specs.Prelude.{All, nat_eq}
use Rattle.std.specs.List.{AllZip}
use Rattle.std.proofs.lemmas.Bool.{cases_lt}
use Rattle.std.proofs.lemmas.List.{get_or_past}
use Rattle.std.proofs.lemmas.List.Elements.{All-nil, All-cons, All-head, All-tail}
use Rattle.std.proofs.lemmas.Option.{slice_get_within, slice_get-get_or}
use Rattle.level_range.specs.Signal.{Signal, IsSignal}
use Rattle.level_range.proofs.Reduction.{undriven-is}
use Rattle.flat_net.specs.declared.kinds.Cell.TheVariants.{Island as IslandCell}
use Rattle.flat_net.specs.declared.parts.Drive.{Drive}
use Rattle.flat_net.specs.declared.parts.Island.{Island}
use Rattle.flat_net.specs.declared.parts.Parts.{Parts}
use Rattle.flat_net.specs.Patches.{Netlist}
use Rattle.flat_net.specs.Islands.{IsLink}
use Rattle.flat_net.specs.Soundness.{IsSound}
use Rattle.flat_net.proofs.Somes.{some_of}
use Rattle.cell_step.specs.declared.states.NetState.{NetState}
use Rattle.cell_step.specs.declared.states.CellState.{CellState}
use Rattle.cell_step.specs.declared.states.CellState.TheVariants.{Element, Island as IslandStates}
use Rattle.cell_step.specs.Readings.{no_island, island_at, net_at}
use Rattle.cell_step.specs.Islands.{no_state, state_at}
use Rattle.cell_step.specs.Fitting.{HasSignals, HasElementSignals, HasIslandSignals, HasNetSignals}
use Rattle.machine.specs.Machine.{as_element, as_island, state_among, no_island_state, net_state, number_of, input_among, readings}
use Rattle.cell_step.proofs.Signals.{AreReadings, drive_at-is}

-- ---- signals

as_element-signals : (s : CellState) → HasSignals s → HasElementSignals (as_element s)
as_element-signals (Element s) h = h
as_element-signals (IslandStates s) h = record { out = undriven-is; due = tt }

as_island-signals : (s : CellState) → HasSignals s → HasIslandSignals (as_island s)
as_island-signals (Element s) h = All-nil HasNetSignals
as_island-signals (IslandStates s) h = h

pub state_among-signals : (cells : List CellState) → All HasSignals cells → (number : ℕ) → HasSignals (state_among cells number)
state_among-signals cells h number = elim (cases_lt number (length cells)) [
  | inl lt ↦ h number (IslandStates no_island_state) lt
  | inr ge ↦ subst HasSignals (sym (get_or_past cells number (IslandStates no_island_state) ge)) (All-nil HasNetSignals)
]

no_state-signals : HasNetSignals no_state
no_state-signals = record { settled = undriven-is; seen = undriven-is; due = tt; charge = undriven-is }

state_at-signals : (nets : List NetState) → All HasNetSignals nets → (place : ℕ) → HasNetSignals (state_at nets place)
state_at-signals nets h place = elim (cases_lt place (length nets)) [
  | inl lt ↦ h place no_state lt
  | inr ge ↦ subst HasNetSignals (sym (get_or_past nets place no_state ge)) no_state-signals
]

pub net_state-signals : (parts : Parts) (cells : List CellState) → All HasSignals cells → (net : ℕ) → HasNetSignals (net_state parts cells net)
net_state-signals parts cells h net =
    let number : ℕ = number_of parts (IslandCell (net_at parts net).island) in
    state_at-signals (as_island (state_among cells number)).nets
    (as_island-signals (state_among cells number) (state_among-signals cells h number)) (net_at parts net).place

pub input_among-signal : (inputs : List ℕ) (signals : List Signal) → All IsSignal signals → (net : ℕ) → IsSignal (input_among inputs signals net)
input_among-signal [] signals h net = undriven-is
input_among-signal (input ∷ inputs) [] h net = undriven-is
input_among-signal (input ∷ inputs) (signal ∷ signals) h net =
    by_test (nat_eq input net) (All-head IsSignal signal signals h) (input_among-signal inputs signals (All-tail IsSignal signal signals h) net)
  where
    by_test : (b : Bool) → IsSignal signal → IsSignal (input_among inputs signals net) → IsSignal (cond b signal (input_among inputs signals net))
    by_test true here later = here
    by_test false here later = later

pub readings-are : (netlist : Netlist) (inputs : List Signal) (cells : List CellState) → All IsSignal inputs → All HasSignals cells →
    AreReadings (readings netlist inputs cells)
readings-are netlist inputs cells signals states = record {
  drive = λ element pin.
      drive_at-is _ pin (as_element (state_among cells element))
      (as_element-signals (state_among cells element) (state_among-signals cells states element)).out;
  seen = λ net. (net_state-signals netlist.parts cells states net).seen;
  input = λ net. input_among-signal netlist.parts.inputs inputs signals net;
}

-- ---- elements that islands read

zip-left : {A B : Type 0} (R : A → B → Type 0) (P : A → Type 0) → ((x : A) (y : B) → R x y → P x) → (xs : List A) (ys : List B) → AllZip R xs ys → All P xs
zip-left R P each [] ys h = All-nil P
zip-left R P each (x ∷ xs) [] h = absurd h
zip-left R P each (x ∷ xs) (y ∷ ys) h = All-cons P x xs (each x y h.0) (zip-left R P each xs ys h.1)

module _ (parts : Parts) (sound : IsSound parts) (number : ℕ) where
  abbrev inner : ℕ → Type 0
  inner element = element < length parts.elements

  abbrev inner_drive : Drive → Type 0
  inner_drive drive = drive.element < length parts.elements

  -- the elements that drive the nets of an island are some of the netlist's
  pub drives-within : All inner_drive (island_at parts number).drives
  drives-within = elim (cases_lt number (length parts.islands)) [
    | inl lt ↦
        let island : Island = island_at parts number in
        let is = sound.cells.islands number island (slice_get-get_or parts.islands number no_island lt) in
        λ k d inside.
        let found = some_of _ _ (is.drives k d inside) in
        slice_get_within parts.elements _ found.0 found.1
    | inr ge ↦
        subst (λ (island : Island). All inner_drive island.drives) (sym (get_or_past parts.islands number no_island ge)) (All-nil inner_drive)
  ]

  -- and so are those that join them
  pub links-within : All inner (island_at parts number).links
  links-within = elim (cases_lt number (length parts.islands)) [
    | inl lt ↦
        let island : Island = island_at parts number in
        let is = sound.cells.islands number island (slice_get-get_or parts.islands number no_island lt) in
        zip-left (IsLink parts.elements island.nets) inner
        (λ element link joined. let found = some_of _ _ joined in slice_get_within parts.elements element found.0 found.1)
        island.links island.shape.links is.links
    | inr ge ↦
        subst (λ (island : Island). All inner island.links) (sym (get_or_past parts.islands number no_island ge)) (All-nil inner)
  ]
