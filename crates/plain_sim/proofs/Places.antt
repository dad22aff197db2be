-- Elements and nets find their states in the lists.
use Rattle.std.proofs.Common.{◌≡◌, ℕ, ◌<◌, List, length, get_or, Bool, true, false, refl, ap, sym, ◌∙◌, subst, arith, inl, inr}
use Rattle.std.specs.Prelude.{IsTrue, Some, slice_get}
use Rattle.std.proofs.lemmas.Bool.{cases_lt, false≢true}
use Rattle.std.proofs.lemmas.List.{get_or_past}
use Rattle.std.proofs.lemmas.Option.{slice_get-get_or, slice_get_within, get_or_from_slice_get}
use Rattle.flat_net.specs.declared.kinds.Cell.TheVariants.{Element as ElementCell, Island as IslandCell}
use Rattle.flat_net.specs.declared.parts.Element.{Element as ElementPart}
use Rattle.flat_net.specs.declared.parts.Island.{Island as IslandPart}
use Rattle.flat_net.specs.declared.parts.Parts.{Parts}
use Rattle.flat_net.specs.Elements.{joins_ends}
use Rattle.flat_net.specs.Soundness.{IsSound}
use Rattle.flat_net.proofs.Somes.{some_of}
use Rattle.cell_step.specs.declared.states.CellState.{CellState}
use Rattle.cell_step.specs.declared.states.CellState.TheVariants.{Element, Island}
use Rattle.cell_step.specs.Readings.{IsOutput, IsSwitch, no_island, no_net, net_at, island_at}
use Rattle.cell_step.specs.Fitting.{FitsCell, FitsNet}
use Rattle.cell_step.proofs.Mapping.{zip-length}
use Rattle.machine.specs.Machine.{as_island, state_among}
use Rattle.plain_sim.specs.Lists.{AreElements, AreIslands, HasElements, HasNets, is_element}
use Rattle.plain_sim.proofs.Stepping.{no_cell}

pub output-within : (parts : Parts) (element pin : ℕ) → IsOutput parts element pin → element < length parts.elements
output-within parts element pin is =
    let found = some_of (λ (e : ElementPart). pin < length e.outs) (slice_get parts.elements element) is in
    slice_get_within parts.elements element found.0 found.1

pub switch-within : (parts : Parts) (element : ℕ) → IsSwitch parts element → element < length parts.elements
switch-within parts element is =
    let found = some_of (λ (e : ElementPart). IsTrue (joins_ends e.kind)) (slice_get parts.elements element) is in
    slice_get_within parts.elements element found.0 found.1

-- what is no element is past the end, or an island
pub has-within : (parts : Parts) (elements : List CellState) (number : ℕ) → HasElements parts elements → number < length parts.elements →
    number < length elements
has-within parts elements number has lt = elim (cases_lt number (length elements)) [
  | inl within ↦ within
  | inr past ↦ absurd (false≢true (sym (ap is_element (get_or_past elements number no_cell past)) ∙ has number lt))
]

pub no-island : (parts : Parts) (elements : List CellState) (number : ℕ) (s : CellState) → HasElements parts elements →
    number < length parts.elements → state_among elements number ≡ s → is_element s ≡ false → ⊥
no-island parts elements number s has lt is island = false≢true (sym island ∙ ap is_element (sym is) ∙ has number lt)

fits-element : (parts : Parts) (number : ℕ) (s : CellState) → FitsCell parts (ElementCell number) s → is_element s ≡ true
fits-element parts number (Element s) fits = refl
fits-element parts number (Island s) fits = absurd fits

pub has-elements : (parts : Parts) (elements : List CellState) → AreElements parts elements → HasElements parts elements
has-elements parts elements are number lt = fits-element parts number (state_among elements number) (are.fits number lt)

pub fits-island : (parts : Parts) (number : ℕ) (s : CellState) → FitsCell parts (IslandCell number) s →
    length (island_at parts number).nets ≡ length (as_island s).nets
fits-island parts number (Element s) fits = absurd fits
fits-island parts number (Island s) fits = zip-length _ (island_at parts number).nets s.nets fits

pub has-nets : (parts : Parts) → IsSound parts → (islands : List CellState) → AreIslands parts islands → HasNets parts islands
has-nets parts sound islands are net lt =
    let part = net_at parts net in
    let is = sound.cells.nets net part (slice_get-get_or parts.nets net no_net lt) in
    let found = some_of (λ (island : IslandPart). slice_get island.nets part.place ≡ Some net) (slice_get parts.islands part.island) is.place in
    let within : part.island < length parts.islands = slice_get_within parts.islands part.island found.0 found.1 in
    let same : island_at parts part.island ≡ found.0 = get_or_from_slice_get parts.islands part.island found.0 no_island found.1 in
    let deep : part.place < length found.0.nets = slice_get_within found.0.nets part.place net found.2 in
    let long : length (island_at parts part.island).nets ≡ length (as_island (state_among islands part.island)).nets =
    fits-island parts part.island (state_among islands part.island) (are.fits part.island within) in
    let e : length (island_at parts part.island).nets ≡ length found.0.nets = ap (λ (i : IslandPart). length i.nets) same in
    omega arith

-- the island of a net, whose state is there
pub island-within : (islands : List CellState) (number place : ℕ) → place < length (as_island (state_among islands number)).nets →
    number < length islands
island-within islands number place deep = elim (cases_lt number (length islands)) [
  | inl within ↦ within
  | inr past ↦
      absurd (let e : length (as_island (state_among islands number)).nets ≡ 0 =
      ap (λ (s : CellState). length (as_island s).nets) (get_or_past islands number no_cell past) in omega arith)
]
