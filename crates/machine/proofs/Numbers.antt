-- Cells by their numbers, and the states of all cells as a list.
use Rattle.std.proofs.Common.{◌≡◌, ℕ, ◌+◌, ◌-◌, ◌<◌, ◌≤◌, List, length, refl, ap, sym, ◌∙◌, subst, inl, inr, arith}
use Rattle.std.specs.List.{enumerate_from}
use Rattle.std.proofs.lemmas.List.{get_or-map, length-map}
use Rattle.std.proofs.lemmas.List.FromFn.{length-enumerate_from, get_or-enumerate_from}
use Rattle.std.proofs.lemmas.Bool.{cases_lt, lt-ltb, le-ltb}
use Rattle.flat_net.specs.declared.kinds.Cell.TheVariants.{Element as ElementCell, Island as IslandCell}
use Rattle.flat_net.specs.declared.parts.Parts.{Parts}
use Rattle.flat_net.specs.Patches.{IsCell}
use Rattle.cell_step.specs.declared.states.CellState.{CellState}
use Rattle.cell_step.specs.declared.states.CellState.TheVariants.{Island}
use Rattle.machine.specs.Machine.{cell_count, cell_of, number_of, no_island_state, state_among, map_cells}

-- ---- numbers

pub cell_of-element : (parts : Parts) (number : ℕ) → number < length parts.elements → cell_of parts number ≡ ElementCell number
cell_of-element parts number lt = rw (lt-ltb number (length parts.elements) lt) refl

pub cell_of-island : (parts : Parts) (island : ℕ) → cell_of parts (number_of parts (IslandCell island)) ≡ IslandCell island
cell_of-island parts island =
    let e : length parts.elements + island - length parts.elements ≡ island = omega arith in
    rw (le-ltb (length parts.elements + island) (length parts.elements) (omega arith)) (ap IslandCell e)

pub cell_of-past : (parts : Parts) (number : ℕ) → length parts.elements ≤ number → cell_of parts number ≡ IslandCell (number - length parts.elements)
cell_of-past parts number ge = rw (le-ltb number (length parts.elements) ge) refl

-- below the count of cells a number is that of a cell
pub cell_of-is : (parts : Parts) (number : ℕ) → number < cell_count parts → IsCell parts (cell_of parts number)
cell_of-is parts number inside = elim (cases_lt number (length parts.elements)) [
  | inl lt ↦ subst (IsCell parts) (sym (cell_of-element parts number lt)) lt
  | inr ge ↦
      let within : number - length parts.elements < length parts.islands = omega arith in
      subst (IsCell parts) (sym (cell_of-past parts number ge)) within
]

pub number_of-cell_of : (parts : Parts) (number : ℕ) → number_of parts (cell_of parts number) ≡ number
number_of-cell_of parts number = elim (cases_lt number (length parts.elements)) [
  | inl lt ↦ ap (number_of parts) (cell_of-element parts number lt)
  | inr ge ↦
      let e : length parts.elements + (number - length parts.elements) ≡ number = omega arith in
      ap (number_of parts) (cell_of-past parts number ge) ∙ e
]

-- ---- the states of all cells

pub length-map_cells : (change : ℕ → CellState → CellState) (cells : List CellState) → length (map_cells change cells) ≡ length cells
unfolding map_cells
length-map_cells change cells = length-map (enumerate_from 0 cells) (λ (cell : ℕ × CellState). change cell.0 cell.1) ∙ length-enumerate_from 0 cells

pub map_cells-at : (change : ℕ → CellState → CellState) (cells : List CellState) (number : ℕ) → number < length cells →
    state_among (map_cells change cells) number ≡ change number (state_among cells number)
unfolding map_cells
map_cells-at change cells number lt =
    let none : CellState = Island no_island_state in
    get_or-map (λ (cell : ℕ × CellState). change cell.0 cell.1) (enumerate_from 0 cells) number (0, none) none
    (let e = length-enumerate_from 0 cells in omega arith)
    ∙ ap (λ (cell : ℕ × CellState). change cell.0 cell.1) (get_or-enumerate_from 0 cells number (0, none) lt)
    ∙ ap (λ (k : ℕ). change k (state_among cells number)) (omega arith)
