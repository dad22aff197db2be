-- The cells of a machine in the phases of a pass.
use Rattle.std.proofs.Common.{◌≡◌, ℕ, ◌<◌, length, refl, ap, sym, ◌∙◌, inl, inr, arith}
use Rattle.std.specs.Prelude.{map}
use Rattle.std.proofs.lemmas.List.{get_or-map, get_or_past, length-map}
use Rattle.std.proofs.lemmas.Bool.{cases_lt}
use Rattle.flat_net.specs.declared.kinds.Cell.{Cell}
use Rattle.flat_net.specs.declared.kinds.Cell.TheVariants.{Element as ElementCell, Island as IslandCell}
use Rattle.flat_net.specs.Patches.{Netlist}
use Rattle.cell_step.specs.declared.states.CellState.TheVariants.{Island}
use Rattle.cell_step.specs.Changes.{mature_cell}
use Rattle.machine.specs.Machine.{Machine, cell_of, cell_state, no_island_state, readings}
use Rattle.machine.specs.Pass.{settle_cell, evaluate_cell, mature, settle, evaluate, first_phase, pass, cell_after, next_readings, next_cell}
use Rattle.machine.proofs.Numbers.{length-map_cells, map_cells-at}

-- ---- how many cells there are

pub length-mature : (m : Machine) → length (mature m).cells ≡ length m.cells
unfolding mature
length-mature m = length-map m.cells (mature_cell m.time)

pub length-settle : (netlist : Netlist) (m : Machine) → length (settle netlist m).cells ≡ length m.cells
unfolding settle
length-settle netlist m = length-map_cells _ m.cells

pub length-evaluate : (netlist : Netlist) (m : Machine) → length (evaluate netlist m).cells ≡ length m.cells
unfolding evaluate
length-evaluate netlist m = length-map_cells _ m.cells

pub length-first_phase : (netlist : Netlist) (m : Machine) → length (first_phase netlist m).cells ≡ length m.cells
unfolding first_phase
length-first_phase netlist m = length-settle netlist (mature m) ∙ length-mature m

pub length-pass : (netlist : Netlist) (m : Machine) → length (pass netlist m).cells ≡ length m.cells
unfolding pass
length-pass netlist m = length-evaluate netlist (first_phase netlist m) ∙ length-first_phase netlist m

-- ---- one cell

pub mature-at : (m : Machine) (number : ℕ) → cell_state (mature m) number ≡ mature_cell m.time (cell_state m number)
unfolding mature
mature-at m number = elim (cases_lt number (length m.cells)) [
  | inl lt ↦ get_or-map (mature_cell m.time) m.cells number (Island no_island_state) (Island no_island_state) lt
  | inr ge ↦
      get_or_past (map (mature_cell m.time) m.cells) number (Island no_island_state)
      (let e = length-map m.cells (mature_cell m.time) in omega arith)
      ∙ sym (ap (mature_cell m.time) (get_or_past m.cells number (Island no_island_state) ge))
]

pub settle-at : (netlist : Netlist) (m : Machine) (number : ℕ) → number < length m.cells →
    cell_state (settle netlist m) number
    ≡ settle_cell netlist (cell_of netlist.parts number) m.time (readings netlist m.inputs m.cells) (cell_state m number)
unfolding settle
settle-at netlist m number lt = map_cells-at _ m.cells number lt

pub evaluate-at : (netlist : Netlist) (m : Machine) (number : ℕ) → number < length m.cells →
    cell_state (evaluate netlist m) number
    ≡ evaluate_cell netlist (cell_of netlist.parts number) m.time (readings netlist m.inputs m.cells) (cell_state m number)
unfolding evaluate
evaluate-at netlist m number lt = map_cells-at _ m.cells number lt

pub first_phase-at : (netlist : Netlist) (m : Machine) (number : ℕ) → number < length m.cells →
    cell_state (first_phase netlist m) number
    ≡ settle_cell netlist (cell_of netlist.parts number) m.time (readings netlist m.inputs (mature m).cells) (mature_cell m.time (cell_state m number))
unfolding first_phase mature
first_phase-at netlist m number lt =
    settle-at netlist (mature m) number (let e = length-mature m in omega arith)
    ∙ ap (settle_cell netlist (cell_of netlist.parts number) m.time (readings netlist m.inputs (mature m).cells)) (mature-at m number)

-- the state of a cell after a pass is a function of the machine before it
pub pass-at : (netlist : Netlist) (m : Machine) (number : ℕ) → number < length m.cells →
    cell_state (pass netlist m) number ≡ next_cell netlist m number
unfolding pass first_phase settle mature next_cell
pass-at netlist m number lt =
    evaluate-at netlist (first_phase netlist m) number (let e = length-first_phase netlist m in omega arith)
    ∙ ap (evaluate_cell netlist (cell_of netlist.parts number) m.time (readings netlist m.inputs (first_phase netlist m).cells))
    (first_phase-at netlist m number lt)
    ∙ both (cell_of netlist.parts number)
  where
    both : (cell : Cell) →
        evaluate_cell netlist cell m.time (readings netlist m.inputs (first_phase netlist m).cells)
        (settle_cell netlist cell m.time (readings netlist m.inputs (mature m).cells) (mature_cell m.time (cell_state m number)))
        ≡ cell_after netlist cell m.time (next_readings netlist m cell) (mature_cell m.time (cell_state m number))
    both (ElementCell element) = refl
    both (IslandCell island) = refl
