-- Stillness: a cell that a pass doesn't touch keeps its state, and a machine in which nothing is due and whose inputs are
-- those of its last pass keeps all its cells.
use Rattle.std.proofs.Common.{◌≡◌, ℕ, ◌<◌, true, false, List, length, refl, ap, sym, ◌∙◌, inl, inr, arith}
use Rattle.std.proofs.lemmas.Bool.{true_from_ne_false, false_from_ne_true}
use Rattle.std.proofs.lemmas.List.{ext_get_or}
use Rattle.level_range.specs.Signal.{Signal}
use Rattle.flat_net.specs.declared.kinds.Cell.{Cell}
use Rattle.flat_net.specs.declared.kinds.Cell.TheVariants.{Element as ElementCell, Island as IslandCell}
use Rattle.flat_net.specs.Patches.{Netlist}
use Rattle.cell_step.specs.declared.states.CellState.{CellState}
use Rattle.cell_step.specs.declared.states.CellState.TheVariants.{Island}
use Rattle.cell_step.specs.Readings.{Readings}
use Rattle.machine.specs.Machine.{Machine, cell_count, cell_of, cell_state, no_island_state, readings}
use Rattle.machine.specs.Pass.{is_cell_due, is_machine_due, cell_after, settle_cell, evaluate_cell, mature, settle, evaluate, first_phase, pass, next_readings, next_cell}
use Rattle.machine.specs.Touched.{AgreeAt, IsTouched, last_readings}
use Rattle.machine.specs.Sound.{IsMachine, Rests}
use Rattle.machine.proofs.PassAt.{pass-at, settle-at, evaluate-at, length-settle, length-evaluate}
use Rattle.machine.proofs.Locality.{cell_after-local}
use Rattle.machine.proofs.Maturing.{cell-still, mature-still}
use Rattle.machine.proofs.Agreement.{AgreeAt-stable}

module _ (netlist : Netlist) (m : Machine) (machine : IsMachine netlist m) (number : ℕ) (inside : number < cell_count netlist.parts)
    (untouched : ¬ IsTouched netlist m number) where
  abbrev cell : Cell
  cell = cell_of netlist.parts number

  passed : m.has_passed ≡ true
  passed = true_from_ne_false m.has_passed (λ e. untouched (inl e))

  not_due : is_cell_due m.time (cell_state m number) ≡ false
  not_due = false_from_ne_true (is_cell_due m.time (cell_state m number)) (λ e. untouched (inr (inl e)))

  agree : AgreeAt netlist.parts cell (last_readings netlist m) (next_readings netlist m cell)
  agree =
      AgreeAt-stable netlist.parts cell (last_readings netlist m) (next_readings netlist m cell)
      (λ fails. untouched (inr (inr fails)))

  -- its state after the pass is its present one
  next_cell-untouched : next_cell netlist m number ≡ cell_state m number
  unfolding next_cell
  next_cell-untouched =
      ap (cell_after netlist cell m.time (next_readings netlist m cell)) (cell-still m.time (cell_state m number) not_due)
      ∙ sym (cell_after-local netlist cell m.time (last_readings netlist m) (next_readings netlist m cell) (cell_state m number) agree)
      ∙ machine.rests passed number inside m.time

  pub cell-untouched : cell_state (pass netlist m) number ≡ cell_state m number
  cell-untouched = pass-at netlist m number (let e = machine.count in omega arith) ∙ next_cell-untouched

-- where a cell's part in a pass changes nothing, neither phase changes it
settle-rest : (netlist : Netlist) (cell : Cell) (now : ℕ) (r : Readings) (s : CellState) → cell_after netlist cell now r s ≡ s → settle_cell netlist cell now r s ≡ s
settle-rest netlist (ElementCell number) now r s e = refl
settle-rest netlist (IslandCell number) now r s e = e

evaluate-rest : (netlist : Netlist) (cell : Cell) (now : ℕ) (r : Readings) (s : CellState) → cell_after netlist cell now r s ≡ s → evaluate_cell netlist cell now r s ≡ s
evaluate-rest netlist (ElementCell number) now r s e = e
evaluate-rest netlist (IslandCell number) now r s e = refl

-- a machine whose cells are at rest, with the inputs of its last pass
module _ (netlist : Netlist) (m : Machine) (count : length m.cells ≡ cell_count netlist.parts)
    (rests : (number : ℕ) → number < cell_count netlist.parts → Rests netlist m number) (inputs : m.inputs ≡ m.last_inputs) where
  abbrev none : CellState
  none = Island no_island_state

  last : readings netlist m.inputs m.cells ≡ readings netlist m.last_inputs m.cells
  last = ap (λ (signals : List Signal). readings netlist signals m.cells) inputs

  -- the part of a cell in a pass from the present readings changes nothing
  here : (number : ℕ) → number < cell_count netlist.parts →
      cell_after netlist (cell_of netlist.parts number) m.time (readings netlist m.inputs m.cells) (cell_state m number) ≡ cell_state m number
  here number lt =
      ap (λ (r : Readings). cell_after netlist (cell_of netlist.parts number) m.time r (cell_state m number)) last
      ∙ rests number lt m.time

  settle-still : (settle netlist m).cells ≡ m.cells
  settle-still =
      ext_get_or none (settle netlist m).cells m.cells (length-settle netlist m)
      (λ number lt.
      let inside : number < length m.cells = (let e = length-settle netlist m in omega arith) in
      settle-at netlist m number inside
      ∙ settle-rest netlist (cell_of netlist.parts number) m.time (readings netlist m.inputs m.cells) (cell_state m number) (here number (omega arith)))

  evaluate-still : (evaluate netlist m).cells ≡ m.cells
  evaluate-still =
      ext_get_or none (evaluate netlist m).cells m.cells (length-evaluate netlist m)
      (λ number lt.
      let inside : number < length m.cells = (let e = length-evaluate netlist m in omega arith) in
      evaluate-at netlist m number inside
      ∙ evaluate-rest netlist (cell_of netlist.parts number) m.time (readings netlist m.inputs m.cells) (cell_state m number) (here number (omega arith)))

-- the machine with these cells
abbrev with_cells : Machine → List CellState → Machine
with_cells m cells = record m { cells = cells }

mature-same : (m : Machine) → is_machine_due m ≡ false → mature m ≡ m
unfolding mature
mature-same m e = ap (with_cells m) (mature-still m e)

settle-same : (netlist : Netlist) (m : Machine) → (settle netlist m).cells ≡ m.cells → settle netlist m ≡ m
unfolding settle
settle-same netlist m e = ap (with_cells m) e

-- a pass on a machine that made one, in which nothing is due and whose inputs are those of its last pass, changes no cell
pub pass-still : (netlist : Netlist) (m : Machine) → IsMachine netlist m → m.has_passed ≡ true → is_machine_due m ≡ false → m.inputs ≡ m.last_inputs →
    (pass netlist m).cells ≡ m.cells
unfolding pass first_phase
pass-still netlist m machine passed quiet inputs =
    ap (λ (n : Machine). (evaluate netlist (settle netlist n)).cells) (mature-same m quiet)
    ∙ ap (λ (n : Machine). (evaluate netlist n).cells)
    (settle-same netlist m (settle-still netlist m machine.count (machine.rests passed) inputs))
    ∙ evaluate-still netlist m machine.count (machine.rests passed) inputs
