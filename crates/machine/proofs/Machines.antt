-- The start of a sound netlist is a machine of it; to begin a time and to make a pass leave it one.
use Rattle.std.proofs.Common.{◌≡◌, ℕ, ◌<◌, ◌≤◌, List, length, get_or, replicate, ap, sym, ◌∙◌, subst, arith}
use Rattle.std.specs.Prelude.{All}
use Rattle.std.proofs.lemmas.Bool.{false≢true}
use Rattle.std.proofs.lemmas.List.{length-replicate}
use Rattle.std.proofs.lemmas.List.Elements.{All-replicate, All-from_get_or}
use Rattle.std.proofs.lemmas.List.FromFn.{length-map-range_with_len, get_or-map-range_with_len}
use Rattle.level_range.specs.Signal.{Signal, IsSignal, undriven}
use Rattle.level_range.proofs.Reduction.{undriven-is}
use Rattle.flat_net.specs.declared.kinds.Cell.{Cell}
use Rattle.flat_net.specs.declared.kinds.Cell.TheVariants.{Element as ElementCell, Island as IslandCell}
use Rattle.flat_net.specs.Patches.{Netlist}
use Rattle.flat_net.specs.Soundness.{IsSound}
use Rattle.cell_step.specs.declared.states.CellState.{CellState}
use Rattle.cell_step.specs.declared.states.CellState.TheVariants.{Island}
use Rattle.cell_step.specs.Readings.{Readings}
use Rattle.cell_step.specs.Changes.{mature_cell}
use Rattle.cell_step.specs.Fitting.{FitsCell, HasSignals}
use Rattle.machine.specs.Machine.{Machine, cell_count, cell_of, cell_state, no_island_state, cell_start, start, begin, readings}
use Rattle.machine.specs.Pass.{cell_after, settle_cell, mature, settle, evaluate, first_phase, pass, next_readings, next_cell}
use Rattle.machine.specs.Touched.{last_readings}
use Rattle.machine.specs.Sound.{AreInputs, IsMachine, Rests}
use Rattle.machine.proofs.Numbers.{cell_of-is}
use Rattle.machine.proofs.PassAt.{length-first_phase, length-pass, mature-at, first_phase-at, pass-at}
use Rattle.machine.proofs.Locality.{cell_after-local}
use Rattle.cell_step.specs.Fitting.{HasAcceptedPrimitives}
use Rattle.cell_step.proofs.Signals.{AreReadings}
use Rattle.cell_step.proofs.CellsKept.{mature_cell-fits, mature_cell-signals}
use Rattle.machine.proofs.Cells.{cell_after-again, cell_after-fits, cell_after-signals, cell_start-fits, cell_start-signals}
use Rattle.machine.proofs.Reading.{state_among-signals, readings-are}
use Rattle.machine.proofs.SecondPhase.{reads-kept}

-- ---- the start

module _ (netlist : Netlist) (sound : IsSound netlist.parts) (accepted : HasAcceptedPrimitives netlist.parts) where
  start-length : length (start netlist).cells ≡ cell_count netlist.parts
  unfolding start
  start-length = length-map-range_with_len _ 0 (cell_count netlist.parts)

  start-at : (number : ℕ) (d : CellState) → number < cell_count netlist.parts →
      get_or (start netlist).cells number d ≡ cell_start netlist (cell_of netlist.parts number)
  unfolding start
  start-at number d lt = get_or-map-range_with_len _ 0 (cell_count netlist.parts) number number d lt (omega arith)

  no-inputs : AreInputs netlist.parts (replicate (length netlist.parts.inputs) undriven)
  no-inputs = record {
    count = length-replicate (length netlist.parts.inputs) undriven;
    signals = All-replicate IsSignal (length netlist.parts.inputs) undriven undriven-is;
  }

  pub start-is_machine : IsMachine netlist (start netlist)
  unfolding start
  start-is_machine = record {
    count = start-length;
    fits = λ number lt.
        subst (FitsCell netlist.parts (cell_of netlist.parts number)) (sym (start-at number (Island no_island_state) lt))
        (cell_start-fits netlist sound accepted (cell_of netlist.parts number) (cell_of-is netlist.parts number lt));
    signals = λ number d lt.
        let inside : number < cell_count netlist.parts = (let e = start-length in omega arith) in
        subst HasSignals (sym (start-at number d inside))
        (cell_start-signals netlist sound (cell_of netlist.parts number) (cell_of-is netlist.parts number inside));
    inputs = no-inputs;
    last_inputs = no-inputs;
    rests = λ passed. absurd (false≢true passed);
  }

-- ---- a time begins

pub begin-is_machine : (netlist : Netlist) (m : Machine) (time : ℕ) (inputs : List Signal) → IsMachine netlist m → AreInputs netlist.parts inputs →
    IsMachine netlist (begin time inputs m)
begin-is_machine netlist m time inputs machine are = record {
  count = machine.count;
  fits = machine.fits;
  signals = machine.signals;
  inputs = are;
  last_inputs = machine.last_inputs;
  rests = machine.rests;
}

-- ---- a pass

settle-signals : (netlist : Netlist) (cell : Cell) (now : ℕ) (r : Readings) (s : CellState) → HasSignals s → HasSignals (cell_after netlist cell now r s) →
    HasSignals (settle_cell netlist cell now r s)
settle-signals netlist (ElementCell number) now r s before after = before
settle-signals netlist (IslandCell number) now r s before after = after

module _ (netlist : Netlist) (sound : IsSound netlist.parts) (accepted : HasAcceptedPrimitives netlist.parts) (m : Machine) (machine : IsMachine netlist m) where
  abbrev count : ℕ
  count = cell_count netlist.parts

  abbrev cell : ℕ → Cell
  cell number = cell_of netlist.parts number

  -- a cell once what is due has taken effect
  abbrev ripe : ℕ → CellState
  ripe number = mature_cell m.time (cell_state m number)

  signals-at : (number : ℕ) → HasSignals (cell_state m number)
  signals-at number = state_among-signals m.cells machine.signals number

  ripe-fits : (number : ℕ) → number < count → FitsCell netlist.parts (cell number) (ripe number)
  ripe-fits number lt =
      mature_cell-fits netlist.parts (cell number) m.time (cell_state m number) (machine.fits number lt)

  ripe-signals : (number : ℕ) → HasSignals (ripe number)
  ripe-signals number = mature_cell-signals m.time (cell_state m number) (signals-at number)

  mature-signals : All HasSignals (mature m).cells
  mature-signals =
      All-from_get_or HasSignals (mature m).cells (Island no_island_state)
      (λ number lt. subst HasSignals (sym (mature-at m number)) (ripe-signals number))

  mature-readings : AreReadings (readings netlist m.inputs (mature m).cells)
  mature-readings = readings-are netlist m.inputs (mature m).cells machine.inputs.signals mature-signals

  first_phase-signals : All HasSignals (first_phase netlist m).cells
  first_phase-signals =
      All-from_get_or HasSignals (first_phase netlist m).cells (Island no_island_state)
      (λ number lt.
      let inside : number < length m.cells = (let e = length-first_phase netlist m in omega arith) in
      let within : number < count = (let f = machine.count in omega arith) in
      let r : Readings = readings netlist m.inputs (mature m).cells in
      subst HasSignals (sym (first_phase-at netlist m number inside))
      (settle-signals netlist (cell number) m.time r (ripe number) (ripe-signals number)
      (cell_after-signals netlist sound (cell number) (cell_of-is netlist.parts number within) m.time r (ripe number) mature-readings (ripe-fits number within) (ripe-signals number))))

  -- all that cells read in the pass are signals
  next-readings : (c : Cell) → AreReadings (next_readings netlist m c)
  next-readings (ElementCell number) = readings-are netlist m.inputs (first_phase netlist m).cells machine.inputs.signals first_phase-signals
  next-readings (IslandCell number) = mature-readings

  pass-cell : (number : ℕ) → number < count →
      cell_state (pass netlist m) number ≡ cell_after netlist (cell number) m.time (next_readings netlist m (cell number)) (ripe number)
  unfolding next_cell
  pass-cell number lt = pass-at netlist m number (let e = machine.count in omega arith)

  pass-fits : (number : ℕ) → number < count → FitsCell netlist.parts (cell number) (cell_state (pass netlist m) number)
  pass-fits number lt =
      subst (FitsCell netlist.parts (cell number)) (sym (pass-cell number lt))
      (cell_after-fits netlist sound accepted (cell number) (cell_of-is netlist.parts number lt) m.time (next_readings netlist m (cell number)) (ripe number)
      (next-readings (cell number)) (ripe-fits number lt))

  pass-signals : All HasSignals (pass netlist m).cells
  pass-signals =
      All-from_get_or HasSignals (pass netlist m).cells (Island no_island_state)
      (λ number lt.
      let within : number < count = (let e = length-pass netlist m in let f = machine.count in omega arith) in
      subst HasSignals (sym (pass-cell number within))
      (cell_after-signals netlist sound (cell number) (cell_of-is netlist.parts number within) m.time (next_readings netlist m (cell number)) (ripe number)
      (next-readings (cell number)) (ripe-fits number within) (ripe-signals number)))

  pass-rests : (number : ℕ) → number < count → Rests netlist (pass netlist m) number
  pass-rests number lt later =
      let r : Readings = next_readings netlist m (cell number) in
      let e = pass-cell number lt in
      let long : length netlist.parts.elements ≤ length m.cells = (let f = machine.count in omega arith) in
      cell_after-local netlist (cell number) later (last_readings netlist (pass netlist m)) r (cell_state (pass netlist m) number)
      (reads-kept netlist m sound long (cell number))
      ∙ ap (cell_after netlist (cell number) later r) e
      ∙ cell_after-again netlist sound (cell number) (cell_of-is netlist.parts number lt) m.time later r (ripe number) (next-readings (cell number)) (ripe-fits number lt)
      ∙ sym e

  pub pass-is_machine : IsMachine netlist (pass netlist m)
  unfolding pass evaluate first_phase settle mature
  pass-is_machine = record {
    count = length-pass netlist m ∙ machine.count;
    fits = pass-fits;
    signals = pass-signals;
    inputs = machine.inputs;
    last_inputs = machine.inputs;
    rests = λ passed. pass-rests;
  }
