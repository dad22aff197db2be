-- Changes and decays that are due, and how they take effect (IEEE 1364-2005, 7.13 and 7.14).
use Rattle.std.specs.Prelude.{ℕ, Bool, false, pos, unsigned_abs, nat_le, if◌then◌else◌, List, map, Option, Some, None}
use Rattle.level_range.specs.Signal.{Signal, negative_level}
use Rattle.delay_rule.specs.declared.inertia.Pending.{Pending}
use Rattle.cell_step.specs.declared.states.Timer.{Timer}
use Rattle.cell_step.specs.declared.states.Timer.TheVariants.{Idle, Running, Ended}
use Rattle.cell_step.specs.declared.states.NetState.{NetState}
use Rattle.cell_step.specs.declared.states.ElementState.{ElementState}
use Rattle.cell_step.specs.declared.states.IslandState.{IslandState}
use Rattle.cell_step.specs.declared.states.CellState.{CellState}
use Rattle.cell_step.specs.declared.states.CellState.TheVariants.{Element, Island}

-- whether a change is pending for this time or an earlier one
abbrev pub is_due : {V : Type 0} → ℕ → Option (Pending V) → Bool
is_due now None = false
is_due now (Some change) = nat_le change.at now

-- the value after a change that is due
abbrev pub mature_value : {V : Type 0} → ℕ → V → Option (Pending V) → V
mature_value now present None = present
mature_value now present (Some change) = if nat_le change.at now then change.value else present

-- what is pending after a change that is due
abbrev pub mature_due : {V : Type 0} → ℕ → Option (Pending V) → Option (Pending V)
mature_due now None = None
mature_due now (Some change) = if nat_le change.at now then None else Some change

-- whether a decay is due
abbrev pub is_timer_due : ℕ → Timer → Bool
is_timer_due now Idle = false
is_timer_due now (Running at) = nat_le at now
is_timer_due now Ended = false

-- a charge of a strength after its decay: its value isn't known
abbrev pub decay : Signal → Signal
decay charge = record { lo = negative_level (unsigned_abs charge.lo); hi = pos (unsigned_abs charge.lo) }

-- an element whose changes take effect that are due
abbrev pub mature_element : ℕ → ElementState → ElementState
mature_element now s = record s {
  out = mature_value now s.out s.due;
  on = mature_value now s.on s.switch_due;
  due = mature_due now s.due;
  switch_due = mature_due now s.switch_due;
}

-- a net whose change takes effect and whose timer ends where they are due
abbrev pub mature_net : ℕ → NetState → NetState
mature_net now s = record s {
  seen = mature_value now s.seen s.due;
  due = mature_due now s.due;
  charge = if is_timer_due now s.timer then decay s.charge else s.charge;
  timer = if is_timer_due now s.timer then Ended else s.timer;
}

abbrev pub mature_island : ℕ → IslandState → IslandState
mature_island now s = record { nets = map (mature_net now) s.nets }

-- a cell after what is due has taken effect
abbrev pub mature_cell : ℕ → CellState → CellState
mature_cell now (Element s) = Element (mature_element now s)
mature_cell now (Island s) = Island (mature_island now s)
