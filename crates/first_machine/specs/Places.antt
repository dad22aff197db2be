-- How the plain run finds the values in force and the times of its steps.
use Rattle.std.specs.Prelude.{◌≡◌, ◌≢◌, ℕ, ◌<◌, ◌≤◌, true, List, [], length, map, take, slice_index, Option, Some, None, if◌then◌else◌, nat_lt}
use Rattle.level_range.specs.declared.range.Logic.{Logic}
use Rattle.level_range.specs.declared.range.Logic.TheVariants.{Z}
use Rattle.gate_net.specs.Sound.{times_of}
use Rattle.gate_net.specs.declared.netlist.Netlist.{Netlist}
use Rattle.gate_net.specs.declared.stimulus.ValueLine.{ValueLine}
use Rattle.gate_net.specs.declared.stimulus.Stimulus.{Stimulus}
use Rattle.first_machine.specs.Machine.{strong}
use Rattle.first_machine.specs.Run.{last_values, in_force}
use Rattle.first_machine.specs.Shown.{Values, logic_at, same_logic}

-- a place of the net among the first count that are listed; none where it isn't among them
abbrev pub IsPlace : List ℕ → ℕ → ℕ → Option ℕ → Type 0
IsPlace listed count n None = (j : ℕ) → j < count → slice_index listed j ≢ n
IsPlace listed count n (Some p) = (p < count) × (slice_index listed p ≡ n)

-- the value at a place: z where there is none, x where no value came yet
abbrev pub placed_value : List Logic → Option ℕ → Logic
placed_value values None = Z
placed_value values (Some p) = logic_at values p

-- the time of a line
abbrev pub time_at : List ValueLine → ℕ → ℕ
time_at lines j = slice_index (times_of lines) j

-- the first lines have earlier times, and the others have not
pub record AreEarlier (lines : List ValueLine) (tick count : ℕ) : Type 0 where
  pub few : count ≤ length lines
  pub before : (j : ℕ) → j < count → time_at lines j < tick
  pub after : (j : ℕ) → count ≤ j → j < length lines → tick ≤ time_at lines j

-- the first lines have times up to the tick, and the others have later ones
pub record AreUpTo (lines : List ValueLine) (tick count : ℕ) : Type 0 where
  pub few : count ≤ length lines
  pub before : (j : ℕ) → j < count → time_at lines j ≤ tick
  pub after : (j : ℕ) → count ≤ j → j < length lines → tick < time_at lines j

-- times rise from line to line
abbrev pub DoTimesRise : List ValueLine → Type 0
DoTimesRise lines = (j k : ℕ) → j < k → k < length lines → time_at lines j < time_at lines k

-- the time of the line after the first count, or the end
abbrev pub tick_after : List ValueLine → ℕ → ℕ → ℕ
tick_after lines count end = if nat_lt count (length lines) then time_at lines count else end

-- no target differs from its output
abbrev pub IsQuiet : Netlist → Values → Type 0
IsQuiet netlist values = (k : ℕ) → k < length netlist.gates → same_logic (logic_at values.outs k) (logic_at values.targets k) ≡ true

-- the places find the values in force at each tick
abbrev pub FindsValues : Netlist → Stimulus → List (Option ℕ) → Type 0
FindsValues netlist stimulus places = (tick count : ℕ) → AreUpTo stimulus.lines tick count → map strong (map (placed_value (last_values [] (take count stimulus.lines))) places) ≡ in_force netlist stimulus tick
