-- For the code and its proofs alone: a wheel with the times for which something is pending. Its keys are the numbers of the
-- elements, then one for the change of each net, and then one for the timer of each net.
use Rattle.std.specs.Prelude.{◌≡◌, ℕ, ◌+◌, ◌<◌, ◌≤◌, ◌^◌, nat_eq, if◌then◌else◌, List, All, length, Option, None}
use Rattle.std.specs.FinMap.{get, len}
use Rattle.timing_wheel.specs.Wheel.{Times, Pending}
use Rattle.flat_net.specs.declared.parts.Parts.{Parts}
use Rattle.cell_step.specs.declared.states.CellState.{CellState}
use Rattle.machine.specs.Machine.{state_among}
use Rattle.machine.specs.Pass.{change_times, timer_times, cell_times}
use Rattle.machine.specs.Run.{least}
use Rattle.plain_sim.specs.Lists.{net_among}

-- how many keys there are, and those of a net
abbrev pub key_count : Parts → ℕ
key_count parts = length parts.elements + length parts.nets + length parts.nets

abbrev pub change_key : Parts → ℕ → ℕ
change_key parts net = length parts.elements + net

abbrev pub timer_key : Parts → ℕ → ℕ
timer_key parts net = length parts.elements + length parts.nets + net

-- the times for which something is pending in an element, for which a change of a net is, and for which its timer is
abbrev pub element_time : List CellState → ℕ → Option ℕ
element_time elements number = least (cell_times (state_among elements number))

abbrev pub change_time : Parts → List CellState → ℕ → Option ℕ
change_time parts islands net = least (change_times (net_among parts islands net).due)

abbrev pub timer_time : Parts → List CellState → ℕ → Option ℕ
timer_time parts islands net = least (timer_times (net_among parts islands net).timer)

-- each element has its time
abbrev pub HasElementTimes : Parts → List CellState → Times → Type 0
HasElementTimes parts elements times =
    (number : ℕ) → number < length parts.elements → get times number ≡ element_time elements number

-- a net has its times
abbrev pub HasNetTimes : Parts → List CellState → Times → ℕ → Type 0
HasNetTimes parts islands times net =
    (get times (change_key parts net) ≡ change_time parts islands net)
    × (get times (timer_key parts net) ≡ timer_time parts islands net)

-- no key is there from this one on
abbrev pub NonePast : ℕ → Times → Type 0
NonePast count times = (key : ℕ) → count ≤ key → get times key ≡ None

-- the times are those for which something is pending
pub record AreDueTimes (parts : Parts) (elements islands : List CellState) (times : Times) : Type 0 where
  pub of_elements : HasElementTimes parts elements times
  pub of_nets : (net : ℕ) → net < length parts.nets → HasNetTimes parts islands times net
  pub past : NonePast (key_count parts) times

-- so many keys, each of which is there or has room
pub record HasKeyRoom (count : ℕ) (wheel : Pending) : Type 0 where
  pub past : NonePast count wheel.times
  pub room : count ≤ wheel.spare + len wheel.times

-- a key has this time, or is not there, and the others are as before
abbrev pub SetsTime : Times → Times → ℕ → Option ℕ → Type 0
SetsTime old new key time = (other : ℕ) → get new other ≡ (if nat_eq other key then time else get old other)

-- how many keys are there or have room
abbrev pub room_of : Pending → ℕ
room_of wheel = wheel.spare + len wheel.times

-- the times are such as a time of the run and a delay reach
abbrev pub AreSoonTimes : List ℕ → Type 0
AreSoonTimes times = All (λ at. at < 2 ^ 49) times

abbrev pub AreSoon : List CellState → Type 0
AreSoon cells = (number : ℕ) → AreSoonTimes (cell_times (state_among cells number))
