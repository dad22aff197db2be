-- Runs: time steps up to the end, the strobes, and the run of a faulty netlist.
use Rattle.std.specs.Prelude.{◌≡◌, ◌⊎◌, ℕ, zero, suc, ◌+◌, ◌<◌, ◌≤◌, min, nat_eq, nat_lt, nat_le, ◌&&◌, true, false, if◌then◌else◌, List, [], ◌∷◌, ◌++◌, length, filter, map, Contains, Option, Some, None, slice_index_or}
use Rattle.std.specs.Option.{option_map, option_map_or}
use Rattle.level_range.specs.Signal.{Signal}
use Rattle.flat_net.specs.declared.kinds.Cell.{Cell}
use Rattle.flat_net.specs.declared.kinds.Patch.{Patch}
use Rattle.flat_net.specs.Patches.{Netlist}
use Rattle.machine.specs.Machine.{Machine, start, net_state, inject}
use Rattle.machine.specs.System.{System, step_at, machines}

-- when steps are made: the times that stand in the vector text, the inputs in force at each tick, and the end
pub record Schedule : Type 0 where
  pub times : List ℕ
  pub inputs_at : ℕ → List Signal
  pub end : ℕ

-- a step that ended: its tick, and the machine after it
pub record Ended (M : Type 0) : Type 0 where
  pub tick : ℕ
  pub machine : M

-- what a run gives: the steps that ended, and the tick at which one oscillated
pub record Run (M : Type 0) : Type 0 where
  pub ended : List (Ended M)
  pub oscillated : Option ℕ

-- the lesser of a number and another, where there is one
abbrev pub lesser : ℕ → Option ℕ → ℕ
lesser n None = n
lesser n (Some k) = min n k

-- the least number of a list
abbrev pub least : List ℕ → Option ℕ
least [] = None
least (n ∷ ns) = Some (lesser n (least ns))

-- the next tick after a step: the least time that is later, of the vector text's and of the machine's due times, up to
-- the end
unfoldable pub next_tick : Schedule → ℕ → List ℕ → Option ℕ
next_tick schedule tick due = least (filter (λ t. nat_lt tick t && nat_le t schedule.end) (schedule.times ++ due))

-- the tick is one of these times, later than the last and no later than the end, and it is the first such
pub record IsNextTick (schedule : Schedule) (tick : ℕ) (due : List ℕ) (next : ℕ) : Type 0 where
  pub listed : Contains (schedule.times ++ due) next
  pub later : tick < next
  pub ended : next ≤ schedule.end
  pub first : (time : ℕ) → Contains (schedule.times ++ due) time → tick < time → time ≤ schedule.end → next ≤ time

-- no tick is left up to the end
abbrev pub IsLastTick : Schedule → ℕ → List ℕ → Type 0
IsLastTick schedule tick due = (time : ℕ) → Contains (schedule.times ++ due) time → tick < time → schedule.end < time

-- a run without steps, one that oscillates at a tick, and one with a further step before it
abbrev pub no_steps : {M : Type 0} → Run M
no_steps = record { ended = []; oscillated = None }

abbrev pub oscillation_at : {M : Type 0} → ℕ → Run M
oscillation_at tick = record { ended = []; oscillated = Some tick }

abbrev pub then_run : {M : Type 0} → ℕ → M → Run M → Run M
then_run tick m rest = record { ended = record { tick = tick; machine = m } ∷ rest.ended; oscillated = rest.oscillated }

-- the run from a tick on, with a bound on its steps; it ends where one of them oscillates
unfoldable pub run_from : {M : Type 0} → ℕ → System M → ℕ → Schedule → ℕ → M → Run M
run_from zero system limit schedule tick m = no_steps
run_from (suc bound) system limit schedule tick m =
    let after = step_at system limit tick (schedule.inputs_at tick) m in
    if system.is_due after then oscillation_at tick
    else then_run tick after (option_map_or (λ next. run_from bound system limit schedule next after)
    (next_tick schedule tick (system.due_times after)) no_steps)

-- a run: steps at 0, at each time of the vector text and at each due time, rising, up to and with the end. Since steps
-- rise, there are at most as many as ticks
unfoldable pub run : {M : Type 0} → System M → ℕ → Schedule → M → Run M
run system limit schedule m = run_from (schedule.end + 1) system limit schedule 0 m

-- steps that ended, the first of them at the tick from the machine, and the tick at which the one after them oscillates: each
-- is the step at its tick from the machine before, leaves nothing due, and is followed by the step at the next tick
abbrev pub AreSteps : {M : Type 0} → System M → ℕ → Schedule → ℕ → M → List (Ended M) → Option ℕ → Type 0
AreSteps system limit schedule tick m [] oscillated =
    (system.is_due (step_at system limit tick (schedule.inputs_at tick) m) ≡ true) × (oscillated ≡ Some tick)
AreSteps system limit schedule tick m (step ∷ steps) oscillated =
    (step.tick ≡ tick) × (step.machine ≡ step_at system limit tick (schedule.inputs_at tick) m)
    × (system.is_due step.machine ≡ false)
    × ((IsLastTick schedule tick (system.due_times step.machine) × (steps ≡ []) × (oscillated ≡ None))
    ⊎ ((next : ℕ) × IsNextTick schedule tick (system.due_times step.machine) next
    × AreSteps system limit schedule next step.machine steps oscillated))

-- the ticks of steps rise
abbrev pub DoTicksRise : {M : Type 0} → List (Ended M) → Type 0
DoTicksRise {M = M} steps =
    (i j : ℕ) (d : Ended M) → i < j → j < length steps
    → (slice_index_or steps i d).tick < (slice_index_or steps j d).tick

-- the run of a netlist from its start
abbrev pub netlist_run : Netlist → ℕ → Schedule → Run Machine
netlist_run netlist limit schedule = run (machines netlist) limit schedule (start netlist)

-- the own run of a fault: that of the faulty netlist, from its start
abbrev pub own_run : Netlist → Cell → Patch → ℕ → Schedule → Run Machine
own_run netlist site patch limit schedule = netlist_run (inject netlist site patch) limit schedule

-- the machine after the step at a tick that ended
abbrev pub ended_at : {M : Type 0} → List (Ended M) → ℕ → Option M
ended_at [] tick = None
ended_at (step ∷ steps) tick = if nat_eq step.tick tick then Some step.machine else ended_at steps tick

-- the signals that are seen at the outputs
abbrev pub outputs_seen : Netlist → Machine → List Signal
outputs_seen netlist m = map (λ net. (net_state netlist.parts m.cells net).seen) netlist.parts.outputs

-- what a strobe at a tick reads: the outputs after the step at that tick, nothing where the step didn't end
abbrev pub strobe : Netlist → Run Machine → ℕ → Option (List Signal)
strobe netlist course tick = option_map (outputs_seen netlist) (ended_at course.ended tick)
