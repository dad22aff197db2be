-- Nets: their delays, the decay of their charges, what is seen of them, and their start (IEEE 1364-2005, 7.13 and 7.14).
-- The timer of a decay and the start are this project's own.
use Rattle.std.specs.Prelude.{ℕ, ◌+◌, pos, nat_eq, if◌then◌else◌, List, take, None, slice_index_or}
use Rattle.level_range.specs.declared.range.Logic.{Logic}
use Rattle.level_range.specs.Signal.{Signal, undriven, reads, negative_level}
use Rattle.delay_rule.specs.Delay.{delay_list, delay_among}
use Rattle.delay_rule.specs.Inertia.{pending_after, same_signal}
use Rattle.flat_net.specs.declared.kinds.NetKind.{NetKind}
use Rattle.flat_net.specs.declared.kinds.NetKind.TheVariants.{Wire, And, Or, Tri0, Tri1, Supply0, Supply1, Trireg}
use Rattle.flat_net.specs.declared.parts.NetPart.{NetPart}
use Rattle.cell_step.specs.declared.states.Timer.{Timer}
use Rattle.cell_step.specs.declared.states.Timer.TheVariants.{Idle, Running, Ended}
use Rattle.cell_step.specs.declared.states.NetState.{NetState}

-- the delays of changes: a trireg uses its first two
abbrev pub change_delays : NetKind → List ℕ → List ℕ
change_delays Trireg delays = take 2 delays
change_delays Wire delays = delays
change_delays And delays = delays
change_delays Or delays = delays
change_delays Tri0 delays = delays
change_delays Tri1 delays = delays
change_delays Supply0 delays = delays
change_delays Supply1 delays = delays

-- the decay time: the third delay of a trireg; 0 where there is no decay
abbrev pub decay_time : NetKind → List ℕ → ℕ
decay_time Trireg delays = slice_index_or delays 2 0
decay_time Wire delays = 0
decay_time And delays = 0
decay_time Or delays = 0
decay_time Tri0 delays = 0
decay_time Tri1 delays = 0
decay_time Supply0 delays = 0
decay_time Supply1 delays = 0

-- the delay of a change to a value
abbrev pub net_delay : NetPart → Logic → ℕ
net_delay part to = delay_among (change_delays part.kind (delay_list part.delays)) to

-- the timer of a net that isn't driven: an idle one starts where there is a decay
abbrev pub start_timer : ℕ → ℕ → Timer → Timer
start_timer time now Idle = if nat_eq time 0 then Idle else Running (now + time)
start_timer time now (Running at) = Running at
start_timer time now Ended = Ended

-- the timer after settling: that of a driven net is idle
abbrev pub next_timer : NetPart → ℕ → Signal → Timer → Timer
next_timer part now driven timer =
    if same_signal driven undriven then start_timer (decay_time part.kind (delay_list part.delays)) now timer else Idle

-- a net after settling, whose driven and settled signals and charge are given: what is seen becomes the settled signal at
-- once where the net has no delay, else the settled signal is its target
abbrev pub next_net : NetPart → ℕ → Signal → Signal → Signal → NetState → NetState
next_net part now driven signal charge s =
    let at_once = nat_eq part.delays.count 0 in record {
      settled = signal;
      seen = if at_once then signal else s.seen;
      due = if at_once then None else pending_after same_signal s.seen s.due signal (now + net_delay part (reads signal));
      charge = charge;
      timer = next_timer part now driven s.timer;
    }

-- the charge with which a net of a charge level starts: its value isn't known
abbrev pub start_charge : ℕ → Signal
start_charge level = record { lo = negative_level level; hi = pos level }

-- a net at the start, of a charge level that is 0 for a net that is no trireg
abbrev pub net_start : ℕ → NetState
net_start level = record {
  settled = start_charge level;
  seen = start_charge level;
  due = None;
  charge = start_charge level;
  timer = Idle;
}
