-- Time steps and runs.
use Rattle.std.specs.Prelude.{ℕ, zero, suc, ◌+◌, ◌-◌, nat_eq, nat_lt, nat_le, min, ◌&&◌, List, [], ◌∷◌, ◌++◌, map, filter, Option, Some, None, if◌then◌else◌}
use Rattle.std.specs.Option.{option_map, option_map_or}
use Rattle.std.specs.List.{filter_map}
use Rattle.level_range.specs.Signal.{Signal}
use Rattle.level_range.specs.declared.range.Logic.{Logic}
use Rattle.level_range.specs.declared.range.Logic.TheVariants.{X, Z}
use Rattle.gate_net.specs.Sound.{times_of}
use Rattle.gate_net.specs.declared.netlist.Netlist.{Netlist}
use Rattle.gate_net.specs.declared.stimulus.ValueLine.{ValueLine}
use Rattle.gate_net.specs.declared.stimulus.Stimulus.{Stimulus}
use Rattle.first_machine.specs.Machine.{Machine, Pending, strong, start}
use Rattle.first_machine.specs.Pass.{is_due, pass}

-- further passes while something is due, up to a number of them
unfoldable pub further : ℕ → Netlist → Machine → Machine
further zero netlist m = m
further (suc left) netlist m = if is_due m then further left netlist (pass netlist m) else m

-- a time step: a first pass, and further ones while something is due, up to the limit
unfoldable pub step : ℕ → Netlist → Machine → Machine
step limit netlist m = further (limit - 1) netlist (pass netlist m)

-- the machine at a tick, with these inputs in force
abbrev pub begun : ℕ → List Signal → Machine → Machine
begun tick inputs m = record m { time = tick; passes = 0; inputs = inputs }

-- a net's value among the listed ones: z where it is not listed, x where no value came yet
abbrev pub value_of : List ℕ → List Logic → ℕ → Logic
value_of [] values n = Z
value_of (m ∷ ms) [] n = if nat_eq m n then X else value_of ms [] n
value_of (m ∷ ms) (v ∷ vs) n = if nat_eq m n then v else value_of ms vs n

-- the values of the last of the lines
abbrev pub last_values : List Logic → List ValueLine → List Logic
last_values before [] = before
last_values before (line ∷ lines) = last_values line.values lines

-- the values of the last line up to a tick; none before the first
abbrev pub values_at : List ValueLine → ℕ → List Logic
values_at lines tick = last_values [] (filter (λ line. nat_le line.time tick) lines)

-- the inputs in force at a tick, one for each input of the netlist: z where it is not listed, x where it has no
-- value yet, else its last value
abbrev pub in_force : Netlist → Stimulus → ℕ → List Signal
in_force netlist stimulus tick = map (λ n. strong (value_of stimulus.inputs (values_at stimulus.lines tick) n)) netlist.inputs

-- the ticks for which the machine has changes pending
abbrev pub due_times : Machine → List ℕ
due_times m = filter_map (λ e. option_map (λ (p : Pending). p.at) e.due) m.elements

abbrev pub lesser : ℕ → Option ℕ → ℕ
lesser n None = n
lesser n (Some k) = min n k

-- the least number of a list
abbrev pub least : List ℕ → Option ℕ
least [] = None
least (n ∷ ns) = Some (lesser n (least ns))

-- the next tick of a run: the least of the vector text's times and the machine's due times that is later, up to the end
abbrev pub next_tick : Stimulus → ℕ → Machine → Option ℕ
next_tick stimulus tick m = least (filter (λ t. nat_lt tick t && nat_le t stimulus.end) (times_of stimulus.lines ++ stimulus.end ∷ due_times m))

-- what a run gives: the machine after each step that ended, and the tick at which it oscillated
pub record Course : Type 0 where
  pub ended : List Machine
  pub oscillated : Option ℕ

abbrev pub over : Course
over = record { ended = []; oscillated = None }

abbrev pub after_step : Machine → Course → Course
after_step m rest = record { ended = m ∷ rest.ended; oscillated = rest.oscillated }

-- the run from a tick on, with a bound on the steps; where a step oscillates the run ends there
unfoldable pub run_from : ℕ → ℕ → Netlist → Stimulus → ℕ → Machine → Course
run_from zero limit netlist stimulus tick m = over
run_from (suc bound) limit netlist stimulus tick m =
    let after : Machine = step limit netlist (begun tick (in_force netlist stimulus tick) m) in
    if is_due after then record { ended = []; oscillated = Some tick }
    else after_step after (option_map_or (λ next. run_from bound limit netlist stimulus next after) (next_tick stimulus tick after) over)

-- the whole run: steps at 0, at each time of the vector text and at each due time, rising, up to and with the end;
-- as steps rise, there are at most as many as ticks
unfoldable pub run : ℕ → Netlist → Stimulus → Course
run limit netlist stimulus = run_from (stimulus.end + 1) limit netlist stimulus 0 (start netlist)
