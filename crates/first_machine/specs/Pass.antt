-- One pass over all cells of a machine.
use Rattle.std.specs.Prelude.{ℕ, ◌+◌, ◌-◌, ◌^◌, nat_eq, nat_le, min, Bool, true, false, ◌&&◌, List, [], ◌∷◌, ◌++◌, length, map, slice_index, slice_index_or, Option, Some, None, if◌then◌else◌}
use Rattle.std.specs.Ordering.{int_eq}
use Rattle.std.specs.List.{filter_map, list_any, range_with_len}
use Rattle.level_range.specs.Signal.{Signal, reads}
use Rattle.level_range.specs.declared.range.Logic.TheVariants.{Z}
use Rattle.logic_tables.specs.Fold.{gate_value}
use Rattle.logic_tables.specs.declared.kinds.FoldKind.TheVariants.{Nand}
use Rattle.gate_net.specs.declared.netlist.Gate.{Gate}
use Rattle.gate_net.specs.declared.netlist.Netlist.{Netlist}
use Rattle.first_machine.specs.Machine.{Machine, ElementState, NetState, Pending, strong, fresh_element, fresh_net, element_at}

-- whether a change is pending for the time or an earlier one
abbrev pub is_due_at : ℕ → Option Pending → Bool
is_due_at now None = false
is_due_at now (Some p) = nat_le p.at now

-- whether something is due in the machine at its time
abbrev pub is_due : Machine → Bool
is_due m = list_any (λ e. is_due_at m.time e.due) m.elements

abbrev pub taken_effect : ℕ → ElementState → Option Pending → ElementState
taken_effect now e None = e
taken_effect now e (Some p) = if nat_le p.at now then record { out = p.value; due = None } else e

-- a due change takes effect
abbrev pub matured : ℕ → ElementState → ElementState
matured now e = taken_effect now e e.due

abbrev pub same_signal : Signal → Signal → Bool
same_signal a b = int_eq a.lo b.lo && int_eq a.hi b.hi

abbrev pub is_pending : Option Pending → Signal → Bool
is_pending None target = false
is_pending (Some p) target = same_signal p.value target

-- the pending change after a target, by inertia: an equal pending value keeps its time; else a target equal to the
-- present value leaves nothing pending; else the target is pending for the tick
abbrev pub retargeted : Signal → Option Pending → Signal → ℕ → Option Pending
retargeted present pending target tick = if is_pending pending target then pending else if same_signal present target then None else Some (record { value = target; at = tick })

-- what no gate has
abbrev pub no_gate : Gate
no_gate = record { output = 0; inputs = [] }

abbrev pub gate_at : Netlist → ℕ → Gate
gate_at netlist k = slice_index_or netlist.gates k no_gate

-- what the elements that drive a net give
abbrev pub element_drives : Netlist → List ElementState → ℕ → List Signal
element_drives netlist elements n = filter_map (λ k. if nat_eq (gate_at netlist k).output n then Some (slice_index_or elements k fresh_element).out else None) (range_with_len 0 (length netlist.gates))

-- what an input in force gives
abbrev pub input_drives : Netlist → List Signal → ℕ → List Signal
input_drives netlist inputs n = filter_map (λ k. if nat_eq (slice_index netlist.inputs k) n then Some (slice_index_or inputs k (strong Z)) else None) (range_with_len 0 (length netlist.inputs))

-- no driver gives z, one driver its own signal; a net of these netlists has no more
abbrev pub combined : List Signal → Signal
combined [] = strong Z
combined (s ∷ ss) = s

-- a net's signal settles, and it is seen at once
abbrev pub settled_net : Netlist → List ElementState → List Signal → ℕ → NetState
settled_net netlist elements inputs n =
    let s : Signal = combined (element_drives netlist elements n ++ input_drives netlist inputs n) in
    record { settled = s; seen = s }

-- what a gate would give for the signals that it sees
abbrev pub target_of : Gate → List NetState → Signal
target_of gate nets = strong (gate_value Nand (map (λ n. reads (slice_index_or nets n fresh_net).seen) gate.inputs))

-- an element's target becomes pending, without delay
abbrev pub evaluated : ℕ → Gate → List NetState → ElementState → ElementState
evaluated now gate nets e = record { out = e.out; due = retargeted e.out e.due (target_of gate nets) now }

-- the first phase: due changes take effect, nets settle and are seen
unfoldable pub settle : Netlist → Machine → Machine
settle netlist m =
    let elements : List ElementState = map (matured m.time) m.elements in
    record m { elements = elements; nets = map (settled_net netlist elements m.inputs) (range_with_len 0 (length netlist.names)) }

-- the second phase: each element computes its target
unfoldable pub evaluate : Netlist → Machine → Machine
evaluate netlist m =
    record m { elements = map (λ k. evaluated m.time (gate_at netlist k) m.nets (element_at m k)) (range_with_len 0 (length netlist.gates)) }

-- the number of passes at this time stops at its last value
abbrev pub one_more : ℕ → ℕ
one_more passes = min (passes + 1) (2 ^ 32 - 1)

unfoldable pub pass : Netlist → Machine → Machine
pass netlist m = record (evaluate netlist (settle netlist m)) { passes = one_more m.passes; passed = true; last_inputs = m.inputs }
