-- What the plain run keeps of a trace: the value that each place of the outputs showed last.
use Rattle.std.specs.Prelude.{◌≡◌, ℕ, ◌<◌, Bool, false, List, [], length, slice_index_or, Option, Some, None, if◌then◌else◌}
use Rattle.std.specs.Option.{option_map}
use Rattle.level_range.specs.Signal.{signal_text}
use Rattle.level_range.specs.declared.range.Logic.{Logic}
use Rattle.gate_net.specs.declared.netlist.Netlist.{Netlist}
use Rattle.first_machine.specs.Machine.{Machine, strong, net_at}
use Rattle.first_machine.specs.Shown.{logic_at, same_logic, net_of}
use Rattle.first_machine.specs.Trace.{trace_line}

abbrev pub is_last : Option Logic → Logic → Bool
is_last None value = false
is_last (Some last) value = same_logic last value

-- the line of a place, where its value isn't the last one
abbrev pub line_of : Option Logic → ℕ → List ℕ → Logic → List ℕ
line_of last tick name value = if is_last last value then [] else trace_line tick name (signal_text (strong value))

-- the values stand for the texts
abbrev pub ArePrinted : List (Option Logic) → List (Option (List ℕ)) → Type 0
ArePrinted values texts = (j : ℕ) → slice_index_or texts j None ≡ option_map (λ v. signal_text (strong v)) (slice_index_or values j None)

-- the machine after a step at a tick, and what was printed before
pub record IsStep (netlist : Netlist) (tick : ℕ) (seen : List Logic) (printed : List (Option Logic)) (m : Machine) (last : List (Option (List ℕ))) : Type 0 where
  pub time : m.time ≡ tick
  pub nets : (n : ℕ) → n < length netlist.names → net_at m n ≡ net_of (logic_at seen n)
  pub texts : ArePrinted printed last
