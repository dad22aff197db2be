-- The delays of items by lists, and the hierarchy that they make with the plans of modules.
use Rattle.std.specs.Prelude.{ℕ, List, [], Option, Some, None, slice_index_or}
use Rattle.delay_rule.specs.declared.delays.Delays.{Delays}
use Rattle.netlist_plan.specs.declared.plan.ModulePlan.{ModulePlan}
use Rattle.netlist_plan.specs.Flattening.{Hierarchy}
use Rattle.flattening.specs.declared.delays.ItemDelays.{ItemDelays}

-- the delays by the indexes of a module and of an item in it; where there are none, those of no item
abbrev pub listed_delays : ItemDelays → ℕ → ℕ → Delays
listed_delays delays master item = slice_index_or (slice_index_or delays.by_module master []) item delays.none

abbrev pub delays_of : ItemDelays → ℕ → Option ℕ → Delays
delays_of delays master None = delays.none
delays_of delays master (Some item) = listed_delays delays master item

abbrev pub hierarchy : List ModulePlan → ItemDelays → Hierarchy
hierarchy plans delays = record { plans = plans; delays = delays_of delays }
