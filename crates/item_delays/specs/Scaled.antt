-- For the code alone: the delays of items under a scale.
use Rattle.std.specs.Prelude.{ℕ, Bool, List, Option}
use Rattle.std.specs.List.{list_any}
use Rattle.std.specs.Option.{is_none, option_map_or}
use Rattle.delay_rule.specs.declared.delays.Delays.{Delays}
use Rattle.v_tree.specs.declared.modules.Item.{Item}
use Rattle.chosen_delays.specs.declared.choice.Mtm.{Mtm}
use Rattle.chosen_delays.specs.declared.scale.DelayScale.{DelayScale}
use Rattle.chosen_delays.specs.Chosen.{delays_of}
use Rattle.chosen_delays.specs.Made.{delays_from, no_delays}
use Rattle.netlist_meaning.specs.Delays.{item_delay}

-- None where one of them has no value
abbrev pub scaled_ticks : Mtm → DelayScale → Item → Option (List ℕ)
scaled_ticks choice scale i = delays_of choice scale.unit scale.precision scale.tick (item_delay i)

-- what has no value counts as no delay
abbrev pub scaled_delays : Mtm → DelayScale → Item → Delays
scaled_delays choice scale i = option_map_or delays_from (scaled_ticks choice scale i) no_delays

-- some delay of an item has no value
abbrev pub has_long_item : Mtm → DelayScale → List Item → Bool
has_long_item choice scale items = list_any (λ i. is_none (scaled_ticks choice scale i)) items
