-- The delays of a file's items in ticks, of which a choice takes the least, the typical or the greatest ones.
use Rattle.std.specs.Prelude.{ℕ, Bool, List, map, Option, None}
use Rattle.std.specs.List.{list_any}
use Rattle.std.specs.Option.{is_none, option_map_or}
use Rattle.delay_rule.specs.declared.delays.Delays.{Delays}
use Rattle.v_tree.specs.declared.directives.Directive.{Directive}
use Rattle.v_tree.specs.declared.drives.DelaySpec.{DelaySpec}
use Rattle.v_tree.specs.declared.gates.GateKind.{GateKind}
use Rattle.v_tree.specs.declared.gates.GateKind.TheVariants as gate
use Rattle.v_tree.specs.declared.modules.Item.{Item}
use Rattle.v_tree.specs.declared.modules.Item.TheVariants as item
use Rattle.v_tree.specs.declared.modules.Module.{Module}
use Rattle.v_tree.specs.declared.modules.File.{File}
use Rattle.module_directives.specs.InForce.{settings_at}
use Rattle.module_directives.specs.Precisions.{tick_of}
use Rattle.module_directives.specs.declared.settings.Settings.{Settings}
use Rattle.chosen_delays.specs.declared.choice.Mtm.{Mtm}
use Rattle.chosen_delays.specs.Chosen.{delays_of}
use Rattle.chosen_delays.specs.Made.{delays_from, no_delays}
use Rattle.flattening.specs.declared.delays.ItemDelays.{ItemDelays}

-- ---- what is written

abbrev pub gate_delay : GateKind → Option DelaySpec
gate_delay (gate.Logic kind drive delay) = delay
gate_delay (gate.Switch kind delay) = delay
gate_delay (gate.Tran kind) = None
gate_delay (gate.Pull kind levels) = None

-- the delay of an item, where one is written
abbrev pub item_delay : Item → Option DelaySpec
item_delay (item.Nets d) = d.delay
item_delay (item.Trireg d) = d.delay
item_delay (item.Assign a) = a.delay
item_delay (item.Gates g) = gate_delay g.kind
item_delay (item.Instances i) = i.delay
item_delay (item.Ports d) = None
item_delay (item.Cell c) = None
item_delay (item.Specify s) = None

-- ---- in ticks

-- the delays of an item of a module under directives: None where one of them has no value
abbrev pub item_ticks : Mtm → List Directive → Settings → Item → Option (List ℕ)
item_ticks choice directives settings i = delays_of choice settings.unit settings.precision (tick_of directives) (item_delay i)

-- some delay of a module has no value
abbrev pub has_long : Mtm → List Directive → Module → Bool
has_long choice directives m =
    list_any (λ i. is_none (item_ticks choice directives (settings_at directives m.location) i)) m.items

-- what has no value counts as no delay
abbrev pub item_delays : Mtm → List Directive → Settings → Item → Delays
item_delays choice directives settings i = option_map_or delays_from (item_ticks choice directives settings i) no_delays

abbrev pub module_delays : Mtm → List Directive → Module → List Delays
module_delays choice directives m = map (item_delays choice directives (settings_at directives m.location)) m.items

abbrev pub delays_in : Mtm → File → ItemDelays
delays_in choice file = record { by_module = map (module_delays choice file.directives) file.modules; none = no_delays }
