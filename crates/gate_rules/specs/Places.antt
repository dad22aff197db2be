-- The places of a module at which its gates, assignments and declarations break a rule, and the first of each.
use Rattle.std.specs.Prelude.{List}
use Rattle.std.specs.List.{flat_map}
use Rattle.v_tree.specs.declared.locations.Location.{Location}
use Rattle.v_tree.specs.declared.modules.Module.{Module}
use Rattle.rule_places.specs.Places.{first_place}
use Rattle.module_scope.specs.declared.scopes.Scope.{Scope}
use Rattle.gate_rules.specs.declared.places.GatePlaces.{GatePlaces}
use Rattle.gate_rules.specs.Rules.{item_widths, item_counts, item_delays, item_drives, item_literals}

-- terminals and values that break the rule on widths
abbrev pub gate_widths : Scope → Module → List Location
gate_widths scope m = flat_map (item_widths scope) m.items

-- gates with a wrong number of terminals
abbrev pub gate_counts : Module → List Location
gate_counts m = flat_map item_counts m.items

-- gates, assignments and declarations with too many delays
abbrev pub gate_delays : Module → List Location
gate_delays m = flat_map item_delays m.items

-- gates, assignments and declarations with a wrong drive
abbrev pub gate_drives : Module → List Location
gate_drives m = flat_map item_drives m.items

-- outputs and bidirectional terminals with a literal
abbrev pub gate_literals : Module → List Location
gate_literals m = flat_map item_literals m.items

-- the first place of each rule
abbrev pub gate_places : Scope → Module → GatePlaces
gate_places scope m = record {
  widths = first_place (gate_widths scope m);
  counts = first_place (gate_counts m);
  delays = first_place (gate_delays m);
  drives = first_place (gate_drives m);
  literals = first_place (gate_literals m);
}
