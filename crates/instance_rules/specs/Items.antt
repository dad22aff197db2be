-- The rules together: the places at which an item of instances breaks each.
use Rattle.std.specs.Prelude.{List}
use Rattle.std.specs.List.{flat_map}
use Rattle.v_tree.specs.declared.locations.Location.{Location}
use Rattle.v_tree.specs.declared.gates.Instance.{Instance}
use Rattle.module_scope.specs.declared.scopes.Scope.{Scope}
use Rattle.item_parts.specs.Drives.{drive_places}
use Rattle.instance_rules.specs.Links.{MasterPorts}
use Rattle.instance_rules.specs.Rules.{inst_connections, inst_counts, inst_literals, inst_widths, item_delays}

-- a rule on instances
pub data InstanceRule : Type 0 where
  Widths : InstanceRule
  Counts : InstanceRule
  Delays : InstanceRule
  Drives : InstanceRule
  Connections : InstanceRule
  Literals : InstanceRule

-- the places at which an item of instances breaks a rule, by the ports of what it instantiates
abbrev pub item_places : InstanceRule → Scope → MasterPorts → Instance → List Location
item_places Widths scope ports i = flat_map (inst_widths scope ports) i.instances
item_places Counts scope ports i = flat_map (inst_counts ports) i.instances
item_places Delays scope ports i = item_delays ports i
item_places Drives scope ports i = drive_places i.drive
item_places Connections scope ports i = flat_map (inst_connections ports) i.instances
item_places Literals scope ports i = flat_map (inst_literals ports) i.instances
