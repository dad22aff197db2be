-- The sides of a netlist.
use Rattle.std.specs.Prelude.{Bool, Option}
use Rattle.v_tree.specs.declared.declarations.Direction.{Direction}
use Rattle.instance_rules.specs.Links.{is_driving}
use Rattle.netlist_meaning.specs.Netlist.{is_driven}
use Rattle.reached_parts.specs.declared.ports.Side.{Side}
use Rattle.reached_parts.specs.declared.ports.Side.TheVariants.{Inputs, Outputs}

-- a port of a direction is on a side
abbrev pub is_on : Side → Option Direction → Bool
is_on Inputs = is_driven
is_on Outputs = is_driving
