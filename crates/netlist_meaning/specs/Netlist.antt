-- The flat netlist of a file, given its top by its index.
use Rattle.std.specs.Prelude.{ℕ, Bool, true, false, List, [], slice_index_or, Option, Some, None, if◌then◌else◌}
use Rattle.std.specs.List.{flat_map}
use Rattle.v_tree.specs.declared.declarations.Direction.{Direction}
use Rattle.v_tree.specs.declared.declarations.Direction.TheVariants.{Input, Output, Inout}
use Rattle.v_tree.specs.declared.locations.Location.{Location}
use Rattle.v_tree.specs.declared.modules.File.{File}
use Rattle.rule_places.specs.Places.{first_place}
use Rattle.module_ports.specs.Ports.{Port, net_at}
use Rattle.instance_rules.specs.Links.{is_driving, net_direction}
use Rattle.netlist_rules.specs.Items.{port_tables}
use Rattle.chosen_delays.specs.declared.choice.Mtm.{Mtm}
use Rattle.chosen_delays.specs.Made.{no_delays}
use Rattle.flat_net.specs.declared.parts.Parts.{Parts}
use Rattle.netlist_plan.specs.declared.plan.PortBits.{PortBits}
use Rattle.netlist_plan.specs.Additions.{Additions}
use Rattle.netlist_plan.specs.Flattening.{flattening, no_plan}
use Rattle.flattening.specs.Delays.{hierarchy}
use Rattle.flat_assembly.specs.Assembly.{classes, flat_parts, net_claims}
use Rattle.flat_assembly.specs.Wired.{wired_places}
use Rattle.netlist_meaning.specs.Plans.{plans_in, primitives_in}
use Rattle.netlist_meaning.specs.Delays.{delays_in}

-- ---- the ports of the top

-- a port of this direction takes values from outside
abbrev pub is_driven : Option Direction → Bool
is_driven None = false
is_driven (Some Input) = true
is_driven (Some Output) = false
is_driven (Some Inout) = true

-- the nets of those ports that pass a test of their directions, in port order: the nets of the top come first in a flat
-- netlist, so that its bits have the numbers of their nets
abbrev pub port_nets : (Option Direction → Bool) → List Port → List PortBits → List ℕ
port_nets takes table ports = flat_map (λ p. if takes (net_direction (net_at table p.port)) then p.bits else []) ports

abbrev pub top_nets : (Option Direction → Bool) → File → ℕ → List ℕ
top_nets takes file top =
    port_nets takes (slice_index_or (port_tables file.directives file.modules) top []) (slice_index_or (plans_in file top) top no_plan).ports

-- ---- the netlist

-- the top with all that is in it
abbrev pub additions_in : Mtm → File → ℕ → Additions
additions_in choice file top = flattening (hierarchy (plans_in file top) (delays_in choice file)) top

abbrev pub netlist_parts : Mtm → File → ℕ → Parts
netlist_parts choice file top =
    flat_parts no_delays (primitives_in file top) (top_nets is_driven file top) (top_nets is_driving file top) (additions_in choice file top)

-- the first terminal of a bidirectional switch that is a wired net
abbrev pub first_wired : Additions → Option Location
first_wired a = first_place (wired_places (classes (net_claims a)) a.terminals)
