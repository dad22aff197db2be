-- The widths of ports.
use Rattle.std.specs.Prelude.{ℕ, List, length, map}
use Rattle.module_ports.specs.Ports.{Port}
use Rattle.item_parts.specs.Widths.{net_range, range_width}
use Rattle.netlist_plan.specs.declared.plan.ModulePlan.{ModulePlan}

-- those of a module's ports; one whose name has no net counts as a scalar
abbrev pub port_widths : List Port → List ℕ
port_widths ports = map (λ p. range_width (net_range p.net)) ports

-- those of the ports of a plan
abbrev pub widths_in : ModulePlan → List ℕ
widths_in plan = map (λ p. length p.bits) plan.ports
