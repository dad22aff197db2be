-- The ports of a plan are as wide as those of its module.
use Rattle.std.proofs.Common.{◌≡◌, ℕ, ◌+◌, List, [], ◌∷◌, length, map, refl, ap, ◌∙◌}
use Rattle.std.specs.List.{enumerate_from}
use Rattle.v_tree.specs.declared.modules.Module.{Module}
use Rattle.module_scope.specs.declared.scopes.Scope.{Scope}
use Rattle.module_scope.specs.Scopes.{scope_net}
use Rattle.module_ports.specs.Ports.{port_names, port_of, ports_of}
use Rattle.item_parts.specs.Widths.{net_range, range_width}
use Rattle.module_parts.specs.declared.parts.ModulePart.{ModulePart}
use Rattle.netlist_plan.specs.declared.nets.ModuleNet.{ModuleNet}
use Rattle.netlist_plan.specs.Nets.{module_nets, name_first}
use Rattle.netlist_plan.specs.Plan.{Meanings, module_plan, port_bits}
use Rattle.netlist_plan.specs.Flattening.{no_plan}
use Rattle.flattening_laws.proofs.Numbers.{length_range}
use Rattle.plan_counts.specs.PortWidths.{port_widths, widths_in}

pub no-widths : widths_in no_plan ≡ []
no-widths = refl

names_widths : (scope : Scope) (nets : List ModuleNet) (k : ℕ) (names : List (List ℕ)) → map (λ p. length p.bits) (map (port_bits scope nets) (enumerate_from k names)) ≡ port_widths (map (port_of scope) names)
names_widths scope nets k [] = refl
names_widths scope nets k (name ∷ names) =
    let width = range_width (net_range (scope_net scope name)) in
    ap (λ n. n ∷ map (λ p. length p.bits) (map (port_bits scope nets) (enumerate_from (k + 1) names))) (length_range (name_first nets name) width)
    ∙ ap (λ rest. width ∷ rest) (names_widths scope nets (k + 1) names)

pub widths-in : (scope : Scope) (given : Meanings) (m : Module) (parts : List ModulePart) → widths_in (module_plan scope given m parts) ≡ port_widths (ports_of scope m)
widths-in scope given m parts = names_widths scope (module_nets scope parts) 0 (port_names m.ports)
