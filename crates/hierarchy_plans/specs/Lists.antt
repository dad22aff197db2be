-- What modules have that are reached, by a flag for each; one that isn't reached has nothing.
use Rattle.std.specs.Prelude.{ℕ, Bool, List, [], map, if◌then◌else◌}
use Rattle.std.specs.List.{zip}
use Rattle.v_tree.specs.declared.modules.Module.{Module}
use Rattle.v_tree.specs.declared.modules.File.{File}
use Rattle.module_ports.specs.Ports.{ports_of}
use Rattle.netlist_scopes.specs.Reached.{scope_under}
use Rattle.module_parts.specs.declared.parts.ModulePart.{ModulePart}
use Rattle.netlist_plan.specs.declared.plan.ModulePlan.{ModulePlan}
use Rattle.netlist_plan.specs.Flattening.{no_plan}
use Rattle.netlist_plan.specs.Plan.{module_plan}
use Rattle.module_plan.specs.Meant.{meanings}
use Rattle.plan_counts.specs.PortWidths.{port_widths}
use Rattle.netlist_meaning.specs.Plans.{master_in, parts_in}

-- the parts of modules
abbrev pub parts_if : File → Bool × Module → List ModulePart
parts_if file (is_reached, m) = if is_reached then parts_in file m else []

abbrev pub part_lists : File → List Bool → List (List ModulePart)
part_lists file reached = map (parts_if file) (zip reached file.modules)

-- the widths of their ports
abbrev pub widths_if : File → Bool × Module → List ℕ
widths_if file (is_reached, m) = if is_reached then port_widths (ports_of (scope_under file.directives m) m) else []

abbrev pub width_lists : File → List Bool → List (List ℕ)
width_lists file reached = map (widths_if file) (zip reached file.modules)

-- their plans, where each primitive of the file has a number
abbrev pub plan_with : File → List ℕ → Bool × Module → ModulePlan
plan_with file numbers (is_reached, m) =
    if is_reached then module_plan (scope_under file.directives m) (meanings (master_in file) numbers) m (parts_in file m) else no_plan

abbrev pub plan_list : File → List ℕ → List Bool → List ModulePlan
plan_list file numbers reached = map (plan_with file numbers) (zip reached file.modules)
