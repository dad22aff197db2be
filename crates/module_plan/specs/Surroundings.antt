-- For the code alone: what parts are told from, and how many references an item has.
use Rattle.std.specs.Prelude.{ℕ, List}
use Rattle.v_tree.specs.declared.modules.Item.{Item}
use Rattle.v_tree.specs.declared.modules.Item.TheVariants as item
use Rattle.module_scope.specs.declared.scopes.Scope.{Scope}
use Rattle.netlist_plan.specs.declared.nets.ModuleNet.{ModuleNet}
use Rattle.netlist_plan.specs.Plan.{Given, Meanings}

-- what the parts of a module are told from
abbrev pub given : Scope → List ModuleNet → List Item → Meanings → Given
given scope nets items meant = record { scope = scope; nets = nets; items = items; meanings = meant }

-- how many references an item has
abbrev pub reference_count : Item → ℕ
reference_count (item.Instances i) = 1
reference_count (item.Ports d) = 0
reference_count (item.Nets d) = 0
reference_count (item.Trireg d) = 0
reference_count (item.Assign a) = 0
reference_count (item.Gates g) = 0
reference_count (item.Cell c) = 0
reference_count (item.Specify s) = 0
