-- The plans of a file's modules, given its top by its index.
use Rattle.std.specs.Prelude.{ℕ, Bool, List, length, map, take, if◌then◌else◌}
use Rattle.std.specs.List.{filter, items_where_true, range_with_len, zip}
use Rattle.udp_table.specs.Primitive.{Primitive}
use Rattle.v_tree.specs.declared.modules.Module.{Module}
use Rattle.v_tree.specs.declared.modules.File.{File}
use Rattle.module_graph.specs.declared.references.Master.{Master}
use Rattle.module_graph.specs.Graph.{Graph, graph_of, master_of, module_names, udp_names}
use Rattle.module_graph.specs.Reach.{reached_modules, reached_udps}
use Rattle.primitive_rules.specs.Arguments.{arguments_of, primitive_of}
use Rattle.netlist_scopes.specs.Reached.{scope_under}
use Rattle.netlist_rules.specs.Items.{port_tables}
use Rattle.module_parts.specs.declared.parts.ModulePart.{ModulePart}
use Rattle.module_parts.specs.Parts.{module_parts}
use Rattle.netlist_plan.specs.declared.plan.ModulePlan.{ModulePlan}
use Rattle.netlist_plan.specs.Flattening.{no_plan}
use Rattle.netlist_plan.specs.Plan.{Meanings, module_plan}
use Rattle.module_plan.specs.Meant.{meanings}

abbrev pub graph_in : File → Graph
graph_in file = graph_of file.modules file.udps

-- what a name means
abbrev pub master_in : File → List ℕ → Master
master_in file = master_of (module_names file.modules) (udp_names file.udps)

-- for each module whether the top reaches it, and for each primitive whether such a module instantiates it
abbrev pub modules_reached : File → ℕ → List Bool
modules_reached file top = reached_modules (graph_in file).references top

abbrev pub primitives_reached : File → ℕ → List Bool
primitives_reached file top = reached_udps (graph_in file).references (modules_reached file top) (length file.udps)

-- ---- primitives

-- those that are reached, in text order
abbrev pub primitives_in : File → ℕ → List Primitive
primitives_in file top = map (λ u. primitive_of (arguments_of u)) (items_where_true (primitives_reached file top) file.udps)

-- the number of the one at an index: how many that are reached stand before it
abbrev pub number_among : List Bool → ℕ → ℕ
number_among reached index = length (filter (λ is_reached. is_reached) (take index reached))

abbrev pub primitive_numbers : File → ℕ → List ℕ
primitive_numbers file top = map (number_among (primitives_reached file top)) (range_with_len 0 (length file.udps))

-- ---- plans

abbrev pub meanings_in : File → ℕ → Meanings
meanings_in file top = meanings (master_in file) (primitive_numbers file top)

abbrev pub parts_in : File → Module → List ModulePart
parts_in file m = module_parts (scope_under file.directives m) (port_tables file.directives file.modules) (master_in file) m

abbrev pub plan_in : File → ℕ → Module → ModulePlan
plan_in file top m = module_plan (scope_under file.directives m) (meanings_in file top) m (parts_in file m)

-- a module that isn't reached has no plan
abbrev pub plan_if : File → ℕ → Bool × Module → ModulePlan
plan_if file top (is_reached, m) = if is_reached then plan_in file top m else no_plan

abbrev pub plans_in : File → ℕ → List ModulePlan
plans_in file top = map (plan_if file top) (zip (modules_reached file top) file.modules)
