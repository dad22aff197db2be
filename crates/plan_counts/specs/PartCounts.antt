-- How many elements, instances and connected bits parts make.
use Rattle.std.specs.Prelude.{ℕ, ◌+◌, ◌-◌, min, List, [], ◌∷◌, length, slice_get, slice_index_or, sum_by}
use Rattle.std.specs.Option.{option_map_or}
use Rattle.v_tree.specs.declared.modules.Item.{Item}
use Rattle.v_tree.specs.declared.modules.Item.TheVariants as item
use Rattle.module_scope.specs.declared.scopes.Scope.{Scope}
use Rattle.expression_bits.specs.declared.runs.BitRun.{BitRun}
use Rattle.expression_bits.specs.declared.runs.BitRun.TheVariants.{Net, Literal}
use Rattle.expression_bits.specs.Runs.{runs_width}
use Rattle.element_forms.specs.declared.forms.ElementForm.{ElementForm}
use Rattle.element_forms.specs.declared.forms.ElementForm.TheVariants.{Single, Bidirectional, Complementary}
use Rattle.element_forms.specs.Forms.{element_form}
use Rattle.module_parts.specs.declared.parts.PairPart.{PairPart}
use Rattle.module_parts.specs.declared.parts.PortRuns.{PortRuns}
use Rattle.module_parts.specs.declared.parts.InstancePart.{InstancePart}
use Rattle.module_parts.specs.declared.parts.ModulePart.{ModulePart}
use Rattle.module_parts.specs.declared.parts.ModulePart.TheVariants.{Names, Gate, Pair, Instance}
use Rattle.hierarchy_counts.specs.declared.counts.InstanceCounts.{InstanceCounts}
use Rattle.netlist_plan.specs.Unnamed.{runs_in}

-- ---- elements

-- the bits of a literal, and those of the literals among runs
abbrev pub literal_width : BitRun → ℕ
literal_width (Net name select) = 0
literal_width (Literal bits) = length bits

abbrev pub literals_width : List BitRun → ℕ
literals_width runs = sum_by literal_width runs

-- a complementary switch is two elements
abbrev pub form_count : ElementForm → ℕ
form_count (Single kind) = 1
form_count (Bidirectional kind resistive) = 1
form_count (Complementary resistive) = 2

-- how many elements each gate of an item is; an instance of a primitive is one
abbrev pub item_count : Item → ℕ
item_count (item.Gates g) = form_count (element_form g.kind)
item_count (item.Instances i) = 1
item_count (item.Ports d) = 1
item_count (item.Nets d) = 1
item_count (item.Trireg d) = 1
item_count (item.Assign a) = 1
item_count (item.Cell c) = 1
item_count (item.Specify s) = 1

abbrev pub gate_count : List Item → ℕ → ℕ
gate_count items index = option_map_or item_count (slice_get items index) 1

-- an assignment is an element for each bit that both sides have
abbrev pub pair_count : Scope → PairPart → ℕ
pair_count scope p = min (runs_width scope p.target) (runs_width scope p.value.runs - p.value.cut)

-- the elements of a part without the constants
abbrev pub own_elements : Scope → List Item → ModulePart → ℕ
own_elements scope items (Names names) = 0
own_elements scope items (Gate g) = gate_count items g.item
own_elements scope items (Pair p) = pair_count scope p
own_elements scope items (Instance i) = 0

-- the elements of a part, a constant for each bit of its literals among them
abbrev pub part_elements : Scope → List Item → ModulePart → ℕ
part_elements scope items part = literals_width (runs_in part) + own_elements scope items part

abbrev pub elements_in : Scope → List Item → List ModulePart → ℕ
elements_in scope items parts = sum_by (part_elements scope items) parts

-- ---- instances

-- the instance of a module that a part is
abbrev pub part_instances : ModulePart → ℕ
part_instances (Names names) = 0
part_instances (Gate g) = 0
part_instances (Pair p) = 0
part_instances (Instance i) = 1

abbrev pub instances_in : List ModulePart → ℕ
instances_in parts = sum_by part_instances parts

-- how many bits of a port with one of these widths are connected; a port that isn't there has none
abbrev pub bound_bits : Scope → List ℕ → PortRuns → ℕ
bound_bits scope widths c =
    option_map_or (λ port. option_map_or (λ width. min width (runs_width scope c.runs)) (slice_get widths port) 0) c.port 0

-- an instance, by the widths of the ports of each module
abbrev pub counts_of : Scope → List (List ℕ) → InstancePart → InstanceCounts
counts_of scope widths i = record {
  master = i.master;
  bound = sum_by (bound_bits scope (slice_index_or widths i.master [])) i.connections;
}

abbrev pub part_counts : Scope → List (List ℕ) → ModulePart → List InstanceCounts
part_counts scope widths (Names names) = []
part_counts scope widths (Gate g) = []
part_counts scope widths (Pair p) = []
part_counts scope widths (Instance i) = counts_of scope widths i ∷ []
