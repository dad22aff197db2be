-- The plan of a module.
use Rattle.std.specs.Prelude.{ℕ, ◌+◌, ◌-◌, Bool, true, false, if◌then◌else◌, List, [], ◌∷◌, ◌++◌, map, length, drop, Option, Some, None, slice_get}
use Rattle.std.specs.List.{enumerate_from, flat_map, range_with_len}
use Rattle.std.specs.Option.{option_map_or}
use Rattle.v_tree.specs.declared.locations.Location.{Location}
use Rattle.v_tree.specs.declared.expressions.Expr.{Expr}
use Rattle.v_tree.specs.declared.gates.GateItem.{GateItem}
use Rattle.v_tree.specs.declared.modules.Item.{Item}
use Rattle.v_tree.specs.declared.modules.Item.TheVariants as item
use Rattle.v_tree.specs.declared.modules.Module.{Module}
use Rattle.flat_net.specs.declared.kinds.ElementKind.TheVariants.{Copy, Udp}
use Rattle.flat_net.specs.declared.kinds.NetKind.TheVariants.{Wire}
use Rattle.module_scope.specs.declared.nets.ScopeNet.{ScopeNet}
use Rattle.module_scope.specs.declared.scopes.Scope.{Scope}
use Rattle.module_scope.specs.Scopes.{scope_net}
use Rattle.module_graph.specs.declared.references.Master.{Master}
use Rattle.module_graph.specs.declared.references.Master.TheVariants as master
use Rattle.module_ports.specs.Ports.{port_names}
use Rattle.item_parts.specs.Literals.{location_of}
use Rattle.item_parts.specs.Widths.{net_range, range_width}
use Rattle.expression_bits.specs.declared.runs.BitRun.{BitRun}
use Rattle.expression_bits.specs.declared.runs.BitRun.TheVariants.{Net as NetRun, Literal as LiteralRun}
use Rattle.element_forms.specs.declared.forms.ElementForm.{ElementForm}
use Rattle.element_forms.specs.declared.forms.ElementForm.TheVariants.{Single, Bidirectional, Complementary}
use Rattle.element_forms.specs.declared.strengths.Strengths.{Strengths}
use Rattle.element_forms.specs.Classes.{net_class}
use Rattle.element_forms.specs.Forms.{element_form}
use Rattle.element_forms.specs.Strengths.{drive_strengths, gate_strengths}
use Rattle.module_parts.specs.Parts.{terminal_runs}
use Rattle.module_parts.specs.declared.parts.GatePart.{GatePart}
use Rattle.module_parts.specs.declared.parts.PairPart.{PairPart}
use Rattle.module_parts.specs.declared.parts.InstancePart.{InstancePart}
use Rattle.module_parts.specs.declared.parts.ModulePart.{ModulePart}
use Rattle.module_parts.specs.declared.parts.ModulePart.TheVariants.{Names, Gate, Pair, Instance}
use Rattle.netlist_plan.specs.declared.nets.NetSource.{NetSource}
use Rattle.netlist_plan.specs.declared.nets.NetSource.TheVariants.{Named, Literal}
use Rattle.netlist_plan.specs.declared.nets.ModuleNet.{ModuleNet}
use Rattle.netlist_plan.specs.Unnamed.{literal_count, numbered_from, own_count, runs_in}
use Rattle.netlist_plan.specs.Nets.{module_nets, name_first, select_offset}
use Rattle.netlist_plan.specs.declared.plan.OwnName.TheVariants.{Written, Unnamed}
use Rattle.netlist_plan.specs.declared.plan.PlanElement.{PlanElement}
use Rattle.netlist_plan.specs.declared.plan.PlanInstance.{PlanInstance}
use Rattle.netlist_plan.specs.declared.plan.PlanNet.{PlanNet}
use Rattle.netlist_plan.specs.declared.plan.PlanStep.{PlanStep}
use Rattle.netlist_plan.specs.declared.plan.PlanStep.TheVariants.{Element as ElementStep, Instance as InstanceStep}
use Rattle.netlist_plan.specs.declared.plan.PortBits.{PortBits}
use Rattle.netlist_plan.specs.declared.plan.SwitchTerminal.{SwitchTerminal}
use Rattle.netlist_plan.specs.declared.plan.ModulePlan.{ModulePlan}
use Rattle.netlist_plan.specs.Elements.{connections_bits, constants, copies, form_elements, gate_name, runs_bits, terminal_bits}

-- ---- items

-- what names mean, and the numbers of the primitives that the top reaches, by their indexes
pub record Meanings : Type 0 where
  pub of : List ℕ → Master
  pub udp_numbers : ℕ → ℕ

-- the form of the gates of an item; of what has no gates none is asked for
abbrev pub master_form : Meanings → Master → ElementForm
master_form meanings (master.Module m) = Single Copy
master_form meanings (master.Udp u) = Single (Udp (meanings.udp_numbers u))
master_form meanings master.Unknown = Single Copy

abbrev pub item_form : Meanings → Item → ElementForm
item_form meanings (item.Gates g) = element_form g.kind
item_form meanings (item.Instances i) = master_form meanings (meanings.of i.name.text)
item_form meanings (item.Ports d) = Single Copy
item_form meanings (item.Nets d) = Single Copy
item_form meanings (item.Trireg d) = Single Copy
item_form meanings (item.Assign a) = Single Copy
item_form meanings (item.Cell c) = Single Copy
item_form meanings (item.Specify s) = Single Copy

-- the strengths of what an item drives
abbrev pub item_strengths : Item → Strengths
item_strengths (item.Gates g) = gate_strengths g.kind
item_strengths (item.Instances i) = drive_strengths i.drive
item_strengths (item.Nets d) = drive_strengths d.drive
item_strengths (item.Assign a) = drive_strengths a.drive
item_strengths (item.Ports d) = drive_strengths None
item_strengths (item.Trireg d) = drive_strengths None
item_strengths (item.Cell c) = drive_strengths None
item_strengths (item.Specify s) = drive_strengths None

-- the form and the strengths by the index of an item
abbrev pub form_at : Meanings → List Item → ℕ → ElementForm
form_at meanings items index = option_map_or (item_form meanings) (slice_get items index) (Single Copy)

abbrev pub strengths_at : List Item → ℕ → Strengths
strengths_at items index = option_map_or item_strengths (slice_get items index) (drive_strengths None)

-- ---- parts

-- what parts are told from: the scope of the module, its nets, its items, and what names mean
pub record Given : Type 0 where
  pub scope : Scope
  pub nets : List ModuleNet
  pub items : List Item
  pub meanings : Meanings

-- the elements of a gate, of which the first thing without name has a number
abbrev pub gate_elements : Given → ℕ → GatePart → List PlanElement
gate_elements given number g =
    form_elements (gate_name number g.name) (form_at given.meanings given.items g.item) (strengths_at given.items g.item) g.item
    (terminal_bits given.scope given.nets (number + own_count (Gate g)) g.terminals)

-- those of an assignment, whose number this is
abbrev pub pair_elements : Given → ℕ → PairPart → List PlanElement
pair_elements given number p =
    copies number (strengths_at given.items p.item) p.item
    (runs_bits given.scope given.nets (number + 1) p.target)
    (drop p.value.cut (runs_bits given.scope given.nets (number + 1 + literal_count p.target) p.value.runs))

-- an instance of a module
abbrev pub instance_plan : Given → ℕ → InstancePart → PlanInstance
instance_plan given number i = record {
  master = i.master;
  name = option_map_or (λ name. name) i.name [];
  connections = connections_bits given.scope given.nets number i.connections;
}

abbrev pub element_steps : List PlanElement → List PlanStep
element_steps elements = map ElementStep elements

-- the steps of a part without the constants
abbrev pub own_steps : Given → ℕ → ModulePart → List PlanStep
own_steps given number (Names names) = []
own_steps given number (Gate g) = element_steps (gate_elements given number g)
own_steps given number (Pair p) = element_steps (pair_elements given number p)
own_steps given number (Instance i) = InstanceStep (instance_plan given number i) ∷ []

-- the steps of a part: the constants of its literals stand directly before it
abbrev pub part_steps : Given → ℕ × ModulePart → List PlanStep
part_steps given (number, part) =
    element_steps (constants given.nets (number + own_count part) (runs_in part)) ++ own_steps given number part

-- ---- terminals of bidirectional switches

abbrev pub is_bidirectional : ElementForm → Bool
is_bidirectional (Single kind) = false
is_bidirectional (Bidirectional kind resistive) = true
is_bidirectional (Complementary resistive) = false

-- the terminal whose first token stands at a location, with its bit; a literal's is none
abbrev pub run_terminal : Scope → List ModuleNet → Location → BitRun → List SwitchTerminal
run_terminal scope nets location (NetRun name select) =
    record { bit = name_first nets name + select_offset (net_range (scope_net scope name)) select; location = location } ∷ []
run_terminal scope nets location (LiteralRun bits) = []

abbrev pub expr_terminals : Scope → List ModuleNet → Expr → List SwitchTerminal
expr_terminals scope nets e = flat_map (run_terminal scope nets (location_of e)) (terminal_runs e)

abbrev pub gate_terminals : Scope → List ModuleNet → GateItem → List SwitchTerminal
gate_terminals scope nets g =
    if is_bidirectional (element_form g.kind) then flat_map (λ t. flat_map (expr_terminals scope nets) t.terminals) g.gates else []

abbrev pub item_terminals : Scope → List ModuleNet → Item → List SwitchTerminal
item_terminals scope nets (item.Gates g) = gate_terminals scope nets g
item_terminals scope nets (item.Instances i) = []
item_terminals scope nets (item.Ports d) = []
item_terminals scope nets (item.Nets d) = []
item_terminals scope nets (item.Trireg d) = []
item_terminals scope nets (item.Assign a) = []
item_terminals scope nets (item.Cell c) = []
item_terminals scope nets (item.Specify s) = []

-- ---- modules

-- a net of the plan; a name without a net counts as a scalar wire
abbrev pub named_net : List ℕ → ℕ → Option ScopeNet → PlanNet
named_net name first None = record { name = Written name; range = None; class = record { kind = Wire; charge = 0 }; delay = None; first = first }
named_net name first (Some net) = record { name = Written name; range = net.range; class = net_class net.kind; delay = net.delay; first = first }

abbrev pub literal_net : ℕ → ℕ → ℕ → PlanNet
literal_net number width first =
    record { name = Unnamed number; range = Some (record { left = width - 1; right = 0 }); class = record { kind = Wire; charge = 0 }; delay = None; first = first }

abbrev pub plan_source : Scope → ℕ → NetSource → PlanNet
plan_source scope first (Named name) = named_net name first (scope_net scope name)
plan_source scope first (Literal number bits) = literal_net number (length bits) first

abbrev pub plan_net : Scope → ModuleNet → PlanNet
plan_net scope net = plan_source scope net.first net.source

-- the bits of a port, by its index and its name
abbrev pub port_bits : Scope → List ModuleNet → ℕ × List ℕ → PortBits
port_bits scope nets (port, name) =
    record { port = port; bits = range_with_len (name_first nets name) (range_width (net_range (scope_net scope name))) }

-- the plan of a module under its scope, by its parts
abbrev pub module_plan : Scope → Meanings → Module → List ModulePart → ModulePlan
module_plan scope meanings m parts =
    let nets = module_nets scope parts in
    let given : Given = record { scope = scope; nets = nets; items = m.items; meanings = meanings } in
    record {
      nets = map (plan_net scope) nets;
      ports = map (port_bits scope nets) (enumerate_from 0 (port_names m.ports));
      steps = flat_map (part_steps given) (numbered_from 0 parts);
      terminals = flat_map (item_terminals scope nets) m.items;
    }
