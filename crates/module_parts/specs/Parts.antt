-- The parts of a module in text order, with the bits that they connect.
use Rattle.std.specs.Prelude.{ℕ, ◌+◌, List, [], ◌∷◌, ◌++◌, map, Option, Some, None}
use Rattle.std.specs.List.{enumerate_from, flat_map}
use Rattle.std.specs.Option.{option_map, option_map_or}
use Rattle.v_tree.specs.declared.locations.Name.{Name}
use Rattle.v_tree.specs.declared.expressions.Expr.{Expr}
use Rattle.v_tree.specs.declared.expressions.Target.{Target}
use Rattle.v_tree.specs.declared.expressions.Target.TheOpen.{Target-F}
use Rattle.v_tree.specs.declared.expressions.Target.TheFolds.{fold-Target}
use Rattle.v_tree.specs.declared.declarations.ValuedName.{ValuedName}
use Rattle.v_tree.specs.declared.declarations.DeclaredNames.{DeclaredNames}
use Rattle.v_tree.specs.declared.declarations.DeclaredNames.TheVariants as declares
use Rattle.v_tree.specs.declared.declarations.Pair.{Pair as TreePair}
use Rattle.v_tree.specs.declared.gates.Terms.{Terms}
use Rattle.v_tree.specs.declared.gates.Inst.{Inst}
use Rattle.v_tree.specs.declared.gates.Instance.{Instance as TreeInstance}
use Rattle.v_tree.specs.declared.modules.Item.{Item}
use Rattle.v_tree.specs.declared.modules.Item.TheVariants as item
use Rattle.v_tree.specs.declared.modules.Module.{Module}
use Rattle.module_scope.specs.declared.scopes.Scope.{Scope}
use Rattle.module_graph.specs.declared.references.Master.{Master}
use Rattle.module_graph.specs.declared.references.Master.TheVariants as master
use Rattle.module_ports.specs.Ports.{Port, port_names}
use Rattle.instance_rules.specs.Links.{Link, MasterPorts, links, ports_of, width_at}
use Rattle.expression_bits.specs.declared.runs.BitRun.{BitRun}
use Rattle.expression_bits.specs.declared.runs.BitRun.TheVariants.{Net}
use Rattle.expression_bits.specs.Runs.{pick_run, place_runs, runs_width, value_runs}
use Rattle.module_parts.specs.declared.parts.PortRuns.{PortRuns}
use Rattle.module_parts.specs.declared.parts.ModulePart.{ModulePart}
use Rattle.module_parts.specs.declared.parts.ModulePart.TheVariants.{Names, Gate, Pair, Instance}

-- the text of a name, where there is one
abbrev pub name_text : Option Name → Option (List ℕ)
name_text name = option_map (λ n. n.text) name

-- the texts of names
abbrev pub name_texts : List Name → List (List ℕ)
name_texts names = map (λ n. n.text) names

-- ---- gates

-- the bit of a terminal
abbrev pub terminal_runs : Expr → List BitRun
terminal_runs e = place_runs 1 e

abbrev pub gate_part : ℕ → Terms → ModulePart
gate_part index t =
    Gate (record { item = index; name = name_text t.name; terminals = map terminal_runs t.terminals })

-- ---- assignments

-- one layer of a target, with the runs of its parts, the leftmost first
abbrev pub target_layer : Target-F (List BitRun) → List BitRun
target_layer (Target-F.Pick pick) = pick_run pick ∷ []
target_layer (Target-F.Concat location parts) = flat_map (λ part. part) parts

-- the runs of a target
abbrev pub target_runs : Target → List BitRun
target_runs = fold-Target (List BitRun) target_layer

-- the assignment of an expression to so many bits
abbrev pub assignment : Scope → ℕ → List BitRun → Expr → ModulePart
assignment scope index target value =
    Pair (record { item = index; target = target; value = value_runs scope (runs_width scope target) value })

abbrev pub pair_part : Scope → ℕ → TreePair → ModulePart
pair_part scope index p = assignment scope index (target_runs p.target) p.value

-- a name that is declared and assigned, as a whole (IEEE 1364-2005, 6.1.1)
abbrev pub valued_parts : Scope → ℕ → ValuedName → List ModulePart
valued_parts scope index v =
    Names (v.name.text ∷ []) ∷ assignment scope index (Net v.name.text None ∷ []) v.value ∷ []

abbrev pub declared_parts : Scope → ℕ → DeclaredNames → List ModulePart
declared_parts scope index (declares.Names names) = Names (name_texts names) ∷ []
declared_parts scope index (declares.Valued names) = flat_map (valued_parts scope index) names

-- ---- instances

-- the bits at a port, whose width they have; where there is no port to keep a width, one bit
abbrev pub port_runs : MasterPorts → Link → PortRuns
port_runs ports l = record { port = l.port; runs = place_runs (option_map_or (λ width. width) (width_at ports l.port) 1) l.value }

-- an instance of a module, by its index among the modules
abbrev pub module_instance : ℕ → ℕ → MasterPorts → Inst → ModulePart
module_instance index m ports i =
    Instance (record { item = index; master = m; name = name_text i.name; connections = map (port_runs ports) (links ports i.connections) })

-- an instance of a primitive is a gate, whose connections are its terminals
abbrev pub primitive_instance : ℕ → MasterPorts → Inst → ModulePart
primitive_instance index ports i =
    Gate (record { item = index; name = name_text i.name; terminals = map (λ l. terminal_runs l.value) (links ports i.connections) })

-- the instances of an item, by what its name means; of an unknown name there is none
abbrev pub instance_parts : ℕ → List (List Port) → Master → TreeInstance → List ModulePart
instance_parts index tables (master.Module m) i =
    map (module_instance index m (ports_of tables [] (master.Module m))) i.instances
instance_parts index tables (master.Udp u) i = map (primitive_instance index (ports_of tables [] (master.Udp u))) i.instances
instance_parts index tables master.Unknown i = []

-- ---- modules

-- the parts of an item with its index, by the ports of each module and what names mean
abbrev pub parts_of_item : Scope → List (List Port) → (List ℕ → Master) → ℕ × Item → List ModulePart
parts_of_item scope tables of (index, item.Ports d) = Names (name_texts d.names) ∷ []
parts_of_item scope tables of (index, item.Nets d) = declared_parts scope index d.declared_names
parts_of_item scope tables of (index, item.Trireg d) = Names (name_texts d.names) ∷ []
parts_of_item scope tables of (index, item.Assign a) = map (pair_part scope index) a.pairs
parts_of_item scope tables of (index, item.Gates g) = map (gate_part index) g.gates
parts_of_item scope tables of (index, item.Instances i) = instance_parts index tables (of i.name.text) i
parts_of_item scope tables of (index, item.Cell c) = []
parts_of_item scope tables of (index, item.Specify s) = []

-- the parts of a module: the names of its header, and those of its items
abbrev pub module_parts : Scope → List (List Port) → (List ℕ → Master) → Module → List ModulePart
module_parts scope tables of m =
    Names (port_names m.ports) ∷ flat_map (parts_of_item scope tables of) (enumerate_from 0 m.items)
