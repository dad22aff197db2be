-- The netlist of a file of the first form: one module of nand gates without delay, whose terminals are whole nets.
use Rattle.std.specs.Prelude.{ℕ, Bool, true, false, ◌&&◌, if◌then◌else◌, List, [], ◌∷◌, map, Option, Some, None, is_none}
use Rattle.std.specs.Option.{option_map}
use Rattle.gate_net.specs.declared.netlist.Netlist.{Netlist}
use Rattle.v_tree.specs.declared.locations.Name.{Name}
use Rattle.v_tree.specs.declared.expressions.Pick.{Pick}
use Rattle.v_tree.specs.declared.expressions.Expr.{Expr, out-Expr}
use Rattle.v_tree.specs.declared.expressions.Expr.TheOpen.{Expr-F}
use Rattle.v_tree.specs.declared.declarations.Direction.{Direction as TreeDirection}
use Rattle.v_tree.specs.declared.declarations.Direction.TheVariants as direction
use Rattle.v_tree.specs.declared.declarations.NetType.{NetType}
use Rattle.v_tree.specs.declared.declarations.NetType.TheVariants as net_type
use Rattle.v_tree.specs.declared.declarations.PortDecl.{PortDecl}
use Rattle.v_tree.specs.declared.declarations.DeclaredNames.{DeclaredNames}
use Rattle.v_tree.specs.declared.declarations.DeclaredNames.TheVariants as declares
use Rattle.v_tree.specs.declared.declarations.NetDecl.{NetDecl}
use Rattle.v_tree.specs.declared.gates.LogicGate.TheVariants as logic
use Rattle.v_tree.specs.declared.gates.GateKind.{GateKind}
use Rattle.v_tree.specs.declared.gates.GateKind.TheVariants as gate
use Rattle.v_tree.specs.declared.gates.GateItem.{GateItem}
use Rattle.v_tree.specs.declared.gates.Terms.{Terms}
use Rattle.v_tree.specs.declared.modules.Ports.{Ports as Header}
use Rattle.v_tree.specs.declared.modules.Ports.TheVariants as ports
use Rattle.v_tree.specs.declared.modules.Item.{Item as TreeItem}
use Rattle.v_tree.specs.declared.modules.Item.TheVariants as item
use Rattle.v_tree.specs.declared.modules.Module.{Module}
use Rattle.v_tree.specs.declared.primitives.UdpDecl.{UdpDecl}
use Rattle.v_tree.specs.declared.directives.Directive.{Directive}
use Rattle.first_netlist.specs.declared.tree.Direction.TheVariants.{Input, Output}
use Rattle.first_netlist.specs.declared.tree.Instance.{Instance}
use Rattle.first_netlist.specs.declared.tree.Item.{Item}
use Rattle.first_netlist.specs.declared.tree.Item.TheVariants.{Ports, Wires, Gates}
use Rattle.gate_net.specs.Steps.{◌>>=◌, each}
use Rattle.first_netlist.specs.FlatNames.{flat_name}
use Rattle.first_netlist.specs.Declarations.{Declarations, declarations_of}
use Rattle.first_netlist.specs.Meaning.{meaning}

-- the flat name of a name, and those of several
abbrev pub named_flat : Name → List ℕ
named_flat name = flat_name name.text

abbrev pub flat_names : List Name → List (List ℕ)
flat_names names = map named_flat names

-- the ports that a header names, where it doesn't declare them
unfoldable pub header_of : Header → Option (List (List ℕ))
header_of ports.Absent = Some []
header_of ports.Empty = Some []
header_of (ports.Names names) = Some (flat_names names)
header_of (ports.Ansi first others) = None

-- a net, where no bits of it are selected
unfoldable pub whole_net : Pick → Option (List ℕ)
whole_net pick = if is_none pick.select then Some (named_flat pick.name) else None

-- an expression that is a whole net
unfoldable pub net_of : Expr-F Expr → Option (List ℕ)
net_of (Expr-F.Pick pick) = whole_net pick
net_of other = None

-- a terminal is a whole net
abbrev pub terminal_of : Expr → Option (List ℕ)
terminal_of expr = net_of (out-Expr expr)

-- a gate: the first terminal is its output, and the others are its inputs
unfoldable pub gate_with : Option (List ℕ) → List Expr → Option Instance
gate_with name [] = None
gate_with name (first ∷ others) = do
  output ← terminal_of first
  inputs ← each terminal_of others
  Some (record { name = name; output = output; inputs = inputs })

-- a gate, with its name where it has one
abbrev pub instance_of : Terms → Option Instance
instance_of terms = gate_with (option_map named_flat terms.name) terms.terminals

-- inputs or outputs
unfoldable pub ports_to : TreeDirection → List (List ℕ) → Option Item
ports_to direction.Input names = Some (Ports Input names)
ports_to direction.Output names = Some (Ports Output names)
ports_to direction.Inout names = None

-- inputs or outputs, without a type and a range
unfoldable pub ports_in : PortDecl → Option Item
ports_in decl = if is_none decl.net_type && is_none decl.range then ports_to decl.direction (flat_names decl.names) else None

-- nets that aren't assigned
unfoldable pub wires_among : DeclaredNames → Option Item
wires_among (declares.Names names) = Some (Wires (flat_names names))
wires_among (declares.Valued names) = None

-- `wire`
unfoldable pub is_wire : NetType → Bool
is_wire net_type.Wire = true
is_wire other = false

-- wires, without a drive, a range and a delay
unfoldable pub wires_in : NetDecl → Option Item
wires_in decl = if is_wire decl.net_type && is_none decl.drive && is_none decl.vector_range && is_none decl.delay then wires_among decl.declared_names else None

-- `nand`, without a drive and a delay
unfoldable pub is_nand : GateKind → Bool
is_nand (gate.Logic logic.Nand None None) = true
is_nand other = false

-- gates whose terminals are whole nets
unfoldable pub gates_among : List Terms → Option Item
gates_among gates = do
  instances ← each instance_of gates
  Some (Gates instances)

-- nand gates
unfoldable pub gates_in : GateItem → Option Item
gates_in decl = if is_nand decl.kind then gates_among decl.gates else None

-- an item: ports, wires or gates
unfoldable pub item_of : TreeItem → Option Item
item_of (item.Ports decl) = ports_in decl
item_of (item.Nets decl) = wires_in decl
item_of (item.Gates decl) = gates_in decl
item_of other = None

-- what a module declares, where its header and each of its items have the form
unfoldable pub module_declarations : Module → Option Declarations
module_declarations m = do
  header ← header_of m.ports
  items ← each item_of m.items
  Some (declarations_of (record { header = header; items = items }))

-- what the one module declares, where there is neither a primitive nor a directive
unfoldable pub declarations_in : List Module → List UdpDecl → List Directive → Option Declarations
declarations_in (m ∷ []) [] [] = module_declarations m
declarations_in modules udps directives = None

-- the netlist that a file means, where it has the form and keeps its rules
unfoldable pub netlist_of : List Module → List UdpDecl → List Directive → Option Netlist
netlist_of modules udps directives = declarations_in modules udps directives >>= meaning
