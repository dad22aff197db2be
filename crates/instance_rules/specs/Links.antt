-- The connections of an instance, and the ports that they connect (IEEE 1364-2005, 12.3.5 and 12.3.6).
use Rattle.std.specs.Prelude.{ℕ, Bool, true, false, List, [], ◌∷◌, option_and_then, slice_get, slice_index_or, nat_eq, Option, None, Some}
use Rattle.std.specs.List.{enumerate_from, flat_map}
use Rattle.std.specs.Option.{option_map}
use Rattle.v_tree.specs.declared.locations.Location.{Location}
use Rattle.v_tree.specs.declared.expressions.Expr.{Expr}
use Rattle.v_tree.specs.declared.declarations.Direction.{Direction}
use Rattle.v_tree.specs.declared.declarations.Direction.TheVariants.{Input, Output, Inout}
use Rattle.v_tree.specs.declared.gates.Connection.{Connection}
use Rattle.v_tree.specs.declared.gates.Connections.{Connections}
use Rattle.v_tree.specs.declared.gates.Connections.TheVariants.{ByOrder, ByName}
use Rattle.module_scope.specs.declared.nets.ScopeNet.{ScopeNet}
use Rattle.module_graph.specs.declared.references.Master.{Master}
use Rattle.module_graph.specs.declared.references.Master.TheVariants.{Module, Udp, Unknown}
use Rattle.module_ports.specs.Ports.{Port, index_in}
use Rattle.item_parts.specs.Widths.{net_range, range_width}
use Rattle.item_parts.specs.Literals.{location_of}

-- what an instance's connections connect: the ports of a module, so many ports of a primitive, or nothing that is known
pub data MasterPorts : Type 0 where
  ModulePorts : List Port → MasterPorts
  PrimitivePorts : ℕ → MasterPorts
  UnknownPorts : MasterPorts

-- the ports of a master, where each module has its ports and each primitive its number of ports
abbrev pub ports_of : List (List Port) → List ℕ → Master → MasterPorts
ports_of tables counts (Module index) = ModulePorts (slice_index_or tables index [])
ports_of tables counts (Udp index) = PrimitivePorts (slice_index_or counts index 0)
ports_of tables counts Unknown = UnknownPorts

-- ---- connections

-- the connections by place: `()` is none at all, and an empty place is one
abbrev pub connections_by_place : List (Option Expr) → List (Option Expr)
connections_by_place [] = []
connections_by_place (None ∷ []) = []
connections_by_place values = values

-- an expression that is connected: the index of its port, where there is one; its first token, which is the `.` where it is named; and the expression
pub record Link : Type 0 where
  pub port : Option ℕ
  pub place : Location
  pub value : Expr

-- the port of a named connection: of a module the first of that name; of a primitive, whose ports can't be named, that of the connection's place
abbrev pub named_port : MasterPorts → ℕ → List ℕ → Option ℕ
named_port (ModulePorts ports) index name = index_in name ports
named_port (PrimitivePorts count) index name = Some index
named_port UnknownPorts index name = None

-- the expression of a connection by place
abbrev pub ordered_link : ℕ × Option Expr → List Link
ordered_link (index, None) = []
ordered_link (index, Some value) = record { port = Some index; place = location_of value; value = value } ∷ []

-- an expression in a named connection
abbrev pub optional_link : Option ℕ → Location → Option Expr → List Link
optional_link port place None = []
optional_link port place (Some value) = record { port = port; place = place; value = value } ∷ []

-- the expression of a named connection
abbrev pub named_link : MasterPorts → ℕ × Connection → List Link
named_link ports (index, c) = optional_link (named_port ports index c.port.text) c.location c.value

-- the expressions of an instance's connections
abbrev pub links : MasterPorts → Connections → List Link
links ports (ByOrder values) = flat_map ordered_link (enumerate_from 0 values)
links ports (ByName connections) = flat_map (named_link ports) (enumerate_from 0 connections)

-- ---- ports

-- the width of a module's port: that of its net, where a name without a net counts as a scalar
abbrev pub port_width : Port → ℕ
port_width port = range_width (net_range port.net)

-- the width that an expression at a port has to have: that of a module's port, and one bit at a primitive; None where there is no such port of a module
abbrev pub width_at : MasterPorts → Option ℕ → Option ℕ
width_at (ModulePorts ports) port = option_map port_width (option_and_then (slice_get ports) port)
width_at (PrimitivePorts count) port = Some 1
width_at UnknownPorts port = None

-- a port of this direction drives the net outside
abbrev pub is_driving : Option Direction → Bool
is_driving None = false
is_driving (Some Input) = false
is_driving (Some Output) = true
is_driving (Some Inout) = true

abbrev pub net_direction : Option ScopeNet → Option Direction
net_direction net = option_and_then (λ n. n.direction) net

-- a port is an output or an inout: of a primitive it is the first (IEEE 1364-2005, 8.1.2)
abbrev pub is_output_at : MasterPorts → Option ℕ → Bool
is_output_at ports None = false
is_output_at (ModulePorts ports) (Some index) = is_driving (option_and_then (λ port. net_direction port.net) (slice_get ports index))
is_output_at (PrimitivePorts count) (Some index) = nat_eq index 0
is_output_at UnknownPorts (Some index) = false
