-- The ports of a module, in the order of its header (IEEE 1364-2005, 12.3).
use Rattle.std.specs.Prelude.{ℕ, List, [], ◌∷◌, map, option_and_then, slice_get, Option}
use Rattle.v_tree.specs.declared.locations.Name.{Name}
use Rattle.v_tree.specs.declared.modules.AnsiEntry.{AnsiEntry}
use Rattle.v_tree.specs.declared.modules.AnsiEntry.TheVariants as entry
use Rattle.v_tree.specs.declared.modules.Ports.{Ports}
use Rattle.v_tree.specs.declared.modules.Ports.TheVariants.{Absent, Empty, Names, Ansi}
use Rattle.v_tree.specs.declared.modules.Module.{Module}
use Rattle.name_table.specs.Names.{index_of}
use Rattle.module_scope.specs.declared.nets.ScopeNet.{ScopeNet}
use Rattle.module_scope.specs.declared.scopes.Scope.{Scope}
use Rattle.module_scope.specs.Scopes.{scope_net}

-- a port: its name, and the net of that name in its module, which has its direction and its range
pub record Port : Type 0 where
  pub name : List ℕ
  pub net : Option ScopeNet

-- the name of an entry
abbrev pub entry_name : AnsiEntry → Name
entry_name (entry.Port port) = port.name
entry_name (entry.Name name) = name

-- the names of a header as they are written
abbrev pub header_names : Ports → List Name
header_names Absent = []
header_names Empty = []
header_names (Names names) = names
header_names (Ansi first entries) = first.name ∷ map entry_name entries

-- the names of the ports; one that stands twice in the header is there twice
abbrev pub port_names : Ports → List (List ℕ)
port_names ports = map (λ name. name.text) (header_names ports)

-- the port of a name
abbrev pub port_of : Scope → List ℕ → Port
port_of scope name = record { name = name; net = scope_net scope name }

-- the ports of a module under its scope
abbrev pub ports_of : Scope → Module → List Port
ports_of scope m = map (port_of scope) (port_names m.ports)

-- ---- what is asked of ports

-- the net of the port at an index, where there is such a port, and it has a net
abbrev pub net_at : List Port → ℕ → Option ScopeNet
net_at ports index = option_and_then (λ port. port.net) (slice_get ports index)

-- the names of ports
abbrev pub names_of : List Port → List (List ℕ)
names_of ports = map (λ port. port.name) ports

-- the index of the first port of a name
abbrev pub index_in : List ℕ → List Port → Option ℕ
index_in name ports = index_of name (names_of ports)
