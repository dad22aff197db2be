-- The names that a module writes, each with its location and with what is said of it there, in the order of the text.
use Rattle.std.specs.Prelude.{ℕ, ◌+◌, List, [], ◌∷◌, ◌++◌, map, Option, Some, None, if◌then◌else◌}
use Rattle.std.specs.List.{filter, flat_map}
use Rattle.std.specs.Option.{option_map}
use Rattle.name_table.specs.Names.{same_name, is_among}
use Rattle.v_tree.specs.declared.locations.Location.{Location}
use Rattle.v_tree.specs.declared.locations.Name.{Name}
use Rattle.v_tree.specs.declared.expressions.RangeBounds.{RangeBounds}
use Rattle.v_tree.specs.declared.expressions.Pick.{Pick}
use Rattle.v_tree.specs.declared.expressions.Expr.{Expr}
use Rattle.v_tree.specs.declared.expressions.Expr.TheOpen.{Expr-F}
use Rattle.v_tree.specs.declared.expressions.Expr.TheFolds.{fold-Expr}
use Rattle.v_tree.specs.declared.expressions.Target.{Target}
use Rattle.v_tree.specs.declared.expressions.Target.TheOpen.{Target-F}
use Rattle.v_tree.specs.declared.expressions.Target.TheFolds.{fold-Target}
use Rattle.v_tree.specs.declared.drives.Charge.{Charge}
use Rattle.v_tree.specs.declared.drives.Charge.TheVariants as charge
use Rattle.v_tree.specs.declared.drives.DelaySpec.{DelaySpec}
use Rattle.v_tree.specs.declared.declarations.VectorRange.{VectorRange}
use Rattle.v_tree.specs.declared.declarations.PortDecl.{PortDecl}
use Rattle.v_tree.specs.declared.declarations.ValuedName.{ValuedName}
use Rattle.v_tree.specs.declared.declarations.DeclaredNames.{DeclaredNames}
use Rattle.v_tree.specs.declared.declarations.DeclaredNames.TheVariants as declares
use Rattle.v_tree.specs.declared.declarations.NetDecl.{NetDecl}
use Rattle.v_tree.specs.declared.declarations.TriregDecl.{TriregDecl}
use Rattle.v_tree.specs.declared.declarations.Pair.{Pair}
use Rattle.v_tree.specs.declared.gates.Terms.{Terms}
use Rattle.v_tree.specs.declared.gates.Connection.{Connection}
use Rattle.v_tree.specs.declared.gates.Connections.{Connections}
use Rattle.v_tree.specs.declared.gates.Connections.TheVariants.{ByOrder, ByName}
use Rattle.v_tree.specs.declared.gates.Inst.{Inst}
use Rattle.v_tree.specs.declared.modules.AnsiPort.{AnsiPort}
use Rattle.v_tree.specs.declared.modules.AnsiEntry.{AnsiEntry}
use Rattle.v_tree.specs.declared.modules.AnsiEntry.TheVariants as entry
use Rattle.v_tree.specs.declared.modules.Ports.{Ports}
use Rattle.v_tree.specs.declared.modules.Ports.TheVariants as ports
use Rattle.v_tree.specs.declared.modules.Item.{Item}
use Rattle.v_tree.specs.declared.modules.Item.TheVariants as item
use Rattle.v_tree.specs.declared.modules.Module.{Module}
use Rattle.module_scope.specs.declared.roles.NetKind.TheVariants as kind
use Rattle.module_scope.specs.declared.roles.PortRole.{PortRole}
use Rattle.module_scope.specs.declared.roles.NetRole.{NetRole}
use Rattle.module_scope.specs.declared.roles.Side.{Side}
use Rattle.module_scope.specs.declared.roles.Side.TheVariants as side
use Rattle.module_scope.specs.declared.roles.Role.{Role}
use Rattle.module_scope.specs.declared.roles.Role.TheVariants as role

-- a name, where it stands, and what is said of it there
pub record Mention : Type 0 where
  pub name : List ℕ
  pub location : Location
  pub role : Role

-- a name that is written
abbrev pub mention : Role → Name → Mention
mention r name = record { name = name.text; location = name.location; role = r }

-- names that are written with commas between
abbrev pub names_mentions : Role → List Name → List Mention
names_mentions r names = map (mention r) names

-- a name, where there is one
abbrev pub name_mentions : Role → Option Name → List Mention
name_mentions r None = []
name_mentions r (Some name) = mention r name ∷ []

-- ---- the header

-- what a declaration says of the ports whose direction it gives
abbrev pub ansi_role : AnsiPort → PortRole
ansi_role p = record { direction = p.direction; net_type = p.net_type; range = p.range }

-- an entry that declares a port: its name stands in the header, and has a direction
abbrev pub ansi_mentions : PortRole → Name → List Mention
ansi_mentions port name = mention role.Header name ∷ mention (role.Port port) name ∷ []

-- the entries behind the first: a name alone continues the direction, type and range before it
abbrev pub entries_mentions : PortRole → List AnsiEntry → List Mention
entries_mentions port [] = []
entries_mentions port (entry.Port p ∷ entries) = ansi_mentions (ansi_role p) p.name ++ entries_mentions (ansi_role p) entries
entries_mentions port (entry.Name name ∷ entries) = ansi_mentions port name ++ entries_mentions port entries

abbrev pub header_mentions : Ports → List Mention
header_mentions ports.Absent = []
header_mentions ports.Empty = []
header_mentions (ports.Names names) = names_mentions role.Header names
header_mentions (ports.Ansi first entries) = ansi_mentions (ansi_role first) first.name ++ entries_mentions (ansi_role first) entries

-- ---- uses

-- a net or bits of it, at a side
abbrev pub pick_mention : Side → Pick → Mention
pick_mention at pick = mention (role.Use at pick.select) pick.name

-- one layer of an expression, with the mentions of its parts
abbrev pub expr_layer : Side → Expr-F (List Mention) → List Mention
expr_layer at (Expr-F.Pick pick) = pick_mention at pick ∷ []
expr_layer at (Expr-F.Number location n) = []
expr_layer at (Expr-F.Based location literal) = []
expr_layer at (Expr-F.Concat location parts) = flat_map (λ part. part) parts

abbrev pub expr_mentions : Side → Expr → List Mention
expr_mentions at = fold-Expr (List Mention) (expr_layer at)

-- one layer of a target, with the mentions of its parts
abbrev pub target_layer : Target-F (List Mention) → List Mention
target_layer (Target-F.Pick pick) = pick_mention side.Target pick ∷ []
target_layer (Target-F.Concat location parts) = flat_map (λ part. part) parts

abbrev pub target_mentions : Target → List Mention
target_mentions = fold-Target (List Mention) target_layer

-- several expressions at a side
abbrev pub exprs_mentions : Side → List Expr → List Mention
exprs_mentions at exprs = flat_map (expr_mentions at) exprs

-- an expression, where there is one
abbrev pub optional_mentions : Side → Option Expr → List Mention
optional_mentions at None = []
optional_mentions at (Some expr) = expr_mentions at expr

-- ---- declarations and assignments

-- what a declaration says of the ports whose direction it gives
abbrev pub port_role : PortDecl → PortRole
port_role d = record { direction = d.direction; net_type = d.net_type; range = d.range }

-- the range, where there is one
abbrev pub vector_bounds : Option VectorRange → Option RangeBounds
vector_bounds r = option_map (λ vector. vector.range) r

-- the index of the item, where it has a delay
abbrev pub delay_at : ℕ → Option DelaySpec → Option ℕ
delay_at index delay = option_map (λ spec. index) delay

-- a delay before names that are assigned is that of the assignments, and not of the nets (IEEE 1364-2005, 6.1.3)
abbrev pub net_delay : ℕ → DeclaredNames → Option DelaySpec → Option ℕ
net_delay index (declares.Names names) delay = delay_at index delay
net_delay index (declares.Valued names) delay = None

-- what a declaration says of its nets, where it is the item with this index
abbrev pub net_role : ℕ → NetDecl → NetRole
net_role index d = record { kind = kind.Typed d.net_type; range = vector_bounds d.vector_range; delay = net_delay index d.declared_names d.delay }

-- the charge of a trireg, which is medium where none is written (IEEE 1364-2005, 4.4.1)
abbrev pub charge_of : Option Charge → Charge
charge_of None = charge.Medium
charge_of (Some c) = c

abbrev pub trireg_role : ℕ → TriregDecl → NetRole
trireg_role index d = record { kind = kind.Trireg (charge_of d.charge); range = vector_bounds d.vector_range; delay = delay_at index d.delay }

-- a name that is declared and assigned
abbrev pub valued_mentions : NetRole → ValuedName → List Mention
valued_mentions net v = mention (role.Net net) v.name ∷ expr_mentions side.Value v.value

abbrev pub declared_mentions : NetRole → DeclaredNames → List Mention
declared_mentions net (declares.Names names) = names_mentions (role.Net net) names
declared_mentions net (declares.Valued names) = flat_map (valued_mentions net) names

abbrev pub pair_mentions : Pair → List Mention
pair_mentions p = target_mentions p.target ++ expr_mentions side.Value p.value

-- ---- gates and instances

abbrev pub terms_mentions : Terms → List Mention
terms_mentions t = name_mentions role.Instance t.name ++ exprs_mentions side.Terminal t.terminals

-- `.Name` names a port of the instance's module, and no name of this one
abbrev pub connection_mentions : Connection → List Mention
connection_mentions c = optional_mentions side.Connection c.value

abbrev pub connections_mentions : Connections → List Mention
connections_mentions (ByOrder values) = flat_map (optional_mentions side.Connection) values
connections_mentions (ByName connections) = flat_map connection_mentions connections

abbrev pub inst_mentions : Inst → List Mention
inst_mentions i = name_mentions role.Instance i.name ++ connections_mentions i.connections

-- ---- modules

-- the item with this index
abbrev pub item_mentions : ℕ → Item → List Mention
item_mentions index (item.Ports d) = names_mentions (role.Port (port_role d)) d.names
item_mentions index (item.Nets d) = declared_mentions (net_role index d) d.declared_names
item_mentions index (item.Trireg d) = names_mentions (role.Net (trireg_role index d)) d.names
item_mentions index (item.Assign a) = flat_map pair_mentions a.pairs
item_mentions index (item.Gates g) = flat_map terms_mentions g.gates
item_mentions index (item.Instances i) = flat_map inst_mentions i.instances
item_mentions index (item.Cell c) = []
item_mentions index (item.Specify s) = []

-- items, counted from an index
abbrev pub items_mentions : ℕ → List Item → List Mention
items_mentions index [] = []
items_mentions index (first ∷ items) = item_mentions index first ++ items_mentions (index + 1) items

-- all that a module mentions
abbrev pub mentions_in : Module → List Mention
mentions_in m = header_mentions m.ports ++ items_mentions 0 m.items

-- ---- mentions of one name

-- what the mentions of a name say of it, in their order
abbrev pub roles_of : List ℕ → List Mention → List Role
roles_of name mentions = map (λ m. m.role) (filter (λ m. same_name name m.name) mentions)

-- the names of mentions
abbrev pub names_of : List Mention → List (List ℕ)
names_of mentions = map (λ m. m.name) mentions

-- the names among mentions that don't stand among the names before them
abbrev pub new_names : List (List ℕ) → List Mention → List (List ℕ)
new_names before [] = []
new_names before (m ∷ mentions) = if is_among m.name before then new_names before mentions else m.name ∷ new_names (before ++ m.name ∷ []) mentions

-- the names of mentions, each once, in the order of their first mentions
abbrev pub first_names : List Mention → List (List ℕ)
first_names mentions = new_names [] mentions
