-- The tokens with which each part of a tree is written. A token is bare where the tree doesn't keep its location.
use Rattle.std.specs.Prelude.{ℕ, ℤ, replicate, Bool, true, false, List, [], ◌∷◌, ◌++◌, codes, Option, Some, None}
use Rattle.v_tree.specs.declared.locations.Location.{Location}
use Rattle.v_tree.specs.declared.locations.Name.{Name}
use Rattle.v_tree.specs.declared.expressions.RangeBounds.{RangeBounds}
use Rattle.v_tree.specs.declared.expressions.Select.{Select}
use Rattle.v_tree.specs.declared.expressions.Pick.{Pick}
use Rattle.v_tree.specs.declared.expressions.Expr.{Expr}
use Rattle.v_tree.specs.declared.expressions.Expr.TheOpen.{Expr-F}
use Rattle.v_tree.specs.declared.expressions.Expr.TheFolds.{fold-Expr}
use Rattle.v_tree.specs.declared.expressions.Target.{Target}
use Rattle.v_tree.specs.declared.expressions.Target.TheOpen.{Target-F}
use Rattle.v_tree.specs.declared.expressions.Target.TheFolds.{fold-Target}
use Rattle.v_tree.specs.declared.drives.Level.{Level}
use Rattle.v_tree.specs.declared.drives.DriveStrength.{DriveStrength}
use Rattle.v_tree.specs.declared.drives.PullLevels.{PullLevels}
use Rattle.v_tree.specs.declared.drives.Charge.{Charge}
use Rattle.v_tree.specs.declared.drives.Amount.{Amount}
use Rattle.v_tree.specs.declared.drives.Amount.TheVariants as amounts
use Rattle.v_tree.specs.declared.drives.DelayValue.{DelayValue}
use Rattle.v_tree.specs.declared.drives.DelayValue.TheVariants.{One, Three}
use Rattle.v_tree.specs.declared.drives.Delay.{Delay}
use Rattle.v_tree.specs.declared.drives.Delay.TheVariants as delays
use Rattle.v_tree.specs.declared.drives.DelaySpec.{DelaySpec}
use Rattle.v_tree.specs.declared.directives.CellDirective.{CellDirective}
use Rattle.v_tree.specs.declared.directives.Timescale.{Timescale}
use Rattle.v_tree.specs.declared.directives.ImplicitNetType.{ImplicitNetType}
use Rattle.v_tree.specs.declared.directives.DefaultNettype.{DefaultNettype}
use Rattle.v_tree.specs.declared.directives.Directive.{Directive}
use Rattle.v_tree.specs.declared.directives.Directive.TheVariants as directives
use Rattle.v_tree.specs.declared.declarations.NetType.{NetType}
use Rattle.v_tree.specs.declared.declarations.VectorWord.{VectorWord}
use Rattle.v_tree.specs.declared.declarations.VectorRange.{VectorRange}
use Rattle.v_tree.specs.declared.declarations.PortDecl.{PortDecl}
use Rattle.v_tree.specs.declared.declarations.ValuedName.{ValuedName}
use Rattle.v_tree.specs.declared.declarations.DeclaredNames.{DeclaredNames}
use Rattle.v_tree.specs.declared.declarations.DeclaredNames.TheVariants as declares
use Rattle.v_tree.specs.declared.declarations.NetDecl.{NetDecl}
use Rattle.v_tree.specs.declared.declarations.TriregDecl.{TriregDecl}
use Rattle.v_tree.specs.declared.declarations.Pair.{Pair}
use Rattle.v_tree.specs.declared.declarations.AssignItem.{AssignItem}
use Rattle.v_tree.specs.declared.gates.Terms.{Terms}
use Rattle.v_tree.specs.declared.gates.GateKind.{GateKind}
use Rattle.v_tree.specs.declared.gates.GateKind.TheVariants as gate
use Rattle.v_tree.specs.declared.gates.GateItem.{GateItem}
use Rattle.v_tree.specs.declared.gates.Connection.{Connection}
use Rattle.v_tree.specs.declared.gates.Connections.{Connections}
use Rattle.v_tree.specs.declared.gates.Connections.TheVariants.{ByOrder, ByName}
use Rattle.v_tree.specs.declared.gates.Inst.{Inst}
use Rattle.v_tree.specs.declared.gates.Instance.{Instance}
use Rattle.v_tree.specs.declared.modules.AnsiPort.{AnsiPort}
use Rattle.v_tree.specs.declared.modules.AnsiEntry.{AnsiEntry}
use Rattle.v_tree.specs.declared.modules.AnsiEntry.TheVariants as entry
use Rattle.v_tree.specs.declared.modules.Ports.{Ports}
use Rattle.v_tree.specs.declared.modules.Ports.TheVariants as ports
use Rattle.v_tree.specs.declared.modules.SpecifyBlock.{SpecifyBlock}
use Rattle.v_tree.specs.declared.modules.Item.{Item}
use Rattle.v_tree.specs.declared.modules.Item.TheVariants as item
use Rattle.v_tree.specs.declared.modules.Module.{Module}
use Rattle.v_tree.specs.declared.modules.Description.{Description}
use Rattle.v_tree.specs.declared.modules.Description.TheVariants as described
use Rattle.v_tree.specs.declared.primitives.Lit.{Lit}
use Rattle.v_tree.specs.declared.primitives.Lit.TheVariants as literal
use Rattle.v_tree.specs.declared.primitives.UdpInput.{UdpInput}
use Rattle.v_tree.specs.declared.primitives.UdpPorts.{UdpPorts}
use Rattle.v_tree.specs.declared.primitives.UdpPorts.TheVariants as udp_ports
use Rattle.v_tree.specs.declared.primitives.UdpItem.{UdpItem}
use Rattle.v_tree.specs.declared.primitives.UdpItem.TheVariants as udp_item
use Rattle.v_tree.specs.declared.primitives.UdpInitial.{UdpInitial}
use Rattle.v_tree.specs.declared.primitives.PlacedRow.{PlacedRow}
use Rattle.v_tree.specs.declared.primitives.UdpDecl.{UdpDecl}
use Rattle.udp_table.specs.declared.symbols.Sym.{Sym}
use Rattle.udp_table.specs.declared.symbols.Sym.TheVariants as sym
use Rattle.udp_table.specs.declared.rows.UdpRow.{UdpRow}
use Rattle.v_tree.specs.Written as form
use Rattle.v_tree.specs.Written.{Form, Written, Spelled, Exactly, Inside, exactly, at, bare, placed_first, written_if_there, behind_commas, between_commas, one_by_one}
use Rattle.v_tree.specs.Words.{direction_word, net_type_word, vector_word, charge_word, logic_word, switch_word, tran_word, pull_word, opening_word, level_word, base_symbol, sym_symbol, cell_word, implicit_net_type_word, unit_count, unit_name}

-- a mark, and a word
abbrev pub mark : ℕ → Written
mark byte = bare (form.Mark byte)

abbrev pub placed_mark : Location → ℕ → Written
placed_mark location byte = at location (form.Mark byte)

abbrev pub word : List ℕ → Written
word bytes = bare (form.Word bytes)

abbrev pub placed_word : Location → List ℕ → Written
placed_word location bytes = at location (form.Word bytes)

abbrev pub number : ℕ → Written
number n = bare (form.Number n)

abbrev pub name : Name → List Written
name n = at n.location (form.Name n.text) ∷ []

-- ---- expressions

-- `[ left : right ]`
abbrev pub range : RangeBounds → List Written
range r = mark 91 ∷ number r.left ∷ mark 58 ∷ number r.right ∷ mark 93 ∷ []

-- `: right`
abbrev pub bound : ℕ → List Written
bound right = mark 58 ∷ number right ∷ []

-- `[ left ]` or `[ left : right ]`
abbrev pub select : Select → List Written
select s = mark 91 ∷ number s.left ∷ (written_if_there bound s.right ++ mark 93 ∷ [])

abbrev pub pick : Pick → List Written
pick p = name p.name ++ written_if_there select p.select

-- parts in braces
abbrev pub concat : Location → List (List Written) → List Written
concat location parts = placed_mark location 123
    ∷ (between_commas (λ part. part) parts ++ mark 125 ∷ [])

-- one layer of an expression, with what its parts are written with
abbrev pub expr_layer : Expr-F (List Written) → List Written
expr_layer (Expr-F.Pick p) = pick p
expr_layer (Expr-F.Number location n) = at location (form.Number n) ∷ []
expr_layer (Expr-F.Based location literal) = at location (form.Based literal) ∷ []
expr_layer (Expr-F.Concat location parts) = concat location parts

abbrev pub expr : Expr → List Written
expr = fold-Expr (List Written) expr_layer

-- one layer of a target, with what its parts are written with
abbrev pub target_layer : Target-F (List Written) → List Written
target_layer (Target-F.Pick p) = pick p
target_layer (Target-F.Concat location parts) = concat location parts

abbrev pub target : Target → List Written
target = fold-Target (List Written) target_layer

-- ---- drives, charges and delays

abbrev pub level : Level → Written
level l = word (level_word l)

-- `( level , level )`
abbrev pub drive : DriveStrength → List Written
drive d = placed_mark d.location 40 ∷ level d.first ∷ mark 44 ∷ level d.second ∷ mark 41 ∷ []

-- `, level`
abbrev pub second_level : Level → List Written
second_level l = mark 44 ∷ level l ∷ []

-- `( level )` or `( level , level )`
abbrev pub pull_levels : PullLevels → List Written
pull_levels p = placed_mark p.location 40 ∷ level p.first
    ∷ (written_if_there second_level p.second ++ mark 41 ∷ [])

-- `( charge )`
abbrev pub charge : Charge → List Written
charge c = mark 40 ∷ word (charge_word c) ∷ mark 41 ∷ []

-- what the token of an amount says
abbrev pub amount_form : Amount → Form
amount_form (amounts.Number n) = form.Number n
amount_form (amounts.Decimal digits) = form.Decimal digits

abbrev pub amount : Amount → Written
amount a = bare (amount_form a)

-- an amount, or three with `:` between
abbrev pub delay_value : DelayValue → List Written
delay_value (One a) = amount a ∷ []
delay_value (Three a b c) = amount a ∷ mark 58 ∷ amount b ∷ mark 58 ∷ amount c ∷ []

abbrev pub delay : Delay → List Written
delay (delays.Amount a) = amount a ∷ []
delay (delays.Values values) = mark 40 ∷ (between_commas delay_value values ++ mark 41 ∷ [])

-- `# delay`
abbrev pub delay_spec : DelaySpec → List Written
delay_spec d = placed_mark d.location 35 ∷ delay d.delay

-- ---- declarations

abbrev pub net_type : NetType → List Written
net_type t = word (net_type_word t) ∷ []

-- `dir [ nettype ] [ range ] Name , .. ;`
abbrev pub port_decl : PortDecl → List Written
port_decl d = placed_word d.location (direction_word d.direction)
    ∷ (written_if_there net_type d.net_type
    ++ (written_if_there range d.range ++ (between_commas name d.names ++ mark 59 ∷ [])))

abbrev pub word_before_range : VectorWord → List Written
word_before_range w = word (vector_word w) ∷ []

abbrev pub vector_range : VectorRange → List Written
vector_range s = written_if_there word_before_range s.word ++ range s.range

-- `Name = expr`
abbrev pub valued_name : ValuedName → List Written
valued_name v = name v.name ++ mark 61 ∷ expr v.value

abbrev pub declared_names : DeclaredNames → List Written
declared_names (declares.Names names) = between_commas name names
declared_names (declares.Valued names) = between_commas valued_name names

-- `nettype [ drive ] [ vector_range ] [ delay ] declared_names ;`
abbrev pub net_decl : NetDecl → List Written
net_decl d = placed_word d.location (net_type_word d.net_type)
    ∷ (written_if_there drive d.drive
    ++ (written_if_there vector_range d.vector_range
    ++ (written_if_there delay_spec d.delay ++ (declared_names d.declared_names ++ mark 59 ∷ []))))

-- `trireg [ charge ] [ vector_range ] [ delay ] Name , .. ;`
abbrev pub trireg_decl : TriregDecl → List Written
trireg_decl d = placed_word d.location (codes "trireg")
    ∷ (written_if_there charge d.charge
    ++ (written_if_there vector_range d.vector_range
    ++ (written_if_there delay_spec d.delay ++ (between_commas name d.names ++ mark 59 ∷ []))))

-- `target = expr`
abbrev pub pair : Pair → List Written
pair p = target p.target ++ mark 61 ∷ expr p.value

-- `assign [ drive ] [ delay ] pair , .. ;`
abbrev pub assign_item : AssignItem → List Written
assign_item a = placed_word a.location (codes "assign")
    ∷ (written_if_there drive a.drive
    ++ (written_if_there delay_spec a.delay ++ (between_commas pair a.pairs ++ mark 59 ∷ [])))

-- ---- gates and instances

-- `[ Name ] ( expr , .. )`
abbrev pub terms : Terms → List Written
terms t = written_if_there name t.name ++ placed_mark t.paren 40
    ∷ (between_commas expr t.terminals ++ mark 41 ∷ [])

-- the word of a kind of gates, and what stands before the terminals
abbrev pub gate_head : Location → GateKind → List Written
gate_head location (gate.Logic kind strength time) = placed_word location (logic_word kind)
    ∷ (written_if_there drive strength ++ written_if_there delay_spec time)
gate_head location (gate.Switch kind time) = placed_word location (switch_word kind)
    ∷ written_if_there delay_spec time
gate_head location (gate.Tran kind) = placed_word location (tran_word kind) ∷ []
gate_head location (gate.Pull kind levels) = placed_word location (pull_word kind)
    ∷ written_if_there pull_levels levels

-- `kind terms , .. ;`
abbrev pub gate_item : GateItem → List Written
gate_item g = gate_head g.location g.kind ++ (between_commas terms g.gates ++ mark 59 ∷ [])

-- `. Name ( [ expr ] )`
abbrev pub connection : Connection → List Written
connection c = placed_mark c.location 46
    ∷ (name c.port ++ mark 40 ∷ (written_if_there expr c.value ++ mark 41 ∷ []))

abbrev pub connections : Connections → List Written
connections (ByOrder values) = between_commas (written_if_there expr) values
connections (ByName values) = between_commas connection values

-- `[ Name ] ( connections )`
abbrev pub inst : Inst → List Written
inst i = written_if_there name i.name ++ placed_mark i.paren 40
    ∷ (connections i.connections ++ mark 41 ∷ [])

-- `Name [ drive ] [ delay ] inst , .. ;`
abbrev pub instance : Instance → List Written
instance i = name i.name
    ++ (written_if_there drive i.drive
    ++ (written_if_there delay_spec i.delay ++ (between_commas inst i.instances ++ mark 59 ∷ [])))

-- ---- directives

abbrev pub placed_directive : Location → List ℕ → Written
placed_directive location bytes = at location (form.Directive bytes)

-- `` `celldefine `` or `` `endcelldefine ``
abbrev pub cell : CellDirective → List Written
cell c = placed_directive c.location (cell_word c.word) ∷ []

-- a number and a unit
abbrev pub scale : ℤ → List Written
scale power = number (unit_count power) ∷ bare (form.Name (unit_name power)) ∷ []

-- `` `timescale unit / precision ``
abbrev pub timescale : Timescale → List Written
timescale t = placed_directive t.location (codes "`timescale")
    ∷ (scale t.unit ++ mark 47 ∷ scale t.precision)

-- what the token of a default type says
abbrev pub default_form : Option ImplicitNetType → Form
default_form None = form.Name (codes "none")
default_form (Some t) = form.Word (implicit_net_type_word t)

-- `` `default_nettype `` and a type or `none`
abbrev pub default_nettype : DefaultNettype → List Written
default_nettype d = placed_directive d.location (codes "`default_nettype")
    ∷ bare (default_form d.net_type) ∷ []

abbrev pub directive : Directive → List Written
directive (directives.Timescale t) = timescale t
directive (directives.DefaultNettype d) = default_nettype d
directive (directives.Resetall location) = placed_directive location (codes "`resetall") ∷ []
directive (directives.Cell c) = cell c

-- ---- modules

-- `specify { any token but endspecify and the end } endspecify`
abbrev pub specify_block : SpecifyBlock → List Spelled
specify_block b = Exactly (placed_word b.location (codes "specify"))
    ∷ (replicate b.token_count Inside ++ exactly (word (codes "endspecify") ∷ []))

abbrev pub module_item : Item → List Spelled
module_item (item.Ports d) = exactly (port_decl d)
module_item (item.Nets d) = exactly (net_decl d)
module_item (item.Trireg d) = exactly (trireg_decl d)
module_item (item.Assign a) = exactly (assign_item a)
module_item (item.Gates g) = exactly (gate_item g)
module_item (item.Instances i) = exactly (instance i)
module_item (item.Cell c) = exactly (cell c)
module_item (item.Specify b) = specify_block b

-- `dir [ nettype ] [ range ] Name`
abbrev pub ansi_port : AnsiPort → List Written
ansi_port p = placed_word p.location (direction_word p.direction)
    ∷ (written_if_there net_type p.net_type ++ (written_if_there range p.range ++ name p.name))

abbrev pub ansi_entry : AnsiEntry → List Written
ansi_entry (entry.Port p) = ansi_port p
ansi_entry (entry.Name n) = name n

-- nothing, or the ports in parentheses
abbrev pub header_ports : Ports → List Written
header_ports ports.Absent = []
header_ports ports.Empty = mark 40 ∷ mark 41 ∷ []
header_ports (ports.Names names) = mark 40 ∷ (between_commas name names ++ mark 41 ∷ [])
header_ports (ports.Ansi first others) = mark 40
    ∷ (ansi_port first ++ (behind_commas ansi_entry others ++ mark 41 ∷ []))

-- `module Name [ ports ] ;`
abbrev pub module_head : Module → List Written
module_head m = placed_word m.location (opening_word m.word)
    ∷ (name m.name ++ (header_ports m.ports ++ mark 59 ∷ []))

-- `module Name [ ports ] ; { item } endmodule`
abbrev pub module_spelling : Module → List Spelled
module_spelling m = exactly (module_head m)
    ++ (one_by_one module_item m.items ++ exactly (word (codes "endmodule") ∷ []))

-- ---- primitives

-- a word, where it is there
abbrev pub word_if_there : List ℕ → Bool → List Written
word_if_there bytes true = word bytes ∷ []
word_if_there bytes false = []

abbrev pub symbol : ℕ → Written
symbol byte = bare (form.Symbol byte)

abbrev pub lit : Lit → List Written
lit (literal.Number location n) = at location (form.Number n) ∷ []
lit (literal.Based location based) = at location (form.Based based) ∷ []

-- `= lit`
abbrev pub start : Lit → List Written
start value = mark 61 ∷ lit value

-- `[ input ] Name`
abbrev pub udp_input : UdpInput → List Written
udp_input i = word_if_there (codes "input") i.has_word ++ name i.name

-- the ports in parentheses
abbrev pub udp_header : UdpPorts → List Written
udp_header (udp_ports.Names names) = mark 40 ∷ (between_commas name names ++ mark 41 ∷ [])
udp_header (udp_ports.Declared is_reg output value inputs) =
    mark 40 ∷ word (codes "output")
    ∷ (word_if_there (codes "reg") is_reg
    ++ (name output ++ (written_if_there start value
    ++ (behind_commas udp_input inputs ++ mark 41 ∷ []))))

-- a declaration
abbrev pub udp_decl : UdpItem → List Written
udp_decl (udp_item.Output location is_reg output value) =
    placed_word location (codes "output")
    ∷ (word_if_there (codes "reg") is_reg
    ++ (name output ++ (written_if_there start value ++ mark 59 ∷ [])))
udp_decl (udp_item.Input location names) = placed_word location (codes "input")
    ∷ (between_commas name names ++ mark 59 ∷ [])
udp_decl (udp_item.Reg location n) = placed_word location (codes "reg") ∷ (name n ++ mark 59 ∷ [])

-- `initial Name = lit ;`
abbrev pub udp_initial : UdpInitial → List Written
udp_initial i = placed_word i.location (codes "initial")
    ∷ (name i.name ++ mark 61 ∷ (lit i.value ++ mark 59 ∷ []))

-- a symbol, or two values in parentheses
abbrev pub field : Sym → List Written
field (sym.Edge from to) = symbol 40 ∷ symbol (base_symbol from) ∷ symbol (base_symbol to)
    ∷ symbol 41 ∷ []
field s = symbol (sym_symbol s) ∷ []

-- `[ field : ] field`: the present state, where it is there, and the output
abbrev pub outcome : Option Sym → Sym → List Written
outcome None out = field out
outcome (Some state) out = field state ++ symbol 58 ∷ field out

-- `field .. : [ field : ] field ;`
abbrev pub row : UdpRow → List Written
row r = one_by_one field r.ins ++ symbol 58 ∷ (outcome r.state r.out ++ symbol 59 ∷ [])

abbrev pub placed_row : PlacedRow → List Written
placed_row r = placed_first r.location (row r.row)

-- `table { row } endtable`
abbrev pub table : List PlacedRow → List Written
table rows = word (codes "table") ∷ (one_by_one placed_row rows ++ word (codes "endtable") ∷ [])

-- `primitive Name ( ports ) ; { declaration } [ initial ] table { row } endtable endprimitive`
abbrev pub udp : UdpDecl → List Written
udp u = placed_word u.location (codes "primitive")
    ∷ (name u.name ++ (udp_header u.ports ++ mark 59
    ∷ (one_by_one udp_decl u.items
    ++ (written_if_there udp_initial u.initial
    ++ (table u.rows ++ word (codes "endprimitive") ∷ [])))))

-- ---- texts

abbrev pub description : Description → List Spelled
description (described.Module m) = module_spelling m
description (described.Udp u) = exactly (udp u)
description (described.Directive d) = exactly (directive d)

-- descriptions, and the end of the text
abbrev pub spelling : List Description → List Spelled
spelling descriptions = one_by_one description descriptions ++ exactly (bare form.End ∷ [])
