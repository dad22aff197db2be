-- What the names, numbers, literals, lists and concatenations of a tree keep.
use Rattle.std.specs.Prelude.{ℕ, ℤ, pos, negsuc, ◌≤ℤ◌, zero, suc, ◌<◌, ◌≤◌, ◌^◌, List, length, Option, Some, None}
use Rattle.std.specs.List.{AllByRecursion}
use Rattle.v_lexer.specs.declared.values.Literal.{Literal}
use Rattle.v_lexer.specs.declared.values.DecimalDigits.{DecimalDigits}
use Rattle.v_tree.specs.declared.locations.Name.{Name}
use Rattle.v_tree.specs.declared.expressions.RangeBounds.{RangeBounds}
use Rattle.v_tree.specs.declared.expressions.Select.{Select}
use Rattle.v_tree.specs.declared.expressions.Pick.{Pick}
use Rattle.v_tree.specs.declared.expressions.Expr.{Expr, out-Expr}
use Rattle.v_tree.specs.declared.expressions.Expr.TheOpen.{Expr-F}
use Rattle.v_tree.specs.declared.expressions.Target.{Target, out-Target}
use Rattle.v_tree.specs.declared.expressions.Target.TheOpen.{Target-F}
use Rattle.v_tree.specs.declared.drives.Amount.{Amount}
use Rattle.v_tree.specs.declared.drives.Amount.TheVariants as amounts
use Rattle.v_tree.specs.declared.drives.DelayValue.{DelayValue}
use Rattle.v_tree.specs.declared.drives.DelayValue.TheVariants.{One, Three}
use Rattle.v_tree.specs.declared.drives.Delay.{Delay}
use Rattle.v_tree.specs.declared.drives.Delay.TheVariants as delays
use Rattle.v_tree.specs.declared.drives.DelaySpec.{DelaySpec}
use Rattle.v_tree.specs.declared.directives.Timescale.{Timescale}
use Rattle.v_tree.specs.declared.directives.Directive.{Directive}
use Rattle.v_tree.specs.declared.directives.Directive.TheVariants as directives
use Rattle.v_tree.specs.declared.declarations.VectorRange.{VectorRange}
use Rattle.v_tree.specs.declared.declarations.PortDecl.{PortDecl}
use Rattle.v_tree.specs.declared.declarations.ValuedName.{ValuedName}
use Rattle.v_tree.specs.declared.declarations.DeclaredNames.{DeclaredNames}
use Rattle.v_tree.specs.declared.declarations.DeclaredNames.TheVariants as declares
use Rattle.v_tree.specs.declared.declarations.NetDecl.{NetDecl}
use Rattle.v_tree.specs.declared.declarations.TriregDecl.{TriregDecl}
use Rattle.v_tree.specs.declared.declarations.Pair.{Pair}
use Rattle.v_tree.specs.declared.declarations.AssignItem.{AssignItem}
use Rattle.v_tree.specs.declared.gates.Terms.{Terms}
use Rattle.v_tree.specs.declared.gates.GateKind.{GateKind}
use Rattle.v_tree.specs.declared.gates.GateKind.TheVariants as gate
use Rattle.v_tree.specs.declared.gates.GateItem.{GateItem}
use Rattle.v_tree.specs.declared.gates.Connection.{Connection}
use Rattle.v_tree.specs.declared.gates.Connections.{Connections}
use Rattle.v_tree.specs.declared.gates.Connections.TheVariants.{ByOrder, ByName}
use Rattle.v_tree.specs.declared.gates.Inst.{Inst}
use Rattle.v_tree.specs.declared.gates.Instance.{Instance}
use Rattle.v_tree.specs.declared.modules.AnsiPort.{AnsiPort}
use Rattle.v_tree.specs.declared.modules.AnsiEntry.{AnsiEntry}
use Rattle.v_tree.specs.declared.modules.AnsiEntry.TheVariants as entry
use Rattle.v_tree.specs.declared.modules.Ports.{Ports}
use Rattle.v_tree.specs.declared.modules.Ports.TheVariants as ports
use Rattle.v_tree.specs.declared.modules.SpecifyBlock.{SpecifyBlock}
use Rattle.v_tree.specs.declared.modules.Item.{Item}
use Rattle.v_tree.specs.declared.modules.Item.TheVariants as item
use Rattle.v_tree.specs.declared.modules.Module.{Module}
use Rattle.v_tree.specs.declared.modules.Description.{Description}
use Rattle.v_tree.specs.declared.modules.Description.TheVariants as described
use Rattle.v_tree.specs.declared.primitives.Lit.{Lit}
use Rattle.v_tree.specs.declared.primitives.Lit.TheVariants as literal
use Rattle.v_tree.specs.declared.primitives.UdpInput.{UdpInput}
use Rattle.v_tree.specs.declared.primitives.UdpPorts.{UdpPorts}
use Rattle.v_tree.specs.declared.primitives.UdpPorts.TheVariants as udp_ports
use Rattle.v_tree.specs.declared.primitives.UdpItem.{UdpItem}
use Rattle.v_tree.specs.declared.primitives.UdpItem.TheVariants as udp_item
use Rattle.v_tree.specs.declared.primitives.UdpInitial.{UdpInitial}
use Rattle.v_tree.specs.declared.primitives.PlacedRow.{PlacedRow}
use Rattle.v_tree.specs.declared.primitives.UdpDecl.{UdpDecl}
use Rattle.udp_table.specs.declared.rows.UdpRow.{UdpRow}
use Rattle.v_tree.specs.Written.{Form, Name as NameForm, Word, Number, Decimal, Based, Directive as DirectiveForm, Mark, Symbol, End, Other}

abbrev pub IsVisible : ℕ → Type 0
IsVisible byte = (33 ≤ byte) × (byte ≤ 126)

-- a name is one or more bytes from `!` to `~`
pub record IsNameText (text : List ℕ) : Type 0 where
  pub some : 0 < length text
  pub visible : AllByRecursion IsVisible text

-- a number without base is below 2^31
abbrev pub IsNumber : ℕ → Type 0
IsNumber n = n < 2147483648

-- a literal has from 1 to 128 bits
pub record IsLiteral (literal : Literal) : Type 0 where
  pub some : 0 < length literal.bits
  pub few : length literal.bits ≤ 128

-- a list keeps what each of its entries keeps, and has fewer than 2^32
pub record AreFit {A : Type 0} (IsFit : A → Type 0) (xs : List A) : Type 0 where
  pub few : length xs < 2 ^ 32
  pub each : AllByRecursion IsFit xs

-- one or more
pub record AreSome {A : Type 0} (IsFit : A → Type 0) (xs : List A) : Type 0 where
  pub some : 0 < length xs
  pub fit : AreFit IsFit xs

-- a digit is from 0 to 9
abbrev pub IsDigit : ℕ → Type 0
IsDigit digit = digit < 10

-- a decimal has digits before and behind its `.`
pub record IsFitDecimal (decimal : DecimalDigits) : Type 0 where
  pub whole : AreSome IsDigit decimal.whole
  pub fraction : AreSome IsDigit decimal.fraction

-- what a token says is what a tree may keep
abbrev pub IsSoundForm : Form → Type 0
IsSoundForm (NameForm text) = IsNameText text
IsSoundForm (Word word) = Unit {0}
IsSoundForm (Number n) = IsNumber n
IsSoundForm (Decimal decimal) = IsFitDecimal decimal
IsSoundForm (Based literal) = IsLiteral literal
IsSoundForm (DirectiveForm bytes) = Unit {0}
IsSoundForm (Mark byte) = Unit {0}
IsSoundForm (Symbol byte) = Unit {0}
IsSoundForm End = Unit {0}
IsSoundForm Other = Unit {0}

-- a part that isn't there keeps all
abbrev pub IsFitIfThere : {A : Type 0} → (A → Type 0) → Option A → Type 0
IsFitIfThere IsFit None = Unit {0}
IsFitIfThere IsFit (Some x) = IsFit x

-- a part that has nothing to keep
abbrev pub IsFree : {A : Type 0} → A → Type 0
IsFree x = Unit {0}

abbrev pub IsFitName : Name → Type 0
IsFitName n = IsNameText n.text

-- ---- expressions

abbrev pub IsFitRange : RangeBounds → Type 0
IsFitRange r = IsNumber r.left × IsNumber r.right

abbrev pub IsFitSelect : Select → Type 0
IsFitSelect s = IsNumber s.left × IsFitIfThere IsNumber s.right

abbrev pub IsFitPick : Pick → Type 0
IsFitPick p = IsFitName p.name × IsFitIfThere IsFitSelect p.select

-- one layer of an expression, with what its parts keep
abbrev pub IsFitExprLayer : (List Expr → Type 0) → Expr-F Expr → Type 0
IsFitExprLayer AreParts (Expr-F.Pick p) = IsFitPick p
IsFitExprLayer AreParts (Expr-F.Number location n) = IsNumber n
IsFitExprLayer AreParts (Expr-F.Based location literal) = IsLiteral literal
IsFitExprLayer AreParts (Expr-F.Concat location parts) = AreParts parts

-- an expression whose concatenations stand so deep in one another at most
abbrev pub IsFitExprAt : ℕ → Expr → Type 0
IsFitExprAt zero e = IsFitExprLayer (λ parts. ⊥) (out-Expr e)
IsFitExprAt (suc depth) e = IsFitExprLayer (AreSome (IsFitExprAt depth)) (out-Expr e)

-- concatenations stand at most 64 deep
abbrev pub IsFitExpr : Expr → Type 0
IsFitExpr e = IsFitExprAt 64 e

abbrev pub IsFitTargetLayer : (List Target → Type 0) → Target-F Target → Type 0
IsFitTargetLayer AreParts (Target-F.Pick p) = IsFitPick p
IsFitTargetLayer AreParts (Target-F.Concat location parts) = AreParts parts

abbrev pub IsFitTargetAt : ℕ → Target → Type 0
IsFitTargetAt zero t = IsFitTargetLayer (λ parts. ⊥) (out-Target t)
IsFitTargetAt (suc depth) t = IsFitTargetLayer (AreSome (IsFitTargetAt depth)) (out-Target t)

abbrev pub IsFitTarget : Target → Type 0
IsFitTarget t = IsFitTargetAt 64 t

-- ---- delays

abbrev pub IsFitAmount : Amount → Type 0
IsFitAmount (amounts.Number n) = IsNumber n
IsFitAmount (amounts.Decimal digits) = IsFitDecimal digits

abbrev pub IsFitDelayValue : DelayValue → Type 0
IsFitDelayValue (One a) = IsFitAmount a
IsFitDelayValue (Three a b c) = IsFitAmount a × IsFitAmount b × IsFitAmount c

abbrev pub IsFitDelay : Delay → Type 0
IsFitDelay (delays.Amount a) = IsFitAmount a
IsFitDelay (delays.Values values) = AreSome IsFitDelayValue values

abbrev pub IsFitDelaySpec : DelaySpec → Type 0
IsFitDelaySpec d = IsFitDelay d.delay

-- ---- declarations

pub record IsFitPortDecl (d : PortDecl) : Type 0 where
  pub range : IsFitIfThere IsFitRange d.range
  pub names : AreSome IsFitName d.names

abbrev pub IsFitVectorRange : VectorRange → Type 0
IsFitVectorRange s = IsFitRange s.range

abbrev pub IsFitValuedName : ValuedName → Type 0
IsFitValuedName v = IsFitName v.name × IsFitExpr v.value

abbrev pub IsFitDeclaredNames : DeclaredNames → Type 0
IsFitDeclaredNames (declares.Names names) = AreSome IsFitName names
IsFitDeclaredNames (declares.Valued names) = AreSome IsFitValuedName names

pub record IsFitNetDecl (d : NetDecl) : Type 0 where
  pub vector_range : IsFitIfThere IsFitVectorRange d.vector_range
  pub delay : IsFitIfThere IsFitDelaySpec d.delay
  pub declared_names : IsFitDeclaredNames d.declared_names

pub record IsFitTriregDecl (d : TriregDecl) : Type 0 where
  pub vector_range : IsFitIfThere IsFitVectorRange d.vector_range
  pub delay : IsFitIfThere IsFitDelaySpec d.delay
  pub names : AreSome IsFitName d.names

abbrev pub IsFitPair : Pair → Type 0
IsFitPair p = IsFitTarget p.target × IsFitExpr p.value

pub record IsFitAssignItem (a : AssignItem) : Type 0 where
  pub delay : IsFitIfThere IsFitDelaySpec a.delay
  pub pairs : AreSome IsFitPair a.pairs

-- ---- gates and instances

pub record IsFitTerms (t : Terms) : Type 0 where
  pub name : IsFitIfThere IsFitName t.name
  pub terminals : AreSome IsFitExpr t.terminals

abbrev pub IsFitGateKind : GateKind → Type 0
IsFitGateKind (gate.Logic kind strength time) = IsFitIfThere IsFitDelaySpec time
IsFitGateKind (gate.Switch kind time) = IsFitIfThere IsFitDelaySpec time
IsFitGateKind (gate.Tran kind) = Unit {0}
IsFitGateKind (gate.Pull kind levels) = Unit {0}

pub record IsFitGateItem (g : GateItem) : Type 0 where
  pub kind : IsFitGateKind g.kind
  pub gates : AreSome IsFitTerms g.gates

pub record IsFitConnection (c : Connection) : Type 0 where
  pub port : IsFitName c.port
  pub value : IsFitIfThere IsFitExpr c.value

abbrev pub IsFitConnections : Connections → Type 0
IsFitConnections (ByOrder values) = AreSome (IsFitIfThere IsFitExpr) values
IsFitConnections (ByName values) = AreSome IsFitConnection values

pub record IsFitInst (i : Inst) : Type 0 where
  pub name : IsFitIfThere IsFitName i.name
  pub connections : IsFitConnections i.connections

pub record IsFitInstance (i : Instance) : Type 0 where
  pub name : IsFitName i.name
  pub delay : IsFitIfThere IsFitDelaySpec i.delay
  pub instances : AreSome IsFitInst i.instances

-- ---- directives

-- a scale is from 100 s to 1 fs
pub record IsScale (power : ℤ) : Type 0 where
  pub low : negsuc 14 ≤ℤ power
  pub high : power ≤ℤ pos 2

pub record IsFitTimescale (t : Timescale) : Type 0 where
  pub unit : IsScale t.unit
  pub precision : IsScale t.precision

abbrev pub IsFitDirective : Directive → Type 0
IsFitDirective (directives.Timescale t) = IsFitTimescale t
IsFitDirective (directives.DefaultNettype d) = Unit {0}
IsFitDirective (directives.Resetall location) = Unit {0}
IsFitDirective (directives.Cell c) = Unit {0}

-- ---- modules

-- the tokens inside a block are a list as any other
abbrev pub IsFitBlock : SpecifyBlock → Type 0
IsFitBlock b = b.token_count < 2 ^ 32

abbrev pub IsFitItem : Item → Type 0
IsFitItem (item.Ports d) = IsFitPortDecl d
IsFitItem (item.Nets d) = IsFitNetDecl d
IsFitItem (item.Trireg d) = IsFitTriregDecl d
IsFitItem (item.Assign a) = IsFitAssignItem a
IsFitItem (item.Gates g) = IsFitGateItem g
IsFitItem (item.Instances i) = IsFitInstance i
IsFitItem (item.Cell c) = Unit {0}
IsFitItem (item.Specify b) = IsFitBlock b

pub record IsFitAnsiPort (p : AnsiPort) : Type 0 where
  pub range : IsFitIfThere IsFitRange p.range
  pub name : IsFitName p.name

abbrev pub IsFitAnsiEntry : AnsiEntry → Type 0
IsFitAnsiEntry (entry.Port p) = IsFitAnsiPort p
IsFitAnsiEntry (entry.Name n) = IsFitName n

abbrev pub IsFitPorts : Ports → Type 0
IsFitPorts ports.Absent = Unit {0}
IsFitPorts ports.Empty = Unit {0}
IsFitPorts (ports.Names names) = AreSome IsFitName names
IsFitPorts (ports.Ansi first others) = IsFitAnsiPort first × AreFit IsFitAnsiEntry others

pub record IsFitModule (m : Module) : Type 0 where
  pub name : IsFitName m.name
  pub ports : IsFitPorts m.ports
  pub items : AreFit IsFitItem m.items

-- ---- primitives

abbrev pub IsFitLit : Lit → Type 0
IsFitLit (literal.Number location n) = IsNumber n
IsFitLit (literal.Based location based) = IsLiteral based

abbrev pub IsFitUdpInput : UdpInput → Type 0
IsFitUdpInput i = IsFitName i.name

-- an output in a header, with its start value and the inputs behind it
pub record IsFitUdpHead (n : Name) (start : Option Lit) (others : List UdpInput) : Type 0 where
  pub output : IsFitName n
  pub value : IsFitIfThere IsFitLit start
  pub inputs : AreFit IsFitUdpInput others

abbrev pub IsFitUdpPorts : UdpPorts → Type 0
IsFitUdpPorts (udp_ports.Names names) = AreSome IsFitName names
IsFitUdpPorts (udp_ports.Declared is_reg output value inputs) = IsFitUdpHead output value inputs

abbrev pub IsFitUdpItem : UdpItem → Type 0
IsFitUdpItem (udp_item.Output location is_reg output value) = IsFitName output
    × IsFitIfThere IsFitLit value
IsFitUdpItem (udp_item.Input location names) = AreSome IsFitName names
IsFitUdpItem (udp_item.Reg location n) = IsFitName n

abbrev pub IsFitUdpInitial : UdpInitial → Type 0
IsFitUdpInitial i = IsFitName i.name × IsFitLit i.value

-- a row has one input or several; which symbols may stand where is judged later
abbrev pub IsFitRow : UdpRow → Type 0
IsFitRow r = AreSome IsFree r.ins

abbrev pub IsFitPlacedRow : PlacedRow → Type 0
IsFitPlacedRow r = IsFitRow r.row

pub record IsFitUdp (u : UdpDecl) : Type 0 where
  pub name : IsFitName u.name
  pub ports : IsFitUdpPorts u.ports
  pub items : AreFit IsFitUdpItem u.items
  pub initial : IsFitIfThere IsFitUdpInitial u.initial
  pub rows : AreFit IsFitPlacedRow u.rows

-- ---- texts

abbrev pub IsFitDescription : Description → Type 0
IsFitDescription (described.Module m) = IsFitModule m
IsFitDescription (described.Udp u) = IsFitUdp u
IsFitDescription (described.Directive d) = IsFitDirective d

-- the lists of a file keep what they have to
pub record AreFitLists (ms : List Module) (us : List UdpDecl) (ds : List Directive) : Type 0 where
  pub modules : AreFit IsFitModule ms
  pub udps : AreFit IsFitUdp us
  pub directives : AreFit IsFitDirective ds
