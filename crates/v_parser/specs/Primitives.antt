-- User-defined primitives.
use Rattle.std.specs.Prelude.{ℕ, Bool, true, false, not, ◌||◌, ◌==◌, if◌then◌else◌, List, [], ◌∷◌, Option, Some, None, codes}
use Rattle.v_tree.specs.declared.locations.Location.{Location}
use Rattle.v_tree.specs.declared.locations.Name.{Name}
use Rattle.v_tree.specs.declared.primitives.Lit.{Lit}
use Rattle.v_tree.specs.declared.primitives.Lit.TheVariants as literal
use Rattle.v_tree.specs.declared.primitives.UdpInput.{UdpInput}
use Rattle.v_tree.specs.declared.primitives.UdpPorts.{UdpPorts}
use Rattle.v_tree.specs.declared.primitives.UdpPorts.TheVariants as ports
use Rattle.v_tree.specs.declared.primitives.UdpItem.{UdpItem}
use Rattle.v_tree.specs.declared.primitives.UdpItem.TheVariants as item
use Rattle.v_tree.specs.declared.primitives.UdpInitial.{UdpInitial}
use Rattle.v_tree.specs.declared.primitives.PlacedRow.{PlacedRow}
use Rattle.v_tree.specs.declared.primitives.UdpDecl.{UdpDecl}
use Rattle.udp_table.specs.declared.symbols.Base.{Base}
use Rattle.udp_table.specs.declared.symbols.Base.TheVariants as bases
use Rattle.udp_table.specs.declared.symbols.Sym.{Sym}
use Rattle.udp_table.specs.declared.symbols.Sym.TheVariants as syms
use Rattle.udp_table.specs.declared.rows.UdpRow.{UdpRow}
use Rattle.v_tree.specs.Written.{Form}
use Rattle.v_parser.specs.Input.{Reader, ◌<$>◌, ◌&◌, token, here, skip, skip_word, skip_symbol, word, name, placed_number, placed_based, is_symbol, symbol_in, is_word, optional, choice, commas, comma_list, many, some}
use Rattle.v_parser.specs.Expressions.{sees_mark, sees_number}
use Rattle.v_parser.specs.Modules.{sees_word}

-- ---- symbols

-- what a symbol stands for by a table
abbrev pub byte_entry : {A : Type 0} → List (ℕ × A) → ℕ → Option A
byte_entry [] byte = None
byte_entry (entry ∷ entries) byte = if byte == entry.0 then Some entry.1 else byte_entry entries byte

-- what a token stands for where it is a symbol
abbrev pub symbol_meaning : {A : Type 0} → (ℕ → Option A) → Option ℕ → Option A
symbol_meaning stands_for None = None
symbol_meaning stands_for (Some byte) = stands_for byte

unfoldable pub base_table : List (ℕ × Base)
base_table = (48, bases.Zero) ∷ (49, bases.One) ∷ (120, bases.X) ∷ (63, bases.Any)
    ∷ (98, bases.Both) ∷ []

unfoldable pub base_of : ℕ → Option Base
base_of byte = byte_entry base_table byte

abbrev pub base_in : Form → Option Base
base_in f = symbol_meaning base_of (symbol_in f)

-- the symbols that stand for a field alone
unfoldable pub sym_table : List (ℕ × Sym)
sym_table = (48, syms.Zero) ∷ (49, syms.One) ∷ (120, syms.X) ∷ (63, syms.Any) ∷ (98, syms.Both)
    ∷ (45, syms.Same) ∷ (114, syms.Rise) ∷ (102, syms.Fall) ∷ (112, syms.Pos) ∷ (110, syms.Neg)
    ∷ (42, syms.Change) ∷ []

unfoldable pub sym_of : ℕ → Option Sym
sym_of byte = byte_entry sym_table byte

abbrev pub sym_in : Form → Option Sym
sym_in f = symbol_meaning sym_of (symbol_in f)

-- the first of two tokens is the symbol
abbrev pub sees_symbol : ℕ → Form → Form → Bool
sees_symbol byte f g = is_symbol byte f

-- ---- rows

-- a value
unfoldable pub base : Reader Base
base = (λ z. z.0) <$> token base_in

-- a field of one symbol
unfoldable pub single : Reader Sym
single = (λ z. z.0) <$> token sym_in

abbrev pub edge_of : Unit {0} × (Base × (Base × Unit {0})) → Sym
edge_of z = syms.Edge z.1.0 z.1.1.0

-- `( base base )`
unfoldable pub edge : Reader Sym
edge = edge_of <$> (skip_symbol 40 & base & base & skip_symbol 41)

-- a field
unfoldable pub field : Reader Sym
field = choice (sees_symbol 40) edge single

-- `: field`
unfoldable pub output : Reader Sym
output = (λ z. z.1) <$> (skip_symbol 58 & field)

-- the first field is the state where another follows, and else the output
abbrev pub outcome_by : Sym → Option Sym → Option Sym × Sym
outcome_by first None = (None, first)
outcome_by first (Some out) = (Some first, out)

abbrev pub outcome_of : Sym × Option Sym → Option Sym × Sym
outcome_of z = outcome_by z.0 z.1

-- `[ field : ] field`
unfoldable pub outcome : Reader (Option Sym × Sym)
outcome = outcome_of <$> (field & optional (sees_symbol 58) output)

abbrev pub row_of : List Sym × (Unit {0} × ((Option Sym × Sym) × Unit {0})) → UdpRow
row_of z = record { ins = z.0; state = z.1.1.0.0; out = z.1.1.0.1 }

-- `field .. : [ field : ] field ;`
unfoldable pub row : Reader UdpRow
row = row_of <$> (some (is_symbol 58) field & skip_symbol 58 & outcome & skip_symbol 59)

abbrev pub placed_row_of : Location × UdpRow → PlacedRow
placed_row_of z = record { location = z.0; row = z.1 }

-- a row, with the location of its first token
unfoldable pub placed_row : Reader PlacedRow
placed_row = placed_row_of <$> (here & row)

abbrev pub ends_table : Form → Bool
ends_table f = is_word (codes "endtable") f

-- ---- headers and declarations

abbrev pub is_there : Option (Unit {0}) → Bool
is_there None = false
is_there (Some u) = true

-- whether a word is there
unfoldable pub flag : List ℕ → Reader Bool
flag bytes = is_there <$> optional (sees_word bytes) (skip_word bytes)

-- a literal
unfoldable pub lit : Reader Lit
lit =
    choice sees_number ((λ z. literal.Number z.1 z.0) <$> placed_number)
    ((λ z. literal.Based z.1 z.0) <$> placed_based)

-- `= lit`
unfoldable pub start : Reader Lit
start = (λ z. z.1) <$> (skip 61 & lit)

abbrev pub input_of : Bool × Name → UdpInput
input_of z = record { has_word = z.0; name = z.1 }

-- `[ input ] Name`
unfoldable pub udp_input : Reader UdpInput
udp_input = input_of <$> (flag (codes "input") & name)

abbrev pub names_of : Unit {0} × (List Name × Unit {0}) → UdpPorts
names_of z = ports.Names z.1.0

-- `( Name , .. )`
unfoldable pub named_header : Reader UdpPorts
named_header = names_of <$> (skip 40 & comma_list name & skip 41)

abbrev pub declared_of : Unit {0}
    × (Unit {0} × (Bool × (Name × (Option Lit × (List UdpInput × Unit {0}))))) → UdpPorts
declared_of z = ports.Declared z.1.1.0 z.1.1.1.0 z.1.1.1.1.0 z.1.1.1.1.1.0

-- `( output [ reg ] Name [ = lit ] { , [ input ] Name } )`
unfoldable pub declared_header : Reader UdpPorts
declared_header = declared_of
    <$> (skip 40 & skip_word (codes "output") & flag (codes "reg") & name
    & optional (sees_mark 61) start & commas udp_input [] & skip 41)

-- the second of two tokens is the word
abbrev pub sees_word_second : List ℕ → Form → Form → Bool
sees_word_second bytes f g = is_word bytes g

-- the ports in parentheses
unfoldable pub header : Reader UdpPorts
header = choice (sees_word_second (codes "output")) declared_header named_header

abbrev pub output_of : Location × (Bool × (Name × (Option Lit × Unit {0}))) → UdpItem
output_of z = item.Output z.0 z.1.0 z.1.1.0 z.1.1.1.0

-- `output [ reg ] Name [ = lit ] ;`
unfoldable pub output_item : Reader UdpItem
output_item = output_of
    <$> (word (codes "output") & flag (codes "reg") & name & optional (sees_mark 61) start
    & skip 59)

abbrev pub inputs_of : Location × (List Name × Unit {0}) → UdpItem
inputs_of z = item.Input z.0 z.1.0

-- `input Name , .. ;`
unfoldable pub input_item : Reader UdpItem
input_item = inputs_of <$> (word (codes "input") & comma_list name & skip 59)

abbrev pub reg_of : Location × (Name × Unit {0}) → UdpItem
reg_of z = item.Reg z.0 z.1.0

-- `reg Name ;`
unfoldable pub reg_item : Reader UdpItem
reg_item = reg_of <$> (word (codes "reg") & name & skip 59)

-- an input or a register
unfoldable pub other_item : Reader UdpItem
other_item = choice (sees_word (codes "input")) input_item reg_item

-- a declaration
unfoldable pub udp_item : Reader UdpItem
udp_item = choice (sees_word (codes "output")) output_item other_item

-- another token than one that begins a declaration
abbrev pub ends_items : Form → Bool
ends_items f =
    not (is_word (codes "output") f || (is_word (codes "input") f || is_word (codes "reg") f))

abbrev pub initial_of : Location × (Name × (Unit {0} × (Lit × Unit {0}))) → UdpInitial
initial_of z = record { location = z.0; name = z.1.0; value = z.1.1.1.0 }

-- `initial Name = lit ;`
unfoldable pub initial : Reader UdpInitial
initial = initial_of <$> (word (codes "initial") & name & skip 61 & lit & skip 59)

-- ---- primitives

-- `table { row } endtable`
unfoldable pub table : Reader (List PlacedRow)
table = (λ z. z.1.0)
    <$> (skip_word (codes "table") & many ends_table placed_row & skip_word (codes "endtable"))

-- `endprimitive`
unfoldable pub ending : Reader (Unit {0})
ending = skip_word (codes "endprimitive")

abbrev pub body_of : List UdpItem × (Option UdpInitial × (List PlacedRow × Unit {0}))
    → List UdpItem × Option UdpInitial × List PlacedRow
body_of z = (z.0, z.1.0, z.1.1.0)

-- `{ declaration } [ initial ] table { row } endtable endprimitive`
unfoldable pub body : Reader (List UdpItem × Option UdpInitial × List PlacedRow)
body = body_of
    <$> (many ends_items udp_item & optional (sees_word (codes "initial")) initial & table & ending)

abbrev pub udp_of : Location
    × (Name × (UdpPorts × (Unit {0} × (List UdpItem × Option UdpInitial × List PlacedRow))))
    → UdpDecl
udp_of z =
    record {
      location = z.0;
      name = z.1.0;
      ports = z.1.1.0;
      items = z.1.1.1.1.0;
      initial = z.1.1.1.1.1;
      rows = z.1.1.1.1.2;
    }

-- `primitive Name ( ports ) ;` and the body
unfoldable pub udp : Reader UdpDecl
udp = udp_of <$> (word (codes "primitive") & name & header & skip 59 & body)
