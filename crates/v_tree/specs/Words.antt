-- The reserved words and the symbols that stand for a variant.
use Rattle.std.specs.Prelude.{ℕ, ◌-◌, ◌/◌, ◌%◌, ◌^◌, ℤ, pos, negsuc, Bool, true, false, List, [], ◌∷◌, get_or, codes}
use Rattle.v_tree.specs.declared.declarations.Direction.{Direction}
use Rattle.v_tree.specs.declared.declarations.Direction.TheVariants as direction
use Rattle.v_tree.specs.declared.directives.CellWord.{CellWord}
use Rattle.v_tree.specs.declared.directives.CellWord.TheVariants as cell
use Rattle.v_tree.specs.declared.directives.ImplicitNetType.{ImplicitNetType}
use Rattle.v_tree.specs.declared.directives.ImplicitNetType.TheVariants as implicit
use Rattle.v_tree.specs.declared.declarations.NetType.{NetType}
use Rattle.v_tree.specs.declared.declarations.NetType.TheVariants as net_type
use Rattle.v_tree.specs.declared.declarations.VectorWord.{VectorWord}
use Rattle.v_tree.specs.declared.declarations.VectorWord.TheVariants as vector
use Rattle.v_tree.specs.declared.drives.Charge.{Charge}
use Rattle.v_tree.specs.declared.drives.Charge.TheVariants as charge
use Rattle.v_tree.specs.declared.gates.LogicGate.{LogicGate}
use Rattle.v_tree.specs.declared.gates.LogicGate.TheVariants as logic
use Rattle.v_tree.specs.declared.gates.Switch.{Switch}
use Rattle.v_tree.specs.declared.gates.Switch.TheVariants as switch
use Rattle.v_tree.specs.declared.gates.TranGate.{TranGate}
use Rattle.v_tree.specs.declared.gates.TranGate.TheVariants as tran
use Rattle.v_tree.specs.declared.gates.PullGate.{PullGate}
use Rattle.v_tree.specs.declared.gates.PullGate.TheVariants as pull
use Rattle.v_tree.specs.declared.modules.ModuleWord.{ModuleWord}
use Rattle.v_tree.specs.declared.modules.ModuleWord.TheVariants as opening
use Rattle.v_tree.specs.declared.drives.Strength.{Strength}
use Rattle.v_tree.specs.declared.drives.Strength.TheVariants.{Supply, Strong, Pull, Weak, Highz}
use Rattle.v_tree.specs.declared.drives.Level.{Level}
use Rattle.udp_table.specs.declared.symbols.Base.{Base}
use Rattle.udp_table.specs.declared.symbols.Base.TheVariants as base
use Rattle.udp_table.specs.declared.symbols.Sym.{Sym}
use Rattle.udp_table.specs.declared.symbols.Sym.TheVariants as sym

abbrev pub direction_word : Direction → List ℕ
direction_word direction.Input = codes "input"
direction_word direction.Output = codes "output"
direction_word direction.Inout = codes "inout"

abbrev pub net_type_word : NetType → List ℕ
net_type_word net_type.Wire = codes "wire"
net_type_word net_type.Tri = codes "tri"
net_type_word net_type.Wand = codes "wand"
net_type_word net_type.Triand = codes "triand"
net_type_word net_type.Wor = codes "wor"
net_type_word net_type.Trior = codes "trior"
net_type_word net_type.Tri0 = codes "tri0"
net_type_word net_type.Tri1 = codes "tri1"
net_type_word net_type.Supply0 = codes "supply0"
net_type_word net_type.Supply1 = codes "supply1"

abbrev pub vector_word : VectorWord → List ℕ
vector_word vector.Vectored = codes "vectored"
vector_word vector.Scalared = codes "scalared"

abbrev pub charge_word : Charge → List ℕ
charge_word charge.Small = codes "small"
charge_word charge.Medium = codes "medium"
charge_word charge.Large = codes "large"

abbrev pub logic_word : LogicGate → List ℕ
logic_word logic.And = codes "and"
logic_word logic.Nand = codes "nand"
logic_word logic.Or = codes "or"
logic_word logic.Nor = codes "nor"
logic_word logic.Xor = codes "xor"
logic_word logic.Xnor = codes "xnor"
logic_word logic.Buf = codes "buf"
logic_word logic.Not = codes "not"
logic_word logic.Bufif0 = codes "bufif0"
logic_word logic.Bufif1 = codes "bufif1"
logic_word logic.Notif0 = codes "notif0"
logic_word logic.Notif1 = codes "notif1"

abbrev pub switch_word : Switch → List ℕ
switch_word switch.Nmos = codes "nmos"
switch_word switch.Pmos = codes "pmos"
switch_word switch.Rnmos = codes "rnmos"
switch_word switch.Rpmos = codes "rpmos"
switch_word switch.Cmos = codes "cmos"
switch_word switch.Rcmos = codes "rcmos"
switch_word switch.Tranif0 = codes "tranif0"
switch_word switch.Tranif1 = codes "tranif1"
switch_word switch.Rtranif0 = codes "rtranif0"
switch_word switch.Rtranif1 = codes "rtranif1"

abbrev pub tran_word : TranGate → List ℕ
tran_word tran.Tran = codes "tran"
tran_word tran.Rtran = codes "rtran"

abbrev pub pull_word : PullGate → List ℕ
pull_word pull.Pullup = codes "pullup"
pull_word pull.Pulldown = codes "pulldown"

abbrev pub opening_word : ModuleWord → List ℕ
opening_word opening.Module = codes "module"
opening_word opening.Macromodule = codes "macromodule"

abbrev pub cell_word : CellWord → List ℕ
cell_word cell.Celldefine = codes "`celldefine"
cell_word cell.Endcelldefine = codes "`endcelldefine"

abbrev pub implicit_net_type_word : ImplicitNetType → List ℕ
implicit_net_type_word implicit.Wire = codes "wire"
implicit_net_type_word implicit.Tri = codes "tri"
implicit_net_type_word implicit.Tri0 = codes "tri0"
implicit_net_type_word implicit.Tri1 = codes "tri1"
implicit_net_type_word implicit.Wand = codes "wand"
implicit_net_type_word implicit.Triand = codes "triand"
implicit_net_type_word implicit.Wor = codes "wor"
implicit_net_type_word implicit.Trior = codes "trior"
implicit_net_type_word implicit.Trireg = codes "trireg"

-- how often a power of ten of a second, from 100 s to 1 fs, has its unit: 1, 10 or 100 times
abbrev pub unit_count : ℤ → ℕ
unit_count (pos n) = 10 ^ n
unit_count (negsuc n) = 10 ^ (2 - n % 3)

-- the units below a second, each the thousandth part of the one before
abbrev pub small_units : List (List ℕ)
small_units = codes "ms" ∷ codes "us" ∷ codes "ns" ∷ codes "ps" ∷ codes "fs" ∷ []

-- the greatest unit that isn't greater than a power of ten of a second
abbrev pub unit_name : ℤ → List ℕ
unit_name (pos n) = codes "s"
unit_name (negsuc n) = get_or small_units (n / 3) []

-- the word of a strength of a value
abbrev pub strength_word : Strength → Bool → List ℕ
strength_word Supply false = codes "supply0"
strength_word Supply true = codes "supply1"
strength_word Strong false = codes "strong0"
strength_word Strong true = codes "strong1"
strength_word Pull false = codes "pull0"
strength_word Pull true = codes "pull1"
strength_word Weak false = codes "weak0"
strength_word Weak true = codes "weak1"
strength_word Highz false = codes "highz0"
strength_word Highz true = codes "highz1"

abbrev pub level_word : Level → List ℕ
level_word level = strength_word level.strength level.of_one

-- the symbol of a value
abbrev pub base_symbol : Base → ℕ
base_symbol base.Zero = 48
base_symbol base.One = 49
base_symbol base.X = 120
base_symbol base.Any = 63
base_symbol base.Both = 98

-- the first symbol of a field: the only one, unless it is a change from one value to another
abbrev pub sym_symbol : Sym → ℕ
sym_symbol sym.Zero = 48
sym_symbol sym.One = 49
sym_symbol sym.X = 120
sym_symbol sym.Any = 63
sym_symbol sym.Both = 98
sym_symbol sym.Same = 45
sym_symbol sym.Rise = 114
sym_symbol sym.Fall = 102
sym_symbol sym.Pos = 112
sym_symbol sym.Neg = 110
sym_symbol sym.Change = 42
sym_symbol (sym.Edge from to) = 40
