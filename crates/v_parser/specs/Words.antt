-- What a reserved word stands for.
use Rattle.std.specs.Prelude.{ℕ, Bool, true, false, if◌then◌else◌, List, [], ◌∷◌, codes, Option, Some, None, is_some}
use Rattle.std.specs.Str.{bytes_eq}
use Rattle.v_tree.specs.declared.declarations.Direction.{Direction}
use Rattle.v_tree.specs.declared.declarations.Direction.TheVariants as direction
use Rattle.v_tree.specs.declared.declarations.NetType.{NetType}
use Rattle.v_tree.specs.declared.declarations.NetType.TheVariants as net_type
use Rattle.v_tree.specs.declared.declarations.VectorWord.{VectorWord}
use Rattle.v_tree.specs.declared.declarations.VectorWord.TheVariants as vector
use Rattle.v_tree.specs.declared.drives.Charge.{Charge}
use Rattle.v_tree.specs.declared.drives.Charge.TheVariants as charge
use Rattle.v_tree.specs.declared.gates.LogicGate.{LogicGate}
use Rattle.v_tree.specs.declared.gates.LogicGate.TheVariants as logic
use Rattle.v_tree.specs.declared.gates.Switch.{Switch}
use Rattle.v_tree.specs.declared.gates.Switch.TheVariants as switch
use Rattle.v_tree.specs.declared.gates.TranGate.{TranGate}
use Rattle.v_tree.specs.declared.gates.TranGate.TheVariants as tran
use Rattle.v_tree.specs.declared.gates.PullGate.{PullGate}
use Rattle.v_tree.specs.declared.gates.PullGate.TheVariants as pull
use Rattle.v_tree.specs.declared.modules.ModuleWord.{ModuleWord}
use Rattle.v_tree.specs.declared.modules.ModuleWord.TheVariants as opening
use Rattle.v_tree.specs.declared.drives.Strength.{Strength}
use Rattle.v_tree.specs.declared.drives.Strength.TheVariants.{Supply, Strong, Pull, Weak, Highz}
use Rattle.v_tree.specs.declared.drives.Level.{Level}
use Rattle.v_tree.specs.Written.{Form}
use Rattle.v_parser.specs.Input.{word_in}

-- what a word stands for by a table
abbrev pub word_entry : {A : Type 0} → List (List ℕ × A) → List ℕ → Option A
word_entry [] word = None
word_entry (entry ∷ entries) word = if bytes_eq word entry.0 then Some entry.1 else word_entry entries word

-- what a token stands for where it is a word
abbrev pub word_meaning : {A : Type 0} → (List ℕ → Option A) → Option (List ℕ) → Option A
word_meaning stands_for None = None
word_meaning stands_for (Some word) = stands_for word

abbrev pub level_with : Strength → Bool → Level
level_with strength of_one = record { strength = strength; of_one = of_one }

unfoldable pub direction_table : List (List ℕ × Direction)
direction_table = (codes "input", direction.Input) ∷ (codes "output", direction.Output)
    ∷ (codes "inout", direction.Inout) ∷ []

unfoldable pub direction_of : List ℕ → Option Direction
direction_of word = word_entry direction_table word

abbrev pub direction_in : Form → Option Direction
direction_in f = word_meaning direction_of (word_in f)

-- the first of two tokens stands for one
abbrev pub sees_direction : Form → Form → Bool
sees_direction f g = is_some (direction_in f)

unfoldable pub net_type_table : List (List ℕ × NetType)
net_type_table = (codes "wire", net_type.Wire) ∷ (codes "tri", net_type.Tri)
    ∷ (codes "wand", net_type.Wand) ∷ (codes "triand", net_type.Triand)
    ∷ (codes "wor", net_type.Wor) ∷ (codes "trior", net_type.Trior) ∷ (codes "tri0", net_type.Tri0)
    ∷ (codes "tri1", net_type.Tri1) ∷ (codes "supply0", net_type.Supply0)
    ∷ (codes "supply1", net_type.Supply1) ∷ []

unfoldable pub net_type_of : List ℕ → Option NetType
net_type_of word = word_entry net_type_table word

abbrev pub net_type_in : Form → Option NetType
net_type_in f = word_meaning net_type_of (word_in f)

-- the first of two tokens stands for one
abbrev pub sees_net_type : Form → Form → Bool
sees_net_type f g = is_some (net_type_in f)

unfoldable pub vector_word_table : List (List ℕ × VectorWord)
vector_word_table = (codes "vectored", vector.Vectored) ∷ (codes "scalared", vector.Scalared) ∷ []

unfoldable pub vector_word_of : List ℕ → Option VectorWord
vector_word_of word = word_entry vector_word_table word

abbrev pub vector_word_in : Form → Option VectorWord
vector_word_in f = word_meaning vector_word_of (word_in f)

-- the first of two tokens stands for one
abbrev pub sees_vector_word : Form → Form → Bool
sees_vector_word f g = is_some (vector_word_in f)

unfoldable pub charge_table : List (List ℕ × Charge)
charge_table = (codes "small", charge.Small) ∷ (codes "medium", charge.Medium)
    ∷ (codes "large", charge.Large) ∷ []

unfoldable pub charge_of : List ℕ → Option Charge
charge_of word = word_entry charge_table word

abbrev pub charge_in : Form → Option Charge
charge_in f = word_meaning charge_of (word_in f)

unfoldable pub logic_table : List (List ℕ × LogicGate)
logic_table = (codes "and", logic.And) ∷ (codes "nand", logic.Nand) ∷ (codes "or", logic.Or)
    ∷ (codes "nor", logic.Nor) ∷ (codes "xor", logic.Xor) ∷ (codes "xnor", logic.Xnor)
    ∷ (codes "buf", logic.Buf) ∷ (codes "not", logic.Not) ∷ (codes "bufif0", logic.Bufif0)
    ∷ (codes "bufif1", logic.Bufif1) ∷ (codes "notif0", logic.Notif0)
    ∷ (codes "notif1", logic.Notif1) ∷ []

unfoldable pub logic_of : List ℕ → Option LogicGate
logic_of word = word_entry logic_table word

abbrev pub logic_in : Form → Option LogicGate
logic_in f = word_meaning logic_of (word_in f)

-- the first of two tokens stands for one
abbrev pub sees_logic : Form → Form → Bool
sees_logic f g = is_some (logic_in f)

unfoldable pub switch_table : List (List ℕ × Switch)
switch_table = (codes "nmos", switch.Nmos) ∷ (codes "pmos", switch.Pmos)
    ∷ (codes "rnmos", switch.Rnmos) ∷ (codes "rpmos", switch.Rpmos) ∷ (codes "cmos", switch.Cmos)
    ∷ (codes "rcmos", switch.Rcmos) ∷ (codes "tranif0", switch.Tranif0)
    ∷ (codes "tranif1", switch.Tranif1) ∷ (codes "rtranif0", switch.Rtranif0)
    ∷ (codes "rtranif1", switch.Rtranif1) ∷ []

unfoldable pub switch_of : List ℕ → Option Switch
switch_of word = word_entry switch_table word

abbrev pub switch_in : Form → Option Switch
switch_in f = word_meaning switch_of (word_in f)

-- the first of two tokens stands for one
abbrev pub sees_switch : Form → Form → Bool
sees_switch f g = is_some (switch_in f)

unfoldable pub tran_table : List (List ℕ × TranGate)
tran_table = (codes "tran", tran.Tran) ∷ (codes "rtran", tran.Rtran) ∷ []

unfoldable pub tran_of : List ℕ → Option TranGate
tran_of word = word_entry tran_table word

abbrev pub tran_in : Form → Option TranGate
tran_in f = word_meaning tran_of (word_in f)

-- the first of two tokens stands for one
abbrev pub sees_tran : Form → Form → Bool
sees_tran f g = is_some (tran_in f)

unfoldable pub pull_table : List (List ℕ × PullGate)
pull_table = (codes "pullup", pull.Pullup) ∷ (codes "pulldown", pull.Pulldown) ∷ []

unfoldable pub pull_of : List ℕ → Option PullGate
pull_of word = word_entry pull_table word

abbrev pub pull_in : Form → Option PullGate
pull_in f = word_meaning pull_of (word_in f)

-- the first of two tokens stands for one
abbrev pub sees_pull : Form → Form → Bool
sees_pull f g = is_some (pull_in f)

unfoldable pub opening_table : List (List ℕ × ModuleWord)
opening_table = (codes "module", opening.Module) ∷ (codes "macromodule", opening.Macromodule) ∷ []

unfoldable pub opening_of : List ℕ → Option ModuleWord
opening_of word = word_entry opening_table word

abbrev pub opening_in : Form → Option ModuleWord
opening_in f = word_meaning opening_of (word_in f)

unfoldable pub level_table : List (List ℕ × Level)
level_table = (codes "supply0", level_with Supply false)
    ∷ (codes "supply1", level_with Supply true) ∷ (codes "strong0", level_with Strong false)
    ∷ (codes "strong1", level_with Strong true) ∷ (codes "pull0", level_with Pull false)
    ∷ (codes "pull1", level_with Pull true) ∷ (codes "weak0", level_with Weak false)
    ∷ (codes "weak1", level_with Weak true) ∷ (codes "highz0", level_with Highz false)
    ∷ (codes "highz1", level_with Highz true) ∷ []

unfoldable pub level_of : List ℕ → Option Level
level_of word = word_entry level_table word

abbrev pub level_in : Form → Option Level
level_in f = word_meaning level_of (word_in f)

-- the first of two tokens stands for one
abbrev pub sees_level : Form → Form → Bool
sees_level f g = is_some (level_in f)
