-- Which kind of item a first token begins.
use Rattle.std.proofs.Common.{◌≡◌, ℕ, zero, suc, ◌<◌, Bool, true, false, if◌then◌else◌, List, [], ◌∷◌, ◌++◌, length, is_some, codes, refl, arith}
use Rattle.v_tree.specs.declared.locations.Location.{Location}
use Rattle.v_tree.specs.declared.declarations.Direction.{Direction}
use Rattle.v_tree.specs.declared.declarations.Direction.TheVariants as direction
use Rattle.v_tree.specs.declared.declarations.NetType.{NetType}
use Rattle.v_tree.specs.declared.declarations.NetType.TheVariants as net_type
use Rattle.v_tree.specs.declared.gates.LogicGate.{LogicGate}
use Rattle.v_tree.specs.declared.gates.LogicGate.TheVariants as logic
use Rattle.v_tree.specs.declared.gates.Switch.{Switch}
use Rattle.v_tree.specs.declared.gates.Switch.TheVariants as switch
use Rattle.v_tree.specs.declared.gates.TranGate.{TranGate}
use Rattle.v_tree.specs.declared.gates.TranGate.TheVariants as tran
use Rattle.v_tree.specs.declared.gates.PullGate.{PullGate}
use Rattle.v_tree.specs.declared.gates.PullGate.TheVariants as pull
use Rattle.v_tree.specs.declared.gates.GateKind.{GateKind}
use Rattle.v_tree.specs.declared.gates.GateKind.TheVariants as gates
use Rattle.v_tree.specs.declared.modules.Item.{Item}
use Rattle.v_tree.specs.declared.modules.Item.TheVariants as item
use Rattle.v_tree.specs.Written.{Form, Written, Spelled, Exactly, exactly, between_commas}
use Rattle.v_tree.specs.Written as form
use Rattle.v_tree.specs.Words as words
use Rattle.v_tree.specs.Spelling as spell
use Rattle.v_parser.specs.Input.{is_word, directive_in}
use Rattle.v_parser.specs.Words.{direction_in, net_type_in, logic_in, switch_in, tran_in, pull_in}
use Rattle.v_parser.specs.Words as stands
use Rattle.v_parser.proofs.SpelledRules.{begins_with}

-- ---- the first test that holds

-- how many tests fail before one holds
abbrev pub index : List (Form → Bool) → Form → ℕ
index [] f = 0
index (test ∷ tests) f = if test f then 0 else suc (index tests f)

-- a test by its number
abbrev pub test_at : List (Form → Bool) → ℕ → Form → Bool
test_at [] n f = false
test_at (test ∷ tests) zero f = test f
test_at (test ∷ tests) (suc n) f = test_at tests n f

-- the first test that holds is true
pub index_holds : (tests : List (Form → Bool)) (n : ℕ) (f : Form) → index tests f ≡ n → n < length tests → test_at tests n f ≡ true
index_holds [] n f e few = absurd (omega arith)
index_holds (test ∷ tests) zero f e few = by (test f) e
  where
    by : (b : Bool) → (if b then 0 else suc (index tests f)) ≡ 0 → b ≡ true
    by true e = refl
    by false e = absurd (omega arith)
index_holds (test ∷ tests) (suc n) f e few = index_holds tests n f (by (test f) e) (omega arith)
  where
    by : (b : Bool) → (if b then 0 else suc (index tests f)) ≡ suc n → index tests f ≡ n
    by true e = absurd (omega arith)
    by false e = omega arith

-- an earlier test is false
pub index_fails : (tests : List (Form → Bool)) (n : ℕ) (f : Form) → n < index tests f → test_at tests n f ≡ false
index_fails [] n f h = refl
index_fails (test ∷ tests) zero f h = by (test f) h
  where
    by : (b : Bool) → 0 < (if b then 0 else suc (index tests f)) → b ≡ false
    by true h = absurd (omega arith)
    by false h = refl
index_fails (test ∷ tests) (suc n) f h = index_fails tests n f (by (test f) h)
  where
    by : (b : Bool) → suc n < (if b then 0 else suc (index tests f)) → n < index tests f
    by true h = absurd (omega arith)
    by false h = omega arith

-- ---- kinds of items

-- the end of a module, then the tests for an item in the grammar's order
abbrev pub item_tests : List (Form → Bool)
item_tests =
    (λ f. is_word (codes "endmodule") f)
    ∷ (λ f. is_some (direction_in f))
    ∷ (λ f. is_some (net_type_in f))
    ∷ (λ f. is_word (codes "trireg") f)
    ∷ (λ f. is_word (codes "assign") f)
    ∷ (λ f. is_some (logic_in f))
    ∷ (λ f. is_some (switch_in f))
    ∷ (λ f. is_some (tran_in f))
    ∷ (λ f. is_some (pull_in f))
    ∷ (λ f. is_some (directive_in f))
    ∷ (λ f. is_word (codes "specify") f)
    ∷ []

-- the number of the test for gates of a kind
abbrev pub gate_number : GateKind → ℕ
gate_number (gates.Logic kind strength time) = 5
gate_number (gates.Switch kind time) = 6
gate_number (gates.Tran kind) = 7
gate_number (gates.Pull kind levels) = 8

-- the number of the test for an item
abbrev pub item_number : Item → ℕ
item_number (item.Ports d) = 1
item_number (item.Nets d) = 2
item_number (item.Trireg d) = 3
item_number (item.Assign a) = 4
item_number (item.Gates g) = gate_number g.kind
item_number (item.Cell c) = 9
item_number (item.Specify b) = 10
item_number (item.Instances i) = 11

-- a direction begins ports
direction_index : (x : Direction) → index item_tests (form.Word (words.direction_word x)) ≡ 1
unfolding stands.direction_of stands.direction_table stands.net_type_of stands.net_type_table stands.logic_of stands.logic_table stands.switch_of stands.switch_table stands.tran_of stands.tran_table stands.pull_of stands.pull_table
direction_index direction.Input = refl
direction_index direction.Output = refl
direction_index direction.Inout = refl

-- a type of nets begins nets
net_type_index : (x : NetType) → index item_tests (form.Word (words.net_type_word x)) ≡ 2
unfolding stands.direction_of stands.direction_table stands.net_type_of stands.net_type_table stands.logic_of stands.logic_table stands.switch_of stands.switch_table stands.tran_of stands.tran_table stands.pull_of stands.pull_table
net_type_index net_type.Wire = refl
net_type_index net_type.Tri = refl
net_type_index net_type.Wand = refl
net_type_index net_type.Triand = refl
net_type_index net_type.Wor = refl
net_type_index net_type.Trior = refl
net_type_index net_type.Tri0 = refl
net_type_index net_type.Tri1 = refl
net_type_index net_type.Supply0 = refl
net_type_index net_type.Supply1 = refl

-- a logic gate begins logic gates
logic_index : (x : LogicGate) → index item_tests (form.Word (words.logic_word x)) ≡ 5
unfolding stands.direction_of stands.direction_table stands.net_type_of stands.net_type_table stands.logic_of stands.logic_table stands.switch_of stands.switch_table stands.tran_of stands.tran_table stands.pull_of stands.pull_table
logic_index logic.And = refl
logic_index logic.Nand = refl
logic_index logic.Or = refl
logic_index logic.Nor = refl
logic_index logic.Xor = refl
logic_index logic.Xnor = refl
logic_index logic.Buf = refl
logic_index logic.Not = refl
logic_index logic.Bufif0 = refl
logic_index logic.Bufif1 = refl
logic_index logic.Notif0 = refl
logic_index logic.Notif1 = refl

-- a switch begins switches
switch_index : (x : Switch) → index item_tests (form.Word (words.switch_word x)) ≡ 6
unfolding stands.direction_of stands.direction_table stands.net_type_of stands.net_type_table stands.logic_of stands.logic_table stands.switch_of stands.switch_table stands.tran_of stands.tran_table stands.pull_of stands.pull_table
switch_index switch.Nmos = refl
switch_index switch.Pmos = refl
switch_index switch.Rnmos = refl
switch_index switch.Rpmos = refl
switch_index switch.Cmos = refl
switch_index switch.Rcmos = refl
switch_index switch.Tranif0 = refl
switch_index switch.Tranif1 = refl
switch_index switch.Rtranif0 = refl
switch_index switch.Rtranif1 = refl

-- a pass gate begins pass gates
tran_index : (x : TranGate) → index item_tests (form.Word (words.tran_word x)) ≡ 7
unfolding stands.direction_of stands.direction_table stands.net_type_of stands.net_type_table stands.logic_of stands.logic_table stands.switch_of stands.switch_table stands.tran_of stands.tran_table stands.pull_of stands.pull_table
tran_index tran.Tran = refl
tran_index tran.Rtran = refl

-- a pull gate begins pull gates
pull_index : (x : PullGate) → index item_tests (form.Word (words.pull_word x)) ≡ 8
unfolding stands.direction_of stands.direction_table stands.net_type_of stands.net_type_table stands.logic_of stands.logic_table stands.switch_of stands.switch_table stands.tran_of stands.tran_table stands.pull_of stands.pull_table
pull_index pull.Pullup = refl
pull_index pull.Pulldown = refl

-- what the first token of what is spelled says, where it is told exactly
abbrev pub first_spelled : List Spelled → Form
first_spelled (Exactly w ∷ ss) = w.form
first_spelled ss = form.Other

-- gates begin with a word of their kind
gate_index : (location : Location) (kind : GateKind) (rest : List Written) (ss : List Spelled) → index item_tests (first_spelled (exactly (spell.gate_head location kind ++ rest) ++ ss)) ≡ gate_number kind
gate_index location (gates.Logic kind strength time) rest ss = logic_index kind
gate_index location (gates.Switch kind time) rest ss = switch_index kind
gate_index location (gates.Tran kind) rest ss = tran_index kind
gate_index location (gates.Pull kind levels) rest ss = pull_index kind

-- gates begin with a token that is told exactly
gate_starts : (location : Location) (kind : GateKind) (rest : List Written) (ss : List Spelled) (test : Form → Bool)
    → begins_with test (exactly (spell.gate_head location kind ++ rest) ++ ss) ≡ test (first_spelled (exactly (spell.gate_head location kind ++ rest) ++ ss))
gate_starts location (gates.Logic kind strength time) rest ss test = refl
gate_starts location (gates.Switch kind time) rest ss test = refl
gate_starts location (gates.Tran kind) rest ss test = refl
gate_starts location (gates.Pull kind levels) rest ss test = refl

-- an item begins with a token that is told exactly
pub item_starts : (x : Item) (ss : List Spelled) (test : Form → Bool) → begins_with test (spell.module_item x ++ ss) ≡ test (first_spelled (spell.module_item x ++ ss))
item_starts (item.Ports d) ss test = refl
item_starts (item.Nets d) ss test = refl
item_starts (item.Trireg d) ss test = refl
item_starts (item.Assign a) ss test = refl
item_starts (item.Gates g) ss test = gate_starts g.location g.kind (between_commas spell.terms g.gates ++ spell.mark 59 ∷ []) ss test
item_starts (item.Instances i) ss test = refl
item_starts (item.Cell c) ss test = refl
item_starts (item.Specify b) ss test = refl

-- an item begins with a token of its kind
pub item_index : (x : Item) (ss : List Spelled) → index item_tests (first_spelled (spell.module_item x ++ ss)) ≡ item_number x
unfolding stands.direction_of stands.direction_table stands.net_type_of stands.net_type_table stands.logic_of stands.logic_table stands.switch_of stands.switch_table stands.tran_of stands.tran_table stands.pull_of stands.pull_table
item_index (item.Ports d) ss = direction_index d.direction
item_index (item.Nets d) ss = net_type_index d.net_type
item_index (item.Trireg d) ss = refl
item_index (item.Assign a) ss = refl
item_index (item.Gates g) ss = gate_index g.location g.kind (between_commas spell.terms g.gates ++ spell.mark 59 ∷ []) ss
item_index (item.Instances i) ss = refl
item_index (item.Cell c) ss = refl
item_index (item.Specify b) ss = refl
