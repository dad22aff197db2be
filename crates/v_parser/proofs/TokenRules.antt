-- Rules of single tokens.
use Rattle.std.proofs.Common.{◌≡◌, ℕ, Bool, true, false, List, [], ◌∷◌, Option, Some, refl, ap, subst, ◌∙◌, if◌then◌else◌}
use Rattle.std.specs.List.{AllByRecursion}
use Rattle.std.specs.Str.{bytes_eq}
use Rattle.std.proofs.lemmas.Bool.{eqb-true, eq-eqb}
use Rattle.std.proofs.lemmas.Slice.Eq.{bytes_eq-Decides}
use Rattle.std.proofs.lemmas.Option.{same_Some}
use Rattle.v_lexer.specs.declared.values.Literal.{Literal}
use Rattle.v_tree.specs.declared.locations.Location.{Location}
use Rattle.v_tree.specs.declared.locations.Name.{Name}
use Rattle.v_tree.specs.declared.declarations.Direction.{Direction}
use Rattle.v_tree.specs.declared.declarations.Direction.TheVariants as direction
use Rattle.v_tree.specs.declared.declarations.NetType.{NetType}
use Rattle.v_tree.specs.declared.declarations.NetType.TheVariants as net_type
use Rattle.v_tree.specs.declared.declarations.VectorWord.{VectorWord}
use Rattle.v_tree.specs.declared.declarations.VectorWord.TheVariants as vector
use Rattle.v_tree.specs.declared.drives.Charge.{Charge}
use Rattle.v_tree.specs.declared.drives.Charge.TheVariants as charge
use Rattle.v_tree.specs.declared.gates.LogicGate.{LogicGate}
use Rattle.v_tree.specs.declared.gates.LogicGate.TheVariants as logic
use Rattle.v_tree.specs.declared.gates.Switch.{Switch}
use Rattle.v_tree.specs.declared.gates.Switch.TheVariants as switch
use Rattle.v_tree.specs.declared.gates.TranGate.{TranGate}
use Rattle.v_tree.specs.declared.gates.TranGate.TheVariants as tran
use Rattle.v_tree.specs.declared.gates.PullGate.{PullGate}
use Rattle.v_tree.specs.declared.gates.PullGate.TheVariants as pull
use Rattle.v_tree.specs.declared.modules.ModuleWord.{ModuleWord}
use Rattle.v_tree.specs.declared.modules.ModuleWord.TheVariants as opening
use Rattle.v_tree.specs.declared.drives.Strength.{Strength}
use Rattle.v_tree.specs.declared.drives.Strength.TheVariants.{Supply, Strong, Pull, Weak, Highz}
use Rattle.v_tree.specs.declared.drives.Level.{Level}
use Rattle.v_tree.specs.Written.{Form, at, bare}
use Rattle.v_tree.specs.Written as form
use Rattle.v_tree.specs.Fit as fit
use Rattle.v_tree.specs.Words as words
use Rattle.v_tree.specs.Spelling as spell
use Rattle.v_parser.specs.Input.{token, is_mark, is_symbol, is_word, is_directive, is_finish, word_in, where_true, name_in, number_in, based_in, ◌<$>◌}
use Rattle.v_parser.specs.Input as input
use Rattle.v_parser.specs.Words.{word_entry, word_meaning, level_with}
use Rattle.v_parser.specs.Words as stands
use Rattle.v_parser.proofs.Rules.{Rule, anything, token_rule, bare_rule, map_rule}

-- ---- names and numbers

-- a token with a name is a name
pub name_is : (f : Form) (x : List ℕ) → name_in f ≡ Some x → f ≡ form.Name x
name_is (form.Name text) x e = ap form.Name (same_Some text x e)
name_is f x e = absurd cc

-- a name that was read fits
name_fits : (f : Form) (x : List ℕ) → fit.IsSoundForm f → name_in f ≡ Some x → fit.IsNameText x
name_fits (form.Name text) x sound e = subst fit.IsNameText (same_Some text x e) sound
name_fits f x sound e = absurd cc

abbrev name_of : List ℕ × Location → Name
name_of z = record { location = z.1; text = z.0 }

abbrev parts_of : Name → List ℕ × Location
parts_of n = (n.text, n.location)

-- a name
pub name_rule : Rule input.name spell.name fit.IsFitName anything
unfolding input.name
name_rule = map_rule (token_rule name_in form.Name fit.IsNameText refl name_is name_fits (λ x f. refl)) name_of parts_of (λ b. refl) (λ a. refl)

-- a token with a number is a number
pub number_is : (f : Form) (x : ℕ) → number_in f ≡ Some x → f ≡ form.Number x
number_is (form.Number n) x e = ap form.Number (same_Some n x e)
number_is f x e = absurd cc

-- a number that was read fits
number_fits : (f : Form) (x : ℕ) → fit.IsSoundForm f → number_in f ≡ Some x → fit.IsNumber x
number_fits (form.Number n) x sound e = subst fit.IsNumber (same_Some n x e) sound
number_fits f x sound e = absurd cc

-- a number
pub number_rule : Rule input.number (λ n. spell.number n ∷ []) fit.IsNumber anything
unfolding input.number input.placed_number
number_rule = bare_rule number_in form.Number fit.IsNumber refl number_is number_fits (λ x f. refl)

-- a number, with its location
pub placed_number_rule : Rule input.placed_number (λ z. at z.1 (form.Number z.0) ∷ []) (λ z. fit.IsNumber z.0) anything
unfolding input.placed_number
placed_number_rule = token_rule number_in form.Number fit.IsNumber refl number_is number_fits (λ x f. refl)

-- a token with a based number is a based number
pub based_is : (f : Form) (x : Literal) → based_in f ≡ Some x → f ≡ form.Based x
based_is (form.Based n) x e = ap form.Based (same_Some n x e)
based_is f x e = absurd cc

-- a based number that was read fits
based_fits : (f : Form) (x : Literal) → fit.IsSoundForm f → based_in f ≡ Some x → fit.IsLiteral x
based_fits (form.Based n) x sound e = subst fit.IsLiteral (same_Some n x e) sound
based_fits f x sound e = absurd cc

-- a based number, with its location
pub placed_based_rule : Rule input.placed_based (λ z. at z.1 (form.Based z.0) ∷ []) (λ z. fit.IsLiteral z.0) anything
unfolding input.placed_based
placed_based_rule = token_rule based_in form.Based fit.IsLiteral refl based_is based_fits (λ x f. refl)

-- ---- marks and words

-- something is there where a test holds
where_holds : (b : Bool) (u : Unit {0}) → where_true b ≡ Some u → b ≡ true
where_holds true u e = refl
where_holds false u e = absurd cc

-- a mark that is seen is the mark
pub mark_is : (byte : ℕ) (f : Form) → is_mark byte f ≡ true → f ≡ form.Mark byte
mark_is byte (form.Mark b) e = ap form.Mark (eqb-true b byte e)
mark_is byte f e = absurd cc

-- a mark is seen as itself
mark_back : (byte : ℕ) → where_true (is_mark byte (form.Mark byte)) ≡ Some tt
mark_back byte = ap where_true (eq-eqb byte byte refl)

-- a word that is seen is the word
pub word_is : (bytes : List ℕ) (f : Form) → is_word bytes f ≡ true → f ≡ form.Word bytes
word_is bytes (form.Word w) e = ap form.Word ((bytes_eq-Decides w bytes).0 e)
word_is bytes f e = absurd cc

-- a word is seen as itself
word_back : (bytes : List ℕ) → where_true (is_word bytes (form.Word bytes)) ≡ Some tt
word_back bytes = ap where_true ((bytes_eq-Decides bytes bytes).1 refl)

-- an end that is seen is the end
pub finish_is : (f : Form) → is_finish f ≡ true → f ≡ form.End
finish_is form.End e = refl
finish_is f e = absurd cc

-- a directive that is seen is the directive
pub directive_is : (bytes : List ℕ) (f : Form) → is_directive bytes f ≡ true → f ≡ form.Directive bytes
directive_is bytes (form.Directive d) e = ap form.Directive ((bytes_eq-Decides d bytes).0 e)
directive_is bytes f e = absurd cc

-- a directive is seen as itself
directive_back : (bytes : List ℕ) → where_true (is_directive bytes (form.Directive bytes)) ≡ Some tt
directive_back bytes = ap where_true ((bytes_eq-Decides bytes bytes).1 refl)

-- a token that a test takes, with its location
pub tested_rule : (test : Form → Bool) (says : Form) → test form.Other ≡ false → ((f : Form) → test f ≡ true → f ≡ says) → where_true (test says) ≡ Some tt
    → Rule ((λ (p : Unit {0} × Location). p.1) <$> token (λ f. where_true (test f))) (λ (location : Location). at location says ∷ []) fit.IsFree anything
tested_rule test says other is back =
    map_rule (token_rule (λ f. where_true (test f)) (λ u. says) fit.IsFree (ap where_true other) (λ f u e. is f (where_holds (test f) u e)) (λ f u sound e. tt) (λ u free. back))
    (λ (p : Unit {0} × Location). p.1) (λ (location : Location). (tt, location)) (λ b. refl) (λ a. refl)

-- a token that a test takes, without its location
skipped_rule : (test : Form → Bool) (says : Form) → test form.Other ≡ false → ((f : Form) → test f ≡ true → f ≡ says) → where_true (test says) ≡ Some tt
    → Rule ((λ (p : Unit {0} × Location). p.0) <$> token (λ f. where_true (test f))) (λ (u : Unit {0}). bare says ∷ []) fit.IsFree anything
skipped_rule test says other is back =
    bare_rule (λ f. where_true (test f)) (λ u. says) fit.IsFree (ap where_true other) (λ f u e. is f (where_holds (test f) u e)) (λ f u sound e. tt) (λ u free. back)

-- a mark, with its location
pub mark_rule : (byte : ℕ) → Rule (input.mark byte) (λ location. spell.placed_mark location byte ∷ []) fit.IsFree anything
unfolding input.mark
mark_rule byte = tested_rule (is_mark byte) (form.Mark byte) refl (mark_is byte) (mark_back byte)

-- a mark
pub skip_rule : (byte : ℕ) → Rule (input.skip byte) (λ u. spell.mark byte ∷ []) fit.IsFree anything
unfolding input.skip
skip_rule byte = skipped_rule (is_mark byte) (form.Mark byte) refl (mark_is byte) (mark_back byte)

-- a symbol that is seen is the symbol
pub symbol_is : (byte : ℕ) (f : Form) → is_symbol byte f ≡ true → f ≡ form.Symbol byte
symbol_is byte (form.Symbol b) e = ap form.Symbol (eqb-true b byte e)
symbol_is byte f e = absurd cc

-- a symbol is seen as itself
symbol_back : (byte : ℕ) → where_true (is_symbol byte (form.Symbol byte)) ≡ Some tt
symbol_back byte = ap where_true (eq-eqb byte byte refl)

-- a symbol of a table
pub skip_symbol_rule : (byte : ℕ) → Rule (input.skip_symbol byte) (λ u. spell.symbol byte ∷ []) fit.IsFree anything
unfolding input.skip_symbol
skip_symbol_rule byte = skipped_rule (is_symbol byte) (form.Symbol byte) refl (symbol_is byte) (symbol_back byte)

-- a word, with its location
pub word_rule : (bytes : List ℕ) → Rule (input.word bytes) (λ location. spell.placed_word location bytes ∷ []) fit.IsFree anything
unfolding input.word
word_rule bytes = tested_rule (is_word bytes) (form.Word bytes) refl (word_is bytes) (word_back bytes)

-- a directive, with its location
pub directive_word_rule : (bytes : List ℕ) → Rule (input.directive_word bytes) (λ location. spell.placed_directive location bytes ∷ []) fit.IsFree anything
unfolding input.directive_word
directive_word_rule bytes = tested_rule (is_directive bytes) (form.Directive bytes) refl (directive_is bytes) (directive_back bytes)

-- a word
pub skip_word_rule : (bytes : List ℕ) → Rule (input.skip_word bytes) (λ u. spell.word bytes ∷ []) fit.IsFree anything
unfolding input.skip_word
skip_word_rule bytes = skipped_rule (is_word bytes) (form.Word bytes) refl (word_is bytes) (word_back bytes)

-- the end of the text
pub finish_rule : Rule input.finish (λ u. bare form.End ∷ []) fit.IsFree anything
unfolding input.finish
finish_rule = skipped_rule is_finish form.End refl finish_is refl

-- ---- words that stand for something

-- what a table gives for a word is that word's
pub word_entry_is : {A : Type 0} (word_of : A → List ℕ) (table : List (List ℕ × A)) (word : List ℕ) (x : A) → word_entry table word ≡ Some x
    → AllByRecursion (λ (entry : List ℕ × A). entry.0 ≡ word_of entry.1) table → word ≡ word_of x
word_entry_is word_of [] word x e all = absurd cc
word_entry_is {A} word_of (entry ∷ entries) word x e all = by (bytes_eq word entry.0) (bytes_eq-Decides word entry.0).0 e (λ later. word_entry_is word_of entries word x later all.1)
  where
    by : (b : Bool) → (b ≡ true → word ≡ entry.0) → (if b then Some entry.1 else word_entry entries word) ≡ Some x → (word_entry entries word ≡ Some x → word ≡ word_of x) → word ≡ word_of x
    by true same e later =
        let first : entry.1 ≡ x = same_Some entry.1 x e in
        same refl ∙ all.0 ∙ ap word_of first
    by false same e later = later e

-- a token that stands for something is its word
pub word_meaning_is : {A : Type 0} (stands_for : List ℕ → Option A) (word_of : A → List ℕ) → ((word : List ℕ) (x : A) → stands_for word ≡ Some x → word ≡ word_of x)
    → (f : Form) (x : A) → word_meaning stands_for (word_in f) ≡ Some x → f ≡ form.Word (word_of x)
word_meaning_is stands_for word_of is (form.Word w) x e = ap form.Word (is w x e)
word_meaning_is stands_for word_of is f x e = absurd cc

-- a word that stands for something, with its location
word_meaning_rule : {A : Type 0} (stands_for : List ℕ → Option A) (word_of : A → List ℕ) → ((word : List ℕ) (x : A) → stands_for word ≡ Some x → word ≡ word_of x)
    → ((x : A) → stands_for (word_of x) ≡ Some x)
    → Rule (token (λ f. word_meaning stands_for (word_in f))) (λ (z : A × Location). spell.placed_word z.1 (word_of z.0) ∷ []) fit.IsFree anything
word_meaning_rule stands_for word_of is back =
    token_rule (λ f. word_meaning stands_for (word_in f)) (λ x. form.Word (word_of x)) fit.IsFree refl (word_meaning_is stands_for word_of is) (λ f x sound e. tt) (λ x free. back x)

-- a word that stands for something, without its location
bare_word_meaning_rule : {A : Type 0} (stands_for : List ℕ → Option A) (word_of : A → List ℕ) → ((word : List ℕ) (x : A) → stands_for word ≡ Some x → word ≡ word_of x)
    → ((x : A) → stands_for (word_of x) ≡ Some x)
    → Rule ((λ (z : A × Location). z.0) <$> token (λ f. word_meaning stands_for (word_in f))) (λ (x : A). spell.word (word_of x) ∷ []) fit.IsFree anything
bare_word_meaning_rule stands_for word_of is back =
    bare_rule (λ f. word_meaning stands_for (word_in f)) (λ x. form.Word (word_of x)) fit.IsFree refl (word_meaning_is stands_for word_of is) (λ f x sound e. tt) (λ x free. back x)

-- the word of what a word stands for
pub direction_named : (word : List ℕ) (x : Direction) → stands.direction_of word ≡ Some x → word ≡ words.direction_word x
unfolding stands.direction_of stands.direction_table
direction_named word x e = word_entry_is words.direction_word stands.direction_table word x e (refl, (refl, (refl, tt)))

-- each one's word stands for it
pub direction_back : (x : Direction) → stands.direction_of (words.direction_word x) ≡ Some x
unfolding stands.direction_of stands.direction_table
direction_back direction.Input = refl
direction_back direction.Output = refl
direction_back direction.Inout = refl

-- a direction, with its location
pub direction_rule : Rule (token stands.direction_in) (λ z. spell.placed_word z.1 (words.direction_word z.0) ∷ []) fit.IsFree anything
direction_rule = word_meaning_rule stands.direction_of words.direction_word direction_named direction_back

-- a direction
pub bare_direction_rule : Rule ((λ z. z.0) <$> token stands.direction_in) (λ x. spell.word (words.direction_word x) ∷ []) fit.IsFree anything
bare_direction_rule = bare_word_meaning_rule stands.direction_of words.direction_word direction_named direction_back

-- the word of what a word stands for
pub net_type_named : (word : List ℕ) (x : NetType) → stands.net_type_of word ≡ Some x → word ≡ words.net_type_word x
unfolding stands.net_type_of stands.net_type_table
net_type_named word x e = word_entry_is words.net_type_word stands.net_type_table word x e (refl, (refl, (refl, (refl, (refl, (refl, (refl, (refl, (refl, (refl, tt))))))))))

-- each one's word stands for it
pub net_type_back : (x : NetType) → stands.net_type_of (words.net_type_word x) ≡ Some x
unfolding stands.net_type_of stands.net_type_table
net_type_back net_type.Wire = refl
net_type_back net_type.Tri = refl
net_type_back net_type.Wand = refl
net_type_back net_type.Triand = refl
net_type_back net_type.Wor = refl
net_type_back net_type.Trior = refl
net_type_back net_type.Tri0 = refl
net_type_back net_type.Tri1 = refl
net_type_back net_type.Supply0 = refl
net_type_back net_type.Supply1 = refl

-- a type of nets, with its location
pub net_type_rule : Rule (token stands.net_type_in) (λ z. spell.placed_word z.1 (words.net_type_word z.0) ∷ []) fit.IsFree anything
net_type_rule = word_meaning_rule stands.net_type_of words.net_type_word net_type_named net_type_back

-- a type of nets
pub bare_net_type_rule : Rule ((λ z. z.0) <$> token stands.net_type_in) (λ x. spell.word (words.net_type_word x) ∷ []) fit.IsFree anything
bare_net_type_rule = bare_word_meaning_rule stands.net_type_of words.net_type_word net_type_named net_type_back

-- the word of what a word stands for
pub vector_word_named : (word : List ℕ) (x : VectorWord) → stands.vector_word_of word ≡ Some x → word ≡ words.vector_word x
unfolding stands.vector_word_of stands.vector_word_table
vector_word_named word x e = word_entry_is words.vector_word stands.vector_word_table word x e (refl, (refl, tt))

-- each one's word stands for it
pub vector_word_back : (x : VectorWord) → stands.vector_word_of (words.vector_word x) ≡ Some x
unfolding stands.vector_word_of stands.vector_word_table
vector_word_back vector.Vectored = refl
vector_word_back vector.Scalared = refl

-- a word before a range, with its location
pub vector_word_rule : Rule (token stands.vector_word_in) (λ z. spell.placed_word z.1 (words.vector_word z.0) ∷ []) fit.IsFree anything
vector_word_rule = word_meaning_rule stands.vector_word_of words.vector_word vector_word_named vector_word_back

-- a word before a range
pub bare_vector_word_rule : Rule ((λ z. z.0) <$> token stands.vector_word_in) (λ x. spell.word (words.vector_word x) ∷ []) fit.IsFree anything
bare_vector_word_rule = bare_word_meaning_rule stands.vector_word_of words.vector_word vector_word_named vector_word_back

-- the word of what a word stands for
pub charge_named : (word : List ℕ) (x : Charge) → stands.charge_of word ≡ Some x → word ≡ words.charge_word x
unfolding stands.charge_of stands.charge_table
charge_named word x e = word_entry_is words.charge_word stands.charge_table word x e (refl, (refl, (refl, tt)))

-- each one's word stands for it
pub charge_back : (x : Charge) → stands.charge_of (words.charge_word x) ≡ Some x
unfolding stands.charge_of stands.charge_table
charge_back charge.Small = refl
charge_back charge.Medium = refl
charge_back charge.Large = refl

-- a word for a charge, with its location
pub charge_rule : Rule (token stands.charge_in) (λ z. spell.placed_word z.1 (words.charge_word z.0) ∷ []) fit.IsFree anything
charge_rule = word_meaning_rule stands.charge_of words.charge_word charge_named charge_back

-- a word for a charge
pub bare_charge_rule : Rule ((λ z. z.0) <$> token stands.charge_in) (λ x. spell.word (words.charge_word x) ∷ []) fit.IsFree anything
bare_charge_rule = bare_word_meaning_rule stands.charge_of words.charge_word charge_named charge_back

-- the word of what a word stands for
pub logic_named : (word : List ℕ) (x : LogicGate) → stands.logic_of word ≡ Some x → word ≡ words.logic_word x
unfolding stands.logic_of stands.logic_table
logic_named word x e = word_entry_is words.logic_word stands.logic_table word x e (refl, (refl, (refl, (refl, (refl, (refl, (refl, (refl, (refl, (refl, (refl, (refl, tt))))))))))))

-- each one's word stands for it
pub logic_back : (x : LogicGate) → stands.logic_of (words.logic_word x) ≡ Some x
unfolding stands.logic_of stands.logic_table
logic_back logic.And = refl
logic_back logic.Nand = refl
logic_back logic.Or = refl
logic_back logic.Nor = refl
logic_back logic.Xor = refl
logic_back logic.Xnor = refl
logic_back logic.Buf = refl
logic_back logic.Not = refl
logic_back logic.Bufif0 = refl
logic_back logic.Bufif1 = refl
logic_back logic.Notif0 = refl
logic_back logic.Notif1 = refl

-- a logic gate, with its location
pub logic_rule : Rule (token stands.logic_in) (λ z. spell.placed_word z.1 (words.logic_word z.0) ∷ []) fit.IsFree anything
logic_rule = word_meaning_rule stands.logic_of words.logic_word logic_named logic_back

-- a logic gate
pub bare_logic_rule : Rule ((λ z. z.0) <$> token stands.logic_in) (λ x. spell.word (words.logic_word x) ∷ []) fit.IsFree anything
bare_logic_rule = bare_word_meaning_rule stands.logic_of words.logic_word logic_named logic_back

-- the word of what a word stands for
pub switch_named : (word : List ℕ) (x : Switch) → stands.switch_of word ≡ Some x → word ≡ words.switch_word x
unfolding stands.switch_of stands.switch_table
switch_named word x e = word_entry_is words.switch_word stands.switch_table word x e (refl, (refl, (refl, (refl, (refl, (refl, (refl, (refl, (refl, (refl, tt))))))))))

-- each one's word stands for it
pub switch_back : (x : Switch) → stands.switch_of (words.switch_word x) ≡ Some x
unfolding stands.switch_of stands.switch_table
switch_back switch.Nmos = refl
switch_back switch.Pmos = refl
switch_back switch.Rnmos = refl
switch_back switch.Rpmos = refl
switch_back switch.Cmos = refl
switch_back switch.Rcmos = refl
switch_back switch.Tranif0 = refl
switch_back switch.Tranif1 = refl
switch_back switch.Rtranif0 = refl
switch_back switch.Rtranif1 = refl

-- a switch, with its location
pub switch_rule : Rule (token stands.switch_in) (λ z. spell.placed_word z.1 (words.switch_word z.0) ∷ []) fit.IsFree anything
switch_rule = word_meaning_rule stands.switch_of words.switch_word switch_named switch_back

-- a switch
pub bare_switch_rule : Rule ((λ z. z.0) <$> token stands.switch_in) (λ x. spell.word (words.switch_word x) ∷ []) fit.IsFree anything
bare_switch_rule = bare_word_meaning_rule stands.switch_of words.switch_word switch_named switch_back

-- the word of what a word stands for
pub tran_named : (word : List ℕ) (x : TranGate) → stands.tran_of word ≡ Some x → word ≡ words.tran_word x
unfolding stands.tran_of stands.tran_table
tran_named word x e = word_entry_is words.tran_word stands.tran_table word x e (refl, (refl, tt))

-- each one's word stands for it
pub tran_back : (x : TranGate) → stands.tran_of (words.tran_word x) ≡ Some x
unfolding stands.tran_of stands.tran_table
tran_back tran.Tran = refl
tran_back tran.Rtran = refl

-- a pass gate, with its location
pub tran_rule : Rule (token stands.tran_in) (λ z. spell.placed_word z.1 (words.tran_word z.0) ∷ []) fit.IsFree anything
tran_rule = word_meaning_rule stands.tran_of words.tran_word tran_named tran_back

-- a pass gate
pub bare_tran_rule : Rule ((λ z. z.0) <$> token stands.tran_in) (λ x. spell.word (words.tran_word x) ∷ []) fit.IsFree anything
bare_tran_rule = bare_word_meaning_rule stands.tran_of words.tran_word tran_named tran_back

-- the word of what a word stands for
pub pull_named : (word : List ℕ) (x : PullGate) → stands.pull_of word ≡ Some x → word ≡ words.pull_word x
unfolding stands.pull_of stands.pull_table
pull_named word x e = word_entry_is words.pull_word stands.pull_table word x e (refl, (refl, tt))

-- each one's word stands for it
pub pull_back : (x : PullGate) → stands.pull_of (words.pull_word x) ≡ Some x
unfolding stands.pull_of stands.pull_table
pull_back pull.Pullup = refl
pull_back pull.Pulldown = refl

-- a pull gate, with its location
pub pull_rule : Rule (token stands.pull_in) (λ z. spell.placed_word z.1 (words.pull_word z.0) ∷ []) fit.IsFree anything
pull_rule = word_meaning_rule stands.pull_of words.pull_word pull_named pull_back

-- a pull gate
pub bare_pull_rule : Rule ((λ z. z.0) <$> token stands.pull_in) (λ x. spell.word (words.pull_word x) ∷ []) fit.IsFree anything
bare_pull_rule = bare_word_meaning_rule stands.pull_of words.pull_word pull_named pull_back

-- the word of what a word stands for
pub opening_named : (word : List ℕ) (x : ModuleWord) → stands.opening_of word ≡ Some x → word ≡ words.opening_word x
unfolding stands.opening_of stands.opening_table
opening_named word x e = word_entry_is words.opening_word stands.opening_table word x e (refl, (refl, tt))

-- each one's word stands for it
pub opening_back : (x : ModuleWord) → stands.opening_of (words.opening_word x) ≡ Some x
unfolding stands.opening_of stands.opening_table
opening_back opening.Module = refl
opening_back opening.Macromodule = refl

-- a word that opens a module, with its location
pub opening_rule : Rule (token stands.opening_in) (λ z. spell.placed_word z.1 (words.opening_word z.0) ∷ []) fit.IsFree anything
opening_rule = word_meaning_rule stands.opening_of words.opening_word opening_named opening_back

-- a word that opens a module
pub bare_opening_rule : Rule ((λ z. z.0) <$> token stands.opening_in) (λ x. spell.word (words.opening_word x) ∷ []) fit.IsFree anything
bare_opening_rule = bare_word_meaning_rule stands.opening_of words.opening_word opening_named opening_back

-- the word of what a word stands for
pub level_named : (word : List ℕ) (x : Level) → stands.level_of word ≡ Some x → word ≡ words.level_word x
unfolding stands.level_of stands.level_table
level_named word x e = word_entry_is words.level_word stands.level_table word x e (refl, (refl, (refl, (refl, (refl, (refl, (refl, (refl, (refl, (refl, tt))))))))))

-- each one's word stands for it, by its parts
strength_back : (strength : Strength) (of_one : Bool) → stands.level_of (words.strength_word strength of_one) ≡ Some (level_with strength of_one)
unfolding stands.level_of stands.level_table
strength_back Supply false = refl
strength_back Supply true = refl
strength_back Strong false = refl
strength_back Strong true = refl
strength_back Pull false = refl
strength_back Pull true = refl
strength_back Weak false = refl
strength_back Weak true = refl
strength_back Highz false = refl
strength_back Highz true = refl

-- each one's word stands for it
pub level_back : (x : Level) → stands.level_of (words.level_word x) ≡ Some x
level_back x = strength_back x.strength x.of_one

-- a level, with its location
pub level_rule : Rule (token stands.level_in) (λ z. spell.placed_word z.1 (words.level_word z.0) ∷ []) fit.IsFree anything
level_rule = word_meaning_rule stands.level_of words.level_word level_named level_back

-- a level
pub bare_level_rule : Rule ((λ z. z.0) <$> token stands.level_in) (λ x. spell.word (words.level_word x) ∷ []) fit.IsFree anything
bare_level_rule = bare_word_meaning_rule stands.level_of words.level_word level_named level_back
