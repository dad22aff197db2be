-- Rules of user-defined primitives.
use Rattle.std.proofs.Common.{◌≡◌, ℕ, ◌<◌, Bool, true, false, not, ◌&&◌, List, [], ◌∷◌, ◌++◌, length, Option, Some, None, codes, ◌⊎◌, inl, inr, refl, sym, ap, subst, arith}
use Rattle.v_lexer.specs.declared.values.Literal.{Literal}
use Rattle.v_tree.specs.declared.locations.Location.{Location}
use Rattle.v_tree.specs.declared.locations.Name.{Name}
use Rattle.v_tree.specs.declared.primitives.Lit.{Lit}
use Rattle.v_tree.specs.declared.primitives.Lit.TheVariants as literal
use Rattle.v_tree.specs.declared.primitives.UdpInput.{UdpInput}
use Rattle.v_tree.specs.declared.primitives.UdpPorts.{UdpPorts}
use Rattle.v_tree.specs.declared.primitives.UdpPorts.TheVariants as ports
use Rattle.v_tree.specs.declared.primitives.UdpItem.{UdpItem}
use Rattle.v_tree.specs.declared.primitives.UdpItem.TheVariants as item
use Rattle.v_tree.specs.declared.primitives.UdpInitial.{UdpInitial}
use Rattle.v_tree.specs.declared.primitives.PlacedRow.{PlacedRow}
use Rattle.v_tree.specs.declared.primitives.UdpDecl.{UdpDecl}
use Rattle.v_tree.specs.Written.{Written, written_if_there, behind_commas, one_by_one}
use Rattle.v_tree.specs.Fit as fit
use Rattle.v_tree.specs.Spelling as spell
use Rattle.v_parser.specs.Expressions.{sees_mark, sees_number}
use Rattle.v_parser.specs.Modules.{sees_word}
use Rattle.v_parser.specs.Primitives.{sees_word_second, ends_items, ends_table}
use Rattle.v_parser.specs.Primitives as read
use Rattle.v_parser.proofs.Rules.{Rule, Follow, anything, begins, first_form, map_rule, variant_rule, refit_rule, respell_rule, pair_rule, optional_rule, choice_rule, commas_rule, comma_list_rule, many_rule}
use Rattle.v_parser.proofs.TokenRules.{name_rule, placed_number_rule, placed_based_rule, skip_rule, word_rule, skip_word_rule}
use Rattle.v_parser.proofs.DeclarationRules.{may_skip}
use Rattle.v_parser.proofs.RowRules.{placed_row_rule, row_some, row_begins}

-- ---- words that may be there, and literals

abbrev flag_part : Bool → Option (Unit {0})
flag_part true = Some tt
flag_part false = None

-- a flag is made of its parts
flag_there : (b : Bool) → read.is_there (flag_part b) ≡ b
flag_there true = refl
flag_there false = refl

-- a flag has the parts that it is made of
flag_back : (o : Option (Unit {0})) → flag_part (read.is_there o) ≡ o
flag_back (Some u) = refl
flag_back None = refl

-- a word that is there or not is written so
flag_spelled : (bytes : List ℕ) (b : Bool) → written_if_there (λ (u : Unit {0}). spell.word bytes ∷ []) (flag_part b) ≡ spell.word_if_there bytes b
flag_spelled bytes true = refl
flag_spelled bytes false = refl

-- a flag has nothing to keep
flag_free : (b : Bool) → fit.IsFitIfThere fit.IsFree (flag_part b)
flag_free true = tt
flag_free false = tt

-- a word isn't next
abbrev no_word : List ℕ → Follow
no_word bytes ws = anything ws && not (begins (sees_word bytes) ws)

-- whether a word is there
flag_rule : (bytes : List ℕ) → ((ws : List Written) → begins (sees_word bytes) (spell.word bytes ∷ ws) ≡ true) → Rule (read.flag bytes) (spell.word_if_there bytes) fit.IsFree (no_word bytes)
unfolding read.flag
flag_rule bytes seen =
    refit_rule (respell_rule (map_rule (optional_rule (sees_word bytes) (skip_word_rule bytes) (λ x ws f. seen ws)) read.is_there flag_part flag_there flag_back) (λ x f. flag_spelled bytes x))
    (λ x f. tt) (λ x f. flag_free x)

abbrev make_number : ℕ × Location → Lit
make_number z = literal.Number z.1 z.0

abbrev make_based : Literal × Location → Lit
make_based z = literal.Based z.1 z.0

abbrev IsNumberLit : Lit → Type 0
IsNumberLit x = (z : ℕ × Location) × (x ≡ make_number z) × fit.IsNumber z.0

abbrev IsBasedLit : Lit → Type 0
IsBasedLit x = (z : Literal × Location) × (x ≡ make_based z) × fit.IsLiteral z.0

-- a literal that was read fits
lit_fits : (x : Lit) → IsNumberLit x ⊎ IsBasedLit x → fit.IsFitLit x
lit_fits x (inl f) = subst fit.IsFitLit (sym f.1) f.2
lit_fits x (inr f) = subst fit.IsFitLit (sym f.1) f.2

-- a literal that fits is a number or a based number
lit_from : (x : Lit) → fit.IsFitLit x → IsNumberLit x ⊎ IsBasedLit x
lit_from (literal.Number location n) f = inl ((n, location), refl, f)
lit_from (literal.Based location based) f = inr ((based, location), refl, f)

-- a literal
lit_rule : Rule read.lit spell.lit fit.IsFitLit anything
unfolding read.lit
lit_rule =
    refit_rule (choice_rule sees_number (variant_rule placed_number_rule make_number spell.lit (λ a. refl)) (variant_rule placed_based_rule make_based spell.lit (λ a. refl))
    (λ x ws f g. ap (λ (l : Lit). begins sees_number (spell.lit l ++ ws)) f.1)
    (λ x ws f g. ap (λ (l : Lit). begins sees_number (spell.lit l ++ ws)) f.1))
    lit_fits lit_from

-- `= lit`
start_rule : Rule read.start spell.start fit.IsFitLit anything
unfolding read.start
start_rule =
    refit_rule (map_rule (pair_rule (skip_rule 61) lit_rule (λ y ws f g. refl)) (λ (z : Unit {0} × Lit). z.1) (λ (l : Lit). (tt, l)) (λ b. refl) (λ a. refl))
    (λ x f. f.1) (λ x f. (tt, f))

-- ---- headers

abbrev input_parts : UdpInput → Bool × Name
input_parts i = (i.has_word, i.name)

-- `[ input ] Name`
udp_input_rule : Rule read.udp_input spell.udp_input fit.IsFitUdpInput anything
unfolding read.udp_input
udp_input_rule =
    refit_rule (map_rule (pair_rule (flag_rule (codes "input") (λ ws. refl)) name_rule (λ y ws f g. refl)) read.input_of input_parts (λ b. refl) (λ a. refl))
    (λ x f. f.1) (λ x f. (tt, f))

-- ports that fit, of one form
abbrev AreNames : UdpPorts → Type 0
AreNames (ports.Names names) = fit.AreSome fit.IsFitName names
AreNames x = ⊥

abbrev AreDeclared : UdpPorts → Type 0
AreDeclared (ports.Declared is_reg output value inputs) = fit.IsFitUdpHead output value inputs
AreDeclared x = ⊥

-- ports with names
names_from : (x : UdpPorts) → AreNames x → (z : Unit {0} × (List Name × Unit {0})) × (x ≡ read.names_of z) × (Unit {0} × (fit.AreSome fit.IsFitName z.1.0 × Unit {0}))
names_from (ports.Names names) f = ((tt, (names, tt)), refl, (tt, (f, tt)))
names_from x f = absurd f

-- `( Name , .. )`
named_header_rule : Rule read.named_header spell.udp_header AreNames anything
unfolding read.named_header
named_header_rule =
    refit_rule (variant_rule (pair_rule (skip_rule 40) (pair_rule (comma_list_rule name_rule (λ x f. omega arith) (λ ws. refl)) (skip_rule 41) (λ y ws f g. refl)) (λ y ws f g. refl))
    read.names_of spell.udp_header (λ a. refl))
    (λ x f. subst AreNames (sym f.1) f.2.1.0) names_from

-- ports with an output and inputs
declared_from : (x : UdpPorts) → AreDeclared x
    → (z : Unit {0} × (Unit {0} × (Bool × (Name × (Option Lit × (List UdpInput × Unit {0})))))) × (x ≡ read.declared_of z)
    × (Unit {0} × (Unit {0} × (Unit {0} × (fit.IsFitName z.1.1.1.0 × (fit.IsFitIfThere fit.IsFitLit z.1.1.1.1.0 × (fit.AreFit fit.IsFitUdpInput z.1.1.1.1.1.0 × Unit {0}))))))
declared_from (ports.Declared is_reg output value inputs) f =
    ((tt, (tt, (is_reg, (output, (value, (inputs, tt)))))), refl, (tt, (tt, (tt, (f.output, (f.value, (f.inputs, tt)))))))
declared_from x f = absurd f

-- no `=` is next
abbrev no_start : Follow
no_start ws = anything ws && not (begins (sees_mark 61) ws)

-- behind inputs or without them no `=` is next
inputs_begin : (inputs : List UdpInput) (ws : List Written) → no_start ((behind_commas spell.udp_input inputs ++ spell.mark 41 ∷ []) ++ ws) ≡ true
inputs_begin [] ws = refl
inputs_begin (i ∷ inputs) ws = refl

-- `( output [ reg ] Name [ = lit ] { , [ input ] Name } )`
declared_header_rule : Rule read.declared_header spell.udp_header AreDeclared anything
unfolding read.declared_header
declared_header_rule =
    refit_rule (variant_rule (pair_rule (skip_rule 40)
    (pair_rule (skip_word_rule (codes "output"))
    (pair_rule (flag_rule (codes "reg") (λ ws. refl))
    (pair_rule name_rule
    (pair_rule (optional_rule (sees_mark 61) start_rule (λ x ws f. refl))
    (pair_rule (commas_rule udp_input_rule (λ ws. refl)) (skip_rule 41)
    (λ y ws f g. refl))
    (λ y ws f g. inputs_begin y.0 ws))
    (λ y ws f g. refl))
    (λ y ws f g. refl))
    (λ y ws f g. refl))
    (λ y ws f g. refl))
    read.declared_of spell.udp_header (λ a. refl))
    (λ x f. subst AreDeclared (sym f.1) (record { output = f.2.1.1.1.0; value = f.2.1.1.1.1.0; inputs = f.2.1.1.1.1.1.0 })) declared_from

-- an output is seen by its word behind the `(`
declared_seen : (x : UdpPorts) (ws : List Written) → AreDeclared x → begins (sees_word_second (codes "output")) (spell.udp_header x ++ ws) ≡ true
declared_seen (ports.Declared is_reg output value inputs) ws f = refl
declared_seen x ws f = absurd f

-- names are seen by a name behind the `(`
names_seen : (x : UdpPorts) (ws : List Written) → AreNames x → begins (sees_word_second (codes "output")) (spell.udp_header x ++ ws) ≡ false
names_seen (ports.Names []) ws f = absurd (omega (arith, f.some))
names_seen (ports.Names (n ∷ names)) ws f = refl
names_seen x ws f = absurd f

-- ports that were read fit
header_fits : (x : UdpPorts) → AreDeclared x ⊎ AreNames x → fit.IsFitUdpPorts x
header_fits (ports.Declared is_reg output value inputs) (inl f) = f
header_fits (ports.Names names) (inr f) = f
header_fits x (inl f) = absurd f
header_fits x (inr f) = absurd f

-- ports that fit are of one of two forms
header_from : (x : UdpPorts) → fit.IsFitUdpPorts x → AreDeclared x ⊎ AreNames x
header_from (ports.Declared is_reg output value inputs) f = inl f
header_from (ports.Names names) f = inr f

-- the ports in parentheses
header_rule : Rule read.header spell.udp_header fit.IsFitUdpPorts anything
unfolding read.header
header_rule =
    refit_rule (choice_rule (sees_word_second (codes "output")) declared_header_rule named_header_rule (λ x ws f g. declared_seen x ws f) (λ x ws f g. names_seen x ws f))
    header_fits header_from

-- ---- declarations

-- a declaration that fits, of one kind
abbrev IsOutput : UdpItem → Type 0
IsOutput (item.Output location is_reg output value) = fit.IsFitName output × fit.IsFitIfThere fit.IsFitLit value
IsOutput x = ⊥

abbrev IsInput : UdpItem → Type 0
IsInput (item.Input location names) = fit.AreSome fit.IsFitName names
IsInput x = ⊥

abbrev IsReg : UdpItem → Type 0
IsReg (item.Reg location n) = fit.IsFitName n
IsReg x = ⊥

-- an output
output_from : (x : UdpItem) → IsOutput x
    → (z : Location × (Bool × (Name × (Option Lit × Unit {0})))) × (x ≡ read.output_of z) × (Unit {0} × (Unit {0} × (fit.IsFitName z.1.1.0 × (fit.IsFitIfThere fit.IsFitLit z.1.1.1.0 × Unit {0}))))
output_from (item.Output location is_reg output value) f = ((location, (is_reg, (output, (value, tt)))), refl, (tt, (tt, (f.0, (f.1, tt)))))
output_from x f = absurd f

-- `output [ reg ] Name [ = lit ] ;`
output_item_rule : Rule read.output_item spell.udp_decl IsOutput anything
unfolding read.output_item
output_item_rule =
    refit_rule (variant_rule (pair_rule (word_rule (codes "output"))
    (pair_rule (flag_rule (codes "reg") (λ ws. refl))
    (pair_rule name_rule
    (pair_rule (optional_rule (sees_mark 61) start_rule (λ x ws f. refl)) (skip_rule 59)
    (λ y ws f g. refl))
    (λ y ws f g. refl))
    (λ y ws f g. refl))
    (λ y ws f g. refl))
    read.output_of spell.udp_decl (λ a. refl))
    (λ x f. subst IsOutput (sym f.1) (f.2.1.1.0, f.2.1.1.1.0)) output_from

-- inputs
input_from : (x : UdpItem) → IsInput x → (z : Location × (List Name × Unit {0})) × (x ≡ read.inputs_of z) × (Unit {0} × (fit.AreSome fit.IsFitName z.1.0 × Unit {0}))
input_from (item.Input location names) f = ((location, (names, tt)), refl, (tt, (f, tt)))
input_from x f = absurd f

-- `input Name , .. ;`
input_item_rule : Rule read.input_item spell.udp_decl IsInput anything
unfolding read.input_item
input_item_rule =
    refit_rule (variant_rule (pair_rule (word_rule (codes "input"))
    (pair_rule (comma_list_rule name_rule (λ x f. omega arith) (λ ws. refl)) (skip_rule 59)
    (λ y ws f g. refl))
    (λ y ws f g. refl))
    read.inputs_of spell.udp_decl (λ a. refl))
    (λ x f. subst IsInput (sym f.1) f.2.1.0) input_from

-- a register
reg_from : (x : UdpItem) → IsReg x → (z : Location × (Name × Unit {0})) × (x ≡ read.reg_of z) × (Unit {0} × (fit.IsFitName z.1.0 × Unit {0}))
reg_from (item.Reg location n) f = ((location, (n, tt)), refl, (tt, (f, tt)))
reg_from x f = absurd f

-- `reg Name ;`
reg_item_rule : Rule read.reg_item spell.udp_decl IsReg anything
unfolding read.reg_item
reg_item_rule =
    refit_rule (variant_rule (pair_rule (word_rule (codes "reg")) (pair_rule name_rule (skip_rule 59) (λ y ws f g. refl)) (λ y ws f g. refl)) read.reg_of spell.udp_decl (λ a. refl))
    (λ x f. subst IsReg (sym f.1) f.2.1.0) reg_from

-- inputs are seen by their word
input_seen : (x : UdpItem) (ws : List Written) → IsInput x → begins (sees_word (codes "input")) (spell.udp_decl x ++ ws) ≡ true
input_seen (item.Input location names) ws f = refl
input_seen x ws f = absurd f

-- a register isn't seen as inputs
reg_seen : (x : UdpItem) (ws : List Written) → IsReg x → begins (sees_word (codes "input")) (spell.udp_decl x ++ ws) ≡ false
reg_seen (item.Reg location n) ws f = refl
reg_seen x ws f = absurd f

-- an output is seen by its word
output_seen : (x : UdpItem) (ws : List Written) → IsOutput x → begins (sees_word (codes "output")) (spell.udp_decl x ++ ws) ≡ true
output_seen (item.Output location is_reg output value) ws f = refl
output_seen x ws f = absurd f

-- inputs and a register aren't seen as an output
other_seen : (x : UdpItem) (ws : List Written) → IsInput x ⊎ IsReg x → begins (sees_word (codes "output")) (spell.udp_decl x ++ ws) ≡ false
other_seen (item.Input location names) ws (inl f) = refl
other_seen (item.Reg location n) ws (inr f) = refl
other_seen x ws (inl f) = absurd f
other_seen x ws (inr f) = absurd f

-- an input or a register
other_item_rule : Rule read.other_item spell.udp_decl (λ x. IsInput x ⊎ IsReg x) anything
unfolding read.other_item
other_item_rule = choice_rule (sees_word (codes "input")) input_item_rule reg_item_rule (λ x ws f g. input_seen x ws f) (λ x ws f g. reg_seen x ws f)

-- a declaration that was read fits
item_fits : (x : UdpItem) → IsOutput x ⊎ (IsInput x ⊎ IsReg x) → fit.IsFitUdpItem x
item_fits (item.Output location is_reg output value) (inl f) = f
item_fits (item.Input location names) (inr (inl f)) = f
item_fits (item.Reg location n) (inr (inr f)) = f
item_fits x (inl f) = absurd f
item_fits x (inr (inl f)) = absurd f
item_fits x (inr (inr f)) = absurd f

-- a declaration that fits is of one of three kinds
item_from : (x : UdpItem) → fit.IsFitUdpItem x → IsOutput x ⊎ (IsInput x ⊎ IsReg x)
item_from (item.Output location is_reg output value) f = inl f
item_from (item.Input location names) f = inr (inl f)
item_from (item.Reg location n) f = inr (inr f)

-- a declaration
udp_item_rule : Rule read.udp_item spell.udp_decl fit.IsFitUdpItem anything
unfolding read.udp_item
udp_item_rule =
    refit_rule (choice_rule (sees_word (codes "output")) output_item_rule other_item_rule (λ x ws f g. output_seen x ws f) (λ x ws f g. other_seen x ws f))
    item_fits item_from

-- a declaration is written with something
item_some : (x : UdpItem) → 0 < length (spell.udp_decl x)
item_some (item.Output location is_reg output value) = omega arith
item_some (item.Input location names) = omega arith
item_some (item.Reg location n) = omega arith

-- a declaration begins with one of its words
item_begins : (x : UdpItem) (ws : List Written) → ends_items (first_form (spell.udp_decl x ++ ws)) ≡ false
item_begins (item.Output location is_reg output value) ws = refl
item_begins (item.Input location names) ws = refl
item_begins (item.Reg location n) ws = refl

abbrev initial_parts : UdpInitial → Location × (Name × (Unit {0} × (Lit × Unit {0})))
initial_parts i = (i.location, (i.name, (tt, (i.value, tt))))

-- `initial Name = lit ;`
initial_rule : Rule read.initial spell.udp_initial fit.IsFitUdpInitial anything
unfolding read.initial
initial_rule =
    refit_rule (map_rule (pair_rule (word_rule (codes "initial"))
    (pair_rule name_rule
    (pair_rule (skip_rule 61)
    (pair_rule lit_rule (skip_rule 59)
    (λ y ws f g. refl))
    (λ y ws f g. refl))
    (λ y ws f g. refl))
    (λ y ws f g. refl))
    read.initial_of initial_parts (λ b. refl) (λ a. refl))
    (λ x f. (f.1.0, f.1.1.1.0)) (λ x f. (tt, (f.0, (tt, (f.1, tt)))))

-- ---- primitives

-- what ends the declarations is next
abbrev no_item : Follow
no_item ws = ends_items (first_form ws)

-- `table { row } endtable`
table_rule : Rule read.table spell.table (fit.AreFit fit.IsFitPlacedRow) anything
unfolding read.table
table_rule =
    refit_rule (map_rule (pair_rule (skip_word_rule (codes "table"))
    (pair_rule (many_rule ends_table placed_row_rule row_some row_begins) (skip_word_rule (codes "endtable"))
    (λ y ws f g. refl))
    (λ y ws f g. refl))
    (λ (z : Unit {0} × (List PlacedRow × Unit {0})). z.1.0) (λ (rows : List PlacedRow). (tt, (rows, tt))) (λ b. refl) (λ a. refl))
    (λ x f. f.1.0) (λ x f. (tt, (f, tt)))

-- `endprimitive`
ending_rule : Rule read.ending (λ u. spell.word (codes "endprimitive") ∷ []) fit.IsFree anything
unfolding read.ending
ending_rule = skip_word_rule (codes "endprimitive")

abbrev body_parts : List UdpItem × Option UdpInitial × List PlacedRow → List UdpItem × (Option UdpInitial × (List PlacedRow × Unit {0}))
body_parts b = (b.0, (b.1, (b.2, tt)))

abbrev body_written : List UdpItem × Option UdpInitial × List PlacedRow → List Written
body_written b = one_by_one spell.udp_decl b.0 ++ (written_if_there spell.udp_initial b.1 ++ (spell.table b.2 ++ spell.word (codes "endprimitive") ∷ []))

abbrev IsFitBody : List UdpItem × Option UdpInitial × List PlacedRow → Type 0
IsFitBody b = fit.AreFit fit.IsFitUdpItem b.0 × fit.IsFitIfThere fit.IsFitUdpInitial b.1 × fit.AreFit fit.IsFitPlacedRow b.2

-- `{ declaration } [ initial ] table { row } endtable endprimitive`
body_rule : Rule read.body body_written IsFitBody anything
unfolding read.body
body_rule =
    refit_rule (map_rule (pair_rule (many_rule ends_items udp_item_rule (λ x f. item_some x) (λ x ws f. item_begins x ws))
    (pair_rule (optional_rule (sees_word (codes "initial")) initial_rule (λ x ws f. refl))
    (pair_rule table_rule ending_rule
    (λ y ws f g. refl))
    (λ y ws f g. refl))
    (λ y ws f g. may_skip no_item spell.udp_initial y.0 (spell.table y.1.0 ++ spell.word (codes "endprimitive") ∷ []) ws (λ x. refl) refl))
    read.body_of body_parts (λ b. refl) (λ a. refl))
    (λ x f. (f.0, f.1.0, f.1.1.0)) (λ x f. (f.0, (f.1, (f.2, tt))))

abbrev udp_parts : UdpDecl → Location × (Name × (UdpPorts × (Unit {0} × (List UdpItem × Option UdpInitial × List PlacedRow))))
udp_parts u = (u.location, (u.name, (u.ports, (tt, (u.items, u.initial, u.rows)))))

-- `primitive Name ( ports ) ;` and the body
pub udp_rule : Rule read.udp spell.udp fit.IsFitUdp anything
unfolding read.udp
udp_rule =
    refit_rule (map_rule (pair_rule (word_rule (codes "primitive"))
    (pair_rule name_rule
    (pair_rule header_rule
    (pair_rule (skip_rule 59) body_rule
    (λ y ws f g. refl))
    (λ y ws f g. refl))
    (λ y ws f g. refl))
    (λ y ws f g. refl))
    read.udp_of udp_parts (λ b. refl) (λ a. refl))
    (λ x f. record { name = f.1.0; ports = f.1.1.0; items = f.1.1.1.1.0; initial = f.1.1.1.1.1; rows = f.1.1.1.1.2 })
    (λ x f. (tt, (f.name, (f.ports, (tt, (f.items, f.initial, f.rows))))))
