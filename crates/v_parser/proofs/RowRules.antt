-- Rules of the rows of a table.
use Rattle.std.proofs.Common.{◌≡◌, ℕ, ◌<◌, ◌==◌, Bool, true, false, not, ◌&&◌, if◌then◌else◌, List, [], ◌∷◌, ◌++◌, length, Option, Some, None, ◌⊎◌, inl, inr, refl, sym, ap, subst, ◌∙◌, arith, append-nil}
use Rattle.std.specs.List.{AllByRecursion}
use Rattle.std.proofs.lemmas.Bool.{eqb-true}
use Rattle.std.proofs.lemmas.Option.{same_Some}
use Rattle.v_tree.specs.declared.locations.Location.{Location}
use Rattle.v_tree.specs.declared.primitives.PlacedRow.{PlacedRow}
use Rattle.udp_table.specs.declared.symbols.Base.{Base}
use Rattle.udp_table.specs.declared.symbols.Base.TheVariants as base
use Rattle.udp_table.specs.declared.symbols.Sym.{Sym}
use Rattle.udp_table.specs.declared.symbols.Sym.TheVariants as syms
use Rattle.udp_table.specs.declared.rows.UdpRow.{UdpRow}
use Rattle.v_tree.specs.Written.{Form, Written, bare, placed_first, written_if_there, one_by_one}
use Rattle.v_tree.specs.Written as form
use Rattle.v_tree.specs.Words.{base_symbol, sym_symbol}
use Rattle.v_tree.specs.Fit as fit
use Rattle.v_tree.specs.Spelling as spell
use Rattle.v_parser.specs.Input.{is_symbol, symbol_in}
use Rattle.v_parser.specs.Primitives.{byte_entry, symbol_meaning, sees_symbol, ends_table}
use Rattle.v_parser.specs.Primitives as read
use Rattle.v_parser.proofs.Rules.{Rule, Follow, anything, begins, first_form, IsOpen, bare_rule, map_rule, variant_rule, refit_rule, respell_rule, pair_rule, optional_rule, choice_rule, some_rule, here_rule}
use Rattle.v_parser.proofs.TokenRules.{skip_symbol_rule}

-- what a table gives for a symbol is as each entry is
byte_entry_is : {A : Type 0} (Is : ℕ → A → Type 0) (table : List (ℕ × A)) (byte : ℕ) (x : A) → byte_entry table byte ≡ Some x → AllByRecursion (λ (entry : ℕ × A). Is entry.0 entry.1) table → Is byte x
byte_entry_is Is [] byte x e all = absurd cc
byte_entry_is {A} Is (entry ∷ entries) byte x e all = by (byte == entry.0) (λ h. eqb-true byte entry.0 h) (λ later. byte_entry_is Is entries byte x later all.1) e
  where
    by : (b : Bool) → (b ≡ true → byte ≡ entry.0) → (byte_entry entries byte ≡ Some x → Is byte x) → (if b then Some entry.1 else byte_entry entries byte) ≡ Some x → Is byte x
    by true same later f = subst (Is byte) (same_Some entry.1 x f) (subst (λ (n : ℕ). Is n entry.1) (sym (same refl)) all.0)
    by false same later f = later f

-- a token that stands for something is a symbol that does
symbol_meaning_is : {A : Type 0} (Is : ℕ → A → Type 0) (stands_for : ℕ → Option A) → ((byte : ℕ) (x : A) → stands_for byte ≡ Some x → Is byte x)
    → (f : Form) (x : A) → symbol_meaning stands_for (symbol_in f) ≡ Some x → (byte : ℕ) × (f ≡ form.Symbol byte) × Is byte x
symbol_meaning_is Is stands_for is (form.Symbol byte) x e = (byte, refl, is byte x e)
symbol_meaning_is Is stands_for is f x e = absurd cc

-- ---- values

abbrev IsOfBase : ℕ → Base → Type 0
IsOfBase byte x = byte ≡ base_symbol x

-- the symbol of what a symbol stands for
base_named : (byte : ℕ) (x : Base) → read.base_of byte ≡ Some x → IsOfBase byte x
unfolding read.base_of read.base_table
base_named byte x e = byte_entry_is IsOfBase read.base_table byte x e (refl, (refl, (refl, (refl, (refl, tt)))))

-- each one's symbol stands for it
base_back : (x : Base) → read.base_of (base_symbol x) ≡ Some x
unfolding read.base_of read.base_table
base_back base.Zero = refl
base_back base.One = refl
base_back base.X = refl
base_back base.Any = refl
base_back base.Both = refl

-- a token that stands for a value is its symbol
base_is : (f : Form) (x : Base) → read.base_in f ≡ Some x → f ≡ form.Symbol (base_symbol x)
base_is f x e =
    let m = symbol_meaning_is IsOfBase read.base_of base_named f x e in
    m.1 ∙ ap form.Symbol m.2

-- a value
base_rule : Rule read.base (λ x. spell.symbol (base_symbol x) ∷ []) fit.IsFree anything
unfolding read.base
base_rule = bare_rule read.base_in (λ x. form.Symbol (base_symbol x)) fit.IsFree refl base_is (λ f x sound e. tt) (λ x free. base_back x)

-- ---- fields

-- a field of one symbol
abbrev IsSingle : Sym → Type 0
IsSingle (syms.Edge from to) = ⊥
IsSingle x = Unit {0}

abbrev IsEdge : Sym → Type 0
IsEdge (syms.Edge from to) = Unit {0}
IsEdge x = ⊥

abbrev IsOfSym : ℕ → Sym → Type 0
IsOfSym byte x = (byte ≡ sym_symbol x) × IsSingle x

-- the symbol of what a symbol stands for
sym_named : (byte : ℕ) (x : Sym) → read.sym_of byte ≡ Some x → IsOfSym byte x
unfolding read.sym_of read.sym_table
sym_named byte x e =
    byte_entry_is IsOfSym read.sym_table byte x e
    ((refl, tt), ((refl, tt), ((refl, tt), ((refl, tt), ((refl, tt), ((refl, tt), ((refl, tt), ((refl, tt), ((refl, tt), ((refl, tt), ((refl, tt), tt)))))))))))

-- each one's symbol stands for it
sym_back : (x : Sym) → IsSingle x → read.sym_of (sym_symbol x) ≡ Some x
unfolding read.sym_of read.sym_table
sym_back (syms.Edge from to) f = absurd f
sym_back syms.Zero f = refl
sym_back syms.One f = refl
sym_back syms.X f = refl
sym_back syms.Any f = refl
sym_back syms.Both f = refl
sym_back syms.Same f = refl
sym_back syms.Rise f = refl
sym_back syms.Fall f = refl
sym_back syms.Pos f = refl
sym_back syms.Neg f = refl
sym_back syms.Change f = refl

-- a token that stands for a field is its symbol
sym_is : (f : Form) (x : Sym) → read.sym_in f ≡ Some x → f ≡ form.Symbol (sym_symbol x)
sym_is f x e =
    let m = symbol_meaning_is IsOfSym read.sym_of sym_named f x e in
    m.1 ∙ ap form.Symbol m.2.0

-- a field that a token stands for has one symbol
sym_single : (f : Form) (x : Sym) → read.sym_in f ≡ Some x → IsSingle x
sym_single f x e = (symbol_meaning_is IsOfSym read.sym_of sym_named f x e).2.1

-- a field of one symbol is written with it
single_spelled : (x : Sym) → IsSingle x → bare (form.Symbol (sym_symbol x)) ∷ [] ≡ spell.field x
single_spelled (syms.Edge from to) f = absurd f
single_spelled x f = refl

-- a field of one symbol
single_rule : Rule read.single spell.field IsSingle anything
unfolding read.single
single_rule =
    respell_rule (bare_rule read.sym_in (λ x. form.Symbol (sym_symbol x)) IsSingle refl sym_is (λ f x sound e. sym_single f x e) sym_back)
    single_spelled

-- a change from one value to another
edge_from : (x : Sym) → IsEdge x → (z : Unit {0} × (Base × (Base × Unit {0}))) × (x ≡ read.edge_of z) × (Unit {0} × (Unit {0} × (Unit {0} × Unit {0})))
edge_from (syms.Edge from to) f = ((tt, (from, (to, tt))), refl, (tt, (tt, (tt, tt))))
edge_from x f = absurd f

-- `( base base )`
edge_rule : Rule read.edge spell.field IsEdge anything
unfolding read.edge
edge_rule =
    refit_rule (variant_rule (pair_rule (skip_symbol_rule 40)
    (pair_rule base_rule
    (pair_rule base_rule (skip_symbol_rule 41)
    (λ y ws f g. refl))
    (λ y ws f g. refl))
    (λ y ws f g. refl))
    read.edge_of spell.field (λ a. refl))
    (λ x f. subst IsEdge (sym f.1) tt) edge_from

-- a change is seen by its `(`
edge_seen : (x : Sym) (ws : List Written) → IsEdge x → begins (sees_symbol 40) (spell.field x ++ ws) ≡ true
edge_seen (syms.Edge from to) ws f = refl
edge_seen x ws f = absurd f

-- a field of one symbol has no `(`
single_seen : (x : Sym) (ws : List Written) → IsSingle x → begins (sees_symbol 40) (spell.field x ++ ws) ≡ false
single_seen (syms.Edge from to) ws f = absurd f
single_seen x ws f = refl

-- a field is a change or of one symbol
field_from : (x : Sym) → fit.IsFree x → IsEdge x ⊎ IsSingle x
field_from (syms.Edge from to) f = inl tt
field_from x f = inr tt

-- a field
field_rule : Rule read.field spell.field fit.IsFree anything
unfolding read.field
field_rule = refit_rule (choice_rule (sees_symbol 40) edge_rule single_rule (λ x ws f g. edge_seen x ws f) (λ x ws f g. single_seen x ws f)) (λ x f. tt) field_from

-- a field is written with something
field_some : (x : Sym) → 0 < length (spell.field x)
field_some (syms.Edge from to) = omega arith
field_some x = omega arith

-- a field doesn't begin with `:`
field_begins : (x : Sym) (ws : List Written) → is_symbol 58 (first_form (spell.field x ++ ws)) ≡ false
field_begins (syms.Edge from to) ws = refl
field_begins x ws = refl

-- ---- rows

-- `: field`
output_rule : Rule read.output (λ x. spell.symbol 58 ∷ spell.field x) fit.IsFree anything
unfolding read.output
output_rule =
    refit_rule (map_rule (pair_rule (skip_symbol_rule 58) field_rule (λ y ws f g. refl)) (λ (z : Unit {0} × Sym). z.1) (λ (x : Sym). (tt, x)) (λ b. refl) (λ a. refl))
    (λ x f. tt) (λ x f. (tt, tt))

abbrev outcome_parts_by : Option Sym → Sym → Sym × Option Sym
outcome_parts_by None out = (out, None)
outcome_parts_by (Some state) out = (state, Some out)

abbrev outcome_parts : Option Sym × Sym → Sym × Option Sym
outcome_parts z = outcome_parts_by z.0 z.1

-- a state and an output are made of their parts
outcome_there : (state : Option Sym) (out : Sym) → read.outcome_of (outcome_parts_by state out) ≡ (state, out)
outcome_there None out = refl
outcome_there (Some state) out = refl

-- a state and an output have the parts that they are made of
outcome_back : (first : Sym) (out : Option Sym) → outcome_parts (read.outcome_by first out) ≡ (first, out)
outcome_back first None = refl
outcome_back first (Some out) = refl

-- a state that is there or not and an output are written so
outcome_spelled : (state : Option Sym) (out : Sym)
    → spell.field (outcome_parts_by state out).0 ++ written_if_there (λ (x : Sym). spell.symbol 58 ∷ spell.field x) (outcome_parts_by state out).1 ≡ spell.outcome state out
outcome_spelled None out = append-nil (spell.field out)
outcome_spelled (Some state) out = refl

-- a state and an output have nothing to keep
outcome_free : (state : Option Sym) (out : Sym) → Unit {0} × fit.IsFitIfThere fit.IsFree (outcome_parts_by state out).1
outcome_free None out = (tt, tt)
outcome_free (Some state) out = (tt, tt)

-- no `:` is next
abbrev no_colon : Follow
no_colon ws = anything ws && not (begins (sees_symbol 58) ws)

-- `[ field : ] field`
outcome_rule : Rule read.outcome (λ z. spell.outcome z.0 z.1) fit.IsFree no_colon
unfolding read.outcome
outcome_rule =
    refit_rule (respell_rule (map_rule (pair_rule field_rule (optional_rule (sees_symbol 58) output_rule (λ x ws f. refl)) (λ y ws f g. refl))
    read.outcome_of outcome_parts (λ b. outcome_there b.0 b.1) (λ a. outcome_back a.0 a.1))
    (λ x f. outcome_spelled x.0 x.1))
    (λ x f. tt) (λ x f. outcome_free x.0 x.1)

abbrev row_parts : UdpRow → List Sym × (Unit {0} × ((Option Sym × Sym) × Unit {0}))
row_parts r = (r.ins, (tt, ((r.state, r.out), tt)))

-- `field .. : [ field : ] field ;`
row_rule : Rule read.row spell.row fit.IsFitRow anything
unfolding read.row
row_rule =
    refit_rule (map_rule (pair_rule (some_rule (is_symbol 58) field_rule (λ x f. field_some x) (λ x ws f. field_begins x ws))
    (pair_rule (skip_symbol_rule 58)
    (pair_rule outcome_rule (skip_symbol_rule 59)
    (λ y ws f g. refl))
    (λ y ws f g. refl))
    (λ y ws f g. refl))
    read.row_of row_parts (λ b. refl) (λ a. refl))
    (λ x f. f.0) (λ x f. (f, (tt, (tt, tt))))

-- the location of a row's first token isn't kept in the row
row_open : (ins : List Sym) (rest : List Written) → fit.AreSome fit.IsFree ins → IsOpen (one_by_one spell.field ins ++ rest)
row_open [] rest f = absurd (omega (arith, f.some))
row_open (x ∷ ins) rest f = field_open x (one_by_one spell.field ins) rest
  where
    field_open : (x : Sym) (others rest : List Written) → IsOpen ((spell.field x ++ others) ++ rest)
    field_open (syms.Edge from to) others rest = refl
    field_open x others rest = refl

abbrev placed_parts : PlacedRow → Location × UdpRow
placed_parts r = (r.location, r.row)

-- a row, with the location of its first token
pub placed_row_rule : Rule read.placed_row spell.placed_row fit.IsFitPlacedRow anything
unfolding read.placed_row
placed_row_rule =
    map_rule (here_rule row_rule (λ x f. row_open x.ins (spell.symbol 58 ∷ (spell.outcome x.state x.out ++ spell.symbol 59 ∷ [])) f))
    read.placed_row_of placed_parts (λ b. refl) (λ a. refl)

-- a row is written with something
pub row_some : (r : PlacedRow) → fit.IsFitPlacedRow r → 0 < length (spell.placed_row r)
row_some r f = by (spell.row r.row) (row_open r.row.ins (spell.symbol 58 ∷ (spell.outcome r.row.state r.row.out ++ spell.symbol 59 ∷ [])) f)
  where
    by : (ws : List Written) → IsOpen ws → 0 < length (placed_first r.location ws)
    by [] unkept = absurd unkept
    by (w ∷ ws) unkept = omega arith

-- a row doesn't begin with the word that ends the table
pub row_begins : (r : PlacedRow) (ws : List Written) → fit.IsFitPlacedRow r → ends_table (first_form (spell.placed_row r ++ ws)) ≡ false
row_begins r ws f = by r.row.ins f
  where
    by : (ins : List Sym) → fit.AreSome fit.IsFree ins → ends_table (first_form (placed_first r.location (one_by_one spell.field ins ++ (spell.symbol 58 ∷ (spell.outcome r.row.state r.row.out ++ spell.symbol 59 ∷ []))) ++ ws)) ≡ false
    by [] f = absurd (omega (arith, f.some))
    by (x ∷ ins) f = begun x (one_by_one spell.field ins) (spell.symbol 58 ∷ (spell.outcome r.row.state r.row.out ++ spell.symbol 59 ∷ []))
      where
        begun : (x : Sym) (others after : List Written) → ends_table (first_form (placed_first r.location ((spell.field x ++ others) ++ after) ++ ws)) ≡ false
        begun (syms.Edge from to) others after = refl
        begun x others after = refl
