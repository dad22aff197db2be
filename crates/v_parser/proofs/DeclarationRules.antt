-- Rules of declarations and assignments.
use Rattle.std.proofs.Common.{◌≡◌, ℕ, ◌<◌, Bool, true, false, not, ◌&&◌, ◌||◌, eqb, List, [], ◌∷◌, ◌++◌, length, Option, Some, None, is_some, codes, ◌⊎◌, inl, inr, refl, sym, ap, subst, ◌∙◌, arith, append_assoc, length-append}
use Rattle.std.proofs.lemmas.Bool.{eqb-true, and_from}
use Rattle.v_tree.specs.declared.locations.Location.{Location}
use Rattle.v_tree.specs.declared.locations.Name.{Name}
use Rattle.v_tree.specs.declared.expressions.RangeBounds.{RangeBounds}
use Rattle.v_tree.specs.declared.expressions.Expr.{Expr}
use Rattle.v_tree.specs.declared.expressions.Target.{Target}
use Rattle.v_tree.specs.declared.drives.DriveStrength.{DriveStrength}
use Rattle.v_tree.specs.declared.drives.Charge.{Charge}
use Rattle.v_tree.specs.declared.drives.DelaySpec.{DelaySpec}
use Rattle.v_tree.specs.declared.declarations.Direction.{Direction}
use Rattle.v_tree.specs.declared.declarations.NetType.{NetType}
use Rattle.v_tree.specs.declared.declarations.VectorWord.{VectorWord}
use Rattle.v_tree.specs.declared.declarations.VectorRange.{VectorRange}
use Rattle.v_tree.specs.declared.declarations.PortDecl.{PortDecl}
use Rattle.v_tree.specs.declared.declarations.ValuedName.{ValuedName}
use Rattle.v_tree.specs.declared.declarations.DeclaredNames.{DeclaredNames}
use Rattle.v_tree.specs.declared.declarations.DeclaredNames.TheVariants as kind
use Rattle.v_tree.specs.declared.declarations.NetDecl.{NetDecl}
use Rattle.v_tree.specs.declared.declarations.TriregDecl.{TriregDecl}
use Rattle.v_tree.specs.declared.declarations.Pair.{Pair}
use Rattle.v_tree.specs.declared.declarations.AssignItem.{AssignItem}
use Rattle.v_tree.specs.Written.{Form, Written, written_if_there, behind_commas, between_commas}
use Rattle.v_tree.specs.Written as form
use Rattle.v_tree.specs.Fit as fit
use Rattle.v_tree.specs.Spelling as spell
use Rattle.v_parser.specs.Input.{is_mark, name, comma_list, ◌<$>◌}
use Rattle.v_parser.specs.Words.{sees_net_type, sees_vector_word}
use Rattle.v_parser.specs.Expressions.{sees_mark}
use Rattle.v_parser.specs.Declarations.{begins_vector_range, sees_value}
use Rattle.v_parser.specs.Declarations as read
use Rattle.v_parser.proofs.Rules.{Rule, Follow, anything, no_comma, begins, first_form, map_rule, variant_rule, refit_rule, follow_rule, pair_rule, optional_rule, choice_rule, comma_list_rule}
use Rattle.v_parser.proofs.TokenRules.{name_rule, skip_rule, word_rule, direction_rule, bare_net_type_rule, bare_vector_word_rule, net_type_back, vector_word_back}
use Rattle.v_parser.proofs.TokenRules as token
use Rattle.v_parser.proofs.ExprRules.{no_bracket, range_rule, expr_at_rule, target_at_rule, begins_target, target_begins}
use Rattle.v_parser.proofs.DriveRules.{free_if_there, drive_rule, charge_rule, delay_spec_rule}

-- an expression of the grammar
pub expr_rule : Rule read.expr spell.expr fit.IsFitExpr no_bracket
unfolding read.expr
expr_rule = expr_at_rule 64

-- a target of the grammar
pub target_rule : Rule read.target spell.target fit.IsFitTarget no_bracket
unfolding read.target
target_rule = target_at_rule 64

-- a type of nets
pub net_type_rule : Rule read.net_type spell.net_type fit.IsFree anything
unfolding read.net_type
net_type_rule = bare_net_type_rule

-- ---- how lists and parts that may be there begin

-- what follows may begin with a part or without it
pub may_skip : {A : Type 0} (follow : Follow) (written : A → List Written) (o : Option A) (rest ws : List Written) → ((x : A) → follow ((written x ++ rest) ++ ws) ≡ true) → follow (rest ++ ws) ≡ true
    → follow ((written_if_there written o ++ rest) ++ ws) ≡ true
may_skip follow written None rest ws there without = without
may_skip follow written (Some x) rest ws there without = there x

-- names begin with a name
pub names_begin : (follow : Follow) (names : List Name) (rest ws : List Written) → fit.AreSome fit.IsFitName names → ((n : Name) (vs : List Written) → follow (spell.name n ++ vs) ≡ true)
    → follow ((between_commas spell.name names ++ rest) ++ ws) ≡ true
names_begin follow [] rest ws f follows = absurd (omega (arith, f.some))
names_begin follow (n ∷ names) rest ws f follows = follows n ((behind_commas spell.name names ++ rest) ++ ws)

-- ---- ports

-- a type of nets is seen as one
pub net_type_begins : (t : NetType) (ws : List Written) → begins sees_net_type (spell.net_type t ++ ws) ≡ true
net_type_begins t ws = ap is_some (net_type_back t)

abbrev port_parts : PortDecl → (Direction × Location) × (Option NetType × (Option RangeBounds × (List Name × Unit {0})))
port_parts d = ((d.direction, d.location), (d.net_type, (d.range, (d.names, tt))))

-- no `[` is seen
abbrev no_range : Follow
no_range ws = anything ws && not (begins (sees_mark 91) ws)

-- no type of nets is seen
abbrev pub no_net_type : Follow
no_net_type ws = anything ws && not (begins sees_net_type ws)

-- `dir [ nettype ] [ range ] Name , .. ;`
pub port_decl_rule : Rule read.port_decl spell.port_decl fit.IsFitPortDecl anything
unfolding read.port_decl
port_decl_rule =
    refit_rule (map_rule (pair_rule direction_rule
    (pair_rule (optional_rule sees_net_type net_type_rule (λ x ws f. net_type_begins x ws))
    (pair_rule (optional_rule (sees_mark 91) range_rule (λ x ws f. refl))
    (pair_rule (comma_list_rule name_rule (λ x f. omega arith) (λ ws. refl)) (skip_rule 59)
    (λ y ws f g. refl))
    (λ y ws f g. names_begin no_range y.0 (spell.mark 59 ∷ []) ws f.0 (λ n vs. refl)))
    (λ y ws f g. may_skip no_net_type spell.range y.0 (between_commas spell.name y.1.0 ++ spell.mark 59 ∷ []) ws (λ x. refl)
    (names_begin no_net_type y.1.0 (spell.mark 59 ∷ []) ws f.1.0 (λ n vs. refl))))
    (λ y ws f g. refl))
    read.port_decl_of port_parts (λ b. refl) (λ a. refl))
    (λ x f. record { range = f.1.1.0; names = f.1.1.1.0 })
    (λ x f. (tt, (free_if_there x.net_type, (f.range, (f.names, tt)))))

-- ---- ranges of vectors

-- a word before a range
range_word_rule : Rule read.range_word spell.word_before_range fit.IsFree anything
unfolding read.range_word
range_word_rule = bare_vector_word_rule

abbrev vector_range_parts : VectorRange → Option VectorWord × RangeBounds
vector_range_parts s = (s.word, s.range)

-- a range, with a word before it or without one
pub vector_range_rule : Rule read.vector_range spell.vector_range fit.IsFitVectorRange anything
unfolding read.vector_range
vector_range_rule =
    refit_rule (map_rule (pair_rule (optional_rule sees_vector_word range_word_rule (λ x ws f. ap is_some (vector_word_back x))) range_rule (λ y ws f g. refl))
    read.vector_range_of vector_range_parts (λ b. refl) (λ a. refl))
    (λ x f. f.1) (λ x f. (free_if_there x.word, f))

-- a word before a range or none is seen
word_begins : (o : Option VectorWord) (r : RangeBounds) (ws : List Written) → begins begins_vector_range ((written_if_there spell.word_before_range o ++ spell.range r) ++ ws) ≡ true
word_begins None r ws = refl
word_begins (Some x) r ws = ap (λ (o : Option VectorWord). is_some o || false) (vector_word_back x)

-- a range with a word before it or without one is seen
pub vector_range_begins : (s : VectorRange) (ws : List Written) → begins begins_vector_range (spell.vector_range s ++ ws) ≡ true
vector_range_begins s ws = word_begins s.word s.range ws

-- ---- names with values

abbrev valued_parts : ValuedName → Name × (Unit {0} × Expr)
valued_parts v = (v.name, (tt, v.value))

-- `Name = expr`
valued_name_rule : Rule read.valued_name spell.valued_name fit.IsFitValuedName no_bracket
unfolding read.valued_name
valued_name_rule =
    refit_rule (map_rule (pair_rule name_rule (pair_rule (skip_rule 61) expr_rule (λ y ws f g. refl)) (λ y ws f g. refl)) read.valued_of valued_parts (λ b. refl) (λ a. refl))
    (λ x f. (f.0, f.1.1)) (λ x f. (f.0, (tt, f.1)))

-- no `[`, `,` or `=` is next
abbrev pub no_more : Follow
no_more ws = no_bracket ws && no_comma ws && not (is_mark 61 (first_form ws))

-- no `[` or `,` is next where no `[`, `,` or `=` is
less_bracket : (a b c : Bool) → (a && b && c) ≡ true → (a && b) ≡ true
less_bracket true true c e = refl
less_bracket true false c e = absurd cc
less_bracket false b c e = absurd cc

-- no `,` is next where no `[`, `,` or `=` is
less_comma : (a b c : Bool) → (a && b && c) ≡ true → (true && b) ≡ true
less_comma true true c e = refl
less_comma true false c e = absurd cc
less_comma false b c e = absurd cc

-- no `=` is next where no `[`, `,` or `=` is
less_value : (a b c : Bool) → (a && b && not c) ≡ true → c ≡ false
less_value true true false e = refl
less_value true true true e = absurd cc
less_value true false c e = absurd cc
less_value false b c e = absurd cc

abbrev AreValued : DeclaredNames → Type 0
AreValued x = (names : List ValuedName) × (x ≡ kind.Valued names) × fit.AreSome fit.IsFitValuedName names

abbrev AreNames : DeclaredNames → Type 0
AreNames x = (names : List Name) × (x ≡ kind.Names names) × fit.AreSome fit.IsFitName names

-- names with values are seen by their `=`
valued_seen : (names : List ValuedName) (ws : List Written) → fit.AreSome fit.IsFitValuedName names → begins sees_value (spell.declared_names (kind.Valued names) ++ ws) ≡ true
valued_seen [] ws f = absurd (omega (arith, f.some))
valued_seen (v ∷ names) ws f = refl

-- names alone are seen by having no `=`
names_seen : (names : List Name) (ws : List Written) → fit.AreSome fit.IsFitName names → is_mark 61 (first_form ws) ≡ false → begins sees_value (spell.declared_names (kind.Names names) ++ ws) ≡ false
names_seen [] ws f none = absurd (omega (arith, f.some))
names_seen (n ∷ []) ws f none = none
names_seen (n ∷ next ∷ names) ws f none = refl

-- names that were read fit
declared_fits : (x : DeclaredNames) → AreValued x ⊎ AreNames x → fit.IsFitDeclaredNames x
declared_fits x (inl f) = subst fit.IsFitDeclaredNames (sym f.1) f.2
declared_fits x (inr f) = subst fit.IsFitDeclaredNames (sym f.1) f.2

-- names that fit have values or none
declared_from : (x : DeclaredNames) → fit.IsFitDeclaredNames x → AreValued x ⊎ AreNames x
declared_from (kind.Valued names) f = inl (names, refl, f)
declared_from (kind.Names names) f = inr (names, refl, f)

-- names with values
valued_rule : Rule (kind.Valued <$> comma_list read.valued_name) spell.declared_names AreValued no_more
valued_rule =
    follow_rule (variant_rule (comma_list_rule valued_name_rule (λ x f. omega arith) (λ ws. refl)) kind.Valued spell.declared_names (λ a. refl))
    (λ ws h. less_bracket (no_bracket ws) (no_comma ws) (not (is_mark 61 (first_form ws))) h)

-- names alone
names_rule : Rule (kind.Names <$> comma_list name) spell.declared_names AreNames no_more
names_rule =
    follow_rule (variant_rule (comma_list_rule name_rule (λ x f. omega arith) (λ ws. refl)) kind.Names spell.declared_names (λ a. refl))
    (λ ws h. less_comma (no_bracket ws) (no_comma ws) (not (is_mark 61 (first_form ws))) h)

-- names alone, or names with values
pub declared_rule : Rule read.declared_names spell.declared_names fit.IsFitDeclaredNames no_more
unfolding read.declared_names
declared_rule =
    refit_rule (follow_rule (choice_rule sees_value valued_rule names_rule
    (λ x ws f g. ap (λ (d : DeclaredNames). begins sees_value (spell.declared_names d ++ ws)) f.1 ∙ valued_seen f.0 ws f.2)
    (λ x ws f g. ap (λ (d : DeclaredNames). begins sees_value (spell.declared_names d ++ ws)) f.1
    ∙ names_seen f.0 ws f.2 (less_value (no_bracket ws) (no_comma ws) (is_mark 61 (first_form ws)) g)))
    (λ ws h. and_from (no_more ws) (no_more ws) h h))
    declared_fits declared_from

-- names, with values or without, begin with a name
declared_begins : (follow : Follow) (d : DeclaredNames) (rest ws : List Written) → fit.IsFitDeclaredNames d → ((n : Name) (vs : List Written) → follow (spell.name n ++ vs) ≡ true)
    → follow ((spell.declared_names d ++ rest) ++ ws) ≡ true
declared_begins follow (kind.Names names) rest ws f follows = names_begin follow names rest ws f follows
declared_begins follow (kind.Valued []) rest ws f follows = absurd (omega (arith, f.some))
declared_begins follow (kind.Valued (v ∷ names)) rest ws f follows = follows v.name ((((spell.mark 61 ∷ spell.expr v.value) ++ behind_commas spell.valued_name names) ++ rest) ++ ws)

-- ---- nets

-- no drive or charge is seen
abbrev no_paren : Follow
no_paren ws = anything ws && not (begins (sees_mark 40) ws)

-- no vector_range is seen
abbrev no_vector_range : Follow
no_vector_range ws = anything ws && not (begins begins_vector_range ws)

-- no delay is seen
abbrev no_delay : Follow
no_delay ws = anything ws && not (begins (sees_mark 35) ws)

-- a vector_range isn't a drive or a charge
word_no_paren : (o : Option VectorWord) (r : RangeBounds) (rest ws : List Written) → no_paren (((written_if_there spell.word_before_range o ++ spell.range r) ++ rest) ++ ws) ≡ true
word_no_paren None r rest ws = refl
word_no_paren (Some x) r rest ws = refl

abbrev net_parts : NetDecl → (NetType × Location) × (Option DriveStrength × (Option VectorRange × (Option DelaySpec × (DeclaredNames × Unit {0}))))
net_parts d = ((d.net_type, d.location), (d.drive, (d.vector_range, (d.delay, (d.declared_names, tt)))))

-- `nettype [ drive ] [ vector_range ] [ delay ] declared_names ;`
pub net_decl_rule : Rule read.net_decl spell.net_decl fit.IsFitNetDecl anything
unfolding read.net_decl
net_decl_rule =
    refit_rule (map_rule (pair_rule token.net_type_rule
    (pair_rule (optional_rule (sees_mark 40) drive_rule (λ x ws f. refl))
    (pair_rule (optional_rule begins_vector_range vector_range_rule (λ x ws f. vector_range_begins x ws))
    (pair_rule (optional_rule (sees_mark 35) delay_spec_rule (λ x ws f. refl))
    (pair_rule declared_rule (skip_rule 59)
    (λ y ws f g. refl))
    (λ y ws f g. declared_begins no_delay y.0 (spell.mark 59 ∷ []) ws f.0 (λ n vs. refl)))
    (λ y ws f g. may_skip no_vector_range spell.delay_spec y.0 (spell.declared_names y.1.0 ++ spell.mark 59 ∷ []) ws (λ x. refl)
    (declared_begins no_vector_range y.1.0 (spell.mark 59 ∷ []) ws f.1.0 (λ n vs. refl))))
    (λ y ws f g.
    let after : List Written = spell.declared_names y.1.1.0 ++ spell.mark 59 ∷ [] in
    may_skip no_paren spell.vector_range y.0 (written_if_there spell.delay_spec y.1.0 ++ after) ws (λ x. word_no_paren x.word x.range (written_if_there spell.delay_spec y.1.0 ++ after) ws)
    (may_skip no_paren spell.delay_spec y.1.0 after ws (λ x. refl)
    (declared_begins no_paren y.1.1.0 (spell.mark 59 ∷ []) ws f.1.1.0 (λ n vs. refl)))))
    (λ y ws f g. refl))
    read.net_decl_of net_parts (λ b. refl) (λ a. refl))
    (λ x f. record { vector_range = f.1.1.0; delay = f.1.1.1.0; declared_names = f.1.1.1.1.0 })
    (λ x f. (tt, (free_if_there x.drive, (f.vector_range, (f.delay, (f.declared_names, tt))))))

abbrev trireg_parts : TriregDecl → Location × (Option Charge × (Option VectorRange × (Option DelaySpec × (List Name × Unit {0}))))
trireg_parts d = (d.location, (d.charge, (d.vector_range, (d.delay, (d.names, tt)))))

-- `trireg [ charge ] [ vector_range ] [ delay ] Name , .. ;`
pub trireg_decl_rule : Rule read.trireg_decl spell.trireg_decl fit.IsFitTriregDecl anything
unfolding read.trireg_decl
trireg_decl_rule =
    refit_rule (map_rule (pair_rule (word_rule (codes "trireg"))
    (pair_rule (optional_rule (sees_mark 40) charge_rule (λ x ws f. refl))
    (pair_rule (optional_rule begins_vector_range vector_range_rule (λ x ws f. vector_range_begins x ws))
    (pair_rule (optional_rule (sees_mark 35) delay_spec_rule (λ x ws f. refl))
    (pair_rule (comma_list_rule name_rule (λ x f. omega arith) (λ ws. refl)) (skip_rule 59)
    (λ y ws f g. refl))
    (λ y ws f g. names_begin no_delay y.0 (spell.mark 59 ∷ []) ws f.0 (λ n vs. refl)))
    (λ y ws f g. may_skip no_vector_range spell.delay_spec y.0 (between_commas spell.name y.1.0 ++ spell.mark 59 ∷ []) ws (λ x. refl)
    (names_begin no_vector_range y.1.0 (spell.mark 59 ∷ []) ws f.1.0 (λ n vs. refl))))
    (λ y ws f g.
    let after : List Written = between_commas spell.name y.1.1.0 ++ spell.mark 59 ∷ [] in
    may_skip no_paren spell.vector_range y.0 (written_if_there spell.delay_spec y.1.0 ++ after) ws (λ x. word_no_paren x.word x.range (written_if_there spell.delay_spec y.1.0 ++ after) ws)
    (may_skip no_paren spell.delay_spec y.1.0 after ws (λ x. refl)
    (names_begin no_paren y.1.1.0 (spell.mark 59 ∷ []) ws f.1.1.0 (λ n vs. refl)))))
    (λ y ws f g. refl))
    read.trireg_of trireg_parts (λ b. refl) (λ a. refl))
    (λ x f. record { vector_range = f.1.1.0; delay = f.1.1.1.0; names = f.1.1.1.1.0 })
    (λ x f. (tt, (free_if_there x.charge, (f.vector_range, (f.delay, (f.names, tt))))))

-- ---- assignments

abbrev pair_parts : Pair → Target × (Unit {0} × Expr)
pair_parts p = (p.target, (tt, p.value))

-- `target = expr`
assign_pair_rule : Rule read.pair spell.pair fit.IsFitPair no_bracket
unfolding read.pair
assign_pair_rule =
    refit_rule (map_rule (pair_rule target_rule (pair_rule (skip_rule 61) expr_rule (λ y ws f g. refl)) (λ y ws f g. refl)) read.pair_of pair_parts (λ b. refl) (λ a. refl))
    (λ x f. (f.0, f.1.1)) (λ x f. (f.0, (tt, f.1)))

-- an assignment is written with something
pair_some : (p : Pair) → fit.IsFitPair p → 0 < length (spell.pair p)
pair_some p f = omega (arith, length-append (spell.target p.target) (spell.mark 61 ∷ spell.expr p.value))

-- what begins a target isn't another mark than `{`
target_no_mark : (byte : ℕ) (f : Form) → eqb 123 byte ≡ false → begins_target f ≡ true → is_mark byte f ≡ false
target_no_mark byte (form.Mark b) other e = ap (λ (n : ℕ). eqb n byte) (eqb-true b 123 e) ∙ other
target_no_mark byte (form.Name text) other e = refl
target_no_mark byte f other e = absurd cc

-- five parts, grouped to the right
regroup : (a b c d e : List Written) → (((a ++ b) ++ c) ++ d) ++ e ≡ a ++ (b ++ (c ++ (d ++ e)))
regroup a b c d e = append_assoc ((a ++ b) ++ c) d e ∙ append_assoc (a ++ b) c (d ++ e) ∙ append_assoc a b (c ++ (d ++ e))

-- assignments don't begin with another mark than `{`
pairs_begin : (byte : ℕ) (pairs : List Pair) (rest ws : List Written) → eqb 123 byte ≡ false → fit.AreSome fit.IsFitPair pairs
    → not (is_mark byte (first_form ((between_commas spell.pair pairs ++ rest) ++ ws))) ≡ true
pairs_begin byte [] rest ws other f = absurd (omega (arith, f.some))
pairs_begin byte (p ∷ pairs) rest ws other f =
    let value : List Written = spell.mark 61 ∷ spell.expr p.value in
    let others : List Written = behind_commas spell.pair pairs in
    let begun = target_begins 64 p.target (value ++ (others ++ (rest ++ ws))) f.fit.each.0.0 in
    ap (λ (vs : List Written). not (is_mark byte (first_form vs))) (regroup (spell.target p.target) value others rest ws)
    ∙ ap not (target_no_mark byte (first_form (spell.target p.target ++ (value ++ (others ++ (rest ++ ws))))) other begun)

abbrev assign_parts : AssignItem → Location × (Option DriveStrength × (Option DelaySpec × (List Pair × Unit {0})))
assign_parts a = (a.location, (a.drive, (a.delay, (a.pairs, tt))))

-- `assign [ drive ] [ delay ] pair , .. ;`
pub assign_item_rule : Rule read.assign_item spell.assign_item fit.IsFitAssignItem anything
unfolding read.assign_item
assign_item_rule =
    refit_rule (map_rule (pair_rule (word_rule (codes "assign"))
    (pair_rule (optional_rule (sees_mark 40) drive_rule (λ x ws f. refl))
    (pair_rule (optional_rule (sees_mark 35) delay_spec_rule (λ x ws f. refl))
    (pair_rule (comma_list_rule assign_pair_rule pair_some (λ ws. refl)) (skip_rule 59)
    (λ y ws f g. refl))
    (λ y ws f g. pairs_begin 35 y.0 (spell.mark 59 ∷ []) ws refl f.0))
    (λ y ws f g. may_skip no_paren spell.delay_spec y.0 (between_commas spell.pair y.1.0 ++ spell.mark 59 ∷ []) ws (λ x. refl)
    (pairs_begin 40 y.1.0 (spell.mark 59 ∷ []) ws refl f.1.0)))
    (λ y ws f g. refl))
    read.assign_of assign_parts (λ b. refl) (λ a. refl))
    (λ x f. record { delay = f.1.1.0; pairs = f.1.1.1.0 })
    (λ x f. (tt, (free_if_there x.drive, (f.delay, (f.pairs, tt)))))
