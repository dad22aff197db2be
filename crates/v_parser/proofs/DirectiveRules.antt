-- Rules of directives.
use Rattle.std.proofs.Common.{◌≡◌, ℕ, zero, suc, ◌<◌, ◌≤◌, ℤ, pos, negsuc, Bool, true, false, eqb, if◌then◌else◌, List, [], ◌∷◌, ◌++◌, codes, Option, Some, None, ◌⊎◌, inl, inr, refl, sym, ap, subst, ◌∙◌, arith, rules}
use Rattle.std.specs.Int.Signed.{le_z_yes}
use Rattle.std.specs.Option.{option_map}
use Rattle.std.specs.Str.{bytes_eq}
use Rattle.std.proofs.lemmas.Bool.{eqb-true}
use Rattle.std.proofs.lemmas.Slice.Eq.{bytes_eq-Decides}
use Rattle.std.proofs.lemmas.Option.{same_Some}
use Rattle.v_tree.specs.declared.locations.Location.{Location}
use Rattle.v_tree.specs.declared.directives.CellDirective.{CellDirective}
use Rattle.v_tree.specs.declared.directives.CellWord.{CellWord}
use Rattle.v_tree.specs.declared.directives.CellWord.TheVariants as cells
use Rattle.v_tree.specs.declared.directives.Timescale.{Timescale}
use Rattle.v_tree.specs.declared.directives.ImplicitNetType.{ImplicitNetType}
use Rattle.v_tree.specs.declared.directives.ImplicitNetType.TheVariants as implicit
use Rattle.v_tree.specs.declared.directives.DefaultNettype.{DefaultNettype}
use Rattle.v_tree.specs.declared.directives.Directive.{Directive}
use Rattle.v_tree.specs.declared.directives.Directive.TheVariants as directives
use Rattle.v_tree.specs.Written.{Form, Written, bare}
use Rattle.v_tree.specs.Written as form
use Rattle.v_tree.specs.Fit as fit
use Rattle.v_tree.specs.Words as words
use Rattle.v_tree.specs.Spelling as spell
use Rattle.v_parser.specs.declared.directives.ScaleFactor.{ScaleFactor}
use Rattle.v_parser.specs.declared.directives.ScaleFactor.TheVariants.{One, Ten, Hundred}
use Rattle.v_parser.specs.declared.directives.TimeUnit.{TimeUnit}
use Rattle.v_parser.specs.declared.directives.TimeUnit.TheVariants as units
use Rattle.v_parser.specs.Directives.{sees_directive, cell_of, cell_table, cell_in, factor_of, factor_in, unit_of, unit_table, unit_in, power_of, scale_of, implicit_of, implicit_table, none_of, default_in}
use Rattle.v_parser.specs.Directives as read
use Rattle.v_parser.proofs.Rules.{Rule, anything, begins, token_rule, bare_rule, map_rule, variant_rule, refit_rule, pair_rule, choice_rule}
use Rattle.v_parser.proofs.TokenRules.{word_entry_is, skip_rule, directive_word_rule}

-- ---- cells

-- the directive of a cell's word
cell_named : (bytes : List ℕ) (x : CellWord) → cell_of bytes ≡ Some x → bytes ≡ words.cell_word x
unfolding cell_of cell_table
cell_named bytes x e = word_entry_is words.cell_word cell_table bytes x e (refl, (refl, tt))

-- each word stands for itself
pub cell_back : (x : CellWord) → cell_of (words.cell_word x) ≡ Some x
unfolding cell_of cell_table
cell_back cells.Celldefine = refl
cell_back cells.Endcelldefine = refl

-- a token that is picked as a cell's word is that directive
cell_is : (f : Form) (x : CellWord) → cell_in f ≡ Some x → f ≡ form.Directive (words.cell_word x)
cell_is (form.Directive d) x e = ap form.Directive (cell_named d x e)
cell_is f x e = absurd cc

abbrev cell_parts : CellDirective → CellWord × Location
cell_parts c = (c.word, c.location)

-- `` `celldefine `` or `` `endcelldefine ``
pub cell_rule : Rule read.cell spell.cell fit.IsFree anything
unfolding read.cell
cell_rule =
    map_rule (token_rule cell_in (λ c. form.Directive (words.cell_word c)) fit.IsFree refl cell_is (λ f x sound e. tt) (λ x free. cell_back x))
    read.cell_with cell_parts (λ b. refl) (λ a. refl)

-- ---- scales

-- the number of a factor
abbrev count_of : ScaleFactor → ℕ
count_of One = 1
count_of Ten = 10
count_of Hundred = 100

-- a number that stands for a factor is that factor's
factor_named : (n : ℕ) (x : ScaleFactor) → factor_of n ≡ Some x → n ≡ count_of x
unfolding factor_of
factor_named n x e = one (eqb n 1) refl e
  where
    hundred : (b : Bool) → eqb n 100 ≡ b → (if b then Some Hundred else None) ≡ Some x → n ≡ count_of x
    hundred true is f = eqb-true n 100 is ∙ ap count_of (same_Some Hundred x f)
    hundred false is f = absurd cc

    ten : (b : Bool) → eqb n 10 ≡ b → (if b then Some Ten else if eqb n 100 then Some Hundred else None) ≡ Some x → n ≡ count_of x
    ten true is f = eqb-true n 10 is ∙ ap count_of (same_Some Ten x f)
    ten false is f = hundred (eqb n 100) refl f

    one : (b : Bool) → eqb n 1 ≡ b → (if b then Some One else if eqb n 10 then Some Ten else if eqb n 100 then Some Hundred else None) ≡ Some x → n ≡ count_of x
    one true is f = eqb-true n 1 is ∙ ap count_of (same_Some One x f)
    one false is f = ten (eqb n 10) refl f

-- a token that is picked as a factor is its number
factor_is : (f : Form) (x : ScaleFactor) → factor_in f ≡ Some x → f ≡ form.Number (count_of x)
factor_is (form.Number n) x e = ap form.Number (factor_named n x e)
factor_is f x e = absurd cc

factor_back : (x : ScaleFactor) → factor_of (count_of x) ≡ Some x
unfolding factor_of
factor_back One = refl
factor_back Ten = refl
factor_back Hundred = refl

-- 1, 10 or 100
factor_rule : Rule read.factor (λ x. spell.number (count_of x) ∷ []) fit.IsFree anything
unfolding read.factor
factor_rule = bare_rule factor_in (λ x. form.Number (count_of x)) fit.IsFree refl factor_is (λ f x sound e. tt) (λ x free. factor_back x)

-- the name of a unit
abbrev name_of : TimeUnit → List ℕ
name_of units.Second = codes "s"
name_of units.Millisecond = codes "ms"
name_of units.Microsecond = codes "us"
name_of units.Nanosecond = codes "ns"
name_of units.Picosecond = codes "ps"
name_of units.Femtosecond = codes "fs"

unit_named : (name : List ℕ) (x : TimeUnit) → unit_of name ≡ Some x → name ≡ name_of x
unfolding unit_of unit_table
unit_named name x e = word_entry_is name_of unit_table name x e (refl, (refl, (refl, (refl, (refl, (refl, tt))))))

unit_back : (x : TimeUnit) → unit_of (name_of x) ≡ Some x
unfolding unit_of unit_table
unit_back units.Second = refl
unit_back units.Millisecond = refl
unit_back units.Microsecond = refl
unit_back units.Nanosecond = refl
unit_back units.Picosecond = refl
unit_back units.Femtosecond = refl

-- a token that is picked as a unit is its name
unit_is : (f : Form) (x : TimeUnit) → unit_in f ≡ Some x → f ≡ form.Name (name_of x)
unit_is (form.Name name) x e = ap form.Name (unit_named name x e)
unit_is f x e = absurd cc

-- the name of a unit
unit_rule : Rule read.unit (λ x. bare (form.Name (name_of x)) ∷ []) fit.IsFree anything
unfolding read.unit
unit_rule = bare_rule unit_in (λ x. form.Name (name_of x)) fit.IsFree refl unit_is (λ f x sound e. tt) (λ x free. unit_back x)

-- a scale is written as its factor and its unit
scale_written : (f : ScaleFactor) (u : TimeUnit) → spell.scale (power_of f u) ≡ spell.number (count_of f) ∷ bare (form.Name (name_of u)) ∷ []
scale_written One units.Second = refl
scale_written Ten units.Second = refl
scale_written Hundred units.Second = refl
scale_written One units.Millisecond = refl
scale_written Ten units.Millisecond = refl
scale_written Hundred units.Millisecond = refl
scale_written One units.Microsecond = refl
scale_written Ten units.Microsecond = refl
scale_written Hundred units.Microsecond = refl
scale_written One units.Nanosecond = refl
scale_written Ten units.Nanosecond = refl
scale_written Hundred units.Nanosecond = refl
scale_written One units.Picosecond = refl
scale_written Ten units.Picosecond = refl
scale_written Hundred units.Picosecond = refl
scale_written One units.Femtosecond = refl
scale_written Ten units.Femtosecond = refl
scale_written Hundred units.Femtosecond = refl

-- the power is from -15 to 2
scale_fits : (f : ScaleFactor) (u : TimeUnit) → fit.IsScale (power_of f u)
scale_fits One units.Second = record { low = le_z_yes tt; high = le_z_yes tt }
scale_fits Ten units.Second = record { low = le_z_yes tt; high = le_z_yes tt }
scale_fits Hundred units.Second = record { low = le_z_yes tt; high = le_z_yes tt }
scale_fits One units.Millisecond = record { low = le_z_yes tt; high = le_z_yes tt }
scale_fits Ten units.Millisecond = record { low = le_z_yes tt; high = le_z_yes tt }
scale_fits Hundred units.Millisecond = record { low = le_z_yes tt; high = le_z_yes tt }
scale_fits One units.Microsecond = record { low = le_z_yes tt; high = le_z_yes tt }
scale_fits Ten units.Microsecond = record { low = le_z_yes tt; high = le_z_yes tt }
scale_fits Hundred units.Microsecond = record { low = le_z_yes tt; high = le_z_yes tt }
scale_fits One units.Nanosecond = record { low = le_z_yes tt; high = le_z_yes tt }
scale_fits Ten units.Nanosecond = record { low = le_z_yes tt; high = le_z_yes tt }
scale_fits Hundred units.Nanosecond = record { low = le_z_yes tt; high = le_z_yes tt }
scale_fits One units.Picosecond = record { low = le_z_yes tt; high = le_z_yes tt }
scale_fits Ten units.Picosecond = record { low = le_z_yes tt; high = le_z_yes tt }
scale_fits Hundred units.Picosecond = record { low = le_z_yes tt; high = le_z_yes tt }
scale_fits One units.Femtosecond = record { low = le_z_yes tt; high = le_z_yes tt }
scale_fits Ten units.Femtosecond = record { low = le_z_yes tt; high = le_z_yes tt }
scale_fits Hundred units.Femtosecond = record { low = le_z_yes tt; high = le_z_yes tt }

-- a fact of each number below a bound
abbrev AllBelow : ℕ → (ℕ → Type 0) → Type 0
AllBelow zero P = Unit {0}
AllBelow (suc n) P = P 0 × AllBelow n (λ k. P (suc k))

below : (n : ℕ) (P : ℕ → Type 0) → AllBelow n P → (k : ℕ) → k < n → P k
below zero P all k less = absurd (omega arith)
below (suc n) P all zero less = all.0
below (suc n) P all (suc k) less = below n (λ m. P (suc m)) all.1 k (omega arith)

-- a power is that of a factor and a unit
abbrev IsMade : ℤ → Type 0
IsMade power = (z : ScaleFactor × TimeUnit) × (power ≡ scale_of z) × (Unit {0} × Unit {0})

whole_made : AllBelow 3 (λ n. IsMade (pos n))
whole_made = (((One, units.Second), refl, (tt, tt)), (((Ten, units.Second), refl, (tt, tt)), (((Hundred, units.Second), refl, (tt, tt)), tt)))

part_made : AllBelow 15 (λ n. IsMade (negsuc n))
part_made = (
  ((Hundred, units.Millisecond), refl, (tt, tt)),
  (
    ((Ten, units.Millisecond), refl, (tt, tt)),
    (
      ((One, units.Millisecond), refl, (tt, tt)),
      (
        ((Hundred, units.Microsecond), refl, (tt, tt)),
        (
          ((Ten, units.Microsecond), refl, (tt, tt)),
          (
            ((One, units.Microsecond), refl, (tt, tt)),
            (
              ((Hundred, units.Nanosecond), refl, (tt, tt)),
              (
                ((Ten, units.Nanosecond), refl, (tt, tt)),
                (
                  ((One, units.Nanosecond), refl, (tt, tt)),
                  (
                    ((Hundred, units.Picosecond), refl, (tt, tt)),
                    (
                      ((Ten, units.Picosecond), refl, (tt, tt)),
                      (
                        ((One, units.Picosecond), refl, (tt, tt)),
                        (((Hundred, units.Femtosecond), refl, (tt, tt)), (((Ten, units.Femtosecond), refl, (tt, tt)), (((One, units.Femtosecond), refl, (tt, tt)), tt))),
                      ),
                    ),
                  ),
                ),
              ),
            ),
          ),
        ),
      ),
    ),
  ),
)

scale_from : (power : ℤ) → fit.IsScale power → IsMade power
scale_from (pos n) f = below 3 (λ k. IsMade (pos k)) whole_made n (let le : n ≤ 2 = search (rules, f.high.le) in omega arith)
scale_from (negsuc n) f = below 15 (λ k. IsMade (negsuc k)) part_made n (let le : n ≤ 14 = search (rules, f.low.le) in omega arith)

-- a number and a unit
scale_rule : Rule read.scale spell.scale fit.IsScale anything
unfolding read.scale
scale_rule =
    refit_rule (variant_rule (pair_rule factor_rule unit_rule (λ y ws f g. refl)) scale_of spell.scale (λ a. scale_written a.0 a.1))
    (λ x f. subst fit.IsScale (sym f.1) (scale_fits f.0.0 f.0.1)) scale_from

abbrev timescale_parts : Timescale → Location × (ℤ × (Unit {0} × ℤ))
timescale_parts t = (t.location, (t.unit, (tt, t.precision)))

-- `` `timescale unit / precision ``
timescale_rule : Rule read.timescale spell.timescale fit.IsFitTimescale anything
unfolding read.timescale
timescale_rule =
    refit_rule (map_rule (pair_rule (directive_word_rule (codes "`timescale"))
    (pair_rule scale_rule (pair_rule (skip_rule 47) scale_rule (λ y ws f g. refl)) (λ y ws f g. refl)) (λ y ws f g. refl))
    read.timescale_of timescale_parts (λ b. refl) (λ a. refl))
    (λ x f. record { unit = f.1.0; precision = f.1.1.1 }) (λ x f. (tt, (f.unit, (tt, f.precision))))

-- ---- the type of implicit nets

implicit_named : (word : List ℕ) (x : ImplicitNetType) → implicit_of word ≡ Some x → word ≡ words.implicit_net_type_word x
unfolding implicit_of implicit_table
implicit_named word x e = word_entry_is words.implicit_net_type_word implicit_table word x e (refl, (refl, (refl, (refl, (refl, (refl, (refl, (refl, (refl, tt)))))))))

implicit_back : (x : ImplicitNetType) → implicit_of (words.implicit_net_type_word x) ≡ Some x
unfolding implicit_of implicit_table
implicit_back implicit.Wire = refl
implicit_back implicit.Tri = refl
implicit_back implicit.Tri0 = refl
implicit_back implicit.Tri1 = refl
implicit_back implicit.Wand = refl
implicit_back implicit.Triand = refl
implicit_back implicit.Wor = refl
implicit_back implicit.Trior = refl
implicit_back implicit.Trireg = refl

-- a name that stands for no type is `none`
none_named : (name : List ℕ) (x : Option ImplicitNetType) → none_of name ≡ Some x → form.Name name ≡ spell.default_form x
unfolding none_of
none_named name x e = by (bytes_eq name (codes "none")) (bytes_eq-Decides name (codes "none")).0 e
  where
    by : (b : Bool) → (b ≡ true → name ≡ codes "none") → (if b then Some None else None) ≡ Some x → form.Name name ≡ spell.default_form x
    by true same f =
        let none : Option ImplicitNetType = None in
        ap form.Name (same refl) ∙ ap spell.default_form (same_Some none x f)
    by false same f = absurd cc

-- a word that stands for a type is that type's
type_named : (word : List ℕ) (o : Option ImplicitNetType) (x : Option ImplicitNetType) → implicit_of word ≡ o → option_map Some o ≡ Some x → form.Word word ≡ spell.default_form x
type_named word None x is e = absurd cc
type_named word (Some t) x is e =
    let some : Option ImplicitNetType = Some t in
    ap form.Word (implicit_named word t is) ∙ ap spell.default_form (same_Some some x e)

-- a token that is picked as a default is its word or `none`
default_is : (f : Form) (x : Option ImplicitNetType) → default_in f ≡ Some x → f ≡ spell.default_form x
default_is (form.Word word) x e = type_named word (implicit_of word) x refl e
default_is (form.Name name) x e = none_named name x e
default_is f x e = absurd cc

default_back : (x : Option ImplicitNetType) → default_in (spell.default_form x) ≡ Some x
unfolding none_of
default_back None = refl
default_back (Some t) = ap (λ (o : Option ImplicitNetType). option_map Some o) (implicit_back t)

-- a type or `none`
default_rule : Rule read.default (λ x. bare (spell.default_form x) ∷ []) fit.IsFree anything
unfolding read.default
default_rule = bare_rule default_in spell.default_form fit.IsFree refl default_is (λ f x sound e. tt) (λ x free. default_back x)

abbrev default_parts : DefaultNettype → Location × Option ImplicitNetType
default_parts d = (d.location, d.net_type)

-- `` `default_nettype `` and a type or `none`
default_nettype_rule : Rule read.default_nettype spell.default_nettype fit.IsFree anything
unfolding read.default_nettype
default_nettype_rule =
    refit_rule (map_rule (pair_rule (directive_word_rule (codes "`default_nettype")) default_rule (λ y ws f g. refl)) read.default_nettype_of default_parts (λ b. refl) (λ a. refl))
    (λ x f. tt) (λ x f. (tt, tt))

-- ---- directives

abbrev IsTimescale : Directive → Type 0
IsTimescale x = (t : Timescale) × (x ≡ directives.Timescale t) × fit.IsFitTimescale t

abbrev IsDefault : Directive → Type 0
IsDefault x = (d : DefaultNettype) × (x ≡ directives.DefaultNettype d) × Unit {0}

abbrev IsReset : Directive → Type 0
IsReset x = (l : Location) × (x ≡ directives.Resetall l) × Unit {0}

abbrev IsCell : Directive → Type 0
IsCell x = (c : CellDirective) × (x ≡ directives.Cell c) × Unit {0}

-- another word than those of cells begins no cell
cell_other : (word : CellWord) → (bytes_eq (words.cell_word word) (codes "`resetall") ≡ false) × (bytes_eq (words.cell_word word) (codes "`default_nettype") ≡ false) × (bytes_eq (words.cell_word word) (codes "`timescale") ≡ false)
cell_other cells.Celldefine = (refl, refl, refl)
cell_other cells.Endcelldefine = (refl, refl, refl)

-- `` `resetall ``, or a cell
resets_rule : Rule read.resets spell.directive (λ x. IsReset x ⊎ IsCell x) anything
unfolding read.resets
resets_rule =
    choice_rule (sees_directive (codes "`resetall")) (variant_rule (directive_word_rule (codes "`resetall")) directives.Resetall spell.directive (λ a. refl))
    (variant_rule cell_rule directives.Cell spell.directive (λ a. refl))
    (λ x ws f g. ap (λ (d : Directive). begins (sees_directive (codes "`resetall")) (spell.directive d ++ ws)) f.1)
    (λ x ws f g. ap (λ (d : Directive). begins (sees_directive (codes "`resetall")) (spell.directive d ++ ws)) f.1 ∙ (cell_other f.0.word).0)

-- no type of implicit nets
default_seen : (x : Directive) (ws : List Written) → IsReset x ⊎ IsCell x → begins (sees_directive (codes "`default_nettype")) (spell.directive x ++ ws) ≡ false
default_seen x ws (inl f) = ap (λ (d : Directive). begins (sees_directive (codes "`default_nettype")) (spell.directive d ++ ws)) f.1
default_seen x ws (inr f) = ap (λ (d : Directive). begins (sees_directive (codes "`default_nettype")) (spell.directive d ++ ws)) f.1 ∙ (cell_other f.0.word).1

-- the type of implicit nets, or what comes later
defaults_rule : Rule read.defaults spell.directive (λ x. IsDefault x ⊎ (IsReset x ⊎ IsCell x)) anything
unfolding read.defaults
defaults_rule =
    choice_rule (sees_directive (codes "`default_nettype")) (variant_rule default_nettype_rule directives.DefaultNettype spell.directive (λ a. refl)) resets_rule
    (λ x ws f g. ap (λ (d : Directive). begins (sees_directive (codes "`default_nettype")) (spell.directive d ++ ws)) f.1)
    (λ x ws f g. default_seen x ws f)

-- no scale
timescale_seen : (x : Directive) (ws : List Written) → IsDefault x ⊎ (IsReset x ⊎ IsCell x) → begins (sees_directive (codes "`timescale")) (spell.directive x ++ ws) ≡ false
timescale_seen x ws (inl f) = ap (λ (d : Directive). begins (sees_directive (codes "`timescale")) (spell.directive d ++ ws)) f.1
timescale_seen x ws (inr (inl f)) = ap (λ (d : Directive). begins (sees_directive (codes "`timescale")) (spell.directive d ++ ws)) f.1
timescale_seen x ws (inr (inr f)) = ap (λ (d : Directive). begins (sees_directive (codes "`timescale")) (spell.directive d ++ ws)) f.1 ∙ (cell_other f.0.word).2

-- a directive that was read fits
directive_fits : (x : Directive) → IsTimescale x ⊎ (IsDefault x ⊎ (IsReset x ⊎ IsCell x)) → fit.IsFitDirective x
directive_fits x (inl f) = subst fit.IsFitDirective (sym f.1) f.2
directive_fits x (inr (inl f)) = subst fit.IsFitDirective (sym f.1) tt
directive_fits x (inr (inr (inl f))) = subst fit.IsFitDirective (sym f.1) tt
directive_fits x (inr (inr (inr f))) = subst fit.IsFitDirective (sym f.1) tt

-- a directive that fits is one of the four
directive_from : (x : Directive) → fit.IsFitDirective x → IsTimescale x ⊎ (IsDefault x ⊎ (IsReset x ⊎ IsCell x))
directive_from (directives.Timescale t) f = inl (t, refl, f)
directive_from (directives.DefaultNettype d) f = inr (inl (d, refl, tt))
directive_from (directives.Resetall l) f = inr (inr (inl (l, refl, tt)))
directive_from (directives.Cell c) f = inr (inr (inr (c, refl, tt)))

-- a directive
pub directive_rule : Rule read.directive spell.directive fit.IsFitDirective anything
unfolding read.directive
directive_rule =
    refit_rule (choice_rule (sees_directive (codes "`timescale")) (variant_rule timescale_rule directives.Timescale spell.directive (λ a. refl)) defaults_rule
    (λ x ws f g. ap (λ (d : Directive). begins (sees_directive (codes "`timescale")) (spell.directive d ++ ws)) f.1)
    (λ x ws f g. timescale_seen x ws f))
    directive_fits directive_from
