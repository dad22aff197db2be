-- Rules of drives, charges and delays.
use Rattle.std.proofs.Common.{◌≡◌, ◌<◌, true, not, List, [], ◌∷◌, ◌++◌, length, Option, Some, None, is_some, ◌⊎◌, inl, inr, refl, sym, ap, subst, ◌∙◌, arith}
use Rattle.std.proofs.lemmas.Option.{same_Some}
use Rattle.v_tree.specs.declared.locations.Location.{Location}
use Rattle.v_tree.specs.declared.drives.Level.{Level}
use Rattle.v_tree.specs.declared.drives.DriveStrength.{DriveStrength}
use Rattle.v_tree.specs.declared.drives.PullLevels.{PullLevels}
use Rattle.v_tree.specs.declared.drives.Charge.{Charge}
use Rattle.v_tree.specs.declared.drives.Amount.{Amount}
use Rattle.v_tree.specs.declared.drives.Amount.TheVariants as amounts
use Rattle.v_tree.specs.declared.drives.DelayValue.{DelayValue}
use Rattle.v_tree.specs.declared.drives.DelayValue.TheVariants.{One, Three}
use Rattle.v_tree.specs.declared.drives.Delay.{Delay}
use Rattle.v_tree.specs.declared.drives.Delay.TheVariants as delays
use Rattle.v_tree.specs.declared.drives.DelaySpec.{DelaySpec}
use Rattle.v_tree.specs.Written.{Form, Written, written_if_there}
use Rattle.v_tree.specs.Written as form
use Rattle.v_tree.specs.Fit as fit
use Rattle.v_tree.specs.Words as words
use Rattle.v_tree.specs.Spelling as spell
use Rattle.v_parser.specs.Input.{is_mark, ◌<$>◌, choice}
use Rattle.v_parser.specs.Expressions.{sees_mark}
use Rattle.v_parser.specs.Drives as read
use Rattle.v_parser.proofs.Rules.{Rule, Follow, anything, begins, first_form, bare_rule, map_rule, variant_rule, refit_rule, pair_rule, optional_rule, choice_rule, comma_list_rule}
use Rattle.v_parser.proofs.TokenRules.{mark_rule, skip_rule, bare_level_rule, bare_charge_rule, level_back}

-- a part that has nothing to keep keeps nothing where it isn't there
pub free_if_there : {A : Type 0} (o : Option A) → fit.IsFitIfThere fit.IsFree o
free_if_there None = tt
free_if_there (Some x) = tt

-- ---- levels

-- a level
pub level_rule : Rule read.level (λ l. spell.level l ∷ []) fit.IsFree anything
unfolding read.level
level_rule = bare_level_rule

abbrev drive_parts : DriveStrength → Location × (Level × (Unit {0} × (Level × Unit {0})))
drive_parts d = (d.location, (d.first, (tt, (d.second, tt))))

-- `( level , level )`
pub drive_rule : Rule read.drive spell.drive fit.IsFree anything
unfolding read.drive
drive_rule =
    refit_rule (map_rule (pair_rule (mark_rule 40) (pair_rule level_rule (pair_rule (skip_rule 44) (pair_rule level_rule (skip_rule 41)
    (λ y ws f g. refl)) (λ y ws f g. refl)) (λ y ws f g. refl)) (λ y ws f g. refl))
    read.drive_of drive_parts (λ b. refl) (λ a. refl))
    (λ x f. tt) (λ x f. (tt, (tt, (tt, (tt, tt)))))

abbrev second_parts : Level → Unit {0} × Level
second_parts l = (tt, l)

-- `, level`
second_level_rule : Rule read.second_level spell.second_level fit.IsFree anything
unfolding read.second_level
second_level_rule =
    refit_rule (map_rule (pair_rule (skip_rule 44) level_rule (λ y ws f g. refl)) (λ (z : Unit {0} × Level). z.1) second_parts (λ b. refl) (λ a. refl))
    (λ x f. tt) (λ x f. (tt, tt))

abbrev pull_parts : PullLevels → Location × (Level × (Option Level × Unit {0}))
pull_parts p = (p.location, (p.first, (p.second, tt)))

-- `( level )` or `( level , level )`
pub pull_levels_rule : Rule read.pull_levels spell.pull_levels fit.IsFree anything
unfolding read.pull_levels
pull_levels_rule =
    refit_rule (map_rule (pair_rule (mark_rule 40) (pair_rule level_rule (pair_rule (optional_rule (sees_mark 44) second_level_rule (λ x ws f. refl)) (skip_rule 41)
    (λ y ws f g. refl)) (λ y ws f g. refl)) (λ y ws f g. refl))
    read.pull_of pull_parts (λ b. refl) (λ a. refl))
    (λ x f. tt) (λ x f. (tt, (tt, (free_if_there x.second, tt))))

-- a drive begins with `(` and a level
pub drive_begins : (d : DriveStrength) (ws : List Written) → begins read.sees_drive (spell.drive d ++ ws) ≡ true
drive_begins d ws = ap is_some (level_back d.first)

-- levels of a pull begin with `(` and a level
pub pull_begins : (p : PullLevels) (ws : List Written) → begins read.sees_drive (spell.pull_levels p ++ ws) ≡ true
pull_begins p ws = ap is_some (level_back p.first)

-- ---- charges

-- a word for a charge
charge_word_rule : Rule read.charge_word (λ c. spell.word (words.charge_word c) ∷ []) fit.IsFree anything
unfolding read.charge_word
charge_word_rule = bare_charge_rule

abbrev charge_parts : Charge → Unit {0} × (Charge × Unit {0})
charge_parts c = (tt, (c, tt))

-- `( charge )`
pub charge_rule : Rule read.charge spell.charge fit.IsFree anything
unfolding read.charge
charge_rule =
    refit_rule (map_rule (pair_rule (skip_rule 40) (pair_rule charge_word_rule (skip_rule 41) (λ y ws f g. refl)) (λ y ws f g. refl))
    (λ (z : Unit {0} × (Charge × Unit {0})). z.1.0) charge_parts (λ b. refl) (λ a. refl))
    (λ x f. tt) (λ x f. (tt, (tt, tt)))

-- ---- delays

-- a token that is picked as an amount is that amount
amount_is : (f : Form) (x : Amount) → read.amount_in f ≡ Some x → f ≡ spell.amount_form x
amount_is (form.Number n) x e = ap spell.amount_form (same_Some (amounts.Number n) x e)
amount_is (form.Decimal digits) x e = ap spell.amount_form (same_Some (amounts.Decimal digits) x e)
amount_is f x e = absurd cc

-- an amount that was read fits
amount_fits : (f : Form) (x : Amount) → fit.IsSoundForm f → read.amount_in f ≡ Some x → fit.IsFitAmount x
amount_fits (form.Number n) x sound e = subst fit.IsFitAmount (same_Some (amounts.Number n) x e) sound
amount_fits (form.Decimal digits) x sound e = subst fit.IsFitAmount (same_Some (amounts.Decimal digits) x e) sound
amount_fits f x sound e = absurd cc

-- an amount is picked as itself
amount_back : (x : Amount) → read.amount_in (spell.amount_form x) ≡ Some x
amount_back (amounts.Number n) = refl
amount_back (amounts.Decimal digits) = refl

-- a number or a decimal
amount_rule : Rule read.amount (λ a. spell.amount a ∷ []) fit.IsFitAmount anything
unfolding read.amount
amount_rule = bare_rule read.amount_in spell.amount_form fit.IsFitAmount refl amount_is amount_fits (λ x f. amount_back x)

abbrev others : Amount × Amount → List Written
others z = spell.mark 58 ∷ spell.amount z.0 ∷ spell.mark 58 ∷ spell.amount z.1 ∷ []

abbrev AreAmounts : Amount × Amount → Type 0
AreAmounts z = fit.IsFitAmount z.0 × fit.IsFitAmount z.1

abbrev others_of : Unit {0} × (Amount × (Unit {0} × Amount)) → Amount × Amount
others_of z = (z.1.0, z.1.1.1)

abbrev others_parts : Amount × Amount → Unit {0} × (Amount × (Unit {0} × Amount))
others_parts z = (tt, (z.0, (tt, z.1)))

-- `: amount : amount`
other_values_rule : Rule read.other_values others AreAmounts anything
unfolding read.other_values
other_values_rule =
    refit_rule (map_rule (pair_rule (skip_rule 58) (pair_rule amount_rule (pair_rule (skip_rule 58) amount_rule (λ y ws f g. refl)) (λ y ws f g. refl)) (λ y ws f g. refl))
    others_of others_parts (λ b. refl) (λ a. refl))
    (λ x f. (f.1.0, f.1.1.1)) (λ x f. (tt, (f.0, (tt, f.1))))

-- no `:` is next
abbrev no_colon : Follow
no_colon ws = not (is_mark 58 (first_form ws))

abbrev value_of : Amount × Option (Amount × Amount) → DelayValue
value_of z = read.delay_value_with z.0 z.1

-- a value is written as its amounts
value_written : (n : Amount) (o : Option (Amount × Amount)) → spell.delay_value (value_of (n, o)) ≡ spell.amount n ∷ written_if_there others o
value_written n None = refl
value_written n (Some z) = refl

-- a value keeps what its amounts keep
value_fits : (n : Amount) (o : Option (Amount × Amount)) → fit.IsFitAmount n → fit.IsFitIfThere AreAmounts o → fit.IsFitDelayValue (value_of (n, o))
value_fits n None f g = f
value_fits n (Some z) f g = (f, g.0, g.1)

-- a value that fits is made of amounts that fit
value_from : (x : DelayValue) → fit.IsFitDelayValue x → (a : Amount × Option (Amount × Amount)) × (x ≡ value_of a) × (fit.IsFitAmount a.0 × fit.IsFitIfThere AreAmounts a.1)
value_from (One n) f = ((n, None), refl, (f, tt))
value_from (Three a b c) f = ((a, Some (b, c)), refl, (f.0, (f.1, f.2)))

-- an amount, or three with `:` between
delay_value_rule : Rule read.delay_value spell.delay_value fit.IsFitDelayValue no_colon
unfolding read.delay_value
delay_value_rule =
    refit_rule (variant_rule (pair_rule amount_rule (optional_rule (sees_mark 58) other_values_rule (λ x ws f. refl)) (λ y ws f g. refl))
    value_of spell.delay_value (λ a. value_written a.0 a.1))
    (λ x f. subst fit.IsFitDelayValue (sym f.1) (value_fits f.0.0 f.0.1 f.2.0 f.2.1))
    value_from

-- a value is written with something
value_some : (x : DelayValue) → fit.IsFitDelayValue x → 0 < length (spell.delay_value x)
value_some (One n) f = omega arith
value_some (Three a b c) f = omega arith

abbrev AreValues : Delay → Type 0
AreValues x = (z : Unit {0} × (List DelayValue × Unit {0})) × (x ≡ delays.Values z.1.0) × (Unit {0} × (fit.AreSome fit.IsFitDelayValue z.1.0 × Unit {0}))

-- `( value , .. )`
delay_values_rule : Rule read.delay_values spell.delay AreValues anything
unfolding read.delay_values
delay_values_rule =
    variant_rule (pair_rule (skip_rule 40) (pair_rule (comma_list_rule delay_value_rule value_some (λ ws. refl)) (skip_rule 41) (λ y ws f g. refl)) (λ y ws f g. refl))
    (λ (z : Unit {0} × (List DelayValue × Unit {0})). delays.Values z.1.0) spell.delay (λ a. refl)

abbrev IsOneAmount : Delay → Type 0
IsOneAmount x = (a : Amount) × (x ≡ delays.Amount a) × fit.IsFitAmount a

-- a delay that was read fits
delay_fits : (x : Delay) → IsOneAmount x ⊎ AreValues x → fit.IsFitDelay x
delay_fits x (inl f) = subst fit.IsFitDelay (sym f.1) f.2
delay_fits x (inr f) = subst fit.IsFitDelay (sym f.1) f.2.1.0

-- a delay that fits is one of the two
delay_from : (x : Delay) → fit.IsFitDelay x → IsOneAmount x ⊎ AreValues x
delay_from (delays.Amount a) f = inl (a, refl, f)
delay_from (delays.Values values) f = inr ((tt, (values, tt)), refl, (tt, (f, tt)))

-- an amount or values
delay_rule : Rule (choice read.sees_amount (delays.Amount <$> read.amount) read.delay_values) spell.delay fit.IsFitDelay anything
delay_rule =
    refit_rule (choice_rule read.sees_amount (variant_rule amount_rule delays.Amount spell.delay (λ a. refl)) delay_values_rule
    (λ x ws f g. ap (λ (d : Delay). begins read.sees_amount (spell.delay d ++ ws)) f.1 ∙ ap is_some (amount_back f.0))
    (λ x ws f g. ap (λ (d : Delay). begins read.sees_amount (spell.delay d ++ ws)) f.1))
    delay_fits delay_from

abbrev spec_parts : DelaySpec → Location × Delay
spec_parts d = (d.location, d.delay)

-- `# amount` or `# ( value , .. )`
pub delay_spec_rule : Rule read.delay_spec spell.delay_spec fit.IsFitDelaySpec anything
unfolding read.delay_spec
delay_spec_rule =
    refit_rule (map_rule (pair_rule (mark_rule 35) delay_rule (λ y ws f g. refl)) read.delay_of spec_parts (λ b. refl) (λ a. refl))
    (λ x f. f.1) (λ x f. (tt, f))
