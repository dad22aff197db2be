-- Descriptions that are written one behind the other are in the order of their first tokens.
use Rattle.std.proofs.Common.{◌≡◌, ◌≢◌, ℕ, suc, ◌+◌, ◌<◌, ◌≤◌, Bool, true, false, ltb, List, [], ◌∷◌, ◌++◌, length, map, refl, sym, ap, subst, ◌∙◌, arith, inl, inr, append_assoc}
use Rattle.std.specs.List.{AllByRecursion}
use Rattle.std.proofs.lemmas.Bool.{cases_Bool, ltb-true, ltb-false}
use Rattle.v_lexer.specs.declared.token.Token.{Token}
use Rattle.v_tree.specs.declared.modules.Description.{Description}
use Rattle.v_tree.specs.declared.modules.Description.TheVariants as described
use Rattle.v_tree.specs.declared.directives.Directive.TheVariants as directives
use Rattle.v_tree.specs.Written.{Spelled, AreWritten, one_by_one}
use Rattle.v_tree.specs.Spelling.{description}
use Rattle.v_tree.specs.Tree.{modules_among, udps_among, directives_among, token_of, insert, in_order, all_descriptions}

-- each begins behind the first token of the one before, the first at a number or later
abbrev pub Rise : ℕ → List Description → Type 0
Rise from [] = Unit {0}
Rise from (d ∷ ds) = (from ≤ token_of d) × Rise (suc (token_of d)) ds

-- ---- inserting

lt_true : (a b : ℕ) → a < b → ltb a b ≡ true
lt_true a b less =
    elim (cases_Bool (ltb a b)) [
      | inl e ↦ e
      | inr e ↦ absurd (omega (arith, ltb-false a b e))
    ]

lt_false : (a b : ℕ) → b ≤ a → ltb a b ≡ false
lt_false a b le =
    elim (cases_Bool (ltb a b)) [
      | inl e ↦ absurd (omega (arith, ltb-true a b e))
      | inr e ↦ e
    ]

insert_behind : (x z : Description) (zs : List Description) → ltb (token_of z) (token_of x) ≡ true → insert x (z ∷ zs) ≡ z ∷ insert x zs
insert_behind x z zs e = rw e refl

insert_before : (x z : Description) (zs : List Description) → ltb (token_of z) (token_of x) ≡ false → insert x (z ∷ zs) ≡ x ∷ z ∷ zs
insert_before x z zs e = rw e refl

-- the order in which two are inserted changes nothing
insert_swap : (x y : Description) (zs : List Description) → token_of x < token_of y → insert x (insert y zs) ≡ insert y (insert x zs)
insert_swap x y [] less =
    insert_before x y [] (lt_false (token_of y) (token_of x) (omega arith)) ∙ sym (insert_behind y x [] (lt_true (token_of x) (token_of y) less))
insert_swap x y (z ∷ zs) less = by (insert_swap x y zs less) (ltb (token_of z) (token_of x)) refl (ltb (token_of z) (token_of y)) refl
  where
    before : ltb (token_of x) (token_of y) ≡ true
    before = lt_true (token_of x) (token_of y) less

    behind : ltb (token_of y) (token_of x) ≡ false
    behind = lt_false (token_of y) (token_of x) (omega arith)

    by : insert x (insert y zs) ≡ insert y (insert x zs) → (a : Bool) → ltb (token_of z) (token_of x) ≡ a → (b : Bool) → ltb (token_of z) (token_of y) ≡ b → insert x (insert y (z ∷ zs)) ≡ insert y (insert x (z ∷ zs))
    by rest true e true f =
        ap (insert x) (insert_behind y z zs f) ∙ insert_behind x z (insert y zs) e ∙ ap (λ (ds : List Description). z ∷ ds) rest
        ∙ sym (insert_behind y z (insert x zs) f) ∙ ap (insert y) (sym (insert_behind x z zs e))
    by rest true e false f = absurd (omega (arith, ltb-true (token_of z) (token_of x) e, ltb-false (token_of z) (token_of y) f))
    by rest false e true f =
        ap (insert x) (insert_behind y z zs f) ∙ insert_before x z (insert y zs) e ∙ ap (λ (ds : List Description). x ∷ ds) (sym (insert_behind y z zs f))
        ∙ sym (insert_behind y x (z ∷ zs) before) ∙ ap (insert y) (sym (insert_before x z zs e))
    by rest false e false f =
        ap (insert x) (insert_before y z zs f) ∙ insert_before x y (z ∷ zs) behind ∙ ap (λ (ds : List Description). x ∷ ds) (sym (insert_before y z zs f))
        ∙ sym (insert_behind y x (z ∷ zs) before) ∙ ap (insert y) (sym (insert_before x z zs e))

-- two of different tokens
insert_either : (x y : Description) (zs : List Description) → token_of x ≢ token_of y → insert x (insert y zs) ≡ insert y (insert x zs)
insert_either x y zs other =
    elim (cases_Bool (ltb (token_of x) (token_of y))) [
      | inl e ↦ insert_swap x y zs (ltb-true (token_of x) (token_of y) e)
      | inr e ↦
          let more : token_of y < token_of x = omega (arith, ltb-false (token_of x) (token_of y) e, other) in
          sym (insert_swap y x zs more)
    ]

-- one that begins before all
insert_first : (d : Description) (ds : List Description) → Rise (suc (token_of d)) ds → insert d ds ≡ d ∷ ds
insert_first d [] rise = refl
insert_first d (e ∷ ds) rise = rw (lt_false (token_of e) (token_of d) (omega (arith, rise.0))) refl

-- ---- ordering

-- all begin at a number or later
abbrev AreFrom : ℕ → List Description → Type 0
AreFrom n ds = AllByRecursion (λ (d : Description). n ≤ token_of d) ds

-- one that begins before those around it can be put in last
in_order_last : (front back : List Description) (d : Description) → AreFrom (suc (token_of d)) front → in_order (front ++ (d ∷ back)) ≡ insert d (in_order (front ++ back))
in_order_last [] back d later = refl
in_order_last (e ∷ front) back d later =
    let other : token_of e ≢ token_of d = λ same. absurd (omega (arith, later.0, same)) in
    ap (insert e) (in_order_last front back d later.1) ∙ insert_either e d (in_order (front ++ back)) other

-- those that rise from a number begin there or later
rise_from : (from to : ℕ) (ds : List Description) → to ≤ from → Rise from ds → Rise to ds
rise_from from to [] le rise = tt
rise_from from to (d ∷ ds) le rise = (omega (arith, rise.0), rise.1)

modules_from : (from : ℕ) (ds : List Description) → Rise from ds → AreFrom from (map described.Module (modules_among ds))
modules_from from [] rise = tt
modules_from from (described.Module m ∷ ds) rise = (rise.0, modules_from from ds (rise_from (suc (token_of (described.Module m))) from ds (omega (arith, rise.0)) rise.1))
modules_from from (described.Udp u ∷ ds) rise = modules_from from ds (rise_from (suc (token_of (described.Udp u))) from ds (omega (arith, rise.0)) rise.1)
modules_from from (described.Directive d ∷ ds) rise = modules_from from ds (rise_from (suc (token_of (described.Directive d))) from ds (omega (arith, rise.0)) rise.1)

udps_from : (from : ℕ) (ds : List Description) → Rise from ds → AreFrom from (map described.Udp (udps_among ds))
udps_from from [] rise = tt
udps_from from (described.Module m ∷ ds) rise = udps_from from ds (rise_from (suc (token_of (described.Module m))) from ds (omega (arith, rise.0)) rise.1)
udps_from from (described.Udp u ∷ ds) rise = (rise.0, udps_from from ds (rise_from (suc (token_of (described.Udp u))) from ds (omega (arith, rise.0)) rise.1))
udps_from from (described.Directive d ∷ ds) rise = udps_from from ds (rise_from (suc (token_of (described.Directive d))) from ds (omega (arith, rise.0)) rise.1)

both_from : (n : ℕ) (a b : List Description) → AreFrom n a → AreFrom n b → AreFrom n (a ++ b)
both_from n [] b f g = g
both_from n (d ∷ a) b f g = (f.0, both_from n a b f.1 g)

-- descriptions that rise are those that are put together again from their kinds
pub ordered : (from : ℕ) (ds : List Description) → Rise from ds → in_order (all_descriptions (modules_among ds) (udps_among ds) (directives_among ds)) ≡ ds
ordered from [] rise = refl
ordered from (described.Module m ∷ ds) rise =
    ap (insert (described.Module m)) (ordered (suc (token_of (described.Module m))) ds rise.1) ∙ insert_first (described.Module m) ds rise.1
ordered from (described.Udp u ∷ ds) rise =
    let d : Description = described.Udp u in
    let ms : List Description = map described.Module (modules_among ds) in
    let others : List Description = map described.Udp (udps_among ds) ++ map described.Directive (directives_among ds) in
    in_order_last ms others d (modules_from (suc (token_of d)) ds rise.1) ∙ ap (insert d) (ordered (suc (token_of d)) ds rise.1) ∙ insert_first d ds rise.1
ordered from (described.Directive x ∷ ds) rise =
    let d : Description = described.Directive x in
    let ms : List Description = map described.Module (modules_among ds) in
    let us : List Description = map described.Udp (udps_among ds) in
    let xs : List Description = map described.Directive (directives_among ds) in
    ap in_order (sym (append_assoc ms us (d ∷ xs)))
    ∙ in_order_last (ms ++ us) xs d (both_from (suc (token_of d)) ms us (modules_from (suc (token_of d)) ds rise.1) (udps_from (suc (token_of d)) ds rise.1))
    ∙ ap (λ (all : List Description). insert d (in_order all)) (append_assoc ms us xs) ∙ ap (insert d) (ordered (suc (token_of d)) ds rise.1) ∙ insert_first d ds rise.1

-- ---- written descriptions

-- the rest of what is written, behind a first part
rest_written : (text : List ℕ) (number : ℕ) (tokens : List Token) (a b : List Spelled) → AreWritten text number tokens (a ++ b) → (rest : List Token) × AreWritten text (number + length a) rest b
rest_written text number tokens [] b h = (tokens, let same : number ≡ number + 0 = omega arith in subst (λ n. AreWritten text n tokens b) same h)
rest_written text number [] (s ∷ a) b h = absurd h
rest_written text number (token ∷ tokens) (s ∷ a) b h =
    let r = rest_written text (number + 1) tokens a b h.1 in
    let same : number + 1 + length a ≡ number + length (s ∷ a) = omega arith in
    (r.0, subst (λ n. AreWritten text n r.0 b) same r.1)

-- the first token of a description is the one with its number
first_token : (text : List ℕ) (number : ℕ) (tokens : List Token) (d : Description) (ss : List Spelled) → AreWritten text number tokens (description d ++ ss) → token_of d ≡ number
first_token text number [] (described.Module m) ss h = absurd h
first_token text number [] (described.Udp u) ss h = absurd h
first_token text number [] (described.Directive (directives.Timescale t)) ss h = absurd h
first_token text number [] (described.Directive (directives.DefaultNettype d)) ss h = absurd h
first_token text number [] (described.Directive (directives.Resetall l)) ss h = absurd h
first_token text number [] (described.Directive (directives.Cell c)) ss h = absurd h
first_token text number (token ∷ tokens) (described.Module m) ss h = ap (λ l. l.token) h.0.location
first_token text number (token ∷ tokens) (described.Udp u) ss h = ap (λ l. l.token) h.0.location
first_token text number (token ∷ tokens) (described.Directive (directives.Timescale t)) ss h = ap (λ l. l.token) h.0.location
first_token text number (token ∷ tokens) (described.Directive (directives.DefaultNettype d)) ss h = ap (λ l. l.token) h.0.location
first_token text number (token ∷ tokens) (described.Directive (directives.Resetall l)) ss h = ap (λ l. l.token) h.0.location
first_token text number (token ∷ tokens) (described.Directive (directives.Cell c)) ss h = ap (λ l. l.token) h.0.location

-- a description is written with something
pub description_some : (d : Description) → 0 < length (description d)
description_some (described.Module m) = omega arith
description_some (described.Udp u) = omega arith
description_some (described.Directive (directives.Timescale t)) = omega arith
description_some (described.Directive (directives.DefaultNettype d)) = omega arith
description_some (described.Directive (directives.Resetall l)) = omega arith
description_some (described.Directive (directives.Cell c)) = omega arith

-- descriptions that are written one behind the other rise
pub written_rise : (text : List ℕ) (number : ℕ) (tokens : List Token) (ds : List Description) (end : List Spelled) → AreWritten text number tokens (one_by_one description ds ++ end) → Rise number ds
written_rise text number tokens [] end h = tt
written_rise text number tokens (d ∷ ds) end h =
    let h' = subst (λ (ss : List Spelled). AreWritten text number tokens ss) (append_assoc (description d) (one_by_one description ds) end) h in
    let first : token_of d ≡ number = first_token text number tokens d (one_by_one description ds ++ end) h' in
    let r = rest_written text number tokens (description d) (one_by_one description ds ++ end) h' in
    (omega (arith, first), rise_from (number + length (description d)) (suc (token_of d)) ds (omega (arith, first, description_some d)) (written_rise text (number + length (description d)) r.0 ds end r.1))
