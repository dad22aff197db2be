-- Lists in which nothing stands twice, by a test of what is the same.
use Rattle.std.proofs.Common.{◌≡◌, ℕ, ◌+◌, ◌<◌, Bool, true, false, not, ◌&&◌, ◌||◌, eqb, List, [], ◌∷◌, ◌++◌, length, get_or, take, drop, refl, sym, ap, subst, ◌∙◌, inl, inr, ◌≤◌, Some, None, if◌then◌else◌}
use Rattle.std.specs.List.{list_any}
use Rattle.std.proofs.lemmas.Bool.{and_parts, and_from, and_cases, and_left, and_right, or_cases, or_parts, or_left, or_right, not-true, not-false, not_from_true, not_from_false, false_from_ne_true, both_ways, eqb-true, eq-eqb}
use Rattle.std.proofs.lemmas.List.{take_more, take-append-drop, take_all}
use Rattle.std.proofs.lemmas.List.Folds.{list_any-append}
use Rattle.std.proofs.lemmas.Slice.Eq.{bytes_eq-Decides}
use Rattle.name_table.specs.Names.{same_name, is_among, is_distinct}
use Rattle.first_netlist.specs.Meaning.{distinct_names, is_apart}

module _ {A : Type 0} (same : A → A → Bool) where
  -- nothing stands twice
  abbrev pub apart : List A → Bool
  apart [] = true
  apart (x ∷ xs) = not (list_any (same x) xs) && apart xs

  -- what stands twice at the front stands twice
  pub apart-front : (xs ys : List A) → apart xs ≡ false → apart (xs ++ ys) ≡ false
  apart-front [] ys h = absurd (both_ways true h refl)
  apart-front (x ∷ xs) ys h =
      elim (and_cases (not (list_any (same x) xs)) (apart xs) h) [
        | inl e ↦ and_left (not (list_any (same x) (xs ++ ys))) (apart (xs ++ ys)) (not_from_true (list_any (same x) (xs ++ ys)) (list_any-append (same x) xs ys ∙ or_left (list_any (same x) xs) (list_any (same x) ys) (not-false (list_any (same x) xs) e)))
        | inr e ↦ and_right (not (list_any (same x) (xs ++ ys))) (apart (xs ++ ys)) (apart-front xs ys e)
      ]

  module _ (flip : (a b : A) → same a b ≡ true → same b a ≡ true) where
    -- one more that is there
    pub apart-again : (xs : List A) (y : A) → list_any (same y) xs ≡ true → apart (xs ++ y ∷ []) ≡ false
    apart-again [] y h = absurd (both_ways false refl h)
    apart-again (x ∷ xs) y h =
        elim (or_cases (same y x) (list_any (same y) xs) h) [
          | inl e ↦ and_left (not (list_any (same x) (xs ++ y ∷ []))) (apart (xs ++ y ∷ [])) (not_from_true (list_any (same x) (xs ++ y ∷ [])) (list_any-append (same x) xs (y ∷ []) ∙ or_right (list_any (same x) xs) (same x y || false) (or_left (same x y) false (flip y x e))))
          | inr e ↦ and_right (not (list_any (same x) (xs ++ y ∷ []))) (apart (xs ++ y ∷ [])) (apart-again xs y e)
        ]

    -- one more that is not there
    pub apart-push : (xs : List A) (y : A) → apart xs ≡ true → list_any (same y) xs ≡ false → apart (xs ++ y ∷ []) ≡ true
    apart-push [] y h absent = refl
    apart-push (x ∷ xs) y h absent =
        let parts = and_parts (not (list_any (same x) xs)) (apart xs) h in
        let others = or_parts (same y x) (list_any (same y) xs) absent in
        let other : same x y ≡ false = false_from_ne_true (same x y) (λ e. both_ways (same y x) others.0 (flip x y e)) in
        let none : list_any (same x) (xs ++ y ∷ []) ≡ false = list_any-append (same x) xs (y ∷ []) ∙ rw (not-true (list_any (same x) xs) parts.0, other) refl in
        and_from (not (list_any (same x) (xs ++ y ∷ []))) (apart (xs ++ y ∷ [])) (not_from_false (list_any (same x) (xs ++ y ∷ [])) none) (apart-push xs y parts.1 others.1)

    -- a loop that meets one that is there
    pub apart_repeated : (xs : List A) (i : ℕ) (d : A) → i < length xs → list_any (same (get_or xs i d)) (take i xs) ≡ true → apart xs ≡ false
    apart_repeated xs i d lt again =
        let front : apart (take (i + 1) xs) ≡ false = rw (take_more xs i d lt) (apart-again (take i xs) (get_or xs i d) again) in
        subst (λ (ys : List A). apart ys ≡ false) (take-append-drop (i + 1) xs) (apart-front (take (i + 1) xs) (drop (i + 1) xs) front)

same_flip : (a b : List ℕ) → same_name a b ≡ true → same_name b a ≡ true
same_flip a b e = (bytes_eq-Decides b a).1 (sym ((bytes_eq-Decides a b).0 e))

pub is_among-any : (name : List ℕ) (names : List (List ℕ)) → is_among name names ≡ list_any (same_name name) names
is_among-any name [] = refl
is_among-any name (other ∷ names) = ap (λ b. same_name name other || b) (is_among-any name names)

pub is_distinct-apart : (names : List (List ℕ)) → is_distinct names ≡ apart same_name names
is_distinct-apart [] = refl
is_distinct-apart (name ∷ names) = rw (is_among-any name names, is_distinct-apart names) refl

pub distinct_push : (names : List (List ℕ)) (name : List ℕ) → is_distinct names ≡ true → is_among name names ≡ false → is_distinct (names ++ name ∷ []) ≡ true
distinct_push names name h absent =
    is_distinct-apart (names ++ name ∷ []) ∙ apart-push same_name same_flip names name (sym (is_distinct-apart names) ∙ h) (sym (is_among-any name names) ∙ absent)

pub distinct_repeated : (names : List (List ℕ)) (i : ℕ) (d : List ℕ) → i < length names → is_among (get_or names i d) (take i names) ≡ true → is_distinct names ≡ false
distinct_repeated names i d lt again =
    is_distinct-apart names ∙ apart_repeated same_name same_flip names i d lt (sym (is_among-any (get_or names i d) (take i names)) ∙ again)

eqb_flip : (a b : ℕ) → eqb a b ≡ true → eqb b a ≡ true
eqb_flip a b e = eq-eqb b a (sym (eqb-true a b e))

pub is_apart-apart : (ns : List ℕ) → is_apart ns ≡ apart eqb ns
is_apart-apart [] = refl
is_apart-apart (n ∷ ns) = ap (λ b. not (list_any (eqb n) ns) && b) (is_apart-apart ns)

pub numbers_push : (ns : List ℕ) (n : ℕ) → is_apart ns ≡ true → list_any (eqb n) ns ≡ false → is_apart (ns ++ n ∷ []) ≡ true
numbers_push ns n h absent = is_apart-apart (ns ++ n ∷ []) ∙ apart-push eqb eqb_flip ns n (sym (is_apart-apart ns) ∙ h) absent

pub numbers_repeated : (ns : List ℕ) (i d : ℕ) → i < length ns → list_any (eqb (get_or ns i d)) (take i ns) ≡ true → is_apart ns ≡ false
numbers_repeated ns i d lt again = is_apart-apart ns ∙ apart_repeated eqb eqb_flip ns i d lt again

-- a table that meets a name which it has
pub table_meets : (names table : List (List ℕ)) (i : ℕ) (name : List ℕ) (added : Bool) → i < length names → name ≡ get_or names i name → table ≡ take i names
    → added ≡ not (is_among name table) → added ≡ false → distinct_names names ≡ None
unfolding distinct_names
table_meets names table i name added lt at is says old =
    let there : is_among name table ≡ true = not-false (is_among name table) (sym says ∙ old) in
    let twice : is_distinct names ≡ false = distinct_repeated names i name lt (ap (λ (n : List ℕ). is_among n (take i names)) (sym at) ∙ ap (is_among name) (sym is) ∙ there) in
    rw twice refl

pub table_whole : (names table : List (List ℕ)) (i : ℕ) → length names ≤ i → table ≡ take i names → is_distinct table ≡ true → distinct_names names ≡ Some table
unfolding distinct_names
table_whole names table i le is apart =
    let all : table ≡ names = is ∙ take_all i names le in
    rw (← all, apart) refl

pub numbers_meet : (ns keys : List ℕ) (i : ℕ) (added : Bool) → i < length ns → keys ≡ take i ns → added ≡ not (list_any (eqb (get_or ns i 0)) keys) → added ≡ false → false ≡ is_apart ns
numbers_meet ns keys i added lt is says old =
    let there : list_any (eqb (get_or ns i 0)) keys ≡ true = not-false (list_any (eqb (get_or ns i 0)) keys) (sym says ∙ old) in
    sym (numbers_repeated ns i 0 lt (ap (list_any (eqb (get_or ns i 0))) (sym is) ∙ there))

pub numbers_go_on : (ns keys new : List ℕ) (i : ℕ) (added : Bool) → i < length ns → keys ≡ take i ns → is_apart (take i ns) ≡ true
    → added ≡ not (list_any (eqb (get_or ns i 0)) keys) → added ≡ true
    → new ≡ (if list_any (eqb (get_or ns i 0)) keys then keys else keys ++ get_or ns i 0 ∷ [])
    → (new ≡ take (i + 1) ns) × (is_apart (take (i + 1) ns) ≡ true)
numbers_go_on ns keys new i added lt is so_far says fresh put =
    let absent : list_any (eqb (get_or ns i 0)) keys ≡ false = not-true (list_any (eqb (get_or ns i 0)) keys) (sym says ∙ fresh) in
    let more : take (i + 1) ns ≡ take i ns ++ get_or ns i 0 ∷ [] = take_more ns i 0 lt in
    (put ∙ rw (absent, is, more) refl, rw more (numbers_push (take i ns) (get_or ns i 0) so_far (ap (list_any (eqb (get_or ns i 0))) (sym is) ∙ absent)))
