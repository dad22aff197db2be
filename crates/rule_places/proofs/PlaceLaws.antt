-- The laws of the first place.
use Rattle.std.proofs.Common.{◌≡◌, ℕ, ◌+◌, ◌<◌, ◌≤◌, true, List, [], ◌∷◌, ◌++◌, length, get_or, take, Option, None, Some, refl, sym, ap, subst, ◌∙◌, arith, inl, inr}
use Rattle.std.specs.List.{All, fold, flat_map}
use Rattle.std.proofs.lemmas.Bool.{cases_lt, lt-ltb, le-ltb, leb-true, false≢true}
use Rattle.std.proofs.lemmas.List.{take_more}
use Rattle.std.proofs.lemmas.List.Concat.{flat_map-append}
use Rattle.std.proofs.lemmas.List.Elements.{All-nil, All-cons, All-same, All-weaker, Contains-append_left, Contains-append_right, Contains-push}
use Rattle.v_tree.specs.declared.locations.Location.{Location}
use Rattle.rule_places.specs.Places.{earlier, earliest, first_place, precedes, IsFirst}

-- ---- the earlier of two

pub earlier_second : (a b : Location) → b.token < a.token → earlier a b ≡ b
earlier_second a b lt = rw (lt-ltb b.token a.token lt) refl

pub earlier_first : (a b : Location) → a.token ≤ b.token → earlier a b ≡ a
earlier_first a b le = rw (le-ltb b.token a.token le) refl

pub earlier_assoc : (a b c : Location) → earlier (earlier a b) c ≡ earlier a (earlier b c)
earlier_assoc a b c = elim (cases_lt b.token a.token) [
  | inl b-first ↦ elim (cases_lt c.token b.token) [
    | inl c-first ↦
        ap (λ (x : Location). earlier x c) (earlier_second a b b-first) ∙ earlier_second b c c-first
        ∙ sym (ap (λ (x : Location). earlier a x) (earlier_second b c c-first) ∙ earlier_second a c (omega arith))
    | inr b-le ↦
        ap (λ (x : Location). earlier x c) (earlier_second a b b-first) ∙ earlier_first b c b-le
        ∙ sym (ap (λ (x : Location). earlier a x) (earlier_first b c b-le) ∙ earlier_second a b b-first)
  ]
  | inr a-le ↦ elim (cases_lt c.token b.token) [
    | inl c-first ↦
        ap (λ (x : Location). earlier x c) (earlier_first a b a-le)
        ∙ sym (ap (λ (x : Location). earlier a x) (earlier_second b c c-first))
    | inr b-le ↦
        ap (λ (x : Location). earlier x c) (earlier_first a b a-le) ∙ earlier_first a c (omega arith)
        ∙ sym (ap (λ (x : Location). earlier a x) (earlier_first b c b-le) ∙ earlier_first a b a-le)
  ]
]

pub earliest_none : (a : Option Location) → earliest a None ≡ a
earliest_none None = refl
earliest_none (Some a) = refl

-- a place that precedes another stays the earlier
pub earliest_precedes : (a : Option Location) (b : Location) → precedes a b ≡ true → earliest a (Some b) ≡ a
earliest_precedes None b e = absurd (false≢true e)
earliest_precedes (Some a) b e = ap (λ (x : Location). Some x) (earlier_first a b (leb-true a.token b.token e))

pub earliest_assoc : (a b c : Option Location) → earliest (earliest a b) c ≡ earliest a (earliest b c)
earliest_assoc None b c = refl
earliest_assoc (Some a) None c = refl
earliest_assoc (Some a) (Some b) None = refl
earliest_assoc (Some a) (Some b) (Some c) = ap (λ (x : Location). Some x) (earlier_assoc a b c)

-- ---- the first of a list

pub first_place-append : (xs ys : List Location) → first_place (xs ++ ys) ≡ earliest (first_place xs) (first_place ys)
first_place-append [] ys = refl
first_place-append (x ∷ xs) ys =
    ap (λ (rest : Option Location). earliest (Some x) rest) (first_place-append xs ys)
    ∙ sym (earliest_assoc (Some x) (first_place xs) (first_place ys))

-- one more place at the end
pub first_place-push : (xs : List Location) (x : Location) → first_place (xs ++ x ∷ []) ≡ earliest (first_place xs) (Some x)
first_place-push xs x = first_place-append xs (x ∷ [])

-- one more place of a list
pub first_place-more : (xs : List Location) (i : ℕ) (d : Location) → i < length xs →
    first_place (take (i + 1) xs) ≡ earliest (first_place (take i xs)) (Some (get_or xs i d))
first_place-more xs i d lt = ap first_place (take_more xs i d lt) ∙ first_place-push (take i xs) (get_or xs i d)

module _ {X : Type 0} (places_of : X → List Location) where
  -- the places of one more
  pub first_place-flat_map_more : (xs : List X) (i : ℕ) (d : X) → i < length xs →
      first_place (flat_map places_of (take (i + 1) xs)) ≡ earliest (first_place (flat_map places_of (take i xs))) (first_place (places_of (get_or xs i d)))
  first_place-flat_map_more xs i d lt =
      ap (λ (ys : List X). first_place (flat_map places_of ys)) (take_more xs i d lt)
      ∙ ap first_place (flat_map-append places_of (take i xs) (get_or xs i d ∷ []))
      ∙ first_place-append (flat_map places_of (take i xs)) (places_of (get_or xs i d) ++ [])
      ∙ ap (λ (last : Option Location). earliest (first_place (flat_map places_of (take i xs))) last) (first_place-append (places_of (get_or xs i d)) [] ∙ earliest_none (first_place (places_of (get_or xs i d))))

  fold_from : (so_far : Option Location) (xs : List X) → fold (λ best x. earliest best (first_place (places_of x))) so_far xs ≡ earliest so_far (first_place (flat_map places_of xs))
  fold_from so_far [] = sym (earliest_none so_far)
  fold_from so_far (x ∷ xs) =
      fold_from (earliest so_far (first_place (places_of x))) xs
      ∙ earliest_assoc so_far (first_place (places_of x)) (first_place (flat_map places_of xs))
      ∙ ap (λ (rest : Option Location). earliest so_far rest) (sym (first_place-append (places_of x) (flat_map places_of xs)))

  -- the first place of all, as a fold
  pub first_place-flat_map : (xs : List X) → first_place (flat_map places_of xs) ≡ fold (λ best x. earliest best (first_place (places_of x))) None xs
  first_place-flat_map xs = sym (fold_from None xs)

-- ---- the first place and the list

-- there is a first place of each list but the empty one
pub first_place_none : (xs : List Location) → first_place xs ≡ None → xs ≡ []
first_place_none [] none = refl
first_place_none (x ∷ xs) none = by (first_place xs) none
  where
    by : (rest : Option Location) → earliest (Some x) rest ≡ None → x ∷ xs ≡ []
    by None none = absurd cc
    by (Some y) none = absurd cc

IsFirst-head : (x : Location) (xs : List Location) → All (λ other. x.token ≤ other.token) xs → IsFirst (x ∷ xs) x
IsFirst-head x xs least = record {
  among = Contains-append_left (x ∷ []) xs x (Contains-push [] x);
  least = All-cons (λ other. x.token ≤ other.token) x xs (omega arith) least;
}

IsFirst-rest : (x y : Location) (xs : List Location) → y.token ≤ x.token → IsFirst xs y → IsFirst (x ∷ xs) y
IsFirst-rest x y xs le first = record {
  among = Contains-append_right (x ∷ []) xs y first.among;
  least = All-cons (λ other. y.token ≤ other.token) x xs le first.least;
}

IsFirst-alone : (x : Location) (xs : List Location) → xs ≡ [] → IsFirst (x ∷ xs) x
IsFirst-alone x xs none = IsFirst-head x xs (All-same (λ other. x.token ≤ other.token) xs [] none (All-nil (λ other. x.token ≤ other.token)))

-- a place that isn't behind the first of the others is before them all
below_all : (x y : Location) (xs : List Location) → x.token ≤ y.token → All (λ other. y.token ≤ other.token) xs → All (λ other. x.token ≤ other.token) xs
below_all x y xs le least = All-weaker (λ other. y.token ≤ other.token) (λ other. x.token ≤ other.token) (λ z h. omega arith) xs least

IsFirst-earlier : (x y : Location) (xs : List Location) → IsFirst xs y → IsFirst (x ∷ xs) (earlier x y)
IsFirst-earlier x y xs first = elim (cases_lt y.token x.token) [
  | inl lt ↦ subst (λ (p : Location). IsFirst (x ∷ xs) p) (sym (earlier_second x y lt)) (IsFirst-rest x y xs (omega arith) first)
  | inr le ↦ subst (λ (p : Location). IsFirst (x ∷ xs) p) (sym (earlier_first x y le)) (IsFirst-head x xs (below_all x y xs le first.least))
]

IsFirst-step : (x : Location) (xs : List Location) (rest : Option Location) (p : Location) → first_place xs ≡ rest → ((y : Location) → first_place xs ≡ Some y → IsFirst xs y) →
    earliest (Some x) rest ≡ Some p → IsFirst (x ∷ xs) p
IsFirst-step x xs None p none others e =
    let same : x ≡ p = cc in
    subst (λ (q : Location). IsFirst (x ∷ xs) q) same (IsFirst-alone x xs (first_place_none xs none))
IsFirst-step x xs (Some y) p rest others e =
    let same : earlier x y ≡ p = cc in
    subst (λ (q : Location). IsFirst (x ∷ xs) q) same (IsFirst-earlier x y xs (others y rest))

-- the first place is in the list, and no place of the list has a smaller token
pub IsFirst-first_place : (xs : List Location) (p : Location) → first_place xs ≡ Some p → IsFirst xs p
IsFirst-first_place [] p found = absurd cc
IsFirst-first_place (x ∷ xs) p found = IsFirst-step x xs (first_place xs) p refl (IsFirst-first_place xs) found
