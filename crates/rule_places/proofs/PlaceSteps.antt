-- Steps of loops that keep the first of the places that they have seen: what was seen, and what is left.
use Rattle.std.proofs.Common.{◌≡◌, ℕ, suc, ◌+◌, ◌<◌, ◌≤◌, Bool, true, false, cond, List, [], ◌∷◌, ◌++◌, length, get_or, drop, map, Option, Some, refl, sym, ap, ◌∙◌, add-one, drop-cons}
use Rattle.std.specs.List.{flat_map, filter, enumerate_from}
use Rattle.std.proofs.lemmas.List.{drop_all}
use Rattle.v_tree.specs.declared.locations.Location.{Location}
use Rattle.rule_places.specs.Places.{earliest, first_place, places_where}
use Rattle.rule_places.proofs.PlaceLaws.{earliest_none, earliest_assoc, first_place-append}

-- the first place so far and those of one more, in place of its places
next_place : (so_far : Option Location) (places others : List Location) →
    earliest so_far (first_place (places ++ others)) ≡ earliest (earliest so_far (first_place places)) (first_place others)
next_place so_far places others =
    ap (λ (rest : Option Location). earliest so_far rest) (first_place-append places others)
    ∙ sym (earliest_assoc so_far (first_place places) (first_place others))

module _ {X : Type 0} (places_of : X → List Location) (xs : List X) (i : ℕ) (whole so_far : Option Location)
    (seen : whole ≡ earliest so_far (first_place (flat_map places_of (drop i xs)))) where
  -- a step of a loop over all, at the places of one more
  pub flat_map_step : (x : X) → i < length xs → get_or xs i x ≡ x →
      whole ≡ earliest (earliest so_far (first_place (places_of x))) (first_place (flat_map places_of (drop (i + 1) xs)))
  flat_map_step x lt at =
      seen
      ∙ ap (λ (rest : List X). earliest so_far (first_place (flat_map places_of rest))) (drop-cons xs i x lt ∙ ap (λ (y : X). y ∷ drop (suc i) xs) at)
      ∙ next_place so_far (places_of x) (flat_map places_of (drop (suc i) xs))
      ∙ ap (λ (n : ℕ). earliest (earliest so_far (first_place (places_of x))) (first_place (flat_map places_of (drop n xs)))) (sym (add-one i))

  -- the end of the loop
  pub flat_map_end : length xs ≤ i → whole ≡ so_far
  flat_map_end le = seen ∙ ap (λ (rest : List X). earliest so_far (first_place (flat_map places_of rest))) (drop_all i xs le) ∙ earliest_none so_far

cond_same : {X : Type 0} (b : Bool) (x y : X) → x ≡ y → cond b x y ≡ y
cond_same true x y e = e
cond_same false x y e = refl

module _ {X : Type 0} (places_of : ℕ × X → List Location) (xs : List X) (i : ℕ) (whole so_far : Option Location)
    (seen : whole ≡ earliest so_far (first_place (flat_map places_of (enumerate_from i (drop i xs))))) where
  -- a step of a loop over all with their indexes
  pub enumerate_step : (x : X) → i < length xs → get_or xs i x ≡ x →
      whole ≡ earliest (earliest so_far (first_place (places_of (i, x)))) (first_place (flat_map places_of (enumerate_from (i + 1) (drop (i + 1) xs))))
  enumerate_step x lt at =
      seen
      ∙ ap (λ (rest : List X). earliest so_far (first_place (flat_map places_of (enumerate_from i rest)))) (drop-cons xs i x lt ∙ ap (λ (y : X). y ∷ drop (suc i) xs) at)
      ∙ next_place so_far (places_of (i, x)) (flat_map places_of (enumerate_from (i + 1) (drop (suc i) xs)))
      ∙ ap (λ (n : ℕ). earliest (earliest so_far (first_place (places_of (i, x)))) (first_place (flat_map places_of (enumerate_from (i + 1) (drop n xs))))) (sym (add-one i))

  -- the end of the loop
  pub enumerate_end : length xs ≤ i → whole ≡ so_far
  enumerate_end le = seen ∙ ap (λ (rest : List X). earliest so_far (first_place (flat_map places_of (enumerate_from i rest)))) (drop_all i xs le) ∙ earliest_none so_far

one_where : {X : Type 0} (breaks : X → Bool) (place_of : X → Location) (so_far : Option Location) (x : X) (xs : List X) (b : Bool) → breaks x ≡ b →
    earliest so_far (first_place (places_where breaks place_of (x ∷ xs)))
    ≡ earliest (cond b (earliest so_far (Some (place_of x))) so_far) (first_place (places_where breaks place_of xs))
one_where breaks place_of so_far x xs true e = rw e (next_place so_far (place_of x ∷ []) (places_where breaks place_of xs))
one_where breaks place_of so_far x xs false e = rw e refl

module _ {X : Type 0} (breaks : X → Bool) (place_of : X → Location) (xs : List X) (i : ℕ) (whole so_far : Option Location)
    (seen : whole ≡ earliest so_far (first_place (places_where breaks place_of (drop i xs)))) where
  where_step : (x : X) → i < length xs → get_or xs i x ≡ x → (b : Bool) → breaks x ≡ b →
      whole ≡ earliest (cond b (earliest so_far (Some (place_of x))) so_far) (first_place (places_where breaks place_of (drop (i + 1) xs)))
  where_step x lt at b e =
      seen
      ∙ ap (λ (rest : List X). earliest so_far (first_place (places_where breaks place_of rest))) (drop-cons xs i x lt ∙ ap (λ (y : X). y ∷ drop (suc i) xs) at)
      ∙ one_where breaks place_of so_far x (drop (suc i) xs) b e
      ∙ ap (λ (n : ℕ). earliest (cond b (earliest so_far (Some (place_of x))) so_far) (first_place (places_where breaks place_of (drop n xs)))) (sym (add-one i))

  -- a step of a loop over those that may break a rule, at one that does
  pub where_step_yes : (x : X) → i < length xs → get_or xs i x ≡ x → breaks x ≡ true →
      whole ≡ earliest (earliest so_far (Some (place_of x))) (first_place (places_where breaks place_of (drop (i + 1) xs)))
  where_step_yes x lt at broken = where_step x lt at true broken

  -- at one that doesn't
  pub where_step_no : (x : X) → i < length xs → get_or xs i x ≡ x → breaks x ≡ false →
      whole ≡ earliest so_far (first_place (places_where breaks place_of (drop (i + 1) xs)))
  where_step_no x lt at kept = where_step x lt at false kept

  -- at one whose place doesn't come before the first so far
  pub where_step_after : (x : X) → i < length xs → get_or xs i x ≡ x → earliest so_far (Some (place_of x)) ≡ so_far →
      whole ≡ earliest so_far (first_place (places_where breaks place_of (drop (i + 1) xs)))
  where_step_after x lt at after =
      where_step x lt at (breaks x) refl
      ∙ ap (λ (first : Option Location). earliest first (first_place (places_where breaks place_of (drop (i + 1) xs))))
      (cond_same (breaks x) (earliest so_far (Some (place_of x))) so_far after)

  -- the end of the loop
  pub where_end : length xs ≤ i → whole ≡ so_far
  where_end le = seen ∙ ap (λ (rest : List X). earliest so_far (first_place (places_where breaks place_of rest))) (drop_all i xs le) ∙ earliest_none so_far

-- ---- places of joined lists

append_one : {X : Type 0} (place_of : X → Location) (x : X) (b : Bool) (xs ys zs : List X) → map place_of ys ≡ map place_of xs ++ map place_of zs →
    map place_of (cond b (x ∷ ys) ys) ≡ map place_of (cond b (x ∷ xs) xs) ++ map place_of zs
append_one place_of x true xs ys zs e = ap (λ (rest : List Location). place_of x ∷ rest) e
append_one place_of x false xs ys zs e = e

pub places_where-append : {X : Type 0} (breaks : X → Bool) (place_of : X → Location) (xs ys : List X) →
    places_where breaks place_of (xs ++ ys) ≡ places_where breaks place_of xs ++ places_where breaks place_of ys
places_where-append breaks place_of [] ys = refl
places_where-append breaks place_of (x ∷ xs) ys =
    append_one place_of x (breaks x) (filter breaks xs) (filter breaks (xs ++ ys)) (filter breaks ys) (places_where-append breaks place_of xs ys)

map_one : {X Y : Type 0} (place_of : Y → Location) (g : X → Y) (x : X) (b : Bool) (xs : List X) (ys : List Y) → map place_of ys ≡ map (λ z. place_of (g z)) xs →
    map place_of (cond b (g x ∷ ys) ys) ≡ map (λ z. place_of (g z)) (cond b (x ∷ xs) xs)
map_one place_of g x true xs ys e = ap (λ (rest : List Location). place_of (g x) ∷ rest) e
map_one place_of g x false xs ys e = e

pub places_where-map : {X Y : Type 0} (breaks : Y → Bool) (place_of : Y → Location) (g : X → Y) (xs : List X) →
    places_where breaks place_of (map g xs) ≡ places_where (λ x. breaks (g x)) (λ x. place_of (g x)) xs
places_where-map breaks place_of g [] = refl
places_where-map breaks place_of g (x ∷ xs) =
    map_one place_of g x (breaks (g x)) (filter (λ z. breaks (g z)) xs) (filter breaks (map g xs)) (places_where-map breaks place_of g xs)
