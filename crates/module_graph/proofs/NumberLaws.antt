-- What a table of numbers under names holds when one more is put under a name.
use Rattle.std.proofs.Common.{◌≡◌, ℕ, suc, ◌<◌, Bool, true, false, ◌||◌, not, cond, List, [], ◌∷◌, ◌++◌, length, get_or, length-append, Option, Some, None, refl, sym, ap, subst, ◌∙◌, arith, inl, inr}
use Rattle.std.specs.Option.{option_map, option_or}
use Rattle.std.specs.List.{slice_get}
use Rattle.std.proofs.lemmas.Bool.{cases_lt, cases_Bool, both_ways, cond-true, not_from_false}
use Rattle.std.proofs.lemmas.List.{get_or-set_same, get_or-set_other, length-set, get_or_append_left, get_or_push, get_or_default}
use Rattle.std.proofs.lemmas.Option.{slice_get-get_or, slice_get_past}
use Rattle.std.proofs.lemmas.Slice.Eq.{bytes_eq-Decides}
use Rattle.name_table.specs.Names.{same_name, is_among, index_of}
use Rattle.module_graph.specs.Numbers.{number_at, lesser, lesser_number, number_if, with_number}

-- ---- indexes of names

pub same_name_equal : (a b : List ℕ) → same_name a b ≡ true → a ≡ b
same_name_equal a b e = (bytes_eq-Decides a b).0 e

pub same_name_itself : (a : List ℕ) → same_name a a ≡ true
same_name_itself a = (bytes_eq-Decides a a).1 refl

map_or : (x : Option ℕ) (s : Bool) (n : ℕ) → option_map (λ k. suc k) (option_or x (cond s (Some n) None)) ≡ option_or (option_map (λ k. suc k) x) (cond s (Some (suc n)) None)
map_or (Some k) s n = refl
map_or None true n = refl
map_or None false n = refl

or_step : (b : Bool) (x : Option ℕ) (s : Bool) (n : ℕ) →
    cond b (Some 0) (option_map (λ k. suc k) (option_or x (cond s (Some n) None))) ≡ option_or (cond b (Some 0) (option_map (λ k. suc k) x)) (cond s (Some (suc n)) None)
or_step true x s n = refl
or_step false x s n = map_or x s n

-- the index of a name, where one more name stands at the end
pub index_of-push : (q : List ℕ) (names : List (List ℕ)) (name : List ℕ) →
    index_of q (names ++ name ∷ []) ≡ option_or (index_of q names) (cond (same_name q name) (Some (length names)) None)
index_of-push q [] name = refl
index_of-push q (other ∷ names) name =
    ap (λ (rest : Option ℕ). cond (same_name q other) (Some 0) (option_map (λ k. suc k) rest)) (index_of-push q names name)
    ∙ or_step (same_name q other) (index_of q names) (same_name q name) (length names)

found_step : (q other : List ℕ) (names : List (List ℕ)) (b : Bool) → same_name q other ≡ b → (rest : Option ℕ) →
    ((j : ℕ) → rest ≡ Some j → (j < length names) × (get_or names j q ≡ q)) →
    (k : ℕ) → cond b (Some 0) (option_map (λ n. suc n) rest) ≡ Some k → (k < suc (length names)) × (get_or (other ∷ names) k q ≡ q)
found_step q other names true same rest others k e =
    let first : 0 ≡ k = cc in
    (omega arith, subst (λ (n : ℕ). get_or (other ∷ names) n q ≡ q) first (sym (same_name_equal q other same)))
found_step q other names false apart (Some j) others k e =
    let next : suc j ≡ k = cc in
    let found = others j refl in
    (omega (arith, found.0), subst (λ (n : ℕ). get_or (other ∷ names) n q ≡ q) next found.1)
found_step q other names false apart None others k e = absurd cc

-- a name stands at its index
pub index_of_at : (q : List ℕ) (names : List (List ℕ)) (k : ℕ) → index_of q names ≡ Some k → (k < length names) × (get_or names k q ≡ q)
index_of_at q [] k e = absurd cc
index_of_at q (other ∷ names) k e = found_step q other names (same_name q other) refl (index_of q names) (index_of_at q names) k e

absent_step : (b : Bool) (rest : Option ℕ) (among : Bool) → (rest ≡ None → among ≡ false) → cond b (Some 0) (option_map (λ n. suc n) rest) ≡ None → (b || among) ≡ false
absent_step true rest among others e = absurd cc
absent_step false None among others e = others refl
absent_step false (Some j) among others e = absurd cc

-- a name without an index isn't there
pub index_of_none : (q : List ℕ) (names : List (List ℕ)) → index_of q names ≡ None → is_among q names ≡ false
index_of_none q [] e = refl
index_of_none q (other ∷ names) e = absent_step (same_name q other) (index_of q names) (is_among q names) (index_of_none q names) e

-- ---- one more number

lesser_none : (a : Option ℕ) → lesser a None ≡ a
lesser_none None = refl
lesser_none (Some a) = refl

last_number : (numbers : List ℕ) (n number : ℕ) → n ≡ length numbers → slice_get (numbers ++ number ∷ []) n ≡ Some number
last_number numbers n number last =
    let longer : n < length (numbers ++ number ∷ []) = omega (arith, length-append numbers (number ∷ [])) in
    slice_get-get_or (numbers ++ number ∷ []) n 0 longer ∙ ap (λ (m : ℕ). Some m) (get_or_push numbers number 0 n (sym last))

front_number : (numbers : List ℕ) (number j : ℕ) → j < length numbers → slice_get (numbers ++ number ∷ []) j ≡ slice_get numbers j
front_number numbers number j lt =
    let longer : j < length (numbers ++ number ∷ []) = omega (arith, length-append numbers (number ∷ [])) in
    slice_get-get_or (numbers ++ number ∷ []) j 0 longer ∙ ap (λ (m : ℕ). Some m) (get_or_append_left numbers (number ∷ []) 0 j lt)
    ∙ sym (slice_get-get_or numbers j 0 lt)

-- two names with one index are the same
one_index : (q name : List ℕ) (names : List (List ℕ)) (k : ℕ) → index_of q names ≡ Some k → index_of name names ≡ Some k → q ≡ name
one_index q name names k e f =
    let first = index_of_at q names k e in
    let second = index_of_at name names k f in
    sym first.1 ∙ get_or_default names k q name first.0 ∙ second.1

module _ (names : List (List ℕ)) (numbers : List ℕ) (whole : length numbers ≡ length names) (name : List ℕ) (number : ℕ) (q : List ℕ) where
  -- under a name that is there
  module _ (k : ℕ) (found : index_of name names ≡ Some k) where
    same_case : q ≡ name → number_at (with_number numbers k number) (index_of q names) ≡ lesser (number_at numbers (index_of q names)) (Some number)
    same_case same =
        let at : index_of q names ≡ Some k = ap (λ (n : List ℕ). index_of n names) same ∙ found in
        let within : k < length names = (index_of_at name names k found).0 in
        let old : slice_get numbers k ≡ Some (get_or numbers k 0) = slice_get-get_or numbers k 0 (omega arith) in
        let longer : k < length (with_number numbers k number) = omega (arith, length-set numbers k (lesser_number (get_or numbers k 0) number)) in
        let new : slice_get (with_number numbers k number) k ≡ Some (get_or (with_number numbers k number) k 0) = slice_get-get_or (with_number numbers k number) k 0 longer in
        ap (number_at (with_number numbers k number)) at ∙ new
        ∙ ap (λ (n : ℕ). Some n) (get_or-set_same numbers k (lesser_number (get_or numbers k 0) number) 0 (omega arith))
        ∙ sym (ap (λ (o : Option ℕ). lesser o (Some number)) (ap (number_at numbers) at ∙ old))

    other_at : (j : ℕ) → (j ≡ k → ⊥) → slice_get (with_number numbers k number) j ≡ slice_get numbers j
    other_at j apart = elim (cases_lt j (length numbers)) [
      | inl lt ↦
          let longer : j < length (with_number numbers k number) = omega (arith, length-set numbers k (lesser_number (get_or numbers k 0) number)) in
          slice_get-get_or (with_number numbers k number) j 0 longer
          ∙ ap (λ (n : ℕ). Some n) (get_or-set_other numbers k j (lesser_number (get_or numbers k 0) number) 0 apart)
          ∙ sym (slice_get-get_or numbers j 0 lt)
      | inr le ↦
          slice_get_past (with_number numbers k number) j (omega (arith, length-set numbers k (lesser_number (get_or numbers k 0) number)))
          ∙ sym (slice_get_past numbers j le)
    ]

    other_case : (q ≡ name → ⊥) → (o : Option ℕ) → index_of q names ≡ o → number_at (with_number numbers k number) o ≡ number_at numbers o
    other_case apart None at = refl
    other_case apart (Some j) at = other_at j (λ (e : j ≡ k). apart (one_index q name names k (at ∙ ap (λ (n : ℕ). Some n) e) found))

    pub least_lowered : number_at (with_number numbers k number) (index_of q names) ≡ lesser (number_at numbers (index_of q names)) (number_if q name number)
    least_lowered = elim (cases_Bool (same_name q name)) [
      | inl same ↦ same_case (same_name_equal q name same) ∙ ap (λ (b : Bool). lesser (number_at numbers (index_of q names)) (cond b (Some number) None)) (sym same)
      | inr differ ↦
          other_case (λ (e : q ≡ name). both_ways (same_name q name) differ (ap (λ (n : List ℕ). same_name n name) e ∙ same_name_itself name)) (index_of q names) refl
          ∙ sym (ap (λ (b : Bool). lesser (number_at numbers (index_of q names)) (cond b (Some number) None)) differ ∙ lesser_none (number_at numbers (index_of q names)))
    ]

  -- under a new name
  module _ (absent : index_of name names ≡ None) where
    new_here : (o : Option ℕ) (s : Bool) → index_of q names ≡ o → same_name q name ≡ s →
        number_at (numbers ++ number ∷ []) (option_or o (cond s (Some (length names)) None)) ≡ lesser (number_at numbers o) (cond s (Some number) None)
    new_here None false at same = refl
    new_here None true at same = last_number numbers (length names) number (sym whole)
    new_here (Some j) false at same =
        front_number numbers number j (omega (arith, (index_of_at q names j at).0)) ∙ sym (lesser_none (slice_get numbers j))
    new_here (Some j) true at same = absurd (let e : index_of q names ≡ None = ap (λ (n : List ℕ). index_of n names) (same_name_equal q name same) ∙ absent in cc)

    pub least_new : number_at (numbers ++ number ∷ []) (index_of q (names ++ name ∷ [])) ≡ lesser (number_at numbers (index_of q names)) (number_if q name number)
    least_new = ap (number_at (numbers ++ number ∷ [])) (index_of-push q names name) ∙ new_here (index_of q names) (same_name q name) refl refl

-- a name that wasn't there stands at the end
pub added_name : (name : List ℕ) (names after : List (List ℕ)) (added : Bool) → index_of name names ≡ None → added ≡ not (is_among name names) →
    after ≡ cond added (names ++ name ∷ []) names → after ≡ names ++ name ∷ []
added_name name names after added absent new e =
    e ∙ cond-true added (names ++ name ∷ []) names (new ∙ not_from_false (is_among name names) (index_of_none name names absent))
