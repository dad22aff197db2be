-- Values, a byte at a time.
use Rattle.std.proofs.Common.{◌≡◌, ℕ, suc, ◌+◌, ◌<◌, ◌≤◌, true, false, eqb, ltb, List, [], ◌∷◌, ◌++◌, length, drop, get_or, Option, Some, None, refl, sym, ap, ◌∙◌, append_assoc, arith, add-one, drop-cons, inl, inr}
use Rattle.std.specs.Prelude.{option_map, option_and_then}
use Rattle.std.proofs.lemmas.Bool.{cases_Bool, lt-ltb, le-ltb}
use Rattle.std.proofs.lemmas.List.{append-nil, drop_all}
use Rattle.vector_text.specs.Sayings.{all_said, value_bytes, values_in}

module _ {A : Type 0} (said : ℕ → Option A) where
  -- what was read before, and what is still read
  abbrev pub with_front : List A → Option (List A) → Option (List A)
  with_front front read = option_map (λ xs. front ++ xs) read

  -- what is read of the bytes from an index on, behind what was read
  abbrev pub read_from : List A → List ℕ → ℕ → Option (List A)
  read_from front field i = with_front front (all_said said (value_bytes (drop i field)))

  regroup : (front : List A) (x : A) (read : Option (List A)) → with_front front (option_map (λ xs. x ∷ xs) read) ≡ with_front (front ++ x ∷ []) read
  regroup front x None = refl
  regroup front x (Some xs) = ap Some (sym (append_assoc front (x ∷ []) xs))

  pub passed : (front : List A) (i : ℕ) (field : List ℕ) (total : Option (List A)) → i < length field → eqb (get_or field i 0) 95 ≡ true → read_from front field i ≡ total → read_from front field (i + 1) ≡ total
  passed front i field total lt is so_far =
      let here : drop i field ≡ get_or field i 0 ∷ drop (suc i) field = drop-cons field i 0 lt in
      let one : value_bytes (get_or field i 0 ∷ drop (suc i) field) ≡ value_bytes (drop (suc i) field) = rw is refl in
      rw add-one (ap (λ (x : List ℕ). with_front front (all_said said x)) (sym one) ∙ ap (λ (x : List ℕ). with_front front (all_said said (value_bytes x))) (sym here) ∙ so_far)

  kept : (i : ℕ) (field : List ℕ) → i < length field → eqb (get_or field i 0) 95 ≡ false → value_bytes (drop i field) ≡ get_or field i 0 ∷ value_bytes (drop (suc i) field)
  kept i field lt is =
      let one : value_bytes (get_or field i 0 ∷ drop (suc i) field) ≡ get_or field i 0 ∷ value_bytes (drop (suc i) field) = rw is refl in
      ap value_bytes (drop-cons field i 0 lt) ∙ one

  pub stepped : (front : List A) (i : ℕ) (x : A) (field : List ℕ) (total : Option (List A)) → i < length field → eqb (get_or field i 0) 95 ≡ false → said (get_or field i 0) ≡ Some x
      → read_from front field i ≡ total → read_from (front ++ x ∷ []) field (i + 1) ≡ total
  stepped front i x field total lt is good so_far =
      let rest = value_bytes (drop (suc i) field) in
      let one : with_front front (all_said said (get_or field i 0 ∷ rest)) ≡ with_front (front ++ x ∷ []) (all_said said rest) = rw good (regroup front x (all_said said rest)) in
      rw add-one (sym one ∙ ap (λ (bs : List ℕ). with_front front (all_said said bs)) (sym (kept i field lt is)) ∙ so_far)

  pub stopped : (front : List A) (i : ℕ) (field : List ℕ) (total : Option (List A)) → i < length field → eqb (get_or field i 0) 95 ≡ false → said (get_or field i 0) ≡ None → read_from front field i ≡ total → total ≡ None
  stopped front i field total lt is bad so_far =
      let rest = value_bytes (drop (suc i) field) in
      let one : with_front front (all_said said (get_or field i 0 ∷ rest)) ≡ None = rw bad refl in
      sym so_far ∙ ap (λ (bs : List ℕ). with_front front (all_said said bs)) (kept i field lt is) ∙ one

  pub ended : (front : List A) (i : ℕ) (field : List ℕ) (total : Option (List A)) → length field ≤ i → read_from front field i ≡ total → total ≡ Some front
  ended front i field total le so_far =
      let one : with_front front (all_said said (value_bytes [])) ≡ Some front = ap Some (append-nil front) in
      sym so_far ∙ ap (λ (bs : List ℕ). with_front front (all_said said (value_bytes bs))) (drop_all i field le) ∙ one

  -- ---- one or more

  cut : (o : Option A) (rest : Option (List A)) (xs : List A) → option_and_then (λ x. option_map (λ ys. x ∷ ys) rest) o ≡ Some xs → (n : ℕ) → ((ys : List A) → rest ≡ Some ys → length ys ≡ n) → length xs ≡ suc n
  cut None rest xs e n long = absurd cc
  cut (Some x) None xs e n long = absurd cc
  cut (Some x) (Some ys) xs e n long =
      let same : x ∷ ys ≡ xs = cc in
      ap length (sym same) ∙ ap suc (long ys refl)

  length-all_said : (bs : List ℕ) (xs : List A) → all_said said bs ≡ Some xs → length xs ≡ length bs
  length-all_said [] xs e =
      let same : [] ≡ xs = cc in
      ap length (sym same)
  length-all_said (b ∷ bs) xs e = cut (said b) (all_said said bs) xs e (length bs) (λ ys f. length-all_said bs ys f)

  pub none_in : (field : List ℕ) → all_said said (value_bytes field) ≡ None → values_in said field ≡ None
  unfolding values_in
  none_in field e =
      elim (cases_Bool (ltb 0 (length (value_bytes field)))) [
        | inl some ↦ rw some e
        | inr none ↦ rw none refl
      ]

  pub empty_in : (field : List ℕ) (xs : List A) → all_said said (value_bytes field) ≡ Some xs → length xs ≡ 0 → values_in said field ≡ None
  unfolding values_in
  empty_in field xs e none =
      let long = length-all_said (value_bytes field) xs e in
      let test : ltb 0 (length (value_bytes field)) ≡ false = le-ltb 0 (length (value_bytes field)) (omega arith) in
      rw test refl

  pub some_in : (field : List ℕ) (xs : List A) → all_said said (value_bytes field) ≡ Some xs → 0 < length xs → values_in said field ≡ Some xs
  unfolding values_in
  some_in field xs e some =
      let long = length-all_said (value_bytes field) xs e in
      let test : ltb 0 (length (value_bytes field)) ≡ true = lt-ltb 0 (length (value_bytes field)) (omega arith) in
      rw test e
