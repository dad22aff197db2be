-- Lines, fields and numbers, a step at a time.
use Rattle.std.proofs.Common.{◌≡◌, ℕ, zero, suc, ◌+◌, ◌-◌, ◌*◌, ◌^◌, ◌<◌, ◌≤◌, Bool, true, false, cond, eqb, ltb, List, [], ◌∷◌, length, take, drop, get_or, Option, Some, None, refl, sym, ap, subst, ◌∙◌, arith, inl, inr, add-one, drop-cons}
use Rattle.std.specs.Prelude.{position}
use Rattle.std.specs.List.{onto_first, position_or_len, slice_split}
use Rattle.std.proofs.lemmas.Bool.{cases_Bool, ltb-true, ltb-false, lt-leb, le-leb}
use Rattle.std.proofs.lemmas.Option.{cond_some}
use Rattle.std.proofs.lemmas.List.{drop_all, take_rest}
use Rattle.std.proofs.lemmas.List.Quantifiers.{position-Some}
use Rattle.std.proofs.lemmas.List.Sums.{fails_before_first}
use Rattle.std.proofs.lemmas.List.Splits.{slice_split_first, slice_split_none}
use Rattle.gate_net.specs.Steps.{◌>>=◌}
use Rattle.first_vectors.specs.Fields.{lines_of, fields_of, two_of, digit_of, number_after, within_limit, limited_after}

-- ---- where a byte stands first

cond_none : {A : Type 0} (b : Bool) (x : A) → cond b (Some x) None ≡ None → b ≡ false
cond_none true x e = absurd cc
cond_none false x e = refl

pub position_some : (p : ℕ → Bool) (xs : List ℕ) (i : ℕ) → position p xs ≡ Some i → (position_or_len p xs ≡ i) × (position_or_len p xs < length xs)
position_some p xs i e =
    let g = cond_some (ltb (position_or_len p xs) (length xs)) (position_or_len p xs) i e in
    (g.1, ltb-true _ _ g.0)

pub position_none : (p : ℕ → Bool) (xs : List ℕ) → position p xs ≡ None → (k : ℕ) (d : ℕ) → k < length xs → p (get_or xs k d) ≡ false
position_none p xs e k d lt =
    let g = cond_none (ltb (position_or_len p xs) (length xs)) (position_or_len p xs) e in
    let far = ltb-false _ _ g in
    fails_before_first p xs k d (omega arith)

-- ---- the first line

pub lines_cut : (bs : List ℕ) (i : ℕ) → i < length bs → ((k : ℕ) → k < i → eqb (get_or bs k 0) 10 ≡ false) → eqb (get_or bs i 0) 10 ≡ true → lines_of bs ≡ take i bs ∷ lines_of (drop (suc i) bs)
lines_cut [] i lt before here = absurd (omega arith)
lines_cut (b ∷ bs) zero lt before here = rw here refl
lines_cut (b ∷ bs) (suc i) lt before here =
    let first : eqb b 10 ≡ false = before 0 (omega arith) in
    let rest : lines_of bs ≡ take i bs ∷ lines_of (drop (suc i) bs) = lines_cut bs i (omega arith) (λ k h. before (suc k) (omega arith)) here in
    rw (first, rest) refl

pub lines_whole : (bs : List ℕ) → 0 < length bs → ((k : ℕ) → k < length bs → eqb (get_or bs k 0) 10 ≡ false) → lines_of bs ≡ bs ∷ []
lines_whole [] lt before = absurd (omega arith)
lines_whole (b ∷ []) lt before =
    let first : eqb b 10 ≡ false = before 0 (omega arith) in
    rw first refl
lines_whole (b ∷ c ∷ bs) lt before =
    let first : eqb b 10 ≡ false = before 0 (omega arith) in
    let rest : lines_of (c ∷ bs) ≡ (c ∷ bs) ∷ [] = lines_whole (c ∷ bs) (omega arith) (λ k h. before (suc k) (omega arith)) in
    rw first (ap (onto_first b) rest)

pub line_cut : (bs : List ℕ) (i : ℕ) → position (λ b. eqb b 10) bs ≡ Some i → lines_of bs ≡ take i bs ∷ lines_of (take (length bs - (i + 1)) (drop (i + 1) bs))
line_cut bs i e =
    let at = position-Some (λ b. eqb b 10) bs i 0 e in
    rw (take_rest, add-one) (lines_cut bs i at.0 at.2 at.1)

pub line_whole : (bs : List ℕ) → 0 < length bs → position (λ b. eqb b 10) bs ≡ None → lines_of bs ≡ bs ∷ lines_of (take (length bs - length bs) (drop (length bs) bs))
line_whole bs some e =
    rw (take_rest, drop_all (length bs) bs (omega arith)) (lines_whole bs some (λ k lt. position_none (λ b. eqb b 10) bs e k 0 lt))

-- ---- the first field

pub field_cut : (bs : List ℕ) (i : ℕ) → position (λ b. eqb b 32) bs ≡ Some i → fields_of bs ≡ take i bs ∷ fields_of (take (length bs - (i + 1)) (drop (i + 1) bs))
field_cut bs i e =
    let at = position_some (λ b. eqb b 32) bs i e in
    rw take_rest (subst (λ (k : ℕ). fields_of bs ≡ take k bs ∷ fields_of (drop (k + 1) bs)) at.0 (slice_split_first (λ b. eqb b 32) bs 0 at.1))

pub field_whole : (bs : List ℕ) → position (λ b. eqb b 32) bs ≡ None → fields_of bs ≡ bs ∷ []
field_whole bs e = slice_split_none (λ b. eqb b 32) bs (λ k d lt. position_none (λ b. eqb b 32) bs e k d lt)

split_first : (p : ℕ → Bool) (bs : List ℕ) → (first : List ℕ) × (others : List (List ℕ)) × (slice_split p bs ≡ first ∷ others)
split_first p [] = ([], [], refl)
split_first p (b ∷ bs) =
    let ih = split_first p bs in
    elim (cases_Bool (p b)) [
      | inl e ↦ ([], slice_split p bs, rw e refl)
      | inr e ↦ (b ∷ ih.0, ih.1, rw (e, ih.2) refl)
    ]

pub three_fields : (line rest last first second : List ℕ) → fields_of line ≡ first ∷ fields_of rest → fields_of rest ≡ second ∷ fields_of last → two_of (fields_of line) ≡ None
three_fields line rest last first second e f =
    let g = split_first (λ b. eqb b 32) last in
    ap two_of (e ∙ ap (λ (x : List (List ℕ)). first ∷ x) (f ∙ ap (λ (x : List (List ℕ)). second ∷ x) g.2))

-- ---- digits

over : (n : ℕ) (digit : Option ℕ) (ds : List ℕ) → ((value : ℕ) → limited_after (n * 10 + value) ds ≡ None) → ((digit >>= λ value. number_after (n * 10 + value) ds) >>= within_limit) ≡ None
over n None ds later = refl
over n (Some value) ds later = later value

pub number_over : (n : ℕ) (ds : List ℕ) → 2 ^ 40 < n → limited_after n ds ≡ None
unfolding number_after within_limit
number_over n [] big = rw (lt-leb n (2 ^ 40) big) refl
number_over n (d ∷ ds) big = over n (digit_of d) ds (λ value. number_over (n * 10 + value) ds (omega arith))

pub number_stop : (n i : ℕ) (ds : List ℕ) (total : Option ℕ) → i < length ds → digit_of (get_or ds i 0) ≡ None → limited_after n (drop i ds) ≡ total → None ≡ total
unfolding number_after
number_stop n i ds total lt bad so_far =
    let here : drop i ds ≡ get_or ds i 0 ∷ drop (suc i) ds = drop-cons ds i 0 lt in
    let one : limited_after n (get_or ds i 0 ∷ drop (suc i) ds) ≡ None = rw bad refl in
    sym one ∙ ap (limited_after n) (sym here) ∙ so_far

pub number_step : (n i value : ℕ) (ds : List ℕ) (total : Option ℕ) → i < length ds → digit_of (get_or ds i 0) ≡ Some value → limited_after n (drop i ds) ≡ total → limited_after (n * 10 + value) (drop (i + 1) ds) ≡ total
unfolding number_after
number_step n i value ds total lt good so_far =
    let here : drop i ds ≡ get_or ds i 0 ∷ drop (suc i) ds = drop-cons ds i 0 lt in
    let one : limited_after n (get_or ds i 0 ∷ drop (suc i) ds) ≡ limited_after (n * 10 + value) (drop (suc i) ds) = rw good refl in
    rw add-one (sym one ∙ ap (limited_after n) (sym here) ∙ so_far)

pub number_end : (n i : ℕ) (ds : List ℕ) (total : Option ℕ) → length ds ≤ i → n ≤ 2 ^ 40 → limited_after n (drop i ds) ≡ total → Some n ≡ total
unfolding number_after within_limit
number_end n i ds total le small so_far =
    let one : limited_after n [] ≡ Some n = rw (le-leb n (2 ^ 40) small) refl in
    sym one ∙ ap (limited_after n) (sym (drop_all i ds le)) ∙ so_far
