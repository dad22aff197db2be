-- Fields, one at a time.
use Rattle.std.proofs.Common.{◌≡◌, ℕ, zero, suc, ◌+◌, ◌-◌, ◌<◌, Bool, true, false, not, cond, ltb, List, [], ◌∷◌, length, take, drop, get_or, Some, None, refl, sym, ap, subst, ◌∙◌, arith, inl, inr}
use Rattle.std.specs.Prelude.{position, nat_lt}
use Rattle.std.specs.List.{position_or_len, slice_split}
use Rattle.std.proofs.lemmas.Bool.{cases_eq, ltb-true, ltb-false, lt-ltb, not-true, not-false, both_ways}
use Rattle.std.proofs.lemmas.Option.{cond_some}
use Rattle.std.proofs.lemmas.List.{drop_all, drop_more, take_rest, get_or-drop, length-drop, length-take-le}
use Rattle.std.proofs.lemmas.List.Quantifiers.{position-Some}
use Rattle.std.proofs.lemmas.List.Sums.{fails_before_first}
use Rattle.std.proofs.lemmas.List.Splits.{slice_split_first, slice_split_none}
use Rattle.line_text.specs.Fields.{is_blank, fields_of}

-- ---- where an element stands first

cond_none : {A : Type 0} (b : Bool) (x : A) → cond b (Some x) None ≡ None → b ≡ false
cond_none true x e = absurd cc
cond_none false x e = refl

pub position_some : (p : ℕ → Bool) (xs : List ℕ) (i : ℕ) → position p xs ≡ Some i → (position_or_len p xs ≡ i) × (position_or_len p xs < length xs)
position_some p xs i e =
    let g = cond_some (ltb (position_or_len p xs) (length xs)) (position_or_len p xs) i e in
    (g.1, ltb-true _ _ g.0)

pub position_none : (p : ℕ → Bool) (xs : List ℕ) → position p xs ≡ None → (k : ℕ) (d : ℕ) → k < length xs → p (get_or xs k d) ≡ false
position_none p xs e k d lt =
    let g = cond_none (ltb (position_or_len p xs) (length xs)) (position_or_len p xs) e in
    let far = ltb-false _ _ g in
    fails_before_first p xs k d (omega arith)

-- ---- blanks

fields_of-blank : (b : ℕ) (bs : List ℕ) → is_blank b ≡ true → fields_of (b ∷ bs) ≡ fields_of bs
unfolding fields_of
fields_of-blank b bs e = rw e refl

fields_of-nil : fields_of [] ≡ []
unfolding fields_of
fields_of-nil = refl

behind_blanks : (bs : List ℕ) (i : ℕ) → ((k : ℕ) → k < i → k < length bs → is_blank (get_or bs k 0) ≡ true) → fields_of (drop i bs) ≡ fields_of bs
behind_blanks bs zero all = refl
behind_blanks [] (suc i) all = refl
behind_blanks (b ∷ bs) (suc i) all =
    behind_blanks bs i (λ k lt inside. all (suc k) (omega arith) (omega arith)) ∙ sym (fields_of-blank b bs (all 0 (omega arith) (omega arith)))

-- ---- the first field

first_field : (fs : List ℕ) (n : ℕ) → position is_blank fs ≡ Some n → 0 < n → fields_of fs ≡ take n fs ∷ fields_of (drop n fs)
unfolding fields_of
first_field fs n e some =
    let at = position_some is_blank fs n e in
    let here = position-Some is_blank fs n 0 e in
    let split : slice_split is_blank fs ≡ take n fs ∷ slice_split is_blank (drop (n + 1) fs)
    = subst (λ (k : ℕ). slice_split is_blank fs ≡ take k fs ∷ slice_split is_blank (drop (k + 1) fs)) at.0 (slice_split_first is_blank fs 0 at.1) in
    let long : length (take n fs) ≡ n = length-take-le n fs (omega (arith, here.0)) in
    let filled : nat_lt 0 (length (take n fs)) ≡ true = lt-ltb 0 (length (take n fs)) (omega arith) in
    let kept : fields_of fs ≡ take n fs ∷ fields_of (drop (n + 1) fs) = rw split (rw filled refl) in
    let rest : fields_of (drop n fs) ≡ fields_of (drop (n + 1) fs)
    = ap fields_of (drop_more fs n 0 here.0) ∙ fields_of-blank (get_or fs n 0) (drop (n + 1) fs) here.1 in
    kept ∙ ap (λ (x : List (List ℕ)). take n fs ∷ x) (sym rest)

one_field : (fs : List ℕ) → 0 < length fs → position is_blank fs ≡ None → fields_of fs ≡ fs ∷ []
unfolding fields_of
one_field fs some e =
    let split : slice_split is_blank fs ≡ fs ∷ [] = slice_split_none is_blank fs (λ k d lt. position_none is_blank fs e k d lt) in
    let filled : nat_lt 0 (length fs) ≡ true = lt-ltb 0 (length fs) some in
    rw split (rw filled refl)

-- the first byte behind the blanks is none
begins : (line : List ℕ) (start : ℕ) → position (λ b. not (is_blank b)) line ≡ Some start → is_blank (get_or (drop start line) 0 0) ≡ false
begins line start e =
    let here = position-Some (λ b. not (is_blank b)) line start 0 e in
    let same : get_or (drop start line) 0 0 ≡ get_or line start 0 = get_or-drop start line 0 0 ∙ ap (λ (k : ℕ). get_or line k 0) (omega arith) in
    ap is_blank same ∙ not-true (is_blank (get_or line start 0)) here.1

skipped : (line : List ℕ) (start : ℕ) → position (λ b. not (is_blank b)) line ≡ Some start → fields_of (drop start line) ≡ fields_of line
skipped line start e =
    let here = position-Some (λ b. not (is_blank b)) line start 0 e in
    behind_blanks line start (λ k lt inside. not-false (is_blank (get_or line k 0)) (here.2 k lt))

-- the end of the first field isn't its beginning
filled : (fs : List ℕ) (n : ℕ) → is_blank (get_or fs 0 0) ≡ false → position is_blank fs ≡ Some n → 0 < n
filled fs n first e =
    let here = position-Some is_blank fs n 0 e in
    elim (cases_eq n 0) [
      | inl zero' ↦ absurd (both_ways (is_blank (get_or fs 0 0)) first (subst (λ (k : ℕ). is_blank (get_or fs k 0) ≡ true) zero' here.1))
      | inr more ↦ omega arith
    ]

-- a part of a slice from an index on, as slices show it
abbrev pub from : List ℕ → ℕ → List ℕ
from xs i = take (length xs - i) (drop i xs)

pub no_field : (line : List ℕ) → position (λ b. not (is_blank b)) line ≡ None → fields_of line ≡ []
no_field line e =
    sym (behind_blanks line (length line) (λ k lt inside. not-false (is_blank (get_or line k 0)) (position_none (λ b. not (is_blank b)) line e k 0 inside)))
    ∙ ap fields_of (drop_all (length line) line (omega arith)) ∙ fields_of-nil

pub field_cut : (line : List ℕ) (start n : ℕ) → position (λ b. not (is_blank b)) line ≡ Some start → position is_blank (from line start) ≡ Some n → fields_of line ≡ take n (from line start) ∷ fields_of (from (from line start) n)
field_cut line start n e f =
    let rest : from line start ≡ drop start line = take_rest line start in
    let g : position is_blank (drop start line) ≡ Some n = ap (position is_blank) (sym rest) ∙ f in
    let cut = first_field (drop start line) n g (filled (drop start line) n (begins line start e) g) in
    rw rest (rw take_rest (sym (skipped line start e) ∙ cut))

pub field_whole : (line : List ℕ) (start : ℕ) → position (λ b. not (is_blank b)) line ≡ Some start → position is_blank (from line start) ≡ None → fields_of line ≡ from line start ∷ fields_of (from (from line start) (length (from line start)))
field_whole line start e f =
    let here = position-Some (λ b. not (is_blank b)) line start 0 e in
    let rest : from line start ≡ drop start line = take_rest line start in
    let fs = from line start in
    let some : 0 < length fs = omega (arith, here.0, ap length rest, length-drop start line) in
    let last : from fs (length fs) ≡ [] = take_rest fs (length fs) ∙ drop_all (length fs) fs (omega arith) in
    sym (skipped line start e) ∙ ap fields_of (sym rest) ∙ one_field fs some f ∙ ap (λ (x : List (List ℕ)). fs ∷ x) (sym (ap fields_of last ∙ fields_of-nil))
