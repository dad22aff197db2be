-- Numbers, a digit at a time.
use Rattle.std.proofs.Common.{◌≡◌, ℕ, suc, ◌+◌, ◌*◌, ◌^◌, ◌<◌, ◌≤◌, List, [], ◌∷◌, length, drop, get_or, Option, Some, None, refl, sym, ap, ◌∙◌, arith, add-one, drop-cons}
use Rattle.std.specs.Prelude.{option_map, option_and_then}
use Rattle.std.proofs.lemmas.Bool.{le-leb, lt-leb}
use Rattle.std.proofs.lemmas.List.{drop_all}
use Rattle.line_text.specs.Numbers.{digit_of, number_behind, decimal_of, number_of, cap, capped_decimal, capped_number}

-- a digit behind a number that is capped
pub capped_digit : (n value : ℕ) → cap (cap n * 10 + value) ≡ cap (n * 10 + value)
capped_digit n value = omega arith

behind_digit : (m n : ℕ) (ds : List ℕ) (digit : Option ℕ) → ((value : ℕ) → option_map cap (number_behind (m * 10 + value) ds) ≡ option_map cap (number_behind (n * 10 + value) ds))
    → option_map cap (option_and_then (λ value. number_behind (m * 10 + value) ds) digit) ≡ option_map cap (option_and_then (λ value. number_behind (n * 10 + value) ds) digit)
behind_digit m n ds None same = refl
behind_digit m n ds (Some value) same = same value

-- what the digits behind a number make is above the cap with it
capped_behind : (n : ℕ) (ds : List ℕ) → option_map cap (number_behind (cap n) ds) ≡ option_map cap (number_behind n ds)
capped_behind n [] = ap Some (omega arith)
capped_behind n (d ∷ ds) = behind_digit (cap n) n ds (digit_of d) (λ value.
    sym (capped_behind (cap n * 10 + value) ds)
    ∙ ap (λ (m : ℕ). option_map cap (number_behind m ds)) (capped_digit n value)
    ∙ capped_behind (n * 10 + value) ds)

-- ---- steps

-- the number that is read so far, and the digits that are left
abbrev pub number_from : ℕ → ℕ → List ℕ → Option ℕ
number_from n i ds = option_map cap (number_behind n (drop i ds))

pub number_start : (ds : List ℕ) → 0 < length ds → number_from 0 0 ds ≡ capped_decimal ds
unfolding decimal_of
number_start [] some = absurd (omega arith)
number_start (d ∷ ds) some = refl

pub number_stop : (n i : ℕ) (ds : List ℕ) (total : Option ℕ) → i < length ds → digit_of (get_or ds i 0) ≡ None → number_from n i ds ≡ total → None ≡ total
number_stop n i ds total lt bad so_far =
    let here : drop i ds ≡ get_or ds i 0 ∷ drop (suc i) ds = drop-cons ds i 0 lt in
    let one : option_map cap (number_behind n (get_or ds i 0 ∷ drop (suc i) ds)) ≡ None = rw bad refl in
    sym one ∙ ap (λ (x : List ℕ). option_map cap (number_behind n x)) (sym here) ∙ so_far

pub number_step : (n i value next : ℕ) (ds : List ℕ) (total : Option ℕ) → i < length ds → digit_of (get_or ds i 0) ≡ Some value → next ≡ cap (n * 10 + value) → number_from n i ds ≡ total → number_from next (i + 1) ds ≡ total
number_step n i value next ds total lt good is so_far =
    let here : drop i ds ≡ get_or ds i 0 ∷ drop (suc i) ds = drop-cons ds i 0 lt in
    let one : option_map cap (number_behind n (get_or ds i 0 ∷ drop (suc i) ds)) ≡ option_map cap (number_behind (n * 10 + value) (drop (suc i) ds)) = rw good refl in
    let same : number_from next (suc i) ds ≡ option_map cap (number_behind (n * 10 + value) (drop (suc i) ds))
    = ap (λ (m : ℕ). option_map cap (number_behind m (drop (suc i) ds))) is ∙ capped_behind (n * 10 + value) (drop (suc i) ds) in
    rw add-one (same ∙ sym one ∙ ap (λ (x : List ℕ). option_map cap (number_behind n x)) (sym here) ∙ so_far)

pub number_end : (n i : ℕ) (ds : List ℕ) (total : Option ℕ) → length ds ≤ i → n < 2 ^ 64 → number_from n i ds ≡ total → Some n ≡ total
number_end n i ds total le small so_far =
    let same : n ≡ cap n = omega arith in
    ap Some same ∙ ap (λ (x : List ℕ). option_map cap (number_behind n x)) (sym (drop_all i ds le)) ∙ so_far

pub number_none : (ds : List ℕ) → length ds ≡ 0 → None ≡ capped_decimal ds
unfolding decimal_of
number_none [] none = refl
number_none (d ∷ ds) none = absurd (omega arith)

-- ---- up to 20 digits

pub number_short : (ds : List ℕ) → length ds ≤ 20 → capped_decimal ds ≡ capped_number ds
unfolding number_of
number_short ds short = rw (le-leb (length ds) 20 short) refl

pub number_long : (ds : List ℕ) → 20 < length ds → None ≡ capped_number ds
unfolding number_of
number_long ds long = rw (lt-leb (length ds) 20 long) refl
