-- What follows where steps that may fail did not fail.
use Rattle.std.proofs.Common.{◌≡◌, ℕ, zero, suc, ◌+◌, ◌^◌, ◌<◌, ◌≤◌, Bool, true, false, cond, leb, List, [], ◌∷◌, length, get_or, Option, Some, None, refl, ap, arith}
use Rattle.std.specs.List.{AllZip}
use Rattle.std.proofs.lemmas.Bool.{leb-true}
use Rattle.gate_net.specs.declared.stimulus.ValueLine.{ValueLine}
use Rattle.gate_net.specs.Sound.{times_of}
use Rattle.gate_net.specs.Steps.{◌>>=◌}
use Rattle.first_vectors.specs.Fields.{number_after, within_limit, limited_after, time_of}

-- the value of a step that did not fail
pub bind_some : {A B : Type 0} (o : Option A) (f : A → Option B) (y : B) → (o >>= f) ≡ Some y → (x : A) × (o ≡ Some x) × (f x ≡ Some y)
bind_some None f y e = absurd cc
bind_some (Some x) f y e = (x, refl, e)

-- a test that did not fail
pub guard_some : {A : Type 0} (b : Bool) (o : Option A) (y : A) → cond b o None ≡ Some y → (b ≡ true) × (o ≡ Some y)
guard_some true o y e = (refl, e)
guard_some false o y e = absurd cc

-- ---- two lists in step

pub zip_length : {A B : Type 0} (R : A → B → Type 0) (xs : List A) (ys : List B) → AllZip R xs ys → length xs ≡ length ys
zip_length R [] [] z = refl
zip_length R [] (y ∷ ys) z = absurd z
zip_length R (x ∷ xs) [] z = absurd z
zip_length R (x ∷ xs) (y ∷ ys) z = ap suc (zip_length R xs ys z.1)

pub zip_at : {A B : Type 0} (R : A → B → Type 0) (xs : List A) (ys : List B) (i : ℕ) (d : A) (e : B) → AllZip R xs ys → i < length xs → R (get_or xs i d) (get_or ys i e)
zip_at R [] [] i d e z lt = absurd (omega arith)
zip_at R [] (y ∷ ys) i d e z lt = absurd z
zip_at R (x ∷ xs) [] i d e z lt = absurd z
zip_at R (x ∷ xs) (y ∷ ys) zero d e z lt = z.0
zip_at R (x ∷ xs) (y ∷ ys) (suc i) d e z lt = zip_at R xs ys i d e z.1 (omega arith)

-- ---- times

within_small : (n t : ℕ) → within_limit n ≡ Some t → t ≤ 2 ^ 40
unfolding within_limit
within_small n t e =
    let g = guard_some (leb n (2 ^ 40)) (Some n) t e in
    let same : n ≡ t = cc in
    let small = leb-true n (2 ^ 40) g.0 in
    omega arith

pub time_small : (field : List ℕ) (t : ℕ) → time_of field ≡ Some t → t ≤ 2 ^ 40
unfolding time_of
time_small field t e =
    let g = guard_some _ (limited_after 0 field) t e in
    let b = bind_some (number_after 0 field) within_limit t g.1 in
    within_small b.0 t b.2

-- the times rise from least on, up to the end
abbrev pub Rises : ℕ → List ValueLine → ℕ → Type 0
Rises least [] end = least ≤ end + 1
Rises least (line ∷ lines) end = (least ≤ line.time) × Rises (line.time + 1) lines end

rises_least : (least : ℕ) (lines : List ValueLine) (end : ℕ) → Rises least lines end → least ≤ end + 1
rises_least least [] end h = h
rises_least least (line ∷ lines) end h =
    let later = rises_least (line.time + 1) lines end h.1 in
    omega (arith, h.0)

pub rises_above : (least : ℕ) (lines : List ValueLine) (end k : ℕ) → Rises least lines end → k < length lines → least ≤ get_or (times_of lines) k 0
rises_above least [] end k h lt = absurd (omega arith)
rises_above least (line ∷ lines) end zero h lt = h.0
rises_above least (line ∷ lines) end (suc k) h lt =
    let later = rises_above (line.time + 1) lines end k h.1 (omega arith) in
    omega (arith, h.0)

pub rises_below : (least : ℕ) (lines : List ValueLine) (end k : ℕ) → Rises least lines end → k < length lines → get_or (times_of lines) k 0 ≤ end
rises_below least [] end k h lt = absurd (omega arith)
rises_below least (line ∷ lines) end zero h lt =
    let later = rises_least (line.time + 1) lines end h.1 in
    omega arith
rises_below least (line ∷ lines) end (suc k) h lt = rises_below (line.time + 1) lines end k h.1 (omega arith)

pub rises_pairs : (least : ℕ) (lines : List ValueLine) (end j k : ℕ) → Rises least lines end → j < k → k < length lines → get_or (times_of lines) j 0 < get_or (times_of lines) k 0
rises_pairs least [] end j k h lt in' = absurd (omega arith)
rises_pairs least (line ∷ lines) end j zero h lt in' = absurd (omega arith)
rises_pairs least (line ∷ lines) end zero (suc k) h lt in' =
    let later = rises_above (line.time + 1) lines end k h.1 (omega arith) in
    omega arith
rises_pairs least (line ∷ lines) end (suc j) (suc k) h lt in' = rises_pairs (line.time + 1) lines end j k h.1 (omega arith) (omega arith)

pub rises_from : (least : ℕ) (lines : List ValueLine) (end : ℕ) → ((k : ℕ) → k < length lines → least ≤ get_or (times_of lines) k 0) → ((j k : ℕ) → j < k → k < length lines → get_or (times_of lines) j 0 < get_or (times_of lines) k 0)
    → ((k : ℕ) → k < length lines → get_or (times_of lines) k 0 ≤ end) → least ≤ end + 1 → Rises least lines end
rises_from least [] end above pairs below start = start
rises_from least (line ∷ lines) end above pairs below start =
    let here : line.time ≤ end = below 0 (omega arith) in
    (above 0 (omega arith), rises_from (line.time + 1) lines end (λ k lt. let later : line.time < get_or (times_of lines) k 0 = pairs 0 (suc k) (omega arith) (omega arith) in omega arith) (λ j k lt in'. pairs (suc j) (suc k) (omega arith) (omega arith)) (λ k lt. below (suc k) (omega arith)) (omega arith))
