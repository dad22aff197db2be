-- Maps by two functions that agree, and two lists place by place.
use Rattle.std.proofs.Common.{◌≡◌, ℕ, zero, suc, ◌<◌, List, [], ◌∷◌, length, get_or, refl, ap, sym, ◌∙◌, arith}
use Rattle.std.specs.Prelude.{All, map}
use Rattle.std.specs.List.{AllZip, range_with_len}
use Rattle.std.proofs.lemmas.List.{same_lists}
use Rattle.std.proofs.lemmas.List.Elements.{All-head, All-tail}
use Rattle.std.proofs.lemmas.List.FromFn.{length-map-range_with_len, get_or-map-range_with_len}

pub map-agree : {X Y : Type 0} (f g : X → Y) (xs : List X) → All (λ x. f x ≡ g x) xs → map f xs ≡ map g xs
map-agree f g [] agree = refl
map-agree f g (x ∷ xs) agree =
    ap (λ y. y ∷ map f xs) (All-head (λ x. f x ≡ g x) x xs agree)
    ∙ ap (λ ys. g x ∷ ys) (map-agree f g xs (All-tail (λ x. f x ≡ g x) x xs agree))

pub range-agree : {Y : Type 0} (f g : ℕ → Y) (n : ℕ) → ((k : ℕ) → k < n → f k ≡ g k) →
    map f (range_with_len 0 n) ≡ map g (range_with_len 0 n)
range-agree f g n agree =
    same_lists _ _ (length-map-range_with_len f 0 n ∙ sym (length-map-range_with_len g 0 n))
    (λ k d lt.
    let inside : k < n = (let e = length-map-range_with_len f 0 n in omega arith) in
    get_or-map-range_with_len f 0 n k k d inside (omega arith) ∙ agree k inside
    ∙ sym (get_or-map-range_with_len g 0 n k k d inside (omega arith)))

-- two lists place by place
pub zip-length : {A B : Type 0} (R : A → B → Type 0) (xs : List A) (ys : List B) → AllZip R xs ys → length xs ≡ length ys
zip-length R [] [] h = refl
zip-length R [] (y ∷ ys) h = absurd h
zip-length R (x ∷ xs) [] h = absurd h
zip-length R (x ∷ xs) (y ∷ ys) h = ap suc (zip-length R xs ys h.1)

pub zip-at : {A B : Type 0} (R : A → B → Type 0) (xs : List A) (ys : List B) (k : ℕ) (d : A) (e : B) → AllZip R xs ys → k < length xs →
    R (get_or xs k d) (get_or ys k e)
zip-at R [] [] k d e h lt = absurd (omega arith)
zip-at R [] (y ∷ ys) k d e h lt = absurd h
zip-at R (x ∷ xs) [] k d e h lt = absurd h
zip-at R (x ∷ xs) (y ∷ ys) zero d e h lt = h.0
zip-at R (x ∷ xs) (y ∷ ys) (suc k) d e h lt = zip-at R xs ys k d e h.1 (omega arith)

pub zip-from : {A B : Type 0} (R : A → B → Type 0) (xs : List A) (ys : List B) (d : A) (e : B) → length xs ≡ length ys →
    ((k : ℕ) → k < length xs → R (get_or xs k d) (get_or ys k e)) → AllZip R xs ys
zip-from R [] [] d e long each = cc
zip-from R [] (y ∷ ys) d e long each = absurd (omega arith)
zip-from R (x ∷ xs) [] d e long each = absurd (omega arith)
zip-from R (x ∷ xs) (y ∷ ys) d e long each =
    (each zero (omega arith), zip-from R xs ys d e (omega arith) (λ k lt. each (suc k) (omega arith)))
