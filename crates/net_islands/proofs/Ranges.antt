-- Lists made by index, with one element more.
use Rattle.std.proofs.Common.{◌≡◌, ◌+◌, ◌<◌, ℕ, List, [], ◌∷◌, ◌++◌, length, map, take, get_or, refl, sym, ap, ◌∙◌, arith}
use Rattle.std.specs.List.{range_with_len, enumerate_from, zip}
use Rattle.std.proofs.lemmas.List.{map-id, take_more, length-take-le, map-append}
use Rattle.std.proofs.lemmas.List.FromFn.{map-range_with_len_more}

pub range_more : (n : ℕ) → range_with_len 0 (n + 1) ≡ range_with_len 0 n ++ n ∷ []
range_more n =
    sym (map-id (range_with_len 0 (n + 1))) ∙ map-range_with_len_more (λ (k : ℕ). k) 0 n n (omega arith)
    ∙ ap (λ (xs : List ℕ). xs ++ n ∷ []) (map-id (range_with_len 0 n))

pub enumerate_from-push : {X : Type 0} (n : ℕ) (xs : List X) (x : X) → enumerate_from n (xs ++ x ∷ []) ≡ enumerate_from n xs ++ (n + length xs, x) ∷ []
enumerate_from-push n [] x = ap (λ (k : ℕ). (k, x) ∷ []) (omega arith)
enumerate_from-push {X = X} n (y ∷ xs) x =
    ap (λ (rest : List (ℕ × X)). (n, y) ∷ rest)
    (enumerate_from-push (n + 1) xs x ∙ ap (λ (k : ℕ). enumerate_from (n + 1) xs ++ (k, x) ∷ []) (omega arith))

-- one more element of a list with its number
pub enumerate_more : {X : Type 0} (xs : List X) (i : ℕ) (x : X) → i < length xs → x ≡ get_or xs i x →
    enumerate_from 0 (take (i + 1) xs) ≡ enumerate_from 0 (take i xs) ++ (i, x) ∷ []
enumerate_more {X = X} xs i x lt at =
    let long : length (take i xs) ≡ i = length-take-le i xs (omega arith) in
    ap (λ (ys : List X). enumerate_from 0 ys) (take_more xs i x lt)
    ∙ enumerate_from-push 0 (take i xs) (get_or xs i x)
    ∙ ap (λ (k : ℕ). enumerate_from 0 (take i xs) ++ (k, get_or xs i x) ∷ []) (omega arith)
    ∙ ap (λ (y : X). enumerate_from 0 (take i xs) ++ (i, y) ∷ []) (sym at)

pub zip-push : {X Y : Type 0} (xs : List X) (ys : List Y) (x : X) (y : Y) → length xs ≡ length ys → zip (xs ++ x ∷ []) (ys ++ y ∷ []) ≡ zip xs ys ++ (x, y) ∷ []
zip-push [] [] x y e = refl
zip-push [] (b ∷ ys) x y e = absurd (omega arith)
zip-push (a ∷ xs) [] x y e = absurd (omega arith)
zip-push {X = X} {Y = Y} (a ∷ xs) (b ∷ ys) x y e = ap (λ (rest : List (X × Y)). (a, b) ∷ rest) (zip-push xs ys x y (omega arith))

-- one more element of a list that a function changes
pub map_more : {X Y : Type 0} (f : X → Y) (xs : List X) (i : ℕ) (d : X) → i < length xs → map f (take (i + 1) xs) ≡ map f (take i xs) ++ f (get_or xs i d) ∷ []
map_more f xs i d lt = ap (map f) (take_more xs i d lt) ∙ map-append f (take i xs) (get_or xs i d ∷ [])
