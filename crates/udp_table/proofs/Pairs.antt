-- Walking down two lists.
use Rattle.std.proofs.Common.{◌≡◌, ℕ, suc, ◌+◌, ◌<◌, ◌≤◌, Bool, true, false, ◌&&◌, List, [], ◌∷◌, ◌++◌, length, get_or, take, drop, refl, ap, arith, add-one}
use Rattle.std.proofs.Math.Seq.{drop-cons}
use Rattle.udp_table.specs.Pairs.{pairwise}

pub and_left : (a b : Bool) → (a && b) ≡ true → a ≡ true
and_left true b h = refl
and_left false b h = h

pub and_right : (a b : Bool) → (a && b) ≡ true → b ≡ true
and_right true b h = h
and_right false b h = cc

and_both : (a b c : Bool) → (a && (b && c)) ≡ ((a && b) && c)
and_both true b c = refl
and_both false b c = refl

and_false : (b : Bool) → (b && false) ≡ false
and_false true = refl
and_false false = refl

-- the test of what is left of two lists, by its first elements
pub pairwise_at : {A B : Type 0} (f : A → B → Bool) (xs : List A) (ys : List B) (k : ℕ) (x : A) (y : B) →
    k < length xs → k < length ys → x ≡ get_or xs k x → y ≡ get_or ys k y →
    pairwise f (drop k xs) (drop k ys) ≡ (f x y && pairwise f (drop (k + 1) xs) (drop (k + 1) ys))
pairwise_at f xs ys k x y h g e d =
    rw (add-one, drop-cons xs k x, drop-cons ys k y, ← e, ← d) refl

-- lists that pass have one length
pub length-pairwise : {A B : Type 0} (f : A → B → Bool) (xs : List A) (ys : List B) → pairwise f xs ys ≡ true → length xs ≡ length ys
length-pairwise f [] [] h = refl
length-pairwise f (x ∷ xs) (y ∷ ys) h =
    ap suc (length-pairwise f xs ys (and_right (f x y) (pairwise f xs ys) h))
length-pairwise f [] (y ∷ ys) h = cc
length-pairwise f (x ∷ xs) [] h = cc

-- lists of two parts pass where both parts do
pub pairwise-append : {A B : Type 0} (f : A → B → Bool) (xs : List A) (ys zs : List B) → length ys ≤ length xs →
    pairwise f xs (ys ++ zs) ≡ (pairwise f (take (length ys) xs) ys && pairwise f (drop (length ys) xs) zs)
pairwise-append f xs [] zs h = refl
pairwise-append f [] (y ∷ ys) zs h = absurd (omega arith)
pairwise-append f (x ∷ xs) (y ∷ ys) zs h =
    rw (pairwise-append f xs ys zs (omega arith)) (and_both (f x y) _ _)

-- lists of two lengths don't pass
pub pairwise-short : {A B : Type 0} (f : A → B → Bool) (xs : List A) (ys : List B) → length xs < length ys → pairwise f xs ys ≡ false
pairwise-short f xs [] h = absurd (omega arith)
pairwise-short f [] (y ∷ ys) h = refl
pairwise-short f (x ∷ xs) (y ∷ ys) h = rw (pairwise-short f xs ys (omega arith)) (and_false (f x y))
