-- Loops over numbers from 0 on.
use Rattle.std.proofs.Common.{◌≡◌, ℕ, ◌+◌, List, [], ◌∷◌, ◌++◌, map, sym, ap, ◌∙◌, append_assoc, arith}
use Rattle.std.specs.List.{flat_map, range_with_len}
use Rattle.std.proofs.lemmas.List.{flat_map_more, map-id}
use Rattle.std.proofs.lemmas.List.FromFn.{map-range_with_len_more}

range_more : (n : ℕ) → range_with_len 0 (n + 1) ≡ range_with_len 0 n ++ n ∷ []
range_more n =
    sym (map-id (range_with_len 0 (n + 1)))
    ∙ map-range_with_len_more (λ (k : ℕ). k) 0 n n (omega arith)
    ∙ ap (λ (ks : List ℕ). ks ++ n ∷ []) (map-id (range_with_len 0 n))

-- what each number gives, one after the other
pub all_more : {A : Type 0} (f : ℕ → List A) (start seen more : List A) (n : ℕ) → seen ≡ start ++ flat_map f (range_with_len 0 n) → more ≡ seen ++ f n → more ≡ start ++ flat_map f (range_with_len 0 (n + 1))
all_more {A} f start seen more n is here =
    here
    ∙ ap (λ (xs : List A). xs ++ f n) is
    ∙ flat_map_more f start (range_with_len 0 n) n
    ∙ ap (λ (ks : List ℕ). start ++ flat_map f ks) (sym (range_more n))

pub each_more : {A : Type 0} (f : ℕ → A) (start seen more : List A) (n : ℕ) → seen ≡ start ++ map f (range_with_len 0 n) → more ≡ seen ++ f n ∷ [] → more ≡ start ++ map f (range_with_len 0 (n + 1))
each_more {A} f start seen more n is here =
    here
    ∙ ap (λ (xs : List A). xs ++ f n ∷ []) is
    ∙ append_assoc start (map f (range_with_len 0 n)) (f n ∷ [])
    ∙ ap (λ (xs : List A). start ++ xs) (sym (map-range_with_len_more f 0 n n (omega arith)))
