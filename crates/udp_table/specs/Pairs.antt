-- Two lists of one length, element by element.
use Rattle.std.specs.Prelude.{Bool, true, false, ◌&&◌, List, [], ◌∷◌}

-- whether the test holds of each two elements at one place; lists of two lengths don't pass
abbrev pub pairwise : {A B : Type 0} → (A → B → Bool) → List A → List B → Bool
pairwise f [] [] = true
pairwise f (x ∷ xs) (y ∷ ys) = f x y && pairwise f xs ys
pairwise f _ _ = false
