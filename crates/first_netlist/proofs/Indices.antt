-- Where names stand.
use Rattle.std.proofs.Common.{◌≡◌, ℕ, suc, ◌<◌, Bool, true, false, cond, List, [], ◌∷◌, length, Option, Some, None, refl, arith}
use Rattle.std.specs.Option.{option_map}
use Rattle.name_table.specs.Names.{same_name, index_of}

-- an index is below the length
pub index_within : (name : List ℕ) (names : List (List ℕ)) (k : ℕ) → index_of name names ≡ Some k → k < length names
index_within name [] k h = absurd cc
index_within name (other ∷ others) k h = by (same_name name other) (index_of name others) (index_within name others) h
  where
    by : (found : Bool) (rest : Option ℕ) → ((j : ℕ) → rest ≡ Some j → j < length others) → cond found (Some 0) (option_map (λ n. suc n) rest) ≡ Some k → k < suc (length others)
    by true rest below e = let first : 0 ≡ k = cc in omega arith
    by false (Some j) below e = let next : suc j ≡ k = cc in omega (arith, below j refl)
    by false None below e = absurd cc
