-- The names of a net's bits differ.
use Rattle.std.proofs.Common.{◌≡◌, ℕ, zero, suc, ◌+◌, ◌-◌, ◌<◌, ◌≤◌, ◌^◌, Bool, true, false, leb-true, leb-false, List, [], ◌∷◌, ◌++◌, map, Option, Some, None, refl, arith}
use Rattle.std.specs.Prelude.{nat_le, if◌then◌else◌}
use Rattle.std.specs.List.{AllByRecursion, flat_map, range_with_len}
use Rattle.v_tree.specs.declared.expressions.RangeBounds.{RangeBounds}
use Rattle.item_parts.specs.Widths.{range_width}
use Rattle.flat_names.specs.Spelling.{IsIndex}
use Rattle.netlist_plan.specs.Flattening.{bit_index}
use Rattle.flattening_laws.specs.SoundPlans.{IsRange}
use Rattle.flattening_laws.proofs.Apart.{AreApart, Differ, each_append, each_map, each_of_map}

-- ---- numbers in a row

-- what holds of each number in a row
pub each_range : (P : ℕ → Type 0) (a n : ℕ) → ((k : ℕ) → a ≤ k → k < a + n → P k) → AllByRecursion P (range_with_len a n)
each_range P a zero f = tt
each_range P a (suc n) f = (f a (omega arith) (omega arith), each_range P (a + 1) n (λ k least less. f k (omega arith) (omega arith)))

module _ {X : Type 0} where
  -- images of numbers in a row that differ
  pub range_apart : (r : ℕ → X) (a n : ℕ) → ((j k : ℕ) → a ≤ j → j < k → k < a + n → Differ (r j) (r k)) → AreApart (map r (range_with_len a n))
  range_apart r a zero d = tt
  range_apart r a (suc n) d = (
    each_map (Differ (r a)) r (range_with_len (a + 1) n)
        (each_range (λ k. Differ (r a) (r k)) (a + 1) n (λ k least less. d a k (omega arith) (omega arith) (omega arith))),
    range_apart r (a + 1) n (λ j k least less most. d j k (omega arith) less (omega arith)),
  )

  -- those of the images that aren't left out
  pub each_some : (P : X → Type 0) (left : ℕ → Bool) (r : ℕ → X) (ks : List ℕ) → AllByRecursion (λ k. P (r k)) ks → AllByRecursion P (flat_map (λ k. if left k then [] else r k ∷ []) ks)
  each_some P left r [] h = tt
  each_some P left r (k ∷ ks) h = each_append P (if left k then [] else r k ∷ []) (flat_map (λ k. if left k then [] else r k ∷ []) ks) (by_left (left k)) (each_some P left r ks h.1)
    where
      by_left : (b : Bool) → AllByRecursion P (if b then [] else r k ∷ [])
      by_left true = tt
      by_left false = (h.0, tt)

  pub apart_some : (left : ℕ → Bool) (r : ℕ → X) (ks : List ℕ) → AreApart (map r ks) → AreApart (flat_map (λ k. if left k then [] else r k ∷ []) ks)
  apart_some left r [] h = tt
  apart_some left r (k ∷ ks) h = by_left (apart_some left r ks h.1) (left k)
    where
      rest : List X
      rest = flat_map (λ k. if left k then [] else r k ∷ []) ks

      by_left : AreApart rest → (b : Bool) → AreApart ((if b then [] else r k ∷ []) ++ rest)
      by_left apart true = apart
      by_left apart false = (each_some (Differ (r k)) left r ks (each_of_map (Differ (r k)) r ks h.0), apart)

-- ---- indexes

some_same : (a b : ℕ) → Some a ≡ Some b → a ≡ b
some_same a b e = cc

-- two places of a vector have two indexes
pub index_apart : (range : Option RangeBounds) (j k : ℕ) → j < k → k < range_width range → Differ (bit_index range j) (bit_index range k)
index_apart None j k less wide e = omega arith
index_apart (Some range) j k less wide e = by_direction (nat_le range.right range.left) refl (some_same _ _ e)
  where
    by_direction : (b : Bool) → nat_le range.right range.left ≡ b
        → (if b then range.left - j else range.left + j) ≡ (if b then range.left - k else range.left + k) → ⊥
    by_direction true d same = let le = leb-true range.right range.left d in omega arith
    by_direction false d same = omega arith

-- an index is a number of 32 bits
pub index_small : (range : Option RangeBounds) (k : ℕ) → IsRange range → k < range_width range → IsIndex (bit_index range k)
index_small None k is wide = tt
index_small (Some range) k is wide = by_direction (nat_le range.right range.left) refl
  where
    by_direction : (b : Bool) → nat_le range.right range.left ≡ b → (if b then range.left - k else range.left + k) < 2 ^ 32
    by_direction true d = omega (arith, is.0)
    by_direction false d = let more = leb-false range.right range.left d in omega (arith, is.1)
