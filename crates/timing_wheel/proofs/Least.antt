-- The tree of least times: its root is the least leaf.
use Rattle.std.proofs.Common.{◌≡◌, ℕ, suc, zero, ◌+◌, ◌-◌, ◌/◌, ◌<◌, ◌≤◌, List, [], length, min, get_or, drop, refl, sym, ap, subst, ◌∙◌, ◌≢◌, arith, inl, inr}
use Rattle.std.proofs.lemmas.Bool.{cases_lt}
use Rattle.std.proofs.lemmas.List.{get_or-drop, length-drop}
use Rattle.timing_wheel.specs.Times.{idle, IsLeastOf, IsLeastTree}

-- a child isn't below its parent
parent_below : (cells : List ℕ) (leaves i : ℕ) → IsLeastTree cells leaves → 1 < i → i < leaves + leaves → get_or cells (i / 2) 0 ≤ get_or cells i 0
parent_below cells leaves i t above within =
    let inner = t.inner (i / 2) (omega arith) (omega arith) in
    elim (cases_lt ((i / 2) + (i / 2)) i) [
      | inl lt ↦ let e : (i / 2) + (i / 2) + 1 ≡ i = omega arith in
          let below : min (get_or cells ((i / 2) + (i / 2)) 0) (get_or cells ((i / 2) + (i / 2) + 1) 0) ≤ get_or cells ((i / 2) + (i / 2) + 1) 0 = omega arith in
          subst (λ (k : ℕ). get_or cells (i / 2) 0 ≤ get_or cells k 0) e (omega arith)
      | inr le ↦ let e : (i / 2) + (i / 2) ≡ i = omega arith in
          subst (λ (k : ℕ). get_or cells (i / 2) 0 ≤ get_or cells k 0) e (omega arith)
    ]

-- the root isn't above any cell
pub root_below : (fuel i : ℕ) (cells : List ℕ) (leaves : ℕ) → IsLeastTree cells leaves → i ≤ fuel → 0 < i → i < leaves + leaves → get_or cells 1 0 ≤ get_or cells i 0
root_below zero i cells leaves t fits above within = absurd (omega arith)
root_below (suc fuel) i cells leaves t fits above within =
    elim (cases_lt 1 i) [
      | inl lt ↦ let up = root_below fuel (i / 2) cells leaves t (omega arith) (omega arith) (omega arith) in
          let here = parent_below cells leaves i t lt within in omega arith
      | inr le ↦ let e : 1 ≡ i = omega arith in subst (λ (k : ℕ). get_or cells 1 0 ≤ get_or cells k 0) e (omega arith)
    ]

-- below each cell stands a leaf of its time
pub leaf_below : (fuel i : ℕ) (cells : List ℕ) (leaves : ℕ) → IsLeastTree cells leaves → leaves + leaves ≤ i + fuel → 0 < i → i < leaves + leaves → (j : ℕ) × (j < leaves) × (get_or cells (leaves + j) 0 ≡ get_or cells i 0)
leaf_below zero i cells leaves t fits above within = absurd (omega arith)
leaf_below (suc fuel) i cells leaves t fits above within =
    elim (cases_lt i leaves) [
      | inl lt ↦ let inner = t.inner i above lt in
          elim (cases_lt (get_or cells (i + i + 1) 0) (get_or cells (i + i) 0)) [
            | inl right ↦ let down = leaf_below fuel (i + i + 1) cells leaves t (omega arith) (omega arith) (omega arith) in
                (down.0, down.1, down.2 ∙ omega arith)
            | inr left ↦ let down = leaf_below fuel (i + i) cells leaves t (omega arith) (omega arith) (omega arith) in
                (down.0, down.1, down.2 ∙ omega arith)
          ]
      | inr le ↦ let e : leaves + (i - leaves) ≡ i = omega arith in
          (i - leaves, omega arith, ap (λ (k : ℕ). get_or cells k 0) e)
    ]

pub length_leaves : (cells : List ℕ) (leaves : ℕ) → length cells ≡ leaves + leaves → length (drop leaves cells) ≡ leaves
length_leaves cells leaves size = omega (arith, length-drop leaves cells)

-- the root's time is the least of the leaves
pub root_is_least : (cells : List ℕ) (leaves : ℕ) → IsLeastTree cells leaves → 0 < leaves → IsLeastOf (drop leaves cells) (get_or cells 1 0)
root_is_least cells leaves t some =
    let size = length_leaves cells leaves t.size in
    let leaf = leaf_below (leaves + leaves) 1 cells leaves t (omega arith) (omega arith) (omega arith) in
    record {
      below = λ i lt. rw get_or-drop (root_below (leaves + i) (leaves + i) cells leaves t (omega arith) (omega arith) (omega arith));
      reached = inr (leaf.0, (let within : leaf.0 < length (drop leaves cells) = omega arith in within), get_or-drop leaves cells leaf.0 0 ∙ leaf.2);
    }

-- a cell of the root's time among the leaves has the least time
pub leaf_is_least : (cells : List ℕ) (leaves leaf : ℕ) → IsLeastTree cells leaves → leaf < leaves → get_or cells (leaves + leaf) 0 ≡ get_or cells 1 0 → IsLeastOf (drop leaves cells) (get_or (drop leaves cells) leaf 0)
leaf_is_least cells leaves leaf t within same =
    subst (IsLeastOf (drop leaves cells)) (sym (get_or-drop leaves cells leaf 0 ∙ same)) (root_is_least cells leaves t (omega arith))

-- no leaf has a time
pub none_is_least : IsLeastOf [] idle
none_is_least = record { below = λ i lt. absurd (omega arith); reached = inl refl }

-- the tree holds but at the cell above this one
pub record IsLeastTreeBut (cells : List ℕ) (leaves cell : ℕ) : Type 0 where
  pub size : length cells ≡ leaves + leaves
  pub inner : (i : ℕ) → 0 < i → i < leaves → i ≢ cell / 2 → get_or cells i 0 ≡ min (get_or cells (i + i) 0) (get_or cells (i + i + 1) 0)
