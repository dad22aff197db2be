-- A parent's parent for a parent joins the same nets.
use Rattle.std.proofs.Common.{◌≡◌, ℕ, ◌<◌, ◌≤◌, List, length, get_or, refl, sym, ap, subst, ◌∙◌, arith, inl, inr}
use Rattle.std.proofs.Math.ListN.{set}
use Rattle.std.proofs.lemmas.Bool.{cases_eq}
use Rattle.std.proofs.lemmas.List.{get_or-set_same, get_or-set_other, length-set}
use Rattle.net_groups.specs.Joins.{Walk}
use Rattle.net_groups.specs.Forests.{IsForest, IsParent, IsRegrouped, KeepsRoots}
use Rattle.net_groups.proofs.Walks.{walk_on, walk_one, walk_back, walk_into, walk_same}

pub IsForest-set : (ps : List ℕ) (n above : ℕ) → IsForest ps → above ≤ n → IsForest (set ps n above)
IsForest-set ps n above forest le k lt =
    let short : k < length ps = omega (arith, length-set ps n above) in
    elim (cases_eq k n) [
      | inl e ↦ rw e (rw (get_or-set_same ps n above 0 (omega (arith, e))) le)
      | inr ne ↦ rw (get_or-set_other ps n k above 0 ne) (forest k short)
    ]

-- the list with the parent's parent of a net for its parent
abbrev pub halved : List ℕ → ℕ → List ℕ
halved ps n = set ps n (get_or ps (get_or ps n 0) 0)

module _ (ps : List ℕ) (n : ℕ) (forest : IsForest ps) (lt : n < length ps) where
  above-le : get_or ps (get_or ps n 0) 0 ≤ n
  above-le =
      let first : get_or ps n 0 ≤ n = forest n lt in
      let second : get_or ps (get_or ps n 0) 0 ≤ get_or ps n 0 = forest (get_or ps n 0) (omega arith) in
      omega arith

  at_same : get_or (halved ps n) n 0 ≡ get_or ps (get_or ps n 0) 0
  at_same = get_or-set_same ps n (get_or ps (get_or ps n 0) 0) 0 lt

  at_other : (k : ℕ) → (k ≡ n → ⊥) → get_or (halved ps n) k 0 ≡ get_or ps k 0
  at_other k ne = get_or-set_other ps n k (get_or ps (get_or ps n 0) 0) 0 ne

  parent-lt : get_or ps n 0 < length ps
  parent-lt = let first : get_or ps n 0 ≤ n = forest n lt in omega arith

  new-length : length (halved ps n) ≡ length ps
  new-length = length-set ps n (get_or ps (get_or ps n 0) 0)

  old_step : (a : ℕ) → a < length ps → Walk (IsParent ps) a (get_or ps a 0)
  old_step a l = walk_one (l, refl)

  new_step : (a : ℕ) → a < length ps → Walk (IsParent (halved ps n)) a (get_or (halved ps n) a 0)
  new_step a l = walk_one (subst (λ (m : ℕ). a < m) (sym new-length) l, refl)

  above_old : Walk (IsParent ps) n (get_or (halved ps n) n 0)
  above_old = subst (λ (x : ℕ). Walk (IsParent ps) n x) (sym at_same) (walk_on (old_step n lt) (old_step (get_or ps n 0) parent-lt))

  from_new : (a b : ℕ) → IsParent (halved ps n) a b → Walk (IsParent ps) a b
  from_new a b r =
      let short : a < length ps = subst (λ (m : ℕ). a < m) new-length r.0 in
      elim (cases_eq a n) [
        | inl e ↦ subst (λ (x : ℕ). Walk (IsParent ps) x b) (sym e) (subst (λ (x : ℕ). Walk (IsParent ps) n x) (sym (r.1 ∙ ap (λ x. get_or (halved ps n) x 0) e)) above_old)
        | inr ne ↦ subst (λ (x : ℕ). Walk (IsParent ps) a x) (sym (r.1 ∙ at_other a ne)) (old_step a short)
      ]

  -- the walk over the new parents from the net to its old parent
  parent_new : Walk (IsParent (halved ps n)) n (get_or ps n 0)
  parent_new = elim (cases_eq (get_or ps n 0) n) [
    | inl e ↦ walk_same (sym e)
    | inr ne ↦
        let up : Walk (IsParent (halved ps n)) n (get_or ps (get_or ps n 0) 0)
        = subst (λ (x : ℕ). Walk (IsParent (halved ps n)) n x) at_same (new_step n lt) in
        let down : Walk (IsParent (halved ps n)) (get_or ps n 0) (get_or ps (get_or ps n 0) 0)
        = subst (λ (x : ℕ). Walk (IsParent (halved ps n)) (get_or ps n 0) x) (at_other (get_or ps n 0) ne) (new_step (get_or ps n 0) parent-lt) in
        walk_on up (walk_back down)
  ]

  from_old : (a b : ℕ) → IsParent ps a b → Walk (IsParent (halved ps n)) a b
  from_old a b r = elim (cases_eq a n) [
    | inl e ↦ subst (λ (x : ℕ). Walk (IsParent (halved ps n)) x b) (sym e) (subst (λ (x : ℕ). Walk (IsParent (halved ps n)) n x) (sym (r.1 ∙ ap (λ x. get_or ps x 0) e)) parent_new)
    | inr ne ↦ subst (λ (x : ℕ). Walk (IsParent (halved ps n)) a x) (sym (r.1 ∙ sym (at_other a ne))) (new_step a r.0)
  ]

  pub IsRegrouped-halved : IsRegrouped ps (halved ps n)
  IsRegrouped-halved = record { same_length = new-length; from_new = from_new; from_old = from_old }

  pub IsForest-halved : IsForest (halved ps n)
  IsForest-halved = IsForest-set ps n (get_or ps (get_or ps n 0) 0) forest above-le

  pub KeepsRoots-halved : KeepsRoots ps (halved ps n)
  KeepsRoots-halved k l e = elim (cases_eq k n) [
    | inl same ↦
        let own : get_or ps n 0 ≡ n = subst (λ (x : ℕ). get_or ps x 0 ≡ x) same e in
        subst (λ (x : ℕ). get_or (halved ps n) x 0 ≡ x) (sym same) (at_same ∙ ap (λ x. get_or ps x 0) own ∙ own)
    | inr ne ↦ at_other k ne ∙ e
  ]

pub IsRegrouped-same : (ps : List ℕ) → IsRegrouped ps ps
IsRegrouped-same ps = record { same_length = refl; from_new = λ a b r. walk_one r; from_old = λ a b r. walk_one r }

pub IsRegrouped-on : (ps qs rs : List ℕ) → IsRegrouped ps qs → IsRegrouped qs rs → IsRegrouped ps rs
IsRegrouped-on ps qs rs f g = record {
  same_length = g.same_length ∙ f.same_length;
  from_new = λ a b r. walk_into f.from_new (g.from_new a b r);
  from_old = λ a b r. walk_into g.from_old (f.from_old a b r);
}

pub KeepsRoots-on : (ps qs rs : List ℕ) → length qs ≡ length ps → KeepsRoots ps qs → KeepsRoots qs rs → KeepsRoots ps rs
KeepsRoots-on ps qs rs e f g k l own = g k (subst (λ (m : ℕ). k < m) (sym e) l) (f k l own)

-- a net's parent's parent, over the old parents
pub walk_halved : (ps : List ℕ) (n : ℕ) → IsForest ps → n < length ps → Walk (IsParent ps) n (get_or ps (get_or ps n 0) 0)
walk_halved ps n forest lt =
    let le : get_or ps n 0 ≤ n = forest n lt in
    let near : get_or ps n 0 < length ps = omega arith in
    walk_on (walk_one {b = get_or ps n 0} (lt, refl)) (walk_one (near, refl))
