-- One more net whose parent is a root.
use Rattle.std.proofs.Common.{◌≡◌, ◌+◌, ℕ, ◌<◌, ◌≤◌, List, length, get_or, sym, ap, subst, ◌∙◌, arith, inl, inr}
use Rattle.std.proofs.lemmas.Bool.{cases_eq, cases_lt}
use Rattle.std.proofs.lemmas.List.{get_or-set_same, get_or-set_other}
use Rattle.net_groups.specs.Forests.{IsForest}
use Rattle.net_groups.proofs.Halving.{halved}

module _ (ps : List ℕ) (n : ℕ) (forest : IsForest ps) (lt : n < length ps)
    (flat : (k : ℕ) → k < n → get_or ps (get_or ps k 0) 0 ≡ get_or ps k 0) where
  at_other : (k : ℕ) → (k ≡ n → ⊥) → get_or (halved ps n) k 0 ≡ get_or ps k 0
  at_other k ne = get_or-set_other ps n k (get_or ps (get_or ps n 0) 0) 0 ne

  at_same : get_or (halved ps n) n 0 ≡ get_or ps (get_or ps n 0) 0
  at_same = get_or-set_same ps n (get_or ps (get_or ps n 0) 0) 0 lt

  -- the parent of the parent of the net is a root
  top : get_or ps (get_or ps (get_or ps n 0) 0) 0 ≡ get_or ps (get_or ps n 0) 0
  top = elim (cases_lt (get_or ps n 0) n) [
    | inl below ↦ flat (get_or ps n 0) below
    | inr le ↦
        let own : get_or ps n 0 ≡ n = let first : get_or ps n 0 ≤ n = forest n lt in omega arith in
        ap (λ x. get_or ps x 0) (ap (λ x. get_or ps x 0) own)
  ]

  at_new : get_or (halved ps n) (get_or (halved ps n) n 0) 0 ≡ get_or (halved ps n) n 0
  at_new = ap (λ x. get_or (halved ps n) x 0) at_same ∙ elim (cases_eq (get_or ps (get_or ps n 0) 0) n) [
    | inl e ↦ ap (λ x. get_or (halved ps n) x 0) e
    | inr ne ↦ at_other (get_or ps (get_or ps n 0) 0) ne ∙ top ∙ sym at_same
  ]

  at_old : (k : ℕ) → k < n → get_or (halved ps n) (get_or (halved ps n) k 0) 0 ≡ get_or (halved ps n) k 0
  at_old k l =
      let le : get_or ps k 0 ≤ k = forest k (omega arith) in
      let same : get_or (halved ps n) k 0 ≡ get_or ps k 0 = at_other k (λ e. omega arith) in
      ap (λ x. get_or (halved ps n) x 0) same ∙ at_other (get_or ps k 0) (λ e. omega arith) ∙ flat k l ∙ sym same

  pub flat-more : (k : ℕ) → k < n + 1 → get_or (halved ps n) (get_or (halved ps n) k 0) 0 ≡ get_or (halved ps n) k 0
  flat-more k l = elim (cases_lt k n) [
    | inl below ↦ at_old k below
    | inr le ↦
        let e : k ≡ n = omega arith in
        subst (λ (x : ℕ). get_or (halved ps n) (get_or (halved ps n) x 0) 0 ≡ get_or (halved ps n) x 0) (sym e) at_new
  ]
