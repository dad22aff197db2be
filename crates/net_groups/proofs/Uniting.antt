-- A root that gets another for its parent joins the nets below both, and no others.
use Rattle.std.proofs.Common.{◌≡◌, ℕ, ◌<◌, ◌≤◌, List, length, get_or, refl, sym, ap, subst, ◌∙◌, inl, inr}
use Rattle.std.proofs.Math.ListN.{set}
use Rattle.std.proofs.lemmas.Bool.{cases_eq}
use Rattle.std.proofs.lemmas.List.{get_or-set_same, get_or-set_other, length-set}
use Rattle.net_groups.specs.Joins.{Walk}
use Rattle.net_groups.specs.Joins.Walk.{Stay, Back}
use Rattle.net_groups.specs.Forests.{IsForest, IsParent, IsParentOrPair, IsRegrouped, IsUnited}
use Rattle.net_groups.proofs.Walks.{walk_on, walk_one, walk_back, walk_into, walk_same}
use Rattle.net_groups.proofs.Halving.{IsForest-set}

module _ (ps rs : List ℕ) (a b hi lo : ℕ) (grouped : IsRegrouped ps rs) (forest : IsForest rs) (hi-lt : hi < length rs) (lo-le : lo ≤ hi)
    (root : get_or rs hi 0 ≡ hi) (from_a : Walk (IsParent rs) a hi) (from_b : Walk (IsParent rs) b lo) where
  kept : (c d : ℕ) → IsParent rs c d → Walk (IsParent (set rs hi lo)) c d
  kept c d r = elim (cases_eq c hi) [
    | inl e ↦ walk_same (e ∙ sym (r.1 ∙ ap (λ x. get_or rs x 0) e ∙ root))
    | inr ne ↦ walk_one (subst (λ (m : ℕ). c < m) (sym (length-set rs hi lo)) r.0, r.1 ∙ sym (get_or-set_other rs hi c lo 0 ne))
  ]

  edge : Walk (IsParent (set rs hi lo)) hi lo
  edge = walk_one (subst (λ (m : ℕ). hi < m) (sym (length-set rs hi lo)) hi-lt, sym (get_or-set_same rs hi lo 0 hi-lt))

  into_pair : (c d : ℕ) → IsParent rs c d → Walk (IsParentOrPair ps a b) c d
  into_pair c d r = walk_into (λ x y p. walk_one (inl p)) (grouped.from_new c d r)

  pair_step : Walk (IsParentOrPair ps a b) a b
  pair_step = walk_one (inr (refl, refl))

  tie : Walk (IsParentOrPair ps a b) hi lo
  tie = walk_on (walk_back (walk_into into_pair from_a)) (walk_on pair_step (walk_into into_pair from_b))

  from_new : (c d : ℕ) → IsParent (set rs hi lo) c d → Walk (IsParentOrPair ps a b) c d
  from_new c d r = elim (cases_eq c hi) [
    | inl e ↦
        let at : d ≡ lo = r.1 ∙ ap (λ x. get_or (set rs hi lo) x 0) e ∙ get_or-set_same rs hi lo 0 hi-lt in
        walk_on (walk_same e) (walk_on tie (walk_same (sym at)))
    | inr ne ↦ into_pair c d (subst (λ (m : ℕ). c < m) (length-set rs hi lo) r.0, r.1 ∙ get_or-set_other rs hi c lo 0 ne)
  ]

  pub IsUnited-set : IsUnited ps (set rs hi lo) a b
  IsUnited-set = record {
    same_length = length-set rs hi lo ∙ grouped.same_length;
    forest = IsForest-set rs hi lo forest lo-le;
    pair = walk_on (walk_into kept from_a) (walk_on edge (walk_back (walk_into kept from_b)));
    from_old = λ c d r. walk_into kept (grouped.from_old c d r);
    from_new = from_new;
  }

turned : (ps : List ℕ) (a b c d : ℕ) → IsParentOrPair ps b a c d → Walk (IsParentOrPair ps a b) c d
turned ps a b c d (inl p) = walk_one (inl p)
turned ps a b c d (inr e) = Back (inr (e.1, e.0)) Stay

pub IsUnited-turn : (ps qs : List ℕ) (a b : ℕ) → IsUnited ps qs b a → IsUnited ps qs a b
IsUnited-turn ps qs a b u = record {
  same_length = u.same_length;
  forest = u.forest;
  pair = walk_back u.pair;
  from_old = u.from_old;
  from_new = λ c d r. walk_into (turned ps a b) (u.from_new c d r);
}
