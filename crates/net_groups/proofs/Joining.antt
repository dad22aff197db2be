-- Parents that join what the pairs do, pair by pair, and the least nets in the end.
use Rattle.std.proofs.Common.{◌≡◌, ◌+◌, ℕ, ◌<◌, ◌≤◌, List, [], ◌∷◌, ◌++◌, length, take, get_or, refl, sym, ap, subst, ◌∙◌, arith, inl, inr, ⊎_elim}
use Rattle.std.specs.List.{Contains}
use Rattle.std.proofs.lemmas.Bool.{cases_lt}
use Rattle.std.proofs.lemmas.List.{take_more, get_or_past}
use Rattle.std.proofs.lemmas.List.Elements.{Contains-append_left, Contains-push, Contains-push_cases}
use Rattle.net_groups.specs.Joins.{Walk, IsJoined, AreGroups}
use Rattle.net_groups.specs.Forests.{IsForest, IsParent, IsParentOrPair, IsRegrouped, IsSingle, IsFlat, IsUnited, JoinsAlike}
use Rattle.net_groups.proofs.Walks.{walk_on, walk_one, walk_into, walk_keeps, walk_same}

pub JoinsAlike-none : (ps : List ℕ) → IsSingle (length ps) ps → JoinsAlike [] ps
JoinsAlike-none ps single = record {
  forest = λ net lt. let e : get_or ps net 0 ≡ net = single.own net lt in omega arith;
  from_parents = λ a b r. walk_same (sym (r.1 ∙ single.own a r.0));
  from_pairs = λ a b h. absurd (let none : h.0 < 0 = h.1 in omega arith);
}

module _ (pairs : List (ℕ × ℕ)) (ps qs : List ℕ) (a b : ℕ) (alike : JoinsAlike pairs ps) (united : IsUnited ps qs a b) where
  step : (x y : ℕ) → IsParentOrPair ps a b x y → IsJoined (pairs ++ (a, b) ∷ []) x y
  step x y r = ⊎_elim
      (λ (p : IsParent ps x y). walk_into (λ c d h. walk_one (Contains-append_left pairs ((a, b) ∷ []) (c, d) h)) (alike.from_parents x y p))
      (λ (e : (x ≡ a) × (y ≡ b)). walk_on (walk_same e.0) (walk_on (walk_one (Contains-push pairs (a, b))) (walk_same (sym e.1))))
      r

  from_pairs : (c d : ℕ) → Contains (pairs ++ (a, b) ∷ []) (c, d) → Walk (IsParent qs) c d
  from_pairs c d h = elim (Contains-push_cases pairs (a, b) (c, d) h) [
    | inl old ↦ walk_into united.from_old (alike.from_pairs c d old)
    | inr e ↦ walk_on (walk_same (sym (ap (λ (p : ℕ × ℕ). p.0) e))) (walk_on united.pair (walk_same (ap (λ (p : ℕ × ℕ). p.1) e)))
  ]

  pub JoinsAlike-push : JoinsAlike (pairs ++ (a, b) ∷ []) qs
  JoinsAlike-push = record {
    forest = united.forest;
    from_parents = λ c d r. walk_into step (united.from_new c d r);
    from_pairs = from_pairs;
  }

pub JoinsAlike-more : (pairs : List (ℕ × ℕ)) (i : ℕ) (ps qs : List ℕ) (a b : ℕ) → i < length pairs → get_or pairs i (a, b) ≡ (a, b) →
    JoinsAlike (take i pairs) ps → IsUnited ps qs a b → JoinsAlike (take (i + 1) pairs) qs
JoinsAlike-more pairs i ps qs a b lt at alike united =
    let same : take (i + 1) pairs ≡ take i pairs ++ (a, b) ∷ []
    = take_more pairs i (a, b) lt ∙ ap (λ (p : ℕ × ℕ). take i pairs ++ p ∷ []) at in
    subst (λ (xs : List (ℕ × ℕ)). JoinsAlike xs qs) (sym same) (JoinsAlike-push (take i pairs) ps qs a b alike united)

pub JoinsAlike-regrouped : (pairs : List (ℕ × ℕ)) (ps qs : List ℕ) → JoinsAlike pairs ps → IsRegrouped ps qs → IsForest qs → JoinsAlike pairs qs
JoinsAlike-regrouped pairs ps qs alike grouped forest = record {
  forest = forest;
  from_parents = λ a b r. walk_into alike.from_parents (grouped.from_new a b r);
  from_pairs = λ a b h. walk_into grouped.from_old (alike.from_pairs a b h);
}

lower : (ps : List ℕ) (n : ℕ) → IsForest ps → get_or ps n 0 ≤ n
lower ps n forest = elim (cases_lt n (length ps)) [
  | inl lt ↦ forest n lt
  | inr le ↦ rw (get_or_past ps n 0 le) (omega arith)
]

-- flat parents that join what the pairs do are the least nets
pub AreGroups-flat : (pairs : List (ℕ × ℕ)) (ps : List ℕ) → JoinsAlike pairs ps → IsFlat ps → AreGroups (length ps) pairs ps
AreGroups-flat pairs ps alike flat = record {
  all = refl;
  each = λ net lt. record {
    joined = alike.from_parents net (get_or ps net 0) (lt, refl);
    below = λ other walk.
        let same : get_or ps net 0 ≡ get_or ps other 0
        = walk_keeps (λ n. get_or ps n 0) (λ a b r. sym (ap (λ n. get_or ps n 0) r.1 ∙ flat a r.0)) (walk_into alike.from_pairs walk) in
        rw same (lower ps other alike.forest);
  };
}
