-- Least nets are unique, and what joining pair by pair gives is the least nets.
use Rattle.std.proofs.Common.{◌≡◌, ◌+◌, ◌<◌, ◌≤◌, ℕ, Bool, cond, ◌==◌, min, max, List, [], ◌∷◌, ◌++◌, length, get_or, refl, sym, ap, subst, ◌∙◌, arith, inl, inr}
use Rattle.std.specs.List.{fold, range_with_len}
use Rattle.std.proofs.lemmas.Bool.{cases_eq, cases_lt, eq-eqb, ne_eqb}
use Rattle.std.proofs.lemmas.Grind.{same_number_lists}
use Rattle.std.proofs.lemmas.List.{get_or-map, length-map, append-nil, append_assoc}
use Rattle.std.proofs.lemmas.List.Elements.{All-head, All-tail}
use Rattle.std.proofs.lemmas.List.FromFn.{length-range_with_len, get_or-range_with_len}
use Rattle.net_groups.specs.Joins.{Walk, AreBelow, AreGroups}
use Rattle.net_groups.specs.Joins.Walk.{Stay, Ahead, Back}
use Rattle.net_groups.specs.Forests.{IsParent, IsParentOrPair, IsSingle, IsUnited, IsFlat, JoinsAlike}
use Rattle.net_groups.proofs.Walks.{walk_on, walk_back, walk_one, walk_same}
use Rattle.net_groups.proofs.Joining.{JoinsAlike-none, JoinsAlike-push, AreGroups-flat}
use Rattle.net_islands.specs.Leasts.{join, leasts}

-- there is one list of least nets
pub same_groups : (count : ℕ) (pairs : List (ℕ × ℕ)) (xs ys : List ℕ) → AreGroups count pairs xs → AreGroups count pairs ys → xs ≡ ys
same_groups count pairs xs ys a b = same_number_lists xs ys (a.all ∙ sym b.all)
    (λ k lt.
    let k-lt : k < count = omega (arith, a.all) in
    let first : get_or xs k 0 ≤ get_or ys k 0 = (a.each k k-lt).below (get_or ys k 0) (b.each k k-lt).joined in
    let second : get_or ys k 0 ≤ get_or xs k 0 = (b.each k k-lt).below (get_or xs k 0) (a.each k k-lt).joined in
    omega arith)

-- the least net after a join of nets with the least nets x and y
abbrev joined : ℕ → ℕ → ℕ → ℕ
joined x y least = cond (least == max x y) (min x y) least

joined-at : (x y least : ℕ) → least ≡ max x y → joined x y least ≡ min x y
joined-at x y least e = ap (λ (b : Bool). cond b (min x y) least) (eq-eqb least (max x y) e)

joined-other : (x y least : ℕ) → (least ≡ max x y → ⊥) → joined x y least ≡ least
joined-other x y least ne = ap (λ (b : Bool). cond b (min x y) least) (ne_eqb least (max x y) ne)

joined-le : (x y least : ℕ) → joined x y least ≤ least
joined-le x y least = elim (cases_eq least (max x y)) [
  | inl e ↦ rw (joined-at x y least e) (omega arith)
  | inr ne ↦ rw (joined-other x y least ne) (omega arith)
]

module _ (ps : List ℕ) (a b : ℕ) (a-lt : a < length ps) (b-lt : b < length ps) (forest : (net : ℕ) → net < length ps → get_or ps net 0 ≤ net) (flat : IsFlat ps) where
  abbrev x : ℕ
  x = get_or ps a 0

  abbrev y : ℕ
  y = get_or ps b 0

  abbrev qs : List ℕ
  qs = join ps (a, b)

  qs-length : length qs ≡ length ps
  qs-length = length-map ps (joined x y)

  qs-at : (n : ℕ) → n < length ps → get_or qs n 0 ≡ joined x y (get_or ps n 0)
  qs-at n lt = get_or-map (joined x y) ps n 0 0 lt

  root-x : get_or ps x 0 ≡ x
  root-x = flat a a-lt

  root-y : get_or ps y 0 ≡ y
  root-y = flat b b-lt

  x-lt : x < length ps
  x-lt = let h = forest a a-lt in omega arith

  y-lt : y < length ps
  y-lt = let h = forest b b-lt in omega arith

  root-min : get_or ps (min x y) 0 ≡ min x y
  root-min = elim (cases_lt x y) [
    | inl lt ↦ let e : min x y ≡ x = omega arith in rw e root-x
    | inr le ↦ let e : min x y ≡ y = omega arith in rw e root-y
  ]

  min-lt : min x y < length ps
  min-lt = let h = x-lt in omega arith

  joined-min : joined x y (min x y) ≡ min x y
  joined-min = elim (cases_eq (min x y) (max x y)) [
    | inl e ↦ joined-at x y (min x y) e
    | inr ne ↦ joined-other x y (min x y) ne
  ]

  qs-le : (n : ℕ) → n < length ps → get_or qs n 0 ≤ n
  qs-le n lt = let e = qs-at n lt in let h = forest n lt in let j = joined-le x y (get_or ps n 0) in omega arith

  qs-flat-at : (n : ℕ) → n < length ps → get_or qs (get_or qs n 0) 0 ≡ get_or qs n 0
  qs-flat-at n lt = elim (cases_eq (get_or ps n 0) (max x y)) [
    | inl e ↦
        let here : get_or qs n 0 ≡ min x y = qs-at n lt ∙ joined-at x y (get_or ps n 0) e in
        ap (λ (k : ℕ). get_or qs k 0) here ∙ qs-at (min x y) min-lt ∙ ap (joined x y) root-min ∙ joined-min ∙ sym here
    | inr ne ↦
        let here : get_or qs n 0 ≡ get_or ps n 0 = qs-at n lt ∙ joined-other x y (get_or ps n 0) ne in
        let h = forest n lt in
        let in' : get_or ps n 0 < length ps = omega arith in
        ap (λ (k : ℕ). get_or qs k 0) here ∙ qs-at (get_or ps n 0) in' ∙ ap (joined x y) (flat n lt) ∙ sym (qs-at n lt)
  ]

  pub join-flat : IsFlat qs
  join-flat n lt = qs-flat-at n (omega (arith, qs-length))

  to-qs : (n : ℕ) → n < length ps → IsParent qs n (joined x y (get_or ps n 0))
  to-qs n lt = (omega (arith, qs-length), sym (qs-at n lt))

  from_old : (c d : ℕ) → IsParent ps c d → Walk (IsParent qs) c d
  from_old c d p =
      let h = forest c p.0 in
      let d-lt : d < length ps = omega (arith, p.1) in
      let up : IsParent qs c (joined x y d) = subst (λ (k : ℕ). IsParent qs c (joined x y k)) (sym p.1) (to-qs c p.0) in
      let root : get_or ps d 0 ≡ d = ap (λ (k : ℕ). get_or ps k 0) p.1 ∙ flat c p.0 ∙ sym p.1 in
      let down : IsParent qs d (joined x y d) = subst (λ (k : ℕ). IsParent qs d (joined x y k)) root (to-qs d d-lt) in
      Ahead up (Back down Stay)

  roots-walk : Walk (IsParentOrPair ps a b) x y
  roots-walk = Back (inl (a-lt, refl)) (Ahead (inr (refl, refl)) (Ahead (inl (b-lt, refl)) Stay))

  max-walk : Walk (IsParentOrPair ps a b) (max x y) (min x y)
  max-walk = elim (cases_lt x y) [
    | inl lt ↦
        let hi : max x y ≡ y = omega arith in
        let lo : min x y ≡ x = omega arith in
        walk_on (walk_same hi) (walk_on (walk_back roots-walk) (walk_same (sym lo)))
    | inr le ↦
        let hi : max x y ≡ x = omega arith in
        let lo : min x y ≡ y = omega arith in
        walk_on (walk_same hi) (walk_on roots-walk (walk_same (sym lo)))
  ]

  from_new : (c d : ℕ) → IsParent qs c d → Walk (IsParentOrPair ps a b) c d
  from_new c d p =
      let c-lt : c < length ps = omega (arith, qs-length, p.0) in
      let up : Walk (IsParentOrPair ps a b) c (get_or ps c 0) = walk_one (inl (c-lt, refl)) in
      let here : d ≡ joined x y (get_or ps c 0) = p.1 ∙ qs-at c c-lt in
      elim (cases_eq (get_or ps c 0) (max x y)) [
        | inl e ↦
            walk_on up (walk_on (walk_same e) (walk_on max-walk (walk_same (sym (here ∙ joined-at x y (get_or ps c 0) e)))))
        | inr ne ↦ walk_on up (walk_same (sym (here ∙ joined-other x y (get_or ps c 0) ne)))
      ]

  pair-walk : Walk (IsParent qs) a b
  pair-walk =
      let first : IsParent qs a (joined x y x) = to-qs a a-lt in
      let second : IsParent qs b (joined x y y) = to-qs b b-lt in
      let same : joined x y x ≡ joined x y y = elim (cases_lt x y) [
        | inl lt ↦
            let hi : y ≡ max x y = omega arith in
            let lo : x ≡ max x y → ⊥ = λ e. omega arith in
            let least : x ≡ min x y = omega arith in
            joined-other x y x lo ∙ least ∙ sym (joined-at x y y hi)
        | inr le ↦
            let hi : x ≡ max x y = omega arith in
            let least : min x y ≡ y = omega arith in
            joined-at x y x hi ∙ sym (elim (cases_eq y (max x y)) [
              | inl e ↦ joined-at x y y e
              | inr ne ↦ joined-other x y y ne ∙ sym least
            ])
      ] in
      Ahead first (Back (subst (λ (k : ℕ). IsParent qs b k) (sym same) second) Stay)

  pub IsUnited-join : IsUnited ps qs a b
  IsUnited-join = record {
    same_length = qs-length;
    forest = λ n lt. qs-le n (omega (arith, qs-length));
    pair = pair-walk;
    from_old = from_old;
    from_new = from_new;
  }

along : (done rest : List (ℕ × ℕ)) (ps : List ℕ) → AreBelow (length ps) rest → JoinsAlike done ps → IsFlat ps → AreGroups (length ps) (done ++ rest) (fold join ps rest)
along done [] ps below alike flat = subst (λ (pairs : List (ℕ × ℕ)). AreGroups (length ps) pairs ps) (sym (append-nil done)) (AreGroups-flat done ps alike flat)
along done (pair ∷ rest) ps below alike flat =
    let head = All-head (λ (p : ℕ × ℕ). (p.0 < length ps) × (p.1 < length ps)) pair rest below in
    let tail = All-tail (λ (p : ℕ × ℕ). (p.0 < length ps) × (p.1 < length ps)) pair rest below in
    let united = IsUnited-join ps pair.0 pair.1 head.0 head.1 alike.forest flat in
    let next = JoinsAlike-push done ps (join ps pair) pair.0 pair.1 alike united in
    let tail' : AreBelow (length (join ps pair)) rest = subst (λ (n : ℕ). AreBelow n rest) (sym united.same_length) tail in
    let whole = along (done ++ pair ∷ []) rest (join ps pair) tail' next (join-flat ps pair.0 pair.1 head.0 head.1 alike.forest flat) in
    let long = subst (λ (n : ℕ). AreGroups n ((done ++ pair ∷ []) ++ rest) (fold join (join ps pair) rest)) united.same_length whole in
    subst (λ (pairs : List (ℕ × ℕ)). AreGroups (length ps) pairs (fold join (join ps pair) rest)) (append_assoc done (pair ∷ []) rest) long

-- the least nets of the definition are the least nets that the pairs join
pub AreGroups-leasts : (count : ℕ) (pairs : List (ℕ × ℕ)) → AreBelow count pairs → AreGroups count pairs (leasts count pairs)
AreGroups-leasts count pairs below =
    let long : length (range_with_len 0 count) ≡ count = length-range_with_len 0 count in
    let own : (n : ℕ) → n < count → get_or (range_with_len 0 count) n 0 ≡ n = λ n lt. let z : 0 + n ≡ n = omega arith in get_or-range_with_len 0 count n 0 lt ∙ z in
    let single : IsSingle (length (range_with_len 0 count)) (range_with_len 0 count) = record { all = refl; own = λ n lt. own n (omega (arith, long)) } in
    let flat : IsFlat (range_with_len 0 count)
    = λ n lt. let e = own n (omega (arith, long)) in ap (λ (k : ℕ). get_or (range_with_len 0 count) k 0) e in
    let whole = along [] pairs (range_with_len 0 count) (subst (λ (n : ℕ). AreBelow n pairs) (sym long) below)
    (JoinsAlike-none (range_with_len 0 count) single) flat in
    subst (λ (n : ℕ). AreGroups n pairs (leasts count pairs)) long whole
