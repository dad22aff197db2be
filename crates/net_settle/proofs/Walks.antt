-- Bounds on the way to finished ones: what stays as nets take a level, and that finished bounds are the only ones.
use Rattle.std.proofs.Common.{◌≡◌, ◌≢◌, ℕ, zero, suc, ◌+◌, ◌<◌, ◌≤◌, List, length, refl, ap, sym, ◌∙◌, subst, arith, inl, inr, get_or-set_other, get_or-set_same}
use Rattle.std.specs.Prelude.{ℤ, pos, ◌⊎◌, slice_set, Contains}
use Rattle.std.proofs.lemmas.List.{same_lists, get_or_past, get_or_default, length-set}
use Rattle.std.proofs.lemmas.Bool.{cases_eq, cases_lt}
use Rattle.level_range.specs.declared.range.Conduct.{Conduct}
use Rattle.net_settle.specs.declared.shape.Link.{Link}
use Rattle.net_settle.specs.declared.side.Side.{Side}
use Rattle.net_settle.specs.Bounds.{Switch, at, carried_bound}
use Rattle.net_settle.specs.Settling.{Joins, Brings, Comes, IsWalk, IsSettled}
use Rattle.net_settle.specs.Progress.{rank, IsDone}
use Rattle.net_settle.proofs.Ranks.{rank-none, rank-injective, rank-carried, carried-none, better-from_rank, rank-from_better}

-- a net other than the changed one keeps its bound
pub at-other : (bounds : List ℤ) (i n : ℕ) (v : ℤ) → n ≢ i → at (slice_set bounds i v) n ≡ at bounds n
at-other bounds i n v ne = get_or-set_other bounds i n v (pos 0) ne

pub at-same : (bounds : List ℤ) (i : ℕ) (v : ℤ) → i < length bounds → at (slice_set bounds i v) i ≡ v
at-same bounds i v h = get_or-set_same bounds i v (pos 0) h

module _ (side : Side) (switches : List Switch) (own : List ℤ) where
  -- a walk to a net with a bound passes no net without one
  passes : (bounds : List ℤ) (i : ℕ) (v : ℤ) → at bounds i ≡ pos 0 → (steps : ℕ) (n : ℕ) → at bounds n ≢ pos 0 →
      IsWalk side switches own bounds steps n → IsWalk side switches own (slice_set bounds i v) steps n
  passes bounds i v none zero n some e =
      let ne : n ≢ i = λ (k : n ≡ i). some (ap (at bounds) k ∙ none) in
      at-other bounds i n v ne ∙ e
  passes bounds i v none (suc steps) n some (m, brings, walk) =
      let ne : n ≢ i = λ (k : n ≡ i). some (ap (at bounds) k ∙ none) in
      let from : at bounds m ≢ pos 0 = λ (k : at bounds m ≡ pos 0).
      some (sym brings.carries ∙ ap (carried_bound side brings.link brings.conduct) k ∙ carried-none side brings.link brings.conduct) in
      let nf : m ≢ i = λ (k : m ≡ i). from (ap (at bounds) k ∙ none) in (
        m,
        record {
          link = brings.link;
          conduct = brings.conduct;
          there = brings.there;
          joins = brings.joins;
          carries = ap (carried_bound side brings.link brings.conduct) (at-other bounds i m v nf) ∙ brings.carries ∙ sym (at-other bounds i n v ne);
        },
        passes bounds i v none steps m from walk,
      )

  -- a level comes to a net from its own signal, or over a switch from a net with a bound
  abbrev pub Offered : List ℤ → ℕ → ℤ → Type 0
  Offered bounds n v = (at own n ≡ v) ⊎ ((m : ℕ) × Brings side switches bounds m n v)

  -- a net without a bound takes a level that comes to it
  pub takes : (r : ℕ) (bounds : List ℤ) (n : ℕ) (v : ℤ) → IsDone side switches own (suc r) bounds → rank side v ≡ suc r → n < length own →
      at bounds n ≡ pos 0 → Offered bounds n v → IsDone side switches own (suc r) (slice_set bounds n v)
  takes r bounds n v done level inside none offered = record {
    nets = length-set bounds n v ∙ done.nets;
    above = λ k some. elim (cases_eq k n) [
      | inl e ↦ rw (ap (at (slice_set bounds n v)) e, here) (omega arith)
      | inr ne ↦ rw (at-other bounds n k v ne) (done.above k (λ z. some (at-other bounds n k v ne ∙ z)))
    ];
    owned = λ k in_range lt. elim (cases_eq k n) [
      | inl e ↦
          let h = done.owned k in_range lt in
          let z = rank-none side in
          let f : at bounds k ≡ pos 0 = ap (at bounds) e ∙ none in
          let g : rank side (at bounds k) ≡ rank side (pos 0) = ap (rank side) f in
          absurd (omega arith)
      | inr ne ↦ rw (at-other bounds n k v ne) (done.owned k in_range lt)
    ];
    brought = λ link conduct m k there joins in_range lt. elim (cases_eq m n) [
      | inl e ↦
          let f : at (slice_set bounds n v) m ≡ v = ap (at (slice_set bounds n v)) e ∙ here in
          let w = rank-carried side link conduct (at (slice_set bounds n v) m) in
          let g : rank side (at (slice_set bounds n v) m) ≡ rank side v = ap (rank side) f in
          absurd (omega arith)
      | inr nm ↦
          let f = at-other bounds n m v nm in
          let lt2 = subst (λ (u : ℤ). suc r < rank side (carried_bound side link conduct u)) f lt in
          let h = done.brought link conduct m k there joins in_range lt2 in
          rw f (elim (cases_eq k n) [
            | inl e ↦
                let z = rank-none side in
                let f : at bounds k ≡ pos 0 = ap (at bounds) e ∙ none in
                let g : rank side (at bounds k) ≡ rank side (pos 0) = ap (rank side) f in
                absurd (omega arith)
            | inr ne ↦ rw (at-other bounds n k v ne) h
          ])
    ];
    source = λ k some. elim (cases_eq k n) [
      | inl e ↦ subst (λ (i : ℕ). (steps : ℕ) × IsWalk side switches own (slice_set bounds n v) steps i) (sym e) there
      | inr ne ↦
          let some2 : at bounds k ≢ pos 0 = λ (z : at bounds k ≡ pos 0). some (at-other bounds n k v ne ∙ z) in
          let walk = done.source k some2 in
          (walk.0, passes bounds n v none walk.0 k some2 walk.1)
    ];
  }
    where
      here : at (slice_set bounds n v) n ≡ v
      here = at-same bounds n v (let e = done.nets in omega arith)

      there : (steps : ℕ) × IsWalk side switches own (slice_set bounds n v) steps n
      there = elim offered [
        | inl e ↦ (0, here ∙ sym e)
        | inr (m, brings) ↦
            let z = rank-none side in
            let some : at bounds m ≢ pos 0 = λ (k : at bounds m ≡ pos 0).
            let e : v ≡ pos 0 = sym brings.carries ∙ ap (carried_bound side brings.link brings.conduct) k ∙ carried-none side brings.link brings.conduct in
            let f : rank side v ≡ rank side (pos 0) = ap (rank side) e in
            absurd (omega arith) in
            let ne : m ≢ n = λ (k : m ≡ n). some (ap (at bounds) k ∙ none) in
            let walk = done.source m some in (
              suc walk.0,
              (
                m,
                record {
                  link = brings.link;
                  conduct = brings.conduct;
                  there = brings.there;
                  joins = brings.joins;
                  carries = ap (carried_bound side brings.link brings.conduct) (at-other bounds n m v ne) ∙ brings.carries ∙ sym here;
                },
                passes bounds n v none walk.0 m some walk.1,
              ),
            )
      ]

  -- no net without a bound is offered the level
  pub record IsIdle (bounds : List ℤ) (v : ℤ) : Type 0 where
    pub owned : (n : ℕ) → n < length own → at bounds n ≡ pos 0 → at own n ≢ v
    pub brought :
        (link : Link) (conduct : Conduct) (m n : ℕ) → Contains switches (link, conduct) → Joins link m n → n < length own
        → at bounds n ≡ pos 0 → carried_bound side link conduct (at bounds m) ≢ v

  -- where no net takes a level any more it is finished
  pub finishes : (r : ℕ) (bounds : List ℤ) (v : ℤ) → IsDone side switches own (suc r) bounds → rank side v ≡ suc r → IsIdle bounds v → IsDone side switches own r bounds
  finishes r bounds v done level idle = record {
    nets = done.nets;
    above = λ n some. let h = done.above n some in omega arith;
    owned = λ n inside lt. met n (at own n) lt (done.owned n inside) (idle.owned n inside);
    brought = λ link conduct m n there joins inside lt.
        met n (carried_bound side link conduct (at bounds m)) lt
        (done.brought link conduct m n there joins inside) (idle.brought link conduct m n there joins inside);
    source = done.source;
  }
    where
      met : (n : ℕ) (u : ℤ) → r < rank side u → (suc r < rank side u → rank side u ≤ rank side (at bounds n)) →
          (at bounds n ≡ pos 0 → u ≢ v) → rank side u ≤ rank side (at bounds n)
      met n u lt high low = elim (cases_eq (rank side u) (suc r)) [
        | inl e ↦ elim (cases_eq (rank side (at bounds n)) 0) [
          | inl z ↦
              let none : at bounds n ≡ pos 0 = rank-injective side _ _ (z ∙ sym (rank-none side)) in
              absurd (low none (rank-injective side u v (e ∙ sym level)))
          | inr nz ↦
              let some : at bounds n ≢ pos 0 = λ (k : at bounds n ≡ pos 0). nz (ap (rank side) k ∙ rank-none side) in
              let h = done.above n some in
              omega arith
        ]
        | inr ne ↦ high (omega arith)
      ]

  -- what comes to a net is of no greater rank than its finished bound
  pub settled-most : (bounds : List ℤ) → IsSettled side switches own bounds → (n : ℕ) → n < length own → (u : ℤ) →
      Comes side switches own bounds n u → rank side u ≤ rank side (at bounds n)
  settled-most bounds settled n inside u comes =
      rank-from_better side u (at bounds n) ((settled.best n inside).none_better u comes)

  pub has_net : (bounds : List ℤ) → length bounds ≡ length own → (n : ℕ) → at bounds n ≢ pos 0 → n < length own
  has_net bounds nets n some = elim (cases_lt n (length own)) [
    | inl lt ↦ lt
    | inr ge ↦ absurd (some (get_or_past bounds n (pos 0) (omega arith)))
  ]

  -- bounds with all levels finished are settled
  pub settles : (bounds : List ℤ) → IsDone side switches own 0 bounds → IsSettled side switches own bounds
  settles bounds done = record {
    nets = done.nets;
    best = λ n inside. record {
      comes = elim (cases_eq (rank side (at bounds n)) 0) [
        | inl z ↦ inl (rank-injective side _ _ (z ∙ sym (rank-none side)))
        | inr nz ↦
            let some : at bounds n ≢ pos 0 = λ (k : at bounds n ≡ pos 0). nz (ap (rank side) k ∙ rank-none side) in
            let walk = done.source n some in
            comes n walk.0 walk.1
      ];
      none_better = λ u h. better-from_rank side u (at bounds n) (most n inside u h);
    };
    source = λ n inside some. done.source n some;
  }
    where
      comes : (n steps : ℕ) → IsWalk side switches own bounds steps n → Comes side switches own bounds n (at bounds n)
      comes n zero e = inr (inl e)
      comes n (suc steps) (m, brings, walk) = inr (inr (m, brings))

      above_none : (v u : ℤ) → (0 < rank side u → rank side u ≤ rank side v) → rank side u ≤ rank side v
      above_none v u h = elim (cases_eq (rank side u) 0) [ inl z ↦ omega arith | inr nz ↦ h (omega arith) ]

      most : (n : ℕ) → n < length own → (u : ℤ) → Comes side switches own bounds n u → rank side u ≤ rank side (at bounds n)
      most n inside u (inl e) =
          let z : rank side u ≡ rank side (pos 0) = ap (rank side) e in
          let y = rank-none side in
          omega arith
      most n inside u (inr (inl e)) = above_none (at bounds n) u (subst (λ (w : ℤ). 0 < rank side w → rank side w ≤ rank side (at bounds n)) (sym e) (done.owned n inside))
      most n inside u (inr (inr (m, brings))) =
          above_none (at bounds n) u (subst (λ (w : ℤ). 0 < rank side w → rank side w ≤ rank side (at bounds n)) brings.carries
          (done.brought brings.link brings.conduct m n brings.there brings.joins inside))

  -- finished bounds are no greater than the own ones
  walk-most : (most : ℕ) → ((n : ℕ) → rank side (at own n) ≤ most) → (bounds : List ℤ) (steps n : ℕ) →
      IsWalk side switches own bounds steps n → rank side (at bounds n) ≤ most
  walk-most most own_most bounds zero n e =
      let h = own_most n in let f : rank side (at bounds n) ≡ rank side (at own n) = ap (rank side) e in omega arith
  walk-most most own_most bounds (suc steps) n (m, brings, walk) =
      let h = walk-most most own_most bounds steps m walk in
      let w = rank-carried side brings.link brings.conduct (at bounds m) in
      let f : rank side (carried_bound side brings.link brings.conduct (at bounds m)) ≡ rank side (at bounds n) = ap (rank side) brings.carries in
      omega arith

  pub bounds-most : (most : ℕ) → ((n : ℕ) → rank side (at own n) ≤ most) → (bounds : List ℤ) → IsSettled side switches own bounds →
      (n : ℕ) → rank side (at bounds n) ≤ most
  bounds-most most own_most bounds settled n = elim (cases_eq (rank side (at bounds n)) 0) [
    | inl z ↦ omega arith
    | inr nz ↦
        let some : at bounds n ≢ pos 0 = λ (k : at bounds n ≡ pos 0). nz (ap (rank side) k ∙ rank-none side) in
        let walk = settled.source n (has_net bounds settled.nets n some) some in
        walk-most most own_most bounds walk.0 n walk.1
  ]

  -- two lists that agree above rank q, in either direction
  Agree : ℕ → List ℤ → List ℤ → Type 0
  Agree q a b = (n : ℕ) → q < rank side (at a n) → at a n ≡ at b n

  -- bounds of which the second is no less are the same where the lists agree above
  same_from_le : (q : ℕ) (a b : List ℤ) → Agree q a b → Agree q b a → (n : ℕ) → q ≤ rank side (at a n) →
      rank side (at a n) ≤ rank side (at b n) → at a n ≡ at b n
  unfolding Agree
  same_from_le q a b ab ba n high le = elim (cases_lt q (rank side (at a n))) [
    | inl lt ↦ ab n lt
    | inr ge ↦ elim (cases_lt q (rank side (at b n))) [
      | inl lt ↦ sym (ba n lt)
      | inr ge2 ↦ rank-injective side _ _ (omega arith)
    ]
  ]

  ranked-inside : (q : ℕ) (a : List ℤ) → 0 < q → length a ≡ length own → (n : ℕ) → q ≤ rank side (at a n) → n < length own
  ranked-inside q a some nets n high =
      has_net a nets n (λ (k : at a n ≡ pos 0).
      let z = rank-none side in let f : rank side (at a n) ≡ rank side (pos 0) = ap (rank side) k in absurd (omega arith))

  -- along a walk over bounds of rank q and more, another settled list has the same bounds
  follows : (q : ℕ) (a b : List ℤ) → 0 < q → IsSettled side switches own a → IsSettled side switches own b → Agree q a b → Agree q b a →
      (steps n : ℕ) → q ≤ rank side (at a n) → IsWalk side switches own a steps n → at a n ≡ at b n
  follows q a b some sa sb ab ba zero n high e =
      let inside = ranked-inside q a some sa.nets n high in
      same_from_le q a b ab ba n high
      (subst (λ (w : ℤ). rank side w ≤ rank side (at b n)) (sym e) (settled-most b sb n inside (at own n) (inr (inl refl))))
  follows q a b some sa sb ab ba (suc steps) n high (m, brings, walk) =
      let inside = ranked-inside q a some sa.nets n high in
      let w = rank-carried side brings.link brings.conduct (at a m) in
      let f : rank side (carried_bound side brings.link brings.conduct (at a m)) ≡ rank side (at a n) = ap (rank side) brings.carries in
      let same = follows q a b some sa sb ab ba steps m (omega arith) walk in
      same_from_le q a b ab ba n high
      (settled-most b sb n inside (at a n) (inr (inr (
        m,
        record {
          link = brings.link;
          conduct = brings.conduct;
          there = brings.there;
          joins = brings.joins;
          carries = ap (carried_bound side brings.link brings.conduct) (sym same) ∙ brings.carries;
        },
      ))))

  agree : (most : ℕ) → ((n : ℕ) → rank side (at own n) ≤ most) → (a b : List ℤ) → IsSettled side switches own a → IsSettled side switches own b →
      (k q : ℕ) → q + k ≡ most → Agree q a b × Agree q b a
  unfolding Agree
  agree most own_most a b sa sb zero q e = (
    λ n lt. let h = bounds-most most own_most a sa n in absurd (omega arith),
    λ n lt. let h = bounds-most most own_most b sb n in absurd (omega arith),
  )
  agree most own_most a b sa sb (suc k) q e =
      let next = agree most own_most a b sa sb k (suc q) (omega arith) in (
        λ n lt.
            let some : at a n ≢ pos 0 = λ (k : at a n ≡ pos 0).
            let z = rank-none side in let f : rank side (at a n) ≡ rank side (pos 0) = ap (rank side) k in absurd (omega arith) in
            let walk = sa.source n (has_net a sa.nets n some) some in
            follows (suc q) a b (omega arith) sa sb next.0 next.1 walk.0 n (omega arith) walk.1,
        λ n lt.
            let some : at b n ≢ pos 0 = λ (k : at b n ≡ pos 0).
            let z = rank-none side in let f : rank side (at b n) ≡ rank side (pos 0) = ap (rank side) k in absurd (omega arith) in
            let walk = sb.source n (has_net b sb.nets n some) some in
            follows (suc q) b a (omega arith) sb sa next.1 next.0 walk.0 n (omega arith) walk.1,
      )

  same_at : (a b : List ℤ) → Agree 0 a b → Agree 0 b a → (n : ℕ) → at a n ≡ at b n
  unfolding Agree
  same_at a b ab ba n = elim (cases_eq (rank side (at a n)) 0) [
    | inl z ↦ elim (cases_eq (rank side (at b n)) 0) [
      | inl y ↦ rank-injective side _ _ (z ∙ sym y)
      | inr ny ↦ sym (ba n (omega arith))
    ]
    | inr nz ↦ ab n (omega arith)
  ]

  -- there is one list of finished bounds at most
  pub settled_once : (most : ℕ) → ((n : ℕ) → rank side (at own n) ≤ most) → (a b : List ℤ) →
      IsSettled side switches own a → IsSettled side switches own b → a ≡ b
  settled_once most own_most a b sa sb =
      let both = agree most own_most a b sa sb most 0 (omega arith) in
      same_lists a b (sa.nets ∙ sym sb.nets) (λ k d lt.
      get_or_default a k d (pos 0) lt ∙ same_at a b both.0 both.1 k
      ∙ sym (get_or_default b k d (pos 0) (let e = sa.nets in let f = sb.nets in omega arith)))

  -- at first no net has a bound
  pub starts : (r : ℕ) → ((n : ℕ) → rank side (at own n) ≤ r) → (bounds : List ℤ) → length bounds ≡ length own →
      ((n : ℕ) → at bounds n ≡ pos 0) → IsDone side switches own r bounds
  starts r own_most bounds nets none = record {
    nets = nets;
    above = λ n some. absurd (some (none n));
    owned = λ n inside lt. let h = own_most n in absurd (omega arith);
    brought = λ link conduct m n there joins inside lt.
        let e : carried_bound side link conduct (at bounds m) ≡ pos 0 = ap (carried_bound side link conduct) (none m) ∙ carried-none side link conduct in
        let f : rank side (carried_bound side link conduct (at bounds m)) ≡ rank side (pos 0) = ap (rank side) e in
        let z = rank-none side in
        absurd (omega arith);
    source = λ n some. absurd (some (none n));
  }
