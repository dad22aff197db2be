-- The next tick of a run is the first of the times that are later.
use Rattle.std.proofs.Common.{◌≡◌, ℕ, zero, suc, ◌<◌, ◌≤◌, min, Bool, true, false, cond, List, [], ◌∷◌, ◌++◌, Option, Some, None, refl, ap, sym, ◌∙◌, subst, inl, inr, arith}
use Rattle.std.specs.Prelude.{All, Contains, filter, nat_lt, nat_le, ◌&&◌}
use Rattle.std.proofs.lemmas.Bool.{cases_lt, and_parts, and_from, ltb-true, leb-true, lt-ltb, le-leb}
use Rattle.std.proofs.lemmas.List.Elements.{All-nil, All-cons, All-contains, filter_passes}
use Rattle.machine.specs.Run.{Schedule, lesser, least, next_tick, IsNextTick, IsLastTick}

contains-head : {X : Type 0} (x : X) (xs : List X) → Contains (x ∷ xs) x
contains-head x xs = (0, omega arith, refl)

contains-tail : {X : Type 0} (x y : X) (xs : List X) → Contains xs y → Contains (x ∷ xs) y
contains-tail x y xs h = (suc h.0, (let lt = h.1 in omega arith), h.2)

nothing-in : {X : Type 0} (x : X) → Contains [] x → ⊥
nothing-in x h = absurd (let lt = h.1 in omega arith)

-- ---- the least number of a list

least-none : (xs : List ℕ) → least xs ≡ None → xs ≡ []
least-none [] e = refl
least-none (x ∷ xs) e = absurd (let f : Some (lesser x (least xs)) ≡ None = e in cc)

-- a number of the list, and none is less
IsLeast : List ℕ → ℕ → Type 0
IsLeast xs n = Contains xs n × All (λ t. n ≤ t) xs

least-first : (x : ℕ) (xs : List ℕ) (n : ℕ) → least xs ≡ None → least (x ∷ xs) ≡ Some n → IsLeast (x ∷ xs) n
unfolding IsLeast
least-first x xs n none e =
    let f : Some (lesser x (least xs)) ≡ Some (lesser x None) = ap (λ (o : Option ℕ). Some (lesser x o)) none in
    let g : Some x ≡ Some n = sym f ∙ e in
    let h : x ≡ n = cc in
    let empty = least-none xs none in (
      subst (λ (k : ℕ). Contains (x ∷ xs) k) h (contains-head x xs),
      All-cons (λ t. n ≤ t) x xs (omega arith) (subst (All (λ t. n ≤ t)) (sym empty) (All-nil (λ t. n ≤ t))),
    )

least-next : (x : ℕ) (xs : List ℕ) (k n : ℕ) → least xs ≡ Some k → IsLeast xs k → least (x ∷ xs) ≡ Some n → IsLeast (x ∷ xs) n
unfolding IsLeast
least-next x xs k n some rest e =
    let f : Some (lesser x (least xs)) ≡ Some (lesser x (Some k)) = ap (λ (o : Option ℕ). Some (lesser x o)) some in
    let g : Some (min x k) ≡ Some n = sym f ∙ e in
    let h : min x k ≡ n = cc in
    elim (cases_lt x k) [
      | inl lt ↦
          let here : x ≡ n = omega arith in (
            subst (λ (t : ℕ). Contains (x ∷ xs) t) here (contains-head x xs),
            All-cons (λ t. n ≤ t) x xs (omega arith) (λ i d inside. let le = rest.1 i d inside in omega arith),
          )
      | inr ge ↦
          let there : k ≡ n = omega arith in (
            subst (λ (t : ℕ). Contains (x ∷ xs) t) there (contains-tail x k xs rest.0),
            All-cons (λ t. n ≤ t) x xs (omega arith) (λ i d inside. let le = rest.1 i d inside in omega arith),
          )
    ]

least-is : (xs : List ℕ) (n : ℕ) → least xs ≡ Some n → IsLeast xs n
least-is [] n e = absurd (let f : Some n ≡ None = sym e in cc)
least-is (x ∷ xs) n e = by_rest (least xs) refl (λ k some. least-is xs k some)
  where
    by_rest : (o : Option ℕ) → least xs ≡ o → ((k : ℕ) → least xs ≡ Some k → IsLeast xs k) → IsLeast (x ∷ xs) n
    by_rest None none rest = least-first x xs n none e
    by_rest (Some k) some rest = least-next x xs k n some (rest k some) e

-- ---- what a filter keeps

kept : {X : Type 0} (p : X → Bool) (xs : List X) (x : X) → Contains (filter p xs) x → Contains xs x
kept p [] x h = h
kept p (y ∷ ys) x h = by_test (p y) refl (λ w. kept p ys x w)
  where
    by_test : (b : Bool) → p y ≡ b → (Contains (filter p ys) x → Contains ys x) → Contains (y ∷ ys) x
    by_test true e rest =
        let g : Contains (y ∷ filter p ys) x = rw e at h in
        at_head g rest
      where
        at_head : Contains (y ∷ filter p ys) x → (Contains (filter p ys) x → Contains ys x) → Contains (y ∷ ys) x
        at_head (zero, lt, is) rest = (0, omega arith, is)
        at_head (suc i, lt, is) rest = contains-tail y x ys (rest (i, omega arith, is))
    by_test false e rest = let g : Contains (filter p ys) x = rw e at h in contains-tail y x ys (rest g)

keeps : {X : Type 0} (p : X → Bool) (xs : List X) (x : X) → Contains xs x → p x ≡ true → Contains (filter p xs) x
keeps p [] x h passes = h
keeps p (y ∷ ys) x (zero, lt, is) passes =
    let here : p y ≡ true = ap p is ∙ passes in
    rw here (0, omega arith, is)
keeps p (y ∷ ys) x (suc i, lt, is) passes = by_test (p y) (keeps p ys x (i, omega arith, is) passes)
  where
    by_test : (b : Bool) → Contains (filter p ys) x → Contains (cond b (y ∷ filter p ys) (filter p ys)) x
    by_test true h = contains-tail y x (filter p ys) h
    by_test false h = h

-- ---- the next tick

module _ (schedule : Schedule) (tick : ℕ) (due : List ℕ) where
  abbrev times : List ℕ
  times = schedule.times ++ due

  abbrev is_later : ℕ → Bool
  is_later time = nat_lt tick time && nat_le time schedule.end

  later-times : (time : ℕ) → is_later time ≡ true → (tick < time) × (time ≤ schedule.end)
  later-times time e =
      let parts = and_parts (nat_lt tick time) (nat_le time schedule.end) e in
      (ltb-true tick time parts.0, leb-true time schedule.end parts.1)

  later-from : (time : ℕ) → tick < time → time ≤ schedule.end → is_later time ≡ true
  later-from time lt le = and_from (nat_lt tick time) (nat_le time schedule.end) (lt-ltb tick time lt) (le-leb time schedule.end le)

  pub next_tick-is : (next : ℕ) → next_tick schedule tick due ≡ Some next → IsNextTick schedule tick due next
  unfolding next_tick IsLeast
  next_tick-is next e =
      let is = least-is (filter is_later times) next e in
      let within = later-times next (All-contains (λ time. is_later time ≡ true) (filter is_later times) next (filter_passes is_later times) is.0) in
      record {
        listed = kept is_later times next is.0;
        later = within.0;
        ended = within.1;
        first = λ time listed lt le.
            All-contains (λ t. next ≤ t) (filter is_later times) time is.1 (keeps is_later times time listed (later-from time lt le));
      }

  pub next_tick-none : next_tick schedule tick due ≡ None → IsLastTick schedule tick due
  unfolding next_tick
  next_tick-none e time listed lt =
      let empty = least-none (filter is_later times) e in
      elim (cases_lt schedule.end time) [
        | inl past ↦ past
        | inr le ↦
            let there = keeps is_later times time listed (later-from time lt le) in
            absurd (nothing-in time (subst (λ (xs : List ℕ). Contains xs time) empty there))
      ]
