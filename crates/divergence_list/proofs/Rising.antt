-- Lists of entries with faults rising: where a fault stands in one, and what an insert, a write and a removal there leave.
use Rattle.std.proofs.Common.{◌≡◌, ℕ, suc, zero, ◌+◌, ◌<◌, ◌≤◌, Bool, true, false, cond, eqb, ltb, List, [], ◌∷◌, length, get_or, set, map, None, Some, refl, sym, ap, ◌∙◌, arith, add-one, ⊎_elim}
use Rattle.std.specs.Option.{IsSome, is_some}
use Rattle.std.specs.List.Sorted.{IsNonDecreasingBy}
use Rattle.std.specs.List.{insert, remove, AllWithin}
use Rattle.std.proofs.lemmas.List.{get_or_default}
use Rattle.std.specs.List.{slice_get}
use Rattle.std.specs.Option.{IfSome}
use Rattle.std.proofs.lemmas.Option.{slice_get_cases}
use Rattle.std.proofs.lemmas.Bool.{ltb-true, ltb-false, eqb-true, eqb-false, eq-eqb, ne_eqb, true≢false, false≢true}
use Rattle.divergence_list.specs.declared.entry.Entry.{Entry}
use Rattle.divergence_list.specs.Entries.{entry_in, IsRising}
use Rattle.divergence_list.specs.Order.{RisesWithin, rank}

-- a test is one or the other
pub by_cases : {P : Type 0} (b : Bool) → (b ≡ true → P) → (b ≡ false → P) → P
by_cases true held failed = held refl
by_cases false held failed = failed refl

module _ {X : Type 0} where
  -- a first test that holds decides both sides
  cond-first : (b c : Bool) (u v w z : X) → b ≡ true → c ≡ false → cond b u v ≡ cond c w (cond b u z)
  cond-first b c u v w z p q = rw (p, q) refl

  -- one that doesn't leaves the rest
  cond-rest : (b c : Bool) (u v w z : X) → b ≡ false → v ≡ cond c w z → cond b u v ≡ cond c w (cond b u z)
  cond-rest b c u v w z p q = rw p q

  -- two tests with one answer
  cond-twice : (b c : Bool) (u v w : X) → b ≡ c → cond c u v ≡ cond c u (cond b w v)
  cond-twice true true u v w p = refl
  cond-twice true false u v w p = absurd (true≢false p)
  cond-twice false true u v w p = refl
  cond-twice false false u v w p = refl

module _ {V : Type 0} where
  -- faults that rise from a bound on rise from a lower one on
  pub RisesWithin-lower : (low lower high : ℕ) (es : List (Entry V)) → lower ≤ low → RisesWithin low high es
      → RisesWithin lower high es
  RisesWithin-lower low lower high [] le rises = omega arith
  RisesWithin-lower low lower high (e ∷ es) le rises = (omega (arith, rises.0), rises.1)

  -- a list is no longer than its faults have room
  pub length-RisesWithin : (low high : ℕ) (es : List (Entry V)) → RisesWithin low high es → length es + low ≤ high
  length-RisesWithin low high [] rises = omega arith
  length-RisesWithin low high (e ∷ es) rises =
      omega (arith, rises.0, length-RisesWithin (e.fault + 1) high es rises.1)

  -- a fault below them all has no entry
  pub entry_in-below : (low high : ℕ) (es : List (Entry V)) (f : ℕ) → RisesWithin low high es → f < low
      → entry_in es f ≡ None
  entry_in-below low high [] f rises below = refl
  entry_in-below low high (e ∷ es) f rises below =
      rw (ne_eqb e.fault f (omega (arith, rises.0))) (entry_in-below (e.fault + 1) high es f rises.1 (omega (arith, rises.0)))

  pub rank-le-length : (es : List (Entry V)) (f : ℕ) → rank es f ≤ length es
  rank-le-length [] f = omega arith
  rank-le-length (e ∷ es) f =
      by_cases (ltb e.fault f)
      (λ t. rw t (omega (arith, rank-le-length es f)))
      (λ t. rw t (omega arith))

  -- what a search for the first fault that is not lower finds
  pub rank-from_point : (es : List (Entry V)) (f i : ℕ) → i ≤ length es
      → AllWithin (λ e. ltb e.fault f ≡ true) es 0 i → AllWithin (λ e. ltb e.fault f ≡ false) es i (length es)
      → i ≡ rank es f
  rank-from_point [] f i le lower others = omega arith
  rank-from_point (e ∷ es) f zero le lower others = rw (others 0 e (omega arith) (omega arith)) refl
  rank-from_point (e ∷ es) f (suc i) le lower others =
      rw (lower 0 e (omega arith) (omega arith))
      (ap suc (rank-from_point es f i (omega arith) (λ k d from to. lower (suc k) d (omega arith) (omega arith)) (λ k d from to. others (suc k) d (omega arith) (omega arith))))

  -- an entry stands at the rank of its fault, and is what the look-up finds
  pub found-at_rank : (low high : ℕ) (es : List (Entry V)) (f : ℕ) (d : Entry V) → RisesWithin low high es
      → IsSome (entry_in es f)
      → (rank es f < length es) × ((get_or es (rank es f) d).fault ≡ f)
      × (entry_in es f ≡ Some (get_or es (rank es f) d).value)
  found-at_rank low high [] f d rises some = absurd (false≢true some)
  found-at_rank low high (e ∷ es) f d rises some =
      by_cases (ltb e.fault f)
      (λ t. let lt : e.fault < f = ltb-true e.fault f t in
      let ne : eqb e.fault f ≡ false = ne_eqb e.fault f (omega arith) in
      let ih = found-at_rank (e.fault + 1) high es f d rises.1 (rw ne at some) in
      rw (t, ne) (omega (arith, ih.0), ih.1, ih.2))
      (λ t. by_cases (eqb e.fault f)
      (λ q. rw (t, q) (omega arith, eqb-true e.fault f q, refl))
      (λ q. let ge : f ≤ e.fault = ltb-false e.fault f t in
      let none : entry_in es f ≡ None = entry_in-below (e.fault + 1) high es f rises.1 (omega arith) in
      absurd (false≢true (rw (q, none) at some))))

  -- where no entry with that fault stands at its rank, there is none
  pub absent-at_rank : (low high : ℕ) (es : List (Entry V)) (f : ℕ) → RisesWithin low high es
      → (rank es f < length es → (d : Entry V) → (get_or es (rank es f) d).fault ≡ f → ⊥)
      → entry_in es f ≡ None
  absent-at_rank low high [] f rises other = refl
  absent-at_rank low high (e ∷ es) f rises other =
      by_cases (ltb e.fault f)
      (λ t. let lt : e.fault < f = ltb-true e.fault f t in
      let ne : eqb e.fault f ≡ false = ne_eqb e.fault f (omega arith) in
      rw ne (absent-at_rank (e.fault + 1) high es f rises.1
      (λ less d same. (rw t at other) (omega arith) d same)))
      (λ t. let ge : f ≤ e.fault = ltb-false e.fault f t in
      by_cases (eqb e.fault f)
      (λ q. absurd ((rw t at other) (omega arith) e (eqb-true e.fault f q)))
      (λ q. rw q (entry_in-below (e.fault + 1) high es f rises.1 (omega arith))))

  -- what a look-up finds after an insert at the rank
  pub entry_in-insert : (es : List (Entry V)) (x : Entry V) (g : ℕ)
      → entry_in (insert es (rank es x.fault) x) g ≡ cond (eqb x.fault g) (Some x.value) (entry_in es g)
  entry_in-insert [] x g = refl
  entry_in-insert (e ∷ es) x g =
      by_cases (ltb e.fault x.fault)
      (λ t. rw t (let lt : e.fault < x.fault = ltb-true e.fault x.fault t in
      by_cases (eqb e.fault g)
      (λ q. cond-first (eqb e.fault g) (eqb x.fault g) _ _ _ _ q (ne_eqb x.fault g (omega (arith, eqb-true e.fault g q))))
      (λ q. cond-rest (eqb e.fault g) (eqb x.fault g) _ _ _ _ q (entry_in-insert es x g))))
      (λ t. rw t refl)

  -- an insert of a fault that isn't there keeps the order
  pub RisesWithin-insert : (low high : ℕ) (es : List (Entry V)) (x : Entry V) → RisesWithin low high es
      → low ≤ x.fault → x.fault < high → entry_in es x.fault ≡ None
      → RisesWithin low high (insert es (rank es x.fault) x)
  RisesWithin-insert low high [] x rises from to none = (from, omega arith)
  RisesWithin-insert low high (e ∷ es) x rises from to none =
      by_cases (ltb e.fault x.fault)
      (λ t. let lt : e.fault < x.fault = ltb-true e.fault x.fault t in
      let ne : eqb e.fault x.fault ≡ false = ne_eqb e.fault x.fault (omega arith) in
      rw t (rises.0, RisesWithin-insert (e.fault + 1) high es x rises.1 (omega arith) to (rw ne at none)))
      (λ t. let ge : x.fault ≤ e.fault = ltb-false e.fault x.fault t in
      by_cases (eqb e.fault x.fault)
      (λ q. absurd (true≢false (ap is_some (rw q at none))))
      (λ q. let ne = eqb-false e.fault x.fault q in
      let above : x.fault + 1 ≤ e.fault = omega (arith, ne) in
      rw t (from, (above, rises.1))))

  -- what a look-up finds after a write of another value at the rank of a fault that is there
  pub entry_in-set : (low high : ℕ) (es : List (Entry V)) (x : Entry V) (g : ℕ) → RisesWithin low high es
      → IsSome (entry_in es x.fault)
      → entry_in (set es (rank es x.fault) x) g ≡ cond (eqb x.fault g) (Some x.value) (entry_in es g)
  entry_in-set low high [] x g rises some = absurd (false≢true some)
  entry_in-set low high (e ∷ es) x g rises some =
      by_cases (ltb e.fault x.fault)
      (λ t. let lt : e.fault < x.fault = ltb-true e.fault x.fault t in
      let ne : eqb e.fault x.fault ≡ false = ne_eqb e.fault x.fault (omega arith) in
      let rest : IsSome (entry_in es x.fault) = rw ne at some in
      rw t (by_cases (eqb e.fault g)
      (λ q. cond-first (eqb e.fault g) (eqb x.fault g) _ _ _ _ q (ne_eqb x.fault g (omega (arith, eqb-true e.fault g q))))
      (λ q. cond-rest (eqb e.fault g) (eqb x.fault g) _ _ _ _ q (entry_in-set (e.fault + 1) high es x g rises.1 rest))))
      (λ t. let ge : x.fault ≤ e.fault = ltb-false e.fault x.fault t in
      rw t (by_cases (eqb e.fault x.fault)
      (λ q. cond-twice (eqb e.fault g) (eqb x.fault g) _ _ _ (ap (λ n. eqb n g) (eqb-true e.fault x.fault q)))
      (λ q. let none : entry_in es x.fault ≡ None = entry_in-below (e.fault + 1) high es x.fault rises.1 (omega arith) in
      absurd (false≢true (rw (q, none) at some)))))

  -- what a look-up finds after the removal at the rank of a fault that is there
  pub entry_in-remove : (low high : ℕ) (es : List (Entry V)) (f g : ℕ) → RisesWithin low high es
      → IsSome (entry_in es f)
      → entry_in (remove es (rank es f)) g ≡ cond (eqb f g) None (entry_in es g)
  entry_in-remove low high [] f g rises some = absurd (false≢true some)
  entry_in-remove low high (e ∷ es) f g rises some =
      by_cases (ltb e.fault f)
      (λ t. let lt : e.fault < f = ltb-true e.fault f t in
      let ne : eqb e.fault f ≡ false = ne_eqb e.fault f (omega arith) in
      let rest : IsSome (entry_in es f) = rw ne at some in
      rw t (by_cases (eqb e.fault g)
      (λ q. cond-first (eqb e.fault g) (eqb f g) _ _ _ _ q (ne_eqb f g (omega (arith, eqb-true e.fault g q))))
      (λ q. cond-rest (eqb e.fault g) (eqb f g) _ _ _ _ q (entry_in-remove (e.fault + 1) high es f g rises.1 rest))))
      (λ t. let ge : f ≤ e.fault = ltb-false e.fault f t in
      rw t (by_cases (eqb e.fault f)
      (λ q. let same = eqb-true e.fault f q in
      by_cases (eqb f g)
      (λ p. rw (p, entry_in-below (e.fault + 1) high es g rises.1 (omega (arith, same, eqb-true f g p))) refl)
      (λ p. let apart : eqb e.fault g ≡ false = ap (λ n. eqb n g) same ∙ p in rw (p, apart) refl))
      (λ q. let none : entry_in es f ≡ None = entry_in-below (e.fault + 1) high es f rises.1 (omega arith) in
      absurd (false≢true (rw (q, none) at some)))))

  -- a write at the rank of a fault that is there keeps the order
  pub RisesWithin-set : (low high : ℕ) (es : List (Entry V)) (x : Entry V) → RisesWithin low high es
      → IsSome (entry_in es x.fault) → RisesWithin low high (set es (rank es x.fault) x)
  RisesWithin-set low high [] x rises some = absurd (false≢true some)
  RisesWithin-set low high (e ∷ es) x rises some =
      by_cases (ltb e.fault x.fault)
      (λ t. let lt : e.fault < x.fault = ltb-true e.fault x.fault t in
      let ne : eqb e.fault x.fault ≡ false = ne_eqb e.fault x.fault (omega arith) in
      let rest : IsSome (entry_in es x.fault) = rw ne at some in
      rw t (rises.0, RisesWithin-set (e.fault + 1) high es x rises.1 rest))
      (λ t. let ge : x.fault ≤ e.fault = ltb-false e.fault x.fault t in
      rw t (by_cases (eqb e.fault x.fault)
      (λ q. let same = eqb-true e.fault x.fault q in
      (omega (arith, rises.0, same), RisesWithin-lower (e.fault + 1) (x.fault + 1) high es (omega (arith, same)) rises.1))
      (λ q. let none : entry_in es x.fault ≡ None = entry_in-below (e.fault + 1) high es x.fault rises.1 (omega arith) in
      absurd (false≢true (rw (q, none) at some)))))

  -- so does any removal
  pub RisesWithin-remove : (low high : ℕ) (es : List (Entry V)) (i : ℕ) → RisesWithin low high es
      → RisesWithin low high (remove es i)
  RisesWithin-remove low high [] zero rises = rises
  RisesWithin-remove low high [] (suc i) rises = rises
  RisesWithin-remove low high (e ∷ es) zero rises =
      RisesWithin-lower (e.fault + 1) low high es (omega (arith, rises.0)) rises.1
  RisesWithin-remove low high (e ∷ es) (suc i) rises =
      (rises.0, RisesWithin-remove (e.fault + 1) high es i rises.1)

  -- each fault is at least the bound
  pub le-fault_at : (low high : ℕ) (es : List (Entry V)) (k : ℕ) (d : Entry V) → RisesWithin low high es
      → k < length es → low ≤ (get_or es k d).fault
  le-fault_at low high [] k d rises less = absurd (omega arith)
  le-fault_at low high (e ∷ es) zero d rises less = rises.0
  le-fault_at low high (e ∷ es) (suc k) d rises less =
      omega (arith, rises.0, le-fault_at (e.fault + 1) high es k d rises.1 (omega arith))

  -- each entry has a lower fault than those after it
  pub fault_at-rises : (low high : ℕ) (es : List (Entry V)) (i j : ℕ) (d : Entry V) → RisesWithin low high es
      → i < j → j < length es → (get_or es i d).fault < (get_or es j d).fault
  fault_at-rises low high [] i j d rises before less = absurd (omega arith)
  fault_at-rises low high (e ∷ es) i zero d rises before less = absurd (omega arith)
  fault_at-rises low high (e ∷ es) zero (suc j) d rises before less =
      omega (arith, le-fault_at (e.fault + 1) high es j d rises.1 (omega arith))
  fault_at-rises low high (e ∷ es) (suc i) (suc j) d rises before less =
      fault_at-rises (e.fault + 1) high es i j d rises.1 (omega arith) (omega arith)

  pub IsNonDecreasingBy-RisesWithin : (low high : ℕ) (es : List (Entry V)) → RisesWithin low high es
      → IsNonDecreasingBy (λ e. e.fault) es
  IsNonDecreasingBy-RisesWithin low high es rises i j d le less =
      by_cases (ltb i j)
      (λ t. omega (arith, fault_at-rises low high es i j d rises (ltb-true i j t) less))
      (λ t. let same : i ≡ j = omega (arith, ltb-false i j t) in rw same (omega arith))

  -- a look-up of an entry's fault finds that entry's value
  pub entry_in-fault_at : (low high : ℕ) (es : List (Entry V)) (k : ℕ) (d : Entry V) → RisesWithin low high es
      → k < length es → entry_in es (get_or es k d).fault ≡ Some (get_or es k d).value
  entry_in-fault_at low high [] k d rises less = absurd (omega arith)
  entry_in-fault_at low high (e ∷ es) zero d rises less = rw (eq-eqb e.fault e.fault refl) refl
  entry_in-fault_at low high (e ∷ es) (suc k) d rises less =
      let above = le-fault_at (e.fault + 1) high es k d rises.1 (omega arith) in
      let apart : eqb e.fault (get_or es k d).fault ≡ false = ne_eqb e.fault (get_or es k d).fault (omega arith) in
      rw apart (entry_in-fault_at (e.fault + 1) high es k d rises.1 (omega arith))

  -- a fault has an entry exactly where the one at its rank has that fault
  pub is_some-at_rank : (low high : ℕ) (es : List (Entry V)) (f : ℕ) (d : Entry V) → RisesWithin low high es
      → rank es f < length es → eqb (get_or es (rank es f) d).fault f ≡ is_some (entry_in es f)
  is_some-at_rank low high es f d rises less =
      by_cases (eqb (get_or es (rank es f) d).fault f)
      (λ q. q ∙ sym (ap is_some (ap (entry_in es) (sym (eqb-true _ f q)) ∙ entry_in-fault_at low high es (rank es f) d rises less)))
      (λ q. q ∙ sym (ap is_some (absent-at_rank low high es f rises
      (λ within e same. eqb-false _ f q (ap (λ x. x.fault) (get_or_default es (rank es f) d e within) ∙ same)))))

  -- and none where its rank is the end
  pub is_some-past_end : (low high : ℕ) (es : List (Entry V)) (f : ℕ) → RisesWithin low high es
      → length es ≤ rank es f → is_some (entry_in es f) ≡ false
  is_some-past_end low high es f rises past =
      ap is_some (absent-at_rank low high es f rises (λ within d same. absurd (omega arith)))

  -- a fault that has an entry has its rank within the list
  pub rank-within : (low high : ℕ) (es : List (Entry V)) (f : ℕ) → RisesWithin low high es
      → IsSome (entry_in es f) → rank es f < length es
  rank-within low high es f rises some =
      by_cases (ltb (rank es f) (length es))
      (λ t. ltb-true (rank es f) (length es) t)
      (λ t. absurd (false≢true (sym (is_some-past_end low high es f rises (ltb-false (rank es f) (length es) t)) ∙ some)))

  -- the entry at the rank of a fault that is there, as it was read
  pub value-at_rank : (low high : ℕ) (es : List (Entry V)) (f place : ℕ) (x : Entry V) → RisesWithin low high es
      → place ≡ rank es f → IsSome (entry_in es f) → x ≡ get_or es place x → Some x.value ≡ entry_in es f
  value-at_rank low high es f place x rises is some read =
      ap (λ e. Some e.value) (read ∙ ap (λ i. get_or es i x) is) ∙ sym (found-at_rank low high es f x rises some).2

  -- the look-ups of a list and its elements
  pub each-RisesWithin : (low high : ℕ) (es : List (Entry V)) (k : ℕ) → RisesWithin low high es
      → IfSome (slice_get es k) (λ e. entry_in es e.fault ≡ Some e.value)
  each-RisesWithin low high es k rises =
      ⊎_elim
      (λ (inside : (x : Entry V) × (k < length es) × (slice_get es k ≡ Some x) × (get_or es k x ≡ x)).
      rw inside.2 (rw inside.3 at (entry_in-fault_at low high es k inside.0 rises inside.1)))
      (λ (past : (length es ≤ k) × (slice_get es k ≡ None)). rw past.1 tt)
      (slice_get_cases es k).1

  -- the faults as numbers
  pub IsRising-RisesWithin : (low high : ℕ) (es : List (Entry V)) → RisesWithin low high es → IsRising es
  IsRising-RisesWithin low high es rises k less = rw add-one (next low high es k rises (rw add-one at less))
    where
      next : (low high : ℕ) (es : List (Entry V)) (k : ℕ) → RisesWithin low high es
          → suc k < length (map (λ e. e.fault) es)
          → get_or (map (λ e. e.fault) es) k 0 < get_or (map (λ e. e.fault) es) (suc k) 0
      next low high [] k rises less = absurd (omega arith)
      next low high (d ∷ []) k rises less = absurd (omega arith)
      next low high (d ∷ e ∷ es) zero rises less = omega (arith, rises.1.0)
      next low high (d ∷ e ∷ es) (suc k) rises less = next (d.fault + 1) high (e ∷ es) k rises.1 (omega arith)
