-- What a change of one cell's list leaves of the whole map.
use Rattle.std.proofs.Common.{◌≡◌, ℕ, suc, ◌+◌, ◌*◌, ◌<◌, ◌≤◌, ◌^◌, Bool, true, false, cond, ◌&&◌, eqb, List, [], ◌∷◌, length, set, Option, None, Some, refl, sym, ap, ◌∙◌, arith}
use Rattle.std.specs.Option.{is_some}
use Rattle.std.specs.Option.{IsSome}
use Rattle.std.specs.List.{insert, remove}
use Rattle.std.proofs.lemmas.Bool.{eqb-true, eqb-false, and_parts}
use Rattle.std.proofs.lemmas.List.{length-set, get_or-set_same, get_or-set_other}
use Rattle.std.proofs.lemmas.List.Sums.{sum_by-set, sum_by-cons}
use Rattle.std.proofs.lemmas.List.Edits.{length-insert, length-remove}
use Rattle.divergence_list.specs.declared.entry.Entry.{Entry}
use Rattle.divergence_list.specs.declared.fault_cells.FaultCells.{FaultCells}
use Rattle.divergence_list.specs.Entries.{entry_in, at_cell, entry_at, count, ChangesOnly}
use Rattle.divergence_list.specs.Order.{IsCellList, rank}
use Rattle.divergence_list.specs.Invariant.{has_cell, IsSound}
use Rattle.divergence_list.proofs.Rising.{by_cases, length-RisesWithin, rank-le-length, rank-within, entry_in-insert, RisesWithin-insert, entry_in-set, RisesWithin-set, entry_in-remove, RisesWithin-remove}

module _ {V : Type 0} where
  -- a write of one cell's list
  pub at_cell-set : (s : List (List (Entry V))) (cell : ℕ) (es : List (Entry V)) (c : ℕ) → cell < length s
      → at_cell (set s cell es) c ≡ cond (eqb cell c) es (at_cell s c)
  at_cell-set s cell es c within =
      by_cases (eqb cell c)
      (λ q. rw q (ap (at_cell (set s cell es)) (sym (eqb-true cell c q)) ∙ get_or-set_same s cell es [] within))
      (λ q. rw q (get_or-set_other s cell c es [] (λ same. eqb-false cell c q (sym same))))

  -- a change of one fault in one cell's list
  pub ChangesOnly-set : (s : List (List (Entry V))) (cell : ℕ) (es : List (Entry V)) (f : ℕ) (value : Option V)
      → cell < length s → ((g : ℕ) → entry_in es g ≡ cond (eqb f g) value (entry_in (at_cell s cell) g))
      → ChangesOnly s (set s cell es) cell f value
  ChangesOnly-set s cell es f value within step =
      record {
        cells = length-set s cell es;
        entries = λ c g. ap (λ xs. entry_in xs g) (at_cell-set s cell es c within) ∙ at c g;
        others = λ c apart. get_or-set_other s cell c es [] apart;
      }
    where
      at : (c g : ℕ) → entry_in (cond (eqb cell c) es (at_cell s c)) g
          ≡ cond (eqb cell c && eqb f g) value (entry_at s c g)
      at c g =
          by_cases (eqb cell c)
          (λ q. rw q (step g ∙ ap (λ i. cond (eqb f g) value (entry_at s i g)) (eqb-true cell c q)))
          (λ q. rw q refl)

  pub IsSound-set : (s : List (List (Entry V))) (cell : ℕ) (es : List (Entry V)) → cell < length s → IsSound s
      → IsCellList es → IsSound (set s cell es)
  IsSound-set s cell es within sound rises c =
      rw (at_cell-set s cell es c within)
      (by_cases (eqb cell c) (λ q. rw q rises) (λ q. rw q (sound c)))

  pub count-set : (s : List (List (Entry V))) (cell : ℕ) (es : List (Entry V)) → cell < length s
      → count (set s cell es) + length (at_cell s cell) ≡ count s + length es
  count-set s cell es within = sum_by-set length s cell es [] within

  -- there are no more entries than cells times faults
  count-bound : (bound : ℕ) (s : List (List (Entry V))) → ((c : ℕ) → length (at_cell s c) ≤ bound)
      → count s ≤ length s * bound
  count-bound bound [] each = omega arith
  count-bound bound (es ∷ s) each =
      rw (sum_by-cons length es s) (omega (arith, each 0, count-bound bound s (λ c. each (suc c))))

  pub count-IsSound : (s : List (List (Entry V))) → IsSound s → count s ≤ length s * 2 ^ 32
  count-IsSound s sound =
      count-bound (2 ^ 32) s (λ c. omega (arith, length-RisesWithin 0 (2 ^ 32) (at_cell s c) (sound c)))

  -- the number of entries fits 64 bits
  pub count-fits : (s : List (List (Entry V))) → IsSound s → length s < 2 ^ 32 → count s < 2 ^ 64
  count-fits s sound few = omega (arith, count-IsSound s sound)

  is_some-cond : (t : Bool) (value x : Option V) → cond t (is_some value) (is_some x) ≡ is_some (cond t value x)
  is_some-cond true value x = refl
  is_some-cond false value x = refl

  -- the cells of the faults, after one entry came or went
  pub kept-changes : (m n : FaultCells) (s t : List (List (Entry V))) (cell f : ℕ) (value : Option V)
      → ((g c : ℕ) → has_cell m g c ≡ is_some (entry_at s c g))
      → ((g c : ℕ) → has_cell n g c ≡ cond (eqb cell c && eqb f g) (is_some value) (has_cell m g c))
      → ChangesOnly s t cell f value → (g c : ℕ) → has_cell n g c ≡ is_some (entry_at t c g)
  kept-changes m n s t cell f value kept step change g c =
      step g c ∙ ap (cond (eqb cell c && eqb f g) (is_some value)) (kept g c)
      ∙ is_some-cond (eqb cell c && eqb f g) value (entry_at s c g) ∙ ap is_some (sym (change.entries c g))

  -- the same, after the value of one entry changed
  pub kept-stays : (m : FaultCells) (s t : List (List (Entry V))) (cell f : ℕ) (value : V)
      → ((g c : ℕ) → has_cell m g c ≡ is_some (entry_at s c g)) → is_some (entry_at s cell f) ≡ true
      → ChangesOnly s t cell f (Some value) → (g c : ℕ) → has_cell m g c ≡ is_some (entry_at t c g)
  kept-stays m s t cell f value kept some change g c =
      kept g c ∙ same ∙ is_some-cond (eqb cell c && eqb f g) (Some value) (entry_at s c g)
      ∙ ap is_some (sym (change.entries c g))
    where
      same : is_some (entry_at s c g) ≡ cond (eqb cell c && eqb f g) true (is_some (entry_at s c g))
      same =
          by_cases (eqb cell c && eqb f g)
          (λ q. rw q (let both = and_parts (eqb cell c) (eqb f g) q in
          ap (λ i. is_some (entry_at s i g)) (sym (eqb-true cell c both.0))
          ∙ ap (λ i. is_some (entry_at s cell i)) (sym (eqb-true f g both.1)) ∙ some))
          (λ q. rw q refl)

  module _ (s : List (List (Entry V))) (cell f place : ℕ) (sound : IsSound s) (within : cell < length s)
      (is : place ≡ rank (at_cell s cell) f) where
    -- the removal of an entry that is there
    module _ (there : IsSome (entry_at s cell f)) (t : List (List (Entry V)))
        (made : t ≡ set s cell (remove (at_cell s cell) place)) where
      pub ChangesOnly-remove : ChangesOnly s t cell f None
      ChangesOnly-remove =
          rw (made, is) (ChangesOnly-set s cell (remove (at_cell s cell) (rank (at_cell s cell) f)) f None within
          (λ g. entry_in-remove 0 (2 ^ 32) (at_cell s cell) f g (sound cell) there))

      pub IsSound-remove : IsSound t
      IsSound-remove =
          rw made (IsSound-set s cell (remove (at_cell s cell) place) within sound
          (RisesWithin-remove 0 (2 ^ 32) (at_cell s cell) place (sound cell)))

      pub count-remove : count t + 1 ≡ count s
      count-remove =
          let less = rank-within 0 (2 ^ 32) (at_cell s cell) f (sound cell) there in
          let step = count-set s cell (remove (at_cell s cell) place) within in
          let shorter = length-remove (at_cell s cell) place (rw is less) in
          rw made (omega (arith, step, shorter))

    -- another value for an entry that is there
    module _ (there : IsSome (entry_at s cell f)) (v : V) (t : List (List (Entry V)))
        (made : t ≡ set s cell (set (at_cell s cell) place record { fault = f; value = v })) where
      pub ChangesOnly-replace : ChangesOnly s t cell f (Some v)
      ChangesOnly-replace =
          rw (made, is) (ChangesOnly-set s cell (set (at_cell s cell) (rank (at_cell s cell) f) record { fault = f; value = v }) f (Some v) within
          (λ g. entry_in-set 0 (2 ^ 32) (at_cell s cell) record { fault = f; value = v } g (sound cell) there))

      pub IsSound-replace : IsSound t
      IsSound-replace =
          rw (made, is) (IsSound-set s cell (set (at_cell s cell) (rank (at_cell s cell) f) record { fault = f; value = v }) within sound
          (RisesWithin-set 0 (2 ^ 32) (at_cell s cell) record { fault = f; value = v } (sound cell) there))

      pub count-replace : count t ≡ count s
      count-replace =
          let step = count-set s cell (set (at_cell s cell) place record { fault = f; value = v }) within in
          let as_long = length-set (at_cell s cell) place record { fault = f; value = v } in
          rw made (omega (arith, step, as_long))

    -- an entry of a fault that has none
    module _ (absent : entry_at s cell f ≡ None) (fits : f < 2 ^ 32) (v : V) (t : List (List (Entry V)))
        (made : t ≡ set s cell (insert (at_cell s cell) place record { fault = f; value = v })) where
      pub ChangesOnly-insert : ChangesOnly s t cell f (Some v)
      ChangesOnly-insert =
          rw (made, is) (ChangesOnly-set s cell (insert (at_cell s cell) (rank (at_cell s cell) f) record { fault = f; value = v }) f (Some v) within
          (λ g. entry_in-insert (at_cell s cell) record { fault = f; value = v } g))

      pub IsSound-insert : IsSound t
      IsSound-insert =
          rw (made, is) (IsSound-set s cell (insert (at_cell s cell) (rank (at_cell s cell) f) record { fault = f; value = v }) within sound
          (RisesWithin-insert 0 (2 ^ 32) (at_cell s cell) record { fault = f; value = v } (sound cell) (omega arith) fits absent))

      pub count-insert : count t ≡ count s + 1
      count-insert =
          let step = count-set s cell (insert (at_cell s cell) place record { fault = f; value = v }) within in
          let longer = length-insert (at_cell s cell) place record { fault = f; value = v } (rw is (rank-le-length (at_cell s cell) f)) in
          rw made (omega (arith, step, longer))
