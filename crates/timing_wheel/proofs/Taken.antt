-- Keys that are due go out one by one.
use Rattle.std.proofs.Common.{◌≡◌, ◌≢◌, ℕ, zero, suc, ◌+◌, ◌-◌, is_some, ◌<◌, ◌≤◌, ◌++◌, ◌==◌, Bool, true, false, cond, List, [], ◌∷◌, take, drop, length, get_or, Option, None, Some, nat_eq, nat_cmp, Contains, refl, sym, ap, subst, ◌∙◌, arith, inl, inr}
use Rattle.std.specs.List.{IsDistinct}
use Rattle.std.specs.List.Sorted.{IsPermutation, IsSorted}
use Rattle.std.proofs.lemmas.Bool.{cases_eq, false_from_ne_true, eqb-true, le-leb, lt-leb, eq-eqb, ne_eqb}
use Rattle.std.proofs.lemmas.List.{length-append, take-append-drop}
use Rattle.std.proofs.Math.Seq.{take-append_seam, drop-append_seam}
use Rattle.std.proofs.lemmas.List.Sums.{sum_by-cons}
use Rattle.std.proofs.lemmas.List.Elements.{Contains-append_left, Contains-append_right, Contains-append_cases}
use Rattle.std.proofs.lemmas.List.Sorted.{length_permutation, Contains-permutation, IsNonDecreasingBy-from_sort, IsPermutation-sym}
use Rattle.std.proofs.lemmas.Map.Keys.{IsDistinct-push, IsDistinct-IsPermutation, IsStrictlyIncreasing-from_distinct}
use Rattle.std.proofs.lemmas.Map.Views.{Contains-from_any}
use Rattle.std.proofs.lemmas.Cmp.{nat_cmp_total, nat_eq_equiv}
use Rattle.std.specs.FinMap.{FinMap, get, contains_key, remove, len, from_entries, get-remove, len-remove, len-insert, len-empty, empty_of_len, get-empty}
use Rattle.timing_wheel.specs.Times.{idle}
use Rattle.timing_wheel.specs.Wheel.{Pending, IsLeastDue, NoneDue, later, TakesDue}
use Rattle.timing_wheel.specs.Entries.{Collects, live_entries}
use Rattle.timing_wheel.proofs.Live.{held, tied, untied, rest_count, rests_as, rest_counts, used_counts}

nothing_distinct : IsDistinct nat_eq []
unfolding IsDistinct
nothing_distinct = tt

-- no key went out yet
pub collects_none : (wheel : Pending) (t : ℕ) → Collects wheel wheel t []
collects_none wheel t = record {
  distinct = nothing_distinct;
  gone = λ key (among : Contains [] key). absurd (omega (arith, among.1));
  kept = λ key. inr refl;
  counted = omega arith;
}

get_gone : (times : FinMap nat_cmp ℕ) (key : ℕ) → get (remove times key) key ≡ None
get_gone times key = get-remove nat_cmp_total times key key ∙ ap (λ (b : Bool). cond b None (get times key)) (tied key key refl)

get_other : (times : FinMap nat_cmp ℕ) (key q : ℕ) → q ≢ key → get (remove times key) q ≡ get times q
get_other times key q ne = get-remove nat_cmp_total times key q ∙ ap (λ (b : Bool). cond b None (get times q)) (untied q key ne)

only : (key q : ℕ) → Contains (key ∷ []) q → q ≡ key
only key q among = at_first among.0 among.1 among.2
  where
    at_first : (k : ℕ) → k < 1 → get_or (key ∷ []) k q ≡ q → q ≡ key
    at_first zero low is = sym is
    at_first (suc k) low is = absurd (omega arith)

here : (key : ℕ) → Contains (key ∷ []) key
here key = (0, omega arith, refl)

-- one more key goes out
pub collects_more : (old new next : Pending) (t key : ℕ) (taken : List ℕ) → Collects old new t taken → IsLeastDue new.times t key → next.times ≡ remove new.times key → next.spare ≡ new.spare + 1
    → Collects old next t (taken ++ key ∷ [])
collects_more old new next t key taken so_far due times spare =
    let absent : Contains taken key → ⊥ = λ among. (let none = (so_far.gone key among).1 in let some = due.1 in cc) in
    record {
      distinct = IsDistinct-push nat_eq_equiv taken key so_far.distinct (false_from_ne_true _ (λ e. absent (Contains-from_any eqb-true key taken e)));
      gone = λ q among. elim (Contains-append_cases taken (key ∷ []) q among) [
        | inl before ↦
            let apart : q ≢ key = λ e. absent (subst (Contains taken) e before) in
            ((so_far.gone q before).0, ap (λ (m : FinMap nat_cmp ℕ). get m q) times ∙ get_other new.times key q apart ∙ (so_far.gone q before).1)
        | inr now ↦ elim (so_far.kept key) [
          | inl among ↦ absurd (absent among)
          | inr same ↦
              let is = only key q now in
              ((due.0, ap (get old.times) is ∙ sym same ∙ due.1, due.2), ap (λ (m : FinMap nat_cmp ℕ). get m q) times ∙ ap (get (remove new.times key)) is ∙ get_gone new.times key)
        ]
      ];
      kept = λ q. elim (cases_eq q key) [
        | inl same ↦ inl (subst (Contains (taken ++ key ∷ [])) (sym same) (Contains-append_right taken (key ∷ []) key (here key)))
        | inr ne ↦ elim (so_far.kept q) [
          | inl among ↦ inl (Contains-append_left taken (key ∷ []) q among)
          | inr same ↦ inr (ap (λ (m : FinMap nat_cmp ℕ). get m q) times ∙ get_other new.times key q ne ∙ same)
        ]
      ];
      counted = omega (arith, spare, so_far.counted, length-append taken (key ∷ []));
    }

-- a time that isn't due stays
stays : (t : ℕ) (o : Option ℕ) → ((at : ℕ) → o ≡ Some at → t < at) → later t o ≡ o
stays t None past = refl
stays t (Some at) past = ap (λ (b : Bool). cond b None (Some at)) (lt-leb at t (past at refl))

-- where nothing more is due the keys, in order, are all that were due
pub takes_due : (old new : Pending) (t : ℕ) (taken keys : List ℕ) → Collects old new t taken → NoneDue new.times t → IsPermutation taken keys → IsSorted nat_cmp keys → TakesDue old new t keys
takes_due old new t taken keys all none moved sorted = record {
  rising = IsStrictlyIncreasing-from_distinct keys (IsNonDecreasingBy-from_sort (λ (k : ℕ). k) keys sorted) (IsDistinct-IsPermutation nat_eq (nat_eq_equiv).symm taken keys moved all.distinct);
  due = λ key. (
    (λ among. (all.gone key (Contains-permutation keys taken key (IsPermutation-sym taken keys moved) among)).0),
    (λ is. elim (all.kept key) [
      | inl among ↦ Contains-permutation taken keys key moved among
      | inr same ↦ absurd (let h : t < is.0 = none key is.0 (same ∙ is.1) in omega (arith, is.2))
    ]),
  );
  left = λ key. elim (all.kept key) [
    | inl among ↦ let is = all.gone key among in is.1 ∙ sym (ap (later t) is.0.1 ∙ ap (λ (b : Bool). cond b None (Some is.0.0)) (le-leb is.0.0 t is.0.2))
    | inr same ↦ same ∙ sym (stays t (get old.times key) (λ at is. none key at (same ∙ is)))
  ];
  spare = all.counted ∙ ap (λ (n : ℕ). old.spare + n) (sym (length_permutation taken keys moved));
}

at_most_one_more : (b : Bool) (more n m : ℕ) → more ≡ cond b n (n + 1) → n ≤ m → more ≤ suc m
at_most_one_more true more n m is fits = omega arith
at_most_one_more false more n m is fits = omega arith

-- a map of a list has at most as many keys as the list entries
len_from_entries : (es : List (ℕ × ℕ)) → len (from_entries {R = nat_cmp} es) ≤ length es
len_from_entries [] = omega (arith, len-empty nat_cmp ℕ)
len_from_entries (e ∷ es) = at_most_one_more (contains_key (from_entries {R = nat_cmp} es) e.0) _ _ _ (len-insert nat_cmp_total (from_entries es) e.0 e.1) (len_from_entries es)

-- a key goes out: one fewer is there
pub len_taken : (times : FinMap nat_cmp ℕ) (key at : ℕ) → get times key ≡ Some at → 0 < len times × (len (remove times key) + 1 ≡ len times)
len_taken times key at is =
    let there : contains_key times key ≡ true = ap (λ (o : Option ℕ). is_some o) is in
    let step : len (remove times key) ≡ len times - 1 = len-remove nat_cmp_total times key ∙ ap (λ (b : Bool). cond b (len times - 1) (len times)) there in
    elim (cases_eq (len times) 0) [
      | inl none ↦ absurd (let e : get times key ≡ None = ap (λ (m : FinMap nat_cmp ℕ). get m key) (empty_of_len times none) ∙ get-empty nat_cmp key in cc)
      | inr some ↦ (omega arith, omega arith)
    ]

live_cons : (key time : ℕ) (keys times : List ℕ) → length (live_entries (key ∷ keys) (time ∷ times)) + rests_as time ≡ suc (length (live_entries keys times))
live_cons key time keys times = elim (cases_eq time idle) [
  | inl rests ↦ omega (arith, rest_counts time rests, ap (λ (b : Bool). length (cond b (live_entries keys times) ((key, time) ∷ live_entries keys times))) (eq-eqb time idle rests))
  | inr used ↦ omega (arith, used_counts time used, ap (λ (b : Bool). length (cond b (live_entries keys times) ((key, time) ∷ live_entries keys times))) (ne_eqb time idle used))
]

-- each slot is in use or isn't
length_live : (keys times : List ℕ) → length keys ≡ length times → length (live_entries keys times) + rest_count times ≡ length times
length_live [] [] size = refl
length_live [] (time ∷ times) size = absurd (omega arith)
length_live (key ∷ keys) [] size = absurd (omega arith)
length_live (key ∷ keys) (time ∷ times) size =
    ap (λ (n : ℕ). length (live_entries (key ∷ keys) (time ∷ times)) + n) (sum_by-cons (λ (t : ℕ). cond (t == idle) 1 0) time times)
    ∙ omega (arith, live_cons key time keys times, length_live keys times (omega arith))

-- there are at most as many keys as slots in use
pub len_held : (keys times : List ℕ) → length keys ≡ length times → len (held keys times) + rest_count times ≤ length times
len_held keys times size = omega (arith, len_from_entries (live_entries keys times), length_live keys times size)

-- what stands in front stays, and the rest is what was appended
pub tail_of : (old taken collected new : List ℕ) (start : ℕ) → start ≡ length old → collected ≡ old ++ taken → take start new ≡ take start collected → (new ≡ old ++ drop start new) × (drop start collected ≡ taken)
tail_of old taken collected new start is all same =
    let front : take start collected ≡ old = rw (all, is) (take-append_seam old taken) in
    (sym (take-append-drop start new) ∙ ap (λ (xs : List ℕ). xs ++ drop start new) (same ∙ front), rw (all, is) (drop-append_seam old taken))
