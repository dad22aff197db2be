-- What a wheel holds at a key, said by its slots.
use Rattle.std.proofs.Common.{◌≡◌, ◌≢◌, ℕ, zero, suc, ◌+◌, ◌<◌, ◌≤◌, ◌==◌, Bool, true, false, cond, List, [], ◌∷◌, length, get_or, set, count_by, replicate, None, Some, refl, sym, ap, subst, ◌∙◌, arith, inl, inr, ◌⊎◌}
use Rattle.std.proofs.lemmas.Bool.{cases_eq, eq-eqb, ne_eqb}
use Rattle.std.proofs.lemmas.List.Sums.{sum_by-set, sum_by-cons, count_by-le-length}
use Rattle.timing_wheel.specs.Index.{Table, IsIndexed, NoneHas}
use Rattle.std.specs.Ordering.{nat_cmp, eq_by_cmp}
use Rattle.std.specs.FinMap.{FinMap, find, get, insert, remove, from_entries, get-from_entries, get-insert, get-remove, same_map, nat_cmp-IsAntisymmetric}
use Rattle.std.proofs.lemmas.Cmp.{nat_cmp_total}
use Rattle.timing_wheel.specs.Times.{idle}
use Rattle.timing_wheel.specs.Entries.{live_entries}

pub tied : (q k : ℕ) → q ≡ k → eq_by_cmp nat_cmp q k ≡ true
tied q k e = grind arith

pub untied : (q k : ℕ) → q ≢ k → eq_by_cmp nat_cmp q k ≡ false
untied q k e = grind arith

-- a slot in use has this key
abbrev pub IsAt : List ℕ → List ℕ → ℕ → ℕ → Type 0
IsAt keys times q slot = (slot < length keys) × (get_or times slot 0 ≢ idle) × (get_or keys slot 0 ≡ q)

-- no two slots in use have one key
abbrev pub IsApart : List ℕ → List ℕ → Type 0
IsApart keys times = (a b q : ℕ) → IsAt keys times q a → IsAt keys times q b → a ≡ b

-- one entry in front, where the slot is in use
front : (key time q : ℕ) (keys times : List ℕ) → time ≢ idle → find nat_cmp q (live_entries (key ∷ keys) (time ∷ times)) ≡ cond (eq_by_cmp nat_cmp q key) (Some time) (find nat_cmp q (live_entries keys times))
front key time q keys times used = ap (λ (b : Bool). find nat_cmp q (cond b (live_entries keys times) ((key, time) ∷ live_entries keys times))) (ne_eqb time idle used)

behind : (key time q : ℕ) (keys times : List ℕ) → time ≡ idle → find nat_cmp q (live_entries (key ∷ keys) (time ∷ times)) ≡ find nat_cmp q (live_entries keys times)
behind key time q keys times rests = ap (λ (b : Bool). find nat_cmp q (cond b (live_entries keys times) ((key, time) ∷ live_entries keys times))) (eq-eqb time idle rests)

find_absent : (keys times : List ℕ) (q : ℕ) → length keys ≡ length times → NoneHas keys times q → find nat_cmp q (live_entries keys times) ≡ None
find_absent [] times q size absent = refl
find_absent (key ∷ keys) [] q size absent = refl
find_absent (key ∷ keys) (time ∷ times) q size absent =
    let rest = find_absent keys times q (omega arith) (λ slot fits. absent (suc slot) (omega arith)) in
    elim (cases_eq time idle) [
      | inl e ↦ behind key time q keys times e ∙ rest
      | inr ne ↦ front key time q keys times ne ∙ ap (λ (b : Bool). cond b (Some time) (find nat_cmp q (live_entries keys times))) (untied q key (λ e. absurd (absent 0 (omega arith) ne (sym e)))) ∙ rest
    ]

find_present : (keys times : List ℕ) (q slot : ℕ) → length keys ≡ length times → IsApart keys times → IsAt keys times q slot → find nat_cmp q (live_entries keys times) ≡ Some (get_or times slot 0)
find_present [] times q slot size apart here = absurd (omega (arith, here.0))
find_present (key ∷ keys) [] q slot size apart here = absurd (omega arith)
find_present (key ∷ keys) (time ∷ times) q zero size apart here =
    front key time q keys times here.1 ∙ ap (λ (b : Bool). cond b (Some time) (find nat_cmp q (live_entries keys times))) (tied q key (sym here.2))
find_present (key ∷ keys) (time ∷ times) q (suc slot) size apart here =
    let below : IsAt keys times q slot = (omega (arith, here.0), here.1, here.2) in
    let rest = find_present keys times q slot (omega arith) (λ a b p at_a at_b. let h : suc a ≡ suc b = apart (suc a) (suc b) p (omega (arith, at_a.0), at_a.1, at_a.2) (omega (arith, at_b.0), at_b.1, at_b.2) in omega arith) below in
    elim (cases_eq time idle) [
      | inl e ↦ behind key time q keys times e ∙ rest
      | inr ne ↦ front key time q keys times ne
          ∙ ap (λ (b : Bool). cond b (Some time) (find nat_cmp q (live_entries keys times))) (untied q key (λ e. let h : 0 ≡ suc slot = apart 0 (suc slot) q (omega arith, ne, sym e) here in omega arith)) ∙ rest
    ]

-- what a wheel of these slots holds
abbrev pub held : List ℕ → List ℕ → FinMap nat_cmp ℕ
held keys times = from_entries (live_entries keys times)

pub get_absent : (keys times : List ℕ) (q : ℕ) → length keys ≡ length times → NoneHas keys times q → get (held keys times) q ≡ None
get_absent keys times q size absent = get-from_entries nat_cmp_total (live_entries keys times) q ∙ find_absent keys times q size absent

pub get_present : (keys times : List ℕ) (q slot : ℕ) → length keys ≡ length times → IsApart keys times → IsAt keys times q slot → get (held keys times) q ≡ Some (get_or times slot 0)
get_present keys times q slot size apart here = get-from_entries nat_cmp_total (live_entries keys times) q ∙ find_present keys times q slot size apart here

-- a key is in use at a slot, or nowhere
pub place_of : (keys times : List ℕ) (q : ℕ) → length keys ≡ length times → ((slot : ℕ) × IsAt keys times q slot) ⊎ NoneHas keys times q
place_of [] times q size = inr (λ slot fits. absurd (omega arith))
place_of (key ∷ keys) [] q size = absurd (omega arith)
place_of (key ∷ keys) (time ∷ times) q size =
    elim (place_of keys times q (omega arith)) [
      | inl there ↦ inl (suc there.0, (omega (arith, there.1.0), there.1.1, there.1.2))
      | inr absent ↦ elim (cases_eq key q) [
        | inr differs ↦ inr (λ slot fits used. later_slots keys times key time q slot absent (λ u. differs) fits used)
        | inl same ↦ elim (cases_eq time idle) [
          | inl rests ↦ inr (λ slot fits used. later_slots keys times key time q slot absent (λ u. absurd (u rests)) fits used)
          | inr used ↦ inl (0, (omega arith, used, same))
        ]
      ]
    ]
  where
    later_slots : (keys times : List ℕ) (key time q slot : ℕ) → NoneHas keys times q → (time ≢ idle → key ≢ q) → slot < length (key ∷ keys) → get_or (time ∷ times) slot 0 ≢ idle → get_or (key ∷ keys) slot 0 ≢ q
    later_slots keys times key time q zero absent first fits used = first used
    later_slots keys times key time q (suc slot) absent first fits used = absent slot (omega arith) used

-- slots that are found by key have different keys
pub apart_of : (index : Table) (keys times : List ℕ) → IsIndexed index keys times → IsApart keys times
apart_of index keys times indexed a b q at_a at_b =
    let found_a = indexed a at_a.0 at_a.1 in
    let found_b = indexed b at_b.0 at_b.1 in
    let same : get_or keys a 0 ≡ get_or keys b 0 = at_a.2 ∙ sym at_b.2 in cc

-- one slot changes
pub record Differ (keys times keys' times' : List ℕ) (slot : ℕ) : Type 0 where
  pub size : length keys ≡ length times
  pub keys_size : length keys' ≡ length keys
  pub times_size : length times' ≡ length times
  pub apart : IsApart keys times
  pub apart' : IsApart keys' times'
  pub keys_same : (other : ℕ) → other ≢ slot → get_or keys' other 0 ≡ get_or keys other 0
  pub times_same : (other : ℕ) → other ≢ slot → get_or times' other 0 ≡ get_or times other 0

-- at another key all is as before
held_elsewhere : (keys times keys' times' : List ℕ) (slot q : ℕ) → Differ keys times keys' times' slot
    → (get_or times' slot 0 ≢ idle → get_or keys' slot 0 ≢ q) → (get_or times slot 0 ≢ idle → get_or keys slot 0 ≢ q) → get (held keys' times') q ≡ get (held keys times) q
held_elsewhere keys times keys' times' slot q d new old =
    let size' : length keys' ≡ length times' = d.keys_size ∙ d.size ∙ sym d.times_size in
    elim (place_of keys times q d.size) [
      | inl there ↦
          let other : there.0 ≢ slot = λ e. old (subst (λ (j : ℕ). get_or times j 0 ≢ idle) e there.1.1) (subst (λ (j : ℕ). get_or keys j 0 ≡ q) e there.1.2) in
          let here : IsAt keys' times' q there.0 = (rw d.keys_size there.1.0, rw (d.times_same there.0 other) there.1.1, d.keys_same there.0 other ∙ there.1.2) in
          get_present keys' times' q there.0 size' d.apart' here ∙ ap (λ (t : ℕ). Some t) (d.times_same there.0 other) ∙ sym (get_present keys times q there.0 d.size d.apart there.1)
      | inr absent ↦
          get_absent keys' times' q size' (λ s fits used. elim (cases_eq s slot) [
            | inl e ↦ rw e (new (subst (λ (j : ℕ). get_or times' j 0 ≢ idle) e used))
            | inr other ↦ rw (d.keys_same s other) (absent s (rw (← d.keys_size) fits) (rw (← d.times_same s other) used))
          ])
          ∙ sym (get_absent keys times q d.size absent)
    ]

-- a slot has a key at a time, and none else had
pub held_put : (keys times keys' times' : List ℕ) (slot key at : ℕ) → Differ keys times keys' times' slot → slot < length keys → get_or times' slot 0 ≡ at → at ≢ idle → get_or keys' slot 0 ≡ key
    → (get_or times slot 0 ≢ idle → get_or keys slot 0 ≡ key) → NoneHas keys times key ⊎ (get_or times slot 0 ≢ idle) → held keys' times' ≡ insert (held keys times) key at
held_put keys times keys' times' slot key at d fits time used named old any = same_map nat_cmp_total nat_cmp-IsAntisymmetric _ _ (λ q.
    elim (cases_eq q key) [
      | inl e ↦
          let size' : length keys' ≡ length times' = d.keys_size ∙ d.size ∙ sym d.times_size in
          let here : IsAt keys' times' q slot = (rw d.keys_size fits, rw time used, named ∙ sym e) in
          get_present keys' times' q slot size' d.apart' here ∙ ap (λ (t : ℕ). Some t) time ∙ sym (get-insert nat_cmp_total _ key at q ∙ ap (λ (b : Bool). cond b (Some at) (get (held keys times) q)) (tied q key e))
      | inr ne ↦
          held_elsewhere keys times keys' times' slot q d (λ u h. ne (sym h ∙ named)) (λ u h. ne (sym h ∙ old u))
          ∙ sym (get-insert nat_cmp_total _ key at q ∙ ap (λ (b : Bool). cond b (Some at) (get (held keys times) q)) (untied q key ne))
    ])

-- a slot that had a key is in use no longer
pub held_remove : (keys times keys' times' : List ℕ) (slot key : ℕ) → Differ keys times keys' times' slot → slot < length keys → get_or times' slot 0 ≡ idle → get_or times slot 0 ≢ idle → get_or keys slot 0 ≡ key
    → held keys' times' ≡ remove (held keys times) key
held_remove keys times keys' times' slot key d fits rests used named = same_map nat_cmp_total nat_cmp-IsAntisymmetric _ _ (λ q.
    elim (cases_eq q key) [
      | inl e ↦
          let size' : length keys' ≡ length times' = d.keys_size ∙ d.size ∙ sym d.times_size in
          get_absent keys' times' q size' (λ s inside live here. elim (cases_eq s slot) [
            | inl same ↦ live (ap (λ (j : ℕ). get_or times' j 0) same ∙ rests)
            | inr other ↦ other (d.apart s slot q (rw (← d.keys_size) inside, rw (← d.times_same s other) live, sym (d.keys_same s other) ∙ here) (fits, used, named ∙ sym e))
          ])
          ∙ sym (get-remove nat_cmp_total _ key q ∙ ap (λ (b : Bool). cond b None (get (held keys times) q)) (tied q key e))
      | inr ne ↦
          held_elsewhere keys times keys' times' slot q d (λ u h. u rests) (λ u h. ne (sym h ∙ named))
          ∙ sym (get-remove nat_cmp_total _ key q ∙ ap (λ (b : Bool). cond b None (get (held keys times) q)) (untied q key ne))
    ])

-- one for a slot that isn't in use
abbrev pub rests_as : ℕ → ℕ
rests_as time = cond (time == idle) 1 0

pub used_counts : (time : ℕ) → time ≢ idle → rests_as time ≡ 0
used_counts time used = ap (λ (b : Bool). cond b 1 0) (ne_eqb time idle used)

pub rest_counts : (time : ℕ) → time ≡ idle → rests_as time ≡ 1
rest_counts time rests = ap (λ (b : Bool). cond b 1 0) (eq-eqb time idle rests)

-- how many slots aren't in use
abbrev pub rest_count : List ℕ → ℕ
rest_count times = count_by (λ time. time == idle) times

count_set : (times : List ℕ) (slot at : ℕ) → slot < length times → rest_count (set times slot at) + rests_as (get_or times slot 0) ≡ rest_count times + rests_as at
count_set times slot at fits = sum_by-set (λ (t : ℕ). cond (t == idle) 1 0) times slot at 0 fits

pub count_stop : (times : List ℕ) (slot : ℕ) → slot < length times → get_or times slot 0 ≢ idle → rest_count (set times slot idle) ≡ rest_count times + 1
count_stop times slot fits used = omega (arith, count_set times slot idle fits, used_counts (get_or times slot 0) used, rest_counts idle refl)

pub count_start : (times : List ℕ) (slot at : ℕ) → slot < length times → get_or times slot 0 ≡ idle → at ≢ idle → rest_count (set times slot at) + 1 ≡ rest_count times
count_start times slot at fits rests used = omega (arith, count_set times slot at fits, rest_counts (get_or times slot 0) rests, used_counts at used)

pub count_rest : (times : List ℕ) → rest_count times ≤ length times
count_rest times = count_by-le-length (λ (t : ℕ). t == idle) times

-- where all slots are in use none rests
pub none_rests : (times : List ℕ) → ((slot : ℕ) → slot < length times → get_or times slot 0 ≢ idle) → rest_count times ≡ 0
none_rests [] used = refl
none_rests (time ∷ times) used =
    sum_by-cons (λ (t : ℕ). cond (t == idle) 1 0) time times
    ∙ omega (arith, used_counts time (used 0 (omega arith)), none_rests times (λ slot fits. used (suc slot) (omega arith)))

pub all_rest : (slots : ℕ) → rest_count (replicate slots idle) ≡ slots
all_rest zero = refl
all_rest (suc slots) = sum_by-cons (λ (t : ℕ). cond (t == idle) 1 0) idle (replicate slots idle) ∙ omega (arith, all_rest slots, rest_counts idle refl)
