-- What the calls of a wheel make of what it holds.
use Rattle.std.proofs.Common.{◌≡◌, ◌≢◌, ℕ, ◌+◌, ◌<◌, ◌≤◌, Bool, true, false, cond, List, replicate, ◌^◌, length, get_or, set, Option, None, Some, is_some, refl, sym, ap, subst, ◌∙◌, arith, inl, inr, nat_eq}
use Rattle.std.proofs.lemmas.Bool.{cases_eq}
use Rattle.std.proofs.lemmas.List.{get_or-set_same, get_or-set_other, length-set, length-replicate, get_or-replicate}
use Rattle.std.specs.Ordering.{nat_cmp}
use Rattle.std.specs.HashMap.{get as found, hash_map_len, spare}
use Rattle.std.specs.FinMap.{FinMap, empty, get, contains_key, insert, remove, get-remove, get-empty, same_map, nat_cmp-IsAntisymmetric}
use Rattle.std.proofs.lemmas.Cmp.{nat_cmp_total}
use Rattle.timing_wheel.specs.Times.{idle, IsLeastOf, AllIdle}
use Rattle.timing_wheel.specs.Index.{Table, IsIndexed, NoneHas}
use Rattle.timing_wheel.specs.Entries.{IsWheel}
use Rattle.timing_wheel.specs.Wheel.{IsLeastTime, NoneDue}
use Rattle.timing_wheel.proofs.Rings.{stored}
use Rattle.timing_wheel.proofs.Live.{held, held_put, held_remove, get_absent, get_present, place_of, apart_of, tied, untied, count_stop, count_start, all_rest}

-- a time that isn't the idle one
below_idle : (time : ℕ) → time < idle → time ≢ idle
below_idle time lt e = omega arith

-- a key of a slot in use is there
pub contains_present : (keys times : List ℕ) (index : Table) (room slot key : ℕ) → IsWheel keys times index room → slot < length keys → get_or times slot 0 < idle → get_or keys slot 0 ≡ key → contains_key (held keys times) key ≡ true
contains_present keys times index room slot key w fits used named =
    ap (λ (o : Option ℕ). is_some o) (get_present keys times key slot w.size (apart_of index keys times w.indexed) (fits, below_idle _ used, named))

-- a key of no slot in use isn't there
pub contains_absent : (keys times : List ℕ) (index : Table) (room key : ℕ) → IsWheel keys times index room → NoneHas keys times key → contains_key (held keys times) key ≡ false
contains_absent keys times index room key w absent = ap (λ (o : Option ℕ). is_some o) (get_absent keys times key w.size absent)

-- slots that go out of use are still found by key
pub indexed_stop : (index : Table) (keys times : List ℕ) (slot : ℕ) → length keys ≡ length times → slot < length times → IsIndexed index keys times → IsIndexed index keys (set times slot idle)
indexed_stop index keys times slot size fits indexed other inside used = elim (stored times slot idle other fits) [
  | inl here ↦ absurd (used here.1)
  | inr away ↦ indexed other inside (rw (← away.1) used)
]

-- a slot in use that gets another time is still found
pub indexed_again : (index : Table) (keys times : List ℕ) (slot at : ℕ) → length keys ≡ length times → slot < length times → get_or times slot 0 < idle → IsIndexed index keys times → IsIndexed index keys (set (set times slot idle) slot at)
indexed_again index keys times slot at size fits was indexed other inside used = elim (cases_eq other slot) [
  | inl same ↦ indexed other inside (subst (λ (j : ℕ). get_or times j 0 ≢ idle) (sym same) (below_idle _ was))
  | inr away ↦ indexed other inside (rw (← get_or-set_other times slot other idle 0 away, ← get_or-set_other (set times slot idle) slot other at 0 away) used)
]

-- a key goes out
pub held_cancel : (keys times : List ℕ) (index : Table) (room slot key : ℕ) → IsWheel keys times index room → slot < length keys → get_or times slot 0 < idle → get_or keys slot 0 ≡ key
    → held keys (set times slot idle) ≡ remove (held keys times) key
held_cancel keys times index room slot key w fits used named =
    let in_times : slot < length times = omega (arith, w.size) in
    held_remove keys times keys (set times slot idle) slot key
    (record {
      size = w.size;
      keys_size = refl;
      times_size = length-set times slot idle;
      apart = apart_of index keys times w.indexed;
      apart' = apart_of index keys (set times slot idle) (indexed_stop index keys times slot w.size in_times w.indexed);
      keys_same = λ other away. refl;
      times_same = λ other away. get_or-set_other times slot other idle 0 away;
    })
    fits (get_or-set_same times slot idle 0 in_times) (below_idle _ used) named

-- a key that isn't there goes out
pub held_unchanged : (keys times : List ℕ) (index : Table) (room key : ℕ) → IsWheel keys times index room → NoneHas keys times key → held keys times ≡ remove (held keys times) key
held_unchanged keys times index room key w absent = same_map nat_cmp_total nat_cmp-IsAntisymmetric _ _ (λ q.
    elim (cases_eq q key) [
      | inl e ↦ ap (get (held keys times)) e ∙ get_absent keys times key w.size absent ∙ sym (get-remove nat_cmp_total _ key q ∙ ap (λ (b : Bool). cond b None (get (held keys times) q)) (tied q key e))
      | inr ne ↦ sym (get-remove nat_cmp_total _ key q ∙ ap (λ (b : Bool). cond b None (get (held keys times) q)) (untied q key ne))
    ])

-- a key that is there gets another time
pub held_again : (keys times : List ℕ) (index : Table) (room slot key at : ℕ) → IsWheel keys times index room → slot < length keys → get_or times slot 0 < idle → get_or keys slot 0 ≡ key → at < idle
    → held keys (set (set times slot idle) slot at) ≡ insert (held keys times) key at
held_again keys times index room slot key at w fits used named short =
    let in_times : slot < length times = omega (arith, w.size) in
    let in_stopped : slot < length (set times slot idle) = rw length-set in_times in
    held_put keys times keys (set (set times slot idle) slot at) slot key at
    (record {
      size = w.size;
      keys_size = refl;
      times_size = simp length-set;
      apart = apart_of index keys times w.indexed;
      apart' = apart_of index keys (set (set times slot idle) slot at) (indexed_again index keys times slot at w.size in_times used w.indexed);
      keys_same = λ other away. refl;
      times_same = λ other away. get_or-set_other (set times slot idle) slot other at 0 away ∙ get_or-set_other times slot other idle 0 away;
    })
    fits (get_or-set_same (set times slot idle) slot at 0 in_stopped) (below_idle _ short) named (λ u. named) (inr (below_idle _ used))

-- a new key gets a slot
pub held_add : (keys times : List ℕ) (index index' : Table) (room slot key at : ℕ) → IsWheel keys times index room → slot < length keys → get_or times slot 0 ≡ idle → NoneHas keys times key → at < idle
    → IsIndexed index' (set keys slot key) (set times slot at) → held (set keys slot key) (set times slot at) ≡ insert (held keys times) key at
held_add keys times index index' room slot key at w fits rests absent short indexed =
    let in_times : slot < length times = omega (arith, w.size) in
    held_put keys times (set keys slot key) (set times slot at) slot key at
    (record {
      size = w.size;
      keys_size = length-set keys slot key;
      times_size = length-set times slot at;
      apart = apart_of index keys times w.indexed;
      apart' = apart_of index' (set keys slot key) (set times slot at) indexed;
      keys_same = λ other away. get_or-set_other keys slot other key 0 away;
      times_same = λ other away. get_or-set_other times slot other at 0 away;
    })
    fits (get_or-set_same times slot at 0 in_times) (below_idle _ short) (get_or-set_same keys slot key 0 fits) (λ u. absurd (u rests)) (inl absent)

-- the slot of a new key is found by it
pub indexed_add : (index' : Table) (keys times : List ℕ) (slot key at : ℕ) → length keys ≡ length times → slot < length keys → IsIndexed index' keys times → found nat_eq index' key ≡ Some slot
    → IsIndexed index' (set keys slot key) (set times slot at)
indexed_add index' keys times slot key at size fits indexed here other inside used = elim (cases_eq other slot) [
  | inl same ↦ ap (found nat_eq index') (ap (λ (j : ℕ). get_or (set keys slot key) j 0) same ∙ get_or-set_same keys slot key 0 fits) ∙ here ∙ ap (λ (j : ℕ). Some j) (sym same)
  | inr away ↦ ap (found nat_eq index') (get_or-set_other keys slot other key 0 away)
      ∙ indexed other (rw (← length-set keys slot key) inside) (rw (← get_or-set_other times slot other at 0 away) used)
]

-- the least time of a slot is that of a key
pub least_held : (keys times : List ℕ) (index : Table) (room least : ℕ) → IsWheel keys times index room → IsLeastOf times least → least < idle → IsLeastTime (held keys times) least
least_held keys times index room least w is short =
    let apart = apart_of index keys times w.indexed in
    record {
      reached = elim is.reached [
        | inl none ↦ absurd (omega arith)
        | inr there ↦ (get_or keys there.0 0, get_present keys times (get_or keys there.0 0) there.0 w.size apart (omega (arith, there.1, w.size), (λ e. omega (arith, there.2)), refl) ∙ ap (λ (t : ℕ). Some t) there.2)
      ];
      below = λ key at is_at. elim (place_of keys times key w.size) [
        | inl there ↦
            let time : get_or times there.0 0 ≡ at = (let h = get_present keys times key there.0 w.size apart there.1 in cc) in
            omega (arith, is.below there.0 (omega (arith, there.1.0, w.size)))
        | inr absent ↦ absurd (let h = get_absent keys times key w.size absent in cc)
      ];
    }

-- no slot in use has a time of at most t
pub none_held : (keys times : List ℕ) (index : Table) (room least t : ℕ) → IsWheel keys times index room → IsLeastOf times least → t < least → NoneDue (held keys times) t
none_held keys times index room least t w is past key at is_at = elim (place_of keys times key w.size) [
  | inl there ↦
      let time : get_or times there.0 0 ≡ at = (let h = get_present keys times key there.0 w.size (apart_of index keys times w.indexed) there.1 in cc) in
      omega (arith, is.below there.0 (omega (arith, there.1.0, w.size)))
  | inr absent ↦ absurd (let h = get_absent keys times key w.size absent in cc)
]

-- where no slot is in use no key is there
pub empty_held : (keys times : List ℕ) (index : Table) (room : ℕ) → IsWheel keys times index room → AllIdle times → held keys times ≡ empty
empty_held keys times index room w rests = same_map nat_cmp_total nat_cmp-IsAntisymmetric _ _ (λ q. get_absent keys times q w.size (λ slot fits used named. used (rests slot (omega (arith, w.size)))) ∙ sym (get-empty nat_cmp q))

-- and then nothing is due
pub none_idle : (keys times : List ℕ) (index : Table) (room t : ℕ) → IsWheel keys times index room → AllIdle times → NoneDue (held keys times) t
none_idle keys times index room t w rests key at is_at =
    let none : get (held keys times) key ≡ None = get_absent keys times key w.size (λ slot fits used named. used (rests slot (omega (arith, w.size)))) in
    absurd (let h = none in cc)

-- where a key has a time the wheel isn't empty
pub not_empty : (times : FinMap nat_cmp ℕ) (least : ℕ) → IsLeastTime times least → times ≢ empty
not_empty times least is e = let h : get times is.reached.0 ≡ None = ap (λ (m : FinMap nat_cmp ℕ). get m is.reached.0) e ∙ get-empty nat_cmp is.reached.0 in let k = is.reached.1 in cc

-- a key that is there gets another time, and the wheel is sound
pub IsWheel-again : (keys times : List ℕ) (index : Table) (room slot at : ℕ) → IsWheel keys times index room → slot < length times → get_or times slot 0 < idle → at < idle
    → IsWheel keys (set (set times slot idle) slot at) index room
IsWheel-again keys times index room slot at w fits used short =
    let stopped : length (set times slot idle) ≡ length times = length-set times slot idle in
    record {
      size = simp length-set w.size;
      small = w.small;
      indexed = indexed_again index keys times slot at w.size fits used w.indexed;
      table = w.table;
      counted = omega (arith, w.counted, count_stop times slot fits (below_idle _ used), count_start (set times slot idle) slot at (omega arith) (get_or-set_same times slot idle 0 fits) (below_idle _ short));
    }

-- no slot is in use
pub IsWheel-fresh : (keys : List ℕ) (index : Table) (slots : ℕ) → length keys ≡ slots → slots < 2 ^ 32 → slots + slots ≤ hash_map_len index + spare index → IsWheel keys (replicate slots idle) index slots
IsWheel-fresh keys index slots size small table =
    record {
      size = size ∙ sym (length-replicate slots idle);
      small = omega arith;
      indexed = λ slot fits used. absurd (used (get_or-replicate slots slot idle 0 (omega arith)));
      table = omega arith;
      counted = sym (all_rest slots);
    }
