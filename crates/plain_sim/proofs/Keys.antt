-- A wheel that has room for so many keys, and whose keys are below their number.
use Rattle.std.proofs.Common.{◌≡◌, ◌≢◌, ℕ, zero, suc, ◌+◌, ◌-◌, ◌<◌, ◌≤◌, Bool, true, false, cond, List, length, refl, ap, sym, subst, ◌∙◌, arith, inl, inr, ◌⊎◌}
use Rattle.std.specs.Prelude.{IsTrue, Option, Some, None, is_some, nat_eq, if◌then◌else◌}
use Rattle.std.specs.Ordering.{nat_cmp, eq_by_cmp}
use Rattle.std.specs.Cmp.{unsigned_tied}
use Rattle.std.specs.FinMap.{FinMap, empty, get, contains_key, insert, remove, len, get-empty, get-insert, get-remove, len-empty, len-insert, len-remove, same_map, empty_of_len, nat_cmp-IsAntisymmetric}
use Rattle.std.proofs.lemmas.Cmp.{nat_cmp_total}
use Rattle.std.proofs.lemmas.Bool.{cases_lt, cases_eq, eq-eqb, ne_eqb, false≢true}
use Rattle.timing_wheel.specs.Wheel.{Times, Pending, HasRoomFor, spare_after_put, spare_after_cancel}
use Rattle.flat_net.specs.declared.parts.Parts.{Parts}
use Rattle.cell_step.specs.declared.states.CellState.{CellState}
use Rattle.plain_sim.specs.Due.{NonePast, HasKeyRoom, HasNetTimes, SetsTime, room_of, change_key, timer_key, element_time, change_time, timer_time}

-- a map without keys
no-keys : (times : Times) → NonePast 0 times → times ≡ empty
no-keys times none = same_map nat_cmp_total nat_cmp-IsAntisymmetric times empty (λ q. none q (omega arith) ∙ sym (get-empty nat_cmp q))

get-other : (times : Times) (key at q : ℕ) → q ≢ key → get (insert times key at) q ≡ get times q
get-other times key at q ne =
    get-insert nat_cmp_total times key at q ∙ ap (λ b. cond b (Some at) (get times q)) (unsigned_tied q key ∙ ne_eqb q key ne)

-- as many keys are there as numbers are below, at most
few-keys : (count : ℕ) (times : Times) → NonePast count times → len times ≤ count
few-keys zero times none = let e = ap (λ (m : Times). len m) (no-keys times none) ∙ len-empty nat_cmp ℕ in omega arith
few-keys (suc count) times none =
    let rest = few-keys count (remove times count) (λ key past. get-remove nat_cmp_total times count key ∙ elim (cases_eq key count) [
      | inl e ↦ ap (λ b. cond b None (get times key)) (unsigned_tied key count ∙ eq-eqb key count e)
      | inr ne ↦ ap (λ b. cond b None (get times key)) (unsigned_tied key count ∙ ne_eqb key count ne) ∙ none key (let g = ne in omega arith)
    ]) in
    by_test (contains_key times count) (len-remove nat_cmp_total times count) rest
  where
    by_test : (b : Bool) → len (remove times count) ≡ cond b (len times - 1) (len times) → len (remove times count) ≤ count → len times ≤ suc count
    by_test true less rest = omega arith
    by_test false less rest = omega arith

-- a key that isn't there has room
pub room-for : (count : ℕ) (wheel : Pending) (key : ℕ) → HasKeyRoom count wheel → key < count → HasRoomFor wheel key
room-for count wheel key has lt = by_test (contains_key wheel.times key) refl
  where
    by_test : (b : Bool) → contains_key wheel.times key ≡ b → HasRoomFor wheel key
    by_test true there = inl there
    by_test false absent =
        let more : len (insert wheel.times key 0) ≡ len wheel.times + 1 =
        len-insert nat_cmp_total wheel.times key 0 ∙ ap (λ b. cond b (len wheel.times) (len wheel.times + 1)) absent in
        let few = few-keys count (insert wheel.times key 0)
        (λ q past. get-other wheel.times key 0 q (λ e. omega arith) ∙ has.past q past) in
        let room = has.room in inr (omega arith)

-- an empty wheel that has room
pub keys-start : (count : ℕ) (wheel : Pending) → wheel.times ≡ empty → count ≤ wheel.spare → HasKeyRoom count wheel
keys-start count wheel is room = record {
  past = λ q past. ap (λ (m : Times). get m q) is ∙ get-empty nat_cmp q;
  room = omega arith;
}

-- a key below the count gets a time or goes out
pub keys-kept : (count : ℕ) (old new : Pending) (key : ℕ) (time : Option ℕ) → HasKeyRoom count old → key < count →
    SetsTime old.times new.times key time → room_of new ≡ room_of old → HasKeyRoom count new
keys-kept count old new key time has lt sets same = record {
  past = λ q past.
      sets q ∙ ap (λ b. cond b time (get old.times q)) (ne_eqb q key (λ e. omega arith)) ∙ has.past q past;
  room = let room = has.room in omega arith;
}

-- what a key has that gets a time, and what another has
pub set-here : (old new : Times) (key : ℕ) (time : Option ℕ) → SetsTime old new key time → get new key ≡ time
set-here old new key time sets = sets key ∙ ap (λ b. cond b time (get old key)) (eq-eqb key key refl)

pub set-other : (old new : Times) (key : ℕ) (time : Option ℕ) (q : ℕ) → SetsTime old new key time → q ≢ key → get new q ≡ get old q
set-other old new key time q sets ne = sets q ∙ ap (λ b. cond b time (get old q)) (ne_eqb q key ne)

-- the elements before this one have their times, and then this one has
pub element-more : (elements : List CellState) (old new : Times) (number : ℕ) (time : Option ℕ) → SetsTime old new number time →
    time ≡ element_time elements number → ((k : ℕ) → k < number → get old k ≡ element_time elements k) →
    (k : ℕ) → k < number + 1 → get new k ≡ element_time elements k
element-more elements old new number time sets is before k lt = elim (cases_eq k number) [
  | inl e ↦ ap (λ (q : ℕ). get new q) e ∙ set-here old new number time sets ∙ is ∙ ap (element_time elements) (sym e)
  | inr ne ↦ set-other old new number time k sets ne ∙ before k (let g = ne in omega arith)
]

-- a net has its times
module _ (parts : Parts) (islands : List CellState) (net : ℕ) (lt : net < length parts.nets) (old mid new : Times) (change timer : ℕ)
    (change-time timer-time : Option ℕ) (sets : SetsTime old mid change change-time) (adds : SetsTime mid new timer timer-time)
    (is-change : change ≡ change_key parts net) (is-timer : timer ≡ timer_key parts net) where
  pub net-set : change-time ≡ change_time parts islands net → timer-time ≡ timer_time parts islands net → HasNetTimes parts islands new net
  net-set e f = (
    ap (λ (q : ℕ). get new q) (sym is-change) ∙ set-other mid new timer timer-time change adds (λ g. omega arith)
        ∙ set-here old mid change change-time sets ∙ e,
    ap (λ (q : ℕ). get new q) (sym is-timer) ∙ set-here mid new timer timer-time adds ∙ f,
  )

  pub net-other : (key : ℕ) → key ≢ change_key parts net → key ≢ timer_key parts net → get new key ≡ get old key
  net-other key apart distinct =
      set-other mid new timer timer-time key adds (λ e. distinct (e ∙ is-timer)) ∙ set-other old mid change change-time key sets (λ e. apart (e ∙ is-change))

-- the nets before this one have their times, and then this one has
pub net-more : (parts : Parts) (islands : List CellState) (old new : Times) (net : ℕ) → net < length parts.nets → HasNetTimes parts islands new net →
    ((key : ℕ) → key ≢ change_key parts net → key ≢ timer_key parts net → get new key ≡ get old key) →
    ((k : ℕ) → k < net → HasNetTimes parts islands old k) → (k : ℕ) → k < net + 1 → HasNetTimes parts islands new k
net-more parts islands old new net lt has others before k less = elim (cases_eq k net) [
  | inl e ↦ subst (HasNetTimes parts islands new) (sym e) has
  | inr ne ↦
      let below : k < net = (let g = ne in omega arith) in
      let were = before k below in (
        others (change_key parts k) (λ g. ne (omega arith)) (λ g. omega arith) ∙ were.0,
        others (timer_key parts k) (λ g. omega arith) (λ g. ne (omega arith)) ∙ were.1,
      )
]

-- ---- a put and a cancel

pub put-sets : (old : Times) (key at : ℕ) → SetsTime old (insert old key at) key (Some at)
put-sets old key at q = get-insert nat_cmp_total old key at q ∙ ap (λ b. cond b (Some at) (get old q)) (unsigned_tied q key)

pub cancel-sets : (old : Times) (key : ℕ) → SetsTime old (remove old key) key None
cancel-sets old key q = get-remove nat_cmp_total old key q ∙ ap (λ b. cond b None (get old q)) (unsigned_tied q key)

pub put-room : (old : Pending) (key at : ℕ) → HasRoomFor old key → spare_after_put old key + len (insert old.times key at) ≡ room_of old
put-room old key at room = by_test (contains_key old.times key) (len-insert nat_cmp_total old.times key at) room
  where
    by_test : (b : Bool) → len (insert old.times key at) ≡ cond b (len old.times) (len old.times + 1) → IsTrue b ⊎ (0 < old.spare) →
        cond b old.spare (old.spare - 1) + len (insert old.times key at) ≡ room_of old
    by_test true more room = omega arith
    by_test false more (inl absent) = absurd (false≢true absent)
    by_test false more (inr some) = omega arith

pub cancel-room : (old : Pending) (key : ℕ) → spare_after_cancel old key + len (remove old.times key) ≡ room_of old
cancel-room old key = by_test (contains_key old.times key) refl (len-remove nat_cmp_total old.times key)
  where
    some : contains_key old.times key ≡ true → 0 < len old.times
    some there = elim (cases_lt 0 (len old.times)) [
      | inl lt ↦ lt
      | inr none ↦
          let e : get old.times key ≡ None =
          ap (λ (m : Times). get m key) (empty_of_len old.times (omega arith)) ∙ get-empty nat_cmp key in
          absurd (let f = ap (λ (o : Option ℕ). is_some o) e in cc)
    ]

    by_test : (b : Bool) → contains_key old.times key ≡ b → len (remove old.times key) ≡ cond b (len old.times - 1) (len old.times) →
        cond b (old.spare + 1) old.spare + len (remove old.times key) ≡ room_of old
    by_test true there less = let h = some there in omega arith
    by_test false absent less = omega arith
