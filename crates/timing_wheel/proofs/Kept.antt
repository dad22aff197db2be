-- A slot that starts or stops leaves a schedule sound.
use Rattle.std.proofs.Common.{◌≡◌, ◌≢◌, ℕ, suc, ◌+◌, ◌<◌, ◌≤◌, List, length, min, replicate, ◌^◌, get_or, set, refl, sym, ap, subst, ◌∙◌, arith, inl, inr, ◌⊎◌}
use Rattle.std.proofs.lemmas.Bool.{cases_lt, cases_eq}
use Rattle.std.proofs.lemmas.List.{get_or-set_same, get_or-set_other, length-set, length-replicate, get_or-replicate, set-get_or}
use Rattle.timing_wheel.specs.Times.{idle, IsLeastOf, AllIdle}
use Rattle.timing_wheel.specs.Links.{Placement}
use Rattle.timing_wheel.specs.Slots.{near, resting, distant, IsSchedule}
use Rattle.timing_wheel.proofs.Rings.{stored}

-- where a slot isn't in use it stands in the list of those
pub place_resting : (times : List ℕ) (chains : Placement) (ticks far : List ℕ) (slot : ℕ) → IsSchedule times chains ticks far → slot < length times → get_or times slot 0 ≡ idle
    → (get_or chains.places slot 0 ≡ length ticks) × (get_or far slot 0 ≡ idle)
place_resting times chains ticks far slot sound fits rests = elim (sound.kept slot fits) [
  | near low time used none ↦ absurd (omega arith)
  | resting place time none ↦ (place, none)
  | distant place used none ↦ absurd (omega arith)
]

-- a slot that is stored twice reads as the second; others read as before
twice_same : (xs : List ℕ) (i v w s : ℕ) → i < length xs → s ≡ i → get_or (set (set xs i v) i w) s 0 ≡ w
twice_same xs i v w s fits same = ap (λ (j : ℕ). get_or (set (set xs i v) i w) j 0) same ∙ get_or-set_same (set xs i v) i w 0 (rw length-set fits)

twice_other : (xs : List ℕ) (i v w s : ℕ) → s ≢ i → get_or (set (set xs i v) i w) s 0 ≡ get_or xs s 0
twice_other xs i v w s away = get_or-set_other (set xs i v) i s w 0 away ∙ get_or-set_other xs i s v 0 away

-- a slot starts in a bucket
pub IsSchedule-start_near : (times places ticks far : List ℕ) (lists slot time bucket : ℕ) → IsSchedule times (record { lists = lists; places = places }) ticks far
    → slot < length times → get_or times slot 0 ≡ idle → time < idle → bucket < length ticks → (get_or ticks bucket 0 ≡ idle) ⊎ (get_or ticks bucket 0 ≡ time)
    → IsSchedule (set times slot time) (record { lists = lists; places = set (set places slot lists) slot bucket }) (set ticks bucket time) far
IsSchedule-start_near times places ticks far lists slot time bucket sound fits rests used low free =
    let at_rest = place_resting times _ ticks far slot sound fits rests in
    let in_places : slot < length places = omega (arith, sound.places_size) in
    let ticks_size : length (set ticks bucket time) ≡ length ticks = length-set ticks bucket time in
    let times_size : length (set times slot time) ≡ length times = length-set times slot time in
    let at_bucket : get_or (set ticks bucket time) bucket 0 ≡ time = get_or-set_same ticks bucket time 0 low in
    record {
      places_size = simp length-set (sound.places_size);
      far_size = simp length-set sound.far_size;
      small = simp length-set sound.small;
      lists = simp length-set sound.lists;
      kept = λ s inside. elim (stored times slot time s fits) [
        | inl here ↦
            let place : get_or (set (set places slot lists) slot bucket) s 0 ≡ bucket = twice_same places slot lists bucket s in_places here.0 in
            near (omega arith) (here.1 ∙ sym (ap (λ (j : ℕ). get_or (set ticks bucket time) j 0) place ∙ at_bucket)) (omega (arith, here.1)) (ap (λ (j : ℕ). get_or far j 0) here.0 ∙ at_rest.1)
        | inr away ↦
            let place : get_or (set (set places slot lists) slot bucket) s 0 ≡ get_or places s 0 = twice_other places slot lists bucket s away.0 in
            elim (sound.kept s (omega arith)) [
              | near below same short none ↦ near (omega arith)
                  (away.1 ∙ elim (cases_eq (get_or places s 0) bucket) [
                    | inl is ↦
                        let tick : get_or ticks bucket 0 ≡ get_or times s 0 = sym (same ∙ ap (λ (j : ℕ). get_or ticks j 0) is) in
                        let alike : get_or times s 0 ≡ time = elim free [ inl none ↦ absurd (omega arith) | inr there ↦ sym tick ∙ there ] in
                        alike ∙ sym (ap (λ (j : ℕ). get_or (set ticks bucket time) j 0) (place ∙ is) ∙ at_bucket)
                    | inr differs ↦ same ∙ sym (ap (λ (j : ℕ). get_or (set ticks bucket time) j 0) place ∙ get_or-set_other ticks bucket (get_or places s 0) time 0 differs)
                  ])
                  (omega (arith, away.1)) none
              | resting at rest none ↦ resting (place ∙ at ∙ sym ticks_size) (away.1 ∙ rest) none
              | distant at short there ↦ distant (place ∙ at ∙ ap suc (sym ticks_size)) (omega (arith, away.1)) (there ∙ sym away.1)
            ]
      ];
      used = λ other inside busy. elim (cases_eq other bucket) [
        | inl is ↦ (slot, omega arith, twice_same places slot lists bucket slot in_places refl ∙ sym is)
        | inr differs ↦
            let old = sound.used other (omega arith) (λ e. busy (get_or-set_other ticks bucket other time 0 differs ∙ e)) in
            let away : old.0 ≢ slot = λ e. (let h : get_or places slot 0 ≡ other = ap (λ (j : ℕ). get_or places j 0) (sym e) ∙ old.2 in omega (arith, at_rest)) in
            (old.0, omega (arith, old.1), twice_other places slot lists bucket old.0 away ∙ old.2)
      ];
    }

-- a slot starts among the far times
pub IsSchedule-start_far : (times places ticks far : List ℕ) (lists slot time : ℕ) → IsSchedule times (record { lists = lists; places = places }) ticks far
    → slot < length times → get_or times slot 0 ≡ idle → time < idle
    → IsSchedule (set times slot time) (record { lists = lists; places = set places slot lists }) ticks (set far slot time)
IsSchedule-start_far times places ticks far lists slot time sound fits rests used =
    let at_rest = place_resting times _ ticks far slot sound fits rests in
    let in_places : slot < length places = omega (arith, sound.places_size) in
    let in_far : slot < length far = omega (arith, sound.far_size) in
    let times_size : length (set times slot time) ≡ length times = length-set times slot time in
    let lists_is : lists ≡ suc (length ticks) = (sound.lists (omega arith)).0 in
    record {
      places_size = simp length-set (sound.places_size);
      far_size = simp length-set sound.far_size;
      small = simp length-set sound.small;
      lists = simp length-set sound.lists;
      kept = λ s inside. elim (stored times slot time s fits) [
        | inl here ↦
            distant (ap (λ (j : ℕ). get_or (set places slot lists) j 0) here.0 ∙ get_or-set_same places slot lists 0 in_places ∙ lists_is) (omega (arith, here.1))
            (ap (λ (j : ℕ). get_or (set far slot time) j 0) here.0 ∙ get_or-set_same far slot time 0 in_far ∙ sym here.1)
        | inr away ↦
            let place : get_or (set places slot lists) s 0 ≡ get_or places s 0 = get_or-set_other places slot s lists 0 away.0 in
            let leaf : get_or (set far slot time) s 0 ≡ get_or far s 0 = get_or-set_other far slot s time 0 away.0 in
            elim (sound.kept s (omega arith)) [
              | near below same short none ↦ near (omega arith) (away.1 ∙ same ∙ ap (λ (j : ℕ). get_or ticks j 0) (sym place)) (omega (arith, away.1)) (leaf ∙ none)
              | resting at rest none ↦ resting (place ∙ at) (away.1 ∙ rest) (leaf ∙ none)
              | distant at short there ↦ distant (place ∙ at) (omega (arith, away.1)) (leaf ∙ there ∙ sym away.1)
            ]
      ];
      used = λ other inside busy.
          let old = sound.used other inside busy in
          let away : old.0 ≢ slot = λ e. (let h : get_or places slot 0 ≡ other = ap (λ (j : ℕ). get_or places j 0) (sym e) ∙ old.2 in omega (arith, at_rest)) in
          (old.0, omega (arith, old.1), get_or-set_other places slot old.0 lists 0 away ∙ old.2);
    }

-- a slot goes out of a bucket; the bucket keeps its tick where another slot is in it, and is free else
pub IsSchedule-stop_near : (times places ticks far : List ℕ) (lists slot tick : ℕ) → IsSchedule times (record { lists = lists; places = places }) ticks far
    → slot < length times → get_or times slot 0 < idle → get_or places slot 0 < length ticks
    → ((tick ≡ get_or ticks (get_or places slot 0) 0) × ((other : ℕ) × (other < length times) × (get_or (set places slot lists) other 0 ≡ get_or places slot 0)))
    ⊎ ((tick ≡ idle) × ((other : ℕ) → other < length times → get_or (set places slot lists) other 0 ≢ get_or places slot 0))
    → IsSchedule (set times slot idle) (record { lists = lists; places = set (set places slot lists) slot (length ticks) }) (set ticks (get_or places slot 0) tick) far
IsSchedule-stop_near times places ticks far lists slot tick sound fits used low left =
    let bucket = get_or places slot 0 in
    let in_places : slot < length places = omega (arith, sound.places_size) in
    let ticks_size : length (set ticks (get_or places slot 0) tick) ≡ length ticks = length-set ticks (get_or places slot 0) tick in
    let times_size : length (set times slot idle) ≡ length times = length-set times slot idle in
    let at_bucket : get_or (set ticks (get_or places slot 0) tick) (get_or places slot 0) 0 ≡ tick = get_or-set_same ticks (get_or places slot 0) tick 0 low in
    let lists_is : lists ≡ suc (length ticks) = (sound.lists (omega arith)).0 in
    record {
      places_size = simp length-set (sound.places_size);
      far_size = simp length-set sound.far_size;
      small = simp length-set sound.small;
      lists = simp length-set sound.lists;
      kept = λ s inside. elim (stored times slot idle s fits) [
        | inl here ↦ resting (twice_same places slot lists (length ticks) s in_places here.0 ∙ sym ticks_size) here.1
            (ap (λ (j : ℕ). get_or far j 0) here.0 ∙ elim (sound.kept slot fits) [
              | near below same short none ↦ none
              | resting at rest none ↦ none
              | distant at short there ↦ absurd (omega arith)
            ])
        | inr away ↦
            let place : get_or (set (set places slot lists) slot (length ticks)) s 0 ≡ get_or places s 0 = twice_other places slot lists (length ticks) s away.0 in
            elim (sound.kept s (omega arith)) [
              | near below same short none ↦ near (omega arith)
                  (away.1 ∙ same ∙ sym (ap (λ (j : ℕ). get_or (set ticks (get_or places slot 0) tick) j 0) place ∙ elim (cases_eq (get_or places s 0) (get_or places slot 0)) [
                    | inl is ↦ ap (λ (j : ℕ). get_or (set ticks (get_or places slot 0) tick) j 0) is ∙ at_bucket ∙ elim left [
                      | inl stays ↦ stays.0 ∙ ap (λ (j : ℕ). get_or ticks j 0) (sym is)
                      | inr goes ↦ absurd (goes.1 s (omega arith) (get_or-set_other places slot s lists 0 away.0 ∙ is))
                    ]
                    | inr differs ↦ get_or-set_other ticks (get_or places slot 0) (get_or places s 0) tick 0 differs
                  ]))
                  (omega (arith, away.1)) none
              | resting at rest none ↦ resting (place ∙ at ∙ sym ticks_size) (away.1 ∙ rest) none
              | distant at short there ↦ distant (place ∙ at ∙ ap suc (sym ticks_size)) (omega (arith, away.1)) (there ∙ sym away.1)
            ]
      ];
      used = λ other inside busy. elim (cases_eq other (get_or places slot 0)) [
        | inl is ↦ elim left [
          | inl stays ↦
              let left_one = stays.1 in
              let away : left_one.0 ≢ slot = λ e.
              (let h : lists ≡ get_or places slot 0 = sym (ap (λ (j : ℕ). get_or (set places slot lists) j 0) e ∙ get_or-set_same places slot lists 0 in_places) ∙ left_one.2 in omega arith) in
              (left_one.0, omega (arith, left_one.1), twice_other places slot lists (length ticks) left_one.0 away ∙ sym (get_or-set_other places slot left_one.0 lists 0 away) ∙ left_one.2 ∙ sym is)
          | inr goes ↦ absurd (busy (ap (λ (j : ℕ). get_or (set ticks (get_or places slot 0) tick) j 0) is ∙ at_bucket ∙ goes.0))
        ]
        | inr differs ↦
            let old = sound.used other (omega arith) (λ e. busy (get_or-set_other ticks (get_or places slot 0) other tick 0 differs ∙ e)) in
            let away : old.0 ≢ slot = λ e. differs (sym old.2 ∙ ap (λ (j : ℕ). get_or places j 0) e) in
            (old.0, omega (arith, old.1), twice_other places slot lists (length ticks) old.0 away ∙ old.2)
      ];
    }

-- another slot stays in the bucket
pub IsSchedule-stop_shared : (times places ticks far : List ℕ) (lists slot other : ℕ) → IsSchedule times (record { lists = lists; places = places }) ticks far
    → slot < length times → get_or times slot 0 < idle → get_or places slot 0 < length ticks → other < length times → get_or (set places slot lists) other 0 ≡ get_or places slot 0
    → IsSchedule (set times slot idle) (record { lists = lists; places = set (set places slot lists) slot (length ticks) }) ticks far
IsSchedule-stop_shared times places ticks far lists slot other sound fits used low inside here =
    subst (λ (xs : List ℕ). IsSchedule (set times slot idle) (record { lists = lists; places = set (set places slot lists) slot (length ticks) }) xs far) (set-get_or ticks (get_or places slot 0) 0)
    (IsSchedule-stop_near times places ticks far lists slot (get_or ticks (get_or places slot 0) 0) sound fits used low (inl (refl, (other, inside, here))))

-- a slot goes out of the far times
pub IsSchedule-stop_far : (times places ticks far : List ℕ) (lists slot : ℕ) → IsSchedule times (record { lists = lists; places = places }) ticks far
    → slot < length times → get_or times slot 0 < idle → length ticks ≤ get_or places slot 0
    → IsSchedule (set times slot idle) (record { lists = lists; places = set places slot (length ticks) }) ticks (set far slot idle)
IsSchedule-stop_far times places ticks far lists slot sound fits used high =
    let in_places : slot < length places = omega (arith, sound.places_size) in
    let in_far : slot < length far = omega (arith, sound.far_size) in
    let times_size : length (set times slot idle) ≡ length times = length-set times slot idle in
    record {
      places_size = simp length-set (sound.places_size);
      far_size = simp length-set sound.far_size;
      small = simp length-set sound.small;
      lists = simp length-set sound.lists;
      kept = λ s inside. elim (stored times slot idle s fits) [
        | inl here ↦ resting (ap (λ (j : ℕ). get_or (set places slot (length ticks)) j 0) here.0 ∙ get_or-set_same places slot (length ticks) 0 in_places) here.1
            (ap (λ (j : ℕ). get_or (set far slot idle) j 0) here.0 ∙ get_or-set_same far slot idle 0 in_far)
        | inr away ↦
            let place : get_or (set places slot (length ticks)) s 0 ≡ get_or places s 0 = get_or-set_other places slot s (length ticks) 0 away.0 in
            let leaf : get_or (set far slot idle) s 0 ≡ get_or far s 0 = get_or-set_other far slot s idle 0 away.0 in
            elim (sound.kept s (omega arith)) [
              | near below same short none ↦ near (omega arith) (away.1 ∙ same ∙ ap (λ (j : ℕ). get_or ticks j 0) (sym place)) (omega (arith, away.1)) (leaf ∙ none)
              | resting at rest none ↦ resting (place ∙ at) (away.1 ∙ rest) (leaf ∙ none)
              | distant at short there ↦ distant (place ∙ at) (omega (arith, away.1)) (leaf ∙ there ∙ sym away.1)
            ]
      ];
      used = λ other inside busy.
          let old = sound.used other inside busy in
          let away : old.0 ≢ slot = λ e. (let h : get_or places slot 0 ≡ other = ap (λ (j : ℕ). get_or places j 0) (sym e) ∙ old.2 in omega arith) in
          (old.0, omega (arith, old.1), get_or-set_other places slot old.0 (length ticks) 0 away ∙ old.2);
    }

-- the smaller of the least near and the least far time is the least of all
pub schedule_least : (times : List ℕ) (chains : Placement) (ticks far : List ℕ) (near_least far_least : ℕ) → IsSchedule times chains ticks far → IsLeastOf ticks near_least → IsLeastOf far far_least
    → near_least ≤ idle → far_least ≤ idle → IsLeastOf times (min near_least far_least)
schedule_least times chains ticks far near_least far_least sound near_is far_is near_fits far_fits = record {
  below = λ s inside. elim (sound.kept s inside) [
    | near low same short none ↦ omega (arith, near_is.below (get_or chains.places s 0) low)
    | resting at rest none ↦ omega arith
    | distant at short there ↦ omega (arith, far_is.below s (omega (arith, sound.far_size)))
  ];
  reached = elim (cases_lt far_least near_least) [
    | inl lt ↦ elim far_is.reached [
      | inl none ↦ absurd (omega arith)
      | inr there ↦ elim (sound.kept there.0 (omega (arith, there.1, sound.far_size))) [
        | near low same short none ↦ absurd (omega (arith, there.2))
        | resting at rest none ↦ absurd (omega (arith, there.2))
        | distant at short leaf ↦ inr (there.0, omega (arith, there.1, sound.far_size), omega (arith, there.2))
      ]
    ]
    | inr le ↦ elim near_is.reached [
      | inl none ↦ inl (omega arith)
      | inr there ↦ elim (cases_eq near_least idle) [
        | inl none ↦ inl (omega arith)
        | inr busy ↦
            let one = sound.used there.0 there.1 (λ e. busy (sym there.2 ∙ e)) in
            elim (sound.kept one.0 one.1) [
              | near low same short none ↦ inr (one.0, one.1, same ∙ ap (λ (j : ℕ). get_or ticks j 0) one.2 ∙ there.2 ∙ omega arith)
              | resting at rest none ↦ absurd (omega (arith, one.2, there.1))
              | distant at short leaf ↦ absurd (omega (arith, one.2, there.1))
            ]
      ]
    ]
  ];
}

-- no slot is in use
pub IsSchedule-resting : (slots buckets : ℕ) (chains : Placement) → chains.lists ≡ suc buckets → length chains.places ≡ slots → ((k : ℕ) → k < slots → get_or chains.places k 0 ≡ buckets)
    → 0 < buckets → slots + buckets < 2 ^ 32 → IsSchedule (replicate slots idle) chains (replicate buckets idle) (replicate slots idle)
IsSchedule-resting slots buckets chains lists size places some small =
    let slots_size : length (replicate slots idle) ≡ slots = length-replicate slots idle in
    let buckets_size : length (replicate buckets idle) ≡ buckets = length-replicate buckets idle in
    record {
      places_size = omega arith;
      far_size = refl;
      small = omega arith;
      lists = λ any. (omega arith, omega arith);
      kept = λ s inside. resting (places s (omega arith) ∙ sym buckets_size) (get_or-replicate slots s idle 0 (omega arith)) (get_or-replicate slots s idle 0 (omega arith));
      used = λ other inside busy. absurd (busy (get_or-replicate buckets other idle 0 (omega arith)));
    }

-- where neither has a time no slot is in use
pub schedule_idle : (times : List ℕ) (chains : Placement) (ticks far : List ℕ) (near_least far_least : ℕ) → IsSchedule times chains ticks far → IsLeastOf ticks near_least → IsLeastOf far far_least
    → min near_least far_least ≡ idle → AllIdle times
schedule_idle times chains ticks far near_least far_least sound near_is far_is none s inside = elim (sound.kept s inside) [
  | near low same short absent ↦ absurd (omega (arith, near_is.below (get_or chains.places s 0) low))
  | resting at rest absent ↦ rest
  | distant at short there ↦ absurd (omega (arith, far_is.below s (omega (arith, sound.far_size))))
]
