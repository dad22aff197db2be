-- The next tick of a run is the time of the first line that isn't done, or the least due time.
use Rattle.std.proofs.Common.{◌≡◌, ◌⊎◌, ℕ, zero, suc, ◌+◌, ◌-◌, ◌<◌, ◌≤◌, min, List, [], ◌∷◌, ◌++◌, length, get_or, Option, Some, None, refl, ap, sym, ◌∙◌, subst, arith, inl, inr, length-append}
use Rattle.std.specs.Prelude.{All, Contains, map, nat_le, slice_get}
use Rattle.std.specs.Option.{option_map_or}
use Rattle.std.proofs.lemmas.Bool.{cases_lt, le-leb, lt-leb, lt-ltb, le-ltb}
use Rattle.std.proofs.lemmas.List.{get_or-map, length-map, get_or_append_left, get_or-append_right, get_or_default}
use Rattle.std.proofs.lemmas.Option.{slice_get-get_or, slice_get_past}
use Rattle.machine.specs.Run.{Schedule, lesser, least, next_tick, IsNextTick, IsLastTick}
use Rattle.machine.proofs.Ticks.{next_tick-is, next_tick-none}
use Rattle.plain_sim.specs.Times.{earlier}
use Rattle.vector_text.specs.declared.stimulus.StimulusLine.{StimulusLine}
use Rattle.stimulus_run.specs.Lines.{AreUpTo, DoTimesRise}
use Rattle.stimulus_run.specs.Ticks.{end_after, time_after, up_to, earlier_up_to}

-- ---- the least number of a list

least-none : (xs : List ℕ) → least xs ≡ None → xs ≡ []
least-none [] e = refl
least-none (x ∷ xs) e = absurd (let f : Some (lesser x (least xs)) ≡ None = e in cc)

-- the time is one of the list, and none is less
record IsFirst (xs : List ℕ) (n : ℕ) : Type 0 where
  in_list : Contains xs n
  least : (t : ℕ) → Contains xs t → n ≤ t

head-in : (x : ℕ) (xs : List ℕ) → Contains (x ∷ xs) x
head-in x xs = (0, omega arith, refl)

tail-in : (x y : ℕ) (xs : List ℕ) → Contains xs y → Contains (x ∷ xs) y
tail-in x y xs h = (suc h.0, (let lt = h.1 in omega arith), h.2)

-- what is in a list is its head or in its tail
uncons : (x y : ℕ) (xs : List ℕ) → Contains (x ∷ xs) y → (x ≡ y) ⊎ Contains xs y
uncons x y xs (zero, lt, e) = inl e
uncons x y xs (suc k, lt, e) = inr (k, omega arith, e)

least-first : (xs : List ℕ) (n : ℕ) → least xs ≡ Some n → IsFirst xs n
least-first [] n e = absurd (let f : Some n ≡ None = sym e in cc)
least-first (x ∷ xs) n e = by_rest (least xs) refl (λ k some. least-first xs k some)
  where
    by_rest : (o : Option ℕ) → least xs ≡ o → ((k : ℕ) → least xs ≡ Some k → IsFirst xs k) → IsFirst (x ∷ xs) n
    by_rest None none rest =
        let f : Some x ≡ Some n = sym (ap (λ (o : Option ℕ). Some (lesser x o)) none) ∙ e in
        let h : x ≡ n = cc in
        record {
          in_list = subst (λ (k : ℕ). Contains (x ∷ xs) k) h (head-in x xs);
          least = λ t there. elim (uncons x t xs there) [
            | inl here ↦ omega arith
            | inr later ↦ absurd (let empty = ap length (least-none xs none) in let lt = later.1 in omega arith)
          ];
        }
    by_rest (Some k) some rest =
        let f : Some (min x k) ≡ Some n = sym (ap (λ (o : Option ℕ). Some (lesser x o)) some) ∙ e in
        let h : min x k ≡ n = cc in
        let first = rest k some in
        record {
          in_list = elim (cases_lt x k) [
            | inl lt ↦ let here : x ≡ n = omega arith in subst (λ (t : ℕ). Contains (x ∷ xs) t) here (head-in x xs)
            | inr ge ↦ let there : k ≡ n = omega arith in subst (λ (t : ℕ). Contains (x ∷ xs) t) there (tail-in x k xs first.in_list)
          ];
          least = λ t there. elim (uncons x t xs there) [
            | inl here ↦ omega arith
            | inr later ↦ let le = first.least t later in omega arith
          ];
        }

-- ---- the next tick

unappend : (xs ys : List ℕ) (t : ℕ) → Contains (xs ++ ys) t → Contains xs t ⊎ Contains ys t
unappend xs ys t (k, lt, e) = elim (cases_lt k (length xs)) [
  | inl less ↦ inl (k, less, sym (get_or_append_left xs ys t k less) ∙ e)
  | inr more ↦
      inr (k - length xs, (let n = length-append xs ys in omega arith), sym (get_or-append_right xs ys (length xs) k t refl more) ∙ e)
]

in-left : (xs ys : List ℕ) (t : ℕ) → Contains xs t → Contains (xs ++ ys) t
in-left xs ys t (k, lt, e) = (k, (let n = length-append xs ys in omega arith), get_or_append_left xs ys t k lt ∙ e)

in-right : (xs ys : List ℕ) (t : ℕ) → Contains ys t → Contains (xs ++ ys) t
in-right xs ys t (k, lt, e) =
    let back : length xs + k - length xs ≡ k = omega arith in (
      length xs + k,
      (let n = length-append xs ys in omega arith),
      get_or-append_right xs ys (length xs) (length xs + k) t refl (omega arith) ∙ ap (λ (i : ℕ). get_or ys i t) back ∙ e,
    )

module _ (schedule : Schedule) (tick : ℕ) (due : List ℕ) where
  next-once : (n : ℕ) → IsNextTick schedule tick due n → next_tick schedule tick due ≡ Some n
  next-once n is = by_next (next_tick schedule tick due) refl
    where
      by_next : (o : Option ℕ) → next_tick schedule tick due ≡ o → o ≡ Some n
      by_next None e =
          absurd (let late = next_tick-none schedule tick due e n is.listed is.later in let le = is.ended in omega arith)
      by_next (Some m) e =
          let other = next_tick-is schedule tick due m e in
          let a = is.first m other.listed other.later other.ended in
          let b = other.first n is.listed is.later is.ended in
          let same : m ≡ n = omega arith in ap (λ (k : ℕ). Some k) same

  none-once : IsLastTick schedule tick due → next_tick schedule tick due ≡ None
  none-once last = by_next (next_tick schedule tick due) refl
    where
      by_next : (o : Option ℕ) → next_tick schedule tick due ≡ o → o ≡ None
      by_next None e = refl
      by_next (Some m) e =
          absurd (let other = next_tick-is schedule tick due m e in
          let late = last m other.listed other.later in let le = other.ended in omega arith)

-- times of which the first that is later than a tick is known
record IsFirstLater (times : List ℕ) (tick : ℕ) (first : Option ℕ) : Type 0 where
  there : (n : ℕ) → first ≡ Some n → Contains times n × (tick < n)
  before : (n t : ℕ) → first ≡ Some n → Contains times t → tick < t → n ≤ t
  none : (t : ℕ) → first ≡ None → Contains times t → tick < t → ⊥

module _ (schedule : Schedule) (tick : ℕ) (due : List ℕ) (a b : Option ℕ) (one : IsFirstLater schedule.times tick a) (two : IsFirstLater due tick b) where
  candidate : (n : ℕ) → Contains (schedule.times ++ due) n → tick < n →
      ((t : ℕ) → Contains (schedule.times ++ due) t → tick < t → n ≤ t) → next_tick schedule tick due ≡ up_to schedule.end (Some n)
  candidate n listed later first = elim (cases_lt schedule.end n) [
    | inl past ↦
        none-once schedule tick due (λ t there lt. let le = first t there lt in omega arith)
        ∙ sym (rw (lt-leb n schedule.end past) refl)
    | inr within ↦
        next-once schedule tick due n (record { listed = listed; later = later; ended = within; first = λ t there lt le. first t there lt })
        ∙ sym (rw (le-leb n schedule.end within) refl)
  ]

  by_both : (x y : Option ℕ) → a ≡ x → b ≡ y → next_tick schedule tick due ≡ earlier_up_to schedule.end x y
  by_both None None e f =
      none-once schedule tick due (λ t there lt. elim (unappend schedule.times due t there) [
        | inl left ↦ absurd (one.none t e left lt)
        | inr right ↦ absurd (two.none t f right lt)
      ])
  by_both None (Some n) e f =
      candidate n (in-right schedule.times due n (two.there n f).0) (two.there n f).1
      (λ t there lt. elim (unappend schedule.times due t there) [
        | inl left ↦ absurd (one.none t e left lt)
        | inr right ↦ two.before n t f right lt
      ])
  by_both (Some m) None e f =
      candidate m (in-left schedule.times due m (one.there m e).0) (one.there m e).1
      (λ t there lt. elim (unappend schedule.times due t there) [
        | inl left ↦ one.before m t e left lt
        | inr right ↦ absurd (two.none t f right lt)
      ])
  by_both (Some m) (Some n) e f = elim (cases_lt m n) [
    | inl less ↦
        let same : min m n ≡ m = omega arith in
        candidate m (in-left schedule.times due m (one.there m e).0) (one.there m e).1
        (λ t there lt. elim (unappend schedule.times due t there) [
          | inl left ↦ one.before m t e left lt
          | inr right ↦ let le = two.before n t f right lt in omega arith
        ])
        ∙ ap (λ (k : ℕ). up_to schedule.end (Some k)) (sym same)
    | inr more ↦
        let same : min m n ≡ n = omega arith in
        candidate n (in-right schedule.times due n (two.there n f).0) (two.there n f).1
        (λ t there lt. elim (unappend schedule.times due t there) [
          | inl left ↦ let le = one.before m t e left lt in omega arith
          | inr right ↦ two.before n t f right lt
        ])
        ∙ ap (λ (k : ℕ). up_to schedule.end (Some k)) (sym same)
  ]

-- due times that are all later
due-first : (due : List ℕ) (tick : ℕ) → ((t : ℕ) → Contains due t → tick < t) → IsFirstLater due tick (least due)
due-first due tick later = record {
  there = λ n e. let is = least-first due n e in (is.in_list, later n is.in_list);
  before = λ n t e there lt. (least-first due n e).least t there;
  none = λ t e there lt. let empty = ap length (least-none due e) in let inside = there.1 in absurd (omega arith);
}

-- lines of which the first are done
abbrev times_of : List StimulusLine → List ℕ
times_of lines = map (λ (line : StimulusLine). line.time) lines

module _ (lines : List StimulusLine) (at tick end : ℕ) (d : StimulusLine) (done : AreUpTo lines at tick) (rise : DoTimesRise lines)
    (within : All (λ (line : StimulusLine). line.time ≤ end) lines) where
  abbrev times : List ℕ
  times = times_of lines ++ end ∷ []

  -- the place of a time in the lines
  line-at : (t : ℕ) → Contains (times_of lines) t → (k : ℕ) × (k < length lines) × ((get_or lines k d).time ≡ t)
  line-at t there =
      let size = length-map lines (λ (l : StimulusLine). l.time) in
      let inside : there.0 < length lines = (let w = there.1 in omega arith) in
      (there.0, inside, sym (get_or-map (λ (l : StimulusLine). l.time) lines there.0 d t inside) ∙ there.2)

  line-in : (k : ℕ) → k < length lines → Contains times (get_or lines k d).time
  line-in k lt =
      let size = length-map lines (λ (l : StimulusLine). l.time) in
      in-left (times_of lines) (end ∷ []) (get_or lines k d).time
      (k, omega arith, get_or-map (λ (l : StimulusLine). l.time) lines k d (get_or lines k d).time lt)

  end-in : Contains times end
  end-in = in-right (times_of lines) (end ∷ []) end (head-in end [])

  end-is : (t : ℕ) → Contains (end ∷ []) t → end ≡ t
  end-is t there = elim (uncons end t [] there) [
    | inl e ↦ e
    | inr later ↦ absurd (let lt = later.1 in omega arith)
  ]

  -- a later time of a line isn't done
  late-at : (k t : ℕ) → k < length lines → (get_or lines k d).time ≡ t → tick < t → at ≤ k
  late-at k t lt e later = elim (cases_lt k at) [
    | inl early ↦ absurd (let le = done.early k d early in omega arith)
    | inr late ↦ late
  ]

  by_line : at < length lines → IsFirstLater times tick (time_after lines at tick end)
  by_line lt =
      let line : StimulusLine = get_or lines at d in
      let found : time_after lines at tick end ≡ Some line.time =
      ap (λ (o : Option StimulusLine). option_map_or (λ (l : StimulusLine). Some l.time) o (end_after tick end)) (slice_get-get_or lines at d lt) in
      record {
        there = λ n e.
            let f : Some line.time ≡ Some n = sym found ∙ e in
            let same : line.time ≡ n = cc in
            (subst (Contains times) same (line-in at lt), (let late = done.late at d (omega arith) lt in omega arith));
        before = λ n t e there later.
            let f : Some line.time ≡ Some n = sym found ∙ e in
            let same : line.time ≡ n = cc in
            elim (unappend (times_of lines) (end ∷ []) t there) [
              | inl left ↦
                  let place = line-at t left in
                  let late = late-at place.0 t place.1 place.2 later in
                  elim (cases_lt at place.0) [
                    | inl less ↦ let le = rise at place.0 d less place.1 in let f = place.2 in omega arith
                    | inr more ↦
                        let equal : place.0 ≡ at = omega arith in
                        let time = ap (λ (k : ℕ). (get_or lines k d).time) equal in let f = place.2 in omega arith
                  ]
              | inr right ↦ let le = within at d lt in let f = end-is t right in omega arith
            ];
        none = λ t e there later. absurd (let f : Some line.time ≡ None = sym found ∙ e in cc);
      }

  -- all lines are done
  done-all : length lines ≤ at → (t : ℕ) → Contains (times_of lines) t → tick < t → ⊥
  done-all past t there later =
      let place = line-at t there in
      let late = late-at place.0 t place.1 place.2 later in
      absurd (let lt = place.1 in omega arith)

  by_end : length lines ≤ at → IsFirstLater times tick (end_after tick end)
  by_end past = elim (cases_lt tick end) [
    | inl less ↦
        let found : end_after tick end ≡ Some end = rw (lt-ltb tick end less) refl in
        record {
          there = λ n e.
              let f : Some end ≡ Some n = sym found ∙ e in
              let same : end ≡ n = cc in (subst (Contains times) same end-in, omega arith);
          before = λ n t e there later.
              let f : Some end ≡ Some n = sym found ∙ e in
              let same : end ≡ n = cc in
              elim (unappend (times_of lines) (end ∷ []) t there) [
                | inl left ↦ absurd (done-all past t left later)
                | inr right ↦ let g = end-is t right in omega arith
              ];
          none = λ t e there later. absurd (let f : Some end ≡ None = sym found ∙ e in cc);
        }
    | inr more ↦
        let missing : end_after tick end ≡ None = rw (le-ltb tick end more) refl in
        record {
          there = λ n e. absurd (let f : None ≡ Some n = sym missing ∙ e in cc);
          before = λ n t e. absurd (let f : None ≡ Some n = sym missing ∙ e in cc);
          none = λ t e there later. elim (unappend (times_of lines) (end ∷ []) t there) [
            | inl left ↦ absurd (done-all past t left later)
            | inr right ↦ absurd (let g = end-is t right in omega arith)
          ];
        }
  ]

  lines-first : IsFirstLater times tick (time_after lines at tick end)
  lines-first = elim (cases_lt at (length lines)) [
    | inl lt ↦ by_line lt
    | inr past ↦
        subst (IsFirstLater times tick)
        (sym (ap (λ (o : Option StimulusLine). option_map_or (λ (l : StimulusLine). Some l.time) o (end_after tick end)) (slice_get_past lines at past)))
        (by_end past)
  ]

pub next-by_lines : (schedule : Schedule) (lines : List StimulusLine) (at tick : ℕ) (due : List ℕ) (d : StimulusLine) →
    schedule.times ≡ times_of lines ++ schedule.end ∷ [] → AreUpTo lines at tick → DoTimesRise lines →
    All (λ (line : StimulusLine). line.time ≤ schedule.end) lines → ((t : ℕ) → Contains due t → tick < t) →
    next_tick schedule tick due ≡ earlier_up_to schedule.end (time_after lines at tick schedule.end) (least due)
next-by_lines schedule lines at tick due d same done rise within later =
    by_both schedule tick due (time_after lines at tick schedule.end) (least due)
    (subst (λ (l : List ℕ). IsFirstLater l tick (time_after lines at tick schedule.end)) (sym same)
    (lines-first lines at tick schedule.end d done rise within))
    (due-first due tick later) (time_after lines at tick schedule.end) (least due) refl refl

-- a line's time is one of the times of the steps
pub line-listed : (lines : List StimulusLine) (end k : ℕ) (d : StimulusLine) → k < length lines →
    Contains (times_of lines ++ end ∷ []) (get_or lines k d).time
line-listed lines end k d lt =
    let size = length-map lines (λ (l : StimulusLine). l.time) in
    in-left (times_of lines) (end ∷ []) (get_or lines k d).time
    (k, omega arith, get_or-map (λ (l : StimulusLine). l.time) lines k d (get_or lines k d).time lt)
