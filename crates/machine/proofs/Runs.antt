-- Runs: a step that ended leaves nothing due, ticks rise up to the end, and the bound of a run suffices.
use Rattle.std.proofs.Common.{◌≡◌, ◌≢◌, ◌⊎◌, ℕ, zero, suc, ◌+◌, ◌<◌, ◌≤◌, Bool, true, false, cond, List, [], ◌∷◌, Option, Some, None, refl, ap, sym, ◌∙◌, subst, inl, inr, arith}
use Rattle.std.specs.Prelude.{All, Contains}
use Rattle.std.proofs.lemmas.Bool.{cases_eq}
use Rattle.std.specs.Option.{option_map_or, IfSome}
use Rattle.std.proofs.lemmas.List.Elements.{All-nil, All-cons, Contains-append_left}
use Rattle.machine.specs.System.{System, step_at}
use Rattle.machine.specs.Run.{Schedule, Ended, Run, next_tick, IsNextTick, IsLastTick, no_steps, oscillation_at, then_run, run_from, run, AreSteps, DoTicksRise}
use Rattle.machine.proofs.Ticks.{next_tick-is, next_tick-none}

-- ---- what holds of every run that is made of steps

module _ {M : Type 0} (system : System M) (limit : ℕ) (schedule : Schedule) (P : ℕ → M → Run M → Type 0)
    (none : (tick : ℕ) (m : M) → P tick m no_steps)
    (stops : (tick : ℕ) (m : M) → tick ≤ schedule.end → system.is_due (step_at system limit tick (schedule.inputs_at tick) m) ≡ true → P tick m (oscillation_at tick))
    (ends : (tick : ℕ) (m : M) → tick ≤ schedule.end → system.is_due (step_at system limit tick (schedule.inputs_at tick) m) ≡ false →
    IsLastTick schedule tick (system.due_times (step_at system limit tick (schedule.inputs_at tick) m)) →
    P tick m (then_run tick (step_at system limit tick (schedule.inputs_at tick) m) no_steps))
    (goes_on : (tick next : ℕ) (m : M) (rest : Run M) → tick ≤ schedule.end → system.is_due (step_at system limit tick (schedule.inputs_at tick) m) ≡ false →
    IsNextTick schedule tick (system.due_times (step_at system limit tick (schedule.inputs_at tick) m)) next →
    P next (step_at system limit tick (schedule.inputs_at tick) m) rest → P tick m (then_run tick (step_at system limit tick (schedule.inputs_at tick) m) rest)) where
  abbrev after : ℕ → M → M
  after tick m = step_at system limit tick (schedule.inputs_at tick) m

  by_next : (bound tick : ℕ) (m : M) (next : Option ℕ) → tick ≤ schedule.end → system.is_due (after tick m) ≡ false →
      next_tick schedule tick (system.due_times (after tick m)) ≡ next →
      ((next : ℕ) → next ≤ schedule.end → P next (after tick m) (run_from bound system limit schedule next (after tick m))) →
      P tick m (then_run tick (after tick m) (option_map_or (λ next. run_from bound system limit schedule next (after tick m)) next no_steps))
  by_next bound tick m None le quiet e rest = ends tick m le quiet (next_tick-none schedule tick (system.due_times (after tick m)) e)
  by_next bound tick m (Some next) le quiet e rest =
      let is = next_tick-is schedule tick (system.due_times (after tick m)) next e in
      goes_on tick next m _ le quiet is (rest next is.ended)

  by_test : (bound tick : ℕ) (m : M) (b : Bool) → tick ≤ schedule.end → system.is_due (after tick m) ≡ b →
      ((next : ℕ) → next ≤ schedule.end → P next (after tick m) (run_from bound system limit schedule next (after tick m))) →
      P tick m (cond b (oscillation_at tick) (then_run tick (after tick m)
      (option_map_or (λ next. run_from bound system limit schedule next (after tick m)) (next_tick schedule tick (system.due_times (after tick m))) no_steps)))
  by_test bound tick m true le due rest = stops tick m le due
  by_test bound tick m false le due rest = by_next bound tick m (next_tick schedule tick (system.due_times (after tick m))) le due refl rest

  pub by_steps : (bound tick : ℕ) (m : M) → tick ≤ schedule.end → P tick m (run_from bound system limit schedule tick m)
  unfolding run_from
  by_steps zero tick m le = none tick m
  by_steps (suc bound) tick m le =
      by_test bound tick m (system.is_due (after tick m)) le refl (λ next within. by_steps bound next (after tick m) within)

-- ---- the laws

module _ {M : Type 0} (system : System M) (limit : ℕ) (schedule : Schedule) where
  -- the step at a tick from a machine
  abbrev made : ℕ → M → Ended M
  made tick m = record { tick = tick; machine = step_at system limit tick (schedule.inputs_at tick) m }

  abbrev is_quiet : Ended M → Type 0
  is_quiet step = system.is_due step.machine ≡ false

  -- a step that ended has nothing due
  pub steps-quiet : (bound tick : ℕ) (m : M) → tick ≤ schedule.end → All is_quiet (run_from bound system limit schedule tick m).ended
  steps-quiet =
      by_steps system limit schedule (λ tick m r. All is_quiet r.ended)
      (λ tick m. All-nil is_quiet)
      (λ tick m le due. All-nil is_quiet)
      (λ tick m le quiet last. All-cons is_quiet (made tick m) [] quiet (All-nil is_quiet))
      (λ tick next m rest le quiet is quiets. All-cons is_quiet (made tick m) rest.ended quiet quiets)

  abbrev is_from : ℕ → Ended M → Type 0
  is_from tick step = (tick ≤ step.tick) × (step.tick ≤ schedule.end)

  abbrev is_after : ℕ → Ended M → Type 0
  is_after tick step = tick < step.tick

  after-from : (tick next : ℕ) (steps : List (Ended M)) → tick < next → All (is_from next) steps → All (is_after tick) steps
  after-from tick next steps lt from k d inside = let w = (from k d inside).0 in omega arith

  from-from : (tick next : ℕ) (steps : List (Ended M)) → tick < next → All (is_from next) steps → All (is_from tick) steps
  from-from tick next steps lt from k d inside = ((let w = (from k d inside).0 in omega arith), (from k d inside).1)

  -- steps are made from the tick on, up to the end
  pub steps-within : (bound tick : ℕ) (m : M) → tick ≤ schedule.end → All (is_from tick) (run_from bound system limit schedule tick m).ended
  steps-within =
      by_steps system limit schedule (λ tick m r. All (is_from tick) r.ended)
      (λ tick m. All-nil (is_from tick))
      (λ tick m le due. All-nil (is_from tick))
      (λ tick m le quiet last. All-cons (is_from tick) (made tick m) [] (omega arith, le) (All-nil (is_from tick)))
      (λ tick next m rest le quiet is from.
      All-cons (is_from tick) (made tick m) rest.ended (omega arith, le) (from-from tick next rest.ended is.later from))

  rise-cons : (step : Ended M) (steps : List (Ended M)) → All (is_after step.tick) steps → DoTicksRise steps → DoTicksRise (step ∷ steps)
  rise-cons step steps later rise zero zero d lt inside = absurd (omega arith)
  rise-cons step steps later rise zero (suc j) d lt inside = later j d (omega arith)
  rise-cons step steps later rise (suc i) zero d lt inside = absurd (omega arith)
  rise-cons step steps later rise (suc i) (suc j) d lt inside = rise i j d (omega arith) (omega arith)

  rise-nil : DoTicksRise {M = M} []
  rise-nil i j d lt inside = absurd (omega arith)

  -- the ticks of steps rise
  pub steps-rise : (bound tick : ℕ) (m : M) → tick ≤ schedule.end → DoTicksRise (run_from bound system limit schedule tick m).ended
  steps-rise bound tick m le =
      (by_steps system limit schedule (λ tick m r. All (is_from tick) r.ended × DoTicksRise r.ended)
      (λ tick m. (All-nil (is_from tick), rise-nil))
      (λ tick m le due. (All-nil (is_from tick), rise-nil))
      (λ tick m le quiet last. (
        All-cons (is_from tick) (made tick m) [] (omega arith, le) (All-nil (is_from tick)),
        rise-cons (made tick m) [] (All-nil (is_after tick)) rise-nil,
      ))
      (λ tick next m rest le quiet is both. (
        All-cons (is_from tick) (made tick m) rest.ended (omega arith, le) (from-from tick next rest.ended is.later both.0),
        rise-cons (made tick m) rest.ended (after-from tick next rest.ended is.later both.0) both.1,
      ))
      bound tick m le).1

  -- the tick at which a step oscillates is later than those of the steps that ended
  abbrev is_end_of : Run M → ℕ → Type 0
  is_end_of r tick = (tick ≤ schedule.end) × All (λ (step : Ended M). step.tick < tick) r.ended

  pub oscillates-last : (bound tick : ℕ) (m : M) → tick ≤ schedule.end →
      let r = run_from bound system limit schedule tick m in IfSome r.oscillated (λ t. (tick ≤ t) × is_end_of r t)
  oscillates-last =
      by_steps system limit schedule (λ tick m r. IfSome r.oscillated (λ t. (tick ≤ t) × is_end_of r t))
      (λ tick m. tt)
      (λ tick m le due. (omega arith, (le, All-nil (λ (step : Ended M). step.tick < tick))))
      (λ tick m le quiet last. tt)
      (λ tick next m rest le quiet is later. by_end tick next m rest is.later rest.oscillated later)
    where
      by_end : (tick next : ℕ) (m : M) (rest : Run M) → tick < next → (o : Option ℕ) → IfSome o (λ t. (next ≤ t) × is_end_of rest t) →
          IfSome o (λ t. (tick ≤ t) × ((t ≤ schedule.end) × All (λ (step : Ended M). step.tick < t) (made tick m ∷ rest.ended)))
      by_end tick next m rest lt None h = tt
      by_end tick next m rest lt (Some t) h =
          (omega (arith, h.0), (h.1.0, All-cons (λ (step : Ended M). step.tick < t) (made tick m) rest.ended (let le = h.0 in omega arith) h.1.1))

  -- ---- the bound

  abbrev next_of : ℕ → M → Option ℕ
  next_of tick m = next_tick schedule tick (system.due_times (made tick m).machine)

  -- a run with a greater bound is the same
  pub run_from-bound : (bound more tick : ℕ) (m : M) → tick ≤ schedule.end → schedule.end < tick + bound → bound ≤ more →
      run_from more system limit schedule tick m ≡ run_from bound system limit schedule tick m
  unfolding run_from
  run_from-bound zero more tick m le enough within = absurd (omega arith)
  run_from-bound (suc bound) zero tick m le enough within = absurd (omega arith)
  run_from-bound (suc bound) (suc more) tick m le enough within =
      by_test (system.is_due (made tick m).machine)
      (by_next (next_of tick m) refl (λ next is. run_from-bound bound more next (made tick m).machine is.ended (let lt = is.later in omega arith) (omega arith)))
    where
      by_next : (next : Option ℕ) → next_of tick m ≡ next →
          ((t : ℕ) → IsNextTick schedule tick (system.due_times (made tick m).machine) t →
          run_from more system limit schedule t (made tick m).machine ≡ run_from bound system limit schedule t (made tick m).machine) →
          option_map_or (λ t. run_from more system limit schedule t (made tick m).machine) next no_steps
          ≡ option_map_or (λ t. run_from bound system limit schedule t (made tick m).machine) next no_steps
      by_next None e rest = refl
      by_next (Some next) e rest = rest next (next_tick-is schedule tick (system.due_times (made tick m).machine) next e)

      by_test : (b : Bool) →
          option_map_or (λ t. run_from more system limit schedule t (made tick m).machine) (next_of tick m) no_steps
          ≡ option_map_or (λ t. run_from bound system limit schedule t (made tick m).machine) (next_of tick m) no_steps →
          cond b (oscillation_at tick) (then_run tick (made tick m).machine (option_map_or (λ t. run_from more system limit schedule t (made tick m).machine) (next_of tick m) no_steps))
          ≡ cond b (oscillation_at tick) (then_run tick (made tick m).machine (option_map_or (λ t. run_from bound system limit schedule t (made tick m).machine) (next_of tick m) no_steps))
      by_test true e = refl
      by_test false e = ap (then_run tick (made tick m).machine) e

  pub run-bound : (more : ℕ) (m : M) → schedule.end + 1 ≤ more → run_from more system limit schedule 0 m ≡ run system limit schedule m
  unfolding run
  run-bound more m within = run_from-bound (schedule.end + 1) more 0 m (omega arith) (omega arith) within

  -- ---- the relation

  -- the steps of a run are those that follow one another
  pub run_from-steps : (bound tick : ℕ) (m : M) → tick ≤ schedule.end → schedule.end < tick + bound →
      let r = run_from bound system limit schedule tick m in AreSteps system limit schedule tick m r.ended r.oscillated
  unfolding run_from
  run_from-steps zero tick m le enough = absurd (omega arith)
  run_from-steps (suc bound) tick m le enough =
      by_test (system.is_due (made tick m).machine) refl
      (λ next is. run_from-steps bound next (made tick m).machine is.ended (let lt = is.later in omega arith))
    where
      by_next : (next : Option ℕ) → next_of tick m ≡ next → system.is_due (made tick m).machine ≡ false →
          ((t : ℕ) → IsNextTick schedule tick (system.due_times (made tick m).machine) t →
          AreSteps system limit schedule t (made tick m).machine (run_from bound system limit schedule t (made tick m).machine).ended
          (run_from bound system limit schedule t (made tick m).machine).oscillated) →
          AreSteps system limit schedule tick m
          (made tick m ∷ (option_map_or (λ t. run_from bound system limit schedule t (made tick m).machine) next no_steps).ended)
          (option_map_or (λ t. run_from bound system limit schedule t (made tick m).machine) next no_steps).oscillated
      by_next None e quiet rest =
          (refl, refl, quiet, inl (next_tick-none schedule tick (system.due_times (made tick m).machine) e, refl, refl))
      by_next (Some next) e quiet rest =
          let is = next_tick-is schedule tick (system.due_times (made tick m).machine) next e in
          (refl, refl, quiet, inr (next, is, rest next is))

      by_test : (b : Bool) → system.is_due (made tick m).machine ≡ b →
          ((t : ℕ) → IsNextTick schedule tick (system.due_times (made tick m).machine) t →
          AreSteps system limit schedule t (made tick m).machine (run_from bound system limit schedule t (made tick m).machine).ended
          (run_from bound system limit schedule t (made tick m).machine).oscillated) →
          (let r = cond b (oscillation_at tick) (then_run tick (made tick m).machine
          (option_map_or (λ t. run_from bound system limit schedule t (made tick m).machine) (next_of tick m) no_steps)) in
          AreSteps system limit schedule tick m r.ended r.oscillated)
      by_test true due rest = (due, refl)
      by_test false quiet rest = by_next (next_of tick m) refl quiet rest

  pub run-steps : (m : M) → AreSteps system limit schedule 0 m (run system limit schedule m).ended (run system limit schedule m).oscillated
  unfolding run
  run-steps m = run_from-steps (schedule.end + 1) 0 m (omega arith) (omega arith)

  -- ---- one run alone

  -- the next tick is one, and after the last there is none
  next-once : (tick : ℕ) (due : List ℕ) (a b : ℕ) → IsNextTick schedule tick due a → IsNextTick schedule tick due b → a ≡ b
  next-once tick due a b first second =
      let le = first.first b second.listed second.later second.ended in
      let ge = second.first a first.listed first.later first.ended in
      omega arith

  last-or-next : (tick : ℕ) (due : List ℕ) (next : ℕ) → IsLastTick schedule tick due → IsNextTick schedule tick due next → ⊥
  last-or-next tick due next last is = absurd (let lt = last next is.listed is.later in let le = is.ended in omega arith)

  -- the steps after a tick are determined
  abbrev Once : List (Ended M) → Type 0
  Once xs = (tick : ℕ) (m : M) (ys : List (Ended M)) (p q : Option ℕ) → AreSteps system limit schedule tick m xs p → AreSteps system limit schedule tick m ys q → (xs ≡ ys) × (p ≡ q)

  Rest : ℕ → M → List (Ended M) → Option ℕ → Type 0
  Rest tick m steps oscillated =
      (IsLastTick schedule tick (system.due_times m) × (steps ≡ []) × (oscillated ≡ None))
      ⊎ ((next : ℕ) × IsNextTick schedule tick (system.due_times m) next × AreSteps system limit schedule next m steps oscillated)

  rest-once : (xs ys : List (Ended M)) → Once xs → (tick : ℕ) (m : M) (p q : Option ℕ) → Rest tick m xs p → Rest tick m ys q → (xs ≡ ys) × (p ≡ q)
  unfolding Rest
  rest-once xs ys once tick m p q (inl a) (inl b) = (a.1 ∙ sym b.1, a.2 ∙ sym b.2)
  rest-once xs ys once tick m p q (inl a) (inr b) = absurd (last-or-next tick (system.due_times m) b.0 a.0 b.1)
  rest-once xs ys once tick m p q (inr a) (inl b) = absurd (last-or-next tick (system.due_times m) a.0 b.0 a.1)
  rest-once xs ys once tick m p q (inr a) (inr b) =
      let same = next-once tick (system.due_times m) b.0 a.0 b.1 a.1 in
      once a.0 m ys p q a.2 (subst (λ (t : ℕ). AreSteps system limit schedule t m ys q) same b.2)

  step-once : (x : Ended M) (xs : List (Ended M)) → Once xs → Once (x ∷ xs)
  unfolding Rest
  step-once x xs once tick m [] p q a b =
      absurd (let e : false ≡ true = sym a.2 ∙ ap system.is_due a.1 ∙ b.0 in cc)
  step-once x xs once tick m (y ∷ ys) p q a b =
      let here : x ≡ y = ended-of x y (a.0 ∙ sym b.0) (a.1 ∙ sym b.1) in
      let other : Rest tick x.machine ys q = subst (λ (n : M). Rest tick n ys q) (b.1 ∙ sym a.1) b.3 in
      let rest = rest-once xs ys once tick x.machine p q a.3 other in
      (ap (λ (s : Ended M). s ∷ xs) here ∙ ap (λ (s : List (Ended M)). y ∷ s) rest.0, rest.1)
    where
      ended-of : (x y : Ended M) → x.tick ≡ y.tick → x.machine ≡ y.machine → x ≡ y
      ended-of x y e f =
          ap (λ (t : ℕ). let s : Ended M = record { tick = t; machine = x.machine } in s) e
          ∙ ap (λ (n : M). let s : Ended M = record { tick = y.tick; machine = n } in s) f

  pub steps-once : (xs : List (Ended M)) → Once xs
  steps-once [] tick m [] p q a b = (refl, a.1 ∙ sym b.1)
  steps-once [] tick m (y ∷ ys) p q a b =
      absurd (let e : false ≡ true = sym b.2 ∙ ap system.is_due b.1 ∙ a.0 in cc)
  steps-once (x ∷ xs) tick m ys p q a b = step-once x xs (steps-once xs) tick m ys p q a b

  -- ---- the times of the vector text

  head-made : (s : Ended M) (steps : List (Ended M)) (time : ℕ) → s.tick ≡ time → (x : Ended M) × Contains (s ∷ steps) x × (x.tick ≡ time)
  head-made s steps time e = (s, (0, omega arith, refl), e)

  tail-made : (s : Ended M) (steps : List (Ended M)) (time : ℕ) → (x : Ended M) × Contains steps x × (x.tick ≡ time) → (x : Ended M) × Contains (s ∷ steps) x × (x.tick ≡ time)
  tail-made s steps time (x, (k, lt, is), e) = (x, (suc k, omega arith, is), e)

  -- a step is made at each of those times from the first tick on, up to the end or to the tick at which one oscillates
  pub times-made : (steps : List (Ended M)) (tick : ℕ) (m : M) (oscillated : Option ℕ) → AreSteps system limit schedule tick m steps oscillated →
      (time : ℕ) → Contains schedule.times time → tick ≤ time → time ≤ schedule.end → ((o : ℕ) → oscillated ≡ Some o → time < o) →
      (x : Ended M) × Contains steps x × (x.tick ≡ time)
  times-made [] tick m oscillated are time listed from within before = absurd (let lt = before tick are.1 in omega arith)
  times-made (s ∷ steps) tick m oscillated are time listed from within before = elim (cases_eq tick time) [
    | inl e ↦ head-made s steps time (are.0 ∙ e)
    | inr apart ↦ by_rest are.3 (λ next is rest.
        let le : next ≤ time = is.first time (Contains-append_left schedule.times (system.due_times s.machine) time listed) (let lt : tick < time = omega arith in lt) within in
        tail-made s steps time (times-made steps next s.machine oscillated rest time listed le within before)) apart
  ]
    where
      by_rest :
          (IsLastTick schedule tick (system.due_times s.machine) × (steps ≡ []) × (oscillated ≡ None))
          ⊎ ((next : ℕ) × IsNextTick schedule tick (system.due_times s.machine) next × AreSteps system limit schedule next s.machine steps oscillated) →
          ((next : ℕ) → IsNextTick schedule tick (system.due_times s.machine) next → AreSteps system limit schedule next s.machine steps oscillated →
          (x : Ended M) × Contains (s ∷ steps) x × (x.tick ≡ time)) →
          tick ≢ time →
          (x : Ended M) × Contains (s ∷ steps) x × (x.tick ≡ time)
      by_rest (inl last) go apart =
          absurd (let past = last.0 time (Contains-append_left schedule.times (system.due_times s.machine) time listed) (omega arith) in omega arith)
      by_rest (inr next) go apart = go next.0 next.1 next.2

  pub run-times : (m : M) (time : ℕ) → Contains schedule.times time → time ≤ schedule.end → ((o : ℕ) → (run system limit schedule m).oscillated ≡ Some o → time < o) →
      (x : Ended M) × Contains (run system limit schedule m).ended x × (x.tick ≡ time)
  run-times m time listed within before = times-made (run system limit schedule m).ended 0 m (run system limit schedule m).oscillated (run-steps m) time listed (omega arith) within before
