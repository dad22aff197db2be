-- The line that reads the outputs at a tick is the last of the lines up to it.
use Rattle.std.proofs.Common.{◌≡◌, ℕ, zero, suc, ◌<◌, ◌≤◌, Bool, true, false, cond, List, [], ◌∷◌, length, get_or, Option, Some, None, refl, ap, sym, ◌∙◌, arith, inl, inr}
use Rattle.std.specs.Prelude.{AllPairs, ◌&&◌, nat_eq}
use Rattle.std.specs.List.{find}
use Rattle.std.specs.Option.{option_map}
use Rattle.std.proofs.lemmas.Bool.{cases_eq, cases_lt, ne_eqb}
use Rattle.vector_text.specs.declared.stimulus.StimulusWhat.{StimulusWhat}
use Rattle.vector_text.specs.declared.stimulus.StimulusWhat.TheVariants.{Values, Strobe, Expect}
use Rattle.vector_text.specs.declared.stimulus.StimulusLine.{StimulusLine}
use Rattle.vector_text.specs.Lawful.{MayFollow}
use Rattle.vector_text.specs.Written.{is_strobe}
use Rattle.stimulus_run.specs.Inputs.{strobe_at}
use Rattle.stimulus_run.specs.Lines.{AreUpTo}

-- ---- the first element that passes a test

find-none : {A : Type 0} (test : A → Bool) (xs : List A) (d : A) → ((k : ℕ) → k < length xs → test (get_or xs k d) ≡ false) → find test xs ≡ None
find-none test [] d none = refl
find-none test (x ∷ xs) d none =
    rw (none 0 (omega arith)) (find-none test xs d (λ k lt. none (suc k) (omega arith)))

find-at : {A : Type 0} (test : A → Bool) (xs : List A) (i : ℕ) (d : A) → i < length xs → test (get_or xs i d) ≡ true →
    ((k : ℕ) → k < i → test (get_or xs k d) ≡ false) → find test xs ≡ Some (get_or xs i d)
find-at test [] i d lt passes before = absurd (omega arith)
find-at test (x ∷ xs) zero d lt passes before = rw passes refl
find-at test (x ∷ xs) (suc i) d lt passes before =
    rw (before 0 (omega arith)) (find-at test xs i d (omega arith) passes (λ k less. before (suc k) (omega arith)))

-- ---- lines

abbrev pub reads_at : ℕ → StimulusLine → Bool
reads_at tick line = nat_eq line.time tick && is_strobe line.what

and-false : (a : Bool) → a && false ≡ false
and-false true = refl
and-false false = refl

other-time : (a : StimulusWhat) (t tick : ℕ) → (t ≡ tick → ⊥) → nat_eq t tick && is_strobe a ≡ false
other-time a t tick ne = rw (ne_eqb t tick ne) refl

-- a line that another may follow at the tick or before it doesn't read at the tick
before-last : (a : StimulusWhat) (t : ℕ) (b : StimulusWhat) (u tick : ℕ) → MayFollow a t b u → u ≤ tick → nat_eq t tick && is_strobe a ≡ false
before-last (Values v) t b u tick follow le = and-false (nat_eq t tick)
before-last Strobe t (Values w) u tick follow le = other-time Strobe t tick (λ e. omega arith)
before-last Strobe t Strobe u tick follow le = other-time Strobe t tick (λ e. omega arith)
before-last Strobe t (Expect w) u tick follow le = other-time Strobe t tick (λ e. omega arith)
before-last (Expect v) t (Values w) u tick follow le = other-time (Expect v) t tick (λ e. omega arith)
before-last (Expect v) t Strobe u tick follow le = other-time (Expect v) t tick (λ e. omega arith)
before-last (Expect v) t (Expect w) u tick follow le = other-time (Expect v) t tick (λ e. omega arith)

module _ (lines : List StimulusLine) (done tick : ℕ) (order : AllPairs (λ (a b : StimulusLine). MayFollow a.what a.time b.what b.time) lines)
    (upto : AreUpTo lines done tick) where
  late-not : (k : ℕ) (d : StimulusLine) → done ≤ k → k < length lines → reads_at tick (get_or lines k d) ≡ false
  late-not k d ge lt =
      let line : StimulusLine = get_or lines k d in
      let late = upto.late k d ge lt in
      other-time line.what line.time tick (λ e. omega arith)

  pub strobe-none : done ≡ 0 → (d : StimulusLine) → strobe_at lines tick ≡ None
  strobe-none e d =
      ap (option_map (λ (line : StimulusLine). line.what))
      (find-none (reads_at tick) lines d (λ k lt. late-not k d (omega arith) lt))

  module _ (i : ℕ) (is : done ≡ suc i) (d : StimulusLine) where
    abbrev last : StimulusLine
    last = get_or lines i d

    early-not : (k : ℕ) → k < i → reads_at tick (get_or lines k d) ≡ false
    early-not k lt =
        let line : StimulusLine = get_or lines k d in
        before-last line.what line.time last.what last.time tick (order k i d lt (let m = upto.most in omega arith)) (upto.early i d (omega arith))

    pub strobe-last : reads_at tick last ≡ true → strobe_at lines tick ≡ Some last.what
    strobe-last e =
        ap (option_map (λ (line : StimulusLine). line.what))
        (find-at (reads_at tick) lines i d (let m = upto.most in omega arith) e early-not)

    pub strobe-other : reads_at tick last ≡ false → strobe_at lines tick ≡ None
    strobe-other e =
        ap (option_map (λ (line : StimulusLine). line.what))
        (find-none (reads_at tick) lines d (λ k lt. elim (cases_eq k i) [
          | inl same ↦ ap (λ (j : ℕ). reads_at tick (get_or lines j d)) same ∙ e
          | inr ne ↦ elim (cases_lt k i) [
            | inl less ↦ early-not k less
            | inr more ↦ late-not k d (let g = ne in omega arith) lt
          ]
        ]))
