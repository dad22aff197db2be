-- The lines up to a tick, and their last values.
use Rattle.std.proofs.Common.{◌≡◌, ℕ, zero, suc, ◌+◌, ◌<◌, ◌≤◌, Bool, true, false, cond, List, [], ◌∷◌, ◌++◌, length, take, get_or, Option, Some, None, refl, ap, sym, ◌∙◌, arith}
use Rattle.std.specs.Prelude.{map, filter, replicate, nat_le}
use Rattle.std.specs.Option.{option_or}
use Rattle.std.proofs.lemmas.Bool.{le-leb, lt-leb}
use Rattle.std.proofs.lemmas.List.{take_more}
use Rattle.level_range.specs.declared.range.Logic.{Logic}
use Rattle.level_range.specs.declared.range.Logic.TheVariants.{X}
use Rattle.level_range.specs.Signal.{Signal}
use Rattle.vector_text.specs.declared.stimulus.StimulusLine.{StimulusLine}
use Rattle.stimulus_run.specs.Inputs.{driven_signal, values_of, last_values, values_at}
use Rattle.stimulus_run.specs.Lines.{AreUpTo}

cons-same : {A : Type 0} (x : A) (xs ys : List A) → xs ≡ ys → x ∷ xs ≡ x ∷ ys
cons-same x xs ys e = ap (λ l. x ∷ l) e

-- the elements that pass a test are the first
filter-first : {A : Type 0} (p : A → Bool) (xs : List A) (n : ℕ) (d : A) → n ≤ length xs →
    ((k : ℕ) → k < n → p (get_or xs k d) ≡ true) → ((k : ℕ) → n ≤ k → k < length xs → p (get_or xs k d) ≡ false) →
    filter p xs ≡ take n xs
filter-first p [] zero d le first rest = refl
filter-first p [] (suc n) d le first rest = absurd (omega arith)
filter-first p (x ∷ xs) zero d le first rest =
    rw (rest 0 (omega arith) (omega arith))
    (filter-first p xs zero d (omega arith) (λ k lt. absurd (omega arith)) (λ k ge lt. rest (suc k) (omega arith) (omega arith)))
filter-first p (x ∷ xs) (suc n) d le first rest =
    rw (first 0 (omega arith))
    (cons-same x (filter p xs) (take n xs)
    (filter-first p xs n d (omega arith) (λ k lt. first (suc k) (omega arith)) (λ k ge lt. rest (suc k) (omega arith) (omega arith))))

pub up_to-first : (lines : List StimulusLine) (at tick : ℕ) (d : StimulusLine) → AreUpTo lines at tick →
    filter (λ (line : StimulusLine). nat_le line.time tick) lines ≡ take at lines
up_to-first lines at tick d done =
    filter-first (λ (line : StimulusLine). nat_le line.time tick) lines at d done.most
    (λ k lt. le-leb (get_or lines k d).time tick (done.early k d lt))
    (λ k ge lt. lt-leb (get_or lines k d).time tick (done.late k d ge lt))

option_or-assoc : {T : Type 0} (a b c : Option T) → option_or (option_or a b) c ≡ option_or a (option_or b c)
option_or-assoc None b c = refl
option_or-assoc (Some a) b c = refl

option_or-none : {T : Type 0} (a : Option T) → option_or a None ≡ a
option_or-none None = refl
option_or-none (Some a) = refl

-- the last values of some lines and one more
last_values-push : (lines : List StimulusLine) (line : StimulusLine) →
    last_values (lines ++ line ∷ []) ≡ option_or (values_of line.what) (last_values lines)
last_values-push [] line = sym (option_or-none (values_of line.what))
last_values-push (first ∷ lines) line =
    ap (λ (o : Option (List Logic)). option_or o (values_of first.what)) (last_values-push lines line)
    ∙ option_or-assoc (values_of line.what) (last_values lines) (values_of first.what)

pub last_values-more : (lines : List StimulusLine) (at : ℕ) (line : StimulusLine) → at < length lines → get_or lines at line ≡ line →
    last_values (take (at + 1) lines) ≡ option_or (values_of line.what) (last_values (take at lines))
last_values-more lines at line lt is =
    ap last_values (take_more lines at line lt ∙ ap (λ (l : StimulusLine). take at lines ++ l ∷ []) is)
    ∙ last_values-push (take at lines) line

pub all-unknown : (n : ℕ) → map driven_signal (replicate n X) ≡ replicate n (driven_signal X)
all-unknown zero = refl
all-unknown (suc n) = ap (λ (l : List Signal). driven_signal X ∷ l) (all-unknown n)
