-- For the code and its proofs alone: the lines of a stimulus that are done, and the signals that they put to nets.
use Rattle.std.specs.Prelude.{◌≡◌, ◌<◌, ◌≤◌, ℕ, List, length, take, Option, Some, None, All, AllPairs, slice_index_or}
use Rattle.level_range.specs.Signal.{Signal}
use Rattle.plain_sim.specs.Lists.{AreForcedBy}
use Rattle.vector_text.specs.declared.stimulus.StimulusLine.{StimulusLine}
use Rattle.vector_text.specs.declared.stimulus.Stimulus.{Stimulus}
use Rattle.vector_text.specs.Lawful.{HasWidth}
use Rattle.stimulus_run.specs.Inputs.{last_values, listed_signals}

-- lines have values for the inputs, and times that don't fall
abbrev pub HaveWidths : Stimulus → Type 0
HaveWidths stimulus =
    All (λ (line : StimulusLine). HasWidth (length stimulus.inputs) (length stimulus.outputs) line.what) stimulus.lines

abbrev pub DoTimesRise : List StimulusLine → Type 0
DoTimesRise lines = AllPairs (λ (a b : StimulusLine). a.time ≤ b.time) lines

-- the first lines are those before a tick
pub record AreBefore (lines : List StimulusLine) (at tick : ℕ) : Type 0 where
  pub most : at ≤ length lines
  pub early : (k : ℕ) (d : StimulusLine) → k < at → (slice_index_or lines k d).time < tick
  pub late : (k : ℕ) (d : StimulusLine) → at ≤ k → k < length lines → tick ≤ (slice_index_or lines k d).time

-- the first lines are those up to a tick
pub record AreUpTo (lines : List StimulusLine) (at tick : ℕ) : Type 0 where
  pub most : at ≤ length lines
  pub early : (k : ℕ) (d : StimulusLine) → k < at → (slice_index_or lines k d).time ≤ tick
  pub late : (k : ℕ) (d : StimulusLine) → at ≤ k → k < length lines → tick < (slice_index_or lines k d).time

-- the signals at the nets are those of the first lines
abbrev pub AreForcedByLines : Stimulus → ℕ → List Signal → Type 0
AreForcedByLines stimulus at forced =
    AreForcedBy stimulus.inputs (listed_signals (length stimulus.inputs) (last_values (take at stimulus.lines))) forced

-- the next step is no later than the end, and the first lines are those before it
abbrev pub IsAhead : Stimulus → ℕ → Option ℕ → Type 0
IsAhead stimulus at None = Unit {0}
IsAhead stimulus at (Some tick) = AreBefore stimulus.lines at tick × (tick ≤ stimulus.end)

-- the first lines are those up to the last step
abbrev pub IsBehind : Stimulus → ℕ → Option ℕ → Type 0
IsBehind stimulus at None = Unit {0}
IsBehind stimulus at (Some tick) = AreUpTo stimulus.lines at tick
