-- When the lines of a stimulus are in order, and when a stimulus is lawful for a netlist.
use Rattle.std.specs.Prelude.{◌≡◌, ℕ, ◌<◌, ◌≤◌, ◌^◌, List, length, All, Contains, AllPairs}
use Rattle.flat_net.specs.Lists.{AreDistinct}
use Rattle.flat_net.specs.declared.parts.Parts.{Parts}
use Rattle.vector_text.specs.declared.stimulus.StimulusWhat.{StimulusWhat}
use Rattle.vector_text.specs.declared.stimulus.StimulusWhat.TheVariants.{Values, Strobe, Expect}
use Rattle.vector_text.specs.declared.stimulus.Stimulus.{Stimulus}
use Rattle.vector_text.specs.declared.vectors.VectorLine.{VectorLine}
use Rattle.vector_text.specs.declared.vectors.Vectors.{Vectors}

-- the greatest time in ticks, and the greatest number of output bits
abbrev pub greatest_time : ℕ
greatest_time = 2 ^ 48

abbrev pub greatest_outputs : ℕ
greatest_outputs = 1048576

-- A time with what is done at it may come behind another. Times don't fall, and no time has two value
-- lines, two strobes, or a value line behind a strobe; a line with expected values is a strobe.
abbrev pub MayFollow : StimulusWhat → ℕ → StimulusWhat → ℕ → Type 0
MayFollow before earlier (Values values) later = earlier < later
MayFollow (Values values) earlier Strobe later = earlier ≤ later
MayFollow Strobe earlier Strobe later = earlier < later
MayFollow (Expect wanted) earlier Strobe later = earlier < later
MayFollow (Values values) earlier (Expect wanted) later = earlier ≤ later
MayFollow Strobe earlier (Expect wanted) later = earlier < later
MayFollow (Expect wanted) earlier (Expect wanted') later = earlier < later

-- lines are in order up to an end
pub record AreOrdered (lines : List VectorLine) (end : ℕ) : Type 0 where
  pub order : AllPairs (λ a b. MayFollow a.what a.time b.what b.time) lines
  pub within : All (λ line. line.time ≤ end) lines
  pub small : end ≤ greatest_time

-- vectors whose lines are in order
abbrev pub AreInOrder : Vectors → Type 0
AreInOrder vectors = AreOrdered vectors.lines vectors.end

-- a line has a value for each input, or an expected value for each output
abbrev pub HasWidth : ℕ → ℕ → StimulusWhat → Type 0
HasWidth inputs outputs (Values values) = length values ≡ inputs
HasWidth inputs outputs Strobe = Unit {0}
HasWidth inputs outputs (Expect wanted) = length wanted ≡ outputs

-- a stimulus is lawful for a netlist
pub record IsLawful (parts : Parts) (stimulus : Stimulus) : Type 0 where
  pub inputs : All (Contains parts.inputs) stimulus.inputs
  pub distinct : AreDistinct stimulus.inputs
  pub outputs : All (λ net. net < length parts.nets) stimulus.outputs
  pub few_outputs : length stimulus.outputs ≤ greatest_outputs
  pub widths : All (λ line. HasWidth (length stimulus.inputs) (length stimulus.outputs) line.what) stimulus.lines
  pub order : AllPairs (λ a b. MayFollow a.what a.time b.what b.time) stimulus.lines
  pub within : All (λ line. line.time ≤ stimulus.end) stimulus.lines
  pub small : stimulus.end ≤ greatest_time
