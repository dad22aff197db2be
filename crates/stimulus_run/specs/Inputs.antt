-- What a stimulus does to a netlist, tick by tick: its inputs in force, its strobes, and when steps are made. That inputs
-- are x before their first values is this project's own.
use Rattle.std.specs.Prelude.{ℕ, ◌&&◌, List, [], ◌∷◌, ◌++◌, length, map, filter, replicate, Option, Some, None, nat_eq, nat_le}
use Rattle.std.specs.Option.{option_map, option_or}
use Rattle.std.specs.List.{find}
use Rattle.level_range.specs.declared.range.Logic.{Logic}
use Rattle.level_range.specs.declared.range.Logic.TheVariants.{X}
use Rattle.level_range.specs.Signal.{Signal, span_of}
use Rattle.flat_net.specs.declared.parts.Parts.{Parts}
use Rattle.machine.specs.Machine.{input_among}
use Rattle.machine.specs.Run.{Schedule}
use Rattle.vector_text.specs.declared.stimulus.StimulusWhat.{StimulusWhat}
use Rattle.vector_text.specs.declared.stimulus.StimulusWhat.TheVariants.{Values, Strobe, Expect}
use Rattle.vector_text.specs.declared.stimulus.StimulusLine.{StimulusLine}
use Rattle.vector_text.specs.declared.stimulus.Stimulus.{Stimulus}
use Rattle.vector_text.specs.Written.{is_strobe}

-- a value drives an input with St0, St1, StX or z
abbrev pub driven_signal : Logic → Signal
driven_signal v = span_of v 6 6

-- the values that a line gives to the inputs
abbrev pub values_of : StimulusWhat → Option (List Logic)
values_of (Values values) = Some values
values_of Strobe = None
values_of (Expect wanted) = None

-- the values of the last line that gives some
abbrev pub last_values : List StimulusLine → Option (List Logic)
last_values [] = None
last_values (line ∷ lines) = option_or (last_values lines) (values_of line.what)

-- the values in force at a tick: those of the last line at it or before it
abbrev pub values_at : List StimulusLine → ℕ → Option (List Logic)
values_at lines tick = last_values (filter (λ (line : StimulusLine). nat_le line.time tick) lines)

-- the signals of so many listed inputs: StX before the first values
abbrev pub listed_signals : ℕ → Option (List Logic) → List Signal
listed_signals count None = replicate count (driven_signal X)
listed_signals count (Some values) = map driven_signal values

-- the inputs in force at a tick, one for each input net of the netlist: z where the stimulus doesn't list it
abbrev pub inputs_at : Parts → Stimulus → ℕ → List Signal
inputs_at parts stimulus tick =
    map (input_among stimulus.inputs (listed_signals (length stimulus.inputs) (values_at stimulus.lines tick))) parts.inputs

-- steps are made at the times of the lines and at the end
abbrev pub schedule_of : Parts → Stimulus → Schedule
schedule_of parts stimulus = record {
  times = map (λ (line : StimulusLine). line.time) stimulus.lines ++ stimulus.end ∷ [];
  inputs_at = inputs_at parts stimulus;
  end = stimulus.end;
}

-- what is read of the outputs at a tick: a strobe, or a comparison with expected values
abbrev pub strobe_at : List StimulusLine → ℕ → Option StimulusWhat
strobe_at lines tick =
    option_map (λ (line : StimulusLine). line.what)
    (find (λ (line : StimulusLine). nat_eq line.time tick && is_strobe line.what) lines)
