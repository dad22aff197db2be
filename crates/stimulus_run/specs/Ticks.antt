-- For the code and its proofs alone: the time of the next step, by the line that isn't done and the least due time.
use Rattle.std.specs.Prelude.{ℕ, List, length, Option, Some, None, nat_le, nat_lt, if◌then◌else◌, slice_get}
use Rattle.std.specs.Option.{option_map_or}
use Rattle.plain_sim.specs.Times.{earlier}
use Rattle.vector_text.specs.declared.stimulus.StimulusLine.{StimulusLine}

-- the first time of the lines that aren't done, and of the end, that is later than a tick
abbrev pub end_after : ℕ → ℕ → Option ℕ
end_after tick end = if nat_lt tick end then Some end else None

abbrev pub time_after : List StimulusLine → ℕ → ℕ → ℕ → Option ℕ
time_after lines at tick end =
    option_map_or (λ (line : StimulusLine). Some line.time) (slice_get lines at) (end_after tick end)

-- a time that is no later than the end
abbrev pub up_to : ℕ → Option ℕ → Option ℕ
up_to end None = None
up_to end (Some time) = if nat_le time end then Some time else None

abbrev pub earlier_up_to : ℕ → Option ℕ → Option ℕ → Option ℕ
earlier_up_to end a b = up_to end (earlier a b)
