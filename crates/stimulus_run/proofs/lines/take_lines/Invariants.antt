use Rattle.std.proofs.Common.{◌≤◌, ◌-◌, ◌<◌, ℕ, length, get_or}
use Rattle.vector_text.specs.declared.stimulus.StimulusLine.{StimulusLine}
use Rattle.stimulus_run.specs.Lines.{AreForcedByLines}
use Rattle.stimulus_run.proofs.lines.take_lines.Given as goal

-- the lines that are done are no later than the tick, and have those among them that are before it
abbrev pub invariant-lines : goal.invariant-lines
invariant-lines l = record {
  from : l.fn.done ≤ l.at;
  most : l.at ≤ length l.fn.stimulus.lines;
  early : (k : ℕ) (d : StimulusLine) → k < l.at → (get_or l.fn.stimulus.lines k d).time ≤ l.tick;
  forced : AreForcedByLines l.fn.stimulus l.at l.forced;
}

abbrev pub decreases-lines : goal.decreases-lines
decreases-lines l = length l.fn.stimulus.lines - l.at
