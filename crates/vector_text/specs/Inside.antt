-- For the code alone: what the counts of a schedule and the fields of a body stand for.
use Rattle.std.specs.Prelude.{◌≡◌, ℕ, Bool, ◌+◌, ◌^◌, ◌<◌, ◌≤◌, max, List, [], ◌∷◌, filter, Option, Some, None, if◌then◌else◌}
use Rattle.line_text.specs.Numbers.{cap}
use Rattle.vector_text.specs.declared.vectors.VectorLine.{VectorLine}
use Rattle.vector_text.specs.declared.said.Repeat.{Repeat}
use Rattle.vector_text.specs.declared.said.Said.{Said}
use Rattle.vector_text.specs.declared.said.Said.TheVariants.{Timed, Opens, Closes, Ends}
use Rattle.vector_text.specs.Lawful.{greatest_time}
use Rattle.vector_text.specs.Written.{Block, Body, start_of, last_turn_time, greatest_count, is_strobe, total_size}

-- one more than the greatest time of lines, or 0
abbrev pub behind_all : List VectorLine → ℕ
behind_all [] = 0
behind_all (line ∷ lines) = max (line.time + 1) (behind_all lines)

-- the same of the strobes alone
abbrev pub behind_strobes : List VectorLine → ℕ
behind_strobes lines = behind_all (filter (λ line. is_strobe line.what) lines)

-- one more than the greatest time of strobes, with one more line at a time
abbrev pub strobes_with : Bool → ℕ → ℕ → ℕ
strobes_with strobe behind time = if strobe then max behind (time + 1) else behind

-- the counts of a schedule are those of its lines
pub record AreCounts (lines : List VectorLine) (behind strobes size : ℕ) : Type 0 where
  pub behind_lines : behind ≡ behind_all lines
  pub behind_strobe : strobes ≡ behind_strobes lines
  pub total : size ≡ cap (total_size lines)

-- a repetition has a turn and a period
abbrev pub HasTurns : Said → Type 0
HasTurns (Timed line) = Unit {0}
HasTurns (Opens repeat) = (0 < repeat.count) × (0 < repeat.period)
HasTurns Closes = Unit {0}
HasTurns (Ends time) = Unit {0}

-- a time, in the last turn of its block, is within the greatest time
abbrev pub IsTimeWithin : Option Block → ℕ → Type 0
IsTimeWithin None time = time ≤ greatest_time
IsTimeWithin (Some block) time = last_turn_time block.repeat time ≤ greatest_time

-- the numbers of a repetition are within their limits
pub record IsRepeatWithin (repeat : Repeat) : Type 0 where
  pub some : 0 < repeat.count
  pub count : repeat.count ≤ greatest_count
  pub start : repeat.start ≤ greatest_time
  pub period : repeat.period ≤ greatest_time

-- what a line says is within the limits that writing it out needs
abbrev pub IsWithin : Body → Said → Type 0
IsWithin body (Timed line) = IsTimeWithin body.block line.time
IsWithin body (Opens repeat) = IsRepeatWithin repeat
IsWithin body Closes = Unit {0}
IsWithin body (Ends time) = Unit {0}

-- the time of a line and the start of its block add up to less than 2^64
abbrev pub HasSmallTime : Body → Said → Type 0
HasSmallTime body (Timed line) = start_of body.block + line.time < 2 ^ 64
HasSmallTime body (Opens repeat) = Unit {0}
HasSmallTime body Closes = Unit {0}
HasSmallTime body (Ends time) = Unit {0}
