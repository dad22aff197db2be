-- What lines of a vector text write out, and what is wrong with a line behind them.
use Rattle.std.specs.Prelude.{ℕ, ◌+◌, ◌-◌, ◌*◌, ◌^◌, Bool, true, false, not, ◌&&◌, ◌||◌, List, [], ◌∷◌, ◌++◌, length, map, sum_by, flat_map, Option, Some, None, Result, Ok, Err, is_some, nat_lt, nat_le}
use Rattle.std.specs.List.{list_all, fold, range_with_len}
use Rattle.line_text.specs.Fields.{fields_of}
use Rattle.line_text.specs.Faults.{fault_if, first_there}
use Rattle.vector_text.specs.declared.fault.VecFault.{VecFault}
use Rattle.vector_text.specs.declared.fault.VecFault.TheVariants.{BadLine, Limit, Order}
use Rattle.vector_text.specs.declared.stimulus.StimulusLine.{StimulusLine}
use Rattle.vector_text.specs.declared.stimulus.StimulusWhat.{StimulusWhat}
use Rattle.vector_text.specs.declared.stimulus.StimulusWhat.TheVariants.{Values, Strobe, Expect}
use Rattle.vector_text.specs.declared.vectors.VectorLine.{VectorLine}
use Rattle.vector_text.specs.declared.said.Version.{Version}
use Rattle.vector_text.specs.declared.said.Version.TheVariants.{First, Second}
use Rattle.vector_text.specs.declared.said.Repeat.{Repeat}
use Rattle.vector_text.specs.declared.said.Said.{Said}
use Rattle.vector_text.specs.declared.said.Said.TheVariants.{Timed, Opens, Closes, Ends}
use Rattle.vector_text.specs.Sayings.{said_of, is_second}

-- ---- limits

-- the greatest time, in ticks
abbrev pub last_time : Version → ℕ
last_time First = 2 ^ 40
last_time Second = 2 ^ 48

-- the greatest number of turns of a block
abbrev pub greatest_count : ℕ
greatest_count = 4194304

-- the greatest size of what is written out
abbrev pub greatest_size : ℕ
greatest_size = 67108864

-- ---- blocks

-- an open block: its repetition, and the lines of its first turn, at the times of that turn
pub record Block : Type 0 where
  pub repeat : Repeat
  pub lines : List VectorLine

-- what is written out behind some lines: the lines outside an open block, the open block, and the
-- time of the end
pub record Body : Type 0 where
  pub lines : List VectorLine
  pub block : Option Block
  pub end : Option ℕ

abbrev pub no_lines : Body
no_lines = record { lines = []; block = None; end = None }

-- the line, so much later
abbrev pub later_line : ℕ → VectorLine → VectorLine
later_line by line = record line { time = line.time + by }

-- one turn of a block, counted from 0
abbrev pub turn_of : Block → ℕ → List VectorLine
turn_of block turn = map (later_line (turn * block.repeat.period)) block.lines

-- all turns of a block
unfoldable pub turns_of : Block → List VectorLine
turns_of block = flat_map (turn_of block) (range_with_len 0 block.repeat.count)

-- the first turn of an open block
abbrev pub first_turn : Option Block → List VectorLine
first_turn None = []
first_turn (Some block) = block.lines

-- all lines that are written out up to here
abbrev pub written_lines : Body → List VectorLine
written_lines body = body.lines ++ first_turn body.block

-- ---- what a line writes out

-- the time at which the lines of the present block begin
abbrev pub start_of : Option Block → ℕ
start_of None = 0
start_of (Some block) = block.repeat.start

-- a timed line, in the first turn of its block or outside a block
abbrev pub line_at : Body → ℕ → StimulusLine → VectorLine
line_at body number line = record { line = number; time = start_of body.block + line.time; what = line.what }

abbrev pub with_timed : Body → VectorLine → Option Block → Body
with_timed body line None = record body { lines = body.lines ++ line ∷ [] }
with_timed body line (Some block) = record body { block = Some (record block { lines = block.lines ++ line ∷ [] }) }

abbrev pub with_turns : Body → Option Block → Body
with_turns body None = body
with_turns body (Some block) = record body { lines = body.lines ++ turns_of block; block = None }

-- an open block with no lines yet
abbrev pub with_block : Body → Repeat → Body
with_block body repeat = record body { block = Some (record { repeat = repeat; lines = [] }) }

-- the end at a time
abbrev pub with_end : Body → ℕ → Body
with_end body time = record body { end = Some time }

-- what is written out with one more line, by what that says
unfoldable pub with_said : Body → ℕ → Said → Body
with_said body number (Timed line) = with_timed body (line_at body number line) body.block
with_said body number (Opens repeat) = with_block body repeat
with_said body number Closes = with_turns body body.block
with_said body number (Ends time) = with_end body time

-- ---- faults

-- `repeat` and `end` stand outside a block, `endrepeat` inside one, and nothing behind an end
unfoldable pub may_stand : Body → Said → Bool
may_stand body (Timed line) = not (is_some body.end)
may_stand body (Opens repeat) = not (is_some body.end) && not (is_some body.block)
may_stand body Closes = not (is_some body.end) && is_some body.block
may_stand body (Ends time) = not (is_some body.end) && not (is_some body.block)

-- how many values a line has
abbrev pub value_count : StimulusWhat → ℕ
value_count (Values values) = length values
value_count Strobe = 0
value_count (Expect wanted) = length wanted

-- the size of a line: 1 and its values
abbrev pub size_of : StimulusWhat → ℕ
size_of what = 1 + value_count what

abbrev pub total_size : List VectorLine → ℕ
total_size lines = sum_by (λ line. size_of line.what) lines

-- the time in the last turn of its block that a line at a time has
abbrev pub last_turn_time : Repeat → ℕ → ℕ
last_turn_time repeat time = repeat.start + (repeat.count - 1) * repeat.period + time

-- a timed line passes a limit: outside a block its time or the size that is then written out, inside
-- one its time in the last turn
abbrev pub timed_passes : Version → Body → StimulusLine → Option Block → Bool
timed_passes version body line None =
    nat_lt (last_time version) line.time
    || (is_second version && nat_lt greatest_size (total_size body.lines + size_of line.what))
timed_passes version body line (Some block) = nat_lt (last_time version) (last_turn_time block.repeat line.time)

-- the turns of the block pass the greatest size
abbrev pub turns_pass : Body → Option Block → Bool
turns_pass body None = false
turns_pass body (Some block) =
    nat_lt greatest_size (total_size body.lines + block.repeat.count * total_size block.lines)

-- a line passes a limit
unfoldable pub passes_limit : Version → Body → Said → Bool
passes_limit version body (Timed line) = timed_passes version body line body.block
passes_limit version body (Opens repeat) =
    nat_lt greatest_count repeat.count || nat_lt (last_time version) repeat.start || nat_lt (last_time version) repeat.period
passes_limit version body Closes = turns_pass body body.block
passes_limit version body (Ends time) = nat_lt (last_time version) time

-- a strobe, with or without expected values
abbrev pub is_strobe : StimulusWhat → Bool
is_strobe (Values values) = false
is_strobe Strobe = true
is_strobe (Expect wanted) = true

-- no line is later than the time
abbrev pub none_later : List VectorLine → ℕ → Bool
none_later lines time = list_all (λ line. nat_le line.time time) lines

-- no line is later than the time, and all strobes are before it
abbrev pub may_strobe : List VectorLine → ℕ → Bool
may_strobe lines time =
    none_later lines time && list_all (λ line. not (is_strobe line.what) || nat_lt line.time time) lines

-- A line may follow others at a time. None of them is later. At one time there are no two value
-- lines and no value line behind a strobe, so all lines are before a value line; and there are no
-- two strobes, so all strobes are before a strobe.
abbrev pub may_follow : List VectorLine → ℕ → StimulusWhat → Bool
may_follow lines time (Values values) = list_all (λ line. nat_lt line.time time) lines
may_follow lines time Strobe = may_strobe lines time
may_follow lines time (Expect wanted) = may_strobe lines time

-- the time is no time inside the block
abbrev pub is_behind_period : Option Block → ℕ → Bool
is_behind_period None time = false
is_behind_period (Some block) time = nat_le block.repeat.period time

-- a timed line breaks the order
abbrev pub timed_breaks : Body → StimulusLine → Bool
timed_breaks body line =
    is_behind_period body.block line.time
    || not (may_follow (written_lines body) (start_of body.block + line.time) line.what)

-- A line breaks the order. In a block this is judged by the first turn: the others repeat it, since
-- all times of the block are below its period.
unfoldable pub breaks_order : Body → Said → Bool
breaks_order body (Timed line) = timed_breaks body line
breaks_order body (Opens repeat) = not (none_later (written_lines body) repeat.start)
breaks_order body Closes = false
breaks_order body (Ends time) = not (none_later (written_lines body) time)

-- what is wrong with a line of a number that says something: in one line a bad line, a limit, the order
abbrev pub said_fault : Version → Body → ℕ → Option Said → Option VecFault
said_fault version body number None = Some (BadLine number)
said_fault version body number (Some said) =
    first_there (
    fault_if (not (may_stand body said)) (BadLine number)
    ∷ fault_if (passes_limit version body said) (Limit number)
    ∷ fault_if (breaks_order body said) (Order number)
    ∷ [])

-- what is written out with one more line; one of no form writes out nothing
abbrev pub with_said_if : Body → ℕ → Option Said → Body
with_said_if body number None = body
with_said_if body number (Some said) = with_said body number said

abbrev pub with_line : Version → Body → ℕ × List ℕ → Body
with_line version body line = with_said_if body line.0 (said_of version (fields_of line.1))

-- what lines write out
unfoldable pub body_of : Version → List (ℕ × List ℕ) → Body
body_of version lines = fold (with_line version) no_lines lines

-- what is wrong with a line behind others
unfoldable pub line_fault : Version → List (ℕ × List ℕ) → ℕ × List ℕ → Option VecFault
line_fault version before line = said_fault version (body_of version before) line.0 (said_of version (fields_of line.1))

-- what is written out with one more line, or what is wrong with it
abbrev pub body_unless_fault : Body → Option VecFault → Result Body VecFault
body_unless_fault body None = Ok body
body_unless_fault body (Some fault) = Err fault

abbrev pub read_said : Version → Body → ℕ → Said → Result Body VecFault
read_said version body number said = body_unless_fault (with_said body number said) (said_fault version body number (Some said))

unfoldable pub read_with : Version → Body → ℕ × List ℕ → Result Body VecFault
read_with version body line =
    body_unless_fault (with_line version body line) (said_fault version body line.0 (said_of version (fields_of line.1)))
