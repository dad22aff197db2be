-- For the code alone: what the fields of a body stand for.
use Rattle.std.specs.Prelude.{◌≡◌, ℕ, ◌+◌, ◌-◌, ◌*◌, ◌<◌, ◌≤◌, List, length, take, drop, All, Option, Some, None, option_map, is_some, false}
use Rattle.std.specs.Option.{ForSome}
use Rattle.line_text.specs.Numbers.{cap}
use Rattle.vector_text.specs.declared.body.Block.{Block}
use Rattle.vector_text.specs.declared.body.Body.TheInside.{Inside}
use Rattle.vector_text.specs.declared.vectors.VectorLine.{VectorLine}
use Rattle.vector_text.specs.Lawful.{greatest_time}
use Rattle.vector_text.specs.Written.{Block as WrittenBlock, Body as WrittenBody, total_size, greatest_count}

-- the lines outside the open block
abbrev pub outside_lines : List VectorLine → Option Block → List VectorLine
outside_lines lines None = lines
outside_lines lines (Some block) = take block.first lines

-- the open block, with the lines of its first turn
abbrev pub block_view : List VectorLine → Block → WrittenBlock
block_view lines block = record { repeat = block.repeat; lines = drop block.first lines }

abbrev pub body_view : Inside → WrittenBody
body_view b = record {
  lines = outside_lines b.schedule b.block;
  block = option_map (block_view b.schedule) b.block;
  end = b.end;
}

-- an open block: its numbers are within their limits, its first turn is a part of the lines, and its
-- last turn ends within the greatest time
pub record IsOpen (lines : List VectorLine) (block : Block) : Type 0 where
  pub first : block.first ≤ length lines
  pub some : 0 < block.repeat.count
  pub count : block.repeat.count ≤ greatest_count
  pub start : block.repeat.start ≤ greatest_time
  pub period : block.repeat.period ≤ greatest_time
  pub size : block.size ≡ cap (total_size (take block.first lines))
  pub last : All (λ line. line.time + (block.repeat.count - 1) * block.repeat.period ≤ greatest_time) (drop block.first lines)

-- the fields of a body: no block is open behind an end, and all times are within the greatest
pub record AreParts (lines : List VectorLine) (block : Option Block) (end : Option ℕ) : Type 0 where
  pub ended : ForSome end (λ _. is_some block ≡ false)
  pub times : All (λ line. line.time ≤ greatest_time) lines
  pub open_block : ForSome block (IsOpen lines)

abbrev pub IsBody : Inside → Type 0
IsBody b = AreParts b.schedule b.block b.end
