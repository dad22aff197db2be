-- For the bodies alone: the room of a bench.
use Rattle.std.specs.Prelude.{ℕ, ◌≤◌, length}
use Rattle.cell_step.specs.declared.bench.Bench.TheInside.{Inside}

-- for how many nets and how many links there is room
pub record Room : Type 0 where
  pub nets : ℕ
  pub links : ℕ

-- each list of a bench has a place for each net, or each link, for which there is room
pub record BenchInside (b : Inside) : Type 0 where
  pub charges : length b.own.items ≤ length b.charges.items
  pub driven : length b.own.items ≤ length b.driven.items
  pub out : length b.own.items ≤ length b.out.items
  pub scratch : length b.own.items ≤ b.scratch

-- the room of a bench's fields
abbrev pub room_of : Inside → Room
room_of b = record { nets = length b.own.items; links = length b.on.items }
