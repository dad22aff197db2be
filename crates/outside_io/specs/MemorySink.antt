-- A sink in memory, as contracts see it, and what its calls leave.
use Rattle.std.specs.Prelude.{ℕ, Bool, List, ◌++◌}
use Rattle.outside_io.specs.Files.{is_listed}
use Rattle.outside_io.specs.Outside.{one_more}

-- the calls that fail, how many calls there were, all bytes that were taken, and the count of faults
pub record SinkState : Type 0 where
  pub fails : List ℕ
  pub calls : ℕ
  pub written : List ℕ
  pub faults : ℕ

-- whether the next call is one that fails
abbrev pub is_failing : SinkState → Bool
is_failing s = is_listed s.fails s.calls

-- after a write that took all of this piece
abbrev pub after_write : SinkState → List ℕ → SinkState
after_write s piece = record s { calls = one_more s.calls; written = s.written ++ piece }

-- after a write that failed
abbrev pub after_fault : SinkState → SinkState
after_fault s = record s { calls = one_more s.calls; faults = one_more s.faults }
