-- For the code and its proofs alone: the lesser of two times that need not be there.
use Rattle.std.specs.Prelude.{ℕ, Option, Some, None}
use Rattle.machine.specs.Run.{lesser}

abbrev pub earlier : Option ℕ → Option ℕ → Option ℕ
earlier None b = b
earlier (Some a) b = Some (lesser a b)
