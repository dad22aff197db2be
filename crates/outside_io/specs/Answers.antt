-- What is said of single answers of `read_whole`.
use Rattle.std.specs.Prelude.{⊤, Result, Ok, Err}
use Rattle.outside_io.specs.declared.whole.TakeFault.{TakeFault}
use Rattle.outside_io.specs.declared.whole.TakeFault.TheVariants.{Read, TooLong, Memory}

-- P holds where the answer is Read
abbrev pub OnRead : {T : Type 0} → Result T TakeFault → Type 0 → Type 0
OnRead (Ok x) P = ⊤
OnRead (Err Read) P = P
OnRead (Err TooLong) P = ⊤
OnRead (Err Memory) P = ⊤

-- P holds where the answer is TooLong
abbrev pub OnTooLong : {T : Type 0} → Result T TakeFault → Type 0 → Type 0
OnTooLong (Ok x) P = ⊤
OnTooLong (Err Read) P = ⊤
OnTooLong (Err TooLong) P = P
OnTooLong (Err Memory) P = ⊤

-- P holds where the answer is Memory
abbrev pub OnMemory : {T : Type 0} → Result T TakeFault → Type 0 → Type 0
OnMemory (Ok x) P = ⊤
OnMemory (Err Read) P = ⊤
OnMemory (Err TooLong) P = ⊤
OnMemory (Err Memory) P = P

-- P holds where the answer isn't Read
abbrev pub UnlessRead : {T : Type 0} → Result T TakeFault → Type 0 → Type 0
UnlessRead (Ok x) P = P
UnlessRead (Err Read) P = ⊤
UnlessRead (Err TooLong) P = P
UnlessRead (Err Memory) P = P
