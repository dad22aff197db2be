-- Why a file gives nothing, and what clauses say of that.
use Rattle.std.specs.Prelude.{◌≡◌, ⊤, Result, Ok, Err}
use Rattle.cfsim.specs.declared.refusal.Refusal.{Refusal}
use Rattle.cfsim.specs.declared.refusal.Refusal.TheVariants.{Memory, Read, TooLong, Faulty, Unbuilt}

-- the refusal is one that a text can have, or want of memory
abbrev pub IsOfText : Refusal → Type 0
IsOfText Memory = ⊤
IsOfText Read = ⊥
IsOfText TooLong = ⊤
IsOfText (Faulty fault line) = ⊤
IsOfText Unbuilt = ⊤

-- what the shelf's file says of the refusal; a file that can't be read and want of memory say nothing
abbrev pub Tells : {X : Type 0} → Refusal → Result X Refusal → Type 0
Tells Memory file = ⊤
Tells Read file = ⊤
Tells TooLong file = file ≡ Err TooLong
Tells (Faulty fault line) file = file ≡ Err (Faulty fault line)
Tells Unbuilt file = file ≡ Err Unbuilt

-- P holds where there was no memory
abbrev pub OnMemory : {X : Type 0} → Result X Refusal → Type 0 → Type 0
OnMemory (Ok x) P = ⊤
OnMemory (Err Memory) P = P
OnMemory (Err Read) P = ⊤
OnMemory (Err TooLong) P = ⊤
OnMemory (Err (Faulty fault line)) P = ⊤
OnMemory (Err Unbuilt) P = ⊤

-- P holds where a call on the shelf failed
abbrev pub OnRead : {X : Type 0} → Result X Refusal → Type 0 → Type 0
OnRead (Ok x) P = ⊤
OnRead (Err Memory) P = ⊤
OnRead (Err Read) P = P
OnRead (Err TooLong) P = ⊤
OnRead (Err (Faulty fault line)) P = ⊤
OnRead (Err Unbuilt) P = ⊤

-- P holds where no call on the shelf failed
abbrev pub UnlessRead : {X : Type 0} → Result X Refusal → Type 0 → Type 0
UnlessRead (Ok x) P = P
UnlessRead (Err Memory) P = P
UnlessRead (Err Read) P = ⊤
UnlessRead (Err TooLong) P = P
UnlessRead (Err (Faulty fault line)) P = P
UnlessRead (Err Unbuilt) P = P
