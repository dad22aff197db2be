-- When what a function returned is what a definition gives, but for want of memory.
use Rattle.std.specs.Prelude.{◌≡◌, Result, Ok, Err}
use Rattle.vector_text.specs.declared.fault.VecFault.{VecFault}
use Rattle.vector_text.specs.declared.fault.VecFault.TheVariants.{BadLine, Limit, Order, NoEnd, Memory as NoMemory}
use Rattle.vector_text.specs.declared.fault.BindFault.{BindFault}
use Rattle.vector_text.specs.declared.fault.BindFault.TheVariants.{UnknownNet, NotAnInput, NamedTwice, Limit as ManyOutputs, Width, Memory as NoBindMemory}

-- a fault of a text is that of the definition, or want of memory
abbrev pub IsVecFault : {Y : Type 0} → VecFault → Result Y VecFault → Type 0
IsVecFault (BadLine line) given = given ≡ Err (BadLine line)
IsVecFault (Limit line) given = given ≡ Err (Limit line)
IsVecFault (Order line) given = given ≡ Err (Order line)
IsVecFault NoEnd given = given ≡ Err NoEnd
IsVecFault NoMemory given = Unit {0}

-- what reading returned is what the definition gives, unless memory ran out
abbrev pub Reads : {X Y : Type 0} → (X → Y) → Result X VecFault → Result Y VecFault → Type 0
Reads view (Ok x) given = given ≡ Ok (view x)
Reads view (Err fault) given = IsVecFault fault given

-- a fault of binding is that of the definition, or want of memory
abbrev pub IsBindFault : {Y : Type 0} → BindFault → Result Y BindFault → Type 0
IsBindFault (UnknownNet line) given = given ≡ Err (UnknownNet line)
IsBindFault (NotAnInput line) given = given ≡ Err (NotAnInput line)
IsBindFault (NamedTwice line) given = given ≡ Err (NamedTwice line)
IsBindFault (ManyOutputs line) given = given ≡ Err (ManyOutputs line)
IsBindFault (Width line) given = given ≡ Err (Width line)
IsBindFault NoBindMemory given = Unit {0}

-- what binding returned is what the definition gives, unless memory ran out
abbrev pub Binds : {X Y : Type 0} → (X → Y) → Result X BindFault → Result Y BindFault → Type 0
Binds view (Ok x) given = given ≡ Ok (view x)
Binds view (Err fault) given = IsBindFault fault given
