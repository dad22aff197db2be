-- Steps that may find no answer, one after the other.
use Rattle.std.specs.Prelude.{◌≡◌, List, [], ◌∷◌, Option, Some, None, Result, Ok, Err}
use Rattle.gate_net.specs.declared.fault.BuildFault.{BuildFault}
use Rattle.gate_net.specs.declared.fault.BuildFault.TheVariants.{Memory, Unbuilt}

infixl 10 ◌>>=◌
-- the second step goes on from what the first one found
abbrev pub ◌>>=◌ : {A B : Type 0} → Option A → (A → Option B) → Option B
(Some x) >>= f = f x
None >>= f = None

-- what each element gives, where each gives something
abbrev pub each : {A B : Type 0} → (A → Option B) → List A → Option (List B)
each f [] = Some []
each f (x ∷ xs) = do
  y ← f x
  others ← each f xs
  Some (y ∷ others)

-- a fault, where the answer is known: want of memory says nothing of it
abbrev pub Fails : {Y : Type 0} → BuildFault → Option Y → Type 0
Fails Memory answer = Unit {0}
Fails Unbuilt answer = answer ≡ None

-- what a function returned, seen by `view`, is the answer, unless memory ran out
abbrev pub Gives : {X Y : Type 0} → (X → Y) → Result X BuildFault → Option Y → Type 0
Gives view (Ok x) answer = answer ≡ Some (view x)
Gives view (Err e) answer = Fails e answer
