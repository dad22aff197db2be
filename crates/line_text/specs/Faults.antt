-- The first fault of a list whose elements, such as the lines of a text, are judged one by one, each
-- behind those before it.
use Rattle.std.specs.Prelude.{◌≡◌, ℕ, ◌<◌, Bool, List, [], ◌∷◌, ◌++◌, take, Option, Some, None, slice_get, if◌then◌else◌}
use Rattle.std.specs.Option.{option_or}

-- a fault, where the test says so
abbrev pub fault_if : {F : Type 0} → Bool → F → Option F
fault_if test fault = if test then Some fault else None

-- the first fault that is there: within one line the order of faults is that of a list
abbrev pub first_there : {F : Type 0} → List (Option F) → Option F
first_there [] = None
first_there (fault ∷ faults) = option_or fault (first_there faults)

-- the first fault of the elements that stand behind some others
abbrev pub first_fault_behind : {A F : Type 0} → (List A → A → Option F) → List A → List A → Option F
first_fault_behind fault before [] = None
first_fault_behind fault before (x ∷ xs) = option_or (fault before x) (first_fault_behind fault (before ++ x ∷ []) xs)

-- the first fault of a list
abbrev pub first_fault : {A F : Type 0} → (List A → A → Option F) → List A → Option F
first_fault fault xs = first_fault_behind fault [] xs

-- the same as a relation: an element has this fault, and none before it has one
pub record IsFirstFault {A F : Type 0} (fault : List A → A → Option F) (xs : List A) (found : F) : Type 0 where
  pub index : ℕ
  pub element : A
  pub here : slice_get xs index ≡ Some element
  pub faulty : fault (take index xs) element ≡ Some found
  pub sound : (k : ℕ) (x : A) → k < index → slice_get xs k ≡ Some x → fault (take k xs) x ≡ None

-- no element has a fault
abbrev pub HasNoFault : {A F : Type 0} → (List A → A → Option F) → List A → Type 0
HasNoFault {A} fault xs = (k : ℕ) (x : A) → slice_get xs k ≡ Some x → fault (take k xs) x ≡ None
