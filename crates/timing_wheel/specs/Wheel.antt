-- What a wheel holds: times by key, and how many new keys fit without more memory.
use Rattle.std.specs.Prelude.{◌≡◌, ℕ, ◌+◌, ◌-◌, ◌++◌, ◌⊎◌, IsTrue, ◌<◌, ◌≤◌, ◌↔◌, List, length, Option, None, Some, Contains, nat_le, if◌then◌else◌, refl}
use Rattle.std.specs.Ordering.{nat_cmp}
use Rattle.std.specs.FinMap.{FinMap, code, get, contains_key}
use Rattle.std.specs.Coded.{Coded, code_by, coded×, coded_ℕ}
use Rattle.std.specs.List.Sorted.{IsStrictlyIncreasing}

-- a finite map from keys to times
abbrev pub Times : Type 0
Times = FinMap nat_cmp ℕ

-- the times by key, and how many new keys fit
pub record Pending : Type 0 where
  pub times : Times
  pub spare : ℕ

-- it is stored as the pair of its fields
abbrev pub pending_code : Coded Pending
pending_code = code_by (Times × ℕ) (coded× (code coded_ℕ coded_ℕ) coded_ℕ) (λ p. (p.times, p.spare)) (λ p. record { times = p.0; spare = p.1 }) (λ _. refl)

-- the key is there, or a new key fits
abbrev pub HasRoomFor : Pending → ℕ → Type 0
HasRoomFor wheel key = IsTrue (contains_key wheel.times key) ⊎ (0 < wheel.spare)

-- how many new keys fit after a key got a time: a new key takes the place of one
abbrev pub spare_after_put : Pending → ℕ → ℕ
spare_after_put wheel key = if contains_key wheel.times key then wheel.spare else wheel.spare - 1

-- how many new keys fit after a key went out: one more where it was there
abbrev pub spare_after_cancel : Pending → ℕ → ℕ
spare_after_cancel wheel key = if contains_key wheel.times key then wheel.spare + 1 else wheel.spare

-- a key has this time, and no key has a lesser one
pub record IsLeastTime (times : Times) (least : ℕ) : Type 0 where
  pub reached : (key : ℕ) × (get times key ≡ Some least)
  pub below : (key at : ℕ) → get times key ≡ Some at → least ≤ at

-- a key is there with a time of at most t
abbrev pub IsDue : Times → ℕ → ℕ → Type 0
IsDue times t key = (at : ℕ) × (get times key ≡ Some at) × (at ≤ t)

-- no key is there with a time of at most t
abbrev pub NoneDue : Times → ℕ → Type 0
NoneDue times t = (key at : ℕ) → get times key ≡ Some at → t < at

-- a key is there with the least time, which is at most t
abbrev pub IsLeastDue : Times → ℕ → ℕ → Type 0
IsLeastDue times t key = (at : ℕ) × (get times key ≡ Some at) × (at ≤ t) × IsLeastTime times at

-- what a key keeps where the times of at most t go
abbrev pub later : ℕ → Option ℕ → Option ℕ
later t None = None
later t (Some at) = if nat_le at t then None else Some at

-- the keys that are due at t go out, and stand in rising order
pub record TakesDue (old new : Pending) (t : ℕ) (keys : List ℕ) : Type 0 where
  pub rising : IsStrictlyIncreasing keys
  pub due : (key : ℕ) → Contains keys key ↔ IsDue old.times t key
  pub left : (key : ℕ) → get new.times key ≡ later t (get old.times key)
  pub spare : new.spare ≡ old.spare + length keys

-- the keys that are due at t go out of a wheel and to the end of a list
abbrev pub AppendsDue : Pending → Pending → ℕ → List ℕ → List ℕ → Type 0
AppendsDue old new t before after = (keys : List ℕ) × (after ≡ before ++ keys) × TakesDue old new t keys
