-- Definitions that only code and proofs use: the entries of the slots that are in use.
use Rattle.std.specs.Prelude.{◌≡◌, ℕ, ◌+◌, ◌<◌, ◌≤◌, ◌==◌, ◌^◌, List, [], ◌∷◌, ◌++◌, length, ◌⊎◌, None, nat_eq, Contains, count_by, if◌then◌else◌}
use Rattle.std.specs.FinMap.{from_entries, get}
use Rattle.std.specs.List.{IsDistinct}
use Rattle.std.specs.HashMap.{hash_map_len, spare}
use Rattle.timing_wheel.specs.Times.{idle}
use Rattle.timing_wheel.specs.Index.{Table, IsIndexed}
use Rattle.timing_wheel.specs.Wheel.{Pending, IsDue}

-- the key and the time of each slot that is in use
abbrev pub live_entries : List ℕ → List ℕ → List (ℕ × ℕ)
live_entries [] times = []
live_entries (key ∷ keys) [] = []
live_entries (key ∷ keys) (time ∷ times) = if time == idle then live_entries keys times else (key, time) ∷ live_entries keys times

-- what a wheel holds
abbrev pub pending : List ℕ → List ℕ → ℕ → Pending
pending keys times room = record { times = from_entries (live_entries keys times); spare = room }

-- slots are found by key, the table has room, and the slots that aren't in use are counted
pub record IsWheel (keys times : List ℕ) (index : Table) (room : ℕ) : Type 0 where
  pub size : length keys ≡ length times
  pub small : length keys < 2 ^ 32
  pub indexed : IsIndexed index keys times
  pub table : length keys + length keys ≤ hash_map_len index + spare index
  pub counted : room ≡ count_by (λ time. time == idle) times

-- some keys that were due went out, each of them once, and no other changed
pub record Collects (old new : Pending) (t : ℕ) (taken : List ℕ) : Type 0 where
  pub distinct : IsDistinct nat_eq taken
  pub gone : (key : ℕ) → Contains taken key → IsDue old.times t key × (get new.times key ≡ None)
  pub kept : (key : ℕ) → Contains taken key ⊎ (get new.times key ≡ get old.times key)
  pub counted : new.spare ≡ old.spare + length taken

-- some keys that were due went out and stand at the end of a list
abbrev pub Appends : Pending → Pending → ℕ → List ℕ → List ℕ → Type 0
Appends old new t before after = (taken : List ℕ) × (after ≡ before ++ taken) × Collects old new t taken
