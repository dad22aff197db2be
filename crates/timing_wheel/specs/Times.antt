-- Definitions that only code and proofs use: times by number, the least of them, and the tree that keeps it.
use Rattle.std.specs.Prelude.{◌≡◌, ◌≢◌, ℕ, ◌+◌, ◌<◌, ◌≤◌, ◌⊎◌, List, length, min, slice_index}

-- the time of what isn't due: the largest number of 64 bits
abbrev pub idle : ℕ
idle = 18446744073709551615

-- no time of the list is below this one, which is one of them or stands for none
pub record IsLeastOf (times : List ℕ) (least : ℕ) : Type 0 where
  pub below : (i : ℕ) → i < length times → least ≤ slice_index times i
  pub reached : (least ≡ idle) ⊎ ((i : ℕ) × (i < length times) × (slice_index times i ≡ least))

-- no time of the list is one at which something is due
abbrev pub AllIdle : List ℕ → Type 0
AllIdle times = (i : ℕ) → i < length times → slice_index times i ≡ idle

-- each time of the list is one at which something is due
abbrev pub NoneIdle : List ℕ → Type 0
NoneIdle times = (i : ℕ) → i < length times → slice_index times i ≢ idle

-- the tick of a bucket is none or this time
abbrev pub IsFreeFor : ℕ → ℕ → Type 0
IsFreeFor tick time = (tick ≡ idle) ⊎ (tick ≡ time)

-- cells 1 to leaves - 1 are each the smaller of the two below; the leaves follow them
pub record IsLeastTree (cells : List ℕ) (leaves : ℕ) : Type 0 where
  pub size : length cells ≡ leaves + leaves
  pub inner : (i : ℕ) → 0 < i → i < leaves → slice_index cells i ≡ min (slice_index cells (i + i)) (slice_index cells (i + i + 1))
