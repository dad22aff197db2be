-- Definitions that only code and proofs use: slots found by key.
use Rattle.std.specs.Prelude.{◌≡◌, ◌≢◌, ℕ, ◌+◌, if◌then◌else◌, ◌<◌, List, length, slice_index, nat_eq, Some}
use Rattle.std.specs.HashMap.{HashMap, get, hash_map_len, spare}
use Rattle.std.specs.declared.hash.FoldHasher.{FoldHasher}
use Rattle.std.specs.declared.hash.BuildHasherDefault.{BuildHasherDefault}
use Rattle.timing_wheel.specs.Times.{idle}

-- a table from keys to slots
abbrev pub Table : Type 0
Table = HashMap ℕ ℕ (BuildHasherDefault FoldHasher)

-- each slot in use is found by its key
abbrev pub IsIndexed : Table → List ℕ → List ℕ → Type 0
IsIndexed index keys times = (slot : ℕ) → slot < length keys → slice_index times slot ≢ idle → get nat_eq index (slice_index keys slot) ≡ Some slot

-- no slot in use has this key
abbrev pub NoneHas : List ℕ → List ℕ → ℕ → Type 0
NoneHas keys times key = (slot : ℕ) → slot < length keys → slice_index times slot ≢ idle → slice_index keys slot ≢ key

-- how many keys a table has or can take without more memory
abbrev pub room_of : Table → ℕ
room_of index = hash_map_len index + spare index

-- the key is found at the slot, and others as before
abbrev pub Stores : Table → Table → ℕ → ℕ → Type 0
Stores old new key slot = (q : ℕ) → get nat_eq new q ≡ (if nat_eq key q then Some slot else get nat_eq old q)
