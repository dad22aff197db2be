-- Definitions that only code and proofs use: lists of slots that are linked both ways.
use Rattle.std.specs.Prelude.{◌≡◌, ◌≢◌, ℕ, replicate, slice_set, ◌+◌, ◌^◌, ◌<◌, ◌≤◌, ◌⊎◌, List, [], ◌∷◌, length, slice_index}

-- how many lists there are, and in which each slot stands: the number of lists stands for none
pub record Placement : Type 0 where
  pub lists : ℕ
  pub places : List ℕ

-- so many lists, and so many slots that stand in none
abbrev pub all_loose : ℕ → ℕ → Placement
all_loose lists slots = record { lists = lists; places = replicate slots lists }

-- a slot stands in another list, or in none
abbrev pub moved : Placement → ℕ → ℕ → Placement
moved chains slot list = record { lists = chains.lists; places = slice_set chains.places slot list }

-- no slot stands in the list
abbrev pub NoneStandsIn : List ℕ → ℕ → Type 0
NoneStandsIn places list = (slot : ℕ) → slot < length places → slice_index places slot ≢ list

-- a node stands among others
abbrev pub Among : ℕ → List ℕ → Type 0
Among x [] = ⊥
Among x (node ∷ nodes) = (x ≡ node) ⊎ Among x nodes

-- the links lead from one node through these nodes, and from the last to the end
abbrev pub LeadsThrough : List ℕ → ℕ → ℕ → List ℕ → Type 0
LeadsThrough next end from [] = slice_index next from ≡ end
LeadsThrough next end from (node ∷ nodes) = (slice_index next from ≡ node) × LeadsThrough next end node nodes

-- the nodes of one list: the links lead from its head through them and back, and they are those of its slots
pub record IsRing (next places : List ℕ) (lists list : ℕ) (nodes : List ℕ) : Type 0 where
  pub leads : LeadsThrough next list list nodes
  pub all : (slot : ℕ) → slot < length places → slice_index places slot ≡ list → Among (lists + slot) nodes
  pub only : (node : ℕ) → Among node nodes → (slot : ℕ) × (slot < length places) × (node ≡ lists + slot) × (slice_index places slot ≡ list)

-- nodes below `lists` are the heads of the lists, and the slots follow
pub record IsLinked (next previous places : List ℕ) (lists : ℕ) : Type 0 where
  pub next_size : length next ≡ lists + length places
  pub previous_size : length previous ≡ lists + length places
  pub size : lists + length places < 2 ^ 32
  pub within : (node : ℕ) → node < length next → slice_index next node < length next
  pub back : (node : ℕ) → node < length next → slice_index previous (slice_index next node) ≡ node
  pub before : (node : ℕ) → node < length next → slice_index previous node < length next
  pub forth : (node : ℕ) → node < length next → slice_index next (slice_index previous node) ≡ node
  pub loose : (slot : ℕ) → slot < length places → slice_index places slot ≡ lists → slice_index next (lists + slot) ≡ lists + slot
  pub placed : (slot : ℕ) → slot < length places → slice_index places slot ≤ lists
  pub rings : (list : ℕ) → list < lists → (nodes : List ℕ) × IsRing next places lists list nodes
