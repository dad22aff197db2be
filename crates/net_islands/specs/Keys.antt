-- Items with keys, and for each key the list of its items.
use Rattle.std.specs.Prelude.{ℕ, ◌==◌, List, Vec, map}
use Rattle.std.specs.List.{filter, range_with_len}

-- the items of one key, in their order
abbrev pub items_of : {X : Type 0} → ℕ → List (ℕ × X) → List X
items_of {X} key items = map (λ (item : ℕ × X). item.1) (filter (λ (item : ℕ × X). item.0 == key) items)

-- for each number below the count the items of that key
abbrev pub lists_by_key : {X : Type 0} → ℕ → List (ℕ × X) → List (List X)
lists_by_key {X} count items = map (λ key. items_of key items) (range_with_len 0 count)

-- the lists that vectors hold
abbrev pub lists_in : {X Z : Type 0} → List (Vec X Z) → List (List X)
lists_in {X} {Z} vectors = map (λ (vector : Vec X Z). vector.items) vectors
