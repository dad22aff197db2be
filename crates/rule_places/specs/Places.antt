-- Places of a text at which a rule is broken, each the location of a token, and the first of them.
use Rattle.std.specs.Prelude.{◌≤◌, Bool, false, List, [], ◌∷◌, Option, None, Some, map, nat_lt, nat_le, if◌then◌else◌}
use Rattle.std.specs.List.{All, Contains, filter}
use Rattle.v_tree.specs.declared.locations.Location.{Location}

-- of two places the one with the smaller token, and of two with the same token the first
abbrev pub earlier : Location → Location → Location
earlier a b = if nat_lt b.token a.token then b else a

-- the earlier of two places that may be there
abbrev pub earliest : Option Location → Option Location → Option Location
earliest None b = b
earliest (Some a) None = Some a
earliest (Some a) (Some b) = Some (earlier a b)

-- the place of a list with the smallest token, and of several with that token the first in the list
abbrev pub first_place : List Location → Option Location
first_place [] = None
first_place (place ∷ places) = earliest (Some place) (first_place places)

-- a place is there and isn't behind another
abbrev pub precedes : Option Location → Location → Bool
precedes None b = false
precedes (Some a) b = nat_le a.token b.token

-- the places of those that break a rule, in their order
abbrev pub places_where : {X : Type 0} → (X → Bool) → (X → Location) → List X → List Location
places_where breaks place_of xs = map place_of (filter breaks xs)

-- a place of a list, where no place of the list has a smaller token
pub record IsFirst (places : List Location) (place : Location) : Type 0 where
  pub among : Contains places place
  pub least : All (λ other. place.token ≤ other.token) places
