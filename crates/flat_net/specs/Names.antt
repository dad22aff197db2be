-- What names find in a flat netlist.
use Rattle.std.specs.Prelude.{ℕ, List, [], ◌∷◌, Option, Some, None, slice_get, if◌then◌else◌}
use Rattle.name_table.specs.Names.{same_name}
use Rattle.flat_net.specs.declared.parts.Find.{Find}

-- the nets that a name finds, from the left; none where it finds nothing
abbrev pub nets_found : List Find → List ℕ → List ℕ
nets_found [] name = []
nets_found (found ∷ finds) name = if same_name name found.name then found.nets else nets_found finds name

-- the nets of what is found
abbrev pub nets_of : Option Find → List ℕ
nets_of None = []
nets_of (Some found) = found.nets

-- the nets that are found at a place
abbrev pub nets_at : List Find → Option ℕ → List ℕ
nets_at finds None = []
nets_at finds (Some place) = nets_of (slice_get finds place)
