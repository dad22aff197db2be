-- The places at which an expression doesn't fit the width of its place.
use Rattle.std.specs.Prelude.{ℕ, not, List, [], ◌∷◌, Option, None, Some, nat_eq}
use Rattle.v_tree.specs.declared.locations.Location.{Location}
use Rattle.v_tree.specs.declared.expressions.Expr.{Expr}
use Rattle.module_scope.specs.declared.scopes.Scope.{Scope}
use Rattle.module_scope.specs.Places.{place_if}
use Rattle.item_parts.specs.Widths.{expr_width}
use Rattle.item_parts.specs.Literals.{unsized_in_concatenations}

-- the given location, where a place has a width to keep and the expression has another width
abbrev pub misfits : Option ℕ → Location → Option ℕ → List Location
misfits None location width = []
misfits (Some wanted) location None = []
misfits (Some wanted) location (Some width) = place_if (not (nat_eq width wanted)) location

-- the first places, or the others where there are none
abbrev pub places_or : List Location → List Location → List Location
places_or [] others = others
places_or (first ∷ rest) others = first ∷ rest

-- an expression in a place of a width, or of none to keep: the literals without size in concatenations, else the given location where the width is wrong
abbrev pub width_places : Scope → Option ℕ → Location → Expr → List Location
width_places scope wanted location e = places_or (unsized_in_concatenations e) (misfits wanted location (expr_width scope e))
