-- The literals in expressions.
use Rattle.std.specs.Prelude.{Bool, true, false, List, [], ◌∷◌}
use Rattle.std.specs.List.{flat_map, list_any}
use Rattle.std.specs.Option.{is_none}
use Rattle.v_tree.specs.declared.locations.Location.{Location}
use Rattle.v_tree.specs.declared.expressions.Expr.{Expr, out-Expr}
use Rattle.v_tree.specs.declared.expressions.Expr.TheOpen.{Expr-F}
use Rattle.v_tree.specs.declared.expressions.Expr.TheFolds.{fold-Expr}
use Rattle.module_scope.specs.Places.{place_if}

abbrev pub location_in : {X : Type 0} → Expr-F X → Location
location_in (Expr-F.Pick pick) = pick.name.location
location_in (Expr-F.Number location n) = location
location_in (Expr-F.Based location literal) = location
location_in (Expr-F.Concat location parts) = location

-- the first token of an expression
abbrev pub location_of : Expr → Location
location_of e = location_in (out-Expr e)

-- one layer of an expression, with whether its parts have a literal
abbrev pub has_literal_layer : Expr-F Bool → Bool
has_literal_layer (Expr-F.Pick pick) = false
has_literal_layer (Expr-F.Number location n) = true
has_literal_layer (Expr-F.Based location literal) = true
has_literal_layer (Expr-F.Concat location parts) = list_any (λ part. part) parts

-- a literal stands in an expression, at any depth
abbrev pub has_literal : Expr → Bool
has_literal = fold-Expr Bool has_literal_layer

-- one layer of an expression, with the literals without size in its parts
abbrev pub unsized_layer : Expr-F (List Location) → List Location
unsized_layer (Expr-F.Pick pick) = []
unsized_layer (Expr-F.Number location n) = location ∷ []
unsized_layer (Expr-F.Based location literal) = place_if (is_none literal.size) location
unsized_layer (Expr-F.Concat location parts) = flat_map (λ part. part) parts

-- the literals without size in an expression, at any depth
abbrev pub unsized_literals : Expr → List Location
unsized_literals = fold-Expr (List Location) unsized_layer

abbrev pub unsized_in_parts : Expr-F Expr → List Location
unsized_in_parts (Expr-F.Pick pick) = []
unsized_in_parts (Expr-F.Number location n) = []
unsized_in_parts (Expr-F.Based location literal) = []
unsized_in_parts (Expr-F.Concat location parts) = flat_map unsized_literals parts

-- the literals without size that stand in a concatenation, where none may stand (IEEE 1364-2005, 5.1.14)
abbrev pub unsized_in_concatenations : Expr → List Location
unsized_in_concatenations e = unsized_in_parts (out-Expr e)
