-- A step of a loop that keeps the first of the places of what it has seen.
use Rattle.std.proofs.Common.{◌≡◌, ℕ, ◌+◌, ◌<◌, List, length, get_or, take, Option, ap, sym, ◌∙◌}
use Rattle.std.specs.List.{flat_map}
use Rattle.v_tree.specs.declared.locations.Location.{Location}
use Rattle.rule_places.specs.Places.{earliest, first_place}
use Rattle.rule_places.proofs.PlaceLaws.{first_place-flat_map_more}

-- one more, whose first place is known
pub next_first : {X : Type 0} (places_of : X → List Location) (xs : List X) (i : ℕ) (x : X) (so_far here next : Option Location) → i < length xs → x ≡ get_or xs i x →
    so_far ≡ first_place (flat_map places_of (take i xs)) → here ≡ first_place (places_of x) → next ≡ earliest so_far here → next ≡ first_place (flat_map places_of (take (i + 1) xs))
next_first {X} places_of xs i x so_far here next lt at before first is =
    is
    ∙ ap (λ (place : Option Location). earliest place here) before
    ∙ ap (λ (place : Option Location). earliest (first_place (flat_map places_of (take i xs))) place) (first ∙ ap (λ (y : X). first_place (places_of y)) at)
    ∙ sym (first_place-flat_map_more places_of xs i x lt)
