-- The wired nets at one more terminal.
use Rattle.std.proofs.Common.{◌≡◌, ◌<◌, ◌+◌, ◌++◌, ◌∷◌, [], ℕ, Bool, List, length, get_or, take, map, ap, ◌∙◌}
use Rattle.std.proofs.lemmas.List.{map-append, take_more}
use Rattle.std.proofs.lemmas.List.Elements.{filter-append}
use Rattle.std.specs.List.{filter}
use Rattle.v_tree.specs.declared.locations.Location.{Location}
use Rattle.rule_places.specs.Places.{earliest, first_place}
use Rattle.rule_places.proofs.PlaceLaws.{first_place-append}
use Rattle.net_islands.specs.declared.parts.NetClass.{NetClass}
use Rattle.flat_assembly.specs.Assembly.{class_at}
use Rattle.flat_assembly.specs.Wired.{is_wired, wired_places}

module _ (classes : List NetClass) where
  abbrev is_wired_there : ℕ × Location → Bool
  is_wired_there t = is_wired (class_at classes t.0)

  places_append : (first second : List (ℕ × Location)) → wired_places classes (first ++ second) ≡ wired_places classes first ++ wired_places classes second
  places_append first second =
      ap (map (λ (t : ℕ × Location). t.1)) (filter-append is_wired_there first second)
      ∙ map-append (λ (t : ℕ × Location). t.1) (filter is_wired_there first) (filter is_wired_there second)

  pub first-more : (terminals : List (ℕ × Location)) (i : ℕ) (d : ℕ × Location) → i < length terminals →
      first_place (wired_places classes (take (i + 1) terminals)) ≡ earliest (first_place (wired_places classes (take i terminals))) (first_place (wired_places classes (get_or terminals i d ∷ [])))
  first-more terminals i d within =
      ap (λ (ts : List (ℕ × Location)). first_place (wired_places classes ts)) (take_more terminals i d within)
      ∙ ap first_place (places_append (take i terminals) (get_or terminals i d ∷ []))
      ∙ first_place-append (wired_places classes (take i terminals)) (wired_places classes (get_or terminals i d ∷ []))
