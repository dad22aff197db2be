-- Loops that keep the first place of each rule: what was seen, and what is left.
use Rattle.std.proofs.Common.{◌≡◌, ℕ, ◌+◌, ◌<◌, ◌≤◌, List, [], ◌∷◌, ◌++◌, length, get_or, drop, Option, None, refl, sym, ap, ◌∙◌}
use Rattle.std.specs.List.{flat_map, enumerate_from}
use Rattle.std.proofs.lemmas.Grind.{flat_map-append}
use Rattle.v_tree.specs.declared.locations.Location.{Location}
use Rattle.rule_places.specs.Places.{earliest, first_place}
use Rattle.rule_places.proofs.PlaceSteps.{flat_map_step, flat_map_end, enumerate_step, enumerate_end}
use Rattle.instance_rules.specs.declared.places.ItemPlaces.{ItemPlaces}
use Rattle.instance_rules.specs.Items.{InstanceRule}
use Rattle.instance_rules.specs.Items.InstanceRule.{Widths, Counts, Delays, Drives, Connections, Literals}
use Rattle.instance_rules.specs.Walks.{AreFirst, earliest_places, no_places, place_of}

-- the place of each rule of two is the earlier of the two
pub place_of-earliest : (rule : InstanceRule) (a b : ItemPlaces) → place_of rule (earliest_places a b) ≡ earliest (place_of rule a) (place_of rule b)
place_of-earliest Widths a b = refl
place_of-earliest Counts a b = refl
place_of-earliest Delays a b = refl
place_of-earliest Drives a b = refl
place_of-earliest Connections a b = refl
place_of-earliest Literals a b = refl

pub place_of-none : (rule : InstanceRule) → place_of rule no_places ≡ None
place_of-none Widths = refl
place_of-none Counts = refl
place_of-none Delays = refl
place_of-none Drives = refl
place_of-none Connections = refl
place_of-none Literals = refl

-- where no rule has a place, there is no first one
pub AreFirst-none : AreFirst (λ rule. []) no_places
AreFirst-none rule = sym (place_of-none rule)

-- the places of one more, and then those of the rest
abbrev pub IsSeen : {X : Type 0} → (InstanceRule → X → List Location) → List X → (InstanceRule → List Location) → ℕ → ItemPlaces → Type 0
IsSeen places_of xs whole i so_far = (rule : InstanceRule) → first_place (whole rule) ≡ earliest (place_of rule so_far) (first_place (flat_map (places_of rule) (drop i xs)))

abbrev pub IsSeenFrom : {X : Type 0} → (InstanceRule → ℕ × X → List Location) → List X → (InstanceRule → List Location) → ℕ → ItemPlaces → Type 0
IsSeenFrom places_of xs whole i so_far = (rule : InstanceRule) → first_place (whole rule) ≡ earliest (place_of rule so_far) (first_place (flat_map (places_of rule) (enumerate_from i (drop i xs))))

-- nothing is seen yet
from_none : (p : ItemPlaces) → p ≡ no_places → (rule : InstanceRule) (rest : Option Location) → rest ≡ earliest (place_of rule p) rest
from_none p none rule rest = sym (ap (λ (first : Option Location). earliest first rest) (ap (place_of rule) none ∙ place_of-none rule))

pub IsSeen-start : {X : Type 0} (places_of : InstanceRule → X → List Location) (xs : List X) (p : ItemPlaces) → p ≡ no_places → IsSeen places_of xs (λ rule. flat_map (places_of rule) xs) 0 p
IsSeen-start places_of xs p none rule = from_none p none rule (first_place (flat_map (places_of rule) xs))

pub IsSeenFrom-start : {X : Type 0} (places_of : InstanceRule → ℕ × X → List Location) (xs : List X) (whole : InstanceRule → List Location) (p : ItemPlaces) → p ≡ no_places →
    ((rule : InstanceRule) → whole rule ≡ flat_map (places_of rule) (enumerate_from 0 xs)) → IsSeenFrom places_of xs whole 0 p
IsSeenFrom-start places_of xs whole p none same rule =
    ap first_place (same rule) ∙ from_none p none rule (first_place (flat_map (places_of rule) (enumerate_from 0 xs)))

-- the places so far and those of one more
more_places : (rule : InstanceRule) (so_far more : ItemPlaces) (places : List Location) (rest : Option Location) → first_place places ≡ place_of rule more →
    earliest (earliest (place_of rule so_far) (first_place places)) rest ≡ earliest (place_of rule (earliest_places so_far more)) rest
more_places rule so_far more places rest here =
    ap (λ (p : Option Location). earliest (earliest (place_of rule so_far) p) rest) here
    ∙ ap (λ (p : Option Location). earliest p rest) (sym (place_of-earliest rule so_far more))

module _ {X : Type 0} (places_of : InstanceRule → X → List Location) (xs : List X) (whole : InstanceRule → List Location) (i : ℕ) (so_far : ItemPlaces) (seen : IsSeen places_of xs whole i so_far) where
  pub IsSeen-step : (x : X) (more : ItemPlaces) → i < length xs → get_or xs i x ≡ x → AreFirst (λ rule. places_of rule x) more → IsSeen places_of xs whole (i + 1) (earliest_places so_far more)
  IsSeen-step x more lt at here rule =
      flat_map_step (places_of rule) xs i (first_place (whole rule)) (place_of rule so_far) (seen rule) x lt at
      ∙ more_places rule so_far more (places_of rule x) (first_place (flat_map (places_of rule) (drop (i + 1) xs))) (here rule)

  pub IsSeen-end : length xs ≤ i → AreFirst whole so_far
  IsSeen-end le rule = flat_map_end (places_of rule) xs i (first_place (whole rule)) (place_of rule so_far) (seen rule) le

module _ {X : Type 0} (places_of : InstanceRule → ℕ × X → List Location) (xs : List X) (whole : InstanceRule → List Location) (i : ℕ) (so_far : ItemPlaces) (seen : IsSeenFrom places_of xs whole i so_far) where
  pub IsSeenFrom-step : (x : X) (more : ItemPlaces) → i < length xs → get_or xs i x ≡ x → AreFirst (λ rule. places_of rule (i, x)) more → IsSeenFrom places_of xs whole (i + 1) (earliest_places so_far more)
  IsSeenFrom-step x more lt at here rule =
      enumerate_step (places_of rule) xs i (first_place (whole rule)) (place_of rule so_far) (seen rule) x lt at
      ∙ more_places rule so_far more (places_of rule (i, x)) (first_place (flat_map (places_of rule) (enumerate_from (i + 1) (drop (i + 1) xs)))) (here rule)

  pub IsSeenFrom-end : length xs ≤ i → AreFirst whole so_far
  IsSeenFrom-end le rule = enumerate_end (places_of rule) xs i (first_place (whole rule)) (place_of rule so_far) (seen rule) le

-- the places of lists one in another
pub flat_map-flat_map : {A B C : Type 0} (f : B → List C) (g : A → List B) (xs : List A) → flat_map f (flat_map g xs) ≡ flat_map (λ x. flat_map f (g x)) xs
flat_map-flat_map {C = C} f g [] = refl
flat_map-flat_map {C = C} f g (x ∷ xs) = flat_map-append f (g x) (flat_map g xs) ∙ ap (λ (rest : List C). flat_map f (g x) ++ rest) (flat_map-flat_map f g xs)
