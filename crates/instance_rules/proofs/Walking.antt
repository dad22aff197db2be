-- Items and the references of a module, side by side.
use Rattle.std.proofs.Common.{◌≡◌, ℕ, zero, suc, ◌+◌, ◌<◌, ◌≤◌, List, [], ◌∷◌, length, get_or, drop, Option, None, Some, refl, sym, ap, subst, ◌∙◌, add-one}
use Rattle.std.specs.List.{cons_option, flat_map, slice_get}
use Rattle.std.specs.Option.{option_map}
use Rattle.std.proofs.lemmas.List.{drop_all, drop_more}
use Rattle.v_tree.specs.declared.locations.Location.{Location}
use Rattle.v_tree.specs.declared.gates.Instance.{Instance}
use Rattle.v_tree.specs.declared.modules.Item.{Item}
use Rattle.v_tree.specs.declared.modules.Item.TheVariants as item
use Rattle.v_tree.specs.declared.modules.Module.{Module}
use Rattle.rule_places.specs.Places.{earliest, first_place}
use Rattle.rule_places.proofs.PlaceLaws.{earliest_none, earliest_assoc, first_place-append}
use Rattle.module_scope.specs.declared.scopes.Scope.{Scope}
use Rattle.module_graph.specs.declared.references.Master.{Master}
use Rattle.module_graph.specs.declared.references.Reference.{Reference}
use Rattle.module_graph.specs.Graph.{reference_of, reference_to, references_in}
use Rattle.instance_rules.specs.declared.places.ItemPlaces.{ItemPlaces}
use Rattle.instance_rules.specs.Items.{InstanceRule, item_places}
use Rattle.instance_rules.specs.Items.InstanceRule.{Widths, Counts, Delays, Drives, Connections, Literals}
use Rattle.instance_rules.specs.Links.{ports_of}
use Rattle.instance_rules.specs.Places.{Masters, instance_places, breaking_places, instance_of, places_under, instances_in, places_in}
use Rattle.instance_rules.specs.Walks.{AreFirst, earliest_places, master_at, master_in, no_places, place_of}
use Rattle.instance_rules.proofs.Seeing.{place_of-earliest, place_of-none}

-- what is left of a list tells the element that is next, and what is left behind that
pub drop_front : {X : Type 0} (n : ℕ) (xs ys : List X) (x : X) → drop n xs ≡ x ∷ ys → (slice_get xs n ≡ Some x) × (drop (suc n) xs ≡ ys)
drop_front zero [] ys x e = absurd cc
drop_front (suc n) [] ys x e = absurd cc
drop_front zero (z ∷ zs) ys x e = (cc, cc)
drop_front (suc n) (z ∷ zs) ys x e = drop_front n zs ys x e

-- the reference of an item is that of its instances
reference_of-instance : (of : List ℕ → Master) (x : Item) → reference_of of x ≡ option_map (λ (i : Instance). reference_to of i.name) (instance_of x)
reference_of-instance of (item.Instances i) = refl
reference_of-instance of (item.Ports d) = refl
reference_of-instance of (item.Nets d) = refl
reference_of-instance of (item.Trireg d) = refl
reference_of-instance of (item.Assign a) = refl
reference_of-instance of (item.Gates g) = refl
reference_of-instance of (item.Cell c) = refl
reference_of-instance of (item.Specify s) = refl

-- the references that are left are those of the items that are left, and the places are those so far and those of these
pub record Walked (scope : Scope) (masters : Masters) (references : List Reference) (items : List Item) (next index : ℕ) (places : ItemPlaces) : Type 0 where
  pub rest : drop next references ≡ references_in masters.of (drop index items)
  pub seen : (rule : InstanceRule) → first_place (places_in rule scope masters items) ≡ earliest (place_of rule places) (first_place (places_in rule scope masters (drop index items)))

module _ (scope : Scope) (masters : Masters) (references : List Reference) (items : List Item) where
  pub Walked-start : (places : ItemPlaces) → places ≡ no_places → references ≡ references_in masters.of items → Walked scope masters references items 0 0 places
  Walked-start places none same = record {
    rest = same;
    seen = λ rule.
        sym (ap (λ (p : Option Location). earliest p (first_place (places_in rule scope masters items)))
        (ap (place_of rule) none ∙ place_of-none rule));
  }

  module _ (next index : ℕ) (places : ItemPlaces) (walked : Walked scope masters references items next index places) where
    pub Walked-end : length items ≤ index → AreFirst (λ rule. places_in rule scope masters items) places
    Walked-end le rule =
        walked.seen rule
        ∙ ap (λ (rest : List Item). earliest (place_of rule places) (first_place (places_in rule scope masters rest))) (drop_all index items le)
        ∙ earliest_none (place_of rule places)

    module _ (x : Item) (lt : index < length items) (at : get_or items index x ≡ x) where
      left : drop index items ≡ x ∷ drop (index + 1) items
      left = drop_more items index x lt ∙ ap (λ (y : Item). y ∷ drop (index + 1) items) at

      -- the references that are left are that of this item, where it has one, and those of the rest
      left_references : (o : Option Instance) → instance_of x ≡ o →
          drop next references ≡ cons_option (option_map (λ (i : Instance). reference_to masters.of i.name) o) (references_in masters.of (drop (index + 1) items))
      left_references o is =
          walked.rest
          ∙ ap (references_in masters.of) left
          ∙ ap (λ (r : Option Reference). cons_option r (references_in masters.of (drop (index + 1) items)))
          (reference_of-instance masters.of x ∙ ap (option_map (λ (i : Instance). reference_to masters.of i.name)) is)

      -- the places that are left are those of this item and those of the rest
      left_places : (rule : InstanceRule) (o : Option Instance) → instance_of x ≡ o →
          places_in rule scope masters (drop index items) ≡ flat_map (places_under rule scope masters) (cons_option o (instances_in (drop (index + 1) items)))
      left_places rule o is =
          ap (places_in rule scope masters) left
          ∙ ap (λ (p : Option Instance). flat_map (places_under rule scope masters) (cons_option p (instances_in (drop (index + 1) items)))) is

      abbrev others : InstanceRule → List Location
      others rule = places_in rule scope masters (drop (index + 1) items)

      pub Walked-other : instance_of x ≡ None → Walked scope masters references items next (index + 1) places
      Walked-other none = record {
        rest = left_references None none;
        seen = λ rule. walked.seen rule ∙ ap (λ (ls : List Location). earliest (place_of rule places) (first_place ls)) (left_places rule None none);
      }

      pub Walked-instance : (i : Instance) (more : ItemPlaces) → instance_of x ≡ Some i →
          AreFirst (λ rule. item_places rule scope (ports_of masters.tables masters.counts (master_at references next)) i) more →
          Walked scope masters references items (next + 1) (index + 1) (earliest_places places more)
      Walked-instance i more some first =
          let front : (slice_get references next ≡ Some (reference_to masters.of i.name)) × (drop (suc next) references ≡ references_in masters.of (drop (index + 1) items)) =
          drop_front next references (references_in masters.of (drop (index + 1) items)) (reference_to masters.of i.name) (left_references (Some i) some) in
          let master : masters.of i.name.text ≡ master_at references next = sym (ap master_in front.0) in
          let same = λ (rule : InstanceRule). ap (λ (m : Master). first_place (item_places rule scope (ports_of masters.tables masters.counts m) i)) master in
          record {
            rest = ap (λ (n : ℕ). drop n references) (add-one next) ∙ front.1;
            seen = λ rule.
                walked.seen rule
                ∙ ap (λ (ls : List Location). earliest (place_of rule places) (first_place ls)) (left_places rule (Some i) some)
                ∙ ap (λ (p : Option Location). earliest (place_of rule places) p) (first_place-append (places_under rule scope masters i) (others rule))
                ∙ sym (earliest_assoc (place_of rule places) (first_place (places_under rule scope masters i)) (first_place (others rule)))
                ∙ ap (λ (p : Option Location). earliest (earliest (place_of rule places) p) (first_place (others rule))) (same rule ∙ first rule)
                ∙ ap (λ (p : Option Location). earliest p (first_place (others rule))) (sym (place_of-earliest rule places more));
          }

-- an item that isn't one of instances
pub instance_of-none : (x : Item) → ((i : Instance) → x ≡ item.Instances i → ⊥) → instance_of x ≡ None
instance_of-none (item.Instances i) isnt = absurd (isnt i refl)
instance_of-none (item.Ports d) isnt = refl
instance_of-none (item.Nets d) isnt = refl
instance_of-none (item.Trireg d) isnt = refl
instance_of-none (item.Assign a) isnt = refl
instance_of-none (item.Gates g) isnt = refl
instance_of-none (item.Cell c) isnt = refl
instance_of-none (item.Specify s) isnt = refl

-- the same at other numbers
pub Walked-same : (scope : Scope) (masters : Masters) (references : List Reference) (items : List Item) (next next2 index : ℕ) (places places2 : ItemPlaces) →
    next2 ≡ next → places2 ≡ places → Walked scope masters references items next index places → Walked scope masters references items next2 index places2
Walked-same scope masters references items next next2 index places places2 same_next same_places walked =
    subst (λ (n : ℕ). Walked scope masters references items n index places2) (sym same_next)
    (subst (λ (p : ItemPlaces). Walked scope masters references items next index p) (sym same_places) walked)
