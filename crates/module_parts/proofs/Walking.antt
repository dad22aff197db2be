-- Walks over lists beside their indices, and over items beside the references of their module.
use Rattle.std.proofs.Common.{◌≡◌, ℕ, suc, ◌+◌, ◌<◌, ◌≤◌, List, [], ◌∷◌, ◌++◌, map, length, get_or, drop, refl, sym, ap, ◌∙◌, append_assoc, add-one}
use Rattle.std.specs.List.{enumerate_from, flat_map}
use Rattle.std.proofs.lemmas.List.{append-nil, drop_all, drop_more, map-append}
use Rattle.v_tree.specs.declared.gates.Instance.{Instance}
use Rattle.v_tree.specs.declared.modules.Item.{Item}
use Rattle.v_tree.specs.declared.modules.Item.TheVariants as item
use Rattle.module_scope.specs.declared.scopes.Scope.{Scope}
use Rattle.module_graph.specs.declared.references.Master.{Master}
use Rattle.module_graph.specs.declared.references.Reference.{Reference}
use Rattle.module_graph.specs.Graph.{reference_to, references_in}
use Rattle.module_ports.specs.Ports.{Port}
use Rattle.instance_rules.specs.Walks.{master_at, master_in}
use Rattle.instance_rules.proofs.Walking.{drop_front}
use Rattle.module_parts.specs.declared.parts.ModulePart.{ModulePart}
use Rattle.module_parts.specs.Parts.{instance_parts, parts_of_item}

-- lists one in another, of which each element becomes another
pub map-flat_map : {X A B : Type 0} (g : A → B) (f : X → List A) (xs : List X) → map g (flat_map f xs) ≡ flat_map (λ x. map g (f x)) xs
map-flat_map g f [] = refl
map-flat_map {B = B} g f (x ∷ xs) =
    map-append g (f x) (flat_map f xs) ∙ ap (λ (rest : List B). map g (f x) ++ rest) (map-flat_map g f xs)

-- a list whose elements become others twice
pub map-map : {X A B : Type 0} (g : A → B) (f : X → A) (xs : List X) → map g (map f xs) ≡ map (λ x. g (f x)) xs
map-map g f [] = refl
map-map {B = B} g f (x ∷ xs) = ap (λ (rest : List B). g (f x) ∷ rest) (map-map g f xs)

-- what is left at an index is the element there and what is left behind it
pub left_at : {X : Type 0} (xs : List X) (i : ℕ) (x : X) → i < length xs → get_or xs i x ≡ x → drop i xs ≡ x ∷ drop (i + 1) xs
left_at {X} xs i x lt at = drop_more xs i x lt ∙ ap (λ (y : X). y ∷ drop (i + 1) xs) at

-- where what is made so far and what the rest gives are the whole, so are they an element later, and at the end all is made
module _ {X A : Type 0} (f : ℕ × X → List A) (xs : List X) (i : ℕ) (so_far whole : List A) (seen : so_far ++ flat_map f (enumerate_from i (drop i xs)) ≡ whole) where
  pub seen_more : (x : X) → i < length xs → get_or xs i x ≡ x → (so_far ++ f (i, x)) ++ flat_map f (enumerate_from (i + 1) (drop (i + 1) xs)) ≡ whole
  seen_more x lt at =
      append_assoc so_far (f (i, x)) (flat_map f (enumerate_from (i + 1) (drop (i + 1) xs)))
      ∙ sym (ap (λ (ys : List X). so_far ++ flat_map f (enumerate_from i ys)) (left_at xs i x lt at))
      ∙ seen

  pub seen_all : length xs ≤ i → so_far ≡ whole
  seen_all le =
      sym (append-nil so_far)
      ∙ sym (ap (λ (ys : List X). so_far ++ flat_map f (enumerate_from i ys)) (drop_all i xs le))
      ∙ seen

-- an item's parts, and the references behind it, where the references that are left begin with its own
module _ (scope : Scope) (tables : List (List Port)) (of : List ℕ → Master) (references : List Reference) (next : ℕ) (rest : List Item) where
  master_here : (i : Instance) → drop next references ≡ references_in of (item.Instances i ∷ rest) → master_at references next ≡ of i.name.text
  master_here i left = ap master_in (drop_front next references (references_in of rest) (reference_to of i.name) left).0

  pub parts_here : (index : ℕ) (x : Item) → drop next references ≡ references_in of (x ∷ rest) →
      parts_of_item scope tables (λ name. master_at references next) (index, x) ≡ parts_of_item scope tables of (index, x)
  parts_here index (item.Instances i) left = ap (λ (m : Master). instance_parts index tables m i) (master_here i left)
  parts_here index (item.Ports d) left = refl
  parts_here index (item.Nets d) left = refl
  parts_here index (item.Trireg d) left = refl
  parts_here index (item.Assign a) left = refl
  parts_here index (item.Gates g) left = refl
  parts_here index (item.Cell c) left = refl
  parts_here index (item.Specify s) left = refl

  pub rest_instance : (i : Instance) → drop next references ≡ references_in of (item.Instances i ∷ rest) → drop (next + 1) references ≡ references_in of rest
  rest_instance i left =
      ap (λ (n : ℕ). drop n references) (add-one next)
      ∙ (drop_front next references (references_in of rest) (reference_to of i.name) left).1

  pub rest_other : (x : Item) → ((i : Instance) → x ≡ item.Instances i → ⊥) → drop next references ≡ references_in of (x ∷ rest) →
      drop next references ≡ references_in of rest
  rest_other (item.Instances i) isnt left = absurd (isnt i refl)
  rest_other (item.Ports d) isnt left = left
  rest_other (item.Nets d) isnt left = left
  rest_other (item.Trireg d) isnt left = left
  rest_other (item.Assign a) isnt left = left
  rest_other (item.Gates g) isnt left = left
  rest_other (item.Cell c) isnt left = left
  rest_other (item.Specify s) isnt left = left

-- the references that are left are those of the items that are left, and the parts so far and those of these are the whole
pub record Walked (scope : Scope) (tables : List (List Port)) (of : List ℕ → Master) (references : List Reference) (items : List Item) (next index : ℕ) (parts whole : List ModulePart) : Type 0 where
  pub rest : drop next references ≡ references_in of (drop index items)
  pub seen : parts ++ flat_map (parts_of_item scope tables of) (enumerate_from index (drop index items)) ≡ whole

module _ (scope : Scope) (tables : List (List Port)) (of : List ℕ → Master) (references : List Reference) (items : List Item) (next index : ℕ) (parts whole : List ModulePart)
    (walked : Walked scope tables of references items next index parts whole) where
  pub Walked-end : length items ≤ index → parts ≡ whole
  Walked-end le = seen_all (parts_of_item scope tables of) items index parts whole walked.seen le

  module _ (x : Item) (lt : index < length items) (at : get_or items index x ≡ x) (more : List ModulePart)
      (more_is : more ≡ parts ++ parts_of_item scope tables (λ name. master_at references next) (index, x)) where
    left : drop next references ≡ references_in of (x ∷ drop (index + 1) items)
    left = walked.rest ∙ ap (references_in of) (left_at items index x lt at)

    more_seen : more ++ flat_map (parts_of_item scope tables of) (enumerate_from (index + 1) (drop (index + 1) items)) ≡ whole
    more_seen =
        ap (λ (ps : List ModulePart). ps ++ flat_map (parts_of_item scope tables of) (enumerate_from (index + 1) (drop (index + 1) items)))
        (more_is ∙ ap (λ (ps : List ModulePart). parts ++ ps) (parts_here scope tables of references next (drop (index + 1) items) index x left))
        ∙ seen_more (parts_of_item scope tables of) items index parts whole walked.seen x lt at

    pub Walked-instance : (i : Instance) → x ≡ item.Instances i → Walked scope tables of references items (next + 1) (index + 1) more whole
    Walked-instance i is = record {
      rest = rest_instance scope tables of references next (drop (index + 1) items) i
          (left ∙ ap (λ (y : Item). references_in of (y ∷ drop (index + 1) items)) is);
      seen = more_seen;
    }

    pub Walked-other : ((i : Instance) → x ≡ item.Instances i → ⊥) → Walked scope tables of references items next (index + 1) more whole
    Walked-other isnt = record {
      rest = rest_other scope tables of references next (drop (index + 1) items) x isnt left;
      seen = more_seen;
    }
