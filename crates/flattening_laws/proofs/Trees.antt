-- The three trees of names in a hierarchy: those of nets, of elements, and of what is found by a name.
use Rattle.std.proofs.Common.{◌≡◌, ℕ, ◌+◌, ◌<◌, Bool, true, false, List, [], ◌∷◌, ◌++◌, map, Option, Some, None, refl, sym, ap, ◌∙◌, arith}
use Rattle.std.specs.Prelude.{slice_index_or, if◌then◌else◌}
use Rattle.std.specs.List.{AllByRecursion, flat_map}
use Rattle.std.proofs.lemmas.List.{append-nil}
use Rattle.v_tree.specs.declared.expressions.RangeBounds.{RangeBounds}
use Rattle.item_parts.specs.Widths.{range_width}
use Rattle.flat_net.specs.declared.parts.Find.{Find}
use Rattle.flat_names.specs.Spelling.{Own, Unnamed as UnnamedOwn, FlatName, spelling, IsOwn, IsFlatName}
use Rattle.netlist_plan.specs.declared.plan.ElementName.{ElementName}
use Rattle.netlist_plan.specs.declared.plan.ElementName.TheVariants.{Gate, Half, Bit}
use Rattle.netlist_plan.specs.declared.plan.PlanNet.{PlanNet}
use Rattle.netlist_plan.specs.declared.plan.ModulePlan.{ModulePlan}
use Rattle.netlist_plan.specs.Flattening.{Hierarchy, Place, bit_find, bit_finds, bit_index, element_name, flat_name, net_finds, net_places, new_name, new_names, own_name}
use Rattle.flattening_laws.specs.SoundPlans.{IsPlanNet, IsElementName}
use Rattle.flattening_laws.proofs.Apart.{AreApart, All_from_each, Differ, apart_append, each_append, each_flat_map, each_map, each_of_map, each_weaker}
use Rattle.flattening_laws.proofs.NameTrees.{spelled}
use Rattle.flattening_laws.proofs.TreeNames.{IsListOf, map_append}
use Rattle.flattening_laws.proofs.StepNames.{element_names, element_record, no_names, own_same}
use Rattle.flattening_laws.proofs.BitNames.{apart_some, each_range, each_some, index_apart, index_small, range_apart}

-- a thing's name in the instance at a path
own_spelled : (path : List Own) (own : Own) (index : Option ℕ) → flat_name path own index ≡ spelled path (record { path = []; own = own; index = index })
own_spelled path own index = ap (λ (p : List Own). spelling (record { path = p; own = own; index = index })) (sym (append-nil path))

module _ {X A B C : Type 0} where
  -- what two lists of lists become by two functions, where it is so of each
  flat_same : (m : A → C) (n : B → C) (f : X → List A) (g : X → List B) → ((x : X) → map m (f x) ≡ map n (g x)) → (xs : List X) → map m (flat_map f xs) ≡ map n (flat_map g xs)
  flat_same m n f g same [] = refl
  flat_same m n f g same (x ∷ xs) =
      map_append m (f x) (flat_map f xs)
      ∙ ap (λ (cs : List C). cs ++ map m (flat_map f xs)) (same x)
      ∙ ap (λ (cs : List C). map n (g x) ++ cs) (flat_same m n f g same xs)
      ∙ sym (map_append n (g x) (flat_map g xs))

map_id : {X : Type 0} (xs : List X) → map (λ x. x) xs ≡ xs
map_id [] = refl
map_id (x ∷ xs) = ap (λ ys. x ∷ ys) (map_id xs)

-- ---- names of bits, net by net

module _ (bits : PlanNet → List FlatName) where
  abbrev AreOwn : Type 0
  AreOwn = (net : PlanNet) → AllByRecursion (λ x. x.own ≡ own_name net.name) (bits net)

  others_own : AreOwn → (net : PlanNet) (nets : List PlanNet) → AllByRecursion (λ other. Differ net.name other.name) nets
      → AllByRecursion (λ y. Differ (own_name net.name) y.own) (flat_map bits nets)
  others_own own net nets d =
      each_flat_map (λ y. Differ (own_name net.name) y.own) bits nets
      (each_weaker (λ other. Differ net.name other.name) (λ other. AllByRecursion (λ y. Differ (own_name net.name) y.own) (bits other)) nets
      (λ other differ. each_weaker (λ y. y.own ≡ own_name other.name) (λ y. Differ (own_name net.name) y.own) (bits other)
      (λ y is e. differ (own_same net.name other.name (e ∙ is))) (own other)) d)

  nets_apart : AreOwn → ((net : PlanNet) → AreApart (bits net)) → (nets : List PlanNet) → AreApart (map (λ net. net.name) nets) → AreApart (flat_map bits nets)
  nets_apart own each [] h = tt
  nets_apart own each (net ∷ nets) h =
      let rest = others_own own net nets (each_of_map (Differ net.name) (λ other. other.name) nets h.0) in
      apart_append (bits net) (flat_map bits nets) (each net) (nets_apart own each nets h.1)
      (each_weaker (λ x. x.own ≡ own_name net.name) (λ x. AllByRecursion (Differ x) (flat_map bits nets)) (bits net)
      (λ x is. each_weaker (λ y. Differ (own_name net.name) y.own) (Differ x) (flat_map bits nets)
      (λ y d same. d (sym is ∙ ap (λ (f : FlatName). f.own) same)) rest) (own net))

-- ---- nets

abbrev net_record : PlanNet → ℕ → FlatName
net_record net place = record { path = []; own = own_name net.name; index = bit_index net.range place }

abbrev is_bound_at : List Bool → PlanNet → ℕ → Bool
is_bound_at bound net place = slice_index_or bound (net.first + place) true

abbrev new_bit : List Bool → PlanNet → ℕ → List FlatName
new_bit bound net place = if is_bound_at bound net place then [] else net_record net place ∷ []

abbrev new_bits : List Bool → PlanNet → List FlatName
new_bits bound net = flat_map (new_bit bound net) (net_places net)

abbrev pub net_records : List Bool → ModulePlan → List FlatName
net_records bound plan = flat_map (new_bits bound) plan.nets

each_bit : (P : FlatName → Type 0) (bound : List Bool) (net : PlanNet) → ((place : ℕ) → place < range_width net.range → P (net_record net place)) → AllByRecursion P (new_bits bound net)
each_bit P bound net f =
    each_some P (is_bound_at bound net) (net_record net) (net_places net)
    (each_range (λ place. P (net_record net place)) 0 (range_width net.range) (λ k least less. f k (omega arith)))

records_apart : (net : PlanNet) → AreApart (map (net_record net) (net_places net))
records_apart net =
    range_apart (net_record net) 0 (range_width net.range)
    (λ j k least less most e. index_apart net.range j k less (omega arith) (ap (λ (f : FlatName). f.index) e))

pub net_records_apart : (bound : List Bool) (plan : ModulePlan) → AreApart (map (λ net. net.name) plan.nets) → AreApart (net_records bound plan)
net_records_apart bound plan h =
    nets_apart (new_bits bound) (λ net. each_bit (λ x. x.own ≡ own_name net.name) bound net (λ place less. refl))
    (λ net. apart_some (is_bound_at bound net) (net_record net) (net_places net) (records_apart net)) plan.nets h

pub net_records_own : (bound : List Bool) (plan : ModulePlan) → AllByRecursion (λ x. x.path ≡ []) (net_records bound plan)
net_records_own bound plan = each_net plan.nets
  where
    each_net : (nets : List PlanNet) → AllByRecursion (λ x. x.path ≡ []) (flat_map (new_bits bound) nets)
    each_net [] = tt
    each_net (net ∷ nets) = each_append (λ x. x.path ≡ []) (new_bits bound net) (flat_map (new_bits bound) nets) (each_bit (λ x. x.path ≡ []) bound net (λ place less. refl)) (each_net nets)

record_named : (net : PlanNet) (place : ℕ) → IsPlanNet net → place < range_width net.range → IsFlatName (net_record net place)
record_named net place is less = record {
  path = All_from_each IsOwn [] tt;
  own = is.name;
  index = index_small net.range place is.range less;
}

pub net_records_named : (bound : List Bool) (plan : ModulePlan) → AllByRecursion IsPlanNet plan.nets → AllByRecursion IsFlatName (net_records bound plan)
net_records_named bound plan is =
    each_flat_map IsFlatName (new_bits bound) plan.nets
    (each_weaker IsPlanNet (λ net. AllByRecursion IsFlatName (new_bits bound net)) plan.nets
    (λ net of. each_bit IsFlatName bound net (λ place less. record_named net place of less)) is)

new_name_spelled : (at : Place) (net : PlanNet) (place : ℕ) → map (λ x. x) (new_name at net place) ≡ map (spelled at.path) (new_bit at.bound net place)
new_name_spelled at net place = by_bound (is_bound_at at.bound net place)
  where
    name : List ℕ
    name = flat_name at.path (own_name net.name) (bit_index net.range place)

    by_bound : (b : Bool) → map (λ x. x) (if b then [] else name ∷ []) ≡ map (spelled at.path) (if b then [] else net_record net place ∷ [])
    by_bound true = refl
    by_bound false = ap (λ (x : List ℕ). x ∷ []) (own_spelled at.path (own_name net.name) (bit_index net.range place))

pub net_list : (h : Hierarchy) → IsListOf net_records no_names h (λ a. a.net_names)
net_list h = record {
  none = refl;
  both = λ a b. refl;
  nets = λ at plan.
      sym (map_id (flat_map (new_names at) plan.nets))
      ∙ flat_same (λ x. x) (spelled at.path) (new_names at) (new_bits at.bound)
      (λ net. flat_same (λ x. x) (spelled at.path) (new_name at net) (new_bit at.bound net) (new_name_spelled at net) (net_places net)) plan.nets;
  element = λ at e. refl;
}

-- ---- elements

abbrev pub no_records : List Bool → ModulePlan → List FlatName
no_records bound plan = []

element_spelled : (path : List Own) (name : ElementName) → element_name path name ≡ spelled path (element_record name)
element_spelled path (Gate own) = own_spelled path (own_name own) None
element_spelled path (Half own on_one) = refl
element_spelled path (Bit number index) = own_spelled path (UnnamedOwn number) (Some index)

pub element_list : (h : Hierarchy) → IsListOf no_records element_names h (λ a. a.element_names)
element_list h = record {
  none = refl;
  both = λ a b. refl;
  nets = λ at plan. refl;
  element = λ at e. ap (λ (x : List ℕ). x ∷ []) (element_spelled at.path e.name);
}

pub element_named : (name : ElementName) → IsElementName name → IsFlatName (element_record name)
element_named (Gate own) is = record { path = All_from_each IsOwn [] tt; own = is; index = tt }
element_named (Half own Bool.true) is = record { path = All_from_each IsOwn (own_name own ∷ []) (is, tt); own = (omega arith, refl); index = tt }
element_named (Half own Bool.false) is = record { path = All_from_each IsOwn (own_name own ∷ []) (is, tt); own = (omega arith, refl); index = tt }
element_named (Bit number index) is = record { path = All_from_each IsOwn [] tt; own = is.0; index = is.1 }

-- ---- what is found by a name

abbrev whole_record : PlanNet → FlatName
whole_record net = record { path = []; own = own_name net.name; index = None }

abbrev vector_records : PlanNet → Option RangeBounds → List FlatName
vector_records net None = []
vector_records net (Some range) = map (net_record net) (net_places net)

abbrev found_records : PlanNet → List FlatName
found_records net = whole_record net ∷ vector_records net net.range

abbrev pub find_records : List Bool → ModulePlan → List FlatName
find_records bound plan = flat_map found_records plan.nets

each_found : (P : FlatName → Type 0) (net : PlanNet) → P (whole_record net) → ((place : ℕ) → place < range_width net.range → P (net_record net place)) → AllByRecursion P (found_records net)
each_found P net whole f = (whole, by_range net.range)
  where
    by_range : (range : Option RangeBounds) → AllByRecursion P (vector_records net range)
    by_range None = tt
    by_range (Some range) = each_map P (net_record net) (net_places net) (each_range (λ place. P (net_record net place)) 0 (range_width net.range) (λ k least less. f k (omega arith)))

found_apart : (net : PlanNet) → AreApart (found_records net)
found_apart net = (by_range net.range refl, apart net.range)
  where
    indexed : (range : Option RangeBounds) (bounds : RangeBounds) (place : ℕ) → range ≡ Some bounds → None ≡ bit_index range place → ⊥
    indexed None bounds place e n = absurd (let no : None ≡ Some bounds = e in cc)
    indexed (Some range) bounds place e n = cc

    by_range : (range : Option RangeBounds) → net.range ≡ range → AllByRecursion (Differ (whole_record net)) (vector_records net range)
    by_range None same = tt
    by_range (Some range) same =
        each_map (Differ (whole_record net)) (net_record net) (net_places net)
        (each_range (λ place. Differ (whole_record net) (net_record net place)) 0 (range_width net.range)
        (λ k least less e. indexed net.range range k same (ap (λ (f : FlatName). f.index) e)))

    apart : (range : Option RangeBounds) → AreApart (vector_records net range)
    apart None = tt
    apart (Some range) = records_apart net

pub find_records_apart : (bound : List Bool) (plan : ModulePlan) → AreApart (map (λ net. net.name) plan.nets) → AreApart (find_records bound plan)
find_records_apart bound plan h =
    nets_apart found_records (λ net. each_found (λ x. x.own ≡ own_name net.name) net refl (λ place less. refl)) found_apart plan.nets h

pub find_records_own : (bound : List Bool) (plan : ModulePlan) → AllByRecursion (λ x. x.path ≡ []) (find_records bound plan)
find_records_own bound plan = each_net plan.nets
  where
    each_net : (nets : List PlanNet) → AllByRecursion (λ x. x.path ≡ []) (flat_map found_records nets)
    each_net [] = tt
    each_net (net ∷ nets) = each_append (λ x. x.path ≡ []) (found_records net) (flat_map found_records nets) (each_found (λ x. x.path ≡ []) net refl (λ place less. refl)) (each_net nets)

pub find_records_named : (bound : List Bool) (plan : ModulePlan) → AllByRecursion IsPlanNet plan.nets → AllByRecursion IsFlatName (find_records bound plan)
find_records_named bound plan is =
    each_flat_map IsFlatName found_records plan.nets
    (each_weaker IsPlanNet (λ net. AllByRecursion IsFlatName (found_records net)) plan.nets
    (λ net of. each_found IsFlatName net (record { path = All_from_each IsOwn [] tt; own = of.name; index = tt }) (λ place less. record_named net place of less)) is)

abbrev find_name : Find → List ℕ
find_name found = found.name

finds_spelled : (at : Place) (net : PlanNet) → map find_name (net_finds at net) ≡ map (spelled at.path) (found_records net)
finds_spelled at net =
    ap (λ (x : List ℕ). x ∷ map find_name (bit_finds at net net.range)) (own_spelled at.path (own_name net.name) None)
    ∙ ap (λ (xs : List (List ℕ)). spelled at.path (whole_record net) ∷ xs) (by_range net.range)
  where
    each : (places : List ℕ) → map find_name (map (bit_find at net) places) ≡ map (spelled at.path) (map (net_record net) places)
    each [] = refl
    each (place ∷ places) =
        ap (λ (x : List ℕ). x ∷ map find_name (map (bit_find at net) places)) (own_spelled at.path (own_name net.name) (bit_index net.range place))
        ∙ ap (λ (xs : List (List ℕ)). spelled at.path (net_record net place) ∷ xs) (each places)

    by_range : (range : Option RangeBounds) → map find_name (bit_finds at net range) ≡ map (spelled at.path) (vector_records net range)
    by_range None = refl
    by_range (Some range) = each (net_places net)

pub find_list : (h : Hierarchy) → IsListOf find_records no_names h (λ a. map find_name a.finds)
find_list h = record {
  none = refl;
  both = λ a b. map_append find_name a.finds b.finds;
  nets = λ at plan. flat_same find_name (spelled at.path) (net_finds at) found_records (finds_spelled at) plan.nets;
  element = λ at e. refl;
}
