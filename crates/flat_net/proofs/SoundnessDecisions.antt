-- The tests of parts decide whether they are sound.
use Rattle.std.proofs.Common.{◌≡◌, ◌<◌, ◌≤◌, ℕ, Bool, true, false, not, ◌&&◌, ◌||◌, ◌==◌, leb, ltb, List, [], length, map, Some, None, refl, sym, ap, subst, ◌∙◌}
use Rattle.std.specs.Prelude.{Option, IsSome, Result, Ok, Err, IfOk}
use Rattle.std.specs.Bool.{Decides}
use Rattle.std.specs.Option.{is_some}
use Rattle.std.specs.List.{All, Contains, list_all, list_any}
use Rattle.std.proofs.lemmas.List.{map-id, length-map}
use Rattle.std.proofs.lemmas.List.Folds.{list_all-map}
use Rattle.std.proofs.lemmas.Bool.Decides.{Decides-and, Decides-like, Decides-at, Decides-eqb, Decides-ltb}
use Rattle.name_table.specs.Names.{is_distinct}
use Rattle.flat_net.specs.declared.parts.Element.{Element}
use Rattle.flat_net.specs.declared.parts.Find.{Find}
use Rattle.flat_net.specs.declared.parts.Parts.{Parts}
use Rattle.flat_net.specs.Lists.{EachAt, AreDistinct}
use Rattle.flat_net.specs.Elements.{IsElement}
use Rattle.flat_net.specs.Islands.{IsIsland, drive_pins, link_elements}
use Rattle.flat_net.specs.Soundness.{IsNet, IsAscii, AreNames, AreDistinctNets, IsFind, AreCells, AreJoined, AreDriven, AreLinked, AreNamed, IsSound, greatest_count}
use Rattle.flat_net.specs.Tests.{all_at, same_pin, are_below, are_new, have_drives, have_links, is_element, is_net, is_island, is_ascii, is_find, are_cells, are_driven, are_linked, are_distinct_nets, are_names, are_named, are_complete}
use Rattle.flat_net.proofs.Decisions.{Decides-list_all, Decides-list_any, Decides-all_at}
use Rattle.flat_net.proofs.Distinct.{Decides-are_new}
use Rattle.flat_net.proofs.ElementDecisions.{Decides-leb, Decides-are_below, Decides-is_element}
use Rattle.flat_net.proofs.IslandDecisions.{Decides-is_net, Decides-is_island}
use Rattle.flat_net.proofs.NameLemmas.{Decides-is_distinct}

pair_of : (a b c d : ℕ) → a ≡ c → b ≡ d → (let p : ℕ × ℕ = (a, b) in p) ≡ (c, d)
pair_of a b c d e f = cc

Decides-same_pin : (a b : ℕ × ℕ) → Decides (same_pin a b) (a ≡ b)
Decides-same_pin a b =
    Decides-like (same_pin a b) (λ (h : (a.0 ≡ b.0) × (a.1 ≡ b.1)). pair_of a.0 a.1 b.0 b.1 h.0 h.1) (λ (e : a ≡ b). (ap (λ (p : ℕ × ℕ). p.0) e, ap (λ (p : ℕ × ℕ). p.1) e))
    (Decides-and (a.0 == b.0) (a.1 == b.1) (Decides-eqb a.0 b.0) (Decides-eqb a.1 b.1))

Decides-if_ends : {X : Type 0} (o : Option X) (test : Bool) (P : Type 0) → Decides test P → Decides (not (is_some o) || test) (IsSome o → P)
Decides-if_ends None test P d = (λ _ h. absurd (let f : false ≡ true = h in cc), λ _. refl)
Decides-if_ends (Some x) test P d = (λ e _. d.0 e, λ f. d.1 (f refl))

Decides-is_find : (count : ℕ) (found : Find) → Decides (is_find count found) (IsFind count found)
Decides-is_find count found =
    Decides-like (is_find count found) (λ (h : (0 < length found.nets) × All (λ net. net < count) found.nets). record { filled = h.0; within = h.1 })
    (λ (r : IsFind count found). (r.filled, r.within))
    (Decides-and (ltb 0 (length found.nets)) (are_below count found.nets) (Decides-ltb 0 (length found.nets)) (Decides-are_below count found.nets))

Decides-are_distinct_nets : (count : ℕ) (nets : List ℕ) → Decides (are_distinct_nets count nets) (AreDistinctNets count nets)
Decides-are_distinct_nets count nets =
    Decides-like (are_distinct_nets count nets) (λ (h : All (λ net. net < count) nets × AreDistinct nets). record { within = h.0; distinct = h.1 })
    (λ (r : AreDistinctNets count nets). (r.within, r.distinct))
    (Decides-and (are_below count nets) (are_new (λ a b. a == b) [] nets) (Decides-are_below count nets) (Decides-are_new (λ a b. a == b) Decides-eqb nets))

Decides-ascii : (names : List (List ℕ)) → Decides (list_all is_ascii names) (All IsAscii names)
Decides-ascii names = Decides-list_all is_ascii IsAscii (λ name. Decides-list_all (λ byte. ltb byte 128) (λ byte. byte < 128) (λ byte. Decides-ltb byte 128) name) names

-- names that are read off things
module _ {X : Type 0} (name : X → List ℕ) (count : ℕ) (xs : List X) where
  abbrev Named : Type 0
  Named = ((length xs ≡ count) × All IsAscii (map name xs)) × AreDistinct (map name xs)

  Decides-are_names : Decides (are_names name count xs) (AreNames count (map name xs))
  Decides-are_names =
      Decides-like (are_names name count xs)
      (λ (h : Named). record { all = length-map xs name ∙ h.0.0; ascii = h.0.1; distinct = h.1 })
      (λ (r : AreNames count (map name xs)). ((sym (length-map xs name) ∙ r.all, r.ascii), r.distinct))
      (Decides-and ((length xs == count) && list_all (λ x. is_ascii (name x)) xs) (is_distinct (map name xs))
      (Decides-and (length xs == count) (list_all (λ x. is_ascii (name x)) xs) (Decides-eqb (length xs) count)
      (Decides-at (list_all (λ x. is_ascii (name x)) xs) (list_all is_ascii (map name xs)) (sym (list_all-map is_ascii name xs)) (Decides-ascii (map name xs))))
      (Decides-is_distinct (map name xs)))

Decides-own_names : (count : ℕ) (names : List (List ℕ)) → Decides (are_names (λ name. name) count names) (AreNames count names)
Decides-own_names count names =
    subst (λ (ns : List (List ℕ)). Decides (are_names (λ (name : List ℕ). name) count names) (AreNames count ns)) (map-id names) (Decides-are_names (λ (name : List ℕ). name) count names)

module _ (parts : Parts) where
  abbrev CellsTested : Type 0
  CellsTested =
      ((((length parts.nets ≤ greatest_count) × (length parts.elements ≤ greatest_count)) × All (IsElement (length parts.nets) parts.udps) parts.elements)
      × EachAt (IsNet parts.islands) parts.nets) × EachAt (IsIsland parts.nets parts.elements) parts.islands

  abbrev few : Bool
  few = leb (length parts.nets) greatest_count && leb (length parts.elements) greatest_count

  abbrev elements_fit : Bool
  elements_fit = list_all (is_element (length parts.nets) parts.udps) parts.elements

  abbrev nets_fit : Bool
  nets_fit = all_at (is_net parts.islands) parts.nets

  abbrev islands_fit : Bool
  islands_fit = all_at (is_island parts.nets parts.elements) parts.islands

  pub Decides-are_cells : Decides (are_cells parts) (AreCells parts)
  Decides-are_cells =
      Decides-like (are_cells parts)
      (λ (h : CellsTested). record { few_nets = h.0.0.0.0; few_elements = h.0.0.0.1; elements = h.0.0.1; nets = h.0.1; islands = h.1 })
      (λ (r : AreCells parts). ((((r.few_nets, r.few_elements), r.elements), r.nets), r.islands))
      (Decides-and (few && elements_fit && nets_fit) islands_fit
      (Decides-and (few && elements_fit) nets_fit
      (Decides-and few elements_fit
      (Decides-and (leb (length parts.nets) greatest_count) (leb (length parts.elements) greatest_count)
      (Decides-leb (length parts.nets) greatest_count) (Decides-leb (length parts.elements) greatest_count))
      (Decides-list_all (is_element (length parts.nets) parts.udps) (IsElement (length parts.nets) parts.udps) (Decides-is_element (length parts.nets) parts.udps) parts.elements))
      (Decides-all_at (is_net parts.islands) (IsNet parts.islands) (Decides-is_net parts.islands) parts.nets))
      (Decides-all_at (is_island parts.nets parts.elements) (IsIsland parts.nets parts.elements) (Decides-is_island parts.nets parts.elements) parts.islands))

  abbrev pins : List (ℕ × ℕ)
  pins = drive_pins parts.islands

  abbrev links : List ℕ
  links = link_elements parts.islands

  Decides-are_driven : Decides (are_driven parts) (AreDriven parts)
  Decides-are_driven =
      Decides-like (are_driven parts)
      (λ (h : AreDistinct pins × EachAt (λ element (e : Element). EachAt (λ pin (net : ℕ). Contains pins (element, pin)) e.outs) parts.elements). record { once = h.0; each = h.1 })
      (λ (r : AreDriven parts). (r.once, r.each))
      (Decides-and (are_new same_pin [] pins) (have_drives pins parts.elements)
      (Decides-are_new same_pin Decides-same_pin pins)
      (Decides-all_at (λ element (e : Element). all_at (λ pin (net : ℕ). list_any (same_pin (element, pin)) pins) e.outs)
      (λ element (e : Element). EachAt (λ pin (net : ℕ). Contains pins (element, pin)) e.outs)
      (λ element e. Decides-all_at (λ pin (net : ℕ). list_any (same_pin (element, pin)) pins) (λ pin (net : ℕ). Contains pins (element, pin))
      (λ pin net. Decides-list_any same_pin Decides-same_pin (element, pin) pins) e.outs)
      parts.elements))

  Decides-are_linked : Decides (are_linked parts) (AreLinked parts)
  Decides-are_linked =
      Decides-like (are_linked parts)
      (λ (h : AreDistinct links × EachAt (λ element (e : Element). IsSome e.ends → Contains links element) parts.elements). record { once = h.0; each = h.1 })
      (λ (r : AreLinked parts). (r.once, r.each))
      (Decides-and (are_new (λ a b. a == b) [] links) (have_links links parts.elements)
      (Decides-are_new (λ a b. a == b) Decides-eqb links)
      (Decides-all_at (λ element (e : Element). not (is_some e.ends) || list_any (λ link. element == link) links)
      (λ element (e : Element). IsSome e.ends → Contains links element)
      (λ element e. Decides-if_ends e.ends (list_any (λ link. element == link) links) (Contains links element) (Decides-list_any (λ a b. a == b) Decides-eqb element links))
      parts.elements))

  finds_fit : Decides (list_all (is_find (length parts.nets)) parts.finds) (All (IsFind (length parts.nets)) parts.finds)
  finds_fit = Decides-list_all (is_find (length parts.nets)) (IsFind (length parts.nets)) (Decides-is_find (length parts.nets)) parts.finds

  abbrev NamesTested : Type 0
  NamesTested =
      ((AreNames (length parts.nets) parts.net_names × AreNames (length parts.elements) parts.element_names) × All (IsFind (length parts.nets)) parts.finds)
      × AreNames (length parts.finds) (map (λ (found : Find). found.name) parts.finds)

  abbrev net_names_fit : Bool
  net_names_fit = are_names (λ name. name) (length parts.nets) parts.net_names

  abbrev element_names_fit : Bool
  element_names_fit = are_names (λ name. name) (length parts.elements) parts.element_names

  abbrev find_names_fit : Bool
  find_names_fit = are_names (λ (found : Find). found.name) (length parts.finds) parts.finds

  Decides-are_named : Decides (are_named parts) (AreNamed parts)
  Decides-are_named =
      Decides-like (are_named parts)
      (λ (h : NamesTested). record { nets = h.0.0.0; elements = h.0.0.1; finds = h.0.1; find_names = h.1 })
      (λ (r : AreNamed parts). (((r.nets, r.elements), r.finds), r.find_names))
      (Decides-and (net_names_fit && element_names_fit && list_all (is_find (length parts.nets)) parts.finds) find_names_fit
      (Decides-and (net_names_fit && element_names_fit) (list_all (is_find (length parts.nets)) parts.finds)
      (Decides-and net_names_fit element_names_fit (Decides-own_names (length parts.nets) parts.net_names) (Decides-own_names (length parts.elements) parts.element_names))
      finds_fit)
      (Decides-are_names (λ (found : Find). found.name) (length parts.finds) parts.finds))

  abbrev Completed : Type 0
  Completed =
      (((AreDriven parts × AreLinked parts) × AreDistinctNets (length parts.nets) parts.inputs) × AreDistinctNets (length parts.nets) parts.outputs) × AreNamed parts

  abbrev inputs_fit : Bool
  inputs_fit = are_distinct_nets (length parts.nets) parts.inputs

  abbrev outputs_fit : Bool
  outputs_fit = are_distinct_nets (length parts.nets) parts.outputs

  Decides-are_complete : Decides (are_complete parts) Completed
  Decides-are_complete =
      Decides-and (are_driven parts && are_linked parts && inputs_fit && outputs_fit) (are_named parts)
      (Decides-and (are_driven parts && are_linked parts && inputs_fit) outputs_fit
      (Decides-and (are_driven parts && are_linked parts) inputs_fit
      (Decides-and (are_driven parts) (are_linked parts) Decides-are_driven Decides-are_linked)
      (Decides-are_distinct_nets (length parts.nets) parts.inputs))
      (Decides-are_distinct_nets (length parts.nets) parts.outputs))
      Decides-are_named

  -- what is left to test of parts whose cells and islands are sound
  pub Decides-sound : AreCells parts → AreJoined parts → Decides (are_complete parts) (IsSound parts)
  Decides-sound cells joined =
      Decides-like (are_complete parts)
      (λ (h : Completed). record { cells = cells; joined = joined; drives = h.0.0.0.0; links = h.0.0.0.1; inputs = h.0.0.1; outputs = h.0.1; names = h.1 })
      (λ (r : IsSound parts). ((((r.drives, r.links), r.inputs), r.outputs), r.names))
      Decides-are_complete

-- a test that is false refuses what it is needed for
pub Decides-refused : {P Q : Type 0} (b : Bool) → Decides b P → b ≡ false → (Q → P) → Decides false Q
Decides-refused b d e f = (λ t. absurd (let n : false ≡ true = t in cc), λ q. let n : false ≡ true = sym e ∙ d.1 (f q) in cc)

pub if_ok_into : {X E : Type 0} (P Q : X → Type 0) → ((x : X) → P x → Q x) → (r : Result X E) → IfOk r P → IfOk r Q
if_ok_into P Q f (Ok x) h = f x h
if_ok_into P Q f (Err e) h = h
