-- The drives of the islands name each output pin once, and their links each bidirectional switch.
use Rattle.std.proofs.Common.{◌≡◌, ◌<◌, ℕ, Bool, true, false, List, length, map, get_or, Some, None, refl, sym, ap, subst, ◌∙◌, arith}
use Rattle.std.specs.Prelude.{slice_get, Option}
use Rattle.std.specs.Option.{IsSome, option_map}
use Rattle.std.specs.List.{All, Contains, enumerate_from, flat_map}
use Rattle.net_groups.specs.Joins.{AreGroups}
use Rattle.net_settle.specs.declared.shape.Link.{Link}
use Rattle.flat_net.specs.Lists.{EachAt, AreDistinct}
use Rattle.flat_net.specs.declared.parts.Element.{Element}
use Rattle.flat_net.specs.declared.parts.Drive.{Drive}
use Rattle.flat_net.specs.declared.parts.Island.{Island}
use Rattle.flat_net.specs.Elements.{switch_ends}
use Rattle.flat_net.specs.Islands.{drive_pins, link_elements}
use Rattle.net_islands.specs.declared.parts.NetClass.{NetClass}
use Rattle.net_islands.specs.Keys.{items_of}
use Rattle.net_islands.specs.Leasts.{island_count, island_numbers, places}
use Rattle.net_islands.specs.Islands.{HasNets, drive, drives, element_drives, link, links}
use Rattle.net_islands.proofs.Finding.{IsIn, map-at, map-from, flat_map-has, filter_map-has, some-map, Contains-from_get, Contains-flat_map}
use Rattle.net_islands.proofs.KeyRanks.{enumerate-at_zero, enumerate-from}
use Rattle.net_islands.proofs.Apart.{AreApart, AreApart-flat_map, AreApart-filter_map, keys-distinct, keys-separate, keys-has}
use Rattle.net_islands.proofs.Numbers.{number-lt}
use Rattle.net_islands.proofs.IslandLaws.{numbered, all_islands, islands-at, islands-from}
use Rattle.net_islands.proofs.ItemLemmas.{valid-at, out-lt, ends-lt}

some_ends : {X : Type 0} (o : Option X) → IsSome o → (x : X) × (o ≡ Some x)
some_ends None h = let never : false ≡ true = h in cc
some_ends (Some x) h = (x, refl)

module _ (nets : List NetClass) (elements : List Element) (resistive : List Bool) (least : List ℕ) (groups : AreGroups (length nets) (switch_ends elements) least) where
  abbrev numbers : List ℕ
  numbers = island_numbers least

  abbrev within : List ℕ
  within = places numbers

  abbrev the_islands : List Island
  the_islands = all_islands nets elements resistive least groups

  abbrev the_island : ℕ → Island
  the_island number = numbered nets elements resistive least groups number

  -- a list that each island takes from the items of its number
  module _ {X Z : Type 0} (key : X → Z) (items : List (ℕ × X)) (f : Island → List Z) (same : (k : ℕ) → f (the_island k) ≡ map key (items_of k items)) where
    gathered-distinct : AreApart (λ (item : ℕ × X). key item.1) items → AreDistinct (flat_map f the_islands)
    gathered-distinct apart =
        let whole = AreApart-flat_map (λ (z : Z). z) f the_islands
        (λ k isl e i j a b g h eq.
        let is = islands-from nets elements resistive least groups k isl e in
        let list : f isl ≡ map key (items_of k items) = ap f (sym is.1) ∙ same k in
        let first : slice_get (map key (items_of k items)) i ≡ Some a = ap (λ (zs : List Z). slice_get zs i) (sym list) ∙ g in
        let second : slice_get (map key (items_of k items)) j ≡ Some a
        = ap (λ (zs : List Z). slice_get zs j) (sym list) ∙ h ∙ ap (λ (z : Z). Some z) (sym eq) in
        keys-distinct key items apart k i j a first second)
        (λ k l isl jsl e g m.
        let is = islands-from nets elements resistive least groups k isl e in
        let js = islands-from nets elements resistive least groups l jsl g in
        let list-k : f isl ≡ map key (items_of k items) = ap f (sym is.1) ∙ same k in
        let list-l : f jsl ≡ map key (items_of l items) = ap f (sym js.1) ∙ same l in
        let first : IsIn (map key (items_of k items)) m.0 = subst (λ (zs : List Z). IsIn zs m.0) list-k m.2 in
        let second : IsIn (map key (items_of l items)) m.1 = subst (λ (zs : List Z). IsIn zs m.1) list-l m.3 in
        keys-separate key items apart k l m.0 first (subst (λ (z : Z). IsIn (map key (items_of l items)) z) (sym m.4) second)) in
        λ i j x e g. whole i j x x e g refl

    gathered-has : (n k : ℕ) (x : X) → k < island_count least → slice_get items n ≡ Some (k, x) → Contains (flat_map f the_islands) (key x)
    gathered-has n k x lt e =
        let there : IsIn (f (the_island k)) (key x) = subst (λ (zs : List Z). IsIn zs (key x)) (sym (same k)) (keys-has key items n k x e) in
        Contains-flat_map f the_islands k (the_island k) (key x) (islands-at nets elements resistive least groups k lt)
        (Contains-from_get (f (the_island k)) there.0 (key x) there.1)

  abbrev pin_of : Drive → ℕ × ℕ
  pin_of d = (d.element, d.pin)

  drive-apart : (element : ℕ) (outs : List ℕ) → AreApart (λ (item : ℕ × Drive). pin_of item.1) (element_drives numbers within element outs)
  drive-apart element outs i j a b e f same =
      let o = map-from (λ (out : ℕ × ℕ). drive numbers within element out.0 out.1) (enumerate_from 0 outs) i a e in
      let p = map-from (λ (out : ℕ × ℕ). drive numbers within element out.0 out.1) (enumerate_from 0 outs) j b f in
      let o-pin : o.0.0 ≡ a.1.pin = ap (λ (item : ℕ × Drive). item.1.pin) o.2 in
      let p-pin : p.0.0 ≡ b.1.pin = ap (λ (item : ℕ × Drive). item.1.pin) p.2 in
      let pins : a.1.pin ≡ b.1.pin = ap (λ (q : ℕ × ℕ). q.1) same in
      let first = (enumerate-from 0 outs i o.0 o.1).0 in
      let second = (enumerate-from 0 outs j p.0 p.1).0 in
      omega arith

  drive-element : (element : ℕ) (outs : List ℕ) (a : ℕ × Drive) → IsIn (element_drives numbers within element outs) a → a.1.element ≡ element
  drive-element element outs a h =
      let o = map-from (λ (out : ℕ × ℕ). drive numbers within element out.0 out.1) (enumerate_from 0 outs) h.0 a h.1 in
      sym (ap (λ (item : ℕ × Drive). item.1.element) o.2)

  drives-apart : AreApart (λ (item : ℕ × Drive). pin_of item.1) (drives numbers within elements)
  drives-apart =
      AreApart-flat_map (λ (item : ℕ × Drive). pin_of item.1) (λ (e : ℕ × Element). element_drives numbers within e.0 e.1.outs) (enumerate_from 0 elements)
      (λ i x e. drive-apart x.0 x.1.outs)
      (λ i j x y e f m.
      let first = (enumerate-from 0 elements i x e).0 in
      let second = (enumerate-from 0 elements j y f).0 in
      let a : m.0.1.element ≡ x.0 = drive-element x.0 x.1.outs m.0 m.2 in
      let b : m.1.1.element ≡ y.0 = drive-element y.0 y.1.outs m.1 m.3 in
      let same : m.0.1.element ≡ m.1.1.element = ap (λ (q : ℕ × ℕ). q.0) m.4 in
      omega arith)

  pub drives-once : AreDistinct (drive_pins the_islands)
  drives-once = gathered-distinct pin_of (drives numbers within elements) (λ island. map (λ (d : Drive). (d.element, d.pin)) island.drives) (λ k. refl) drives-apart

  pub drives-each : All (HasNets (length nets)) elements → EachAt (λ element e. EachAt (λ pin net. Contains (drive_pins the_islands) (element, pin)) e.outs) elements
  drives-each valid i e f pin net g =
      let lt = out-lt (length nets) e (valid-at (length nets) elements valid i e f) pin net g in
      let out : IsIn (element_drives numbers within i e.outs) (drive numbers within i pin net)
      = (pin, map-at (λ (out : ℕ × ℕ). drive numbers within i out.0 out.1) (enumerate_from 0 e.outs) pin (pin, net) (enumerate-at_zero e.outs pin net g)) in
      let item = flat_map-has (λ (e : ℕ × Element). element_drives numbers within e.0 e.1.outs) (enumerate_from 0 elements) i (i, e) (drive numbers within i pin net)
      (enumerate-at_zero elements i e f) out in
      gathered-has pin_of (drives numbers within elements) (λ island. map (λ (d : Drive). (d.element, d.pin)) island.drives) (λ k. refl)
      item.0 (get_or numbers net 0) (drive numbers within i pin net).1 (number-lt (length nets) (switch_ends elements) least groups net lt) item.1

  abbrev link_of : ℕ × Element → Option (ℕ × (ℕ × Link))
  link_of e = option_map (link numbers within (get_or resistive e.0 false) e.0) e.1.ends

  links-apart : AreApart (λ (item : ℕ × (ℕ × Link)). item.1.0) (links numbers within elements resistive)
  links-apart =
      AreApart-filter_map (λ (item : ℕ × (ℕ × Link)). item.1.0) link_of (enumerate_from 0 elements)
      (λ i j x y a b e f g h same.
      let o = some-map (link numbers within (get_or resistive x.0 false) x.0) x.1.ends a g in
      let p = some-map (link numbers within (get_or resistive y.0 false) y.0) y.1.ends b h in
      let first = (enumerate-from 0 elements i x e).0 in
      let second = (enumerate-from 0 elements j y f).0 in
      let one : x.0 ≡ a.1.0 = ap (λ (item : ℕ × (ℕ × Link)). item.1.0) o.2 in
      let other : y.0 ≡ b.1.0 = ap (λ (item : ℕ × (ℕ × Link)). item.1.0) p.2 in
      omega arith)

  pub links-once : AreDistinct (link_elements the_islands)
  links-once = gathered-distinct (λ (s : ℕ × Link). s.0) (links numbers within elements resistive) (λ island. island.links) (λ k. refl) links-apart

  pub links-each : All (HasNets (length nets)) elements → EachAt (λ element e. IsSome e.ends → Contains (link_elements the_islands) element) elements
  links-each valid i e f some =
      let ends = some_ends e.ends some in
      let lt = ends-lt (length nets) e ends.0 (valid-at (length nets) elements valid i e f) ends.1 in
      let made : link_of (i, e) ≡ Some (link numbers within (get_or resistive i false) i ends.0)
      = ap (λ (o : Option (ℕ × ℕ)). option_map (link numbers within (get_or resistive i false) i) o) ends.1 in
      let item = filter_map-has link_of (enumerate_from 0 elements) i (i, e) (link numbers within (get_or resistive i false) i ends.0) (enumerate-at_zero elements i e f) made in
      gathered-has (λ (s : ℕ × Link). s.0) (links numbers within elements resistive) (λ island. island.links) (λ k. refl)
      item.0 (get_or numbers ends.0.0 0) (link numbers within (get_or resistive i false) i ends.0).1 (number-lt (length nets) (switch_ends elements) least groups ends.0.0 lt.0) item.1
