-- What soundness says of each net and of each island holds of the islands of the definition.
use Rattle.std.proofs.Common.{◌≡◌, ◌<◌, ℕ, Bool, List, [], length, map, get_or, Some, sym, ap, subst, ◌∙◌, arith}
use Rattle.std.specs.Prelude.{◌↔◌, slice_get, Option}
use Rattle.std.specs.Option.{IsSomeAnd, option_map}
use Rattle.std.specs.List.{All, zip}
use Rattle.std.proofs.lemmas.Option.{same_Some, slice_get-get_or, slice_get_within, get_or_from_slice_get}
use Rattle.std.proofs.lemmas.List.{length-map}
use Rattle.std.proofs.lemmas.List.FromFn.{length-map-range_with_len, get_or-map-range_with_len}
use Rattle.net_groups.specs.Joins.{IsJoined, AreGroups}
use Rattle.net_groups.proofs.Walks.{walk_one}
use Rattle.net_settle.specs.declared.shape.Link.{Link}
use Rattle.flat_net.specs.Lists.{EachAt}
use Rattle.flat_net.specs.declared.parts.NetPart.{NetPart}
use Rattle.flat_net.specs.declared.parts.Element.{Element}
use Rattle.flat_net.specs.declared.parts.Drive.{Drive}
use Rattle.flat_net.specs.declared.parts.Island.{Island}
use Rattle.flat_net.specs.Elements.{switch_ends}
use Rattle.flat_net.specs.Islands.{IsIsland, IsDrive, IsLink, combination_kind}
use Rattle.flat_net.specs.Soundness.{island_of}
use Rattle.flat_net.proofs.Somes.{and_some, there}
use Rattle.net_islands.specs.declared.parts.NetClass.{NetClass}
use Rattle.net_islands.specs.declared.parts.NetPlace.{NetPlace}
use Rattle.net_islands.specs.Keys.{items_of, lists_by_key}
use Rattle.net_islands.specs.Leasts.{island_count, island_numbers, place, places}
use Rattle.net_islands.specs.Islands.{HasNets, members, drives, links, island, islands, net_places}
use Rattle.net_islands.specs.Parts.{class_of, place_of, StandsAt}
use Rattle.net_islands.proofs.Finding.{map-at, filter_map-has, All-from_gets, AllZip-maps, Contains-from_get}
use Rattle.net_islands.proofs.KeyRanks.{rank_of, zip-at}
use Rattle.net_islands.proofs.ItemLemmas.{drive-from, link-from, valid-at, out-lt, ends-lt}
use Rattle.net_islands.proofs.Members.{IsMember, nets_of, stands, member_of, stands-from}
use Rattle.net_islands.proofs.Numbers.{numbers-length, places-length, number-lt, joined-from, joined-to, net-of}

module _ (nets : List NetClass) (elements : List Element) (resistive : List Bool) (least : List ℕ) (groups : AreGroups (length nets) (switch_ends elements) least) where
  abbrev numbers : List ℕ
  numbers = island_numbers least

  abbrev within : List ℕ
  within = places numbers

  abbrev count : ℕ
  count = island_count least

  all : length numbers ≡ length nets
  all = numbers-length (length nets) (switch_ends elements) least groups

  place-at : (net : ℕ) → net < length nets → get_or within net 0 ≡ place numbers net
  place-at net lt = get_or-map-range_with_len (place numbers) 0 (length numbers) net net 0 (omega (arith, all)) (omega arith)

  -- an island by its number
  abbrev pub numbered : ℕ → Island
  numbered number = island (items_of number (members numbers nets)) (items_of number (drives numbers within elements))
      (items_of number (links numbers within elements resistive))

  abbrev pub all_islands : List Island
  all_islands = islands count numbers within nets elements resistive

  item-lists : {X : Type 0} (items : List (ℕ × X)) (number : ℕ) → number < count → get_or (lists_by_key count items) number [] ≡ items_of number items
  item-lists items number lt = get_or-map-range_with_len (λ (n : ℕ). items_of n items) 0 count number number [] lt (omega arith)

  abbrev list_island : ℕ → Island
  list_island number =
      island (get_or (lists_by_key count (members numbers nets)) number []) (get_or (lists_by_key count (drives numbers within elements)) number [])
      (get_or (lists_by_key count (links numbers within elements resistive)) number [])

  list_island-is : (number : ℕ) → number < count → list_island number ≡ numbered number
  list_island-is number lt =
      ap (λ (xs : List (ℕ × NetClass)). island xs (get_or (lists_by_key count (drives numbers within elements)) number [])
      (get_or (lists_by_key count (links numbers within elements resistive)) number [])) (item-lists (members numbers nets) number lt)
      ∙ ap (λ (xs : List Drive). island (items_of number (members numbers nets)) xs
      (get_or (lists_by_key count (links numbers within elements resistive)) number [])) (item-lists (drives numbers within elements) number lt)
      ∙ ap (λ (xs : List (ℕ × Link)). island (items_of number (members numbers nets)) (items_of number (drives numbers within elements)) xs)
      (item-lists (links numbers within elements resistive) number lt)

  islands-length : length all_islands ≡ count
  islands-length = length-map-range_with_len list_island 0 count

  pub islands-at : (number : ℕ) → number < count → slice_get all_islands number ≡ Some (numbered number)
  islands-at number lt =
      slice_get-get_or all_islands number (numbered number) (omega (arith, islands-length))
      ∙ ap (λ (i : Island). Some i) (get_or-map-range_with_len list_island 0 count number number (numbered number) lt (omega arith))
      ∙ ap (λ (i : Island). Some i) (list_island-is number lt)

  pub islands-from : (number : ℕ) (isl : Island) → slice_get all_islands number ≡ Some isl → (number < count) × (numbered number ≡ isl)
  islands-from number isl e =
      let in' = slice_get_within all_islands number isl e in
      let lt : number < count = omega (arith, islands-length) in
      (lt, same_Some (numbered number) isl (sym (islands-at number lt) ∙ e))

  stands-at : (net : ℕ) → net < length nets → slice_get (nets_of numbers nets all (get_or numbers net 0)) (get_or within net 0) ≡ Some net
  stands-at net lt =
      ap (λ (k : ℕ). slice_get (nets_of numbers nets all (get_or numbers net 0)) k) (place-at net lt) ∙ stands numbers nets all net lt

  -- nets of these classes at the places of the definition
  module _ (parts : List NetPart) (classes : map class_of parts ≡ nets) (placed : map place_of parts ≡ net_places numbers within) where
    parts-length : length parts ≡ length nets
    parts-length = sym (length-map parts class_of) ∙ ap length classes

    record IsPart (net : ℕ) (part : NetPart) : Type 0 where
      lt : net < length nets
      class : slice_get nets net ≡ Some (class_of part)
      island : part.island ≡ get_or numbers net 0
      place : part.place ≡ place numbers net

    part-is : (net : ℕ) (part : NetPart) → slice_get parts net ≡ Some part → IsPart net part
    part-is net part e =
        let lt : net < length nets = let h = slice_get_within parts net part e in omega (arith, parts-length) in
        let key = slice_get-get_or numbers net 0 (omega (arith, all)) in
        let long = places-length (length nets) (switch_ends elements) least groups in
        let at = slice_get-get_or within net 0 (omega (arith, long)) in
        let both = zip-at numbers within net (get_or numbers net 0) (get_or within net 0) key at in
        let written : slice_get (net_places numbers within) net ≡ Some (record { island = get_or numbers net 0; place = get_or within net 0 })
        = map-at (λ (p : ℕ × ℕ). let q : NetPlace = record { island = p.0; place = p.1 } in q) (zip numbers within) net (get_or numbers net 0, get_or within net 0) both in
        let mine : slice_get (net_places numbers within) net ≡ Some (place_of part)
        = ap (λ (ps : List NetPlace). slice_get ps net) (sym placed) ∙ map-at place_of parts net part e in
        let same : place_of part ≡ record { island = get_or numbers net 0; place = get_or within net 0 }
        = same_Some (place_of part) (record { island = get_or numbers net 0; place = get_or within net 0 }) (sym mine ∙ written) in
        record {
          lt = lt;
          class = ap (λ (ns : List NetClass). slice_get ns net) (sym classes) ∙ map-at class_of parts net part e;
          island = ap (λ (p : NetPlace). p.island) same;
          place = ap (λ (p : NetPlace). p.place) same ∙ place-at net lt;
        }

    -- each net stands at its place in its island
    pub EachAt-stands : EachAt (StandsAt all_islands) parts
    EachAt-stands net part e =
        let p = part-is net part e in
        let key-lt = number-lt (length nets) (switch_ends elements) least groups net p.lt in
        let here : slice_get all_islands part.island ≡ Some (numbered (get_or numbers net 0))
        = ap (λ (k : ℕ). slice_get all_islands k) p.island ∙ islands-at (get_or numbers net 0) key-lt in
        and_some (λ (isl : Island). slice_get isl.nets part.place ≡ Some net) (slice_get all_islands part.island) (numbered (get_or numbers net 0)) here
        (ap (λ (k : ℕ). slice_get (nets_of numbers nets all (get_or numbers net 0)) k) p.place ∙ stands numbers nets all net p.lt)

    number-of : (net : ℕ) → net < length parts → island_of parts net ≡ Some (get_or numbers net 0)
    number-of net lt =
        let p = there parts net lt in
        let is = part-is net p.0 p.1 in
        ap (λ (o : Option NetPart). option_map (λ (part : NetPart). part.island) o) p.1 ∙ ap (λ (n : ℕ). Some n) is.island

    -- two nets stand in one island exactly where switches join them
    pub joins : (a b : ℕ) → a < length parts → b < length parts → (island_of parts a ≡ island_of parts b) ↔ IsJoined (switch_ends elements) a b
    joins a b a-lt b-lt =
        let a-in : a < length nets = omega (arith, parts-length) in
        let b-in : b < length nets = omega (arith, parts-length) in (
          λ e. joined-from (length nets) (switch_ends elements) least groups a b a-in b-in
              (same_Some (get_or numbers a 0) (get_or numbers b 0) (sym (number-of a a-lt) ∙ e ∙ number-of b b-lt)),
          λ walk. number-of a a-lt
              ∙ ap (λ (n : ℕ). Some n) (joined-to (length nets) (switch_ends elements) least groups a b a-in b-in walk)
              ∙ sym (number-of b b-lt),
        )

    -- a member of an island as a part
    member-part : (key j net : ℕ) (class : NetClass) → IsMember numbers nets key j net class →
        (part : NetPart) × (slice_get parts net ≡ Some part) × (part.island ≡ key) × (part.place ≡ j) × (class_of part ≡ class)
    member-part key j net class m =
        let lt : net < length parts = let h = slice_get_within nets net class m.class in omega (arith, parts-length) in
        let p = there parts net lt in
        let is = part-is net p.0 p.1 in
        (p.0, p.1, is.island ∙ get_or_from_slice_get numbers net key 0 m.number, is.place ∙ m.place, same_Some (class_of p.0) class (sym is.class ∙ m.class))

    -- where an end or an output pin stands that has the number of the island
    seated : (key net : ℕ) → net < length nets → get_or numbers net 0 ≡ key → slice_get (numbered key).nets (get_or within net 0) ≡ Some net
    seated key net lt e = subst (λ (k : ℕ). slice_get (numbered k).nets (get_or within net 0) ≡ Some net) e (stands-at net lt)

    module _ (valid : All (HasNets (length nets)) elements) where
      drive-holds : (number k : ℕ) (d : Drive) → slice_get (items_of number (drives numbers within elements)) k ≡ Some d → IsDrive elements (numbered number).nets d
      drive-holds number k d f =
          let r = rank_of number (drives numbers within elements) k d f in
          let o = drive-from numbers within elements r.0 number d r.1 in
          let lt = out-lt (length nets) o.element (valid-at (length nets) elements valid d.element o.element o.there) d.pin o.net o.pin in
          let seat : slice_get (numbered number).nets d.place ≡ Some o.net
          = ap (λ (j : ℕ). slice_get (numbered number).nets j) (sym o.place) ∙ seated number o.net lt o.number in
          and_some (λ (e : Element). IsSomeAnd (slice_get e.outs d.pin) (λ net. slice_get (numbered number).nets d.place ≡ Some net)) (slice_get elements d.element) o.element o.there
          (and_some (λ (net : ℕ). slice_get (numbered number).nets d.place ≡ Some net) (slice_get o.element.outs d.pin) o.net o.pin seat)

      link-holds : (number k : ℕ) (s : ℕ × Link) → slice_get (items_of number (links numbers within elements resistive)) k ≡ Some s → IsLink elements (numbered number).nets s.0 s.1
      link-holds number k s f =
          let r = rank_of number (links numbers within elements resistive) k s f in
          let o = link-from numbers within elements resistive r.0 number s r.1 in
          let lt = ends-lt (length nets) o.element o.ends (valid-at (length nets) elements valid s.0 o.element o.there) o.ends-are in
          let pair = filter_map-has (λ (e : Element). e.ends) elements s.0 o.element o.ends o.there o.ends-are in
          let walk : IsJoined (switch_ends elements) o.ends.0 o.ends.1 = walk_one (Contains-from_get (switch_ends elements) pair.0 o.ends pair.1) in
          let second : get_or numbers o.ends.1 0 ≡ number
          = sym (joined-to (length nets) (switch_ends elements) least groups o.ends.0 o.ends.1 lt.0 lt.1 walk) ∙ o.number in
          let a : slice_get (numbered number).nets s.1.a ≡ Some o.ends.0
          = ap (λ (j : ℕ). slice_get (numbered number).nets j) (sym o.a) ∙ seated number o.ends.0 lt.0 o.number in
          let b : slice_get (numbered number).nets s.1.b ≡ Some o.ends.1
          = ap (λ (j : ℕ). slice_get (numbered number).nets j) (sym o.b) ∙ seated number o.ends.1 lt.1 second in
          and_some (λ (e : Element). IsSomeAnd e.ends (λ ends. (slice_get (numbered number).nets s.1.a ≡ Some ends.0) × (slice_get (numbered number).nets s.1.b ≡ Some ends.1))) (slice_get elements s.0) o.element o.there
          (and_some (λ (ends : ℕ × ℕ). (slice_get (numbered number).nets s.1.a ≡ Some ends.0) × (slice_get (numbered number).nets s.1.b ≡ Some ends.1)) o.element.ends o.ends o.ends-are (a, b))

      member-holds : (number k : ℕ) (m : ℕ × NetClass) → slice_get (items_of number (members numbers nets)) k ≡ Some m →
          (part : NetPart) × (slice_get parts m.0 ≡ Some part) × (class_of part ≡ m.1)
      member-holds number k m f =
          let p = member-part number k m.0 m.1 (member_of numbers nets all number k m f) in
          (p.0, p.1, p.4)

      is-island : (number : ℕ) → number < count → IsIsland parts elements number (numbered number)
      is-island number lt = record {
        filled =
            let n = net-of (length nets) (switch_ends elements) least groups number lt in
            let h = slice_get_within (numbered number).nets (get_or within n.0 0) n.0 (seated number n.0 n.1 n.2) in
            omega arith;
        places = λ j net f.
            let m = stands-from numbers nets all number j net f in
            let p = member-part number j net m.0 m.1 in
            and_some (λ (part : NetPart). (part.island ≡ number) × (part.place ≡ j)) (slice_get parts net) p.0 p.1 (p.2, p.3);
        drives = All-from_gets (IsDrive elements (numbered number).nets) (items_of number (drives numbers within elements)) (drive-holds number);
        links = AllZip-maps (IsLink elements (numbered number).nets) (λ (s : ℕ × Link). s.0) (λ (s : ℕ × Link). s.1)
            (items_of number (links numbers within elements resistive)) (link-holds number);
        kinds = AllZip-maps (λ net kind. IsSomeAnd (slice_get parts net) (λ part. kind ≡ combination_kind part.kind))
            (λ (m : ℕ × NetClass). m.0) (λ (m : ℕ × NetClass). combination_kind m.1.kind) (items_of number (members numbers nets))
            (λ k m f.
            let p = member-holds number k m f in
            and_some (λ (part : NetPart). combination_kind m.1.kind ≡ combination_kind part.kind) (slice_get parts m.0) p.0 p.1
            (ap (λ (c : NetClass). combination_kind c.kind) (sym p.2)));
        charge = AllZip-maps (λ net level. IsSomeAnd (slice_get parts net) (λ part. level ≡ part.charge))
            (λ (m : ℕ × NetClass). m.0) (λ (m : ℕ × NetClass). m.1.charge) (items_of number (members numbers nets))
            (λ k m f.
            let p = member-holds number k m f in
            and_some (λ (part : NetPart). m.1.charge ≡ part.charge) (slice_get parts m.0) p.0 p.1
            (ap (λ (c : NetClass). c.charge) (sym p.2)));
      }

      -- each island is one of the netlist
      pub EachAt-islands : EachAt (IsIsland parts elements) all_islands
      EachAt-islands number isl e =
          let i = islands-from number isl e in
          subst (λ (x : Island). IsIsland parts elements number x) i.1 (is-island number i.0)
