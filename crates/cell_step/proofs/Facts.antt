-- What soundness of a netlist says of one cell.
use Rattle.std.proofs.Common.{◌≡◌, ◌≢◌, ℕ, zero, suc, ◌<◌, ◌≤◌, List, [], ◌∷◌, ◌++◌, length, get_or, refl, ap, sym, ◌∙◌, subst, arith, inl, inr}
use Rattle.std.specs.Prelude.{All, Option, Some, IsTrue, false, replicate, slice_get, slice_index_or}
use Rattle.std.specs.List.{AllZip}
use Rattle.std.specs.Option.{IsSomeAnd, is_some}
use Rattle.std.proofs.lemmas.Bool.{cases_lt}
use Rattle.std.proofs.lemmas.List.{get_or_past, get_or_default, get_or-map, length-map, length-replicate}
use Rattle.std.proofs.lemmas.Option.{slice_get-get_or, slice_get_within, get_or_from_slice_get}
use Rattle.level_range.specs.declared.range.Kind.{Kind}
use Rattle.level_range.specs.declared.range.Kind.TheVariants.{Plain}
use Rattle.level_range.specs.Signal.{Signal, undriven}
use Rattle.net_settle.specs.declared.shape.Link.{Link}
use Rattle.net_settle.specs.Charges.{signal_at}
use Rattle.net_settle.specs.Conditions.{IsChargeLevel, IsCharge, EndsWithin, WiredAlone, AreCharges}
use Rattle.net_settle.specs.Conditions.{IsIsland as IsSettlingIsland}
use Rattle.udp_table.specs.Primitive.{Primitive, IsAccepted}
use Rattle.flat_net.specs.declared.kinds.ElementKind.{ElementKind}
use Rattle.flat_net.specs.declared.kinds.ElementKind.TheVariants.{Fold, Enable, Mos, Udp, Copy, Constant, Pull, Tran, Tranif}
use Rattle.flat_net.specs.declared.kinds.NetKind.{NetKind}
use Rattle.flat_net.specs.declared.kinds.NetKind.TheVariants.{Wire, And, Or, Tri0, Tri1, Supply0, Supply1, Trireg}
use Rattle.flat_net.specs.declared.parts.NetPart.{NetPart}
use Rattle.flat_net.specs.declared.parts.Element.{Element}
use Rattle.flat_net.specs.declared.parts.Drive.{Drive}
use Rattle.flat_net.specs.declared.parts.Island.{Island}
use Rattle.flat_net.specs.declared.parts.Parts.{Parts}
use Rattle.flat_net.specs.Elements.{IsElement, HasPinsOf, end_nets, joins_ends}
use Rattle.flat_net.specs.Islands.{IsIsland, IsLink, HasCharge, combination_kind}
use Rattle.flat_net.specs.Soundness.{IsSound, IsNet}
use Rattle.flat_net.proofs.Somes.{some_of, and_some}
use Rattle.flat_net.proofs.ElementDecisions.{all_right}
use Rattle.cell_step.specs.declared.states.NetState.{NetState}
use Rattle.cell_step.specs.declared.states.IslandState.{IslandState}
use Rattle.cell_step.specs.Readings.{IsOutput, IsSwitch, no_element, no_net, no_island, no_primitive, element_at, net_at, island_at, primitive_at}
use Rattle.cell_step.specs.Islands.{no_state, state_at, charges_of, part_at}
use Rattle.cell_step.specs.Fitting.{HasAcceptedPrimitives, HasChargeOf, FitsNet, FitsIsland}
use Rattle.cell_step.specs.Owns.{CanSettle}
use Rattle.cell_step.proofs.Mapping.{zip-length, zip-at}
use Rattle.cell_step.proofs.ElementStillness.{HasWidth}

-- a trireg's level is one, and any other net has none
level-of : (kind : NetKind) (level : ℕ) → HasCharge kind level → IsChargeLevel level
level-of Trireg level (inl e) = inr (inl e)
level-of Trireg level (inr (inl e)) = inr (inr (inl e))
level-of Trireg level (inr (inr e)) = inr (inr (inr e))
level-of Wire level e = inl e
level-of And level e = inl e
level-of Or level e = inl e
level-of Tri0 level e = inl e
level-of Tri1 level e = inl e
level-of Supply0 level e = inl e
level-of Supply1 level e = inl e

charge-of : (kind : NetKind) (level : ℕ) (s : NetState) → HasCharge kind level → HasChargeOf kind level s → level ≢ 0 → IsCharge level s.charge
charge-of Trireg level s has fits some = fits
charge-of Wire level s has fits some = absurd (some has)
charge-of And level s has fits some = absurd (some has)
charge-of Or level s has fits some = absurd (some has)
charge-of Tri0 level s has fits some = absurd (some has)
charge-of Tri1 level s has fits some = absurd (some has)
charge-of Supply0 level s has fits some = absurd (some has)
charge-of Supply1 level s has fits some = absurd (some has)

-- a primitive that is accepted
abbrev pub HasAccepted : Parts → ElementKind → Type 0
HasAccepted parts (Udp number) = IsAccepted (primitive_at parts number)
HasAccepted parts (Fold kind) = Unit {0}
HasAccepted parts (Enable kind) = Unit {0}
HasAccepted parts (Mos on_one resistive) = Unit {0}
HasAccepted parts Copy = Unit {0}
HasAccepted parts (Constant v) = Unit {0}
HasAccepted parts (Pull v) = Unit {0}
HasAccepted parts Tran = Unit {0}
HasAccepted parts (Tranif on_one) = Unit {0}

-- no links of an island, no links of its shape
no-links : {A B : Type 0} (xs : List A) (ys : List B) → length xs ≡ length ys → xs ≡ [] → ys ≡ []
no-links xs [] long e = refl
no-links xs (y ∷ ys) long e = absurd (let f : length xs ≡ 0 = ap length e in omega arith)

module _ (parts : Parts) (sound : IsSound parts) where
  pub element-is : (number : ℕ) → number < length parts.elements → IsElement (length parts.nets) parts.udps (element_at parts number)
  element-is number lt = sound.cells.elements number no_element lt

  -- the nets of an element's inputs
  pub ins-within : (number : ℕ) → number < length parts.elements → All (λ net. net < length parts.nets) (element_at parts number).ins
  ins-within number lt =
      let e = element_at parts number in
      all_right (λ net. net < length parts.nets) (end_nets e.ends ++ e.outs) e.ins (element-is number lt).nets

  width-of : (kind : ElementKind) (outs ins : ℕ) → HasPinsOf parts.udps kind outs ins → HasWidth parts kind ins
  width-of (Udp k) outs ins pins =
      let found = some_of (λ (udp : Primitive). udp.inputs ≡ ins) (slice_get parts.udps k) pins.1 in
      sym (ap (λ (udp : Primitive). udp.inputs) (get_or_from_slice_get parts.udps k found.0 no_primitive found.1) ∙ found.2)
  width-of (Fold kind) outs ins pins = cc
  width-of (Enable kind) outs ins pins = cc
  width-of (Mos on_one resistive) outs ins pins = cc
  width-of Copy outs ins pins = cc
  width-of (Constant v) outs ins pins = cc
  width-of (Pull v) outs ins pins = cc
  width-of Tran outs ins pins = cc
  width-of (Tranif on_one) outs ins pins = cc

  -- a primitive has as many inputs as the element
  pub primitive-width : (number : ℕ) → number < length parts.elements →
      HasWidth parts (element_at parts number).kind (length (element_at parts number).ins)
  primitive-width number lt =
      let e = element_at parts number in width-of e.kind (length e.outs) (length e.ins) (element-is number lt).pins

  accepted-of : (kind : ElementKind) (outs ins : ℕ) → HasAcceptedPrimitives parts → HasPinsOf parts.udps kind outs ins → HasAccepted parts kind
  accepted-of (Udp k) outs ins all pins =
      let found = some_of (λ (udp : Primitive). udp.inputs ≡ ins) (slice_get parts.udps k) pins.1 in
      all k no_primitive (slice_get_within parts.udps k found.0 found.1)
  accepted-of (Fold kind) outs ins all pins = cc
  accepted-of (Enable kind) outs ins all pins = cc
  accepted-of (Mos on_one resistive) outs ins all pins = cc
  accepted-of Copy outs ins all pins = cc
  accepted-of (Constant v) outs ins all pins = cc
  accepted-of (Pull v) outs ins all pins = cc
  accepted-of Tran outs ins all pins = cc
  accepted-of (Tranif on_one) outs ins all pins = cc

  pub primitive-accepted : HasAcceptedPrimitives parts → (number : ℕ) → number < length parts.elements → HasAccepted parts (element_at parts number).kind
  primitive-accepted all number lt =
      let e = element_at parts number in accepted-of e.kind (length e.outs) (length e.ins) all (element-is number lt).pins

  module _ (number : ℕ) (lt : number < length parts.islands) where
    abbrev island : Island
    island = island_at parts number

    pub island-is : IsIsland parts.nets parts.elements number island
    island-is = sound.cells.islands number island (slice_get-get_or parts.islands number no_island lt)

    pub kinds-length : length island.nets ≡ length island.shape.kinds
    kinds-length = zip-length _ island.nets island.shape.kinds island-is.kinds

    pub charge-length : length island.nets ≡ length island.shape.charge
    charge-length = zip-length _ island.nets island.shape.charge island-is.charge

    pub links-length : length island.links ≡ length island.shape.links
    links-length = zip-length _ island.links island.shape.links island-is.links

    -- the part of the net at a place
    place-part : (place : ℕ) → place < length island.nets →
        (part : NetPart) × (slice_get parts.nets (slice_index_or island.nets place 0) ≡ Some part) × ((part.island ≡ number) × (part.place ≡ place))
    place-part place within =
        some_of (λ (part : NetPart). (part.island ≡ number) × (part.place ≡ place)) _
        (island-is.places place (slice_index_or island.nets place 0) (slice_get-get_or island.nets place 0 within))

    pub place-within : (place : ℕ) → place < length island.nets → slice_index_or island.nets place 0 < length parts.nets
    place-within place within = slice_get_within parts.nets _ (place-part place within).0 (place-part place within).1

    pub place-net : (place : ℕ) → place < length island.nets → IsNet parts.islands (slice_index_or island.nets place 0) (part_at parts island place)
    place-net place within =
        sound.cells.nets _ (part_at parts island place)
        (slice_get-get_or parts.nets (slice_index_or island.nets place 0) no_net (place-within place within))

    place-island : (place : ℕ) → place < length island.nets → (part_at parts island place).island ≡ number
    place-island place within =
        let found = place-part place within in
        ap (λ (part : NetPart). part.island) (get_or_from_slice_get parts.nets _ found.0 no_net found.1) ∙ found.2.0

    pub place-kind : (place : ℕ) → place < length island.nets → slice_index_or island.shape.kinds place Plain ≡ combination_kind (part_at parts island place).kind
    place-kind place within =
        let found = some_of (λ (part : NetPart). slice_index_or island.shape.kinds place Plain ≡ combination_kind part.kind) _
        (zip-at _ island.nets island.shape.kinds place 0 Plain island-is.kinds within) in
        found.2 ∙ ap (λ (part : NetPart). combination_kind part.kind) (sym (get_or_from_slice_get parts.nets _ found.0 no_net found.1))

    pub place-level : (place : ℕ) → place < length island.nets → slice_index_or island.shape.charge place 0 ≡ (part_at parts island place).charge
    place-level place within =
        let found = some_of (λ (part : NetPart). slice_index_or island.shape.charge place 0 ≡ part.charge) _
        (zip-at _ island.nets island.shape.charge place 0 0 island-is.charge within) in
        found.2 ∙ ap (λ (part : NetPart). part.charge) (sym (get_or_from_slice_get parts.nets _ found.0 no_net found.1))

    link-within : (place : ℕ) (d : Link) → place < length island.shape.links →
        ((slice_index_or island.shape.links place d).a < length island.nets) × ((slice_index_or island.shape.links place d).b < length island.nets)
    link-within place d within =
        let link = slice_index_or island.shape.links place d in
        let outer = some_of (λ (e : Element). IsSomeAnd e.ends (λ ends.
        (slice_get island.nets link.a ≡ Some ends.0) × (slice_get island.nets link.b ≡ Some ends.1))) _
        (zip-at (IsLink parts.elements island.nets) island.links island.shape.links place 0 d island-is.links (let e = links-length in omega arith)) in
        let inner = some_of (λ (ends : ℕ × ℕ).
        (slice_get island.nets link.a ≡ Some ends.0) × (slice_get island.nets link.b ≡ Some ends.1)) _ outer.2 in
        (slice_get_within island.nets link.a _ inner.2.0, slice_get_within island.nets link.b _ inner.2.1)

    pub ends-within : EndsWithin (length island.nets) island.shape.links
    ends-within place d within = link-within place d within

    pub levels-are : All IsChargeLevel island.shape.charge
    levels-are place d within =
        let inside : place < length island.nets = (let e = charge-length in omega arith) in
        subst IsChargeLevel
        (sym (get_or_default island.shape.charge place d 0 within ∙ place-level place inside))
        (level-of (part_at parts island place).kind (part_at parts island place).charge (place-net place inside).charge)

    -- a net that isn't plain is alone
    alone : (place : ℕ) → place < length island.nets → ¬ (combination_kind (part_at parts island place).kind ≡ Plain) →
        (length island.nets ≡ 1) × (island.links ≡ [])
    alone place within wired =
        let found = some_of (λ (i : Island). (length i.nets ≡ 1) × (i.links ≡ [])) _ ((place-net place within).alone wired) in
        let same : found.0 ≡ island =
        sym (get_or_from_slice_get parts.islands _ found.0 no_island found.1) ∙ ap (λ n. get_or parts.islands n no_island) (place-island place within) in
        subst (λ (i : Island). (length i.nets ≡ 1) × (i.links ≡ [])) same found.2

    pub wired_alone : WiredAlone island.shape
    wired_alone place wired = elim (cases_lt place (length island.nets)) [
      | inl within ↦
          let a = alone place within (λ plain. wired (place-kind place within ∙ plain)) in
          (sym kinds-length ∙ a.0, no-links island.links island.shape.links links-length a.1)
      | inr past ↦ absurd (wired (get_or_past island.shape.kinds place Plain (let e = kinds-length in omega arith)))
    ]

    module _ (s : IslandState) (fits : FitsIsland parts number s) where
      pub states-length : length island.nets ≡ length s.nets
      states-length = zip-length _ island.nets s.nets fits

      pub net-fits : (place : ℕ) → place < length island.nets → FitsNet (part_at parts island place) (state_at s.nets place)
      net-fits place within = zip-at (λ net state. FitsNet (net_at parts net) state) island.nets s.nets place 0 no_state fits within

      pub charges-length : length (charges_of s.nets) ≡ length island.nets
      charges-length = length-map s.nets (λ (n : NetState). n.charge) ∙ sym states-length

      pub charge-at : (place : ℕ) → place < length island.nets → signal_at (charges_of s.nets) place ≡ (state_at s.nets place).charge
      charge-at place within = get_or-map (λ (n : NetState). n.charge) s.nets place no_state undriven (let e = states-length in omega arith)

      pub charges-are : AreCharges island.shape.charge (charges_of s.nets)
      charges-are place some = elim (cases_lt place (length island.nets)) [
        | inl within ↦
            let part = part_at parts island place in
            let level = place-level place within in
            subst (IsCharge (slice_index_or island.shape.charge place 0)) (sym (charge-at place within))
            (subst (λ c. IsCharge c (state_at s.nets place).charge) (sym level)
            (charge-of part.kind part.charge (state_at s.nets place) (place-net place within).charge (net-fits place within)
            (λ none. some (level ∙ none))))
        | inr past ↦ absurd (some (get_or_past island.shape.charge place 0 (let e = charge-length in omega arith)))
      ]

      -- what `settle` needs to know of the island
      pub settling-island : (own : List Signal) → length own ≡ length island.nets →
          IsSettlingIsland island.shape (length own) (charges_of s.nets)
      settling-island own long = record {
        kinds = sym kinds-length ∙ sym long;
        levels = sym charge-length ∙ sym long;
        ends = subst (λ n. EndsWithin n island.shape.links) (sym long) ends-within;
        strengths = levels-are;
        charge_nets = charges-length ∙ sym long;
      }

switch-of : (e : Element) (ends : ℕ × ℕ) → e.ends ≡ Some ends → is_some e.ends ≡ joins_ends e.kind → IsTrue (joins_ends e.kind)
switch-of e ends there is = subst IsTrue is (subst (λ (o : Option (ℕ × ℕ)). IsTrue (is_some o)) (sym there) cc)

-- where the number of an island stands for the island itself
module _ (parts : Parts) (sound : IsSound parts) (number : ℕ) (lt : number < length parts.islands) where
  drive-is : (place : ℕ) (d : Drive) → place < length (island_at parts number).drives →
      IsOutput parts (slice_index_or (island_at parts number).drives place d).element (slice_index_or (island_at parts number).drives place d).pin
      × ((slice_index_or (island_at parts number).drives place d).place < length (island_at parts number).nets)
  drive-is place d within =
      let island = island_at parts number in
      let drive = slice_index_or island.drives place d in
      let outer = some_of (λ (e : Element). IsSomeAnd (slice_get e.outs drive.pin) (λ net. slice_get island.nets drive.place ≡ Some net)) _
      ((island-is parts sound number lt).drives place d within) in
      let inner = some_of (λ net. slice_get island.nets drive.place ≡ Some net) _ outer.2 in (
        and_some (λ (e : Element). drive.pin < length e.outs) (slice_get parts.elements drive.element) outer.0 outer.1
            (slice_get_within outer.0.outs drive.pin inner.0 inner.1),
        slice_get_within island.nets drive.place inner.0 inner.2,
      )

  link-is : (place d : ℕ) → place < length (island_at parts number).links → IsSwitch parts (slice_index_or (island_at parts number).links place d)
  link-is place d within =
      let island = island_at parts number in
      let link = slice_index_or island.shape.links place (record { a = 0; b = 0; resistive = false }) in
      let element = slice_index_or island.links place d in
      let found = some_of (λ (e : Element). IsSomeAnd e.ends (λ ends.
      (slice_get island.nets link.a ≡ Some ends.0) × (slice_get island.nets link.b ≡ Some ends.1))) _
      (zip-at (IsLink parts.elements island.nets) island.links island.shape.links place d _ (island-is parts sound number lt).links within) in
      let ends = some_of (λ (ends : ℕ × ℕ).
      (slice_get island.nets link.a ≡ Some ends.0) × (slice_get island.nets link.b ≡ Some ends.1)) _ found.2 in
      let is = sound.cells.elements element found.0 (slice_get_within parts.elements element found.0 found.1) in
      let same = get_or_from_slice_get parts.elements element found.0 found.0 found.1 in
      and_some (λ (e : Element). IsTrue (joins_ends e.kind)) (slice_get parts.elements element) found.0 found.1
      (switch-of found.0 ends.0 ends.1 (subst (λ (e : Element). is_some e.ends ≡ joins_ends e.kind) same is.ends))

  can-settle-at : (s : IslandState) → FitsIsland parts number s → CanSettle parts (island_at parts number) s
  can-settle-at s fits = record {
    nets = λ place d within. subst (λ n. n < length parts.nets)
        (get_or_default (island_at parts number).nets place 0 d within) (place-within parts sound number lt place within);
    kinds = place-kind parts sound number lt;
    shape = sym (kinds-length parts sound number lt);
    drives = λ place d within. (drive-is place d within).0;
    places = λ place d within. (drive-is place d within).1;
    links = link-is;
    conduction = links-length parts sound number lt;
    states = sym (states-length parts sound number lt s fits);
    settling = λ nets same. subst (λ n. IsSettlingIsland (island_at parts number).shape n (charges_of s.nets))
        (length-replicate nets undriven)
        (settling-island parts sound number lt s fits (replicate nets undriven) (length-replicate nets undriven ∙ same));
  }

  pub can-settle : (s : IslandState) → FitsIsland parts number s → (island : Island) → slice_get parts.islands number ≡ Some island →
      CanSettle parts island s
  can-settle s fits island is =
      subst (λ i. CanSettle parts i s) (get_or_from_slice_get parts.islands number island no_island is) (can-settle-at s fits)
