-- The parts of a flat netlist by what a flattening adds are sound.
use Rattle.std.proofs.Common.{◌≡◌, ◌<◌, ◌≤◌, ℕ, zero, suc, List, [], ◌∷◌, ◌++◌, length, map, Some, None, refl, sym, ap, subst, ◌∙◌, arith}
use Rattle.std.specs.Prelude.{slice_get, nat_eq, ◌&&◌, Bool, true, false, not, if◌then◌else◌}
use Rattle.std.specs.Option.{IsSomeAnd}
use Rattle.std.specs.List.{All, AllByRecursion, range_with_len, zip}
use Rattle.delay_rule.specs.declared.delays.Delays.{Delays}
use Rattle.level_range.specs.declared.range.Kind.TheVariants.{Plain}
use Rattle.udp_table.specs.Primitive.{Primitive}
use Rattle.flat_net.specs.Elements.{IsElement, end_nets, pin_nets}
use Rattle.flat_net.specs.Islands.{HasCharge, combination_kind}
use Rattle.flat_net.specs.Soundness.{AreCells, AreDistinctNets, AreNames, IsFind, IsSound, greatest_count}
use Rattle.flat_net.specs.declared.parts.Element.{Element}
use Rattle.flat_net.specs.declared.parts.Island.{Island}
use Rattle.flat_net.specs.declared.parts.NetPart.{NetPart}
use Rattle.flat_net.specs.declared.parts.Parts.{Parts}
use Rattle.flat_net.proofs.Somes.{some_of, and_some}
use Rattle.net_groups.specs.Joins.{AreGroups}
use Rattle.flat_net.specs.Elements.{switch_ends}
use Rattle.net_islands.specs.declared.parts.NetClass.{NetClass}
use Rattle.net_islands.specs.declared.parts.NetPlace.{NetPlace}
use Rattle.net_islands.specs.Leasts.{island_numbers, leasts, places}
use Rattle.net_islands.specs.Islands.{HasNets, grouping}
use Rattle.net_islands.specs.Parts.{AreGrouped, class_of, place_of}
use Rattle.net_islands.proofs.ItemLemmas.{AreBelow-ends}
use Rattle.net_islands.proofs.LeastLemmas.{AreGroups-leasts}
use Rattle.net_islands.proofs.Laws.{Gives-islands, Gives-places, Gives-joined, Gives-drives, Gives-links}
use Rattle.net_islands.proofs.Numbers.{numbers-length, places-length}
use Rattle.netlist_plan.specs.declared.claims.NetClaim.{NetClaim}
use Rattle.netlist_plan.specs.Additions.{Additions}
use Rattle.netlist_plan.specs.Claims.{claim_on, is_plain}
use Rattle.flattening_laws.proofs.Numbers.{length_append, length_map, length_range}
use Rattle.flattening_laws.specs.SoundAdditions.{AreSoundAdditions, IsClaim}
use Rattle.flattening_laws.proofs.Apart.{All_from_each, each_at, each_from_All, each_weaker}
use Rattle.flat_assembly.specs.Assembly.{HavePlainEnds, class_at, classes, flat_parts, net_claims, net_part, parts_with}
use Rattle.flat_assembly.proofs.AloneLaws.{IsNoEnd, island-alone}

-- ---- claims

abbrev HasClaimCharge : NetClaim → Type 0
HasClaimCharge claim = HasCharge claim.class.kind claim.class.charge

claim_charge : (claims : List (ℕ × NetClaim)) (net : ℕ) → AllByRecursion (λ (c : ℕ × NetClaim). HasClaimCharge c.1) claims → HasClaimCharge (claim_on claims net)
claim_charge [] net h = refl
claim_charge ((other, claim) ∷ claims) net h = by_test (claim_charge claims net h.1) (nat_eq other net && not (is_plain claim))
  where
    by_test : HasClaimCharge (claim_on claims net) → (b : Bool) → HasClaimCharge (if b then claim else claim_on claims net)
    by_test rest true = h.0
    by_test rest false = rest

length_zip : {X Y : Type 0} (xs : List X) (ys : List Y) → length xs ≡ length ys → length (zip xs ys) ≡ length xs
length_zip [] ys e = refl
length_zip (x ∷ xs) [] e = absurd (omega arith)
length_zip (x ∷ xs) (y ∷ ys) e = ap suc (length_zip xs ys (omega arith))

-- ---- elements

each_left : (P : ℕ → Type 0) (xs ys : List ℕ) → AllByRecursion P (xs ++ ys) → AllByRecursion P xs
each_left P [] ys h = tt
each_left P (x ∷ xs) ys h = (h.0, each_left P xs ys h.1)

each_right : (P : ℕ → Type 0) (xs ys : List ℕ) → AllByRecursion P (xs ++ ys) → AllByRecursion P ys
each_right P [] ys h = h
each_right P (x ∷ xs) ys h = each_right P xs ys h.1

has_nets : (udps : List Primitive) (count : ℕ) (e : Element) → IsElement count udps e → HasNets count e
has_nets udps count e is =
    let all = each_from_All (λ net. net < count) (pin_nets e) is.nets in
    let front = each_left (λ net. net < count) (end_nets e.ends ++ e.outs) e.ins all in
    let whole = length_append (end_nets e.ends ++ e.outs) e.ins in
    let part = length_append (end_nets e.ends) e.outs in
    let few = is.few in
    record {
      few = omega arith;
      outs = All_from_each (λ net. net < count) e.outs (each_right (λ net. net < count) (end_nets e.ends) e.outs front);
      ends = All_from_each (λ net. net < count) (end_nets e.ends) (each_left (λ net. net < count) (end_nets e.ends) e.outs front);
    }

module _ (none : Delays) (udps : List Primitive) (claims : List NetClaim) (inputs outputs : List ℕ) (a : Additions)
    (sound : AreSoundAdditions udps a) (all : length claims ≡ length a.net_names) (charges : AllByRecursion HasClaimCharge claims) where
  class_count : length (map (λ (claim : NetClaim). claim.class) claims) ≡ length a.net_names
  class_count = length_map (λ (claim : NetClaim). claim.class) claims ∙ all

  valid : All (HasNets (length (map (λ (claim : NetClaim). claim.class) claims))) a.elements
  valid = subst (λ k. All (HasNets k) a.elements) (sym class_count)
      (All_from_each (HasNets (length a.net_names)) a.elements (each_weaker (IsElement (length a.net_names) udps) (HasNets (length a.net_names)) a.elements (has_nets udps (length a.net_names)) (each_from_All (IsElement (length a.net_names) udps) a.elements sound.elements)))

  abbrev given : List NetClass
  given = map (λ (claim : NetClaim). claim.class) claims

  abbrev where_they_are : List NetPlace
  where_they_are = (grouping given a.elements a.resistive).places

  place_count : length where_they_are ≡ length claims
  place_count =
      let least = leasts (length given) (switch_ends a.elements) in
      let groups : AreGroups (length given) (switch_ends a.elements) least = AreGroups-leasts (length given) (switch_ends a.elements) (AreBelow-ends (length given) a.elements valid) in
      let numbers = numbers-length (length given) (switch_ends a.elements) least groups in
      let within = places-length (length given) (switch_ends a.elements) least groups in
      length_map (λ (net : ℕ × ℕ). record { island = net.0; place = net.1 }) (zip (island_numbers least) (places (island_numbers least)))
      ∙ length_zip (island_numbers least) (places (island_numbers least)) (numbers ∙ sym within)
      ∙ numbers ∙ length_map (λ (claim : NetClaim). claim.class) claims

  abbrev whole : Parts
  whole = parts_with none claims udps inputs outputs a

  classes_are : (cs : List NetClaim) (ps : List NetPlace) → length ps ≡ length cs → map class_of (map (net_part none) (zip cs ps)) ≡ map (λ (claim : NetClaim). claim.class) cs
  classes_are [] ps e = refl
  classes_are (c ∷ cs) [] e = absurd (omega arith)
  classes_are (c ∷ cs) (p ∷ ps) e = ap (λ xs. c.class ∷ xs) (classes_are cs ps (omega arith))

  places_are : (cs : List NetClaim) (ps : List NetPlace) → length ps ≡ length cs → map place_of (map (net_part none) (zip cs ps)) ≡ ps
  places_are [] [] e = refl
  places_are [] (p ∷ ps) e = absurd (omega arith)
  places_are (c ∷ cs) [] e = absurd (omega arith)
  places_are (c ∷ cs) (p ∷ ps) e = ap (λ xs. p ∷ xs) (places_are cs ps (omega arith))

  charges_are : (cs : List NetClaim) (ps : List NetPlace) → AllByRecursion HasClaimCharge cs → AllByRecursion (λ part. HasCharge part.kind part.charge) (map (net_part none) (zip cs ps))
  charges_are [] ps h = tt
  charges_are (c ∷ cs) [] h = tt
  charges_are (c ∷ cs) (p ∷ ps) h = (h.0, charges_are cs ps h.1)

  net_count : length whole.nets ≡ length a.net_names
  net_count = length_map (net_part none) (zip claims where_they_are) ∙ length_zip claims where_they_are (sym place_count) ∙ all

  grouped : AreGrouped given a.elements (grouping given a.elements a.resistive) whole
  grouped = record {
    nets = classes_are claims where_they_are place_count;
    same_elements = refl;
    places = places_are claims where_they_are place_count;
    islands = refl;
  }

  -- ---- wired nets

  class_there : (nets : List NetPart) (k : ℕ) (part : NetPart) → slice_get nets k ≡ Some part → class_at (map class_of nets) k ≡ class_of part
  class_there [] k part e = absurd (let no : None ≡ Some part = e in cc)
  class_there (p ∷ nets) zero part e = let same : p ≡ part = cc in ap class_of same
  class_there (p ∷ nets) (suc k) part e = class_there nets k part e

  no_ends : (k : ℕ) (part : NetPart) → HavePlainEnds given a.elements → slice_get whole.nets k ≡ Some part → (combination_kind part.kind ≡ Plain → ⊥) → IsNoEnd k a.elements
  no_ends k part plain here wired =
      each_weaker (λ e. All (λ end. combination_kind (class_at given end).kind ≡ Plain) (end_nets e.ends)) (λ e. AllByRecursion (λ end. end ≡ k → ⊥) (end_nets e.ends)) a.elements
      (λ e ends. each_weaker (λ end. combination_kind (class_at given end).kind ≡ Plain) (λ end. end ≡ k → ⊥) (end_nets e.ends)
      (λ end is same.
      let at : class_at given k ≡ class_of part = ap (λ cs. class_at cs k) (sym grouped.nets) ∙ class_there whole.nets k part here in
      wired (ap (λ c. combination_kind c.kind) (sym at) ∙ subst (λ j. combination_kind (class_at given j).kind ≡ Plain) same is))
      (each_from_All (λ end. combination_kind (class_at given end).kind ≡ Plain) (end_nets e.ends) ends))
      (each_from_All (λ e. All (λ end. combination_kind (class_at given end).kind ≡ Plain) (end_nets e.ends)) a.elements plain)

  alone : HavePlainEnds given a.elements → (k : ℕ) (part : NetPart) → slice_get whole.nets k ≡ Some part → (combination_kind part.kind ≡ Plain → ⊥)
      → IsSomeAnd (slice_get whole.islands part.island) (λ island. (length island.nets ≡ 1) × (island.links ≡ []))
  alone plain k part here wired =
      let found = some_of (λ (island : Island). slice_get island.nets part.place ≡ Some k) (slice_get whole.islands part.island)
      (Gives-places given a.elements a.resistive valid whole grouped k part here) in
      let is = Gives-islands given a.elements a.resistive valid whole grouped part.island found.0 found.1 in
      and_some (λ (island : Island). (length island.nets ≡ 1) × (island.links ≡ [])) (slice_get whole.islands part.island) found.0 found.1
      (island-alone whole (Gives-joined given a.elements a.resistive valid whole grouped) part.island found.0 is k part here refl (no_ends k part plain here wired))

  cells : length a.net_names ≤ greatest_count → length a.elements ≤ greatest_count → HavePlainEnds given a.elements → AreCells whole
  cells few_nets few_elements plain = record {
    few_nets = subst (λ k. k ≤ greatest_count) (sym net_count) few_nets;
    few_elements = few_elements;
    elements = subst (λ k. All (IsElement k udps) a.elements) (sym net_count) sound.elements;
    nets = λ k part here. record {
      charge = each_at (λ p. HasCharge p.kind p.charge) whole.nets k part (charges_are claims where_they_are charges) here;
      place = Gives-places given a.elements a.resistive valid whole grouped k part here;
      alone = alone plain k part here;
    };
    islands = Gives-islands given a.elements a.resistive valid whole grouped;
  }

  pub parts-sound : length a.net_names ≤ greatest_count → length a.elements ≤ greatest_count → HavePlainEnds given a.elements
      → AreDistinctNets (length a.net_names) inputs → AreDistinctNets (length a.net_names) outputs → IsSound whole
  parts-sound few_nets few_elements plain ins outs = record {
    cells = cells few_nets few_elements plain;
    joined = Gives-joined given a.elements a.resistive valid whole grouped;
    drives = Gives-drives given a.elements a.resistive valid whole grouped;
    links = Gives-links given a.elements a.resistive valid whole grouped;
    inputs = subst (λ k. AreDistinctNets k inputs) (sym net_count) ins;
    outputs = subst (λ k. AreDistinctNets k outputs) (sym net_count) outs;
    names = record {
      nets = subst (λ k. AreNames k a.net_names) (sym net_count) sound.net_names;
      elements = sound.element_names;
      finds = subst (λ k. All (IsFind k) a.finds) (sym net_count) sound.finds;
      find_names = sound.find_names;
    };
  }

-- ---- the law

claim_charges : (a : Additions) (nets : List ℕ) → AllByRecursion (λ (c : ℕ × NetClaim). HasClaimCharge c.1) a.claims → AllByRecursion HasClaimCharge (map (claim_on a.claims) nets)
claim_charges a [] h = tt
claim_charges a (net ∷ nets) h = (claim_charge a.claims net h, claim_charges a nets h)

-- what a sound flattening adds, with few nets and elements and no wired net at a bidirectional switch, makes sound parts
pub flat_parts-sound : (none : Delays) (udps : List Primitive) (inputs outputs : List ℕ) (a : Additions) → AreSoundAdditions udps a
    → length a.net_names ≤ greatest_count → length a.elements ≤ greatest_count → HavePlainEnds (classes (net_claims a)) a.elements
    → AreDistinctNets (length a.net_names) inputs → AreDistinctNets (length a.net_names) outputs → IsSound (flat_parts none udps inputs outputs a)
flat_parts-sound none udps inputs outputs a sound few_nets few_elements plain ins outs =
    let count : length (net_claims a) ≡ length a.net_names = length_map (claim_on a.claims) (range_with_len 0 (length a.net_names)) ∙ length_range 0 (length a.net_names) in
    let charges = claim_charges a (range_with_len 0 (length a.net_names))
    (each_weaker (IsClaim (length a.net_names)) (λ (c : ℕ × NetClaim). HasClaimCharge c.1) a.claims (λ c is. is.1) (each_from_All (IsClaim (length a.net_names)) a.claims sound.claims)) in
    parts-sound none udps (net_claims a) inputs outputs a sound count charges few_nets few_elements plain ins outs
