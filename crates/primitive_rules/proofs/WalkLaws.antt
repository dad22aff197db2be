-- The first places over the primitives that are reached.
use Rattle.std.proofs.Common.{◌≡◌, ℕ, suc, ◌+◌, ◌<◌, ◌≤◌, Bool, true, false, List, [], ◌∷◌, ◌++◌, length, get_or, drop, Option, Some, None, refl, sym, ap, ◌∙◌, arith, inl, inr, add-one, drop-cons}
use Rattle.std.specs.List.{flat_map, items_where_true}
use Rattle.std.proofs.lemmas.Bool.{cases_lt}
use Rattle.std.proofs.lemmas.List.{drop_all, get_or_past}
use Rattle.v_tree.specs.declared.locations.Location.{Location}
use Rattle.v_tree.specs.declared.primitives.UdpDecl.{UdpDecl}
use Rattle.rule_places.specs.Places.{earliest, first_place}
use Rattle.rule_places.proofs.PlaceLaws.{earliest_none, earliest_assoc, first_place-append}
use Rattle.primitive_rules.specs.declared.places.PrimitivePlaces.{PrimitivePlaces}
use Rattle.primitive_rules.specs.Refusals.{table_places}
use Rattle.primitive_rules.specs.Places.{header_places, primitive_places}
use Rattle.primitive_rules.specs.Walks.{no_places, with_places, with_udp, with_all}

-- one more primitive
pub with_all-step : (places : PrimitivePlaces) (reached : List Bool) (udps : List UdpDecl) (i : ℕ) (u : UdpDecl) → i < length udps → get_or udps i u ≡ u →
    with_all places (drop i reached) (drop i udps) ≡ with_all (with_udp places (get_or reached i false) u) (drop (i + 1) reached) (drop (i + 1) udps)
with_all-step places reached udps i u lt at =
    ap (λ (us : List UdpDecl). with_all places (drop i reached) us) (drop-cons udps i u lt ∙ ap (λ (v : UdpDecl). v ∷ drop (suc i) udps) at)
    ∙ (elim (cases_lt i (length reached)) [
      | inl within ↦ ap (λ (bs : List Bool). with_all places bs (u ∷ drop (suc i) udps)) (drop-cons reached i false within)
      | inr past ↦
          ap (λ (bs : List Bool). with_all places bs (u ∷ drop (suc i) udps)) (drop_all i reached past)
          ∙ sym (ap (λ (b : Bool). with_all (with_udp places b u) (drop (suc i) reached) (drop (suc i) udps)) (get_or_past reached i false past)
          ∙ ap (λ (bs : List Bool). with_all places bs (drop (suc i) udps)) (drop_all (suc i) reached (omega arith)))
    ]
    ∙ ap (λ (n : ℕ). with_all (with_udp places (get_or reached i false) u) (drop n reached) (drop n udps)) (sym (add-one i)))

-- the end of the walk
pub with_all-end : (places : PrimitivePlaces) (reached : List Bool) (udps : List UdpDecl) (i : ℕ) → length udps ≤ i → with_all places (drop i reached) (drop i udps) ≡ places
with_all-end places reached udps i le =
    ap (λ (us : List UdpDecl). with_all places (drop i reached) us) (drop_all i udps le) ∙ by (drop i reached)
  where
    by : (bs : List Bool) → with_all places bs [] ≡ places
    by [] = refl
    by (b ∷ bs) = refl

-- the first places of one rule, primitive by primitive, are the first of its places in all that are reached
module _ (field : PrimitivePlaces → Option Location) (places_of : UdpDecl → List Location)
    (apart : (places : PrimitivePlaces) (u : UdpDecl) → field (with_places places u) ≡ earliest (field places) (first_place (places_of u))) where
  among_reached : (so_far : PrimitivePlaces) (reached : List Bool) (udps : List UdpDecl) →
      field (with_all so_far reached udps) ≡ earliest (field so_far) (first_place (flat_map places_of (items_where_true reached udps)))
  among_reached so_far [] udps = sym (earliest_none (field so_far))
  among_reached so_far (b ∷ reached) [] = sym (earliest_none (field so_far))
  among_reached so_far (true ∷ reached) (u ∷ udps) =
      let rest : Option Location = first_place (flat_map places_of (items_where_true reached udps)) in
      among_reached (with_places so_far u) reached udps
      ∙ ap (λ (first : Option Location). earliest first rest) (apart so_far u)
      ∙ earliest_assoc (field so_far) (first_place (places_of u)) rest
      ∙ ap (λ (here : Option Location). earliest (field so_far) here) (sym (first_place-append (places_of u) (flat_map places_of (items_where_true reached udps))))
  among_reached so_far (false ∷ reached) (u ∷ udps) = among_reached so_far reached udps

-- the first places, primitive by primitive, are those of the rules over all that are reached
pub with_all-reached : (reached : List Bool) (udps : List UdpDecl) → with_all no_places reached udps ≡ primitive_places reached udps
with_all-reached reached udps =
    let tables = among_reached (λ (p : PrimitivePlaces). p.tables) table_places (λ p u. refl) no_places reached udps in
    let headers = among_reached (λ (p : PrimitivePlaces). p.headers) header_places (λ p u. refl) no_places reached udps in
    same (with_all no_places reached udps) (primitive_places reached udps) tables headers
  where
    made : (t h : Option Location) → PrimitivePlaces
    made t h = record { tables = t; headers = h }

    same : (a b : PrimitivePlaces) → a.tables ≡ b.tables → a.headers ≡ b.headers → a ≡ b
    same a b t h = let joined : made a.tables a.headers ≡ made b.tables b.headers = cc in joined
