-- The numbers of islands: nets have one number exactly where they are joined.
use Rattle.std.proofs.Common.{◌≡◌, ◌<◌, ℕ, List, length, get_or, sym, ap, subst, ◌∙◌, arith, inl, inr}
use Rattle.std.proofs.lemmas.Bool.{cases_order}
use Rattle.std.proofs.lemmas.List.{length-map, get_or-map, get_or_default}
use Rattle.std.proofs.lemmas.List.FromFn.{length-map-range_with_len}
use Rattle.net_groups.specs.Joins.{IsJoined, AreGroups}
use Rattle.net_groups.proofs.Laws.{same_least, joined_by_least, least_below}
use Rattle.net_islands.specs.Leasts.{AreRoots, roots, island_count, island_numbers, place, places}
use Rattle.net_islands.proofs.RootLemmas.{root_count-lt, root-at}

module _ (count : ℕ) (pairs : List (ℕ × ℕ)) (least : List ℕ) (groups : AreGroups count pairs least) where
  pub numbers-length : length (island_numbers least) ≡ count
  numbers-length = length-map least (λ (n : ℕ). length (roots least n)) ∙ groups.all

  pub places-length : length (places (island_numbers least)) ≡ count
  places-length = length-map-range_with_len (place (island_numbers least)) 0 (length (island_numbers least)) ∙ numbers-length

  pub number-at : (net : ℕ) → net < count → get_or (island_numbers least) net 0 ≡ length (roots least (get_or least net 0))
  number-at net lt = get_or-map (λ (n : ℕ). length (roots least n)) least net 0 0 (omega (arith, groups.all))

  pub least-lt : (net : ℕ) → net < count → get_or least net 0 < count
  least-lt net lt = let h = least_below count pairs least groups net lt in omega arith

  pub flat : (net : ℕ) → net < count → get_or least (get_or least net 0) 0 ≡ get_or least net 0
  flat net lt = sym (same_least count pairs least groups net (get_or least net 0) lt (least-lt net lt) (groups.each net lt).joined)

  pub AreRoots-groups : AreRoots least
  AreRoots-groups k d lt =
      let in' : k < count = omega (arith, groups.all) in
      let same : get_or least k d ≡ get_or least k 0 = get_or_default least k d 0 lt in
      subst (λ (n : ℕ). (n < length least) × (get_or least n 0 ≡ n)) (sym same)
      ((let h = least-lt k in' in omega (arith, groups.all)), flat k in')

  pub number-lt : (net : ℕ) → net < count → get_or (island_numbers least) net 0 < island_count least
  number-lt net lt =
      let h = root_count-lt least (get_or least net 0) (length least) (let l = least-lt net lt in omega (arith, groups.all)) (flat net lt) in
      let e = number-at net lt in
      omega arith

  module _ (a b : ℕ) (a-lt : a < count) (b-lt : b < count) where
    same_root : length (roots least (get_or least a 0)) ≡ length (roots least (get_or least b 0)) → get_or least a 0 ≡ get_or least b 0
    same_root e = elim (cases_order (get_or least a 0) (get_or least b 0)) [
      | inl same ↦ same
      | inr (inl lt) ↦ let h = root_count-lt least (get_or least a 0) (get_or least b 0) lt (flat a a-lt) in absurd (omega arith)
      | inr (inr lt) ↦ let h = root_count-lt least (get_or least b 0) (get_or least a 0) lt (flat b b-lt) in absurd (omega arith)
    ]

    pub joined-from : get_or (island_numbers least) a 0 ≡ get_or (island_numbers least) b 0 → IsJoined pairs a b
    joined-from e = joined_by_least count pairs least groups a b a-lt b-lt (same_root (sym (number-at a a-lt) ∙ e ∙ number-at b b-lt))

    pub joined-to : IsJoined pairs a b → get_or (island_numbers least) a 0 ≡ get_or (island_numbers least) b 0
    joined-to walk =
        number-at a a-lt ∙ ap (λ (n : ℕ). length (roots least n)) (same_least count pairs least groups a b a-lt b-lt walk) ∙ sym (number-at b b-lt)

  -- each island has a net
  pub net-of : (key : ℕ) → key < island_count least → (net : ℕ) × (net < count) × (get_or (island_numbers least) net 0 ≡ key)
  net-of key lt =
      let r = root-at least (length least) key lt in
      let in' : r.0 < count = let h = r.1 in omega (arith, groups.all) in
      (r.0, in', number-at r.0 in' ∙ ap (λ (n : ℕ). length (roots least n)) r.2 ∙ r.3)
