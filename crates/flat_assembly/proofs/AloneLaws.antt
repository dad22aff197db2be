-- A net at no end of a bidirectional switch is an island by itself.
use Rattle.std.proofs.Common.{◌≡◌, ◌<◌, ℕ, zero, suc, List, [], ◌∷◌, length, Some, None, refl, sym, ap, subst, ◌∙◌, arith}
use Rattle.std.specs.Prelude.{Option, slice_get}
use Rattle.std.specs.Option.{IsSomeAnd, option_map}
use Rattle.std.specs.List.{AllByRecursion, AllZip, Contains, cons_option}
use Rattle.net_groups.specs.Joins.{IsJoined, Stay, Ahead, Back}
use Rattle.net_settle.specs.declared.shape.Link.{Link}
use Rattle.flat_net.specs.Elements.{end_nets, switch_ends}
use Rattle.flat_net.specs.Islands.{IsIsland, IsLink}
use Rattle.flat_net.specs.Soundness.{AreJoined, island_of}
use Rattle.flat_net.specs.declared.parts.Element.{Element}
use Rattle.flat_net.specs.declared.parts.Island.{Island}
use Rattle.flat_net.specs.declared.parts.NetPart.{NetPart}
use Rattle.flat_net.specs.declared.parts.Parts.{Parts}
use Rattle.flat_net.proofs.Somes.{some_of}
use Rattle.flattening_laws.proofs.Apart.{All_from_each, each_at}

-- the net is at no end of these elements
abbrev pub IsNoEnd : ℕ → List Element → Type 0
IsNoEnd net elements = AllByRecursion (λ e. AllByRecursion (λ end. end ≡ net → ⊥) (end_nets e.ends)) elements

abbrev Misses : ℕ → ℕ × ℕ → Type 0
Misses net pair = (pair.0 ≡ net → ⊥) × (pair.1 ≡ net → ⊥)

module _ (net : ℕ) where
  missed : (elements : List Element) → IsNoEnd net elements → AllByRecursion (Misses net) (switch_ends elements)
  missed [] h = tt
  missed (e ∷ elements) h = by_ends e.ends h.0 (missed elements h.1)
    where
      by_ends : (ends : Option (ℕ × ℕ)) → AllByRecursion (λ end. end ≡ net → ⊥) (end_nets ends) → AllByRecursion (Misses net) (switch_ends elements) → AllByRecursion (Misses net) (cons_option ends (switch_ends elements))
      by_ends None d rest = rest
      by_ends (Some ends) d rest = ((d.0, d.1.0), rest)

  not_there : (pairs : List (ℕ × ℕ)) (pair : ℕ × ℕ) → AllByRecursion (Misses net) pairs → Contains pairs pair → Misses net pair
  not_there pairs pair h c = subst (Misses net) c.2 (All_from_each (Misses net) pairs h c.0 pair c.1)

  -- nothing else is joined with it
  stays : (elements : List Element) (other : ℕ) → IsNoEnd net elements → IsJoined (switch_ends elements) net other → net ≡ other
  stays elements other h Stay = refl
  stays elements other h (Ahead {b = b} step rest) = absurd ((not_there (switch_ends elements) (net, b) (missed elements h) step).0 refl)
  stays elements other h (Back {b = b} step rest) = absurd ((not_there (switch_ends elements) (b, net) (missed elements h) step).1 refl)

-- ---- its island

two_places : (a b c : ℕ) → a ≡ c → b ≡ c → a ≡ b
two_places a b c e f = e ∙ sym f

island_is : (nets : List NetPart) (net : ℕ) (part : NetPart) → slice_get nets net ≡ Some part → island_of nets net ≡ Some part.island
island_is nets net part e = ap (λ (o : Option NetPart). option_map (λ p. p.island) o) e

some_there : {X : Type 0} (xs : List X) (k : ℕ) (x : X) → slice_get xs k ≡ Some x → k < length xs
some_there [] k x e = absurd (let n : None ≡ Some x = e in cc)
some_there (y ∷ ys) zero x e = omega arith
some_there (y ∷ ys) (suc k) x e = let less = some_there ys k x e in omega arith

same_some : {X : Type 0} (x y : X) → Some x ≡ Some y → x ≡ y
same_some x y e = cc

module _ (parts : Parts) (joined : AreJoined parts) (number : ℕ) (island : Island) (is : IsIsland parts.nets parts.elements number island)
    (net : ℕ) (part : NetPart) (here : slice_get parts.nets net ≡ Some part) (in_it : part.island ≡ number) (no_end : IsNoEnd net parts.elements) where
  -- what stands in the island is the net
  only : (place other : ℕ) → slice_get island.nets place ≡ Some other → (net ≡ other) × (place ≡ part.place)
  only place other at =
      let found = some_of (λ p. (p.island ≡ number) × (p.place ≡ place)) (slice_get parts.nets other) (is.places place other at) in
      let q = found.0 in
      let there = found.1 in
      let same_island : island_of parts.nets net ≡ island_of parts.nets other = island_is parts.nets net part here ∙ ap (λ k. Some k) (in_it ∙ sym found.2.0) ∙ sym (island_is parts.nets other q there) in
      let walk = (joined net other (some_there parts.nets net part here) (some_there parts.nets other q there)).0 same_island in
      let same : net ≡ other = stays net parts.elements other no_end walk in
      let parts_same : part ≡ q = same_some part q (sym here ∙ ap (slice_get parts.nets) same ∙ there) in
      (same, sym found.2.1 ∙ ap (λ p. p.place) (sym parts_same))

  one_net : length island.nets ≡ 1
  one_net = by_list island.nets refl is.filled
    where
      by_list : (nets : List ℕ) → island.nets ≡ nets → 0 < length nets → length nets ≡ 1
      by_list [] e filled = absurd (omega arith)
      by_list (a ∷ []) e filled = refl
      by_list (a ∷ (b ∷ rest)) e filled =
          let first = (only 0 a (ap (λ (ns : List ℕ). slice_get ns 0) e)).1 in
          let second = (only 1 b (ap (λ (ns : List ℕ). slice_get ns 1) e)).1 in
          absurd (let never : 0 ≡ 1 = two_places 0 1 part.place first second in omega arith)

  no_link : (element : ℕ) (link : Link) → IsLink parts.elements island.nets element link → ⊥
  no_link element link at =
      let found = some_of (λ e. IsSomeAnd e.ends (λ ends. (slice_get island.nets link.a ≡ Some ends.0) × (slice_get island.nets link.b ≡ Some ends.1))) (slice_get parts.elements element) at in
      let e = found.0 in
      let ends = some_of (λ ends. (slice_get island.nets link.a ≡ Some ends.0) × (slice_get island.nets link.b ≡ Some ends.1)) e.ends found.2 in
      let free = each_at (λ (x : Element). AllByRecursion (λ end. end ≡ net → ⊥) (end_nets x.ends)) parts.elements element e no_end found.1 in
      let free_ends : AllByRecursion (λ end. end ≡ net → ⊥) (end_nets (Some ends.0)) = subst (λ (o : Option (ℕ × ℕ)). AllByRecursion (λ end. end ≡ net → ⊥) (end_nets o)) ends.1 free in
      free_ends.0 (sym (only link.a ends.0.0 ends.2.0).0)

  no_links : island.links ≡ []
  no_links = by_lists island.links island.shape.links is.links
    where
      by_lists : (elements : List ℕ) (links : List Link) → AllZip (IsLink parts.elements island.nets) elements links → elements ≡ []
      by_lists [] links z = refl
      by_lists (element ∷ elements) [] z = absurd z
      by_lists (element ∷ elements) (link ∷ links) z = absurd (no_link element link z.0)

  pub island-alone : (length island.nets ≡ 1) × (island.links ≡ [])
  island-alone = (one_net, no_links)
