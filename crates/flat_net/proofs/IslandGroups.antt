-- The nets of each island are those that switches join, exactly where each net has the least net of its island's first one
-- and stands with it.
use Rattle.std.proofs.Common.{◌≡◌, ◌<◌, ◌≤◌, ℕ, ◌&&◌, ◌==◌, List, length, get_or, Some, sym, ap, subst, ◌∙◌, arith}
use Rattle.std.specs.Prelude.{◌↔◌, Option, slice_get}
use Rattle.std.specs.Bool.{Decides}
use Rattle.std.specs.Option.{IsSomeAnd, option_map}
use Rattle.std.proofs.lemmas.Option.{slice_get_within, slice_get-get_or, get_or_from_slice_get}
use Rattle.std.proofs.lemmas.Bool.Decides.{Decides-and, Decides-like, Decides-eqb}
use Rattle.net_groups.specs.Joins.{IsJoined, AreGroups}
use Rattle.net_groups.proofs.Laws.{same_least, joined_by_least, least_below}
use Rattle.flat_net.specs.declared.parts.NetPart.{NetPart}
use Rattle.flat_net.specs.declared.parts.Element.{Element}
use Rattle.flat_net.specs.declared.parts.Island.{Island}
use Rattle.flat_net.specs.Lists.{EachAt}
use Rattle.flat_net.specs.Islands.{IsIsland}
use Rattle.flat_net.specs.Soundness.{IsNet, island_of}
use Rattle.flat_net.specs.Tests.{some_and, all_at, is_at, joins_first, stands_with_least, is_grouped}
use Rattle.flat_net.proofs.Somes.{some_of, and_some, there}
use Rattle.flat_net.proofs.Decisions.{Decides-some_and, Decides-all_at}
use Rattle.flat_net.proofs.IslandDecisions.{Decides-is_at}

module _ (nets : List NetPart) (islands : List Island) (least : List ℕ) where
  abbrev HasLeast : ℕ → ℕ → Type 0
  HasLeast number other = slice_get least number ≡ Some other

  abbrev JoinsFirst : ℕ → Island → Type 0
  JoinsFirst number island = IsSomeAnd (slice_get island.nets 0) (λ first. IsSomeAnd (slice_get least first) (HasLeast number))

  abbrev IsNear : NetPart → ℕ → Type 0
  IsNear part other = IsSomeAnd (slice_get nets other) (λ (near : NetPart). near.island ≡ part.island)

  abbrev StandsWithLeast : ℕ → NetPart → Type 0
  StandsWithLeast number part = IsSomeAnd (slice_get least number) (IsNear part)

  abbrev IsGrouped : ℕ → NetPart → Type 0
  IsGrouped number part = IsSomeAnd (slice_get islands part.island) (λ island. JoinsFirst number island × StandsWithLeast number part)

  Decides-joins_first : (number : ℕ) (island : Island) → Decides (joins_first island least number) (JoinsFirst number island)
  Decides-joins_first number island =
      Decides-some_and (λ first. some_and (λ other. is_at least number other) (slice_get least first)) (λ first. IsSomeAnd (slice_get least first) (HasLeast number))
      (λ first. Decides-some_and (λ other. is_at least number other) (HasLeast number) (λ other. Decides-is_at least number other) (slice_get least first))
      (slice_get island.nets 0)

  Decides-stands_with_least : (number : ℕ) (part : NetPart) → Decides (stands_with_least nets least number part) (StandsWithLeast number part)
  Decides-stands_with_least number part =
      Decides-some_and (λ other. some_and (λ (near : NetPart). near.island == part.island) (slice_get nets other)) (IsNear part)
      (λ other. Decides-some_and (λ (near : NetPart). near.island == part.island) (λ (near : NetPart). near.island ≡ part.island) (λ near. Decides-eqb near.island part.island) (slice_get nets other))
      (slice_get least number)

  Decides-is_grouped : (number : ℕ) (part : NetPart) → Decides (is_grouped nets islands least number part) (IsGrouped number part)
  Decides-is_grouped number part =
      Decides-some_and (λ (island : Island). joins_first island least number && stands_with_least nets least number part) (λ (island : Island). JoinsFirst number island × StandsWithLeast number part)
      (λ island. Decides-and (joins_first island least number) (stands_with_least nets least number part) (Decides-joins_first number island) (Decides-stands_with_least number part))
      (slice_get islands part.island)

  Decides-all_grouped : Decides (all_at (is_grouped nets islands least) nets) (EachAt IsGrouped nets)
  Decides-all_grouped = Decides-all_at (is_grouped nets islands least) IsGrouped Decides-is_grouped nets

  same_number : (a b : ℕ) → (let s : Option ℕ = Some a in s) ≡ Some b → a ≡ b
  same_number a b e = cc

  module _ (pairs : List (ℕ × ℕ)) (groups : AreGroups (length nets) pairs least) where
    abbrev Joins : Type 0
    Joins = (a b : ℕ) → a < length nets → b < length nets → (island_of nets a ≡ island_of nets b) ↔ IsJoined pairs a b

    least_at : (a : ℕ) → a < length nets → slice_get least a ≡ Some (get_or least a 0)
    least_at a lt = slice_get-get_or least a 0 (subst (λ (n : ℕ). a < n) (sym groups.all) lt)

    island_at : (a : ℕ) (part : NetPart) → slice_get nets a ≡ Some part → island_of nets a ≡ Some part.island
    island_at a part e = ap (λ (o : Option NetPart). option_map (λ (p : NetPart). p.island) o) e

    -- the least net of all nets of an island
    module _ (each : EachAt IsGrouped nets) where
      least_of_island : (a : ℕ) (part : NetPart) → slice_get nets a ≡ Some part →
          (island : Island) × (first other : ℕ) × (slice_get islands part.island ≡ Some island) × (slice_get island.nets 0 ≡ Some first)
          × (slice_get least first ≡ Some other) × (slice_get least a ≡ Some other)
      least_of_island a part e =
          let g = some_of (λ (island : Island). JoinsFirst a island × StandsWithLeast a part) (slice_get islands part.island) (each a part e) in
          let f = some_of (λ (first : ℕ). IsSomeAnd (slice_get least first) (HasLeast a)) (slice_get g.0.nets 0) g.2.0 in
          let o = some_of (HasLeast a) (slice_get least f.0) f.2 in
          (g.0, f.0, o.0, g.1, f.1, o.1, o.2)

      near_least : (a : ℕ) (part : NetPart) → slice_get nets a ≡ Some part →
          (other : ℕ) × (near : NetPart) × (slice_get least a ≡ Some other) × (slice_get nets other ≡ Some near) × (near.island ≡ part.island)
      near_least a part e =
          let g = some_of (λ (island : Island). JoinsFirst a island × StandsWithLeast a part) (slice_get islands part.island) (each a part e) in
          let o = some_of (IsNear part) (slice_get least a) g.2.1 in
          let n = some_of (λ (near : NetPart). near.island ≡ part.island) (slice_get nets o.0) o.2 in
          (o.0, n.0, o.1, n.1, n.2)

      joined_from : (a b : ℕ) → a < length nets → b < length nets → island_of nets a ≡ island_of nets b → IsJoined pairs a b
      joined_from a b a-lt b-lt e =
          let p = there nets a a-lt in
          let q = there nets b b-lt in
          let same : p.0.island ≡ q.0.island = same_number p.0.island q.0.island (sym (island_at a p.0 p.1) ∙ e ∙ island_at b q.0 q.1) in
          let f = least_of_island a p.0 p.1 in
          let g = least_of_island b q.0 q.1 in
          let islands_same : slice_get islands p.0.island ≡ slice_get islands q.0.island = ap (λ (n : ℕ). slice_get islands n) same in
          let leasts : slice_get least a ≡ slice_get least b = cc in
          let first : get_or least a 0 ≡ f.2 = get_or_from_slice_get least a f.2 0 f.6 in
          let second : get_or least b 0 ≡ f.2 = get_or_from_slice_get least b f.2 0 (sym leasts ∙ f.6) in
          joined_by_least (length nets) pairs least groups a b a-lt b-lt (first ∙ sym second)

      joined_to : (a b : ℕ) → a < length nets → b < length nets → IsJoined pairs a b → island_of nets a ≡ island_of nets b
      joined_to a b a-lt b-lt walk =
          let p = there nets a a-lt in
          let q = there nets b b-lt in
          let same : get_or least a 0 ≡ get_or least b 0 = same_least (length nets) pairs least groups a b a-lt b-lt walk in
          let leasts : slice_get least a ≡ slice_get least b = least_at a a-lt ∙ ap (λ (n : ℕ). Some n) same ∙ sym (least_at b b-lt) in
          let f = near_least a p.0 p.1 in
          let g = near_least b q.0 q.1 in
          let others : f.0 ≡ g.0 = same_number f.0 g.0 (sym f.2 ∙ leasts ∙ g.2) in
          let nears : slice_get nets f.0 ≡ slice_get nets g.0 = ap (λ (n : ℕ). slice_get nets n) others in
          let near : f.1 ≡ g.1 = cc in
          let islands_same : p.0.island ≡ q.0.island = sym f.4 ∙ ap (λ (n : NetPart). n.island) near ∙ g.4 in
          island_at a p.0 p.1 ∙ ap (λ (n : ℕ). Some n) islands_same ∙ sym (island_at b q.0 q.1)

      pub joins_from_grouped : Joins
      joins_from_grouped a b a-lt b-lt = (joined_from a b a-lt b-lt, joined_to a b a-lt b-lt)

    module _ (elements : List Element) (placed : EachAt (IsNet islands) nets) (held : EachAt (IsIsland nets elements) islands) (joins : Joins) where
      joins_first_net : (a : ℕ) (part : NetPart) → slice_get nets a ≡ Some part → (island : Island) → slice_get islands part.island ≡ Some island → JoinsFirst a island
      joins_first_net a part e island ei =
          let lt : a < length nets = slice_get_within nets a part e in
          let filled = (held part.island island ei).filled in
          let f = there island.nets 0 filled in
          let p = some_of (λ (first : NetPart). (first.island ≡ part.island) × (first.place ≡ 0)) (slice_get nets f.0) ((held part.island island ei).places 0 f.0 f.1) in
          let f-lt : f.0 < length nets = slice_get_within nets f.0 p.0 p.1 in
          let same : island_of nets f.0 ≡ island_of nets a = island_at f.0 p.0 p.1 ∙ ap (λ (n : ℕ). Some n) p.2.0 ∙ sym (island_at a part e) in
          let leasts : get_or least f.0 0 ≡ get_or least a 0 = same_least (length nets) pairs least groups f.0 a f-lt lt ((joins f.0 a f-lt lt).0 same) in
          and_some (λ (first : ℕ). IsSomeAnd (slice_get least first) (HasLeast a)) (slice_get island.nets 0) f.0 f.1
          (and_some (HasLeast a) (slice_get least f.0) (get_or least f.0 0) (least_at f.0 f-lt) (least_at a lt ∙ ap (λ (n : ℕ). Some n) (sym leasts)))

      stands_near : (a : ℕ) (part : NetPart) → slice_get nets a ≡ Some part → StandsWithLeast a part
      stands_near a part e =
          let lt : a < length nets = slice_get_within nets a part e in
          let le : get_or least a 0 ≤ a = least_below (length nets) pairs least groups a lt in
          let o-lt : get_or least a 0 < length nets = omega arith in
          let p = there nets (get_or least a 0) o-lt in
          let same : island_of nets a ≡ island_of nets (get_or least a 0) = (joins a (get_or least a 0) lt o-lt).1 (groups.each a lt).joined in
          let near : p.0.island ≡ part.island = same_number p.0.island part.island (sym (island_at (get_or least a 0) p.0 p.1) ∙ sym same ∙ island_at a part e) in
          and_some (IsNear part) (slice_get least a) (get_or least a 0) (least_at a lt)
          (and_some (λ (n : NetPart). n.island ≡ part.island) (slice_get nets (get_or least a 0)) p.0 p.1 near)

      pub grouped_from_joins : EachAt IsGrouped nets
      grouped_from_joins a part e =
          let i = some_of (λ (island : Island). slice_get island.nets part.place ≡ Some a) (slice_get islands part.island) (placed a part e).place in
          and_some (λ (island : Island). JoinsFirst a island × StandsWithLeast a part) (slice_get islands part.island) i.0 i.1
          (joins_first_net a part e i.0 i.1, stands_near a part e)

    pub Decides-joins : (elements : List Element) → EachAt (IsNet islands) nets → EachAt (IsIsland nets elements) islands → Decides (all_at (is_grouped nets islands least) nets) Joins
    Decides-joins elements placed held =
        Decides-like (all_at (is_grouped nets islands least) nets) (λ (h : EachAt IsGrouped nets). joins_from_grouped h)
        (λ (h : Joins). grouped_from_joins elements placed held h) Decides-all_grouped
