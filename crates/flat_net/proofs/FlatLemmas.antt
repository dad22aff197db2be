-- How many islands there are, and what names find.
use Rattle.std.proofs.Common.{◌≡◌, ◌<◌, ◌≤◌, ℕ, suc, Bool, true, false, List, [], ◌∷◌, length, map, get_or, Some, None, refl, sym, ap, ◌∙◌, arith}
use Rattle.std.specs.Prelude.{Option, slice_get, if◌then◌else◌}
use Rattle.std.specs.Option.{option_map}
use Rattle.std.proofs.lemmas.Option.{slice_get_within, slice_get-get_or}
use Rattle.indexmap.proofs.IndexTableLemmas.Probe.{pigeonhole}
use Rattle.name_table.specs.Names.{index_of, same_name}
use Rattle.flat_net.specs.declared.parts.NetPart.{NetPart}
use Rattle.flat_net.specs.declared.parts.Element.{Element}
use Rattle.flat_net.specs.declared.parts.Island.{Island}
use Rattle.flat_net.specs.declared.parts.Find.{Find}
use Rattle.flat_net.specs.Lists.{EachAt}
use Rattle.flat_net.specs.Islands.{IsIsland}
use Rattle.flat_net.specs.Names.{nets_found, nets_at}
use Rattle.flat_net.proofs.Somes.{some_of, there}

first_net : Option Island → ℕ
first_net None = 0
first_net (Some island) = get_or island.nets 0 0

module _ (nets : List NetPart) (elements : List Element) (islands : List Island) (held : EachAt (IsIsland nets elements) islands) where
  -- the first net of an island names the island
  first_at : (k : ℕ) → k < length islands → (part : NetPart) × (slice_get nets (first_net (slice_get islands k)) ≡ Some part) × (part.island ≡ k)
  unfolding first_net
  first_at k lt =
      let i = there islands k lt in
      let filled = (held k i.0 i.1).filled in
      let at = slice_get-get_or i.0.nets 0 0 filled in
      let p = some_of (λ (part : NetPart). (part.island ≡ k) × (part.place ≡ 0)) (slice_get nets (get_or i.0.nets 0 0)) ((held k i.0 i.1).places 0 (get_or i.0.nets 0 0) at) in
      (p.0, ap (λ (o : Option Island). slice_get nets (first_net o)) i.1 ∙ p.1, p.2.0)

  same_island : (a b : NetPart) → (let s : Option NetPart = Some a in s) ≡ Some b → a.island ≡ b.island
  same_island a b e = let same : a ≡ b = cc in ap (λ (p : NetPart). p.island) same

  -- each island has a net of its own
  pub few_islands : length islands ≤ length nets
  few_islands =
      pigeonhole (length islands) (length nets) (λ k. first_net (slice_get islands k))
      (λ k lt. let f = first_at k lt in slice_get_within nets (first_net (slice_get islands k)) f.0 f.1)
      (λ i j i-lt j-lt e.
      let f = first_at i i-lt in
      let g = first_at j j-lt in
      let same = same_island f.0 g.0 (sym f.1 ∙ ap (λ (n : ℕ). slice_get nets n) e ∙ g.1) in
      sym f.2 ∙ same ∙ g.2)

later : (found : Find) (finds : List Find) (place : Option ℕ) → nets_at (found ∷ finds) (option_map suc place) ≡ nets_at finds place
later found finds None = refl
later found finds (Some place) = refl

found_by : (found : Find) (finds : List Find) (rest : List ℕ) (place : Option ℕ) (same : Bool) → rest ≡ nets_at finds place
    → (if same then found.nets else rest) ≡ nets_at (found ∷ finds) (if same then Some 0 else option_map suc place)
found_by found finds rest place true e = refl
found_by found finds rest place false e = e ∙ sym (later found finds place)

within_by : (n : ℕ) (same : Bool) (rest : Option ℕ) → ((k : ℕ) → rest ≡ Some k → k < n) → (place : ℕ)
    → (if same then Some 0 else option_map suc rest) ≡ Some place → place < suc n
within_by n true rest h place e = let f : 0 ≡ place = cc in omega arith
within_by n false None h place e = absurd (let f : None ≡ Some place = e in cc)
within_by n false (Some k) h place e = let f : suc k ≡ place = cc in let lt : k < n = h k refl in omega arith

pub nets_found-place : (finds : List Find) (name : List ℕ) → nets_found finds name ≡ nets_at finds (index_of name (map (λ (found : Find). found.name) finds))
nets_found-place [] name = refl
nets_found-place (found ∷ finds) name =
    found_by found finds (nets_found finds name) (index_of name (map (λ (found : Find). found.name) finds)) (same_name name found.name) (nets_found-place finds name)

-- a name that is there stands within the list
pub index_of-within : (name : List ℕ) (names : List (List ℕ)) (place : ℕ) → index_of name names ≡ Some place → place < length names
index_of-within name [] place e = absurd (let f : None ≡ Some place = e in cc)
index_of-within name (other ∷ names) place e = within_by (length names) (same_name name other) (index_of name names) (λ k. index_of-within name names k) place e
