-- The nets of the islands: each stands at its place in the list of its island.
use Rattle.std.proofs.Common.{◌≡◌, ◌+◌, ◌<◌, ℕ, ◌==◌, List, length, map, take, get_or, Some, sym, ap, subst, ◌∙◌, arith}
use Rattle.std.specs.Prelude.{slice_get}
use Rattle.std.specs.List.{count_by, enumerate_from}
use Rattle.std.proofs.lemmas.Option.{slice_get-get_or, get_or_from_slice_get}
use Rattle.std.proofs.lemmas.List.FromFn.{length-enumerate_from}
use Rattle.flat_net.proofs.Somes.{there}
use Rattle.net_islands.specs.declared.parts.NetClass.{NetClass}
use Rattle.net_islands.specs.Keys.{items_of}
use Rattle.net_islands.specs.Leasts.{place}
use Rattle.net_islands.specs.Islands.{members}
use Rattle.net_islands.proofs.Finding.{map-at, map-from}
use Rattle.net_islands.proofs.KeyRanks.{rank, at_rank, rank_of, rank-zip, enumerate-at, enumerate-from, zip-at, zip-from}

-- a net of the island with its class, and its place there
pub record IsMember (numbers : List ℕ) (nets : List NetClass) (key j net : ℕ) (c : NetClass) : Type 0 where
  pub number : slice_get numbers net ≡ Some key
  pub class : slice_get nets net ≡ Some c
  pub place : place numbers net ≡ j

module _ (numbers : List ℕ) (nets : List NetClass) (all : length numbers ≡ length nets) where
  -- the nets of an island
  abbrev pub nets_of : ℕ → List ℕ
  nets_of key = map (λ (net : ℕ × NetClass). net.0) (items_of key (members numbers nets))

  rank-is : (key net : ℕ) → rank key (members numbers nets) net ≡ count_by (λ number. number == key) (take net numbers)
  rank-is key net = rank-zip key numbers (enumerate_from 0 nets) net (all ∙ sym (length-enumerate_from 0 nets))

  pub stands : (net : ℕ) → net < length nets → slice_get (nets_of (get_or numbers net 0)) (place numbers net) ≡ Some net
  stands net lt =
      let class = there nets net lt in
      let key : slice_get numbers net ≡ Some (get_or numbers net 0) = slice_get-get_or numbers net 0 (omega arith) in
      let zero-net : 0 + net ≡ net = omega arith in
      let numbered : slice_get (enumerate_from 0 nets) net ≡ Some (net, class.0)
      = enumerate-at 0 nets net class.0 class.1 ∙ ap (λ (n : ℕ). Some (n, class.0)) zero-net in
      let item = zip-at numbers (enumerate_from 0 nets) net (get_or numbers net 0) (net, class.0) key numbered in
      let found = at_rank (get_or numbers net 0) (members numbers nets) net (net, class.0) item in
      ap (λ (k : ℕ). slice_get (nets_of (get_or numbers net 0)) k) (sym (rank-is (get_or numbers net 0) net))
      ∙ map-at (λ (m : ℕ × NetClass). m.0) (items_of (get_or numbers net 0) (members numbers nets)) (rank (get_or numbers net 0) (members numbers nets) net) (net, class.0) found

  pub member_of : (key j : ℕ) (m : ℕ × NetClass) → slice_get (items_of key (members numbers nets)) j ≡ Some m → IsMember numbers nets key j m.0 m.1
  member_of key j m e =
      let r = rank_of key (members numbers nets) j m e in
      let z = zip-from numbers (enumerate_from 0 nets) r.0 (key, m) r.1 in
      let n = enumerate-from 0 nets r.0 m z.1 in
      let same : r.0 ≡ m.0 = let k = n.0 in omega arith in
      let number : slice_get numbers m.0 ≡ Some key = subst (λ (k : ℕ). slice_get numbers k ≡ Some key) same z.0 in
      let at : get_or numbers m.0 0 ≡ key = get_or_from_slice_get numbers m.0 key 0 number in
      record {
        number = number;
        class = subst (λ (k : ℕ). slice_get nets k ≡ Some m.1) same n.1;
        place = ap (λ (k : ℕ). count_by (λ number. number == k) (take m.0 numbers)) at
            ∙ sym (rank-is key m.0) ∙ ap (λ (k : ℕ). rank key (members numbers nets) k) (sym same) ∙ r.2;
      }

  -- what stands in an island's list is a net of it, at its place
  pub stands-from : (key j net : ℕ) → slice_get (nets_of key) j ≡ Some net → (class : NetClass) × IsMember numbers nets key j net class
  stands-from key j net e =
      let m = map-from (λ (m : ℕ × NetClass). m.0) (items_of key (members numbers nets)) j net e in
      (m.0.1, subst (λ (n : ℕ). IsMember numbers nets key j n m.0.1) m.2 (member_of key j m.0 m.1))
