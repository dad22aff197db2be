-- What the items of the islands are: nets, output pins and switches, each by the number of a net.
use Rattle.std.proofs.Common.{◌≡◌, ◌<◌, ℕ, Bool, false, List, [], ◌∷◌, length, get_or, Some, ap, subst, ◌∙◌, arith}
use Rattle.std.specs.Prelude.{slice_get, Option}
use Rattle.std.specs.Option.{option_map}
use Rattle.std.specs.List.{All, enumerate_from}
use Rattle.std.proofs.lemmas.Option.{slice_get_within, get_or_from_slice_get}
use Rattle.net_groups.specs.Joins.{AreBelow}
use Rattle.net_settle.specs.declared.shape.Link.{Link}
use Rattle.flat_net.specs.declared.parts.Element.{Element}
use Rattle.flat_net.specs.declared.parts.Drive.{Drive}
use Rattle.flat_net.specs.Elements.{end_nets, switch_ends}
use Rattle.net_islands.specs.declared.parts.NetClass.{NetClass}
use Rattle.net_islands.specs.Islands.{HasNets, members, drive, drives, element_drives, link, links}
use Rattle.net_islands.proofs.Finding.{map-from, flat_map-from, filter_map-from, some-map, All-from_gets}
use Rattle.net_islands.proofs.KeyRanks.{enumerate-from, zip-from}

all-at : {X : Type 0} (P : X → Type 0) (xs : List X) (i : ℕ) (x : X) → All P xs → slice_get xs i ≡ Some x → P x
all-at {X = X} P xs i x h e = subst P (get_or_from_slice_get xs i x x e) (h i x (slice_get_within xs i x e))

module _ (count : ℕ) where
  pub valid-at : (elements : List Element) → All (HasNets count) elements → (i : ℕ) (e : Element) → slice_get elements i ≡ Some e → HasNets count e
  valid-at elements valid i e f = all-at (HasNets count) elements i e valid f

  pub out-lt : (e : Element) → HasNets count e → (pin net : ℕ) → slice_get e.outs pin ≡ Some net → net < count
  out-lt e h pin net f = all-at (λ (n : ℕ). n < count) e.outs pin net h.outs f

  pub ends-lt : (e : Element) (ends : ℕ × ℕ) → HasNets count e → e.ends ≡ Some ends → (ends.0 < count) × (ends.1 < count)
  ends-lt e ends h f =
      let both : All (λ (net : ℕ). net < count) (ends.0 ∷ ends.1 ∷ [])
      = subst (λ (o : Option (ℕ × ℕ)). All (λ (net : ℕ). net < count) (end_nets o)) f h.ends in
      (both 0 0 (omega arith), both 1 0 (omega arith))

-- the ends of switches are nets below the count
pub AreBelow-ends : (count : ℕ) (elements : List Element) → All (HasNets count) elements → AreBelow count (switch_ends elements)
AreBelow-ends count elements valid = All-from_gets (λ (pair : ℕ × ℕ). (pair.0 < count) × (pair.1 < count)) (switch_ends elements)
    (λ k ends e.
    let r = filter_map-from (λ (e : Element). e.ends) elements k ends e in
    ends-lt count r.1 ends (valid-at count elements valid r.0 r.1 r.2) r.3)

module _ (numbers within : List ℕ) (elements : List Element) where
  -- an item of the drives is an output pin, at the place of its net
  pub record DriveFrom (key : ℕ) (d : Drive) : Type 0 where
    pub element : Element
    pub net : ℕ
    pub there : slice_get elements d.element ≡ Some element
    pub pin : slice_get element.outs d.pin ≡ Some net
    pub number : get_or numbers net 0 ≡ key
    pub place : get_or within net 0 ≡ d.place

  pub drive-from : (n key : ℕ) (d : Drive) → slice_get (drives numbers within elements) n ≡ Some (key, d) → DriveFrom key d
  drive-from n key d f =
      let r = flat_map-from (λ (e : ℕ × Element). element_drives numbers within e.0 e.1.outs) (enumerate_from 0 elements) n (key, d) f in
      let el = enumerate-from 0 elements r.0 r.1 r.2 in
      let o = map-from (λ (out : ℕ × ℕ). drive numbers within r.1.0 out.0 out.1) (enumerate_from 0 r.1.1.outs) r.3.0 (key, d) r.3.1 in
      let out = enumerate-from 0 r.1.1.outs r.3.0 o.0 o.1 in
      let element-is : d.element ≡ r.0 = let a = ap (λ (q : ℕ × Drive). q.1.element) o.2 in let b = el.0 in omega arith in
      let pin-is : d.pin ≡ r.3.0 = let a = ap (λ (q : ℕ × Drive). q.1.pin) o.2 in let b = out.0 in omega arith in
      record {
        element = r.1.1;
        net = o.0.1;
        there = ap (λ (k : ℕ). slice_get elements k) element-is ∙ el.1;
        pin = ap (λ (k : ℕ). slice_get r.1.1.outs k) pin-is ∙ out.1;
        number = ap (λ (q : ℕ × Drive). q.0) o.2;
        place = ap (λ (q : ℕ × Drive). q.1.place) o.2;
      }

  module _ (resistive : List Bool) where
    -- an item of the links is a bidirectional switch, with the places of its ends
    pub record LinkFrom (key : ℕ) (s : ℕ × Link) : Type 0 where
      pub element : Element
      pub ends : ℕ × ℕ
      pub there : slice_get elements s.0 ≡ Some element
      pub ends-are : element.ends ≡ Some ends
      pub number : get_or numbers ends.0 0 ≡ key
      pub a : get_or within ends.0 0 ≡ s.1.a
      pub b : get_or within ends.1 0 ≡ s.1.b

    abbrev link_of : ℕ × Element → Option (ℕ × (ℕ × Link))
    link_of e = option_map (link numbers within (get_or resistive e.0 false) e.0) e.1.ends

    pub link-from : (n key : ℕ) (s : ℕ × Link) → slice_get (links numbers within elements resistive) n ≡ Some (key, s) → LinkFrom key s
    link-from n key s f =
        let r = filter_map-from link_of (enumerate_from 0 elements) n (key, s) f in
        let el = enumerate-from 0 elements r.0 r.1 r.2 in
        let o = some-map (link numbers within (get_or resistive r.1.0 false) r.1.0) r.1.1.ends (key, s) r.3 in
        let element-is : s.0 ≡ r.0 = let a = ap (λ (q : ℕ × (ℕ × Link)). q.1.0) o.2 in let b = el.0 in omega arith in
        record {
          element = r.1.1;
          ends = o.0;
          there = ap (λ (k : ℕ). slice_get elements k) element-is ∙ el.1;
          ends-are = o.1;
          number = ap (λ (q : ℕ × (ℕ × Link)). q.0) o.2;
          a = ap (λ (q : ℕ × (ℕ × Link)). q.1.1.a) o.2;
          b = ap (λ (q : ℕ × (ℕ × Link)). q.1.1.b) o.2;
        }

-- the items of islands below a count
module _ (count : ℕ) (numbers within : List ℕ) (below : All (λ number. number < count) numbers) where
  pub members-below : (nets : List NetClass) → All (λ net. net.0 < count) (members numbers nets)
  members-below nets = All-from_gets (λ (m : ℕ × (ℕ × NetClass)). m.0 < count) (members numbers nets)
      (λ k m e. all-at (λ (n : ℕ). n < count) numbers k m.0 below (zip-from numbers (enumerate_from 0 nets) k m e).0)

  number-below : (net : ℕ) → net < length numbers → get_or numbers net 0 < count
  number-below net lt = below net 0 lt

  pub drives-below : (elements : List Element) → All (HasNets (length numbers)) elements → All (λ drive. drive.0 < count) (drives numbers within elements)
  drives-below elements valid = All-from_gets (λ (d : ℕ × Drive). d.0 < count) (drives numbers within elements)
      (λ k d e.
      let o = drive-from numbers within elements k d.0 d.1 e in
      let lt = out-lt (length numbers) o.element (valid-at (length numbers) elements valid d.1.element o.element o.there) d.1.pin o.net o.pin in
      subst (λ (n : ℕ). n < count) o.number (number-below o.net lt))

  pub links-below : (elements : List Element) (resistive : List Bool) → All (HasNets (length numbers)) elements → All (λ link. link.0 < count) (links numbers within elements resistive)
  links-below elements resistive valid = All-from_gets (λ (s : ℕ × (ℕ × Link)). s.0 < count) (links numbers within elements resistive)
      (λ k s e.
      let o = link-from numbers within elements resistive k s.0 s.1 e in
      let lt = ends-lt (length numbers) o.element o.ends (valid-at (length numbers) elements valid s.1.0 o.element o.there) o.ends-are in
      subst (λ (n : ℕ). n < count) o.number (number-below o.ends.0 lt.0))
