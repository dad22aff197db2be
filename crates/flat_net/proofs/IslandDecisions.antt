-- The tests of nets and islands decide the sentences of soundness on them.
use Rattle.std.proofs.Common.{◌≡◌, ◌<◌, ℕ, Bool, true, false, ◌&&◌, ◌||◌, ◌==◌, ltb, List, [], length, Some, None, refl, ap, inl, inr}
use Rattle.std.specs.Prelude.{◌⊎◌, Option, slice_get}
use Rattle.std.specs.Bool.{Decides}
use Rattle.std.specs.Option.{IsSomeAnd}
use Rattle.std.specs.List.{All, AllZip, list_all}
use Rattle.std.proofs.lemmas.List.{nil_from_length}
use Rattle.std.proofs.lemmas.Bool.Decides.{Decides-and, Decides-or, Decides-like, Decides-eqb, Decides-ltb}
use Rattle.level_range.specs.declared.range.Kind.{Kind}
use Rattle.level_range.specs.declared.range.Kind.TheVariants.{Plain, And as AndKind, Or as OrKind}
use Rattle.net_settle.specs.declared.shape.Link.{Link}
use Rattle.flat_net.specs.declared.kinds.NetKind.{NetKind}
use Rattle.flat_net.specs.declared.kinds.NetKind.TheVariants.{Wire, And, Or, Tri0, Tri1, Supply0, Supply1, Trireg}
use Rattle.flat_net.specs.declared.parts.NetPart.{NetPart}
use Rattle.flat_net.specs.declared.parts.Element.{Element}
use Rattle.flat_net.specs.declared.parts.Drive.{Drive}
use Rattle.flat_net.specs.declared.parts.Island.{Island}
use Rattle.flat_net.specs.Islands.{combination_kind, HasCharge, IsDrive, IsLink, IsIsland}
use Rattle.flat_net.specs.Soundness.{IsNet}
use Rattle.flat_net.specs.Lists.{EachAt}
use Rattle.flat_net.specs.Tests.{some_and, all_at, all_zip, same_kind, is_plain, has_charge, is_at, is_alone, is_net, stands_at, is_drive, is_link, has_kind, has_level, is_island}
use Rattle.flat_net.proofs.Decisions.{Decides-some_and, Decides-list_all, Decides-all_at, Decides-all_zip}

Decides-same_kind : (a b : Kind) → Decides (same_kind a b) (a ≡ b)
Decides-same_kind Plain Plain = (λ _. refl, λ _. refl)
Decides-same_kind Plain AndKind = (λ e. absurd (let f : false ≡ true = e in cc), λ e. absurd (let f : Plain ≡ AndKind = e in cc))
Decides-same_kind Plain OrKind = (λ e. absurd (let f : false ≡ true = e in cc), λ e. absurd (let f : Plain ≡ OrKind = e in cc))
Decides-same_kind AndKind Plain = (λ e. absurd (let f : false ≡ true = e in cc), λ e. absurd (let f : AndKind ≡ Plain = e in cc))
Decides-same_kind AndKind AndKind = (λ _. refl, λ _. refl)
Decides-same_kind AndKind OrKind = (λ e. absurd (let f : false ≡ true = e in cc), λ e. absurd (let f : AndKind ≡ OrKind = e in cc))
Decides-same_kind OrKind Plain = (λ e. absurd (let f : false ≡ true = e in cc), λ e. absurd (let f : OrKind ≡ Plain = e in cc))
Decides-same_kind OrKind AndKind = (λ e. absurd (let f : false ≡ true = e in cc), λ e. absurd (let f : OrKind ≡ AndKind = e in cc))
Decides-same_kind OrKind OrKind = (λ _. refl, λ _. refl)

three : (level : ℕ) → ((level ≡ 1) ⊎ (level ≡ 2)) ⊎ (level ≡ 4) → HasCharge Trireg level
three level (inl (inl e)) = inl e
three level (inl (inr e)) = inr (inl e)
three level (inr e) = inr (inr e)

pair : (level : ℕ) → HasCharge Trireg level → ((level ≡ 1) ⊎ (level ≡ 2)) ⊎ (level ≡ 4)
pair level (inl e) = inl (inl e)
pair level (inr (inl e)) = inl (inr e)
pair level (inr (inr e)) = inr e

Decides-has_charge : (kind : NetKind) (level : ℕ) → Decides (has_charge kind level) (HasCharge kind level)
Decides-has_charge Wire level = Decides-eqb level 0
Decides-has_charge And level = Decides-eqb level 0
Decides-has_charge Or level = Decides-eqb level 0
Decides-has_charge Tri0 level = Decides-eqb level 0
Decides-has_charge Tri1 level = Decides-eqb level 0
Decides-has_charge Supply0 level = Decides-eqb level 0
Decides-has_charge Supply1 level = Decides-eqb level 0
Decides-has_charge Trireg level =
    Decides-like (has_charge Trireg level) (λ (h : ((level ≡ 1) ⊎ (level ≡ 2)) ⊎ (level ≡ 4)). three level h) (λ (h : HasCharge Trireg level). pair level h)
    (Decides-or ((level == 1) || (level == 2)) (level == 4) (Decides-or (level == 1) (level == 2) (Decides-eqb level 1) (Decides-eqb level 2)) (Decides-eqb level 4))

at_parts : (numbers : List ℕ) (k number : ℕ) → Decides (is_at numbers k number) (IsSomeAnd (slice_get numbers k) (λ n. n ≡ number))
at_parts numbers k number = Decides-some_and (λ n. n == number) (λ n. n ≡ number) (λ n. Decides-eqb n number) (slice_get numbers k)

some_same : (o : Option ℕ) (number : ℕ) → IsSomeAnd o (λ n. n ≡ number) → o ≡ Some number
some_same None number h = absurd h
some_same (Some n) number h = ap (λ (x : ℕ). Some x) h

same_some : (o : Option ℕ) (number : ℕ) → o ≡ Some number → IsSomeAnd o (λ n. n ≡ number)
same_some None number e = let f : None ≡ Some number = e in cc
same_some (Some n) number e = let f : Some n ≡ Some number = e in cc

pub Decides-is_at : (numbers : List ℕ) (k number : ℕ) → Decides (is_at numbers k number) (slice_get numbers k ≡ Some number)
Decides-is_at numbers k number = Decides-like (is_at numbers k number) (some_same (slice_get numbers k) number) (same_some (slice_get numbers k) number) (at_parts numbers k number)

-- a net stands alone in its island unless it is plain
abbrev IsAlone : NetKind → Island → Type 0
IsAlone kind island = (combination_kind kind ≡ Plain) ⊎ ((length island.nets ≡ 1) × (length island.links ≡ 0))

Decides-is_alone : (kind : NetKind) (island : Island) → Decides (is_alone kind island) (IsAlone kind island)
Decides-is_alone kind island =
    Decides-or (is_plain (combination_kind kind)) ((length island.nets == 1) && (length island.links == 0)) (Decides-same_kind (combination_kind kind) Plain)
    (Decides-and (length island.nets == 1) (length island.links == 0) (Decides-eqb (length island.nets) 1) (Decides-eqb (length island.links) 0))

-- the island holds the net alone
abbrev HoldsAlone : Island → Type 0
HoldsAlone island = (length island.nets ≡ 1) × (island.links ≡ [])

module _ (kind : NetKind) (place number : ℕ) where
  abbrev HasPlace : Island → Type 0
  HasPlace island = slice_get island.nets place ≡ Some number

  alone_from : (island : Island) → IsAlone kind island → (combination_kind kind ≡ Plain → ⊥) → HoldsAlone island
  alone_from island (inl plain) not_plain = absurd (not_plain plain)
  alone_from island (inr h) not_plain = (h.0, nil_from_length island.links h.1)

  alone_by : (island : Island) (plain : Bool) → Decides plain (combination_kind kind ≡ Plain) → ((combination_kind kind ≡ Plain → ⊥) → HoldsAlone island) → IsAlone kind island
  alone_by island true d h = inl (d.0 refl)
  alone_by island false d h =
      let held = h (λ e. let f : false ≡ true = d.1 e in cc) in
      inr (held.0, ap (λ (xs : List ℕ). length xs) held.1)

  split : (o : Option Island) → IsSomeAnd o (λ island. HasPlace island × IsAlone kind island) → IsSomeAnd o HasPlace × ((combination_kind kind ≡ Plain → ⊥) → IsSomeAnd o HoldsAlone)
  split None h = absurd h
  split (Some island) h = (h.0, alone_from island h.1)

  merge : (o : Option Island) → IsSomeAnd o HasPlace → ((combination_kind kind ≡ Plain → ⊥) → IsSomeAnd o HoldsAlone) → IsSomeAnd o (λ island. HasPlace island × IsAlone kind island)
  merge None h f = absurd h
  merge (Some island) h f = (h, alone_by island (same_kind (combination_kind kind) Plain) (Decides-same_kind (combination_kind kind) Plain) f)

module _ (islands : List Island) (number : ℕ) (part : NetPart) where
  abbrev Tested : Type 0
  Tested = HasCharge part.kind part.charge × IsSomeAnd (slice_get islands part.island) (λ island. (slice_get island.nets part.place ≡ Some number) × IsAlone part.kind island)

  whole : Tested → IsNet islands number part
  whole h =
      let s = split part.kind part.place number (slice_get islands part.island) h.1 in
      record { charge = h.0; place = s.0; alone = s.1 }

  parts : IsNet islands number part → Tested
  parts r = (r.charge, merge part.kind part.place number (slice_get islands part.island) r.place r.alone)

  pub Decides-is_net : Decides (is_net islands number part) (IsNet islands number part)
  Decides-is_net =
      Decides-like (is_net islands number part) whole parts
      (Decides-and (has_charge part.kind part.charge) (some_and (λ island. is_at island.nets part.place number && is_alone part.kind island) (slice_get islands part.island))
      (Decides-has_charge part.kind part.charge)
      (Decides-some_and (λ island. is_at island.nets part.place number && is_alone part.kind island)
      (λ island. (slice_get island.nets part.place ≡ Some number) × IsAlone part.kind island)
      (λ island. Decides-and (is_at island.nets part.place number) (is_alone part.kind island) (Decides-is_at island.nets part.place number) (Decides-is_alone part.kind island))
      (slice_get islands part.island)))

Decides-stands_at : (nets : List NetPart) (number place net : ℕ)
    → Decides (stands_at nets number place net) (IsSomeAnd (slice_get nets net) (λ part. (part.island ≡ number) × (part.place ≡ place)))
Decides-stands_at nets number place net =
    Decides-some_and (λ (part : NetPart). (part.island == number) && (part.place == place)) (λ (part : NetPart). (part.island ≡ number) × (part.place ≡ place))
    (λ part. Decides-and (part.island == number) (part.place == place) (Decides-eqb part.island number) (Decides-eqb part.place place)) (slice_get nets net)

Decides-is_drive : (elements : List Element) (nets : List ℕ) (drive : Drive) → Decides (is_drive elements nets drive) (IsDrive elements nets drive)
Decides-is_drive elements nets drive =
    Decides-some_and (λ (e : Element). some_and (λ net. is_at nets drive.place net) (slice_get e.outs drive.pin))
    (λ (e : Element). IsSomeAnd (slice_get e.outs drive.pin) (λ net. slice_get nets drive.place ≡ Some net))
    (λ e. Decides-some_and (λ net. is_at nets drive.place net) (λ net. slice_get nets drive.place ≡ Some net) (λ net. Decides-is_at nets drive.place net) (slice_get e.outs drive.pin))
    (slice_get elements drive.element)

Decides-is_link : (elements : List Element) (nets : List ℕ) (element : ℕ) (link : Link) → Decides (is_link elements nets element link) (IsLink elements nets element link)
Decides-is_link elements nets element link =
    Decides-some_and (λ (e : Element). some_and (λ (ends : ℕ × ℕ). is_at nets link.a ends.0 && is_at nets link.b ends.1) e.ends)
    (λ (e : Element). IsSomeAnd e.ends (λ (ends : ℕ × ℕ). (slice_get nets link.a ≡ Some ends.0) × (slice_get nets link.b ≡ Some ends.1)))
    (λ e. Decides-some_and (λ (ends : ℕ × ℕ). is_at nets link.a ends.0 && is_at nets link.b ends.1)
    (λ (ends : ℕ × ℕ). (slice_get nets link.a ≡ Some ends.0) × (slice_get nets link.b ≡ Some ends.1))
    (λ ends. Decides-and (is_at nets link.a ends.0) (is_at nets link.b ends.1) (Decides-is_at nets link.a ends.0) (Decides-is_at nets link.b ends.1)) e.ends)
    (slice_get elements element)

abbrev HasKind : List NetPart → ℕ → Kind → Type 0
HasKind nets net kind = IsSomeAnd (slice_get nets net) (λ part. kind ≡ combination_kind part.kind)

abbrev HasLevel : List NetPart → ℕ → ℕ → Type 0
HasLevel nets net level = IsSomeAnd (slice_get nets net) (λ part. level ≡ part.charge)

Decides-has_kind : (nets : List NetPart) (net : ℕ) (kind : Kind) → Decides (has_kind nets net kind) (HasKind nets net kind)
Decides-has_kind nets net kind =
    Decides-some_and (λ (part : NetPart). same_kind kind (combination_kind part.kind)) (λ (part : NetPart). kind ≡ combination_kind part.kind) (λ part. Decides-same_kind kind (combination_kind part.kind)) (slice_get nets net)

Decides-has_level : (nets : List NetPart) (net level : ℕ) → Decides (has_level nets net level) (HasLevel nets net level)
Decides-has_level nets net level =
    Decides-some_and (λ (part : NetPart). level == part.charge) (λ (part : NetPart). level ≡ part.charge) (λ part. Decides-eqb level part.charge) (slice_get nets net)

module _ (nets : List NetPart) (elements : List Element) (number : ℕ) (island : Island) where
  abbrev Placed : Type 0
  Placed = EachAt (λ place net. IsSomeAnd (slice_get nets net) (λ part. (part.island ≡ number) × (part.place ≡ place))) island.nets

  abbrev IslandTested : Type 0
  IslandTested =
      (((((0 < length island.nets) × Placed) × All (IsDrive elements island.nets) island.drives) × AllZip (IsLink elements island.nets) island.links island.shape.links)
      × AllZip (HasKind nets) island.nets island.shape.kinds) × AllZip (HasLevel nets) island.nets island.shape.charge

  abbrev filled : Bool
  filled = ltb 0 (length island.nets)

  abbrev placed : Bool
  placed = all_at (λ place net. stands_at nets number place net) island.nets

  abbrev driven : Bool
  driven = list_all (is_drive elements island.nets) island.drives

  abbrev linked : Bool
  linked = all_zip (is_link elements island.nets) island.links island.shape.links

  abbrev combined : Bool
  combined = all_zip (has_kind nets) island.nets island.shape.kinds

  abbrev charged : Bool
  charged = all_zip (has_level nets) island.nets island.shape.charge

  pub Decides-is_island : Decides (is_island nets elements number island) (IsIsland nets elements number island)
  Decides-is_island =
      Decides-like (is_island nets elements number island)
      (λ (h : IslandTested). record { filled = h.0.0.0.0.0; places = h.0.0.0.0.1; drives = h.0.0.0.1; links = h.0.0.1; kinds = h.0.1; charge = h.1 })
      (λ (r : IsIsland nets elements number island). (((((r.filled, r.places), r.drives), r.links), r.kinds), r.charge))
      (Decides-and (filled && placed && driven && linked && combined) charged
      (Decides-and (filled && placed && driven && linked) combined
      (Decides-and (filled && placed && driven) linked
      (Decides-and (filled && placed) driven
      (Decides-and filled placed (Decides-ltb 0 (length island.nets))
      (Decides-all_at (λ place net. stands_at nets number place net) (λ place net. IsSomeAnd (slice_get nets net) (λ part. (part.island ≡ number) × (part.place ≡ place))) (λ place net. Decides-stands_at nets number place net) island.nets))
      (Decides-list_all (is_drive elements island.nets) (IsDrive elements island.nets) (Decides-is_drive elements island.nets) island.drives))
      (Decides-all_zip (is_link elements island.nets) (IsLink elements island.nets) (Decides-is_link elements island.nets) island.links island.shape.links))
      (Decides-all_zip (has_kind nets) (HasKind nets) (Decides-has_kind nets) island.nets island.shape.kinds))
      (Decides-all_zip (has_level nets) (HasLevel nets) (Decides-has_level nets) island.nets island.shape.charge))
