-- Islands: the nets that bidirectional switches join, what drives them, and how they settle.
use Rattle.std.specs.Prelude.{◌≡◌, ◌⊎◌, ℕ, ◌<◌, List, length, map, Some, slice_get}
use Rattle.std.specs.Option.{IsSomeAnd}
use Rattle.std.specs.List.{All, AllZip, flat_map}
use Rattle.level_range.specs.declared.range.Kind.{Kind}
use Rattle.level_range.specs.declared.range.Kind.TheVariants.{Plain, And as AndKind, Or as OrKind}
use Rattle.net_settle.specs.declared.shape.Link.{Link}
use Rattle.flat_net.specs.Lists.{EachAt}
use Rattle.flat_net.specs.declared.kinds.NetKind.{NetKind}
use Rattle.flat_net.specs.declared.kinds.NetKind.TheVariants.{Wire, And, Or, Tri0, Tri1, Supply0, Supply1, Trireg}
use Rattle.flat_net.specs.declared.parts.NetPart.{NetPart}
use Rattle.flat_net.specs.declared.parts.Element.{Element}
use Rattle.flat_net.specs.declared.parts.Drive.{Drive}
use Rattle.flat_net.specs.declared.parts.Island.{Island}

-- how the drivers of a net are combined, by its type
abbrev pub combination_kind : NetKind → Kind
combination_kind And = AndKind
combination_kind Or = OrKind
combination_kind Wire = Plain
combination_kind Tri0 = Plain
combination_kind Tri1 = Plain
combination_kind Supply0 = Plain
combination_kind Supply1 = Plain
combination_kind Trireg = Plain

-- a trireg has a small, a medium or a large charge, and every other net none
abbrev pub HasCharge : NetKind → ℕ → Type 0
HasCharge Trireg level = (level ≡ 1) ⊎ (level ≡ 2) ⊎ (level ≡ 4)
HasCharge Wire level = level ≡ 0
HasCharge And level = level ≡ 0
HasCharge Or level = level ≡ 0
HasCharge Tri0 level = level ≡ 0
HasCharge Tri1 level = level ≡ 0
HasCharge Supply0 level = level ≡ 0
HasCharge Supply1 level = level ≡ 0

-- the output pin of the element is on the net at the place
abbrev pub IsDrive : List Element → List ℕ → Drive → Type 0
IsDrive elements nets drive =
    IsSomeAnd (slice_get elements drive.element) (λ e. IsSomeAnd (slice_get e.outs drive.pin) (λ net.
    slice_get nets drive.place ≡ Some net))

-- the element is a bidirectional switch, and the link has the places of its two ends
abbrev pub IsLink : List Element → List ℕ → ℕ → Link → Type 0
IsLink elements nets element link =
    IsSomeAnd (slice_get elements element) (λ e. IsSomeAnd e.ends (λ ends.
    (slice_get nets link.a ≡ Some ends.0) × (slice_get nets link.b ≡ Some ends.1)))

-- an island of a netlist with these nets and elements, by its number
pub record IsIsland (nets : List NetPart) (elements : List Element) (number : ℕ) (island : Island) : Type 0 where
  pub filled : 0 < length island.nets
  pub places : EachAt (λ place net. IsSomeAnd (slice_get nets net) (λ part. (part.island ≡ number) × (part.place ≡ place))) island.nets
  pub drives : All (IsDrive elements island.nets) island.drives
  pub links : AllZip (IsLink elements island.nets) island.links island.shape.links
  pub kinds : AllZip (λ net kind. IsSomeAnd (slice_get nets net) (λ part. kind ≡ combination_kind part.kind)) island.nets island.shape.kinds
  pub charge : AllZip (λ net level. IsSomeAnd (slice_get nets net) (λ part. level ≡ part.charge)) island.nets island.shape.charge

-- the output pins that the drives of all islands name, each an element and its pin
abbrev pub drive_pins : List Island → List (ℕ × ℕ)
drive_pins islands = flat_map (λ island. map (λ (drive : Drive). (drive.element, drive.pin)) island.drives) islands

-- the elements that the links of all islands name
abbrev pub link_elements : List Island → List ℕ
link_elements islands = flat_map (λ island. island.links) islands
