-- When what a flattening adds to an empty netlist is sound.
use Rattle.std.specs.Prelude.{◌≡◌, ℕ, ◌<◌, List, length, map}
use Rattle.std.specs.List.{All}
use Rattle.udp_table.specs.Primitive.{Primitive}
use Rattle.flat_net.specs.Elements.{IsElement}
use Rattle.flat_net.specs.Islands.{HasCharge}
use Rattle.flat_net.specs.Soundness.{AreNames, IsFind}
use Rattle.netlist_plan.specs.declared.claims.NetClaim.{NetClaim}
use Rattle.netlist_plan.specs.Additions.{Additions}

-- a claim is on a net of so many, and its charge fits its kind
abbrev pub IsClaim : ℕ → ℕ × NetClaim → Type 0
IsClaim count claim = (claim.0 < count) × HasCharge claim.1.class.kind claim.1.class.charge

-- names for all nets and elements, and for what is found by a name, no two of a kind the same; elements with the pins of
-- their kinds; and nets below the count everywhere
pub record AreSoundAdditions (udps : List Primitive) (a : Additions) : Type 0 where
  pub net_names : AreNames (length a.net_names) a.net_names
  pub claims : All (IsClaim (length a.net_names)) a.claims
  pub elements : All (IsElement (length a.net_names) udps) a.elements
  pub resistive : length a.resistive ≡ length a.elements
  pub element_names : AreNames (length a.elements) a.element_names
  pub finds : All (IsFind (length a.net_names)) a.finds
  pub find_names : AreNames (length a.finds) (map (λ found. found.name) a.finds)
