-- The parts of a flat netlist, by what a flattening adds.
use Rattle.std.specs.Prelude.{◌≡◌, ℕ, List, length, map, slice_index_or}
use Rattle.std.specs.Option.{unwrap_or}
use Rattle.std.specs.List.{All, range_with_len, zip}
use Rattle.delay_rule.specs.declared.delays.Delays.{Delays}
use Rattle.level_range.specs.declared.range.Kind.TheVariants.{Plain}
use Rattle.udp_table.specs.Primitive.{Primitive}
use Rattle.flat_net.specs.declared.kinds.NetKind.TheVariants.{Wire}
use Rattle.flat_net.specs.declared.parts.Element.{Element}
use Rattle.flat_net.specs.declared.parts.NetPart.{NetPart}
use Rattle.flat_net.specs.declared.parts.Parts.{Parts}
use Rattle.flat_net.specs.Elements.{end_nets}
use Rattle.flat_net.specs.Islands.{combination_kind}
use Rattle.net_islands.specs.declared.parts.NetClass.{NetClass}
use Rattle.net_islands.specs.declared.parts.NetPlace.{NetPlace}
use Rattle.net_islands.specs.Islands.{grouping}
use Rattle.netlist_plan.specs.declared.claims.NetClaim.{NetClaim}
use Rattle.netlist_plan.specs.Additions.{Additions}
use Rattle.netlist_plan.specs.Claims.{claim_on}

-- what declarations make of each net
abbrev pub net_claims : Additions → List NetClaim
net_claims a = map (claim_on a.claims) (range_with_len 0 (length a.net_names))

abbrev pub classes : List NetClaim → List NetClass
classes claims = map (λ claim. claim.class) claims

-- a net in its island, where these are the delays of one without
abbrev pub net_part : Delays → NetClaim × NetPlace → NetPart
net_part none (claim, place) = record {
  kind = claim.class.kind;
  charge = claim.class.charge;
  delays = unwrap_or claim.delays none;
  island = place.island;
  place = place.place;
}

-- the parts with these claims on the nets, primitives, inputs and outputs
abbrev pub parts_with : Delays → List NetClaim → List Primitive → List ℕ → List ℕ → Additions → Parts
parts_with none claims udps inputs outputs a =
    let g = grouping (classes claims) a.elements a.resistive in
    record {
      nets = map (net_part none) (zip claims g.places);
      elements = a.elements;
      islands = g.islands;
      udps = udps;
      net_names = a.net_names;
      element_names = a.element_names;
      finds = a.finds;
      inputs = inputs;
      outputs = outputs;
    }

-- the parts of the flat netlist
abbrev pub flat_parts : Delays → List Primitive → List ℕ → List ℕ → Additions → Parts
flat_parts none udps inputs outputs a = parts_with none (net_claims a) udps inputs outputs a

-- ---- bidirectional switches

-- the class of a net by its number
abbrev pub class_at : List NetClass → ℕ → NetClass
class_at classes net = slice_index_or classes net (record { kind = Wire; charge = 0 })

-- no end of a bidirectional switch is a wired net
abbrev pub HavePlainEnds : List NetClass → List Element → Type 0
HavePlainEnds classes elements = All (λ e. All (λ end. combination_kind (class_at classes end).kind ≡ Plain) (end_nets e.ends)) elements
