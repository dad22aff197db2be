use Rattle.std.proofs.Common.{ℕ, List, map, ap, ◌∙◌}
use Rattle.std.specs.List.{zip}
use Rattle.udp_table.specs.Primitive.{Primitive}
use Rattle.flat_net.specs.declared.parts.Island.{Island}
use Rattle.flat_net.specs.declared.parts.NetPart.{NetPart}
use Rattle.flat_net.specs.declared.parts.Parts.{Parts}
use Rattle.net_islands.specs.declared.parts.Grouping.{Grouping}
use Rattle.net_islands.specs.declared.parts.NetPlace.{NetPlace}
use Rattle.netlist_plan.specs.declared.claims.NetClaim.{NetClaim}
use Rattle.netlist_plan.specs.Additions.{Additions}
use Rattle.flat_assembly.specs.Assembly.{flat_parts, net_claims, net_part}
use Rattle.netlist_assembly.specs.Assembled.{additions}
use Rattle.netlist_assembly.proofs.assembly.Assembly.into_parts.Goals as goal

-- the parts with these nets in these islands
abbrev made : List Primitive → List ℕ → List ℕ → Additions → List NetPart → List Island → Parts
made udps inputs outputs a nets islands = record {
  nets = nets;
  elements = a.elements;
  islands = islands;
  udps = udps;
  net_names = a.net_names;
  element_names = a.element_names;
  finds = a.finds;
  inputs = inputs;
  outputs = outputs;
}

pub returns : goal.returns
returns c =
    let a = additions c.self.inside in
    let none = c.args.none in
    let with_parts = made c.args.udps c.args.inputs c.args.outputs a in
    ap (λ (nets : List NetPart). with_parts nets c.self.inside.grouping.islands)
    (c.from_vec.ensures ∙ c.in_ok-nets.ensures
    ∙ ap (λ (claims : List NetClaim). map (net_part none) (zip claims c.as_slice.result.now)) (c.deref.ensures.value ∙ c.self.invariant.claims)
    ∙ ap (λ (places : List NetPlace). map (net_part none) (zip (net_claims a) places)) c.as_slice.ensures)
    ∙ ap (λ (g : Grouping). with_parts (map (net_part none) (zip (net_claims a) g.places)) g.islands) c.self.invariant.grouping
    ∙ ap (λ (b : Additions). flat_parts none c.args.udps c.args.inputs c.args.outputs b) c.self.view_is
