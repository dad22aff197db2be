use Rattle.std.proofs.Common.{List, ℕ, ap, ◌∙◌}
use Rattle.v_tree.specs.declared.locations.Location.{Location}
use Rattle.rule_places.specs.Places.{first_place}
use Rattle.netlist_plan.specs.declared.claims.NetClaim.{NetClaim}
use Rattle.flat_assembly.specs.Assembly.{classes, net_claims}
use Rattle.flat_assembly.specs.Wired.{wired_places}
use Rattle.netlist_meaning.specs.Netlist.{first_wired}
use Rattle.netlist_assembly.specs.Assembled.{additions}
use Rattle.netlist_assembly.proofs.assembly.Assembly.first_wired.Goals as goal

pub returns : goal.returns
returns c =
    let a = additions c.self.inside in
    c.first_wired.ensures
    ∙ ap (λ (claims : List NetClaim). first_place (wired_places (classes claims) c.as_slice.result.now)) (c.deref.ensures.value ∙ c.self.invariant.claims)
    ∙ ap (λ (terminals : List (ℕ × Location)). first_place (wired_places (classes (net_claims a)) terminals)) c.as_slice.ensures
    ∙ ap first_wired c.self.view_is
