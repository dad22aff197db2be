-- For the code alone: what the fields of an assembly hold.
use Rattle.std.specs.Prelude.{◌≡◌}
use Rattle.net_islands.specs.Islands.{grouping}
use Rattle.netlist_plan.specs.Additions.{Additions}
use Rattle.flattening.specs.Lists.{all_in}
use Rattle.flat_assembly.specs.Assembly.{classes, net_claims}
use Rattle.netlist_assembly.specs.declared.assembly.Assembly.TheInside.{Inside}

abbrev pub additions : Inside → Additions
additions a = all_in a.flat

-- the claims on each net, and the islands of the nets
pub record IsAssembled (a : Inside) : Type 0 where
  pub claims : a.claims.items ≡ net_claims (additions a)
  pub grouping : a.grouping ≡ grouping (classes (net_claims (additions a))) a.flat.elements a.flat.resistive
