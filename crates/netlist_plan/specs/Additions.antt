-- What an instance of a module adds to a flat netlist, at the end of each list.
use Rattle.std.specs.Prelude.{ℕ, Bool, List, [], ◌++◌}
use Rattle.v_tree.specs.declared.locations.Location.{Location}
use Rattle.flat_net.specs.declared.parts.Element.{Element}
use Rattle.flat_net.specs.declared.parts.Find.{Find}
use Rattle.netlist_plan.specs.declared.claims.NetClaim.{NetClaim}

-- the names of new nets, which get the next numbers; what declarations say of nets, in the order of elaboration; elements
-- with their names, and for each whether it is resistive; what finds nets; and the nets at terminals of bidirectional
-- switches, each with the first token of the terminal
pub record Additions : Type 0 where
  pub net_names : List (List ℕ)
  pub claims : List (ℕ × NetClaim)
  pub elements : List Element
  pub element_names : List (List ℕ)
  pub resistive : List Bool
  pub finds : List Find
  pub terminals : List (ℕ × Location)

abbrev pub nothing : Additions
nothing = record { net_names = []; claims = []; elements = []; element_names = []; resistive = []; finds = []; terminals = [] }

-- one after the other
abbrev pub joined : Additions → Additions → Additions
joined a b = record {
  net_names = a.net_names ++ b.net_names;
  claims = a.claims ++ b.claims;
  elements = a.elements ++ b.elements;
  element_names = a.element_names ++ b.element_names;
  resistive = a.resistive ++ b.resistive;
  finds = a.finds ++ b.finds;
  terminals = a.terminals ++ b.terminals;
}
