-- The laws of the scopes of a file.
use Rattle.std.proofs.Common.{◌≡◌, ℕ, Bool, false, List, [], ◌++◌, length, map, Option, None, Some, refl, ◌∙◌}
use Rattle.std.specs.List.{All}
use Rattle.std.proofs.lemmas.List.{length-map, length-replicate}
use Rattle.std.proofs.lemmas.List.FromFn.{length-map-range_with_len}
use Rattle.v_tree.specs.declared.modules.Module.{Module}
use Rattle.v_tree.specs.declared.primitives.UdpDecl.{UdpDecl}
use Rattle.module_graph.specs.Graph.{Graph, graph_of, master_of, module_names, references_in, udp_names}
use Rattle.module_graph.specs.Reach.{is_reached}
use Rattle.v_tree.specs.declared.modules.File.{File}
use Rattle.netlist_scopes.specs.declared.rules.BrokenRule.{BrokenRule}
use Rattle.netlist_scopes.proofs.RuleLaws.{first_broken_none, first_broken_some}
use Rattle.netlist_scopes.specs.Rules.{IsFirstBroken, broken_rule, first_broken, first_of}
use Rattle.netlist_scopes.specs.Scopes.{early_places, late_places, netlist_places, reached_from}

-- each module has its references
length-references : (modules : List Module) (udps : List UdpDecl) → length (graph_of modules udps).references ≡ length modules
length-references modules udps = length-map modules (λ (m : Module). references_in (master_of (module_names modules) (udp_names udps)) m.items)

-- of each module it is told whether it is reached
pub length-reached_from : (modules : List Module) (udps : List UdpDecl) (top : Option ℕ) → length (reached_from (graph_of modules udps) top) ≡ length modules
length-reached_from modules udps None =
    length-replicate (length (graph_of modules udps).references) false ∙ length-references modules udps
length-reached_from modules udps (Some top) =
    length-map-range_with_len (is_reached (graph_of modules udps).references top) 0 (length (graph_of modules udps).references) ∙ length-references modules udps

-- the broken rule is the first of the rules, by their numbers, that has a place
pub broken_rule-places : (file : File) (graph : Graph) (top : Option ℕ) (reached : List Bool) →
    broken_rule (netlist_places file graph top reached) ≡ first_broken (map first_of (early_places file graph top reached ++ late_places file reached))
broken_rule-places file graph top reached = refl

-- it has the lowest number of those that are broken, and its line is that of its first place
pub IsFirstBroken-broken_rule : (file : File) (graph : Graph) (top : Option ℕ) (reached : List Bool) (broken : BrokenRule) →
    broken_rule (netlist_places file graph top reached) ≡ Some broken → IsFirstBroken (early_places file graph top reached ++ late_places file reached) broken
IsFirstBroken-broken_rule file graph top reached broken e = first_broken_some (early_places file graph top reached ++ late_places file reached) broken e

-- there is none exactly where no rule has a place
pub broken_rule_none : (file : File) (graph : Graph) (top : Option ℕ) (reached : List Bool) →
    broken_rule (netlist_places file graph top reached) ≡ None → All (λ r. r.places ≡ []) (early_places file graph top reached ++ late_places file reached)
broken_rule_none file graph top reached e = first_broken_none (early_places file graph top reached ++ late_places file reached) e
