-- For the code alone: what the rules on a file keep of it, given its top by its index.
use Rattle.std.specs.Prelude.{◌≡◌, ℕ, map}
use Rattle.v_tree.specs.declared.modules.File.{File}
use Rattle.module_directives.specs.InForce.{settings_at}
use Rattle.netlist_scopes.specs.Reached.{scope_under}
use Rattle.netlist_rules.specs.Items.{port_tables}
use Rattle.netlist_rules.specs.declared.rules.Rules.{Rules}
use Rattle.netlist_meaning.specs.Plans.{graph_in, modules_reached}

pub record AreRulesOf (file : File) (top : ℕ) (rules : Rules) : Type 0 where
  pub graph : rules.scopes.graph ≡ graph_in file
  pub reached : rules.scopes.reached ≡ modules_reached file top
  pub settings : rules.scopes.settings ≡ map (λ m. settings_at file.directives m.location) file.modules
  pub scopes : rules.scopes.scopes ≡ map (scope_under file.directives) file.modules
  pub tables : rules.tables ≡ port_tables file.directives file.modules
