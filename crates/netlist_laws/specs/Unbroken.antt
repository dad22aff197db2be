-- What no broken rule says of a file, given its top by its index.
use Rattle.std.specs.Prelude.{◌≡◌, ℕ, []}
use Rattle.v_tree.specs.declared.modules.File.{File}
use Rattle.module_directives.specs.Precisions.{coarse_precisions}
use Rattle.module_scope.specs.declared.rules.NameRule.{NameRule}
use Rattle.instance_rules.specs.Items.{InstanceRule}
use Rattle.primitive_rules.specs.Places.{refused_tables}
use Rattle.netlist_scopes.specs.Reached.{reached_places as name_places}
use Rattle.netlist_rules.specs.Items.{reached_places as item_places}
use Rattle.netlist_meaning.specs.Plans.{modules_reached, primitives_reached}

pub record AreUnbroken (file : File) (top : ℕ) : Type 0 where
  pub names : (law : NameRule) → name_places law file.directives (modules_reached file top) file.modules ≡ []
  pub items : (law : InstanceRule) → item_places law file (modules_reached file top) ≡ []
  pub tables : refused_tables (primitives_reached file top) file.udps ≡ []
  pub precisions : coarse_precisions file.directives ≡ []
