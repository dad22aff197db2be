-- What a file keeps, said of each of its modules.
use Rattle.std.specs.Prelude.{ℕ, ◌<◌, List, length}
use Rattle.std.specs.List.{AllByRecursion}
use Rattle.v_tree.specs.declared.modules.Module.{Module}
use Rattle.v_tree.specs.declared.modules.File.{File}
use Rattle.module_scope.specs.Scopes.{scope_net}
use Rattle.item_parts.specs.Widths.{net_range}
use Rattle.instance_rules.specs.Places.{instances_in}
use Rattle.netlist_scopes.specs.Reached.{scope_under}
use Rattle.flattening_laws.specs.SoundPlans.{IsRange}
use Rattle.fit_laws.specs.FitParts.{IsFitPart}
use Rattle.fit_laws.specs.EvenParts.{IsEven}
use Rattle.netlist_meaning.specs.Plans.{parts_in}

-- a module of a file: the bounds of its ranges are small, its parts are fit, the sides of its assignments have as many
-- bits, and each of its items of instances has one or more
pub record AreModuleFacts (file : File) (m : Module) : Type 0 where
  pub ranges : (name : List ℕ) → IsRange (net_range (scope_net (scope_under file.directives m) name))
  pub parts : AllByRecursion IsFitPart (parts_in file m)
  pub even : AllByRecursion (IsEven (scope_under file.directives m)) (parts_in file m)
  pub instances : AllByRecursion (λ i. 0 < length i.instances) (instances_in m.items)
