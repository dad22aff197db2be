-- When the rules on the names of a module hold.
use Rattle.std.specs.Prelude.{◌≡◌, [], Option}
use Rattle.std.specs.Option.{is_some}
use Rattle.v_tree.specs.declared.directives.ImplicitNetType.{ImplicitNetType}
use Rattle.v_tree.specs.declared.modules.Module.{Module}
use Rattle.module_scope.specs.declared.rules.NameRule.{NameRule}
use Rattle.module_scope.specs.Mentions.{mentions_in}
use Rattle.module_scope.specs.Places.{breaking_places}

-- no mention of the module breaks a rule on names
abbrev pub AreUnbroken : Option ImplicitNetType → Module → Type 0
AreUnbroken default m = (law : NameRule) → breaking_places law (is_some default) (mentions_in m) ≡ []
