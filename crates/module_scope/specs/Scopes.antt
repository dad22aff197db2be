-- The scope of a module.
use Rattle.std.specs.Prelude.{ℕ, List, slice_get, Option, Some, None}
use Rattle.std.specs.Option.{option_flatten}
use Rattle.name_table.specs.Names.{index_of}
use Rattle.v_tree.specs.declared.directives.ImplicitNetType.{ImplicitNetType}
use Rattle.v_tree.specs.declared.modules.Module.{Module}
use Rattle.module_scope.specs.declared.nets.ScopeNet.{ScopeNet}
use Rattle.module_scope.specs.declared.scopes.Scope.{Scope}
use Rattle.module_scope.specs.Mentions.{Mention, first_names, mentions_in}
use Rattle.module_scope.specs.Nets.{nets_of}
use Rattle.module_scope.specs.Places.{scope_places}

-- the names that are mentioned, their nets, and the first places of the rules
abbrev pub scope_with : Option ImplicitNetType → List Mention → Scope
scope_with default mentions = record {
  names = first_names mentions;
  nets = nets_of default mentions (first_names mentions);
  places = scope_places default mentions;
}

-- the scope of a module under a type of implicit nets, where they are made
abbrev pub scope_of : Option ImplicitNetType → Module → Scope
scope_of default m = scope_with default (mentions_in m)

-- the net at an index
abbrev pub net_at : List (Option ScopeNet) → Option ℕ → Option ScopeNet
net_at nets None = None
net_at nets (Some index) = option_flatten (slice_get nets index)

-- the net of a name
abbrev pub scope_net : Scope → List ℕ → Option ScopeNet
scope_net scope name = net_at scope.nets (index_of name scope.names)
