-- The one net that a name has in a module.
use Rattle.std.specs.Prelude.{ℕ, ◌&&◌, List, map, Option, Some, None, if◌then◌else◌}
use Rattle.std.specs.List.{find, list_any}
use Rattle.std.specs.Option.{is_some, unwrap_or}
use Rattle.v_tree.specs.declared.declarations.NetType.{NetType}
use Rattle.v_tree.specs.declared.declarations.NetType.TheVariants as net_type
use Rattle.v_tree.specs.declared.directives.ImplicitNetType.{ImplicitNetType}
use Rattle.v_tree.specs.declared.directives.ImplicitNetType.TheVariants as implicit
use Rattle.v_tree.specs.declared.drives.Charge.TheVariants as charge
use Rattle.module_scope.specs.declared.roles.NetKind.{NetKind}
use Rattle.module_scope.specs.declared.roles.NetKind.TheVariants.{Typed, Trireg}
use Rattle.module_scope.specs.declared.roles.Role.{Role}
use Rattle.module_scope.specs.declared.nets.ScopeNet.{ScopeNet}
use Rattle.module_scope.specs.Roles.{declares_net, makes_net, direction_of, type_of, kind_of, delay_of, first_of}
use Rattle.module_scope.specs.Rules.{first_range}
use Rattle.module_scope.specs.Mentions.{Mention, roles_of}

-- the kind of implicit nets and of ports without a net type: an implicit trireg has a medium charge, and under `none` such a port is a wire (IEEE 1364-2005, 19.2)
abbrev pub default_kind : Option ImplicitNetType → NetKind
default_kind None = Typed net_type.Wire
default_kind (Some implicit.Wire) = Typed net_type.Wire
default_kind (Some implicit.Tri) = Typed net_type.Tri
default_kind (Some implicit.Tri0) = Typed net_type.Tri0
default_kind (Some implicit.Tri1) = Typed net_type.Tri1
default_kind (Some implicit.Wand) = Typed net_type.Wand
default_kind (Some implicit.Triand) = Typed net_type.Triand
default_kind (Some implicit.Wor) = Typed net_type.Wor
default_kind (Some implicit.Trior) = Typed net_type.Trior
default_kind (Some implicit.Trireg) = Trireg charge.Medium

-- the type that a port's direction gives, else the default
abbrev pub typed_kind : Option ImplicitNetType → Option NetType → NetKind
typed_kind default None = default_kind default
typed_kind default (Some t) = Typed t

-- the kind that a declaration of the net gives, else the type of its direction, else the default
abbrev pub declared_kind : Option ImplicitNetType → Option NetKind → Option NetType → NetKind
declared_kind default net_kind port_type = unwrap_or net_kind (typed_kind default port_type)

-- a net that no declaration of the module declares
abbrev pub implicit_net : Option ImplicitNetType → ScopeNet
implicit_net default = record { direction = None; kind = default_kind default; range = None; delay = None }

-- a net that is declared, by the first that gives its direction, its kind and its delay, and by the range of its first declaration
abbrev pub declared_net : Option ImplicitNetType → List Role → ScopeNet
declared_net default roles = record {
  direction = first_of direction_of roles;
  kind = declared_kind default (first_of kind_of roles) (first_of type_of roles);
  range = first_range (find declares_net roles);
  delay = first_of delay_of roles;
}

-- the net of a name, by what the module says of the name: the one that is declared, else an implicit one where a use makes it
abbrev pub net_of : Option ImplicitNetType → List Role → Option ScopeNet
net_of default roles =
    if is_some (find declares_net roles)
    then Some (declared_net default roles)
    else (if is_some default && list_any makes_net roles then Some (implicit_net default) else None)

-- the net of each name, in the order of the names
abbrev pub nets_of : Option ImplicitNetType → List Mention → List (List ℕ) → List (Option ScopeNet)
nets_of default mentions names = map (λ name. net_of default (roles_of name mentions)) names
