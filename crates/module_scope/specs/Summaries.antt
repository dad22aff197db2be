-- What bodies alone need: what the rules ask of the roles of a name, kept in a summary of them.
use Rattle.std.specs.Prelude.{ℕ, Bool, true, false, not, ◌&&◌, ◌||◌, List, map, Option, Some, None, if◌then◌else◌}
use Rattle.std.specs.List.{find, list_any, range_with_len}
use Rattle.std.specs.Option.{is_some, is_none, option_or}
use Rattle.v_tree.specs.declared.declarations.NetType.{NetType}
use Rattle.v_tree.specs.declared.expressions.RangeBounds.{RangeBounds}
use Rattle.v_tree.specs.declared.directives.ImplicitNetType.{ImplicitNetType}
use Rattle.v_tree.specs.declared.locations.Location.{Location}
use Rattle.rule_places.specs.Places.{earliest}
use Rattle.module_scope.specs.declared.roles.Role.{Role}
use Rattle.module_scope.specs.declared.roles.Role.TheVariants as role
use Rattle.module_scope.specs.declared.roles.Count.{Count}
use Rattle.module_scope.specs.declared.roles.Count.TheVariants.{Zero, One, Several}
use Rattle.module_scope.specs.declared.rules.NameRule.{NameRule}
use Rattle.module_scope.specs.declared.rules.NameRule.TheVariants as rule
use Rattle.module_scope.specs.declared.mentions.Occurrence.{Occurrence}
use Rattle.module_scope.specs.declared.summaries.DeclarationForm.{DeclarationForm}
use Rattle.module_scope.specs.declared.summaries.DeclarationForm.TheVariants as form
use Rattle.module_scope.specs.declared.summaries.Summary.{Summary}
use Rattle.module_scope.specs.declared.nets.ScopeNet.{ScopeNet}
use Rattle.module_scope.specs.declared.places.ScopePlaces.{ScopePlaces}
use Rattle.module_scope.specs.Roles.{is_header, is_port, is_net, declares_net, is_declaration, is_value, takes_implicit, makes_net, range_of, direction_of, type_of, kind_of, delay_of, first_of, how_many, more, is_zero, is_one, is_several}
use Rattle.module_scope.specs.Rules.{is_within, first_range, same_range}
use Rattle.module_scope.specs.Nets.{declared_kind, implicit_net}
use Rattle.module_scope.specs.Occurrences.{roles_at}

-- a direction without a net type or with one
abbrev pub port_form : Option NetType → DeclarationForm
port_form None = form.Direction
port_form (Some t) = form.TypedDirection

-- what a declaration is
abbrev pub form_of : Role → DeclarationForm
form_of (role.Port port) = port_form port.net_type
form_of (role.Net net) = form.Net
form_of other = form.Instance

-- the same, where there is one
abbrev pub form_in : Option Role → DeclarationForm
form_in None = form.Absent
form_in (Some r) = form_of r

-- what is kept of the roles of a name
abbrev pub summary_of : List Role → Summary
summary_of roles = record {
  headers = how_many is_header roles;
  directions = how_many is_port roles;
  declarations = how_many is_declaration roles;
  declaration_form = form_in (find is_declaration roles);
  net_form = form_in (find declares_net roles);
  is_declared = is_some (find declares_net roles);
  makes_net = list_any makes_net roles;
  direction = first_of direction_of roles;
  port_type = first_of type_of roles;
  net_kind = first_of kind_of roles;
  range = first_range (find declares_net roles);
  delay = first_of delay_of roles;
}

-- a count, with one more where the role is of the kind
abbrev pub count_next : Count → Bool → Count
count_next count is_kind = if is_kind then more count else count

-- the first form, where there was one, else that of this role where it is of the kind
abbrev pub form_next : DeclarationForm → Bool → Role → DeclarationForm
form_next form.Absent is_kind r = if is_kind then form_of r else form.Absent
form_next other is_kind r = other

-- the range of the first declaration, where there was one, else that of this role
abbrev pub range_next : Bool → Option RangeBounds → Role → Option RangeBounds
range_next is_declared range r = if is_declared then range else range_of r

-- what is kept when one more role has come
abbrev pub with_role : Summary → Role → Summary
with_role s r = record {
  headers = count_next s.headers (is_header r);
  directions = count_next s.directions (is_port r);
  declarations = count_next s.declarations (is_declaration r);
  declaration_form = form_next s.declaration_form (is_declaration r) r;
  net_form = form_next s.net_form (declares_net r) r;
  is_declared = s.is_declared || declares_net r;
  makes_net = s.makes_net || makes_net r;
  direction = option_or s.direction (direction_of r);
  port_type = option_or s.port_type (type_of r);
  net_kind = option_or s.net_kind (kind_of r);
  range = range_next s.is_declared s.range r;
  delay = option_or s.delay (delay_of r);
}

-- ---- the rules, by summaries

-- a declaration of this form and a role are a direction without a net type and a declaration of the net
abbrev pub form_completes : DeclarationForm → Role → Bool
form_completes form.Direction r = is_net r
form_completes form.Net (role.Port port) = is_none port.net_type
form_completes other r = false

-- a declaration behind others, the first of them of this form
abbrev pub form_repeats : Count → DeclarationForm → Role → Bool
form_repeats Zero first r = false
form_repeats One first r = not (form_completes first r)
form_repeats Several first r = true

-- a declaration of this form and range, and a role, are a direction and a net of different ranges
abbrev pub form_differs : DeclarationForm → Option RangeBounds → Role → Bool
form_differs form.Net range (role.Port port) = not (same_range range port.range)
form_differs form.Direction range (role.Net net) = not (same_range range net.range)
form_differs form.TypedDirection range (role.Net net) = not (same_range range net.range)
form_differs other range r = false

abbrev pub summary_breaks_ports : Summary → Summary → Role → Bool
summary_breaks_ports all before role.Header = if is_several all.headers then is_one before.headers else not (is_one all.directions)
summary_breaks_ports all before (role.Port port) = is_zero all.headers
summary_breaks_ports all before other = false

abbrev pub summary_makes_implicit : Bool → Summary → Summary → Role → Bool
summary_makes_implicit makes all before r = makes && not all.is_declared && makes_net r && not before.makes_net

abbrev pub summary_has_implicit : Bool → Summary → Summary → Bool
summary_has_implicit makes all before = makes && not all.is_declared && before.makes_net

abbrev pub summary_names_net : Bool → Summary → Summary → Bool
summary_names_net makes all before = all.is_declared || summary_has_implicit makes all before

abbrev pub summary_breaks_repeated : Bool → Summary → Summary → Role → Bool
summary_breaks_repeated makes all before r =
    if is_declaration r
    then summary_has_implicit makes all before || form_repeats before.declarations before.declaration_form r
    else summary_makes_implicit makes all before r && not (is_zero before.declarations)

abbrev pub summary_breaks_undeclared : Bool → Summary → Summary → Role → Bool
summary_breaks_undeclared makes all before (role.Use at select) = (is_value at || is_some select) && not (summary_names_net makes all before)
summary_breaks_undeclared makes all before other = false

abbrev pub summary_breaks_implicit : Bool → Summary → Role → Bool
summary_breaks_implicit makes all (role.Use at select) = not makes && takes_implicit at && not all.is_declared
summary_breaks_implicit makes all other = false

abbrev pub summary_breaks_selects : Bool → Summary → Summary → Role → Bool
summary_breaks_selects makes all before (role.Use at (Some select)) = summary_names_net makes all before && not (is_within select all.range)
summary_breaks_selects makes all before other = false

abbrev pub summary_breaks : NameRule → Bool → Summary → Summary → Role → Bool
summary_breaks rule.Ports makes all before r = summary_breaks_ports all before r
summary_breaks rule.Repeated makes all before r = summary_breaks_repeated makes all before r
summary_breaks rule.Undeclared makes all before r = summary_breaks_undeclared makes all before r
summary_breaks rule.Selects makes all before r = summary_breaks_selects makes all before r
summary_breaks rule.Ranges makes all before r = form_differs before.net_form before.range r
summary_breaks rule.Implicit makes all before r = summary_breaks_implicit makes all r

-- the net of a name, by the summary of its roles
abbrev pub summary_net : Option ImplicitNetType → Summary → Option ScopeNet
summary_net default s =
    if s.is_declared
    then Some (record { direction = s.direction; kind = declared_kind default s.net_kind s.port_type; range = s.range; delay = s.delay })
    else (if is_some default && s.makes_net then Some (implicit_net default) else None)

-- ---- the summaries of all names

-- the summary of the roles of each of so many names, by the index of the name
abbrev pub summaries_of : ℕ → List Occurrence → List Summary
summaries_of count occurrences = map (λ index. summary_of (roles_at index occurrences)) (range_with_len 0 count)

-- ---- the first places of the rules

-- the first place, when one more has come, where a rule is broken there
abbrev pub first_more : Bool → Option Location → Location → Option Location
first_more broken first location = if broken then earliest first (Some location) else first

-- the first place of each rule, when one more occurrence has come
abbrev pub places_more : Bool → Summary → Summary → Occurrence → ScopePlaces → ScopePlaces
places_more makes all before o places = record {
  ports = first_more (summary_breaks rule.Ports makes all before o.role) places.ports o.location;
  repeated = first_more (summary_breaks rule.Repeated makes all before o.role) places.repeated o.location;
  undeclared = first_more (summary_breaks rule.Undeclared makes all before o.role) places.undeclared o.location;
  selects = first_more (summary_breaks rule.Selects makes all before o.role) places.selects o.location;
  ranges = first_more (summary_breaks rule.Ranges makes all before o.role) places.ranges o.location;
  implicit = first_more (summary_breaks rule.Implicit makes all before o.role) places.implicit o.location;
}
