-- The rules on the names of a module: whether a mention of a name breaks a rule, told by what the module says of the name anywhere, what it said before, and what the mention says.
use Rattle.std.specs.Prelude.{ℕ, nat_le, nat_eq, Bool, true, false, not, ◌&&◌, ◌||◌, List, Option, Some, None, if◌then◌else◌}
use Rattle.std.specs.List.{find, list_any}
use Rattle.std.specs.Option.{is_some, is_none, unwrap_or}
use Rattle.v_tree.specs.declared.expressions.RangeBounds.{RangeBounds}
use Rattle.v_tree.specs.declared.expressions.Select.{Select}
use Rattle.module_scope.specs.declared.roles.Role.{Role}
use Rattle.module_scope.specs.declared.roles.Role.TheVariants as role
use Rattle.module_scope.specs.declared.roles.Count.{Count}
use Rattle.module_scope.specs.declared.roles.Count.TheVariants.{Zero, One, Several}
use Rattle.module_scope.specs.declared.rules.NameRule.{NameRule}
use Rattle.module_scope.specs.declared.rules.NameRule.TheVariants as rule
use Rattle.module_scope.specs.Roles.{is_header, is_port, declares_net, is_declaration, is_value, takes_implicit, makes_net, range_of, how_many, is_zero, is_one, is_several}

-- ---- ports

-- a header name stands twice in the header, at its second entry, or has no direction or several; or a direction names no header name
abbrev pub breaks_ports : List Role → List Role → Role → Bool
breaks_ports all before role.Header = if is_several (how_many is_header all) then is_one (how_many is_header before) else not (is_one (how_many is_port all))
breaks_ports all before (role.Port port) = is_zero (how_many is_header all)
breaks_ports all before other = false

-- ---- implicit nets (IEEE 1364-2005, 4.5): `makes` says whether they are made, which `default_nettype none` forbids

-- the mention makes an implicit net: the first that can, where the name is never declared as a net
abbrev pub makes_implicit : Bool → List Role → List Role → Role → Bool
makes_implicit makes all before r = makes && is_none (find declares_net all) && makes_net r && not (list_any makes_net before)

-- an implicit net was made before
abbrev pub has_implicit : Bool → List Role → List Role → Bool
has_implicit makes all before = makes && is_none (find declares_net all) && list_any makes_net before

-- the name is that of a net: one that the module declares, or an implicit one made before
abbrev pub names_net : Bool → List Role → List Role → Bool
names_net makes all before = is_some (find declares_net all) || has_implicit makes all before

-- ---- names that are declared twice

-- a direction without a net type and a declaration of the net, which together declare it once
abbrev pub is_pair : Role → Role → Bool
is_pair (role.Port port) (role.Net net) = is_none port.net_type
is_pair (role.Net net) (role.Port port) = is_none port.net_type
is_pair a b = false

-- the two are such a pair
abbrev pub completes : Option Role → Role → Bool
completes None r = false
completes (Some first) r = is_pair first r

-- a declaration behind others, of which one that stands alone and is completed by it isn't repeated
abbrev pub repeats : Count → Option Role → Role → Bool
repeats Zero first r = false
repeats One first r = not (completes first r)
repeats Several first r = true

-- a declaration of a net or an instance of a name that is declared already; an implicit net counts as declared where it is made
abbrev pub breaks_repeated : Bool → List Role → List Role → Role → Bool
breaks_repeated makes all before r =
    if is_declaration r
    then has_implicit makes all before || repeats (how_many is_declaration before) (find is_declaration before) r
    else makes_implicit makes all before r && not (is_zero (how_many is_declaration before))

-- ---- names of no net

-- the right side of an assignment, or a select, of a name that isn't a net's
abbrev pub breaks_undeclared : Bool → List Role → List Role → Role → Bool
breaks_undeclared makes all before (role.Use at select) = (is_value at || is_some select) && not (names_net makes all before)
breaks_undeclared makes all before other = false

-- where no implicit nets are made, a terminal, a connection or a target of a name that isn't declared
abbrev pub breaks_implicit : Bool → List Role → List Role → Role → Bool
breaks_implicit makes all before (role.Use at select) = not makes && takes_implicit at && is_none (find declares_net all)
breaks_implicit makes all before other = false

-- ---- selects and ranges

-- two bounds lie inside a range and follow its direction
abbrev pub is_part : ℕ → ℕ → RangeBounds → Bool
is_part left right range = (nat_le range.right right && nat_le right left && nat_le left range.left)
    || (nat_le range.left left && nat_le left right && nat_le right range.right)

-- a select lies inside a range and follows its direction; a scalar has no bits to select
abbrev pub is_within : Select → Option RangeBounds → Bool
is_within select None = false
is_within select (Some range) = is_part select.left (unwrap_or select.right select.left) range

-- the range that the first declaration of a net gives
abbrev pub first_range : Option Role → Option RangeBounds
first_range None = None
first_range (Some first) = range_of first

-- a select of a scalar, or outside the range, or against its direction
abbrev pub breaks_selects : Bool → List Role → List Role → Role → Bool
breaks_selects makes all before (role.Use at (Some select)) = names_net makes all before && not (is_within select (first_range (find declares_net all)))
breaks_selects makes all before other = false

abbrev pub same_bounds : RangeBounds → RangeBounds → Bool
same_bounds a b = nat_eq a.left b.left && nat_eq a.right b.right

-- both have the same range, or none
abbrev pub same_range : Option RangeBounds → Option RangeBounds → Bool
same_range None None = true
same_range (Some a) (Some b) = same_bounds a b
same_range a b = false

-- a direction and a declaration of the net with different ranges
abbrev pub differs : Role → Role → Bool
differs (role.Port port) (role.Net net) = not (same_range port.range net.range)
differs (role.Net net) (role.Port port) = not (same_range net.range port.range)
differs a b = false

abbrev pub differs_from : Option Role → Role → Bool
differs_from None r = false
differs_from (Some first) r = differs first r

-- the later of a port's direction and its declaration as a net, where their ranges differ
abbrev pub breaks_ranges : List Role → List Role → Role → Bool
breaks_ranges all before r = differs_from (find declares_net before) r

-- ---- all rules

-- the mention breaks the rule
abbrev pub breaks : NameRule → Bool → List Role → List Role → Role → Bool
breaks rule.Ports makes all before r = breaks_ports all before r
breaks rule.Repeated makes all before r = breaks_repeated makes all before r
breaks rule.Undeclared makes all before r = breaks_undeclared makes all before r
breaks rule.Selects makes all before r = breaks_selects makes all before r
breaks rule.Ranges makes all before r = breaks_ranges all before r
breaks rule.Implicit makes all before r = breaks_implicit makes all before r
