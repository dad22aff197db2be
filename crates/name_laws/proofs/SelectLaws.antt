-- The runs of a module select bits that its nets have.
use Rattle.std.proofs.Common.{◌≡◌, ℕ, ◌+◌, ◌≤◌, Bool, true, false, cond, not, ◌&&◌, ◌||◌, List, [], ◌∷◌, ◌++◌, Option, Some, None, refl, sym, ap, subst, ◌∙◌, arith}
use Rattle.std.specs.Prelude.{nat_le}
use Rattle.std.specs.List.{AllByRecursion, find, list_any}
use Rattle.std.specs.Option.{is_some, unwrap_or}
use Rattle.std.proofs.lemmas.Bool.{leb-true}
use Rattle.v_tree.specs.declared.directives.ImplicitNetType.{ImplicitNetType}
use Rattle.v_tree.specs.declared.expressions.RangeBounds.{RangeBounds}
use Rattle.v_tree.specs.declared.expressions.Select.{Select}
use Rattle.v_tree.specs.declared.modules.Module.{Module}
use Rattle.module_scope.specs.declared.roles.Role.{Role}
use Rattle.module_scope.specs.declared.roles.Role.TheVariants as role
use Rattle.module_scope.specs.declared.rules.NameRule.TheVariants as rule
use Rattle.module_scope.specs.declared.nets.ScopeNet.{ScopeNet}
use Rattle.module_scope.specs.Mentions.{Mention, mentions_in, roles_of}
use Rattle.module_scope.specs.Roles.{declares_net, is_value, makes_net}
use Rattle.module_scope.specs.Rules.{breaks_selects, breaks_undeclared, first_range, is_part, is_within, names_net}
use Rattle.module_scope.specs.Places.{places_behind}
use Rattle.module_scope.specs.Nets.{declared_net, implicit_net, net_of}
use Rattle.module_scope.specs.Scopes.{scope_of}
use Rattle.module_scope.proofs.ScopeLaws.{scope_net-of}
use Rattle.module_graph.specs.declared.references.Master.{Master}
use Rattle.module_ports.specs.Ports.{Port}
use Rattle.item_parts.specs.Widths.{bounds_width, net_range}
use Rattle.module_parts.specs.Parts.{module_parts}
use Rattle.netlist_plan.specs.Nets.{bit_offset}
use Rattle.netlist_plan.specs.Unnamed.{runs_in}
use Rattle.plan_laws.specs.SoundRuns.{FitsRange}
use Rattle.name_laws.specs.Unbroken.{AreUnbroken}
use Rattle.name_laws.specs.FitSelects.{HasFitSelect}
use Rattle.name_laws.proofs.MentionLaws.{unbroken-first, unbroken-later}
use Rattle.name_laws.proofs.RunLaws.{module-runs}

-- ---- selects within ranges

three_parts : (a b c : Bool) → (a && b && c) ≡ true → (a ≡ true) × (b ≡ true) × (c ≡ true)
three_parts true true true e = (refl, refl, refl)
three_parts true true false e = absurd cc
three_parts true false c e = absurd cc
three_parts false b c e = absurd cc

-- bounds that lie inside a range and follow its direction are those of bits that it has
part_fits : (left right : ℕ) (range : RangeBounds) → is_part left right range ≡ true → bit_offset (Some range) left + bounds_width left right ≤ bounds_width range.left range.right
part_fits left right range is = by (nat_le range.right right && nat_le right left && nat_le left range.left) refl is
  where
    by : (falls : Bool) → (nat_le range.right right && nat_le right left && nat_le left range.left) ≡ falls
        → (falls || (nat_le range.left left && nat_le left right && nat_le right range.right)) ≡ true → bit_offset (Some range) left + bounds_width left right ≤ bounds_width range.left range.right
    by true first e =
        let parts = three_parts (nat_le range.right right) (nat_le right left) (nat_le left range.left) first in
        let low = leb-true range.right right parts.0 in
        let mid = leb-true right left parts.1 in
        let high = leb-true left range.left parts.2 in
        omega arith
    by false first e =
        let parts = three_parts (nat_le range.left left) (nat_le left right) (nat_le right range.right) e in
        let low = leb-true range.left left parts.0 in
        let mid = leb-true left right parts.1 in
        let high = leb-true right range.right parts.2 in
        omega arith

within_fits : (select : Select) (range : Option RangeBounds) → is_within select range ≡ true → FitsRange range (Some select)
within_fits select None is = absurd cc
within_fits select (Some range) is = part_fits select.left (unwrap_or select.right select.left) range is

-- ---- the mentions of a module

-- a use selects bits that the range has
abbrev RoleFits : Option RangeBounds → Role → Type 0
RoleFits range role.Header = Unit {0}
RoleFits range (role.Port port) = Unit {0}
RoleFits range (role.Net net) = Unit {0}
RoleFits range role.Instance = Unit {0}
RoleFits range (role.Use at select) = FitsRange range select

module _ (default : Option ImplicitNetType) where
  -- a name that is declared has the range of its first declaration
  declared_range : (all : List Role) (first : Role) → find declares_net all ≡ Some first → net_range (net_of default all) ≡ first_range (Some first)
  declared_range all first is =
      ap (λ (f : Option Role). net_range (cond (is_some f) (Some (declared_net default all)) (cond (is_some default && list_any makes_net all) (Some (implicit_net default)) None))) is
      ∙ ap first_range is

  -- a use that breaks no rule on selects
  role_fits : (all before : List Role) (r : Role) → breaks_undeclared (is_some default) all before r ≡ false → breaks_selects (is_some default) all before r ≡ false
      → RoleFits (net_range (net_of default all)) r
  role_fits all before role.Header named within = tt
  role_fits all before (role.Port port) named within = tt
  role_fits all before (role.Net net) named within = tt
  role_fits all before role.Instance named within = tt
  role_fits all before (role.Use at None) named within = omega arith
  role_fits all before (role.Use at (Some select)) named within =
      by (find declares_net all) refl
      (inside (names_net (is_some default) all before) (is_within select (first_range (find declares_net all)))
      (known (is_value at) (names_net (is_some default) all before) named) within)
    where
      known : (value names : Bool) → ((value || true) && not names) ≡ false → names ≡ true
      known true true e = refl
      known false true e = refl
      known true false e = absurd cc
      known false false e = absurd cc

      inside : (names is : Bool) → names ≡ true → (names && not is) ≡ false → is ≡ true
      inside true true e f = refl
      inside true false e f = absurd cc
      inside false is e f = absurd cc

      by : (first : Option Role) → find declares_net all ≡ first → is_within select (first_range (find declares_net all)) ≡ true → FitsRange (net_range (net_of default all)) (Some select)
      by None is e = absurd (let no : is_within select (first_range None) ≡ true = subst (λ (f : Option Role). is_within select (first_range f) ≡ true) is e in cc)
      by (Some first) is e =
          subst (λ (range : Option RangeBounds). FitsRange range (Some select)) (sym (declared_range all first is))
          (within_fits select (first_range (Some first)) (subst (λ (f : Option Role). is_within select (first_range f) ≡ true) is e))

  -- a mention selects bits of the net of its name, by all that the module mentions
  abbrev MentionFits : List Mention → Mention → Type 0
  MentionFits all m = RoleFits (net_range (net_of default (roles_of m.name all))) m.role

  mentions_fit : (all before rest : List Mention) → places_behind rule.Undeclared (is_some default) all before rest ≡ [] → places_behind rule.Selects (is_some default) all before rest ≡ []
      → AllByRecursion (MentionFits all) rest
  mentions_fit all before [] named within = tt
  mentions_fit all before (m ∷ rest) named within = (
    role_fits (roles_of m.name all) (roles_of m.name before) m.role
        (unbroken-first rule.Undeclared (is_some default) all before m rest named) (unbroken-first rule.Selects (is_some default) all before m rest within),
    mentions_fit all (before ++ m ∷ []) rest
        (unbroken-later rule.Undeclared (is_some default) all before m rest named) (unbroken-later rule.Selects (is_some default) all before m rest within),
  )

-- the law: the runs of a module select bits that its nets have where no rule is broken
pub selects-fit : (default : Option ImplicitNetType) (tables : List (List Port)) (of : List ℕ → Master) (m : Module) → AreUnbroken default m
    → AllByRecursion (λ part. AllByRecursion (HasFitSelect (scope_of default m)) (runs_in part)) (module_parts (scope_of default m) tables of m)
selects-fit default tables of m unbroken =
    module-runs (MentionFits default (mentions_in m)) (HasFitSelect (scope_of default m))
    (λ at pick fits. subst (λ (net : Option ScopeNet). FitsRange (net_range net) pick.select) (sym (scope_net-of default m pick.name.text)) fits)
    (λ bits. tt) (λ name. omega arith) (scope_of default m) tables of m
    (mentions_fit default (mentions_in m) [] (mentions_in m) (unbroken rule.Undeclared) (unbroken rule.Selects))
