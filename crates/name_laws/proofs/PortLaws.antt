-- The names of a module's ports differ.
use Rattle.std.proofs.Common.{◌≡◌, ℕ, Bool, true, cond, not, List, [], ◌∷◌, ◌++◌, map, Option, refl, ap, subst, ◌∙◌}
use Rattle.std.specs.Option.{is_some}
use Rattle.v_tree.specs.declared.locations.Name.{Name}
use Rattle.v_tree.specs.declared.modules.AnsiEntry.{AnsiEntry}
use Rattle.v_tree.specs.declared.modules.AnsiEntry.TheVariants as entry
use Rattle.v_tree.specs.declared.modules.Ports.{Ports}
use Rattle.v_tree.specs.declared.modules.Ports.TheVariants as ports
use Rattle.v_tree.specs.declared.modules.Module.{Module}
use Rattle.v_tree.specs.declared.directives.ImplicitNetType.{ImplicitNetType}
use Rattle.module_scope.specs.declared.roles.PortRole.{PortRole}
use Rattle.module_scope.specs.declared.roles.Role.{Role}
use Rattle.module_scope.specs.declared.roles.Role.TheVariants as role
use Rattle.module_scope.specs.declared.rules.NameRule.TheVariants as rule
use Rattle.module_scope.specs.Mentions.{ansi_role, entries_mentions, header_mentions, items_mentions, names_mentions}
use Rattle.module_scope.specs.Roles.{how_many, is_header, is_one, is_port}
use Rattle.module_scope.specs.Rules.{breaks}
use Rattle.module_ports.specs.Ports.{entry_name, port_names}
use Rattle.flattening_laws.proofs.Apart.{AreApart}
use Rattle.name_laws.specs.Unbroken.{AreUnbroken}
use Rattle.name_laws.proofs.Fronts.{apart_front}
use Rattle.name_laws.proofs.MentionLaws.{count-several, names-append, names_where, unbroken-apart}

-- ---- the rule on ports

-- the second entry of a name breaks the rule
second_header : (makes : Bool) (before rest : List Role) (r : Role) → is_header r ≡ true → is_one (how_many is_header before) ≡ true → breaks rule.Ports makes (before ++ r ∷ rest) before r ≡ true
second_header makes before rest role.Header is one =
    let all = before ++ role.Header ∷ rest in
    ap (λ (b : Bool). cond b (is_one (how_many is_header before)) (not (is_one (how_many is_port all)))) (count-several is_header before rest role.Header is one) ∙ one
second_header makes before rest (role.Port port) is one = absurd cc
second_header makes before rest (role.Net net) is one = absurd cc
second_header makes before rest role.Instance is one = absurd cc
second_header makes before rest (role.Use at select) is one = absurd cc

-- ---- the header's names are the ports

abbrev text_of : Name → List ℕ
text_of name = name.text

named_headers : (names : List Name) → names_where is_header (names_mentions role.Header names) ≡ map text_of names
named_headers [] = refl
named_headers (name ∷ names) = ap (λ (ns : List (List ℕ)). name.text ∷ ns) (named_headers names)

entry_headers : (port : PortRole) (entries : List AnsiEntry) → names_where is_header (entries_mentions port entries) ≡ map text_of (map entry_name entries)
entry_headers port [] = refl
entry_headers port (entry.Port p ∷ entries) = ap (λ (ns : List (List ℕ)). p.name.text ∷ ns) (entry_headers (ansi_role p) entries)
entry_headers port (entry.Name name ∷ entries) = ap (λ (ns : List (List ℕ)). name.text ∷ ns) (entry_headers port entries)

pub header-names : (header : Ports) → names_where is_header (header_mentions header) ≡ port_names header
header-names ports.Absent = refl
header-names ports.Empty = refl
header-names (ports.Names names) = named_headers names
header-names (ports.Ansi first entries) = ap (λ (ns : List (List ℕ)). first.name.text ∷ ns) (entry_headers (ansi_role first) entries)

-- the law: the names of the ports of a module differ where no rule is broken
pub ports-apart : (default : Option ImplicitNetType) (m : Module) → AreUnbroken default m → AreApart (port_names m.ports)
ports-apart default m unbroken =
    let items = items_mentions 0 m.items in
    let apart = unbroken-apart rule.Ports (is_some default) is_header (second_header (is_some default)) (header_mentions m.ports ++ items) (unbroken rule.Ports) in
    let split = names-append is_header (header_mentions m.ports) items ∙ ap (λ (ns : List (List ℕ)). ns ++ names_where is_header items) (header-names m.ports) in
    apart_front (port_names m.ports) (names_where is_header items) (subst AreApart split apart)
