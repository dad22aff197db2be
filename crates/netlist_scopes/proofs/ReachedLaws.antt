-- The first places over the modules that are reached.
use Rattle.std.proofs.Common.{◌≡◌, ℕ, ◌+◌, ◌<◌, Bool, true, false, List, [], ◌∷◌, length, get_or, drop, map, Option, refl, sym, ap, ◌∙◌, arith}
use Rattle.std.specs.List.{flat_map, items_where_true}
use Rattle.std.proofs.lemmas.List.{at_drop_more}
use Rattle.v_tree.specs.declared.locations.Location.{Location}
use Rattle.v_tree.specs.declared.directives.Directive.{Directive}
use Rattle.v_tree.specs.declared.modules.Module.{Module}
use Rattle.rule_places.specs.Places.{earliest, first_place}
use Rattle.rule_places.proofs.PlaceLaws.{earliest_none, earliest_assoc, first_place-append}
use Rattle.module_scope.specs.declared.scopes.Scope.{Scope}
use Rattle.module_scope.specs.declared.places.ScopePlaces.{ScopePlaces}
use Rattle.module_scope.specs.declared.rules.NameRule.TheVariants as rule
use Rattle.netlist_scopes.specs.Reached.{module_places, name_places, scope_under}
use Rattle.netlist_scopes.specs.Walks.{earliest_places, no_places, places_among, with_scope}

-- one more module
pub places_among-step : (places : ScopePlaces) (reached : List Bool) (scopes : List Scope) (i : ℕ) (r : Bool) (s : Scope) → length reached ≡ length scopes → i < length scopes →
    places_among places (drop i reached) (drop i scopes) ≡ places_among (with_scope places (get_or reached i r) (get_or scopes i s)) (drop (i + 1) reached) (drop (i + 1) scopes)
places_among-step places reached scopes i r s same lt =
    at_drop_more (λ (rs : List Bool). places_among places rs (drop i scopes)) reached i r (omega arith)
    ∙ at_drop_more (λ (ss : List Scope). places_among places (get_or reached i r ∷ drop (i + 1) reached) ss) scopes i s lt

-- the first places of one rule, scope by scope, are the first of its places in all modules that are reached
module _ (field : ScopePlaces → Option Location) (apart : (a b : ScopePlaces) → field (earliest_places a b) ≡ earliest (field a) (field b)) (of : Module → Scope) (places_of : Module → List Location) (fits : (m : Module) → field (of m).places ≡ first_place (places_of m)) where
  among_reached : (so_far : ScopePlaces) (reached : List Bool) (modules : List Module) →
      field (places_among so_far reached (map of modules)) ≡ earliest (field so_far) (first_place (flat_map places_of (items_where_true reached modules)))
  among_reached so_far [] modules = sym (earliest_none (field so_far))
  among_reached so_far (r ∷ reached) [] = sym (earliest_none (field so_far))
  among_reached so_far (true ∷ reached) (m ∷ modules) =
      let rest : Option Location = first_place (flat_map places_of (items_where_true reached modules)) in
      among_reached (earliest_places so_far (of m).places) reached modules
      ∙ ap (λ (first : Option Location). earliest first rest) (apart so_far (of m).places ∙ ap (λ (here : Option Location). earliest (field so_far) here) (fits m))
      ∙ earliest_assoc (field so_far) (first_place (places_of m)) rest
      ∙ ap (λ (here : Option Location). earliest (field so_far) here) (sym (first_place-append (places_of m) (flat_map places_of (items_where_true reached modules))))
  among_reached so_far (false ∷ reached) (m ∷ modules) = among_reached so_far reached modules

-- the first places, scope by scope, are those of the rules over the modules that are reached
pub places_among-reached : (directives : List Directive) (reached : List Bool) (modules : List Module) →
    places_among no_places reached (map (scope_under directives) modules) ≡ name_places directives reached modules
places_among-reached ds reached ms =
    let of : Module → Scope = scope_under ds in
    let ports = among_reached (λ (p : ScopePlaces). p.ports) (λ a b. refl) of (module_places rule.Ports ds) (λ m. refl) no_places reached ms in
    let repeated = among_reached (λ (p : ScopePlaces). p.repeated) (λ a b. refl) of (module_places rule.Repeated ds) (λ m. refl) no_places reached ms in
    let undeclared = among_reached (λ (p : ScopePlaces). p.undeclared) (λ a b. refl) of (module_places rule.Undeclared ds) (λ m. refl) no_places reached ms in
    let selects = among_reached (λ (p : ScopePlaces). p.selects) (λ a b. refl) of (module_places rule.Selects ds) (λ m. refl) no_places reached ms in
    let ranges = among_reached (λ (p : ScopePlaces). p.ranges) (λ a b. refl) of (module_places rule.Ranges ds) (λ m. refl) no_places reached ms in
    let implicit = among_reached (λ (p : ScopePlaces). p.implicit) (λ a b. refl) of (module_places rule.Implicit ds) (λ m. refl) no_places reached ms in
    same (places_among no_places reached (map of ms)) (name_places ds reached ms) ports repeated undeclared selects ranges implicit
  where
    made : (p r u s g i : Option Location) → ScopePlaces
    made p r u s g i = record { ports = p; repeated = r; undeclared = u; selects = s; ranges = g; implicit = i }

    same : (a b : ScopePlaces) → a.ports ≡ b.ports → a.repeated ≡ b.repeated → a.undeclared ≡ b.undeclared → a.selects ≡ b.selects → a.ranges ≡ b.ranges → a.implicit ≡ b.implicit → a ≡ b
    same a b p r u s g i =
        let joined : made a.ports a.repeated a.undeclared a.selects a.ranges a.implicit ≡ made b.ports b.repeated b.undeclared b.selects b.ranges b.implicit = cc in
        joined
