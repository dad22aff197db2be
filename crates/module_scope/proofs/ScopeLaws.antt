-- What a scope says of each name.
use Rattle.std.proofs.Common.{◌≡◌, ℕ, Bool, true, false, cond, ◌||◌, List, [], ◌∷◌, ◌++◌, map, Option, None, Some, Result, Ok, Err, IfOk, refl, sym, ap, subst, ◌∙◌, append_assoc}
use Rattle.std.specs.List.{filter}
use Rattle.std.specs.Option.{option_flatten, option_map}
use Rattle.std.proofs.lemmas.Bool.{both_ways, or_parts, false_from_ne_true}
use Rattle.std.proofs.lemmas.Option.{slice_get-map, slice_get-get_or}
use Rattle.name_table.specs.Names.{same_name, is_among, index_of}
use Rattle.v_tree.specs.declared.directives.ImplicitNetType.{ImplicitNetType}
use Rattle.v_tree.specs.declared.modules.Module.{Module}
use Rattle.module_scope.specs.declared.scopes.Scope.{Scope}
use Rattle.module_scope.specs.Mentions.{Mention, mentions_in, roles_of, new_names, first_names}
use Rattle.module_scope.specs.Nets.{net_of}
use Rattle.module_scope.specs.Scopes.{net_at, scope_net, scope_with, scope_of}
use Rattle.module_scope.proofs.Naming.{index_within, index_name, index_absent, same_name-true}

is_among-append : (name : List ℕ) (xs ys : List (List ℕ)) → is_among name (xs ++ ys) ≡ (is_among name xs || is_among name ys)
is_among-append name [] ys = refl
is_among-append name (x ∷ xs) ys = by (same_name name x) (is_among-append name xs ys)
  where
    by : (b : Bool) → is_among name (xs ++ ys) ≡ (is_among name xs || is_among name ys) → (b || is_among name (xs ++ ys)) ≡ ((b || is_among name xs) || is_among name ys)
    by true rest = refl
    by false rest = rest

-- a name that no mention has says nothing
roles_absent : (name : List ℕ) (before : List (List ℕ)) (mentions : List Mention) → is_among name (before ++ new_names before mentions) ≡ false → roles_of name mentions ≡ []
roles_absent name before [] absent = refl
roles_absent name before (m ∷ mentions) absent = by (λ others. roles_absent name others mentions) (is_among m.name before) refl absent
  where
    skip : same_name name m.name ≡ false → roles_of name mentions ≡ [] → roles_of name (m ∷ mentions) ≡ []
    skip apart rest =
        ap (λ (b : Bool). map (λ (n : Mention). n.role) (cond b (m ∷ filter (λ (n : Mention). same_name name n.name) mentions) (filter (λ (n : Mention). same_name name n.name) mentions))) apart
        ∙ rest

    by : ((others : List (List ℕ)) → is_among name (others ++ new_names others mentions) ≡ false → roles_of name mentions ≡ []) → (among : Bool) → is_among m.name before ≡ among → is_among name (before ++ cond among (new_names before mentions) (m.name ∷ new_names (before ++ m.name ∷ []) mentions)) ≡ false → roles_of name (m ∷ mentions) ≡ []
    by others true is none =
        let parts = or_parts (is_among name before) (is_among name (new_names before mentions)) (sym (is_among-append name before (new_names before mentions)) ∙ none) in
        let apart : same_name name m.name ≡ false = false_from_ne_true (same_name name m.name) (λ e. both_ways (is_among name before) parts.0 (subst (λ (n : List ℕ). is_among n before ≡ true) (sym (same_name-true name m.name e)) is)) in
        skip apart (others before none)
    by others false is none =
        let rest = new_names (before ++ m.name ∷ []) mentions in
        let parts = or_parts (is_among name before) (is_among name (m.name ∷ rest)) (sym (is_among-append name before (m.name ∷ rest)) ∙ none) in
        let inner = or_parts (same_name name m.name) (is_among name rest) parts.1 in
        skip inner.0 (others (before ++ m.name ∷ []) (ap (is_among name) (append_assoc before (m.name ∷ []) rest) ∙ none))

-- what says nothing of a name gives it no net
no_net : (default : Option ImplicitNetType) → net_of default [] ≡ None
no_net None = refl
no_net (Some t) = refl

-- the net of each name is that which the mentions of the name give
pub scope_net-with : (default : Option ImplicitNetType) (mentions : List Mention) (name : List ℕ) → scope_net (scope_with default mentions) name ≡ net_of default (roles_of name mentions)
scope_net-with default mentions name = by (index_of name (first_names mentions)) refl
  where
    by : (found : Option ℕ) → index_of name (first_names mentions) ≡ found → net_at (map (λ (n : List ℕ). net_of default (roles_of n mentions)) (first_names mentions)) found ≡ net_of default (roles_of name mentions)
    by (Some k) is =
        ap option_flatten (slice_get-map (λ (n : List ℕ). net_of default (roles_of n mentions)) (first_names mentions) k
        ∙ ap (option_map (λ (n : List ℕ). net_of default (roles_of n mentions))) (slice_get-get_or (first_names mentions) k [] (index_within name (first_names mentions) k is)))
        ∙ ap (λ (n : List ℕ). net_of default (roles_of n mentions)) (index_name name (first_names mentions) k is)
    by None is =
        sym (ap (net_of default) (roles_absent name [] mentions (index_absent name (first_names mentions) is)) ∙ no_net default)

pub scope_net-of : (default : Option ImplicitNetType) (m : Module) (name : List ℕ) → scope_net (scope_of default m) name ≡ net_of default (roles_of name (mentions_in m))
scope_net-of default m name = scope_net-with default (mentions_in m) name

pub nets_of_result : {E : Type 0} (r : Result Scope E) (default : Option ImplicitNetType) (mentions : List Mention) (m : Module) → IfOk r (λ scope. scope ≡ scope_with default mentions) → mentions ≡ mentions_in m →
    IfOk r (λ scope. (name : List ℕ) → scope_net scope name ≡ net_of default (roles_of name (mentions_in m)))
nets_of_result (Ok scope) default mentions m is same = λ name. ap (λ (s : Scope). scope_net s name) (is ∙ ap (scope_with default) same) ∙ scope_net-of default m name
nets_of_result (Err e) default mentions m is same = tt
