-- A table of least tokens, with one more name.
use Rattle.std.proofs.Common.{◌≡◌, ℕ, ◌+◌, ◌<◌, Bool, true, false, cond, ◌||◌, ◌&&◌, ltb, List, [], ◌∷◌, ◌++◌, length, get_or, take, map, append_assoc, Option, Some, None, refl, sym, ap, subst, ◌∙◌, arith}
use Rattle.std.proofs.lemmas.Bool.Decides.{nat_tests}
use Rattle.std.proofs.lemmas.List.{take_more, map-append}
use Rattle.std.proofs.lemmas.List.Folds.{list_any-append}
use Rattle.v_tree.specs.declared.locations.Name.{Name}
use Rattle.name_table.specs.Names.{same_name}
use Rattle.module_graph.specs.declared.numbers.NumberTable.{NumberTable}
use Rattle.module_graph.specs.Numbers.{least_under, lesser, number_if}
use Rattle.module_graph.specs.Tokens.{is_below, HasTokens}

or_false : (b : Bool) → b ≡ (b || false)
or_false true = refl
or_false false = refl

both_below : (a n token : ℕ) → ltb (cond (ltb n a) n a) token ≡ (ltb a token || (ltb n token || false))
both_below a n token = grind (arith, nat_tests)

below_lesser : (o : Option ℕ) (s : Bool) (n token : ℕ) → is_below (lesser o (cond s (Some n) None)) token ≡ (is_below o token || ((s && ltb n token) || false))
below_lesser None true n token = or_false (ltb n token)
below_lesser None false n token = refl
below_lesser (Some a) false n token = or_false (ltb a token)
below_lesser (Some a) true n token = both_below a n token

pub HasTokens-none : (t : NumberTable) → ((name : List ℕ) → least_under name t ≡ None) → HasTokens [] t
HasTokens-none t empty text token = sym (ap (λ (o : Option ℕ). is_below o token) (empty text))

pub HasTokens-push : (names : List Name) (name : Name) (t s : NumberTable) → HasTokens names t →
    ((other : List ℕ) → least_under other s ≡ lesser (least_under other t) (number_if other name.text name.location.token)) →
    HasTokens (names ++ name ∷ []) s
HasTokens-push names name t s has put text token =
    list_any-append (λ (other : Name). same_name text other.text && ltb other.location.token token) names (name ∷ [])
    ∙ ap (λ (b : Bool). b || ((same_name text name.text && ltb name.location.token token) || false)) (has text token)
    ∙ sym (ap (λ (o : Option ℕ). is_below o token) (put text) ∙ below_lesser (least_under text t) (same_name text name.text) name.location.token token)

-- the same, for one more of a list
pub HasTokens-more : {X : Type 0} (name_of : X → Name) (names : List Name) (xs : List X) (i : ℕ) (x : X) (t s : NumberTable) → i < length xs → get_or xs i x ≡ x →
    HasTokens (names ++ map name_of (take i xs)) t →
    ((other : List ℕ) → least_under other s ≡ lesser (least_under other t) (number_if other (name_of x).text (name_of x).location.token)) →
    HasTokens (names ++ map name_of (take (i + 1) xs)) s
HasTokens-more {X} name_of names xs i x t s lt at has put =
    let last : map name_of (take (i + 1) xs) ≡ map name_of (take i xs) ++ name_of x ∷ []
    = ap (map name_of) (take_more xs i x lt) ∙ map-append name_of (take i xs) (get_or xs i x ∷ []) ∙ ap (λ (y : X). map name_of (take i xs) ++ name_of y ∷ []) at in
    let all : (names ++ map name_of (take i xs)) ++ name_of x ∷ [] ≡ names ++ map name_of (take (i + 1) xs)
    = append_assoc names (map name_of (take i xs)) (name_of x ∷ []) ∙ ap (λ (rest : List Name). names ++ rest) (sym last) in
    subst (λ (ns : List Name). HasTokens ns s) all (HasTokens-push (names ++ map name_of (take i xs)) (name_of x) t s has put)
