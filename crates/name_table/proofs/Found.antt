-- What the set of owned names says of the list of them.
use Rattle.std.proofs.Common.{◌≡◌, ℕ, suc, Bool, true, false, cond, not, ◌||◌, List, [], ◌∷◌, ◌++◌, length, map, position, Option, None, Some, ltb, refl, sym, ap, ◌∙◌, ◌+◌, arith, inl, inr}
use Rattle.std.specs.Option.{option_map}
use Rattle.std.specs.Str.{bytes_eq}
use Rattle.std.specs.List.{list_any, position_or_len}
use Rattle.std.specs.Global.{Vec}
use Rattle.std.proofs.lemmas.Bool.{cases_lt, lt-ltb, le-ltb, cond-false, and_parts, and_from, or_parts, or_from, not-true, not_from_false, both_ways, false_from_ne_true}
use Rattle.std.proofs.lemmas.Slice.Eq.{bytes_eq-Decides}
use Rattle.std.proofs.lemmas.List.{map-append}
use Rattle.indexmap.specs.IndexSet.{insert_key}
use Rattle.name_table.specs.Names.{same_name, is_among, index_of, is_distinct}

-- the bytes of each owned name
abbrev pub bytes_of : List (Vec ℕ) → List (List ℕ)
bytes_of keys = map (λ key. key.items) keys

pub is_among-bytes_of : (name : List ℕ) (keys : List (Vec ℕ)) → is_among name (bytes_of keys) ≡ list_any (λ key. bytes_eq name key.items) keys
is_among-bytes_of name [] = refl
is_among-bytes_of name (key ∷ keys) = ap (λ b. bytes_eq name key.items || b) (is_among-bytes_of name keys)

-- one step of a search, at the first name and at the others
step : (found : Bool) (place count : ℕ) → cond found (Some 0) (option_map (λ k. suc k) (cond (ltb place count) (Some place) None)) ≡ cond (ltb (cond (not found) (1 + place) 0) (suc count)) (Some (cond (not found) (1 + place) 0)) None
step true place count = rw (lt-ltb 0 (suc count) (omega arith)) refl
step false place count =
    let next : 1 + place ≡ suc place = omega arith in
    elim (cases_lt place count) [
      | inl lt ↦ rw (lt-ltb place count lt, lt-ltb (1 + place) (suc count) (omega arith), next) refl
      | inr le ↦ rw (le-ltb place count le, le-ltb (1 + place) (suc count) (omega arith)) refl
    ]

pub index_of-bytes_of : (name : List ℕ) (keys : List (Vec ℕ)) → index_of name (bytes_of keys) ≡ position (λ key. bytes_eq name key.items) keys
index_of-bytes_of name [] = refl
index_of-bytes_of name (key ∷ keys) =
    ap (λ (rest : Option ℕ). cond (bytes_eq name key.items) (Some 0) (option_map (λ k. suc k) rest)) (index_of-bytes_of name keys)
    ∙ step (bytes_eq name key.items) (position_or_len (λ key. bytes_eq name key.items) keys) (length keys)

same_name-flip : (a b : List ℕ) → same_name a b ≡ false → same_name b a ≡ false
same_name-flip a b apart = false_from_ne_true (same_name b a) (λ e. both_ways (same_name a b) apart ((bytes_eq-Decides a b).1 (sym ((bytes_eq-Decides b a).0 e))))

is_among-push : (name last : List ℕ) (names : List (List ℕ)) → is_among name names ≡ false → same_name name last ≡ false → is_among name (names ++ last ∷ []) ≡ false
is_among-push name last [] absent apart = or_from (same_name name last) false apart refl
is_among-push name last (other ∷ names) absent apart =
    let parts = or_parts (same_name name other) (is_among name names) absent in
    or_from (same_name name other) (is_among name (names ++ last ∷ [])) parts.0 (is_among-push name last names parts.1 apart)

-- a new name at the end leaves names distinct
pub is_distinct-push : (names : List (List ℕ)) (last : List ℕ) → is_distinct names ≡ true → is_among last names ≡ false → is_distinct (names ++ last ∷ []) ≡ true
is_distinct-push [] last distinct absent = refl
is_distinct-push (name ∷ names) last distinct absent =
    let parts = and_parts (not (is_among name names)) (is_distinct names) distinct in
    let others = or_parts (same_name last name) (is_among last names) absent in
    let apart = is_among-push name last names (not-true (is_among name names) parts.0) (same_name-flip last name others.0) in
    and_from (not (is_among name (names ++ last ∷ []))) (is_distinct (names ++ last ∷ [])) (not_from_false _ apart) (is_distinct-push names last parts.1 others.1)

-- a new key goes last
pub bytes_of-insert_key : (name : List ℕ) (key : Vec ℕ) (keys : List (Vec ℕ)) → key.items ≡ name → is_among name (bytes_of keys) ≡ false → bytes_of (insert_key (λ a b. bytes_eq a.items b.items) keys key) ≡ bytes_of keys ++ name ∷ []
bytes_of-insert_key name key keys same absent =
    let new : list_any (λ other. bytes_eq key.items other.items) keys ≡ false = rw same (sym (is_among-bytes_of name keys) ∙ absent) in
    ap bytes_of (cond-false (list_any (λ other. bytes_eq key.items other.items) keys) keys (keys ++ key ∷ []) new)
    ∙ map-append (λ (k : Vec ℕ). k.items) keys (key ∷ []) ∙ ap (λ (n : List ℕ). bytes_of keys ++ n ∷ []) same
