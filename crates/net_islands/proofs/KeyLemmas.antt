-- One more item in the lists by key.
use Rattle.std.proofs.Common.{◌≡◌, ◌+◌, ◌<◌, ℕ, zero, suc, Bool, cond, ◌==◌, List, [], ◌∷◌, ◌++◌, length, map, take, get_or, set, refl, sym, ap, subst, ◌∙◌, arith, inl, inr}
use Rattle.std.specs.Prelude.{Vec, replicate}
use Rattle.std.specs.List.{All, filter, range_with_len}
use Rattle.std.proofs.lemmas.Bool.{cases_eq, eq-eqb, ne_eqb}
use Rattle.std.proofs.lemmas.List.{same_lists, append-nil, map-append, take_more, length-map, length-set, get_or-map, get_or-set_same, get_or-set_other, map-set}
use Rattle.std.proofs.lemmas.List.Elements.{filter-append}
use Rattle.std.proofs.lemmas.List.FromFn.{length-map-range_with_len, get_or-map-range_with_len}
use Rattle.net_islands.specs.Keys.{items_of, lists_by_key, lists_in}

module _ {X : Type 0} (items : List (ℕ × X)) (key : ℕ) (x : X) where
  items_of-append : (k : ℕ) → items_of k (items ++ (key, x) ∷ []) ≡ items_of k items ++ items_of k ((key, x) ∷ [])
  items_of-append k =
      ap (λ (some : List (ℕ × X)). map (λ (item : ℕ × X). item.1) some) (filter-append (λ (item : ℕ × X). item.0 == k) items ((key, x) ∷ []))
      ∙ map-append (λ (item : ℕ × X). item.1) (filter (λ (item : ℕ × X). item.0 == k) items) (filter (λ (item : ℕ × X). item.0 == k) ((key, x) ∷ []))

  pub items_of-same : (k : ℕ) → key ≡ k → items_of k (items ++ (key, x) ∷ []) ≡ items_of k items ++ x ∷ []
  items_of-same k e =
      items_of-append k
      ∙ ap (λ (b : Bool). items_of k items ++ map (λ (item : ℕ × X). item.1) (cond b ((key, x) ∷ []) [])) (eq-eqb key k e)

  pub items_of-other : (k : ℕ) → (key ≡ k → ⊥) → items_of k (items ++ (key, x) ∷ []) ≡ items_of k items
  items_of-other k ne =
      items_of-append k
      ∙ ap (λ (b : Bool). items_of k items ++ map (λ (item : ℕ × X). item.1) (cond b ((key, x) ∷ []) [])) (ne_eqb key k ne)
      ∙ append-nil (items_of k items)

  module _ (count : ℕ) (lt : key < count) where
    pub lists-at : (ys : List (ℕ × X)) (k : ℕ) (d : List X) → k < count → get_or (lists_by_key count ys) k d ≡ items_of k ys
    lists-at ys k d k-lt = get_or-map-range_with_len (λ (n : ℕ). items_of n ys) 0 count k k d k-lt (omega arith)

    pub lists-length : (ys : List (ℕ × X)) → length (lists_by_key count ys) ≡ count
    lists-length ys = length-map-range_with_len (λ (n : ℕ). items_of n ys) 0 count

    pub lists_by_key-push : lists_by_key count (items ++ (key, x) ∷ []) ≡ set (lists_by_key count items) key (items_of key items ++ x ∷ [])
    lists_by_key-push =
        let old : length (lists_by_key count items) ≡ count = lists-length items in
        let new : length (lists_by_key count (items ++ (key, x) ∷ [])) ≡ count = lists-length (items ++ (key, x) ∷ []) in
        same_lists (lists_by_key count (items ++ (key, x) ∷ [])) (set (lists_by_key count items) key (items_of key items ++ x ∷ []))
        (new ∙ sym old ∙ sym (length-set (lists_by_key count items) key (items_of key items ++ x ∷ [])))
        (λ k d k-lt.
        let within : k < count = omega arith in
        elim (cases_eq key k) [
          | inl e ↦
              lists-at (items ++ (key, x) ∷ []) k d within ∙ items_of-same k e
              ∙ ap (λ (n : ℕ). items_of n items ++ x ∷ []) (sym e)
              ∙ sym (get_or-set_same (lists_by_key count items) key (items_of key items ++ x ∷ []) d (omega arith))
              ∙ ap (λ (n : ℕ). get_or (set (lists_by_key count items) key (items_of key items ++ x ∷ [])) n d) e
          | inr ne ↦
              lists-at (items ++ (key, x) ∷ []) k d within ∙ items_of-other k ne
              ∙ sym (lists-at items k d within)
              ∙ sym (get_or-set_other (lists_by_key count items) key k (items_of key items ++ x ∷ []) d (λ e. ne (sym e)))
        ])

no_items : {X : Type 0} (a count : ℕ) → map (λ (key : ℕ). let none : List X = [] in none) (range_with_len a count) ≡ replicate count []
no_items a zero = refl
no_items {X = X} a (suc count) = ap (λ (ls : List (List X)). [] ∷ ls) (no_items (a + 1) count)

-- no key has an item of none
pub lists_by_key-none : {X : Type 0} (count : ℕ) → lists_by_key {X = X} count [] ≡ replicate count []
lists_by_key-none count = no_items 0 count

pub length-lists_by_key : {X : Type 0} (count : ℕ) (items : List (ℕ × X)) → length (lists_by_key count items) ≡ count
length-lists_by_key count items = length-map-range_with_len (λ key. items_of key items) 0 count

-- a vector of a list of vectors, as one of the lists
pub lists_in-at : {X Z : Type 0} (vectors : List (Vec X Z)) (i : ℕ) (vector : Vec X Z) → i < length vectors → vector ≡ get_or vectors i vector → get_or (lists_in vectors) i [] ≡ vector.items
lists_in-at {X = X} {Z = Z} vectors i vector lt at =
    get_or-map (λ (v : Vec X Z). v.items) vectors i vector [] lt ∙ ap (λ (v : Vec X Z). v.items) (sym at)

pub lists_in-set : {X Z : Type 0} (vectors : List (Vec X Z)) (i : ℕ) (vector : Vec X Z) → lists_in (set vectors i vector) ≡ set (lists_in vectors) i vector.items
lists_in-set {X = X} {Z = Z} vectors i vector = map-set (λ (v : Vec X Z). v.items) vectors i vector

-- as many vectors as keys
pub vectors-length : {X Z : Type 0} (count : ℕ) (items : List (ℕ × X)) (lists : List (Vec X Z)) → lists_in lists ≡ lists_by_key count items → length lists ≡ count
vectors-length {X = X} {Z = Z} count items lists same =
    sym (length-map lists (λ (v : Vec X Z). v.items)) ∙ ap length same ∙ length-lists_by_key count items

pub key-below : {X : Type 0} (count : ℕ) (items : List (ℕ × X)) (i : ℕ) (item : ℕ × X) → All (λ (x : ℕ × X). x.0 < count) items → i < length items → item ≡ get_or items i item → item.0 < count
key-below {X = X} count items i item all lt at = subst (λ (x : ℕ × X). x.0 < count) (sym at) (all i item lt)

-- one more item pushed to the vector of its key
pub lists_more : {X Z : Type 0} (count : ℕ) (items : List (ℕ × X)) (i : ℕ) (item : ℕ × X) (lists : List (Vec X Z)) (old new : Vec X Z) →
    i < length items → item ≡ get_or items i item → item.0 < count → lists_in lists ≡ lists_by_key count (take i items) →
    old ≡ get_or lists item.0 old → new.items ≡ old.items ++ item.1 ∷ [] → lists_in (set lists item.0 new) ≡ lists_by_key count (take (i + 1) items)
lists_more {X = X} {Z = Z} count items i item lists old new lt at below same read pushed =
    let long : length lists ≡ count = vectors-length count (take i items) lists same in
    let old-items : old.items ≡ items_of item.0 (take i items)
    = sym (lists_in-at lists item.0 old (omega arith) read) ∙ ap (λ (ls : List (List X)). get_or ls item.0 []) same
    ∙ get_or-map-range_with_len (λ (n : ℕ). items_of n (take i items)) 0 count item.0 item.0 [] below (omega arith) in
    let more : take (i + 1) items ≡ take i items ++ item ∷ []
    = take_more items i item lt ∙ ap (λ (x : ℕ × X). take i items ++ x ∷ []) (sym at) in
    lists_in-set lists item.0 new
    ∙ ap (λ (ls : List (List X)). set ls item.0 new.items) same
    ∙ ap (λ (ys : List X). set (lists_by_key count (take i items)) item.0 ys) (pushed ∙ ap (λ (ys : List X). ys ++ item.1 ∷ []) old-items)
    ∙ sym (lists_by_key-push (take i items) item.0 item.1 count below)
    ∙ ap (λ (ys : List (ℕ × X)). lists_by_key count ys) (sym more)
