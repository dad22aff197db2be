-- A table of the indexes of names, with one more name, and what it says of references.
use Rattle.std.proofs.Common.{◌≡◌, ℕ, ◌+◌, ◌<◌, Bool, true, false, cond, List, [], ◌∷◌, ◌++◌, length, get_or, take, map, length-take, Option, Some, None, refl, sym, ap, subst, ◌∙◌, arith}
use Rattle.std.specs.Option.{option_or}
use Rattle.std.specs.List.{filter_map, cons_option}
use Rattle.std.proofs.lemmas.List.Elements.{filter_map-append}
use Rattle.std.proofs.lemmas.Bool.{le-ltb}
use Rattle.std.proofs.lemmas.List.{take_more, map-append, length-map}
use Rattle.v_tree.specs.declared.modules.Module.{Module}
use Rattle.name_table.specs.Names.{same_name, index_of}
use Rattle.module_graph.specs.declared.numbers.NumberTable.{NumberTable}
use Rattle.module_graph.specs.declared.masters.MasterTable.{MasterTable}
use Rattle.module_graph.specs.declared.references.Master.{Master}
use Rattle.module_graph.specs.Numbers.{least_under, lesser, number_if}
use Rattle.module_graph.specs.Graph.{master_at, master_of, references_of}
use Rattle.module_graph.specs.Masters.{HasIndexes, HasMasters, masters_under}
use Rattle.module_graph.proofs.NumberLaws.{index_of_at, index_of-push}
use mathlib.Core.Path.{fun_ext}

or_lesser : (o : Option ℕ) (s : Bool) (n : ℕ) → ((k : ℕ) → o ≡ Some k → k < n) → option_or o (cond s (Some n) None) ≡ lesser o (cond s (Some n) None)
or_lesser None s n below = refl
or_lesser (Some k) false n below = refl
or_lesser (Some k) true n below =
    let lt : k < n = below k refl in
    ap (λ (b : Bool). Some (cond b n k)) (sym (le-ltb n k (omega arith)))

pub HasIndexes-none : (t : NumberTable) → ((name : List ℕ) → least_under name t ≡ None) → HasIndexes [] t
HasIndexes-none t empty name = sym (empty name)

pub HasIndexes-push : (names : List (List ℕ)) (name : List ℕ) (number : ℕ) (t s : NumberTable) → number ≡ length names → HasIndexes names t →
    ((other : List ℕ) → least_under other s ≡ lesser (least_under other t) (number_if other name number)) → HasIndexes (names ++ name ∷ []) s
HasIndexes-push names name number t s last has put q =
    index_of-push q names name
    ∙ or_lesser (index_of q names) (same_name q name) (length names) (λ k e. (index_of_at q names k e).0)
    ∙ ap (λ (n : ℕ). lesser (index_of q names) (number_if q name n)) (sym last)
    ∙ ap (λ (o : Option ℕ). lesser o (number_if q name number)) (has q)
    ∙ sym (put q)

-- the same, for one more of a list
pub HasIndexes-more : {X : Type 0} (name_of : X → List ℕ) (xs : List X) (i : ℕ) (x : X) (t s : NumberTable) → i < length xs → get_or xs i x ≡ x →
    HasIndexes (map name_of (take i xs)) t →
    ((other : List ℕ) → least_under other s ≡ lesser (least_under other t) (number_if other (name_of x) i)) →
    HasIndexes (map name_of (take (i + 1) xs)) s
HasIndexes-more {X} name_of xs i x t s lt at has put =
    let last : map name_of (take (i + 1) xs) ≡ map name_of (take i xs) ++ name_of x ∷ []
    = ap (map name_of) (take_more xs i x lt) ∙ map-append name_of (take i xs) (get_or xs i x ∷ []) ∙ ap (λ (y : X). map name_of (take i xs) ++ name_of y ∷ []) at in
    let number : i ≡ length (map name_of (take i xs)) = let short : length (take i xs) ≡ i = omega (arith, length-take i xs) in sym (length-map (take i xs) name_of ∙ short) in
    subst (λ (ns : List (List ℕ)). HasIndexes ns s) (sym last) (HasIndexes-push (map name_of (take i xs)) (name_of x) i t s number has put)

-- a table of masters says of each name what it means
pub masters_same : (modules udps : List (List ℕ)) (table : MasterTable) → HasMasters modules udps table → (name : List ℕ) → masters_under table name ≡ master_of modules udps name
masters_same modules udps table has name =
    ap (λ (o : Option ℕ). master_at o (least_under name table.udps)) (sym (has.modules_indexed name))
    ∙ ap (λ (o : Option ℕ). master_at (index_of name modules) o) (sym (has.udps_indexed name))

pub references_same : (modules udps : List (List ℕ)) (table : MasterTable) (ms : List Module) → HasMasters modules udps table →
    references_of (masters_under table) ms ≡ references_of (master_of modules udps) ms
references_same modules udps table ms has =
    ap (λ (masters : List ℕ → Master). references_of masters ms) (fun_ext (masters_same modules udps table has))

-- one more item of those that give something
pub filter_map_more : {X Y : Type 0} (h : X → Option Y) (xs : List X) (i : ℕ) (x : X) (o : Option Y) → i < length xs → get_or xs i x ≡ x → h x ≡ o →
    filter_map h (take (i + 1) xs) ≡ filter_map h (take i xs) ++ cons_option o []
filter_map_more {X} {Y} h xs i x o lt at gives =
    ap (filter_map h) (take_more xs i x lt) ∙ filter_map-append h (take i xs) (get_or xs i x ∷ [])
    ∙ ap (λ (y : X). filter_map h (take i xs) ++ cons_option (h y) []) at
    ∙ ap (λ (p : Option Y). filter_map h (take i xs) ++ cons_option p []) gives
