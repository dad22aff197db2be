-- A round gives the rows down to one level more.
use Rattle.std.proofs.Common.{◌≡◌, ℕ, zero, suc, ◌+◌, ◌-◌, ◌<◌, ◌≤◌, ◌^◌, List, [], ◌∷◌, length, map, get_or, replicate, refl, sym, ap, subst, ◌∙◌, arith}
use Rattle.std.specs.Prelude.{max, min, sum_by}
use Rattle.std.specs.List.{All, fold, range_with_len, AllByRecursion}
use Rattle.std.proofs.lemmas.List.Sums.{sum_by-cons}
use Rattle.std.proofs.lemmas.List.FromFn.{get_or-map-range_with_len, length-map-range_with_len}
use Rattle.hierarchy_counts.specs.declared.counts.ModuleCounts.{ModuleCounts}
use Rattle.hierarchy_counts.specs.declared.counts.InstanceCounts.{InstanceCounts}
use Rattle.hierarchy_counts.specs.declared.rounds.Row.{Row}
use Rattle.hierarchy_counts.specs.Hierarchy.{Measure, Nets, Elements, Names, own, module_at, instances_at, instance_own, inside, greatest, levels_inside, AreWithin}
use Rattle.hierarchy_counts.proofs.HierarchyLaws.{levels_inside-whole, inside-whole}
use Rattle.hierarchy_counts.specs.Rounds.{cap, row_at, rows, no_row, with_instance, row_in, row_of, next_rows}

-- numbers before they are capped
abbrev capped : ℕ → ℕ → ℕ → ℕ → Row
capped levels nets elements names = record { levels = cap levels; nets = cap nets; elements = cap elements; names = cap names }

cap-sum : (a b c : ℕ) → cap (cap a + cap (b + cap c)) ≡ cap (a + (b + c))
cap-sum a b c = omega arith

cap-max : (a b : ℕ) → cap (max (cap a) (cap (1 + cap b))) ≡ cap (max a (1 + b))
cap-max a b = omega arith

abbrev row_with : ℕ → ℕ → ℕ → ℕ → Row
row_with levels nets elements names = record { levels = levels; nets = nets; elements = elements; names = names }

same_row : (a b c d a' b' c' d' : ℕ) → a ≡ a' → b ≡ b' → c ≡ c' → d ≡ d' → row_with a b c d ≡ row_with a' b' c' d'
same_row a b c d a' b' c' d' e f g h =
    ap (λ (n : ℕ). row_with n b c d) e ∙ ap (λ (n : ℕ). row_with a' n c d) f ∙ ap (λ (n : ℕ). row_with a' b' n d) g ∙ ap (λ (n : ℕ). row_with a' b' c' n) h

module _ (modules : List ModuleCounts) (instances : List (List InstanceCounts)) (levels : ℕ) where
  -- what an instance adds of a measure, and its levels
  abbrev pub adds : Measure → InstanceCounts → ℕ
  adds measure i = instance_own measure modules i + inside measure modules instances levels i.master

  abbrev pub level : InstanceCounts → ℕ
  level i = 1 + levels_inside instances levels i.master

  -- one more instance
  one_more : (a b c d : ℕ) (i : InstanceCounts) → with_instance (capped a b c d) (module_at modules i.master) i.bound (row_at modules instances levels i.master)
      ≡ capped (max a (level i)) (b + adds Nets i) (c + adds Elements i) (d + adds Names i)
  one_more a b c d i =
      same_row _ _ _ _ (cap (max a (level i))) (cap (b + adds Nets i)) (cap (c + adds Elements i)) (cap (d + adds Names i)) (cap-max a (levels_inside instances levels i.master))
      (cap-sum b (instance_own Nets modules i) (inside Nets modules instances levels i.master))
      (cap-sum c (instance_own Elements modules i) (inside Elements modules instances levels i.master))
      (cap-sum d (instance_own Names modules i) (inside Names modules instances levels i.master))

  -- a sum that begins with a number
  sum_onto : (measure : Measure) (n : ℕ) (i : InstanceCounts) (list : List InstanceCounts) → cap ((n + adds measure i) + sum_by (adds measure) list) ≡ cap (n + sum_by (adds measure) (i ∷ list))
  sum_onto measure n i list = let whole : sum_by (adds measure) (i ∷ list) ≡ adds measure i + sum_by (adds measure) list = sum_by-cons (adds measure) i list in omega arith

  abbrev row_step : List Row → Row → InstanceCounts → Row
  row_step table row i = with_instance row (module_at modules i.master) i.bound (row_in table i.master)

  -- all instances of a list, by rows that are those of the modules
  all_more : (table : List Row) (list : List InstanceCounts) (a b c d : ℕ) → AllByRecursion (λ (i : InstanceCounts). row_in table i.master ≡ row_at modules instances levels i.master) list
      → fold (row_step table) (capped a b c d) list
      ≡ capped (fold max a (map level list)) (b + sum_by (adds Nets) list) (c + sum_by (adds Elements) list) (d + sum_by (adds Names) list)
  all_more table [] a b c d h = same_row (cap a) (cap b) (cap c) (cap d) (cap a) (cap (b + 0)) (cap (c + 0)) (cap (d + 0)) refl (omega arith) (omega arith) (omega arith)
  all_more table (i ∷ list) a b c d h =
      ap (λ (row : Row). fold (row_step table) (with_instance (capped a b c d) (module_at modules i.master) i.bound row) list) h.0
      ∙ ap (λ (row : Row). fold (row_step table) row list) (one_more a b c d i)
      ∙ all_more table list (max a (level i)) (b + adds Nets i) (c + adds Elements i) (d + adds Names i) h.1
      ∙ same_row _ _ _ _ (cap (fold max a (map level (i ∷ list)))) (cap (b + sum_by (adds Nets) (i ∷ list))) (cap (c + sum_by (adds Elements) (i ∷ list))) (cap (d + sum_by (adds Names) (i ∷ list))) refl
      (sum_onto Nets b i list) (sum_onto Elements c i list) (sum_onto Names d i list)

  -- the rows of so many levels have those of the modules
  row_there : (k : ℕ) → k < length modules → row_in (rows modules instances levels) k ≡ row_at modules instances levels k
  row_there k lt = get_or-map-range_with_len (row_at modules instances levels) 0 (length modules) k k no_row lt (omega arith)

  rows_there : (list : List InstanceCounts) → All (λ (i : InstanceCounts). i.master < length modules) list → AllByRecursion (λ (i : InstanceCounts). row_in (rows modules instances levels) i.master ≡ row_at modules instances levels i.master) list
  rows_there [] h = tt
  rows_there (i ∷ list) h = (row_there i.master (h 0 i (omega arith)), rows_there list (λ k d lt. h (suc k) d (omega arith)))

  -- the row of a list is that of a module with these instances
  pub row_more : (index : ℕ) → All (λ (i : InstanceCounts). i.master < length modules) (instances_at instances index)
      → row_of modules (rows modules instances levels) (instances_at instances index) ≡ row_at modules instances (suc levels) index
  unfolding inside levels_inside
  row_more index within =
      let list = instances_at instances index in
      all_more (rows modules instances levels) list 0 0 0 0 (rows_there list within)
      ∙ same_row _ _ _ _ (cap (greatest (map level list))) (cap (sum_by (adds Nets) list)) (cap (sum_by (adds Elements) list)) (cap (sum_by (adds Names) list)) refl (omega arith) (omega arith) (omega arith)

-- ---- rounds

-- an element at an index of all that are within
within_at : (count : ℕ) (instances : List (List InstanceCounts)) (index : ℕ) → AreWithin count instances → All (λ (i : InstanceCounts). i.master < count) (instances_at instances index)
within_at count [] index within = λ k d lt. absurd (omega arith)
within_at count (list ∷ instances) zero within = within 0 [] (omega arith)
within_at count (list ∷ instances) (suc index) within = within_at count instances index (λ k d lt. within (suc k) d (omega arith))

pub next_rows-more : (modules : List ModuleCounts) (instances : List (List InstanceCounts)) (levels : ℕ) → AreWithin (length modules) instances
    → next_rows modules instances (rows modules instances levels) ≡ rows modules instances (suc levels)
next_rows-more modules instances levels within = same_images (length modules) 0
  where
    same_images : (n a : ℕ) → map (λ (index : ℕ). row_of modules (rows modules instances levels) (instances_at instances index)) (range_with_len a n) ≡ map (row_at modules instances (suc levels)) (range_with_len a n)
    same_images zero a = refl
    same_images (suc n) a =
        ap (λ (row : Row). row ∷ map (λ (index : ℕ). row_of modules (rows modules instances levels) (instances_at instances index)) (range_with_len (a + 1) n)) (row_more modules instances levels a (within_at (length modules) instances a within))
        ∙ ap (λ (rows : List Row). row_at modules instances (suc levels) a ∷ rows) (same_images n (a + 1))

-- ---- the rows of no level

pub rows-none : (modules : List ModuleCounts) (instances : List (List InstanceCounts)) → replicate (length modules) no_row ≡ rows modules instances 0
unfolding inside levels_inside
rows-none modules instances = same_images (length modules) 0
  where
    same_images : (n a : ℕ) → replicate n no_row ≡ map (row_at modules instances 0) (range_with_len a n)
    same_images zero a = refl
    same_images (suc n) a = ap (λ (rows : List Row). no_row ∷ rows) (same_images n (a + 1))

-- ---- the row of a top

pub row_at-whole : (modules : List ModuleCounts) (instances : List (List InstanceCounts)) (levels top : ℕ) → levels < 64 → cap (levels_inside instances (levels + 1) top) ≤ levels → row_at modules instances (levels + 1) top ≡ row_at modules instances 64 top
row_at-whole modules instances levels top small few =
    let less : levels_inside instances (levels + 1) top < levels + 1 = omega arith in
    let more = 64 - (levels + 1) in
    let all : (levels + 1) + more ≡ 64 = omega arith in
    let inner = λ (measure : Measure). sym (inside-whole measure modules instances (levels + 1) more top less) ∙ ap (λ (n : ℕ). inside measure modules instances n top) all in
    same_row _ _ _ _ (cap (levels_inside instances 64 top)) (cap (inside Nets modules instances 64 top)) (cap (inside Elements modules instances 64 top)) (cap (inside Names modules instances 64 top))
    (ap cap (sym (levels_inside-whole instances (levels + 1) more top less) ∙ ap (λ (n : ℕ). levels_inside instances n top) all))
    (ap cap (inner Nets)) (ap cap (inner Elements)) (ap cap (inner Names))

-- a round over the rows of some levels
pub round_more : (modules : List ModuleCounts) (instances : List (List InstanceCounts)) (levels : ℕ) (table seen next : List Row) → AreWithin (length modules) instances → table ≡ rows modules instances levels → seen ≡ table
    → next ≡ next_rows modules instances seen → next ≡ rows modules instances (levels + 1)
round_more modules instances levels table seen next within is same made =
    let one : suc levels ≡ levels + 1 = omega arith in
    made ∙ ap (next_rows modules instances) (same ∙ is) ∙ next_rows-more modules instances levels within ∙ ap (rows modules instances) one

pub rows-length : (modules : List ModuleCounts) (instances : List (List InstanceCounts)) (levels : ℕ) (table : List Row) → table ≡ rows modules instances levels → length table ≡ length modules
rows-length modules instances levels table is = ap length is ∙ length-map-range_with_len (row_at modules instances levels) 0 (length modules)

-- the row of a module among all
pub row_among : (modules : List ModuleCounts) (instances : List (List InstanceCounts)) (levels k : ℕ) (table : List Row) (d : Row) → table ≡ rows modules instances levels → k < length modules → get_or table k d ≡ row_at modules instances levels k
row_among modules instances levels k table d is lt = ap (λ (rows : List Row). get_or rows k d) is ∙ get_or-map-range_with_len (row_at modules instances levels) 0 (length modules) k k d lt (omega arith)
