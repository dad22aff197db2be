-- Looking at more levels than a hierarchy has changes nothing.
use Rattle.std.proofs.Common.{◌≡◌, ℕ, zero, suc, ◌+◌, ◌-◌, ◌<◌, ◌≤◌, List, [], ◌∷◌, map, refl, sym, ap, ◌∙◌, arith}
use Rattle.std.specs.Prelude.{max, sum_by}
use Rattle.std.specs.List.{fold, AllByRecursion}
use Rattle.std.proofs.lemmas.List.Sums.{sum_by-cons}
use Rattle.hierarchy_counts.specs.declared.counts.ModuleCounts.{ModuleCounts}
use Rattle.hierarchy_counts.specs.declared.counts.InstanceCounts.{InstanceCounts}
use Rattle.hierarchy_counts.specs.Hierarchy.{Measure, instances_at, instance_own, inside, greatest, levels_inside}

-- ---- the greatest of numbers

-- it is no less than any of them
fold_max-over : (xs : List ℕ) (a : ℕ) → (a ≤ fold max a xs) × AllByRecursion (λ (x : ℕ). x ≤ fold max a xs) xs
fold_max-over [] a = (omega arith, tt)
fold_max-over (x ∷ xs) a =
    let rest = fold_max-over xs (max a x) in
    (omega (arith, rest.0), (omega (arith, rest.0), rest.1))

-- and no greater than what they all are
fold_max-under : (xs : List ℕ) (a k : ℕ) → a ≤ k → AllByRecursion (λ (x : ℕ). x ≤ k) xs → fold max a xs ≤ k
fold_max-under [] a k le h = le
fold_max-under (x ∷ xs) a k le h = let first = h.0 in fold_max-under xs (max a x) k (omega arith) h.1

module _ {A : Type 0} where
  -- what is said of the images
  each_of_map : (P : ℕ → Type 0) (f : A → ℕ) (xs : List A) → AllByRecursion P (map f xs) → AllByRecursion (λ x. P (f x)) xs
  each_of_map P f [] h = tt
  each_of_map P f (x ∷ xs) h = (h.0, each_of_map P f xs h.1)

  each_to_map : (P : ℕ → Type 0) (f : A → ℕ) (xs : List A) → ((x : A) → P (f x)) → AllByRecursion P (map f xs)
  each_to_map P f [] h = tt
  each_to_map P f (x ∷ xs) h = (h x, each_to_map P f xs h)

  each_weaker : (P Q : A → Type 0) (xs : List A) → ((x : A) → P x → Q x) → AllByRecursion P xs → AllByRecursion Q xs
  each_weaker P Q [] f h = tt
  each_weaker P Q (x ∷ xs) f h = (f x h.0, each_weaker P Q xs f h.1)

  -- images that are the same one by one
  same_map : (f g : A → ℕ) (xs : List A) → AllByRecursion (λ x. f x ≡ g x) xs → map f xs ≡ map g xs
  same_map f g [] h = refl
  same_map f g (x ∷ xs) h = ap (λ n. n ∷ map f xs) h.0 ∙ ap (λ ns. g x ∷ ns) (same_map f g xs h.1)

  same_sum : (f g : A → ℕ) (xs : List A) → AllByRecursion (λ x. f x ≡ g x) xs → sum_by f xs ≡ sum_by g xs
  same_sum f g [] h = refl
  same_sum f g (x ∷ xs) h =
      sum_by-cons f x xs ∙ ap (λ n. n + sum_by f xs) h.0 ∙ ap (λ n. g x + n) (same_sum f g xs h.1) ∙ sym (sum_by-cons g x xs)

-- ---- levels

-- there are no more levels than are looked at
pub levels_inside-most : (instances : List (List InstanceCounts)) (levels index : ℕ) → levels_inside instances levels index ≤ levels
unfolding levels_inside
levels_inside-most instances zero index = omega arith
levels_inside-most instances (suc levels) index =
    fold_max-under (map (λ (i : InstanceCounts). 1 + levels_inside instances levels i.master) (instances_at instances index)) 0 (suc levels) (omega arith)
    (each_to_map (λ n. n ≤ suc levels) (λ (i : InstanceCounts). 1 + levels_inside instances levels i.master) (instances_at instances index) (λ i. omega (arith, levels_inside-most instances levels i.master)))

-- each instance has fewer levels than its module
fewer : (instances : List (List InstanceCounts)) (levels index : ℕ) → levels_inside instances (suc levels) index < suc levels
    → AllByRecursion (λ (i : InstanceCounts). levels_inside instances levels i.master < levels) (instances_at instances index)
unfolding levels_inside
fewer instances levels index few =
    let list = instances_at instances index in
    let f = λ (i : InstanceCounts). 1 + levels_inside instances levels i.master in
    each_weaker (λ (i : InstanceCounts). f i ≤ fold max 0 (map f list)) (λ (i : InstanceCounts). levels_inside instances levels i.master < levels) list (λ i le. omega arith)
    (each_of_map (λ n. n ≤ fold max 0 (map f list)) f list (fold_max-over (map f list) 0).1)

pub levels_inside-whole : (instances : List (List InstanceCounts)) (levels more index : ℕ) → levels_inside instances levels index < levels → levels_inside instances (levels + more) index ≡ levels_inside instances levels index
unfolding levels_inside
levels_inside-whole instances zero more index few = absurd (omega arith)
levels_inside-whole instances (suc levels) more index few =
    let list = instances_at instances index in
    let wide = λ (i : InstanceCounts). 1 + levels_inside instances (levels + more) i.master in
    let f = λ (i : InstanceCounts). 1 + levels_inside instances levels i.master in
    let one_more : suc levels + more ≡ suc (levels + more) = omega arith in
    ap (λ (n : ℕ). levels_inside instances n index) one_more
    ∙ ap greatest (same_map wide f list (each_weaker (λ (i : InstanceCounts). levels_inside instances levels i.master < levels) (λ (i : InstanceCounts). wide i ≡ f i) list
    (λ i less. ap (λ (n : ℕ). 1 + n) (levels_inside-whole instances levels more i.master less)) (fewer instances levels index few)))

-- what is inside a module is that down to more levels than it has
pub inside-whole : (measure : Measure) (modules : List ModuleCounts) (instances : List (List InstanceCounts)) (levels more index : ℕ) → levels_inside instances levels index < levels
    → inside measure modules instances (levels + more) index ≡ inside measure modules instances levels index
unfolding inside
inside-whole measure modules instances zero more index few = absurd (omega arith)
inside-whole measure modules instances (suc levels) more index few =
    let list = instances_at instances index in
    let wide = λ (i : InstanceCounts). instance_own measure modules i + inside measure modules instances (levels + more) i.master in
    let f = λ (i : InstanceCounts). instance_own measure modules i + inside measure modules instances levels i.master in
    let one_more : suc levels + more ≡ suc (levels + more) = omega arith in
    ap (λ (n : ℕ). inside measure modules instances n index) one_more
    ∙ same_sum wide f list (each_weaker (λ (i : InstanceCounts). levels_inside instances levels i.master < levels) (λ (i : InstanceCounts). wide i ≡ f i) list
    (λ i less. ap (λ (n : ℕ). instance_own measure modules i + n) (inside-whole measure modules instances levels more i.master less)) (fewer instances levels index few))
