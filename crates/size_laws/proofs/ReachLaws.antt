-- A module that a top reaches has no more elements than the top with all that is in it.
use Rattle.std.proofs.Common.{◌≡◌, ℕ, zero, suc, ◌+◌, ◌<◌, ◌≤◌, true, List, [], ◌∷◌, map, refl, ap, ◌∙◌, arith, inl, inr, ◌⊎◌}
use Rattle.std.specs.Prelude.{max, sum_by}
use Rattle.std.specs.List.{fold}
use Rattle.std.proofs.lemmas.List.Sums.{sum_by-cons}
use Rattle.hierarchy_counts.specs.declared.counts.ModuleCounts.{ModuleCounts}
use Rattle.hierarchy_counts.specs.declared.counts.InstanceCounts.{InstanceCounts}
use Rattle.hierarchy_counts.specs.Hierarchy.{inside, instance_own, instances_at, levels_inside, module_at, own, whole}
use Rattle.hierarchy_counts.specs.Hierarchy.Measure.{Elements}
use Rattle.module_graph.specs.declared.references.Reference.{Reference}
use Rattle.module_graph.specs.Reach.{LeadsTo, instantiates, is_reached}
use Rattle.module_graph.specs.Reach.LeadsTo.{Directly, Through}
use Rattle.module_graph.proofs.ReachLaws.{is_reached_cases, is_reached_on}

-- an instance of a module is among instances
abbrev pub HasMaster : ℕ → List InstanceCounts → Type 0
HasMaster b [] = ⊥
HasMaster b (i ∷ list) = (i.master ≡ b) ⊎ HasMaster b list

fold_least : (f : InstanceCounts → ℕ) (list : List InstanceCounts) (a : ℕ) → a ≤ fold max a (map f list)
fold_least f [] a = omega arith
fold_least f (i ∷ list) a = omega (arith, fold_least f list (max a (f i)))

fold_has : (f : InstanceCounts → ℕ) (g : ℕ → ℕ) (b : ℕ) (list : List InstanceCounts) (a : ℕ) → ((i : InstanceCounts) → f i ≡ g i.master) → HasMaster b list → g b ≤ fold max a (map f list)
fold_has f g b [] a of has = absurd has
fold_has f g b (i ∷ list) a of (inl e) = let same : f i ≡ g b = of i ∙ ap g e in omega (arith, fold_least f list (max a (f i)), same)
fold_has f g b (i ∷ list) a of (inr has) = fold_has f g b list (max a (f i)) of has

sum_has : (f : InstanceCounts → ℕ) (g : ℕ → ℕ) (b : ℕ) (list : List InstanceCounts) → ((i : InstanceCounts) → f i ≡ g i.master) → HasMaster b list → g b ≤ sum_by f list
sum_has f g b [] of has = absurd has
sum_has f g b (i ∷ list) of (inl e) = let same : f i ≡ g b = of i ∙ ap g e in omega (arith, sum_by-cons f i list, same)
sum_has f g b (i ∷ list) of (inr has) = omega (arith, sum_by-cons f i list, sum_has f g b list of has)

module _ (modules : List ModuleCounts) (instances : List (List InstanceCounts)) where
  levels_less : (levels a b : ℕ) → HasMaster b (instances_at instances a) → levels_inside instances (suc levels) a < suc levels → levels_inside instances levels b < levels
  unfolding levels_inside
  levels_less levels a b has few =
      omega (arith, few, fold_has (λ i. 1 + levels_inside instances levels i.master) (λ n. 1 + levels_inside instances levels n) b (instances_at instances a) 0 (λ i. refl) has)

  inside_more : (levels a b : ℕ) → HasMaster b (instances_at instances a)
      → own Elements (module_at modules b) + inside Elements modules instances levels b ≤ inside Elements modules instances (suc levels) a
  unfolding inside
  inside_more levels a b has =
      sum_has (λ i. instance_own Elements modules i + inside Elements modules instances levels i.master) (λ n. own Elements (module_at modules n) + inside Elements modules instances levels n) b
      (instances_at instances a) (λ i. refl) has

  module _ (references : List (List Reference)) (top : ℕ)
      (follows : (a b : ℕ) → is_reached references top a ≡ true → instantiates references a b ≡ true → HasMaster b (instances_at instances a)) where
    along : (levels : ℕ) {a c : ℕ} → is_reached references top a ≡ true → levels_inside instances levels a < levels → LeadsTo references a c
        → own Elements (module_at modules c) ≤ inside Elements modules instances levels a
    along zero there few walk = absurd (omega arith)
    along (suc levels) there few (Directly {a = a} {b = c} e) = omega (arith, inside_more levels a c (follows a c there e))
    along (suc levels) there few (Through {a = a} {b = b} {c = c} e rest) =
        let has = follows a b there e in
        let further = along levels (is_reached_on references top a b there e) (levels_less levels a b has few) rest in
        omega (arith, inside_more levels a b has, further)

    -- a reached module by itself
    pub reached-elements : (levels k : ℕ) → levels_inside instances levels top < levels → is_reached references top top ≡ true → is_reached references top k ≡ true
        → own Elements (module_at modules k) ≤ whole Elements modules instances levels top
    reached-elements levels k few start there = by_case (is_reached_cases references top k there)
      where
        by_case : (k ≡ top) ⊎ LeadsTo references top k → own Elements (module_at modules k) ≤ whole Elements modules instances levels top
        by_case (inl e) = let same = ap (λ n. own Elements (module_at modules n)) e in omega (arith, same)
        by_case (inr walk) = omega (arith, along levels start few walk)
