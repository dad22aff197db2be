-- The limits, by what the code is told of them.
use Rattle.std.proofs.Common.{◌≡◌, ℕ, ◌<◌, ◌≤◌, ◌^◌, min, Bool, true, false, List, [], ◌∷◌, ◌++◌, Option, None, Some, refl, sym, ap, ◌∙◌, arith}
use Rattle.std.specs.Prelude.{if◌then◌else◌, nat_lt}
use Rattle.std.specs.List.{AllByRecursion, find, list_any}
use Rattle.std.specs.Option.{option_map, option_or}
use Rattle.std.proofs.lemmas.Bool.{le-ltb, lt-ltb, ltb-false, ltb-true}
use Rattle.std.proofs.lemmas.List.Folds.{find-append}
use Rattle.chosen_delays.specs.declared.choice.Mtm.{Mtm}
use Rattle.v_tree.specs.declared.locations.Location.{Location}
use Rattle.v_tree.specs.declared.modules.File.{File}
use Rattle.netlist_plan.specs.Additions.{Additions}
use Rattle.hierarchy_counts.specs.declared.counts.HierarchyCounts.{HierarchyCounts}
use Rattle.hierarchy_counts.specs.Hierarchy.Measure.{Elements, Names, Nets}
use Rattle.hierarchy_counts.specs.Rounds.{cap}
use Rattle.netlist_meaning.specs.declared.limits.NetlistLimit.{NetlistLimit}
use Rattle.netlist_meaning.specs.declared.limits.NetlistLimit.TheVariants as limit
use Rattle.netlist_meaning.specs.Delays.{has_long}
use Rattle.netlist_meaning.specs.Limits.{LimitTest, count_tests_in, depth, first_passed, has_wide, is_large, islands_of, limit_tests, modules_in, size_tests, size_tests_in, total}
use Rattle.netlist_meaning.specs.Netlist.{additions_in, first_wired}
use Rattle.netlist_meaning.specs.Plans.{plans_in}
use Rattle.elaborate.specs.declared.fault.NetFault.{NetFault}
use Rattle.elaborate.specs.declared.fault.NetFault.TheVariants.{Limit}
use Rattle.elaborate.specs.Refusals.{limit_refusal, wired_fault}
use Rattle.elaborate.specs.Steps.{hierarchy_tests, size_refusal}

-- ---- lists of tests

-- no test of those is passed
none_each : (tests : List LimitTest) → first_passed tests ≡ None → AllByRecursion (λ (t : LimitTest). t.is_passed ≡ false) tests
none_each [] e = tt
none_each (t ∷ tests) e = by_test t.is_passed refl (λ h. none_each tests h) e
  where
    by_test : (b : Bool) → t.is_passed ≡ b → (first_passed tests ≡ None → AllByRecursion (λ (t : LimitTest). t.is_passed ≡ false) tests)
        → option_map (λ (t : LimitTest). t.limit) (if b then Some t else find (λ (t : LimitTest). t.is_passed) tests) ≡ None
        → AllByRecursion (λ (t : LimitTest). t.is_passed ≡ false) (t ∷ tests)
    by_test true is later h = absurd (let no : Some t.limit ≡ None = h in cc)
    by_test false is later h = (is, later h)

passed_append : (tests more : List LimitTest) → first_passed (tests ++ more) ≡ option_or (first_passed tests) (first_passed more)
passed_append tests more = ap (λ (o : Option LimitTest). option_map (λ (t : LimitTest). t.limit) o) (find-append (λ (t : LimitTest). t.is_passed) tests more) ∙ either (find (λ (t : LimitTest). t.is_passed) tests)
  where
    either : (o : Option LimitTest) → option_map (λ (t : LimitTest). t.limit) (option_or o (find (λ (t : LimitTest). t.is_passed) more))
        ≡ option_or (option_map (λ (t : LimitTest). t.limit) o) (option_map (λ (t : LimitTest). t.limit) (find (λ (t : LimitTest). t.is_passed) more))
    either None = refl
    either (Some t) = refl

-- the tests of counts
abbrev tests_of : Bool → Bool → Bool → Bool → List LimitTest
tests_of deep nets elements names =
    record { limit = limit.Depth; is_passed = deep }
    ∷ record { limit = limit.Nets; is_passed = nets }
    ∷ record { limit = limit.Elements; is_passed = elements }
    ∷ record { limit = limit.Names; is_passed = names }
    ∷ []

-- ---- counts up to a bound

cap_lt : (bound n : ℕ) → bound < 2 ^ 32 → nat_lt bound (cap n) ≡ nat_lt bound n
cap_lt bound n few = by_test (nat_lt bound n) refl
  where
    by_test : (b : Bool) → nat_lt bound n ≡ b → nat_lt bound (cap n) ≡ nat_lt bound n
    by_test true e = lt-ltb bound (cap n) (let less = ltb-true bound n e in omega (arith, few, less)) ∙ sym e
    by_test false e = le-ltb bound (cap n) (let least = ltb-false bound n e in omega (arith, least)) ∙ sym e

-- what counts say of a hierarchy
pub record AreCounts (file : File) (top : ℕ) (counts : HierarchyCounts) : Type 0 where
  pub depth : counts.depth ≡ depth (plans_in file top) top
  pub nets : counts.nets ≡ cap (total Nets (plans_in file top) top)
  pub elements : counts.elements ≡ cap (total Elements (plans_in file top) top)
  pub names : counts.names ≡ cap (total Names (plans_in file top) top)

module _ (file : File) (top : ℕ) (counts : HierarchyCounts) (are : AreCounts file top counts) where
  same_tests : hierarchy_tests counts
      ≡ tests_of (nat_lt 64 (depth (plans_in file top) top)) (nat_lt 1048576 (total Nets (plans_in file top) top)) (nat_lt 1048576 (total Elements (plans_in file top) top)) (nat_lt 2097152 (total Names (plans_in file top) top))
  same_tests =
      let deep : nat_lt 64 counts.depth ≡ nat_lt 64 (depth (plans_in file top) top) = ap (nat_lt 64) are.depth in
      let nets : nat_lt 1048576 counts.nets ≡ nat_lt 1048576 (total Nets (plans_in file top) top) = ap (nat_lt 1048576) are.nets ∙ cap_lt 1048576 (total Nets (plans_in file top) top) (omega arith) in
      let elements : nat_lt 1048576 counts.elements ≡ nat_lt 1048576 (total Elements (plans_in file top) top) = ap (nat_lt 1048576) are.elements ∙ cap_lt 1048576 (total Elements (plans_in file top) top) (omega arith) in
      let names : nat_lt 2097152 counts.names ≡ nat_lt 2097152 (total Names (plans_in file top) top) = ap (nat_lt 2097152) are.names ∙ cap_lt 2097152 (total Names (plans_in file top) top) (omega arith) in
      joined deep nets elements names
    where
      joined : {a b c d a' b' c' d' : Bool} → a ≡ a' → b ≡ b' → c ≡ c' → d ≡ d' → tests_of a b c d ≡ tests_of a' b' c' d'
      joined e1 e2 e3 e4 = cc

  -- where counts pass no limit
  pub within-limits : first_passed (hierarchy_tests counts) ≡ None
      → (depth (plans_in file top) top ≤ 64) × (total Nets (plans_in file top) top ≤ 1048576) × (total Elements (plans_in file top) top ≤ 1048576)
  within-limits none =
      let each = none_each (tests_of (nat_lt 64 (depth (plans_in file top) top)) (nat_lt 1048576 (total Nets (plans_in file top) top)) (nat_lt 1048576 (total Elements (plans_in file top) top)) (nat_lt 2097152 (total Names (plans_in file top) top)))
      (sym (ap first_passed same_tests) ∙ none) in
      (ltb-false 64 (depth (plans_in file top) top) each.0, ltb-false 1048576 (total Nets (plans_in file top) top) each.1.0, ltb-false 1048576 (total Elements (plans_in file top) top) each.1.1.0)

-- ---- the refusal

module _ (choice : Mtm) (file : File) (top : ℕ) where
  abbrev wired : Option NetFault
  wired = option_map wired_fault (first_wired (additions_in choice file top))

  abbrev more : List LimitTest
  more = size_tests_in choice file top (additions_in choice file top)

  -- the refusal by a test of ranges and the tests of counts
  abbrev refusal_by : Bool → List LimitTest → Option NetFault
  refusal_by wide tests = option_or (option_map Limit (first_passed (record { limit = limit.Width; is_passed = wide } ∷ (tests ++ more)))) wired

  abbrev counted : List LimitTest
  counted = tests_of (nat_lt 64 (depth (plans_in file top) top)) (nat_lt 1048576 (total Nets (plans_in file top) top)) (nat_lt 1048576 (total Elements (plans_in file top) top)) (nat_lt 2097152 (total Names (plans_in file top) top))

  pub wide-refused : list_any has_wide (modules_in file top) ≡ true → limit_refusal choice file top ≡ Some (Limit limit.Width)
  wide-refused wide = ap (λ (b : Bool). refusal_by b counted) wide

  -- no range is wide: the counts decide, and where they pass no limit, what is written out
  not_wide : list_any has_wide (modules_in file top) ≡ false → (counts : HierarchyCounts) → AreCounts file top counts
      → limit_refusal choice file top ≡ option_or (option_map Limit (option_or (first_passed (hierarchy_tests counts)) (first_passed more))) wired
  not_wide none counts are =
      ap (λ (b : Bool). refusal_by b counted) none
      ∙ ap (λ (o : Option NetlistLimit). option_or (option_map Limit o) wired)
      (passed_append counted more ∙ ap (λ (tests : List LimitTest). option_or (first_passed tests) (first_passed more)) (sym (same_tests file top counts are)))

  pub count-refused : list_any has_wide (modules_in file top) ≡ false → (counts : HierarchyCounts) → AreCounts file top counts → (l : NetlistLimit)
      → first_passed (hierarchy_tests counts) ≡ Some l → limit_refusal choice file top ≡ Some (Limit l)
  count-refused none counts are l passed =
      not_wide none counts are ∙ ap (λ (o : Option NetlistLimit). option_or (option_map Limit (option_or o (first_passed more))) wired) passed

  pub late-same : list_any has_wide (modules_in file top) ≡ false → (counts : HierarchyCounts) → AreCounts file top counts → first_passed (hierarchy_tests counts) ≡ None
      → limit_refusal choice file top ≡ size_refusal (additions_in choice file top) (list_any (has_long choice file.directives) (modules_in file top))
  late-same none counts are passed =
      not_wide none counts are ∙ ap (λ (o : Option NetlistLimit). option_or (option_map Limit (option_or o (first_passed more))) wired) passed

-- what isn't refused has no wired net at a bidirectional switch
pub none-wired : (a : Additions) (is_long : Bool) → size_refusal a is_long ≡ None → first_wired a ≡ None
none-wired a is_long none = by_both (option_map Limit (first_passed (size_tests (list_any is_large (islands_of a)) is_long))) (first_wired a) none
  where
    by_both : (limits : Option NetFault) (place : Option Location) → option_or limits (option_map wired_fault place) ≡ None → place ≡ None
    by_both (Some fault) place e = absurd (let no : Some fault ≡ None = e in cc)
    by_both None (Some place) e = absurd (let no : Some (wired_fault place) ≡ None = e in cc)
    by_both None None e = refl
