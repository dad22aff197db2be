-- What the list of all rules says of each, and of each module that is reached.
use Rattle.std.proofs.Common.{◌≡◌, ℕ, zero, suc, Bool, true, false, List, [], ◌∷◌, ◌++◌, Option, Some, None, refl, subst, inl, inr, ◌⊎◌}
use Rattle.std.specs.Prelude.{map, slice_get, slice_index_or}
use Rattle.std.specs.List.{All, AllByRecursion, flat_map, items_where_true, zip}
use Rattle.v_tree.specs.declared.modules.Module.{Module}
use Rattle.v_tree.specs.declared.modules.File.{File}
use Rattle.module_graph.specs.Top.{top_of}
use Rattle.module_scope.specs.declared.rules.NameRule.{NameRule}
use Rattle.module_scope.specs.declared.rules.NameRule.TheVariants as name_rule
use Rattle.instance_rules.specs.Items.{InstanceRule}
use Rattle.instance_rules.specs.Items.InstanceRule.{Widths, Counts, Delays, Drives, Connections, Literals}
use Rattle.netlist_scopes.specs.Rules.{RulePlaces}
use Rattle.netlist_scopes.specs.Reached.{reached_places as name_places}
use Rattle.netlist_rules.specs.Items.{reached_places as item_places}
use Rattle.netlist_rules.specs.Rules.{all_rules, places_from}
use Rattle.netlist_plan.specs.declared.plan.ModulePlan.{ModulePlan}
use Rattle.netlist_plan.specs.Flattening.{no_plan}
use Rattle.netlist_meaning.specs.Plans.{graph_in, modules_reached, plan_if, plan_in}
use Rattle.flattening_laws.proofs.Apart.{each_from_All}
use Rattle.netlist_laws.specs.Unbroken.{AreUnbroken}

-- ---- the rules, one by one

pub rules-unbroken : (file : File) (choice : Option (List ℕ)) (top : ℕ) → top_of (graph_in file) choice ≡ Some top → All (λ r. r.places ≡ []) (all_rules file choice) → AreUnbroken file top
rules-unbroken file choice top is none =
    from_each (each_from_All (λ r. r.places ≡ []) (places_from file (graph_in file) (Some top))
    (subst (λ (t : Option ℕ). All (λ (r : RulePlaces). r.places ≡ []) (places_from file (graph_in file) t)) is none))
  where
    from_each : AllByRecursion (λ (r : RulePlaces). r.places ≡ []) (places_from file (graph_in file) (Some top)) → AreUnbroken file top
    from_each (e1, (e2, (e3, (e4, (ports, (repeated, (undeclared, (selects, (widths, (counts, (delays, (drives, (connections, (literals, (tables, (headers, (ranges, (precisions, (implicit, e20))))))))))))))))))) = record {
      names = names;
      items = items;
      tables = tables;
      precisions = precisions;
    }
      where
        names : (law : NameRule) → name_places law file.directives (modules_reached file top) file.modules ≡ []
        names name_rule.Ports = ports
        names name_rule.Repeated = repeated
        names name_rule.Undeclared = undeclared
        names name_rule.Selects = selects
        names name_rule.Ranges = ranges
        names name_rule.Implicit = implicit

        items : (law : InstanceRule) → item_places law file (modules_reached file top) ≡ []
        items Widths = widths
        items Counts = counts
        items Delays = delays
        items Drives = drives
        items Connections = connections
        items Literals = literals

-- ---- modules that are reached

pub append_none : {X : Type 0} (xs ys : List X) → xs ++ ys ≡ [] → (xs ≡ []) × (ys ≡ [])
append_none [] ys e = (refl, e)
append_none (x ∷ xs) ys e = absurd (let no : x ∷ (xs ++ ys) ≡ [] = e in cc)

-- what is nowhere among those that are picked isn't at one of them
pub none_at : {X Y : Type 0} (f : X → List Y) (flags : List Bool) (xs : List X) (k : ℕ) (x : X) → flat_map f (items_where_true flags xs) ≡ []
    → slice_get xs k ≡ Some x → slice_index_or flags k false ≡ true → f x ≡ []
none_at f [] xs k x none at there = absurd (let no : false ≡ true = there in cc)
none_at f (flag ∷ flags) [] k x none at there = absurd (let no : None ≡ Some x = at in cc)
none_at f (true ∷ flags) (y ∷ xs) zero x none at there =
    let same : y ≡ x = cc in subst (λ z. f z ≡ []) same (append_none (f y) (flat_map f (items_where_true flags xs)) none).0
none_at f (false ∷ flags) (y ∷ xs) zero x none at there = absurd (let no : false ≡ true = there in cc)
none_at f (true ∷ flags) (y ∷ xs) (suc k) x none at there = none_at f flags xs k x (append_none (f y) (flat_map f (items_where_true flags xs)) none).1 at there
none_at f (false ∷ flags) (y ∷ xs) (suc k) x none at there = none_at f flags xs k x none at there

-- a plan is none, or that of a module that is reached
pub plan_cases : (file : File) (top : ℕ) (flags : List Bool) (modules : List Module) (k : ℕ) (p : ModulePlan) → slice_get (map (plan_if file top) (zip flags modules)) k ≡ Some p
    → (no_plan ≡ p) ⊎ ((m : Module) × (slice_get modules k ≡ Some m) × (slice_index_or flags k false ≡ true) × (plan_in file top m ≡ p))
plan_cases file top [] modules k p at = absurd (let no : None ≡ Some p = at in cc)
plan_cases file top (flag ∷ flags) [] k p at = absurd (let no : None ≡ Some p = at in cc)
plan_cases file top (true ∷ flags) (m ∷ modules) zero p at = inr (m, refl, refl, (let same : plan_in file top m ≡ p = cc in same))
plan_cases file top (false ∷ flags) (m ∷ modules) zero p at = inl (let same : no_plan ≡ p = cc in same)
plan_cases file top (flag ∷ flags) (m ∷ modules) (suc k) p at = plan_cases file top flags modules k p at
