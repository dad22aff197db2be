-- What lists by modules have at an index.
use Rattle.std.proofs.Common.{◌≡◌, ℕ, ◌<◌, Bool, true, false, List, [], ◌∷◌, length, get_or, map, refl, sym, ap, ◌∙◌}
use Rattle.std.specs.Prelude.{if◌then◌else◌}
use Rattle.std.proofs.lemmas.List.{get_or-map}
use Rattle.v_tree.specs.declared.modules.Module.{Module}
use Rattle.v_tree.specs.declared.modules.File.{File}
use Rattle.module_scope.specs.declared.scopes.Scope.{Scope}
use Rattle.module_graph.specs.declared.references.Master.{Master}
use Rattle.module_graph.specs.declared.references.Reference.{Reference}
use Rattle.module_graph.specs.Graph.{references_in}
use Rattle.module_ports.specs.Ports.{Port, ports_of}
use Rattle.module_parts.specs.declared.parts.ModulePart.{ModulePart}
use Rattle.module_parts.specs.Parts.{module_parts}
use Rattle.netlist_plan.specs.declared.plan.ModulePlan.{ModulePlan}
use Rattle.netlist_plan.specs.Flattening.{no_plan}
use Rattle.netlist_plan.specs.Plan.{Meanings, module_plan}
use Rattle.module_plan.specs.Meant.{meanings}
use Rattle.hierarchy_counts.specs.declared.counts.ModuleCounts.{ModuleCounts}
use Rattle.hierarchy_counts.specs.declared.counts.InstanceCounts.{InstanceCounts}
use Rattle.hierarchy_counts.specs.Hierarchy.{nothing}
use Rattle.flattening_laws.specs.Counts.{instance_counts, instance_list, module_counts}
use Rattle.plan_counts.specs.PortWidths.{port_widths, widths_in}
use Rattle.plan_counts.proofs.PortLaws.{widths-in}
use Rattle.netlist_scopes.specs.Reached.{scope_under}
use Rattle.netlist_rules.specs.Items.{port_tables}
use Rattle.netlist_meaning.specs.Plans.{graph_in, master_in, parts_in}
use Rattle.std.specs.List.{zip}
use Rattle.hierarchy_plans.specs.Lists.{parts_if, plan_list, plan_with, width_lists, widths_if}

-- what a list that is mapped from another has where that has something
pub mapped-at : {X Y : Type 0} (f : X → Y) (xs : List X) (ys : List Y) (i : ℕ) (x : X) (y : Y) → ys ≡ map f xs → i < length xs → x ≡ get_or xs i x → y ≡ get_or ys i y → y ≡ f x
mapped-at f xs ys i x y same lt x_at y_at = y_at ∙ ap (λ zs. get_or zs i y) same ∙ get_or-map f xs i x y lt ∙ ap f (sym x_at)

module _ (file : File) (i : ℕ) (m : Module) (lt : i < length file.modules) (m_at : m ≡ get_or file.modules i m) where
  pub scope-at : (scopes : List Scope) (scope : Scope) → scopes ≡ map (scope_under file.directives) file.modules → scope ≡ get_or scopes i scope → scope ≡ scope_under file.directives m
  scope-at scopes scope same at = mapped-at (scope_under file.directives) file.modules scopes i m scope same lt m_at at

  pub references-at : (references : List (List Reference)) (list : List Reference) → references ≡ (graph_in file).references → list ≡ get_or references i list
      → list ≡ references_in (master_in file) m.items
  references-at references list same at = mapped-at (λ (x : Module). references_in (master_in file) x.items) file.modules references i m list same lt m_at at

  pub parts-at : (flag : Bool) (scope : Scope) (list : List Reference) (tables : List (List Port)) (parts : List ModulePart)
      → scope ≡ scope_under file.directives m → list ≡ references_in (master_in file) m.items → tables ≡ port_tables file.directives file.modules
      → ((of : List ℕ → Master) → list ≡ references_in of m.items → parts ≡ (if flag then module_parts scope tables of m else [])) → parts ≡ parts_if file (flag, m)
  parts-at flag scope list tables parts scope_is list_is tables_are is =
      is (master_in file) list_is
      ∙ ap (λ (s : Scope). if flag then module_parts s tables (master_in file) m else []) scope_is
      ∙ ap (λ (ts : List (List Port)). if flag then module_parts (scope_under file.directives m) ts (master_in file) m else []) tables_are

  pub widths-at : (flag : Bool) (tables : List (List Port)) (table : List Port) (widths : List ℕ) → tables ≡ port_tables file.directives file.modules → table ≡ get_or tables i table
      → widths ≡ (if flag then port_widths table else []) → widths ≡ widths_if file (flag, m)
  widths-at flag tables table widths same at is =
      is ∙ ap (λ (t : List Port). if flag then port_widths t else []) (mapped-at (λ (x : Module). ports_of (scope_under file.directives x) x) file.modules tables i m table same lt m_at at)

  pub plan-at : (numbers : List ℕ) (flag : Bool) (scope : Scope) (list : List Reference) (parts : List ModulePart) (plan : ModulePlan)
      → scope ≡ scope_under file.directives m → list ≡ references_in (master_in file) m.items → parts ≡ parts_if file (flag, m)
      → ((of : List ℕ → Master) → list ≡ references_in of m.items → plan ≡ (if flag then module_plan scope (meanings of numbers) m parts else no_plan)) → plan ≡ plan_with file numbers (flag, m)
  plan-at numbers flag scope list parts plan scope_is list_is parts_are is =
      is (master_in file) list_is
      ∙ ap (λ (s : Scope). if flag then module_plan s (meanings (master_in file) numbers) m parts else no_plan) scope_is
      ∙ ap (λ (ps : List ModulePart). if flag then module_plan (scope_under file.directives m) (meanings (master_in file) numbers) m ps else no_plan) parts_are
      ∙ by_flag flag
    where
      by_flag : (b : Bool) → (if b then module_plan (scope_under file.directives m) (meanings (master_in file) numbers) m (parts_if file (b, m)) else no_plan) ≡ plan_with file numbers (b, m)
      by_flag true = refl
      by_flag false = refl

  pub counts-at : (numbers : List ℕ) (flag : Bool) (scope : Scope) (parts : List ModulePart) (counts : ModuleCounts)
      → scope ≡ scope_under file.directives m → parts ≡ parts_if file (flag, m)
      → ((given : Meanings) → counts ≡ (if flag then module_counts (module_plan scope given m parts) else nothing)) → counts ≡ module_counts (plan_with file numbers (flag, m))
  counts-at numbers flag scope parts counts scope_is parts_are is =
      let given : Meanings = meanings (master_in file) numbers in
      is given
      ∙ ap (λ (s : Scope). if flag then module_counts (module_plan s given m parts) else nothing) scope_is
      ∙ ap (λ (ps : List ModulePart). if flag then module_counts (module_plan (scope_under file.directives m) given m ps) else nothing) parts_are
      ∙ by_flag flag
    where
      by_flag : (b : Bool) → (if b then module_counts (module_plan (scope_under file.directives m) (meanings (master_in file) numbers) m (parts_if file (b, m))) else nothing)
          ≡ module_counts (plan_with file numbers (b, m))
      by_flag true = refl
      by_flag false = refl

  pub instances-at : (numbers : List ℕ) (plans : List ModulePlan) (widths : List (List ℕ)) (flag : Bool) (scope : Scope) (parts : List ModulePart) (counts : List InstanceCounts)
      → scope ≡ scope_under file.directives m → parts ≡ parts_if file (flag, m) → map widths_in plans ≡ widths
      → ((given : Meanings) (m : Module) (plans : List ModulePlan) → map widths_in plans ≡ widths
      → counts ≡ (if flag then map (instance_counts plans) (instance_list (module_plan scope given m parts).steps) else []))
      → counts ≡ map (instance_counts plans) (instance_list (plan_with file numbers (flag, m)).steps)
  instances-at numbers plans widths flag scope parts counts scope_is parts_are same is =
      let given : Meanings = meanings (master_in file) numbers in
      is given m plans same
      ∙ ap (λ (s : Scope). if flag then map (instance_counts plans) (instance_list (module_plan s given m parts).steps) else []) scope_is
      ∙ ap (λ (ps : List ModulePart). if flag then map (instance_counts plans) (instance_list (module_plan (scope_under file.directives m) given m ps).steps) else []) parts_are
      ∙ by_flag flag
    where
      by_flag : (b : Bool) → (if b then map (instance_counts plans) (instance_list (module_plan (scope_under file.directives m) (meanings (master_in file) numbers) m (parts_if file (b, m))).steps) else [])
          ≡ map (instance_counts plans) (instance_list (plan_with file numbers (b, m)).steps)
      by_flag true = refl
      by_flag false = refl

-- the widths of plans are those of the modules' ports
widths_same : (file : File) (numbers : List ℕ) (flags : List Bool) (modules : List Module) → map widths_in (map (plan_with file numbers) (zip flags modules)) ≡ map (widths_if file) (zip flags modules)
widths_same file numbers [] modules = refl
widths_same file numbers (flag ∷ flags) [] = refl
widths_same file numbers (true ∷ flags) (m ∷ modules) =
    let scope = scope_under file.directives m in
    ap (λ (w : List ℕ). w ∷ map widths_in (map (plan_with file numbers) (zip flags modules))) (widths-in scope (meanings (master_in file) numbers) m (parts_in file m))
    ∙ ap (λ (ws : List (List ℕ)). port_widths (ports_of scope m) ∷ ws) (widths_same file numbers flags modules)
widths_same file numbers (false ∷ flags) (m ∷ modules) = ap (λ (ws : List (List ℕ)). [] ∷ ws) (widths_same file numbers flags modules)

pub widths-same : (file : File) (numbers : List ℕ) (reached : List Bool) → map widths_in (plan_list file numbers reached) ≡ width_lists file reached
widths-same file numbers reached = widths_same file numbers reached file.modules
