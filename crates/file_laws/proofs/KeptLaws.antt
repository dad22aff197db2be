-- What each module of a file keeps.
use Rattle.std.proofs.Common.{ℕ, ◌<◌, ◌^◌, List, [], ◌∷◌, length, Option, Some, None}
use Rattle.std.specs.List.{AllByRecursion, AllByRecursion-prop}
use Rattle.std.specs.Coded.{Coded-set, coded_bool, coded_ℕ, le_prop, Unit-prop, Π_prop, ×_prop}
use Rattle.std.proofs.Math.Logic.{∥∥₁_elim}
use Rattle.v_tree.specs.declared.expressions.RangeBounds.{RangeBounds}
use Rattle.v_tree.specs.declared.gates.Instance.{Instance as TreeInstance}
use Rattle.v_tree.specs.declared.modules.Item.{Item}
use Rattle.v_tree.specs.declared.modules.Item.TheVariants as item
use Rattle.v_tree.specs.declared.modules.Module.{Module}
use Rattle.v_tree.specs.declared.modules.File.{File}
use Rattle.v_tree.specs.Fit.{IsFitItem, IsFitModule}
use Rattle.flat_names.specs.Spelling.{IsText}
use Rattle.module_directives.specs.InForce.{settings_at}
use Rattle.module_scope.specs.declared.scopes.Scope.{Scope}
use Rattle.module_scope.specs.Scopes.{scope_net}
use Rattle.item_parts.specs.Widths.{net_range}
use Rattle.instance_rules.specs.Places.{instances_in}
use Rattle.netlist_scopes.specs.Reached.{scope_under}
use Rattle.netlist_rules.specs.Items.{port_tables}
use Rattle.expression_bits.specs.declared.runs.BitRun.{BitRun}
use Rattle.expression_bits.specs.declared.runs.BitRun.TheVariants.{Net as NetRun, Literal as LiteralRun}
use Rattle.module_parts.specs.declared.parts.ModulePart.{ModulePart}
use Rattle.module_parts.specs.declared.parts.ModulePart.TheVariants.{Names, Gate, Pair, Instance}
use Rattle.netlist_plan.specs.Unnamed.{runs_in}
use Rattle.flattening_laws.specs.SoundPlans.{IsRange}
use Rattle.flattening_laws.proofs.Apart.{All_from_each, each_from_All, each_weaker}
use Rattle.plan_laws.specs.SoundGates.{IsTextIfThere}
use Rattle.plan_laws.specs.SoundRuns.{whole_names}
use Rattle.fit_laws.specs.FitParts.{IsFitPart, IsFitRun, part_text, terminals_of}
use Rattle.fit_laws.specs.EvenParts.{IsEven}
use Rattle.fit_laws.proofs.RangeLaws.{ranges-fit}
use Rattle.fit_laws.proofs.PartLaws.{parts-fit}
use Rattle.fit_laws.proofs.EvenLaws.{pairs-even}
use Rattle.netlist_meaning.specs.Plans.{master_in, parts_in}
use Rattle.file_laws.specs.FileFacts.{AreModuleFacts}

-- ---- parts, said by pairs, of which no two say the same

abbrev PartFacts : ModulePart → Type 0
PartFacts part =
    (AllByRecursion IsText (whole_names part) × AllByRecursion IsFitRun (runs_in part))
    × (IsTextIfThere (part_text part) × (AllByRecursion (λ (runs : List BitRun). 0 < length runs) (terminals_of part) × (length (terminals_of part) < 2 ^ 32)))

part_facts : (part : ModulePart) → IsFitPart part → PartFacts part
part_facts part f =
    ((each_from_All IsText (whole_names part) f.names, each_from_All IsFitRun (runs_in part) f.runs), (f.text, (f.terminals, f.few)))

part_from_facts : (part : ModulePart) → PartFacts part → IsFitPart part
part_from_facts part f = record {
  names = All_from_each IsText (whole_names part) f.0.0;
  runs = All_from_each IsFitRun (runs_in part) f.0.1;
  text = f.1.0;
  terminals = f.1.1.0;
  few = f.1.1.1;
}

less_prop : (m n : ℕ) → IsProp (m < n)
less_prop m n = le_prop

text_prop : (text : List ℕ) → IsProp (IsText text)
text_prop text = ×_prop le_prop (Coded-set coded_bool _ _)

run_prop : (run : BitRun) → IsProp (IsFitRun run)
run_prop (NetRun name select) = text_prop name
run_prop (LiteralRun bits) = le_prop

name_prop : (name : Option (List ℕ)) → IsProp (IsTextIfThere name)
name_prop None = Unit-prop
name_prop (Some name) = text_prop name

range_prop : (range : Option RangeBounds) → IsProp (IsRange range)
range_prop None = Unit-prop
range_prop (Some range) = ×_prop le_prop le_prop

even_prop : (scope : Scope) (part : ModulePart) → IsProp (IsEven scope part)
even_prop scope (Names names) = Unit-prop
even_prop scope (Gate g) = Unit-prop
even_prop scope (Pair p) = ×_prop le_prop (Coded-set coded_ℕ _ _)
even_prop scope (Instance i) = Unit-prop

part_prop : (part : ModulePart) → IsProp (PartFacts part)
part_prop part =
    ×_prop (×_prop (AllByRecursion-prop IsText text_prop (whole_names part)) (AllByRecursion-prop IsFitRun run_prop (runs_in part)))
    (×_prop (name_prop (part_text part))
    (×_prop (AllByRecursion-prop (λ (runs : List BitRun). 0 < length runs) (λ runs. le_prop) (terminals_of part)) (less_prop (length (terminals_of part)) (2 ^ 32))))

-- ---- modules

items_some : (items : List Item) → AllByRecursion IsFitItem items → AllByRecursion (λ (i : TreeInstance). 0 < length i.instances) (instances_in items)
items_some [] f = tt
items_some (item.Instances i ∷ items) f = (f.0.instances.some, items_some items f.1)
items_some (item.Ports d ∷ items) f = items_some items f.1
items_some (item.Nets d ∷ items) f = items_some items f.1
items_some (item.Trireg d ∷ items) f = items_some items f.1
items_some (item.Assign a ∷ items) f = items_some items f.1
items_some (item.Gates g ∷ items) f = items_some items f.1
items_some (item.Cell c ∷ items) f = items_some items f.1
items_some (item.Specify s ∷ items) f = items_some items f.1

module _ (file : File) where
  abbrev ModuleFacts : Module → Type 0
  ModuleFacts m =
      (((name : List ℕ) → IsRange (net_range (scope_net (scope_under file.directives m) name))) × AllByRecursion PartFacts (parts_in file m))
      × (AllByRecursion (IsEven (scope_under file.directives m)) (parts_in file m) × AllByRecursion (λ (i : TreeInstance). 0 < length i.instances) (instances_in m.items))

  module_prop : (m : Module) → IsProp (ModuleFacts m)
  module_prop m =
      ×_prop (×_prop (Π_prop λ name. range_prop (net_range (scope_net (scope_under file.directives m) name))) (AllByRecursion-prop PartFacts part_prop (parts_in file m)))
      (×_prop (AllByRecursion-prop (IsEven (scope_under file.directives m)) (even_prop (scope_under file.directives m)) (parts_in file m))
      (AllByRecursion-prop (λ (i : TreeInstance). 0 < length i.instances) (λ i. le_prop) (instances_in m.items)))

  module_facts : (m : Module) → IsFitModule m → ModuleFacts m
  module_facts m f =
      let scope = scope_under file.directives m in
      let tables = port_tables file.directives file.modules in
      let parts = each_weaker IsFitPart PartFacts (parts_in file m) part_facts (parts-fit scope tables (master_in file) m f) in
      ((ranges-fit (settings_at file.directives m.location).implicit_type m f, parts), (pairs-even scope tables (master_in file) m f, items_some m.items f.items.each))

  from_facts : (m : Module) → ModuleFacts m → AreModuleFacts file m
  from_facts m f = record {
    ranges = f.0.0;
    parts = each_weaker PartFacts IsFitPart (parts_in file m) part_from_facts f.0.1;
    even = f.1.0;
    instances = f.1.1;
  }

  pub modules-fit : AllByRecursion (AreModuleFacts file) file.modules
  modules-fit =
      each_weaker ModuleFacts (AreModuleFacts file) file.modules from_facts
      (∥∥₁_elim file.kept (AllByRecursion-prop ModuleFacts module_prop file.modules)
      (λ lists. each_weaker IsFitModule ModuleFacts file.modules module_facts lists.modules.each))
