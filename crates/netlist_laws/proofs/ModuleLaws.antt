-- Where no rule is broken, the plan of a reached module of few elements is sound.
use Rattle.std.proofs.Common.{◌≡◌, ℕ, ◌+◌, ◌<◌, ◌≤◌, ◌^◌, true, false, List, [], ◌∷◌, length, Option, Some, None, arith}
use Rattle.std.specs.Prelude.{slice_get, slice_index_or}
use Rattle.std.specs.Option.{IsSome}
use Rattle.std.specs.List.{AllByRecursion, enumerate_from, flat_map}
use Rattle.v_tree.specs.declared.modules.Module.{Module}
use Rattle.v_tree.specs.declared.modules.File.{File}
use Rattle.v_tree.specs.declared.directives.ImplicitNetType.{ImplicitNetType}
use Rattle.udp_table.specs.Primitive.{Primitive}
use Rattle.module_directives.specs.InForce.{settings_at}
use Rattle.module_scope.specs.declared.scopes.Scope.{Scope}
use Rattle.expression_bits.specs.declared.runs.BitRun.{BitRun}
use Rattle.expression_bits.specs.declared.runs.BitRun.TheVariants.{Net as NetRun, Literal as LiteralRun}
use Rattle.module_parts.specs.Parts.{parts_of_item}
use Rattle.module_parts.specs.declared.parts.ModulePart.{ModulePart}
use Rattle.module_parts.specs.declared.parts.ModulePart.TheVariants.{Names, Gate, Pair, Instance}
use Rattle.instance_rules.specs.Items.{InstanceRule}
use Rattle.instance_rules.specs.Items.InstanceRule.{Counts, Connections, Literals}
use Rattle.instance_rules.specs.Places.{breaking_places}
use Rattle.netlist_scopes.specs.Reached.{scope_under, module_places as name_places}
use Rattle.netlist_rules.specs.Items.{gate_part, masters_of, module_places as item_places, port_counts, port_tables}
use Rattle.netlist_plan.specs.Unnamed.{numbered_from, runs_in, unnamed_count}
use Rattle.netlist_plan.specs.Nets.{module_nets}
use Rattle.netlist_plan.specs.Plan.{Given, part_steps}
use Rattle.flattening_laws.specs.Counts.{element_list}
use Rattle.flattening_laws.specs.SoundPlans.{IsSoundPlan}
use Rattle.flattening_laws.proofs.Apart.{All_from_each, each_from_All, each_weaker}
use Rattle.plan_laws.specs.SoundGates.{IsTextIfThere}
use Rattle.plan_laws.specs.SoundParts.{IsNamed, IsSoundPart}
use Rattle.plan_laws.specs.SoundRuns.{HasSoundRuns, IsSoundRun}
use Rattle.plan_laws.proofs.PlanLaws.{plan-sound}
use Rattle.plan_laws.proofs.StepNameLaws.{HasName}
use Rattle.name_laws.specs.Unbroken.{AreUnbroken as AreNamesUnbroken}
use Rattle.name_laws.specs.FitSelects.{HasFitSelect}
use Rattle.name_laws.proofs.PortLaws.{ports-apart}
use Rattle.name_laws.proofs.SelectLaws.{selects-fit}
use Rattle.name_laws.proofs.TextLaws.{texts-apart}
use Rattle.fit_laws.specs.FitParts.{IsFitPart, IsFitRun}
use Rattle.size_laws.specs.SmallParts.{IsPartUpTo, IsRunUpTo}
use Rattle.size_laws.proofs.SizeLaws.{parts-long, parts-many, runs_length}
use Rattle.terminal_laws.specs.CountedParts.{HasTerminalRuns, IsCounted}
use Rattle.terminal_laws.proofs.CountLaws.{parts-counted}
use Rattle.terminal_laws.proofs.EndLaws.{ends-terminals}
use Rattle.terminal_laws.proofs.TerminalLaws.{terminals-within}
use Rattle.file_laws.specs.FileFacts.{AreModuleFacts}
use Rattle.file_laws.proofs.PrimitiveLaws.{have-primitives}
use Rattle.netlist_meaning.specs.Plans.{master_in, meanings_in, modules_reached, parts_in, plan_in, primitives_in}
use Rattle.netlist_laws.specs.Unbroken.{AreUnbroken}
use Rattle.netlist_laws.proofs.RuleLaws.{append_none, none_at}

-- ---- runs

runs_sound : (scope : Scope) (bound : ℕ) (runs : List BitRun) → bound < 2 ^ 32 → AllByRecursion IsFitRun runs → AllByRecursion (HasFitSelect scope) runs → AllByRecursion (IsRunUpTo bound) runs
    → AllByRecursion (IsSoundRun scope) runs
runs_sound scope bound [] small fit selects up = tt
runs_sound scope bound (NetRun name select ∷ runs) small fit selects up = ((fit.0, selects.0), runs_sound scope bound runs small fit.1 selects.1 up.1)
runs_sound scope bound (LiteralRun bits ∷ runs) small fit selects up =
    ((fit.0, (let least = up.0 in omega (arith, least, small))), runs_sound scope bound runs small fit.1 selects.1 up.1)

parts_runs : (scope : Scope) (bound : ℕ) (parts : List ModulePart) → bound < 2 ^ 32 → AllByRecursion IsFitPart parts → AllByRecursion (λ part. AllByRecursion (HasFitSelect scope) (runs_in part)) parts
    → AllByRecursion (IsPartUpTo scope bound) parts → AllByRecursion (HasSoundRuns scope) parts
parts_runs scope bound [] small fit selects up = tt
parts_runs scope bound (part ∷ parts) small fit selects up = (
  record {
    names = fit.0.names;
    runs = All_from_each (IsSoundRun scope) (runs_in part) (runs_sound scope bound (runs_in part) small (each_from_All IsFitRun (runs_in part) fit.0.runs) selects.0 up.0.0);
  },
  parts_runs scope bound parts small fit.1 selects.1 up.1,
)

-- ---- parts

part_sound : (udps : List Primitive) (given : Given) (bound number : ℕ) (part : ModulePart) → bound ≤ 2 ^ 32 → IsFitPart part → IsCounted udps given part → IsPartUpTo given.scope bound part
    → IsSoundPart udps given (number, part)
part_sound udps given bound number (Names names) small fit counted up = tt
part_sound udps given bound number (Gate g) small fit counted up = record {
  name = fit.text;
  terminals = All_from_each (λ runs. 0 < length runs) g.terminals fit.terminals;
  few = fit.few;
  count = counted;
}
part_sound udps given bound number (Pair p) small fit counted up =
    let size = runs_length given.scope given.nets (number + 1) p.target in
    let least = up.1 in
    omega (arith, size, least, small)
part_sound udps given bound number (Instance i) small fit counted up = (named i.name counted.0 fit.text, counted.1)
  where
    named : (name : Option (List ℕ)) → IsSome name → IsTextIfThere name → IsNamed name
    named None there is = absurd (let no : false ≡ true = there in cc)
    named (Some name) there is = is

parts_sound : (udps : List Primitive) (given : Given) (bound number : ℕ) (parts : List ModulePart) → bound ≤ 2 ^ 32 → AllByRecursion IsFitPart parts → AllByRecursion (IsCounted udps given) parts
    → AllByRecursion (IsPartUpTo given.scope bound) parts → AllByRecursion (IsSoundPart udps given) (numbered_from number parts)
parts_sound udps given bound number [] small fit counted up = tt
parts_sound udps given bound number (part ∷ parts) small fit counted up =
    (part_sound udps given bound number part small fit.0 counted.0 up.0, parts_sound udps given bound (number + unnamed_count part) parts small fit.1 counted.1 up.1)

has_name : (udps : List Primitive) (given : Given) (part : ModulePart) → IsCounted udps given part → HasName part
has_name udps given (Names names) counted = tt
has_name udps given (Gate g) counted = tt
has_name udps given (Pair p) counted = tt
has_name udps given (Instance i) counted = counted.0

has_runs : (part : ModulePart) → IsFitPart part → HasTerminalRuns part
has_runs (Names names) fit = tt
has_runs (Gate g) fit = fit.terminals
has_runs (Pair p) fit = tt
has_runs (Instance i) fit = tt

-- ---- modules

module _ (file : File) (top k : ℕ) (m : Module) (unbroken : AreUnbroken file top) (here : slice_get file.modules k ≡ Some m) (there : slice_index_or (modules_reached file top) k false ≡ true)
    (facts : AreModuleFacts file m) where
  abbrev default : Option ImplicitNetType
  default = (settings_at file.directives m.location).implicit_type

  abbrev scope : Scope
  scope = scope_under file.directives m

  abbrev parts : List ModulePart
  parts = parts_in file m

  abbrev given : Given
  given = record { scope = scope; nets = module_nets scope parts; items = m.items; meanings = meanings_in file top }

  abbrev udps : List Primitive
  udps = primitives_in file top

  names_hold : AreNamesUnbroken default m
  names_hold law = none_at (name_places law file.directives) (modules_reached file top) file.modules k m (unbroken.names law) here there

  rule_holds : (law : InstanceRule) → item_places law file m ≡ []
  rule_holds law = none_at (item_places law file) (modules_reached file top) file.modules k m (unbroken.items law) here there

  gates_hold : (law : InstanceRule) → (gate_part law scope m ≡ []) × (breaking_places law scope (masters_of file) m ≡ [])
  gates_hold law = append_none (gate_part law scope m) (breaking_places law scope (masters_of file) m) (rule_holds law)

  counted : AllByRecursion (IsCounted udps given) parts
  counted =
      parts-counted udps scope (module_nets scope parts) (meanings_in file top) (port_tables file.directives file.modules) (port_counts file.udps) m
      (gates_hold Counts).0 (gates_hold Counts).1 (gates_hold Connections).1
      (have-primitives file top k m unbroken.tables here there)

  -- of so few elements its plan is sound
  pub module-sound : length (element_list (plan_in file top m).steps) ≤ 1048576 → IsSoundPlan udps (plan_in file top m)
  module-sound few =
      let bound = length (element_list (flat_map (part_steps given) (numbered_from 0 parts))) in
      let fit_runs : AllByRecursion (λ part. AllByRecursion IsFitRun (runs_in part)) parts
      = each_weaker IsFitPart (λ part. AllByRecursion IsFitRun (runs_in part)) parts (λ part fit. each_from_All IsFitRun (runs_in part) fit.runs) facts.parts in
      let many = parts-many given 0 parts facts.even fit_runs in
      let long = parts-long given 0 parts facts.even in
      let runs = parts_runs scope bound parts (omega (arith, few)) facts.parts (selects-fit default (port_tables file.directives file.modules) (master_in file) m names_hold) long in
      plan-sound udps scope (meanings_in file top) m (flat_map (parts_of_item scope (port_tables file.directives file.modules) (master_in file)) (enumerate_from 0 m.items))
      facts.ranges runs (omega (arith, many, few)) (ports-apart default m names_hold)
      (parts_sound udps given bound 0 parts (omega (arith, few)) facts.parts counted long)
      (each_weaker (IsCounted udps given) HasName parts (has_name udps given) counted)
      (texts-apart given default scope (port_tables file.directives file.modules) (master_in file) m names_hold)
      (terminals-within scope (port_tables file.directives file.modules) (meanings_in file top) m runs)
      (ends-terminals scope (port_tables file.directives file.modules) (meanings_in file top) m (gates_hold Counts).0 (gates_hold Literals).0
      (each_weaker IsFitPart HasTerminalRuns parts has_runs facts.parts))
