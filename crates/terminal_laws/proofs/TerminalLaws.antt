-- The terminals of bidirectional switches are bits of the module's nets.
use Rattle.std.proofs.Common.{ℕ, ◌+◌, ◌<◌, Bool, true, false, List, [], ◌∷◌, map, Option, Some, None, sym, subst, arith}
use Rattle.std.specs.Prelude.{if◌then◌else◌}
use Rattle.std.specs.List.{All, AllByRecursion, enumerate_from, flat_map}
use Rattle.v_tree.specs.declared.locations.Location.{Location}
use Rattle.v_tree.specs.declared.expressions.Expr.{Expr}
use Rattle.v_tree.specs.declared.expressions.RangeBounds.{RangeBounds}
use Rattle.v_tree.specs.declared.expressions.Select.{Select}
use Rattle.v_tree.specs.declared.gates.GateItem.{GateItem}
use Rattle.v_tree.specs.declared.gates.Terms.{Terms}
use Rattle.v_tree.specs.declared.modules.Item.{Item}
use Rattle.v_tree.specs.declared.modules.Item.TheVariants as item
use Rattle.v_tree.specs.declared.modules.Module.{Module}
use Rattle.module_scope.specs.declared.scopes.Scope.{Scope}
use Rattle.module_scope.specs.Scopes.{scope_net}
use Rattle.module_graph.specs.declared.references.Master.{Master}
use Rattle.module_ports.specs.Ports.{Port}
use Rattle.item_parts.specs.Literals.{location_of}
use Rattle.item_parts.specs.Widths.{net_range, width_in}
use Rattle.element_forms.specs.Forms.{element_form}
use Rattle.expression_bits.specs.declared.runs.BitRun.{BitRun}
use Rattle.expression_bits.specs.declared.runs.BitRun.TheVariants.{Net as NetRun, Literal as LiteralRun}
use Rattle.module_parts.specs.declared.parts.ModulePart.{ModulePart}
use Rattle.module_parts.specs.Parts.{gate_part, module_parts, parts_of_item, terminal_runs}
use Rattle.netlist_plan.specs.declared.nets.NetSource.{NetSource}
use Rattle.netlist_plan.specs.declared.nets.ModuleNet.{ModuleNet}
use Rattle.netlist_plan.specs.declared.plan.SwitchTerminal.{SwitchTerminal}
use Rattle.netlist_plan.specs.declared.plan.ModulePlan.{ModulePlan}
use Rattle.netlist_plan.specs.Unnamed.{numbered_from, own_count, runs_in, unnamed_count}
use Rattle.netlist_plan.specs.Nets.{bit_count, name_first, nets_from, select_offset}
use Rattle.netlist_plan.specs.Plan.{Meanings, expr_terminals, gate_terminals, is_bidirectional, item_terminals, module_plan, run_terminal}
use Rattle.netlist_plan.specs.Flattening.{bit_count as plan_bits}
use Rattle.plan_laws.specs.SoundRuns.{HasSoundRuns, IsSoundRun}
use Rattle.plan_laws.proofs.SourceLaws.{module_sources, module_sources_sound, unnamed_in}
use Rattle.plan_laws.proofs.RowLaws.{plan-bits}
use Rattle.plan_laws.proofs.BitLaws.{AreAmong, name_within}
use Rattle.plan_laws.proofs.PartLaws.{parts-among}
use Rattle.flattening_laws.proofs.Apart.{All_from_each, each_flat_map, each_from_All, each_of_map, each_weaker}
use Rattle.terminal_laws.proofs.Walks.{each_of_enumerated, each_of_flat_map}

pub width_some : (range : Option RangeBounds) (select : Option Select) → 0 < width_in range select
width_some None None = omega arith
width_some (Some range) None = omega arith
width_some range (Some select) = omega arith

-- what holds of the runs of a module's gates holds of those of the terminals that its bidirectional switches have
module _ (P : BitRun → Type 0) (Q : SwitchTerminal → Type 0) (scope : Scope) (nets : List ModuleNet) (gives : (location : Location) (run : BitRun) → P run → AllByRecursion Q (run_terminal scope nets location run))
    (tables : List (List Port)) (of : List ℕ → Master) where
  abbrev Part : ModulePart → Type 0
  Part part = AllByRecursion P (runs_in part)

  expr_each : (e : Expr) → AllByRecursion P (terminal_runs e) → AllByRecursion Q (expr_terminals scope nets e)
  expr_each e h =
      each_flat_map Q (run_terminal scope nets (location_of e)) (terminal_runs e)
      (each_weaker P (λ run. AllByRecursion Q (run_terminal scope nets (location_of e) run)) (terminal_runs e) (gives (location_of e)) h)

  terms_each : (terminals : List Expr) → AllByRecursion P (flat_map (λ runs. runs) (map terminal_runs terminals)) → AllByRecursion Q (flat_map (expr_terminals scope nets) terminals)
  terms_each terminals h =
      each_flat_map Q (expr_terminals scope nets) terminals
      (each_weaker (λ e. AllByRecursion P (terminal_runs e)) (λ e. AllByRecursion Q (expr_terminals scope nets e)) terminals expr_each
      (each_of_map (λ runs. AllByRecursion P runs) terminal_runs terminals (each_of_flat_map P (λ runs. runs) (map terminal_runs terminals) h)))

  gates_each : (index : ℕ) (g : GateItem) → AllByRecursion Part (map (gate_part index) g.gates) → AllByRecursion Q (gate_terminals scope nets g)
  gates_each index g h = by_form (is_bidirectional (element_form g.kind))
    where
      all : List SwitchTerminal
      all = flat_map (λ t. flat_map (expr_terminals scope nets) t.terminals) g.gates

      by_form : (b : Bool) → AllByRecursion Q (if b then all else [])
      by_form true =
          each_flat_map Q (λ (t : Terms). flat_map (expr_terminals scope nets) t.terminals) g.gates
          (each_weaker (λ t. Part (gate_part index t)) (λ t. AllByRecursion Q (flat_map (expr_terminals scope nets) t.terminals)) g.gates (λ t part. terms_each t.terminals part)
          (each_of_map Part (gate_part index) g.gates h))
      by_form false = tt

  item_each : (index : ℕ) (x : Item) → AllByRecursion Part (parts_of_item scope tables of (index, x)) → AllByRecursion Q (item_terminals scope nets x)
  item_each index (item.Gates g) h = gates_each index g h
  item_each index (item.Instances i) h = tt
  item_each index (item.Ports d) h = tt
  item_each index (item.Nets d) h = tt
  item_each index (item.Trireg d) h = tt
  item_each index (item.Assign a) h = tt
  item_each index (item.Cell c) h = tt
  item_each index (item.Specify s) h = tt

  pub items_each : (items : List Item) → AllByRecursion Part (flat_map (parts_of_item scope tables of) (enumerate_from 0 items)) → AllByRecursion Q (flat_map (item_terminals scope nets) items)
  items_each items h =
      each_flat_map Q (item_terminals scope nets) items
      (each_weaker (λ x. (k : ℕ) × AllByRecursion Part (parts_of_item scope tables of (k, x))) (λ x. AllByRecursion Q (item_terminals scope nets x)) items (λ x part. item_each part.0 x part.1)
      (each_of_enumerated Part (parts_of_item scope tables of) 0 items h))

module _ (scope : Scope) (sources : List NetSource) where
  abbrev count : ℕ
  count = bit_count scope (nets_from scope 0 sources)

  abbrev Within : SwitchTerminal → Type 0
  Within terminal = terminal.bit < count

  -- the leftmost bit of a run that isn't a literal is a bit of the nets
  abbrev BeginsWithin : BitRun → Type 0
  BeginsWithin (NetRun name select) = name_first (nets_from scope 0 sources) name + select_offset (net_range (scope_net scope name)) select < count
  BeginsWithin (LiteralRun bits) = Unit {0}

  runs_begin : (number : ℕ) (runs : List BitRun) → AreAmong sources number runs → AllByRecursion (IsSoundRun scope) runs → AllByRecursion BeginsWithin runs
  runs_begin number [] among is = tt
  runs_begin number (NetRun name select ∷ runs) among is =
      let whole = name_within scope name 0 sources among.0 in
      let some = width_some (net_range (scope_net scope name)) select in
      let fits = is.0.1 in (omega arith, runs_begin number runs among.1 is.1)
  runs_begin number (LiteralRun bits ∷ runs) among is = (tt, runs_begin (number + 1) runs among.1 is.1)

  parts_begin : (number : ℕ) (parts : List ModulePart) → AllByRecursion (λ (p : ℕ × ModulePart). AreAmong sources (p.0 + own_count p.1) (runs_in p.1)) (numbered_from number parts)
      → AllByRecursion (HasSoundRuns scope) parts → AllByRecursion (λ part. AllByRecursion BeginsWithin (runs_in part)) parts
  parts_begin number [] among is = tt
  parts_begin number (part ∷ parts) among is = (
    runs_begin (number + own_count part) (runs_in part) among.0 (each_from_All (IsSoundRun scope) (runs_in part) is.0.runs),
    parts_begin (number + unnamed_count part) parts among.1 is.1,
  )

  begins : (location : Location) (run : BitRun) → BeginsWithin run → AllByRecursion Within (run_terminal scope (nets_from scope 0 sources) location run)
  begins location (NetRun name select) within = (within, tt)
  begins location (LiteralRun bits) within = tt

pub terminals-within : (scope : Scope) (tables : List (List Port)) (meanings : Meanings) (m : Module) → AllByRecursion (HasSoundRuns scope) (module_parts scope tables meanings.of m)
    → All (λ terminal. terminal.bit < plan_bits (module_plan scope meanings m (module_parts scope tables meanings.of m)).nets) (module_plan scope meanings m (module_parts scope tables meanings.of m)).terminals
terminals-within scope tables meanings m is =
    subst (λ k. All (λ (terminal : SwitchTerminal). terminal.bit < k) plan.terminals)
    (sym (plan-bits scope (unnamed_in parts) 0 sources (module_sources_sound scope parts is)))
    (All_from_each (Within scope sources) plan.terminals
    (items_each (BeginsWithin scope sources) (Within scope sources) scope (nets_from scope 0 sources) (begins scope sources) tables meanings.of m.items
    (parts_begin scope sources 0 parts (parts-among parts) is).1))
  where
    parts : List ModulePart
    parts = module_parts scope tables meanings.of m

    sources : List NetSource
    sources = module_sources scope parts

    plan : ModulePlan
    plan = module_plan scope meanings m parts
