-- The ends of the bidirectional switches of a plan are bits at its terminals.
use Rattle.std.proofs.Common.{◌≡◌, ℕ, zero, suc, ◌+◌, ◌<◌, ◌≤◌, Bool, true, false, not, List, [], ◌∷◌, ◌++◌, length, map, take, drop, Option, None, refl, sym, ap, subst, ◌∙◌, arith}
use Rattle.std.specs.Prelude.{if◌then◌else◌, slice_index_or}
use Rattle.std.specs.Option.{option_map_or}
use Rattle.std.specs.List.{All, AllByRecursion, Contains, enumerate_from, flat_map, list_any, range_with_len, zip}
use Rattle.v_lexer.specs.declared.literals.Bit.{Bit}
use Rattle.v_tree.specs.declared.locations.Location.{Location}
use Rattle.v_tree.specs.declared.declarations.DeclaredNames.{DeclaredNames}
use Rattle.v_tree.specs.declared.declarations.DeclaredNames.TheVariants as declares
use Rattle.v_tree.specs.declared.expressions.Expr.{Expr, fold-roll-Expr, fold_out-Expr, ind-Expr, map-Expr, out-Expr}
use Rattle.v_tree.specs.declared.expressions.Expr.TheOpen.{Expr-F}
use Rattle.v_tree.specs.declared.gates.GateKind.{GateKind}
use Rattle.v_tree.specs.declared.gates.Instance.{Instance as TreeInstance}
use Rattle.v_tree.specs.declared.gates.Terms.{Terms}
use Rattle.v_tree.specs.declared.modules.Item.{Item}
use Rattle.v_tree.specs.declared.modules.Item.TheVariants as item
use Rattle.v_tree.specs.declared.modules.Module.{Module}
use Rattle.flat_net.specs.declared.kinds.ElementKind.TheVariants.{Copy}
use Rattle.flat_net.specs.Elements.{end_nets}
use Rattle.module_scope.specs.declared.scopes.Scope.{Scope}
use Rattle.module_scope.specs.Scopes.{scope_net}
use Rattle.module_graph.specs.declared.references.Master.{Master}
use Rattle.module_graph.specs.declared.references.Master.TheVariants as master
use Rattle.module_ports.specs.Ports.{Port}
use Rattle.item_parts.specs.Literals.{has_literal, has_literal_layer, location_of}
use Rattle.item_parts.specs.Widths.{net_range}
use Rattle.gate_rules.specs.declared.classes.GateClass.{GateClass}
use Rattle.gate_rules.specs.Classes.{gate_class, is_terminal_count, output_count}
use Rattle.gate_rules.specs.Rules.{item_counts, item_literals, literal_places, name_or_paren, terms_counts, terms_literals}
use Rattle.gate_rules.specs.Places.{gate_counts, gate_literals}
use Rattle.instance_rules.specs.Links.{links, ports_of}
use Rattle.element_forms.specs.declared.forms.ElementForm.{ElementForm}
use Rattle.element_forms.specs.declared.forms.ElementForm.TheVariants.{Single, Bidirectional, Complementary}
use Rattle.element_forms.specs.declared.strengths.Strengths.{Strengths}
use Rattle.element_forms.specs.Forms.{element_form}
use Rattle.expression_bits.specs.declared.runs.BitRun.{BitRun}
use Rattle.expression_bits.specs.declared.runs.BitRun.TheVariants.{Net as NetRun, Literal as LiteralRun}
use Rattle.expression_bits.specs.Runs.{part_layer, part_runs, place_runs_in, run_width, runs_width, value_runs}
use Rattle.module_parts.specs.declared.parts.ModulePart.{ModulePart}
use Rattle.module_parts.specs.declared.parts.ModulePart.TheVariants.{Gate, Pair}
use Rattle.module_parts.specs.declared.parts.PairPart.{PairPart}
use Rattle.module_parts.specs.Parts.{assignment, declared_parts, gate_part, instance_parts, module_instance, module_parts, name_text, pair_part, parts_of_item, primitive_instance, target_runs, terminal_runs, valued_parts}
use Rattle.netlist_plan.specs.declared.nets.ModuleNet.{ModuleNet}
use Rattle.netlist_plan.specs.declared.plan.OwnName.{OwnName}
use Rattle.netlist_plan.specs.declared.plan.PlanElement.{PlanElement}
use Rattle.netlist_plan.specs.declared.plan.PlanStep.TheVariants.{Element as ElementStep}
use Rattle.netlist_plan.specs.declared.plan.SwitchTerminal.{SwitchTerminal}
use Rattle.netlist_plan.specs.declared.plan.ModulePlan.{ModulePlan}
use Rattle.netlist_plan.specs.Unnamed.{literal_count, numbered_from, own_count, runs_in, unnamed_count}
use Rattle.netlist_plan.specs.Nets.{literal_first, module_nets, name_first, select_offset}
use Rattle.netlist_plan.specs.Elements.{constant, constants, copied_bit, copies, form_elements, gate_name, literal_constants, runs_bits, terminal_bits}
use Rattle.netlist_plan.specs.Plan.{Given, Meanings, element_steps, expr_terminals, form_at, is_bidirectional, item_form, item_terminals, master_form, module_plan, own_steps, part_steps, run_terminal, strengths_at}
use Rattle.flattening_laws.specs.SoundPlans.{HasTerminals}
use Rattle.flattening_laws.proofs.Apart.{All_from_each, each_always, each_append, each_at, each_flat_map, each_map, each_of_map}
use Rattle.terminal_laws.specs.CountedParts.{HasTerminalRuns}
use Rattle.terminal_laws.proofs.Walks.{each_enumerated, each_itself, each_of_enumerated, each_of_flat_map, no_place, none_flat_map, not_false, or_parts}
use Rattle.terminal_laws.proofs.GateCounts.{two_ends}
use Rattle.terminal_laws.proofs.TerminalLaws.{width_some}

-- ---- an expression without a literal is nets alone

abbrev IsNetRun : BitRun → Type 0
IsNetRun (NetRun name select) = Unit {0}
IsNetRun (LiteralRun bits) = ⊥

abbrev HasNets : Expr → Type 0
HasNets e = has_literal e ≡ false → AllByRecursion IsNetRun (part_runs e)

concat_nets : (parts : List ((e : Expr) × HasNets e)) → list_any (λ part. part) (map has_literal (map (λ e. e.0) parts)) ≡ false → AllByRecursion IsNetRun (flat_map (λ part. part) (map part_runs (map (λ e. e.0) parts)))
concat_nets [] none = tt
concat_nets (e ∷ parts) none =
    let split = or_parts (has_literal e.0) (list_any (λ part. part) (map has_literal (map (λ p. p.0) parts))) none in
    each_append IsNetRun (part_runs e.0) (flat_map (λ part. part) (map part_runs (map (λ p. p.0) parts))) (e.1 split.0) (concat_nets parts split.1)

abbrev HasLayerNets : Expr-F Expr → Type 0
HasLayerNets x = has_literal_layer (map-Expr Expr Bool has_literal x) ≡ false → AllByRecursion IsNetRun (part_layer (map-Expr Expr (List BitRun) part_runs x))

layer_nets : (y : Expr-F ((e : Expr) × HasNets e)) → HasLayerNets (map-Expr ((e : Expr) × HasNets e) Expr (λ e. e.0) y)
layer_nets (Expr-F.Pick pick) none = (tt, tt)
layer_nets (Expr-F.Number location n) none = absurd (let clash : true ≡ false = none in cc)
layer_nets (Expr-F.Based location l) none = absurd (let clash : true ≡ false = none in cc)
layer_nets (Expr-F.Concat location parts) none = concat_nets parts none

part_nets : (e : Expr) → HasNets e
part_nets = ind-Expr HasNets (λ x y is none.
    subst (AllByRecursion IsNetRun) (sym (fold-roll-Expr (List BitRun) part_layer x))
    (subst HasLayerNets is (layer_nets y) (sym (fold-roll-Expr Bool has_literal_layer x) ∙ none)))

parts_nets : (parts : List Expr) → list_any (λ part. part) (map has_literal parts) ≡ false → AllByRecursion IsNetRun (flat_map part_runs parts)
parts_nets [] none = tt
parts_nets (e ∷ parts) none =
    let split = or_parts (has_literal e) (list_any (λ part. part) (map has_literal parts)) none in
    each_append IsNetRun (part_runs e) (flat_map part_runs parts) (part_nets e split.0) (parts_nets parts split.1)

terminal_nets : (e : Expr) → has_literal e ≡ false → AllByRecursion IsNetRun (terminal_runs e)
terminal_nets e none = by_layer (out-Expr e) (sym (fold_out-Expr Bool has_literal_layer e) ∙ none)
  where
    by_layer : (o : Expr-F Expr) → has_literal_layer (map-Expr Expr Bool has_literal o) ≡ false → AllByRecursion IsNetRun (place_runs_in 1 o)
    by_layer (Expr-F.Pick pick) none = (tt, tt)
    by_layer (Expr-F.Number location n) none = absurd (let clash : true ≡ false = none in cc)
    by_layer (Expr-F.Based location l) none = absurd (let clash : true ≡ false = none in cc)
    by_layer (Expr-F.Concat location parts) none = parts_nets parts none

-- ---- the bit of a terminal

first_of_range : (start width : ℕ) (rest : List ℕ) → 0 < width → slice_index_or (range_with_len start width ++ rest) 0 0 ≡ start
first_of_range start zero rest some = absurd (omega arith)
first_of_range start (suc width) rest some = refl

module _ (bits : List ℕ) where
  abbrev AtTerminal : SwitchTerminal → Type 0
  AtTerminal terminal = Contains bits terminal.bit

  abbrev HasEnds : PlanElement → Type 0
  HasEnds e = All (Contains bits) (end_nets e.ends)

  no_ends : All (Contains bits) []
  no_ends = All_from_each (Contains bits) [] tt

  runs_end : (scope : Scope) (nets : List ModuleNet) (number : ℕ) (location : Location) (runs : List BitRun) → AllByRecursion IsNetRun runs → 0 < length runs
      → AllByRecursion AtTerminal (flat_map (run_terminal scope nets location) runs) → Contains bits (slice_index_or (runs_bits scope nets number runs) 0 0)
  runs_end scope nets number location [] are some at = absurd (omega arith)
  runs_end scope nets number location (NetRun name select ∷ runs) are some at =
      let range = net_range (scope_net scope name) in
      let first = name_first nets name + select_offset range select in
      subst (Contains bits) (sym (first_of_range first (run_width scope (NetRun name select)) (runs_bits scope nets (number + literal_count (NetRun name select ∷ [])) runs) (width_some range select))) at.0
  runs_end scope nets number location (LiteralRun those ∷ runs) are some at = absurd are.0

  expr_end : (scope : Scope) (nets : List ModuleNet) (number : ℕ) (e : Expr) → literal_places e ≡ [] → 0 < length (terminal_runs e) → AllByRecursion AtTerminal (expr_terminals scope nets e)
      → Contains bits (slice_index_or (runs_bits scope nets number (terminal_runs e)) 0 0)
  expr_end scope nets number e none some at =
      runs_end scope nets number (location_of e) (terminal_runs e) (terminal_nets e (no_place (has_literal e) (location_of e) none)) some at

  -- ---- elements

  form_ends : (own : OwnName) (form : ElementForm) (strengths : Strengths) (item : ℕ) (terminals : List ℕ)
      → (is_bidirectional form ≡ true → Contains bits (slice_index_or terminals 0 0) × Contains bits (slice_index_or terminals 1 0)) → AllByRecursion HasEnds (form_elements own form strengths item terminals)
  form_ends own (Single kind) strengths item terminals ends = (no_ends, tt)
  form_ends own (Bidirectional kind resistive) strengths item terminals ends =
      let two = ends refl in (All_from_each (Contains bits) (slice_index_or terminals 0 0 ∷ slice_index_or terminals 1 0 ∷ []) (two.0, (two.1, tt)), tt)
  form_ends own (Complementary resistive) strengths item terminals ends = (no_ends, (no_ends, tt))

  steps_ends : (elements : List PlanElement) → AllByRecursion HasEnds elements → AllByRecursion (HasTerminals bits) (element_steps elements)
  steps_ends elements h = each_map (HasTerminals bits) ElementStep elements h

  literal_ends : (number width first place : ℕ) (those : List Bit) → AllByRecursion HasEnds (map (constant number width first) (enumerate_from place those))
  literal_ends number width first place [] = tt
  literal_ends number width first place (b ∷ those) = (no_ends, literal_ends number width first (place + 1) those)

  constants_ends : (nets : List ModuleNet) (number : ℕ) (runs : List BitRun) → AllByRecursion HasEnds (constants nets number runs)
  constants_ends nets number [] = tt
  constants_ends nets number (NetRun name select ∷ runs) = constants_ends nets number runs
  constants_ends nets number (LiteralRun those ∷ runs) =
      each_append HasEnds (literal_constants nets number those) (constants nets (number + 1) runs)
      (literal_ends number (length those) (literal_first nets number) 0 those) (constants_ends nets (number + 1) runs)

  copies_from : (number width place : ℕ) (strengths : Strengths) (item : ℕ) (targets values : List ℕ) → AllByRecursion HasEnds (map (copied_bit number width strengths item) (enumerate_from place (zip targets values)))
  copies_from number width place strengths item [] values = tt
  copies_from number width place strengths item (t ∷ targets) [] = tt
  copies_from number width place strengths item (t ∷ targets) (v ∷ values) = (no_ends, copies_from number width (place + 1) strengths item targets values)

  copies_ends : (number : ℕ) (strengths : Strengths) (item : ℕ) (targets values : List ℕ) → AllByRecursion HasEnds (copies number strengths item targets values)
  copies_ends number strengths item targets values = copies_from number (length targets) 0 strengths item targets values

  -- ---- parts

  module _ (given : Given) where
    -- the steps of a part have their ends at terminals, whatever its number
    abbrev PartHasEnds : ModulePart → Type 0
    PartHasEnds part = (number : ℕ) → AllByRecursion (HasTerminals bits) (own_steps given number part)

    -- the first two of some terminals
    two_terminals : (class : GateClass) (number : ℕ) (es : List Expr) → output_count class (length es) ≡ 2 → 2 ≤ length es → flat_map literal_places (take (output_count class (length es)) es) ≡ []
        → AllByRecursion (λ runs. 0 < length runs) (map terminal_runs es) → AllByRecursion AtTerminal (flat_map (expr_terminals given.scope given.nets) es)
        → Contains bits (slice_index_or (terminal_bits given.scope given.nets number (map terminal_runs es)) 0 0)
        × Contains bits (slice_index_or (terminal_bits given.scope given.nets number (map terminal_runs es)) 1 0)
    two_terminals class number [] two least none some at = absurd (omega arith)
    two_terminals class number (a ∷ []) two least none some at = absurd (omega arith)
    two_terminals class number (a ∷ b ∷ es) two least none some at =
        let free = none_flat_map literal_places (a ∷ b ∷ []) (subst (λ k. flat_map literal_places (take k (a ∷ b ∷ es)) ≡ []) two none) in
        let each = each_of_flat_map AtTerminal (expr_terminals given.scope given.nets) (a ∷ b ∷ es) at in (
          expr_end given.scope given.nets number a free.0 some.0 each.0,
          expr_end given.scope given.nets (number + literal_count (terminal_runs a)) b free.1.0 some.1.0 each.1.0,
        )

    terms_ends : (index : ℕ) (kind : GateKind) (t : Terms) → form_at given.meanings given.items index ≡ element_form kind → terms_counts (gate_class kind) t ≡ [] → terms_literals (gate_class kind) t ≡ []
        → HasTerminalRuns (gate_part index t) → (is_bidirectional (element_form kind) ≡ true → AllByRecursion AtTerminal (flat_map (expr_terminals given.scope given.nets) t.terminals)) → PartHasEnds (gate_part index t)
    terms_ends index kind t form counts literals some at number =
        let class = gate_class kind in
        let first = number + own_count (gate_part index t) in
        let own = gate_name number (name_text t.name) in
        let strengths = strengths_at given.items index in
        let terminals = terminal_bits given.scope given.nets first (map terminal_runs t.terminals) in
        let right = not_false (is_terminal_count class (length t.terminals)) (no_place (not (is_terminal_count class (length t.terminals))) (name_or_paren t.name t.paren) counts) in
        steps_ends (form_elements own (form_at given.meanings given.items index) strengths index terminals)
        (subst (λ f. AllByRecursion HasEnds (form_elements own f strengths index terminals)) (sym form)
        (form_ends own (element_form kind) strengths index terminals (λ joins.
        let ends = two_ends kind (length t.terminals) joins right in
        two_terminals class first t.terminals ends.0 ends.1 literals some (at joins))))

    single_ends : (index : ℕ) (form : ElementForm) (name : Option (List ℕ)) (terminals : List (List BitRun)) → form_at given.meanings given.items index ≡ form → is_bidirectional form ≡ false
        → PartHasEnds (Gate (record { item = index; name = name; terminals = terminals }))
    single_ends index form name terminals is single number =
        let own = gate_name number name in
        let strengths = strengths_at given.items index in
        let those = terminal_bits given.scope given.nets (number + own_count (Gate (record { item = index; name = name; terminals = terminals }))) terminals in
        steps_ends (form_elements own (form_at given.meanings given.items index) strengths index those)
        (subst (λ f. AllByRecursion HasEnds (form_elements own f strengths index those)) (sym is)
        (form_ends own form strengths index those (λ joins. absurd (let clash : false ≡ true = sym single ∙ joins in cc))))

    assigned_ends : (p : PairPart) → PartHasEnds (Pair p)
    assigned_ends p number =
        let targets = runs_bits given.scope given.nets (number + 1) p.target in
        let values = drop p.value.cut (runs_bits given.scope given.nets (number + 1 + literal_count p.target) p.value.runs) in
        let strengths = strengths_at given.items p.item in
        steps_ends (copies number strengths p.item targets values) (copies_ends number strengths p.item targets values)

    assignment_ends : (index : ℕ) (target : List BitRun) (value : Expr) → PartHasEnds (assignment given.scope index target value)
    assignment_ends index target value = assigned_ends (record { item = index; target = target; value = value_runs given.scope (runs_width given.scope target) value })

    -- ---- items

    gates_ends : (index : ℕ) (kind : GateKind) → form_at given.meanings given.items index ≡ element_form kind → (gates : List Terms) → AllByRecursion (λ t. terms_counts (gate_class kind) t ≡ []) gates
        → AllByRecursion (λ t. terms_literals (gate_class kind) t ≡ []) gates → AllByRecursion (λ t. HasTerminalRuns (gate_part index t)) gates
        → (is_bidirectional (element_form kind) ≡ true → AllByRecursion (λ t. AllByRecursion AtTerminal (flat_map (expr_terminals given.scope given.nets) t.terminals)) gates)
        → AllByRecursion PartHasEnds (map (gate_part index) gates)
    gates_ends index kind form [] counts literals some at = tt
    gates_ends index kind form (t ∷ gates) counts literals some at = (
      terms_ends index kind t form counts.0 literals.0 some.0 (λ joins. (at joins).0),
      gates_ends index kind form gates counts.1 literals.1 some.1 (λ joins. (at joins).1),
    )

    instances_ends : (index : ℕ) (tables : List (List Port)) (x : Master) (i : TreeInstance) → form_at given.meanings given.items index ≡ master_form given.meanings x
        → AllByRecursion PartHasEnds (instance_parts index tables x i)
    instances_ends index tables (master.Module k) i form =
        let ports = ports_of tables [] (master.Module k) in
        each_map PartHasEnds (module_instance index k ports) i.instances (each_always (λ x. PartHasEnds (module_instance index k ports x)) i.instances (λ x number. (tt, tt)))
    instances_ends index tables (master.Udp u) i form =
        let ports = ports_of tables [] (master.Udp u) in
        each_map PartHasEnds (primitive_instance index ports) i.instances
        (each_always (λ x. PartHasEnds (primitive_instance index ports x)) i.instances (λ x.
        single_ends index (master_form given.meanings (master.Udp u)) (name_text x.name) (map (λ l. terminal_runs l.value) (links ports x.connections)) form refl))
    instances_ends index tables master.Unknown i form = tt

    declared_ends : (index : ℕ) (d : DeclaredNames) → AllByRecursion PartHasEnds (declared_parts given.scope index d)
    declared_ends index (declares.Names names) = (λ number. tt, tt)
    declared_ends index (declares.Valued names) =
        each_flat_map PartHasEnds (valued_parts given.scope index) names
        (each_always (λ v. AllByRecursion PartHasEnds (valued_parts given.scope index v)) names (λ v. (λ number. tt, (assignment_ends index (NetRun v.name.text None ∷ []) v.value, tt))))

    item_ends : (tables : List (List Port)) (index : ℕ) (x : Item) → form_at given.meanings given.items index ≡ item_form given.meanings x → item_counts x ≡ [] → item_literals x ≡ []
        → (k : ℕ) × AllByRecursion HasTerminalRuns (parts_of_item given.scope tables given.meanings.of (k, x)) → AllByRecursion AtTerminal (item_terminals given.scope given.nets x)
        → AllByRecursion PartHasEnds (parts_of_item given.scope tables given.meanings.of (index, x))
    item_ends tables index (item.Ports d) form counts literals some at = (λ number. tt, tt)
    item_ends tables index (item.Nets d) form counts literals some at = declared_ends index d.declared_names
    item_ends tables index (item.Trireg d) form counts literals some at = (λ number. tt, tt)
    item_ends tables index (item.Assign a) form counts literals some at =
        each_map PartHasEnds (pair_part given.scope index) a.pairs (each_always (λ p. PartHasEnds (pair_part given.scope index p)) a.pairs (λ p. assignment_ends index (target_runs p.target) p.value))
    item_ends tables index (item.Gates g) form counts literals some at =
        let own = λ (t : Terms). flat_map (expr_terminals given.scope given.nets) t.terminals in
        gates_ends index g.kind form g.gates (none_flat_map (terms_counts (gate_class g.kind)) g.gates counts) (none_flat_map (terms_literals (gate_class g.kind)) g.gates literals)
        (each_of_map HasTerminalRuns (gate_part some.0) g.gates some.1)
        (λ joins. each_of_flat_map AtTerminal own g.gates (subst (λ b. AllByRecursion AtTerminal (if b then flat_map own g.gates else [])) joins at))
    item_ends tables index (item.Instances i) form counts literals some at = instances_ends index tables (given.meanings.of i.name.text) i form
    item_ends tables index (item.Cell c) form counts literals some at = tt
    item_ends tables index (item.Specify s) form counts literals some at = tt

    parts_steps : (number : ℕ) (parts : List ModulePart) → AllByRecursion PartHasEnds parts → AllByRecursion (HasTerminals bits) (flat_map (part_steps given) (numbered_from number parts))
    parts_steps number [] h = tt
    parts_steps number (part ∷ parts) h =
        let first = constants given.nets (number + own_count part) (runs_in part) in
        each_append (HasTerminals bits) (part_steps given (number, part)) (flat_map (part_steps given) (numbered_from (number + unnamed_count part) parts))
        (each_append (HasTerminals bits) (element_steps first) (own_steps given number part) (steps_ends first (constants_ends given.nets (number + own_count part) (runs_in part))) (h.0 number))
        (parts_steps (number + unnamed_count part) parts h.1)

-- where gates have right numbers of terminals, each with a run, and no end is a literal
pub ends-terminals : (scope : Scope) (tables : List (List Port)) (meanings : Meanings) (m : Module) → gate_counts m ≡ [] → gate_literals m ≡ []
    → AllByRecursion HasTerminalRuns (module_parts scope tables meanings.of m)
    → All (HasTerminals (map (λ terminal. terminal.bit) (module_plan scope meanings m (module_parts scope tables meanings.of m)).terminals)) (module_plan scope meanings m (module_parts scope tables meanings.of m)).steps
ends-terminals scope tables meanings m counts literals some =
    All_from_each (HasTerminals bits) plan.steps (parts_steps bits given 0 parts (
      λ number. tt,
      each_enumerated (PartHasEnds bits given) (parts_of_item scope tables meanings.of) m.items (λ index x at.
          item_ends bits given tables index x (ap (λ (o : Option Item). option_map_or (item_form meanings) o (Single Copy)) at)
          (each_at (λ y. item_counts y ≡ []) m.items index x (none_flat_map item_counts m.items counts) at)
          (each_at (λ y. item_literals y ≡ []) m.items index x (none_flat_map item_literals m.items literals) at)
          (each_at (λ y. (k : ℕ) × AllByRecursion HasTerminalRuns (parts_of_item scope tables meanings.of (k, y))) m.items index x
          (each_of_enumerated HasTerminalRuns (parts_of_item scope tables meanings.of) 0 m.items some.1) at)
          (each_at (λ y. AllByRecursion (AtTerminal bits) (item_terminals scope given.nets y)) m.items index x
          (each_of_flat_map (AtTerminal bits) (item_terminals scope given.nets) m.items (each_of_map (Contains bits) (λ (t : SwitchTerminal). t.bit) plan.terminals (each_itself bits))) at)),
    ))
  where
    parts : List ModulePart
    parts = module_parts scope tables meanings.of m

    given : Given
    given = record { scope = scope; nets = module_nets scope parts; items = m.items; meanings = meanings }

    plan : ModulePlan
    plan = module_plan scope meanings m parts

    bits : List ℕ
    bits = map (λ (t : SwitchTerminal). t.bit) plan.terminals
