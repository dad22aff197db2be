-- What holds of each use in a module holds of the runs of its parts.
use Rattle.std.proofs.Common.{ℕ, zero, suc, ◌+◌, ◌-◌, List, [], ◌∷◌, map, Option, Some, None, sym, subst}
use Rattle.std.specs.List.{AllByRecursion, enumerate_from, flat_map}
use Rattle.v_lexer.specs.declared.literals.Bit.{Bit}
use Rattle.v_tree.specs.declared.expressions.Pick.{Pick}
use Rattle.v_tree.specs.declared.expressions.Expr.{Expr, fold-roll-Expr, fold_out-Expr, ind-Expr, map-Expr, out-Expr}
use Rattle.v_tree.specs.declared.expressions.Expr.TheOpen.{Expr-F}
use Rattle.v_tree.specs.declared.expressions.Target.{Target, fold-roll-Target, ind-Target, map-Target}
use Rattle.v_tree.specs.declared.expressions.Target.TheOpen.{Target-F}
use Rattle.v_tree.specs.declared.declarations.Pair.{Pair as TreePair}
use Rattle.v_tree.specs.declared.declarations.ValuedName.{ValuedName}
use Rattle.v_tree.specs.declared.declarations.DeclaredNames.{DeclaredNames}
use Rattle.v_tree.specs.declared.declarations.DeclaredNames.TheVariants as declares
use Rattle.v_tree.specs.declared.gates.Terms.{Terms}
use Rattle.v_tree.specs.declared.gates.Connection.{Connection}
use Rattle.v_tree.specs.declared.gates.Connections.{Connections}
use Rattle.v_tree.specs.declared.gates.Connections.TheVariants.{ByOrder, ByName}
use Rattle.v_tree.specs.declared.gates.Inst.{Inst}
use Rattle.v_tree.specs.declared.gates.Instance.{Instance as TreeInstance}
use Rattle.v_tree.specs.declared.modules.Item.{Item}
use Rattle.v_tree.specs.declared.modules.Item.TheVariants as item
use Rattle.v_tree.specs.declared.modules.Module.{Module}
use Rattle.module_scope.specs.declared.roles.Side.{Side}
use Rattle.module_scope.specs.declared.roles.Side.TheVariants as side
use Rattle.module_scope.specs.declared.roles.NetRole.{NetRole}
use Rattle.module_scope.specs.declared.roles.Role.TheVariants as role
use Rattle.module_scope.specs.declared.scopes.Scope.{Scope}
use Rattle.module_scope.specs.Mentions.{Mention, connection_mentions, connections_mentions, declared_mentions, expr_layer, expr_mentions, exprs_mentions, header_mentions, inst_mentions, item_mentions, items_mentions, mentions_in, name_mentions, net_role, optional_mentions, pair_mentions, pick_mention, target_layer as target_mention_layer, target_mentions, terms_mentions, valued_mentions}
use Rattle.module_graph.specs.declared.references.Master.{Master}
use Rattle.module_graph.specs.declared.references.Master.TheVariants as master
use Rattle.module_ports.specs.Ports.{Port}
use Rattle.instance_rules.specs.Links.{Link, MasterPorts, links, named_link, named_port, optional_link, ordered_link, ports_of}
use Rattle.expression_bits.specs.declared.runs.BitRun.{BitRun}
use Rattle.expression_bits.specs.declared.runs.BitRun.TheVariants.{Net, Literal}
use Rattle.expression_bits.specs.Runs.{fit_runs, part_layer, part_runs, pick_run, place_runs, place_runs_in, runs_width, value_runs, value_runs_in, zeros_run}
use Rattle.module_parts.specs.declared.parts.ModulePart.{ModulePart}
use Rattle.module_parts.specs.declared.parts.PortRuns.{PortRuns}
use Rattle.module_parts.specs.Parts.{declared_parts, gate_part, instance_parts, module_instance, module_parts, pair_part, parts_of_item, port_runs, primitive_instance, target_layer, target_runs, terminal_runs, valued_parts}
use Rattle.netlist_plan.specs.Unnamed.{runs_in}
use Rattle.flattening_laws.proofs.Apart.{each_append}
use Rattle.name_laws.proofs.Fronts.{each_back, each_front}

-- a fact of mentions and one of runs: a use gives the run of what it picks, and each literal and each whole net has the fact
module _ (P : Mention → Type 0) (Q : BitRun → Type 0) (picked : (at : Side) (pick : Pick) → P (pick_mention at pick) → Q (pick_run pick))
    (literal : (bits : List Bit) → Q (Literal bits)) (whole : (name : List ℕ) → Q (Net name None)) where
  abbrev Mentions : List Mention → Type 0
  Mentions mentions = AllByRecursion P mentions

  abbrev Runs : List BitRun → Type 0
  Runs runs = AllByRecursion Q runs

  abbrev Part : ModulePart → Type 0
  Part part = Runs (runs_in part)

  abbrev Parts : List ModulePart → Type 0
  Parts parts = AllByRecursion Part parts

  -- ---- expressions

  module _ (at : Side) where
    abbrev HasRuns : Expr → Type 0
    HasRuns e = Mentions (expr_mentions at e) → Runs (part_runs e)

    concat_runs : (parts : List ((e : Expr) × HasRuns e)) → Mentions (flat_map (λ part. part) (map (expr_mentions at) (map (λ e. e.0) parts)))
        → Runs (flat_map (λ part. part) (map part_runs (map (λ e. e.0) parts)))
    concat_runs [] h = tt
    concat_runs (e ∷ parts) h =
        let rest = flat_map (λ part. part) (map (expr_mentions at) (map (λ e. e.0) parts)) in
        each_append Q (part_runs e.0) (flat_map (λ part. part) (map part_runs (map (λ e. e.0) parts)))
        (e.1 (each_front P (expr_mentions at e.0) rest h)) (concat_runs parts (each_back P (expr_mentions at e.0) rest h))

    abbrev HasLayerRuns : Expr-F Expr → Type 0
    HasLayerRuns x = Mentions (expr_layer at (map-Expr Expr (List Mention) (expr_mentions at) x)) → Runs (part_layer (map-Expr Expr (List BitRun) part_runs x))

    layer_runs : (y : Expr-F ((e : Expr) × HasRuns e)) → HasLayerRuns (map-Expr ((e : Expr) × HasRuns e) Expr (λ e. e.0) y)
    layer_runs (Expr-F.Pick pick) h = (picked at pick h.0, tt)
    layer_runs (Expr-F.Number location n) h = (literal _, tt)
    layer_runs (Expr-F.Based location l) h = (literal _, tt)
    layer_runs (Expr-F.Concat location parts) h = concat_runs parts h

    part_each : (e : Expr) → HasRuns e
    part_each = ind-Expr HasRuns (λ x y is h.
        subst Runs (sym (fold-roll-Expr (List BitRun) part_layer x))
        (subst HasLayerRuns is (layer_runs y) (subst Mentions (fold-roll-Expr (List Mention) (expr_layer at) x) h)))

    parts_each : (parts : List Expr) → Mentions (flat_map (λ part. part) (map (expr_mentions at) parts)) → Runs (flat_map part_runs parts)
    parts_each [] h = tt
    parts_each (e ∷ parts) h =
        let rest = flat_map (λ part. part) (map (expr_mentions at) parts) in
        each_append Q (part_runs e) (flat_map part_runs parts) (part_each e (each_front P (expr_mentions at e) rest h)) (parts_each parts (each_back P (expr_mentions at e) rest h))

    place_each : (width : ℕ) (e : Expr) → Mentions (expr_mentions at e) → Runs (place_runs width e)
    place_each width e h = by (out-Expr e) (subst Mentions (fold_out-Expr (List Mention) (expr_layer at) e) h)
      where
        by : (o : Expr-F Expr) → Mentions (expr_layer at (map-Expr Expr (List Mention) (expr_mentions at) o)) → Runs (place_runs_in width o)
        by (Expr-F.Pick pick) h = (picked at pick h.0, tt)
        by (Expr-F.Number location n) h = (literal _, tt)
        by (Expr-F.Based location l) h = (literal _, tt)
        by (Expr-F.Concat location parts) h = parts_each parts h

    zeros_each : (n : ℕ) → Runs (zeros_run n)
    zeros_each zero = tt
    zeros_each (suc n) = (literal _, tt)

    value_each : (scope : Scope) (width : ℕ) (e : Expr) → Mentions (expr_mentions at e) → Runs (value_runs scope width e).runs
    value_each scope width e h = by (out-Expr e) (subst Mentions (fold_out-Expr (List Mention) (expr_layer at) e) h)
      where
        fitted : (runs : List BitRun) → Runs runs → Runs (fit_runs width (runs_width scope runs) runs).runs
        fitted runs each = each_append Q (zeros_run (width - runs_width scope runs)) runs (zeros_each (width - runs_width scope runs)) each

        by : (o : Expr-F Expr) → Mentions (expr_layer at (map-Expr Expr (List Mention) (expr_mentions at) o)) → Runs (value_runs_in scope width o).runs
        by (Expr-F.Pick pick) h = fitted (pick_run pick ∷ []) (picked at pick h.0, tt)
        by (Expr-F.Number location n) h = (literal _, tt)
        by (Expr-F.Based location l) h = (literal _, tt)
        by (Expr-F.Concat location parts) h = fitted (flat_map part_runs parts) (parts_each parts h)

  -- ---- targets

  abbrev HasTargetRuns : Target → Type 0
  HasTargetRuns t = Mentions (target_mentions t) → Runs (target_runs t)

  target_concat_runs : (parts : List ((t : Target) × HasTargetRuns t)) → Mentions (flat_map (λ part. part) (map target_mentions (map (λ t. t.0) parts)))
      → Runs (flat_map (λ part. part) (map target_runs (map (λ t. t.0) parts)))
  target_concat_runs [] h = tt
  target_concat_runs (t ∷ parts) h =
      let rest = flat_map (λ part. part) (map target_mentions (map (λ t. t.0) parts)) in
      each_append Q (target_runs t.0) (flat_map (λ part. part) (map target_runs (map (λ t. t.0) parts)))
      (t.1 (each_front P (target_mentions t.0) rest h)) (target_concat_runs parts (each_back P (target_mentions t.0) rest h))

  abbrev HasTargetLayerRuns : Target-F Target → Type 0
  HasTargetLayerRuns x = Mentions (target_mention_layer (map-Target Target (List Mention) target_mentions x)) → Runs (target_layer (map-Target Target (List BitRun) target_runs x))

  target_layer_runs : (y : Target-F ((t : Target) × HasTargetRuns t)) → HasTargetLayerRuns (map-Target ((t : Target) × HasTargetRuns t) Target (λ t. t.0) y)
  target_layer_runs (Target-F.Pick pick) h = (picked side.Target pick h.0, tt)
  target_layer_runs (Target-F.Concat location parts) h = target_concat_runs parts h

  target_each : (t : Target) → HasTargetRuns t
  target_each = ind-Target HasTargetRuns (λ x y is h.
      subst Runs (sym (fold-roll-Target (List BitRun) target_layer x))
      (subst HasTargetLayerRuns is (target_layer_runs y) (subst Mentions (fold-roll-Target (List Mention) target_mention_layer x) h)))

  -- ---- gates

  terminals_each : (terminals : List Expr) → Mentions (exprs_mentions side.Terminal terminals) → Runs (flat_map (λ runs. runs) (map terminal_runs terminals))
  terminals_each [] h = tt
  terminals_each (e ∷ terminals) h =
      let first = expr_mentions side.Terminal e in
      let rest = exprs_mentions side.Terminal terminals in
      each_append Q (terminal_runs e) (flat_map (λ runs. runs) (map terminal_runs terminals)) (place_each side.Terminal 1 e (each_front P first rest h)) (terminals_each terminals (each_back P first rest h))

  -- a list of mentions for each, and a part for each
  module _ {X : Type 0} (mentions : X → List Mention) (part : X → ModulePart) (gives : (x : X) → Mentions (mentions x) → Part (part x)) where
    map_each : (xs : List X) → Mentions (flat_map mentions xs) → Parts (map part xs)
    map_each [] h = tt
    map_each (x ∷ xs) h = (gives x (each_front P (mentions x) (flat_map mentions xs) h), map_each xs (each_back P (mentions x) (flat_map mentions xs) h))

  -- ---- connections

  abbrev HasLink : Link → Type 0
  HasLink l = Mentions (expr_mentions side.Connection l.value)

  ordered_each : (index : ℕ) (values : List (Option Expr)) → Mentions (flat_map (optional_mentions side.Connection) values) → AllByRecursion HasLink (flat_map ordered_link (enumerate_from index values))
  ordered_each index [] h = tt
  ordered_each index (None ∷ values) h = ordered_each (index + 1) values h
  ordered_each index (Some value ∷ values) h =
      let first = expr_mentions side.Connection value in
      let rest = flat_map (optional_mentions side.Connection) values in
      (each_front P first rest h, ordered_each (index + 1) values (each_back P first rest h))

  named_each : (ports : MasterPorts) (index : ℕ) (connections : List Connection) → Mentions (flat_map connection_mentions connections)
      → AllByRecursion HasLink (flat_map (named_link ports) (enumerate_from index connections))
  named_each ports index [] h = tt
  named_each ports index (c ∷ connections) h =
      each_append HasLink (named_link ports (index, c)) (flat_map (named_link ports) (enumerate_from (index + 1) connections))
      (by c.value (each_front P (connection_mentions c) rest h)) (named_each ports (index + 1) connections (each_back P (connection_mentions c) rest h))
    where
      rest : List Mention
      rest = flat_map connection_mentions connections

      by : (value : Option Expr) → Mentions (optional_mentions side.Connection value) → AllByRecursion HasLink (optional_link (named_port ports index c.port.text) c.location value)
      by None h = tt
      by (Some value) h = (h, tt)

  links_each : (ports : MasterPorts) (connections : Connections) → Mentions (connections_mentions connections) → AllByRecursion HasLink (links ports connections)
  links_each ports (ByOrder values) h = ordered_each 0 values h
  links_each ports (ByName connections) h = named_each ports 0 connections h

  port_each : (ports : MasterPorts) (ls : List Link) → AllByRecursion HasLink ls → Runs (flat_map (λ (c : PortRuns). c.runs) (map (port_runs ports) ls))
  port_each ports [] h = tt
  port_each ports (l ∷ ls) h =
      each_append Q (port_runs ports l).runs (flat_map (λ (c : PortRuns). c.runs) (map (port_runs ports) ls)) (place_each side.Connection _ l.value h.0) (port_each ports ls h.1)

  primitive_each : (ls : List Link) → AllByRecursion HasLink ls → Runs (flat_map (λ runs. runs) (map (λ (l : Link). terminal_runs l.value) ls))
  primitive_each [] h = tt
  primitive_each (l ∷ ls) h =
      each_append Q (terminal_runs l.value) (flat_map (λ runs. runs) (map (λ (l : Link). terminal_runs l.value) ls)) (place_each side.Connection 1 l.value h.0) (primitive_each ls h.1)

  inst_links : (ports : MasterPorts) (i : Inst) → Mentions (inst_mentions i) → AllByRecursion HasLink (links ports i.connections)
  inst_links ports i h = links_each ports i.connections (each_back P (name_mentions role.Instance i.name) (connections_mentions i.connections) h)

  -- ---- items

  module _ (scope : Scope) (tables : List (List Port)) (of : List ℕ → Master) where
    pair_each : (index : ℕ) (p : TreePair) → Mentions (pair_mentions p) → Part (pair_part scope index p)
    pair_each index p h =
        let target = target_mentions p.target in
        let value = expr_mentions side.Value p.value in
        each_append Q (target_runs p.target) (value_runs scope (runs_width scope (target_runs p.target)) p.value).runs
        (target_each p.target (each_front P target value h)) (value_each side.Value scope _ p.value (each_back P target value h))

    valued_each : (index : ℕ) (net : NetRole) (names : List ValuedName) → Mentions (flat_map (valued_mentions net) names) → Parts (flat_map (valued_parts scope index) names)
    valued_each index net [] h = tt
    valued_each index net (v ∷ names) h =
        let first = valued_mentions net v in
        let rest = flat_map (valued_mentions net) names in
        let own = each_front P first rest h in
        (tt, ((whole v.name.text, value_each side.Value scope _ v.value own.1), valued_each index net names (each_back P first rest h)))

    declared_each : (index : ℕ) (net : NetRole) (names : DeclaredNames) → Mentions (declared_mentions net names) → Parts (declared_parts scope index names)
    declared_each index net (declares.Names names) h = (tt, tt)
    declared_each index net (declares.Valued names) h = valued_each index net names h

    instance_each : (index : ℕ) (m : Master) (i : TreeInstance) → Mentions (flat_map inst_mentions i.instances) → Parts (instance_parts index tables m i)
    instance_each index (master.Module k) i h =
        let ports = ports_of tables [] (master.Module k) in
        map_each inst_mentions (module_instance index k ports) (λ (x : Inst) g. port_each ports (links ports x.connections) (inst_links ports x g)) i.instances h
    instance_each index (master.Udp u) i h =
        let ports = ports_of tables [] (master.Udp u) in
        map_each inst_mentions (primitive_instance index ports) (λ (x : Inst) g. primitive_each (links ports x.connections) (inst_links ports x g)) i.instances h
    instance_each index master.Unknown i h = tt

    item_each : (index : ℕ) (i : Item) → Mentions (item_mentions index i) → Parts (parts_of_item scope tables of (index, i))
    item_each index (item.Ports d) h = (tt, tt)
    item_each index (item.Nets d) h = declared_each index (net_role index d) d.declared_names h
    item_each index (item.Trireg d) h = (tt, tt)
    item_each index (item.Assign a) h = map_each pair_mentions (pair_part scope index) (pair_each index) a.pairs h
    item_each index (item.Gates g) h =
        map_each terms_mentions (gate_part index)
        (λ (t : Terms) k. terminals_each t.terminals (each_back P (name_mentions role.Instance t.name) (exprs_mentions side.Terminal t.terminals) k)) g.gates h
    item_each index (item.Instances i) h = instance_each index (of i.name.text) i h
    item_each index (item.Cell c) h = tt
    item_each index (item.Specify s) h = tt

    items_each : (index : ℕ) (items : List Item) → Mentions (items_mentions index items) → Parts (flat_map (parts_of_item scope tables of) (enumerate_from index items))
    items_each index [] h = tt
    items_each index (i ∷ items) h =
        let first = item_mentions index i in
        let rest = items_mentions (index + 1) items in
        each_append Part (parts_of_item scope tables of (index, i)) (flat_map (parts_of_item scope tables of) (enumerate_from (index + 1) items))
        (item_each index i (each_front P first rest h)) (items_each (index + 1) items (each_back P first rest h))

    -- the law: where each mention of a module has the fact, so has each run of its parts, under any scope
    pub module-runs : (m : Module) → AllByRecursion P (mentions_in m) → AllByRecursion (λ part. AllByRecursion Q (runs_in part)) (module_parts scope tables of m)
    module-runs m h = (tt, items_each 0 m.items (each_back P (header_mentions m.ports) (items_mentions 0 m.items) h))
