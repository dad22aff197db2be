-- The parts of a module that breaks no rule on numbers of terminals and on connections.
use Rattle.std.proofs.Common.{◌≡◌, ℕ, ◌+◌, true, false, not, List, [], length, map, Option, Some, None, is_none, refl, sym, ap, subst, ◌∙◌}
use Rattle.std.specs.Prelude.{MatchOption, slice_get, slice_index_or}
use Rattle.std.specs.Option.{IsSome, IsSomeAnd, option_map_or}
use Rattle.std.specs.List.{AllByRecursion}
use Rattle.std.proofs.lemmas.List.{length-map}
use Rattle.v_tree.specs.declared.locations.Name.{Name}
use Rattle.v_tree.specs.declared.declarations.DeclaredNames.{DeclaredNames}
use Rattle.v_tree.specs.declared.declarations.DeclaredNames.TheVariants as declares
use Rattle.v_tree.specs.declared.gates.GateKind.{GateKind}
use Rattle.v_tree.specs.declared.gates.Inst.{Inst}
use Rattle.v_tree.specs.declared.gates.Instance.{Instance as TreeInstance}
use Rattle.v_tree.specs.declared.gates.Terms.{Terms}
use Rattle.v_tree.specs.declared.modules.Item.{Item}
use Rattle.v_tree.specs.declared.modules.Item.TheVariants as item
use Rattle.v_tree.specs.declared.modules.Module.{Module}
use Rattle.udp_table.specs.Primitive.{Primitive}
use Rattle.flat_net.specs.declared.kinds.ElementKind.TheVariants.{Copy, Udp}
use Rattle.module_scope.specs.declared.scopes.Scope.{Scope}
use Rattle.module_graph.specs.declared.references.Master.{Master}
use Rattle.module_graph.specs.declared.references.Master.TheVariants as master
use Rattle.module_ports.specs.Ports.{Port}
use Rattle.gate_rules.specs.Classes.{gate_class, is_terminal_count}
use Rattle.gate_rules.specs.Rules.{item_counts, name_or_paren, terms_counts}
use Rattle.gate_rules.specs.Places.{gate_counts}
use Rattle.instance_rules.specs.Links.{ModulePorts, PrimitivePorts, links, ports_of}
use Rattle.instance_rules.specs.Rules.{connects_all, inst_connections, inst_counts, inst_place}
use Rattle.instance_rules.specs.Items.{item_places}
use Rattle.instance_rules.specs.Items.InstanceRule.{Connections, Counts}
use Rattle.instance_rules.specs.Places.{Masters, breaking_places, instance_of, instances_in, places_under}
use Rattle.element_forms.specs.declared.forms.ElementForm.TheVariants.{Single}
use Rattle.element_forms.specs.Forms.{element_form}
use Rattle.module_parts.specs.declared.parts.ModulePart.{ModulePart}
use Rattle.module_parts.specs.Parts.{declared_parts, gate_part, instance_parts, module_instance, module_parts, name_text, pair_part, parts_of_item, port_runs, primitive_instance, terminal_runs, valued_parts}
use Rattle.netlist_plan.specs.declared.nets.ModuleNet.{ModuleNet}
use Rattle.netlist_plan.specs.Plan.{Given, Meanings, form_at, item_form, master_form}
use Rattle.plan_laws.specs.SoundGates.{HasTerminalCount}
use Rattle.plan_laws.specs.SoundParts.{connected_ports}
use Rattle.flattening_laws.proofs.Apart.{distinct_apart, each_always, each_at, each_both, each_flat_map, each_map, each_weaker}
use Rattle.terminal_laws.specs.CountedParts.{HasPrimitive, HavePrimitives, IsCounted}
use Rattle.terminal_laws.proofs.Walks.{each_enumerated, each_of_picked, no_place, none_flat_map, not_false}
use Rattle.terminal_laws.proofs.GateCounts.{gate_count, primitive_count}
use Rattle.terminal_laws.proofs.PortsOnce.{links_count, ports_once}

module _ (udps : List Primitive) (given : Given) (tables : List (List Port)) (counts : List ℕ) where
  abbrev masters : Masters
  masters = record { of = given.meanings.of; tables = tables; counts = counts }

  abbrev Counted : ModulePart → Type 0
  Counted = IsCounted udps given

  -- ---- gates

  terms_counted : (index : ℕ) (kind : GateKind) → form_at given.meanings given.items index ≡ element_form kind → (t : Terms) → terms_counts (gate_class kind) t ≡ [] → Counted (gate_part index t)
  terms_counted index kind form t e =
      let count = not_false (is_terminal_count (gate_class kind) (length t.terminals))
      (no_place (not (is_terminal_count (gate_class kind) (length t.terminals))) (name_or_paren t.name t.paren) e) in
      subst (λ f. HasTerminalCount udps f (length (map terminal_runs t.terminals))) (sym form)
      (subst (λ n. HasTerminalCount udps (element_form kind) n) (sym (length-map t.terminals terminal_runs)) (gate_count udps kind (length t.terminals) count))

  -- ---- instances

  named : (name : Option Name) → is_none name ≡ false → IsSome (name_text name)
  named None e = absurd (let no : true ≡ false = e in cc)
  named (Some n) e = refl

  module_counted : (index k : ℕ) (ports : List Port) (i : Inst) → inst_counts (ModulePorts ports) i ≡ [] → inst_connections (ModulePorts ports) i ≡ [] → Counted (module_instance index k (ModulePorts ports) i)
  module_counted index k ports i e f = (
    named i.name (no_place (is_none i.name) i.paren e),
    distinct_apart (connected_ports (map (port_runs (ModulePorts ports)) (links (ModulePorts ports) i.connections))) (ports_once ports i.paren i.connections f),
  )

  primitive_counted : (index u : ℕ) → form_at given.meanings given.items index ≡ Single (Udp (given.meanings.udp_numbers u))
      → IsSomeAnd (slice_get udps (given.meanings.udp_numbers u)) (λ p. p.inputs + 1 ≡ slice_index_or counts u 0)
      → (i : Inst) → inst_counts (PrimitivePorts (slice_index_or counts u 0)) i ≡ [] → Counted (primitive_instance index (PrimitivePorts (slice_index_or [] u 0)) i)
  primitive_counted index u form has i e =
      let count = slice_index_or counts u 0 in
      let ports = PrimitivePorts (slice_index_or [] u 0) in
      let ls = links ports i.connections in
      let all = not_false (connects_all count i.connections) (no_place (not (connects_all count i.connections)) (inst_place i) e) in
      let same = length-map ls (λ l. terminal_runs l.value) ∙ links_count ports count i.connections all in
      subst (λ f. HasTerminalCount udps f (length (map (λ l. terminal_runs l.value) ls))) (sym form)
      (primitive_count udps (given.meanings.udp_numbers u) count (length (map (λ l. terminal_runs l.value) ls)) has same)

  -- an item of instances that breaks neither rule, with its primitive
  abbrev IsRight : TreeInstance → Type 0
  IsRight i = (places_under Counts given.scope masters i ≡ []) × (places_under Connections given.scope masters i ≡ []) × HasPrimitive udps given.meanings counts i

  instances_counted : (index : ℕ) (i : TreeInstance) → form_at given.meanings given.items index ≡ item_form given.meanings (item.Instances i) → IsRight i
      → AllByRecursion Counted (instance_parts index tables (given.meanings.of i.name.text) i)
  instances_counted index i form right = by_master (given.meanings.of i.name.text) form right.0 right.1 right.2
    where
      by_master : (x : Master) → form_at given.meanings given.items index ≡ master_form given.meanings x → item_places Counts given.scope (ports_of tables counts x) i ≡ []
          → item_places Connections given.scope (ports_of tables counts x) i ≡ []
          → ((u : ℕ) → x ≡ master.Udp u → IsSomeAnd (slice_get udps (given.meanings.udp_numbers u)) (λ p. p.inputs + 1 ≡ slice_index_or counts u 0))
          → AllByRecursion Counted (instance_parts index tables x i)
      by_master (master.Module k) form e f has =
          let ports = slice_index_or tables k [] in
          each_map Counted (module_instance index k (ModulePorts ports)) i.instances
          (each_both (λ x. inst_counts (ModulePorts ports) x ≡ []) (λ x. inst_connections (ModulePorts ports) x ≡ []) (λ x. Counted (module_instance index k (ModulePorts ports) x)) i.instances
          (λ x c d. module_counted index k ports x c d) (none_flat_map (inst_counts (ModulePorts ports)) i.instances e) (none_flat_map (inst_connections (ModulePorts ports)) i.instances f))
      by_master (master.Udp u) form e f has =
          let ports = PrimitivePorts (slice_index_or counts u 0) in
          let bare = PrimitivePorts (slice_index_or [] u 0) in
          each_map Counted (primitive_instance index bare) i.instances
          (each_weaker (λ x. inst_counts ports x ≡ []) (λ x. Counted (primitive_instance index bare x)) i.instances (primitive_counted index u form (has u refl)) (none_flat_map (inst_counts ports) i.instances e))
      by_master master.Unknown form e f has = tt

  -- ---- items

  declared_counted : (index : ℕ) (d : DeclaredNames) → AllByRecursion Counted (declared_parts given.scope index d)
  declared_counted index (declares.Names names) = (tt, tt)
  declared_counted index (declares.Valued names) =
      each_flat_map Counted (valued_parts given.scope index) names (each_always (λ v. AllByRecursion Counted (valued_parts given.scope index v)) names (λ v. (tt, (tt, tt))))

  item_counted : (index : ℕ) (x : Item) → form_at given.meanings given.items index ≡ item_form given.meanings x → item_counts x ≡ [] → MatchOption (instance_of x) (Unit {0}) IsRight
      → AllByRecursion Counted (parts_of_item given.scope tables given.meanings.of (index, x))
  item_counted index (item.Ports d) form e right = (tt, tt)
  item_counted index (item.Nets d) form e right = declared_counted index d.declared_names
  item_counted index (item.Trireg d) form e right = (tt, tt)
  item_counted index (item.Assign a) form e right =
      each_map Counted (pair_part given.scope index) a.pairs (each_always (λ p. Counted (pair_part given.scope index p)) a.pairs (λ p. tt))
  item_counted index (item.Gates g) form e right =
      each_map Counted (gate_part index) g.gates
      (each_weaker (λ t. terms_counts (gate_class g.kind) t ≡ []) (λ t. Counted (gate_part index t)) g.gates (terms_counted index g.kind form) (none_flat_map (terms_counts (gate_class g.kind)) g.gates e))
  item_counted index (item.Instances i) form e right = instances_counted index i form right
  item_counted index (item.Cell c) form e right = tt
  item_counted index (item.Specify s) form e right = tt

-- the parts of a module without a place that breaks one of the rules have right numbers
pub parts-counted : (udps : List Primitive) (scope : Scope) (nets : List ModuleNet) (meanings : Meanings) (tables : List (List Port)) (counts : List ℕ) (m : Module) → gate_counts m ≡ []
    → breaking_places Counts scope (record { of = meanings.of; tables = tables; counts = counts }) m ≡ [] → breaking_places Connections scope (record { of = meanings.of; tables = tables; counts = counts }) m ≡ []
    → HavePrimitives udps meanings counts m.items
    → AllByRecursion (IsCounted udps (record { scope = scope; nets = nets; items = m.items; meanings = meanings })) (module_parts scope tables meanings.of m)
parts-counted udps scope nets meanings tables counts m gates numbers connections has = (
  tt,
  each_enumerated (IsCounted udps given) (parts_of_item scope tables meanings.of) m.items (λ index x at.
      item_counted udps given tables counts index x (ap (λ (o : Option Item). option_map_or (item_form meanings) o (Single Copy)) at)
      (each_at (λ y. item_counts y ≡ []) m.items index x (none_flat_map item_counts m.items gates) at)
      (each_at (λ y. MatchOption (instance_of y) (Unit {0}) (IsRight udps given tables counts)) m.items index x all at)),
)
  where
    given : Given
    given = record { scope = scope; nets = nets; items = m.items; meanings = meanings }

    those : Masters
    those = record { of = meanings.of; tables = tables; counts = counts }

    all : AllByRecursion (λ y. MatchOption (instance_of y) (Unit {0}) (IsRight udps given tables counts)) m.items
    all = each_of_picked (IsRight udps given tables counts) instance_of m.items
        (each_both (λ i. places_under Counts scope those i ≡ []) (λ i. (places_under Connections scope those i ≡ []) × HasPrimitive udps meanings counts i) (IsRight udps given tables counts) (instances_in m.items)
        (λ i c d. (c, d.0, d.1)) (none_flat_map (places_under Counts scope those) (instances_in m.items) numbers)
        (each_both (λ i. places_under Connections scope those i ≡ []) (HasPrimitive udps meanings counts) (λ i. (places_under Connections scope those i ≡ []) × HasPrimitive udps meanings counts i) (instances_in m.items)
        (λ i c d. (c, d)) (none_flat_map (places_under Connections scope those) (instances_in m.items) connections) has))
