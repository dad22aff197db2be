-- The two sides of each assignment have as many bits.
use Rattle.std.proofs.Common.{◌≡◌, ℕ, zero, suc, ◌+◌, ◌-◌, List, [], ◌∷◌, None, arith}
use Rattle.std.specs.List.{AllByRecursion, enumerate_from, flat_map}
use Rattle.std.proofs.lemmas.List.{length-replicate}
use Rattle.std.proofs.lemmas.List.Sums.{sum_by-append}
use Rattle.v_lexer.specs.declared.literals.Bit.TheVariants.{Zero}
use Rattle.v_tree.specs.declared.expressions.Expr.{Expr, out-Expr}
use Rattle.v_tree.specs.declared.expressions.Expr.TheOpen.{Expr-F}
use Rattle.v_tree.specs.declared.declarations.ValuedName.{ValuedName}
use Rattle.v_tree.specs.declared.declarations.DeclaredNames.{DeclaredNames}
use Rattle.v_tree.specs.declared.declarations.DeclaredNames.TheVariants as declares
use Rattle.v_tree.specs.declared.declarations.Pair.{Pair as TreePair}
use Rattle.v_tree.specs.declared.gates.Terms.{Terms}
use Rattle.v_tree.specs.declared.gates.Inst.{Inst}
use Rattle.v_tree.specs.declared.gates.Instance.{Instance as TreeInstance}
use Rattle.v_tree.specs.declared.modules.Item.{Item}
use Rattle.v_tree.specs.declared.modules.Item.TheVariants as item
use Rattle.v_tree.specs.declared.modules.Module.{Module}
use Rattle.v_tree.specs.Fit.{IsFitDeclaredNames, IsFitItem, IsFitModule, IsFitPair, IsFitValuedName}
use Rattle.module_scope.specs.declared.scopes.Scope.{Scope}
use Rattle.module_graph.specs.declared.references.Master.{Master}
use Rattle.module_graph.specs.declared.references.Master.TheVariants as master
use Rattle.module_ports.specs.Ports.{Port}
use Rattle.instance_rules.specs.Links.{ports_of}
use Rattle.expression_bits.specs.declared.runs.BitRun.{BitRun}
use Rattle.expression_bits.specs.declared.runs.BitRun.TheVariants.{Net as NetRun}
use Rattle.expression_bits.specs.Runs.{fit_runs, part_runs, pick_run, run_width, runs_width, value_runs, value_runs_in, zeros_run}
use Rattle.module_parts.specs.Parts.{assignment, declared_parts, gate_part, instance_parts, module_instance, module_parts, pair_part, parts_of_item, primitive_instance, target_runs, valued_parts}
use Rattle.flattening_laws.proofs.Apart.{each_always, each_flat_map, each_map, each_weaker}
use Rattle.fit_laws.specs.EvenParts.{IsEven}
use Rattle.fit_laws.proofs.RunLaws.{AreFitRuns, length_number, length_value, runs_some, target_fit}
use Rattle.fit_laws.proofs.PartLaws.{each_numbered, whole_fit}

-- ---- right sides

module _ (scope : Scope) where
  zeros_width : (n : ℕ) → runs_width scope (zeros_run n) ≡ n
  zeros_width zero = omega arith
  zeros_width (suc n) = let same = length-replicate (suc n) Zero in omega arith

  fit_width : (width : ℕ) (runs : List BitRun) → runs_width scope (fit_runs width (runs_width scope runs) runs).runs ≡ width + (runs_width scope runs - width)
  fit_width width runs =
      let own = runs_width scope runs in
      let whole = sum_by-append (run_width scope) (zeros_run (width - own)) runs in
      let zeros = zeros_width (width - own) in omega arith

  -- the right side of an assignment to so many bits has as many, but for those that are cut
  pub value-even : (width : ℕ) (e : Expr) → runs_width scope (value_runs scope width e).runs ≡ width + (value_runs scope width e).cut
  value-even width e = by_layer (out-Expr e)
    where
      by_layer : (o : Expr-F Expr) → runs_width scope (value_runs_in scope width o).runs ≡ width + (value_runs_in scope width o).cut
      by_layer (Expr-F.Pick p) = fit_width width (pick_run p ∷ [])
      by_layer (Expr-F.Number location n) = let same = length_number width n in omega arith
      by_layer (Expr-F.Based location literal) = let same = length_value width literal.size literal in omega arith
      by_layer (Expr-F.Concat location parts) = fit_width width (flat_map part_runs parts)

  -- ---- parts

  assignment_even : (index : ℕ) (target : List BitRun) (value : Expr) → AreFitRuns target → IsEven scope (assignment scope index target value)
  assignment_even index target value f = (runs_some scope target f, value-even (runs_width scope target) value)

  pair_even : (index : ℕ) (p : TreePair) → IsFitPair p → IsEven scope (pair_part scope index p)
  pair_even index p f = assignment_even index (target_runs p.target) p.value (target_fit p.target f.0)

  valued_even : (index : ℕ) (v : ValuedName) → IsFitValuedName v → AllByRecursion (IsEven scope) (valued_parts scope index v)
  valued_even index v f = (tt, (assignment_even index (NetRun v.name.text None ∷ []) v.value (whole_fit v.name f.0), tt))

  declared_even : (index : ℕ) (names : DeclaredNames) → IsFitDeclaredNames names → AllByRecursion (IsEven scope) (declared_parts scope index names)
  declared_even index (declares.Names names) f = (tt, tt)
  declared_even index (declares.Valued names) f =
      each_flat_map (IsEven scope) (valued_parts scope index) names
      (each_weaker IsFitValuedName (λ v. AllByRecursion (IsEven scope) (valued_parts scope index v)) names (valued_even index) f.fit.each)

  instances_even : (index : ℕ) (tables : List (List Port)) (m : Master) (i : TreeInstance) → AllByRecursion (IsEven scope) (instance_parts index tables m i)
  instances_even index tables (master.Module m) i =
      let ports = ports_of tables [] (master.Module m) in
      each_map (IsEven scope) (module_instance index m ports) i.instances
      (each_always (λ (x : Inst). IsEven scope (module_instance index m ports x)) i.instances (λ x. tt))
  instances_even index tables (master.Udp u) i =
      let ports = ports_of tables [] (master.Udp u) in
      each_map (IsEven scope) (primitive_instance index ports) i.instances
      (each_always (λ (x : Inst). IsEven scope (primitive_instance index ports x)) i.instances (λ x. tt))
  instances_even index tables master.Unknown i = tt

  module _ (tables : List (List Port)) (of : List ℕ → Master) where
    item_even : (p : ℕ × Item) → IsFitItem p.1 → AllByRecursion (IsEven scope) (parts_of_item scope tables of p)
    item_even (index, item.Ports d) f = (tt, tt)
    item_even (index, item.Nets d) f = declared_even index d.declared_names f.declared_names
    item_even (index, item.Trireg d) f = (tt, tt)
    item_even (index, item.Assign a) f =
        each_map (IsEven scope) (pair_part scope index) a.pairs
        (each_weaker IsFitPair (λ p. IsEven scope (pair_part scope index p)) a.pairs (pair_even index) f.pairs.fit.each)
    item_even (index, item.Gates g) f =
        each_map (IsEven scope) (gate_part index) g.gates (each_always (λ (t : Terms). IsEven scope (gate_part index t)) g.gates (λ t. tt))
    item_even (index, item.Instances i) f = instances_even index tables (of i.name.text) i
    item_even (index, item.Cell c) f = tt
    item_even (index, item.Specify s) f = tt

    pub pairs-even : (m : Module) → IsFitModule m → AllByRecursion (IsEven scope) (module_parts scope tables of m)
    pairs-even m f = (
      tt,
      each_flat_map (IsEven scope) (parts_of_item scope tables of) (enumerate_from 0 m.items)
          (each_weaker (λ (p : ℕ × Item). IsFitItem p.1) (λ p. AllByRecursion (IsEven scope) (parts_of_item scope tables of p)) (enumerate_from 0 m.items) item_even
          (each_numbered IsFitItem 0 m.items f.items.each)),
    )
