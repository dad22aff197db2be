-- The steps of a plan have the elements that its parts are counted with.
use Rattle.std.proofs.Common.{◌≡◌, ℕ, ◌+◌, ◌-◌, min, List, [], ◌∷◌, ◌++◌, length, drop, Option, Some, None, refl, sym, ap, ◌∙◌, arith}
use Rattle.std.specs.Prelude.{slice_get}
use Rattle.std.specs.Option.{option_map_or}
use Rattle.std.specs.List.{enumerate_from, flat_map, zip}
use Rattle.std.proofs.lemmas.List.Sums.{sum_by-cons}
use Rattle.v_tree.specs.declared.modules.Item.{Item}
use Rattle.v_tree.specs.declared.modules.Item.TheVariants as item
use Rattle.flat_net.specs.declared.kinds.ElementKind.TheVariants.{Copy}
use Rattle.module_graph.specs.declared.references.Master.{Master}
use Rattle.module_graph.specs.declared.references.Master.TheVariants as master
use Rattle.expression_bits.specs.declared.runs.BitRun.{BitRun}
use Rattle.expression_bits.specs.declared.runs.BitRun.TheVariants.{Net as NetRun, Literal as LiteralRun}
use Rattle.expression_bits.specs.Runs.{runs_width}
use Rattle.element_forms.specs.declared.forms.ElementForm.{ElementForm}
use Rattle.element_forms.specs.declared.forms.ElementForm.TheVariants.{Single, Bidirectional, Complementary}
use Rattle.element_forms.specs.declared.strengths.Strengths.{Strengths}
use Rattle.module_parts.specs.declared.parts.PairPart.{PairPart}
use Rattle.module_parts.specs.declared.parts.ModulePart.{ModulePart}
use Rattle.module_parts.specs.declared.parts.ModulePart.TheVariants.{Names, Gate, Pair, Instance}
use Rattle.netlist_plan.specs.declared.nets.ModuleNet.{ModuleNet}
use Rattle.netlist_plan.specs.declared.plan.OwnName.{OwnName}
use Rattle.netlist_plan.specs.declared.plan.PlanElement.{PlanElement}
use Rattle.netlist_plan.specs.declared.plan.PlanStep.{PlanStep}
use Rattle.netlist_plan.specs.declared.plan.PlanStep.TheVariants.{Element as ElementStep, Instance as InstanceStep}
use Rattle.netlist_plan.specs.Unnamed.{literal_count, numbered_from, own_count, runs_in, unnamed_count}
use Rattle.netlist_plan.specs.Elements.{constants, copied_bit, form_elements, gate_name, literal_constants, runs_bits, terminal_bits}
use Rattle.netlist_plan.specs.Plan.{Given, Meanings, element_steps, form_at, gate_elements, item_form, master_form, own_steps, pair_elements, part_steps, strengths_at}
use Rattle.flattening_laws.specs.Counts.{element_list}
use Rattle.flattening_laws.proofs.Numbers.{length_append, length_map}
use Rattle.plan_counts.specs.PartCounts.{elements_in, form_count, gate_count, item_count, literal_width, literals_width, own_elements, pair_count, part_elements}
use Rattle.plan_counts.proofs.Lengths.{length_drop, length_enumerate, length_runs, length_zip}

-- ---- elements among steps

elements_append : (xs ys : List PlanStep) → element_list (xs ++ ys) ≡ element_list xs ++ element_list ys
elements_append [] ys = refl
elements_append (ElementStep e ∷ xs) ys = ap (λ es. e ∷ es) (elements_append xs ys)
elements_append (InstanceStep i ∷ xs) ys = elements_append xs ys

count_append : (xs ys : List PlanStep) → length (element_list (xs ++ ys)) ≡ length (element_list xs) + length (element_list ys)
count_append xs ys = ap length (elements_append xs ys) ∙ length_append (element_list xs) (element_list ys)

elements_are : (es : List PlanElement) → element_list (element_steps es) ≡ es
elements_are [] = refl
elements_are (e ∷ es) = ap (λ xs. e ∷ xs) (elements_are es)

-- ---- constants

constants_count : (nets : List ModuleNet) (number : ℕ) (runs : List BitRun) → length (constants nets number runs) ≡ literals_width runs
constants_count nets number [] = refl
constants_count nets number (NetRun name select ∷ runs) =
    let rest = constants_count nets number runs in
    let all = sum_by-cons literal_width (NetRun name select) runs in
    omega (arith, rest, all)
constants_count nets number (LiteralRun bits ∷ runs) =
    length_append (literal_constants nets number bits) (constants nets (number + 1) runs)
    ∙ ap (λ n. n + length (constants nets (number + 1) runs)) (length_map _ (enumerate_from 0 bits) ∙ length_enumerate 0 bits)
    ∙ ap (λ n. length bits + n) (constants_count nets (number + 1) runs)
    ∙ sym (sum_by-cons literal_width (LiteralRun bits) runs)

-- ---- gates

elements_of_form : (own : OwnName) (form : ElementForm) (strengths : Strengths) (item : ℕ) (terminals : List ℕ) → length (form_elements own form strengths item terminals) ≡ form_count form
elements_of_form own (Single kind) strengths item terminals = refl
elements_of_form own (Bidirectional kind resistive) strengths item terminals = refl
elements_of_form own (Complementary resistive) strengths item terminals = refl

module _ (meanings : Meanings) where
  master_count : (m : Master) → form_count (master_form meanings m) ≡ 1
  master_count (master.Module m) = refl
  master_count (master.Udp u) = refl
  master_count master.Unknown = refl

  count_of_item : (i : Item) → form_count (item_form meanings i) ≡ item_count i
  count_of_item (item.Gates g) = refl
  count_of_item (item.Instances i) = master_count (meanings.of i.name.text)
  count_of_item (item.Ports d) = refl
  count_of_item (item.Nets d) = refl
  count_of_item (item.Trireg d) = refl
  count_of_item (item.Assign a) = refl
  count_of_item (item.Cell c) = refl
  count_of_item (item.Specify s) = refl

  count_at : (items : List Item) (index : ℕ) → form_count (form_at meanings items index) ≡ gate_count items index
  count_at items index = by_item (slice_get items index)
    where
      by_item : (o : Option Item) → form_count (option_map_or (item_form meanings) o (Single Copy)) ≡ option_map_or item_count o 1
      by_item None = refl
      by_item (Some i) = count_of_item i

-- ---- parts

module _ (given : Given) where
  copies_count : (number : ℕ) (p : PairPart) → length (pair_elements given number p) ≡ pair_count given.scope p
  copies_count number p =
      let targets = runs_bits given.scope given.nets (number + 1) p.target in
      let values = runs_bits given.scope given.nets (number + 1 + literal_count p.target) p.value.runs in
      let pairs = zip targets (drop p.value.cut values) in
      length_map (copied_bit number (length targets) (strengths_at given.items p.item) p.item) (enumerate_from 0 pairs)
      ∙ length_enumerate 0 pairs
      ∙ length_zip targets (drop p.value.cut values)
      ∙ ap (λ n. min n (length (drop p.value.cut values))) (length_runs given.scope given.nets (number + 1) p.target)
      ∙ ap (λ n. min (runs_width given.scope p.target) n)
      (length_drop p.value.cut values ∙ ap (λ n. n - p.value.cut) (length_runs given.scope given.nets (number + 1 + literal_count p.target) p.value.runs))

  own_elements_count : (number : ℕ) (part : ModulePart) → length (element_list (own_steps given number part)) ≡ own_elements given.scope given.items part
  own_elements_count number (Names names) = refl
  own_elements_count number (Gate g) =
      ap length (elements_are (gate_elements given number g))
      ∙ elements_of_form (gate_name number g.name) (form_at given.meanings given.items g.item) (strengths_at given.items g.item) g.item (terminal_bits given.scope given.nets (number + own_count (Gate g)) g.terminals)
      ∙ count_at given.meanings given.items g.item
  own_elements_count number (Pair p) = ap length (elements_are (pair_elements given number p)) ∙ copies_count number p
  own_elements_count number (Instance i) = refl

  part_count : (number : ℕ) (part : ModulePart) → length (element_list (part_steps given (number, part))) ≡ part_elements given.scope given.items part
  part_count number part =
      let first = constants given.nets (number + own_count part) (runs_in part) in
      count_append (element_steps first) (own_steps given number part)
      ∙ ap (λ n. n + length (element_list (own_steps given number part))) (ap length (elements_are first) ∙ constants_count given.nets (number + own_count part) (runs_in part))
      ∙ ap (λ n. literals_width (runs_in part) + n) (own_elements_count number part)

  pub elements-counted : (number : ℕ) (parts : List ModulePart) → length (element_list (flat_map (part_steps given) (numbered_from number parts))) ≡ elements_in given.scope given.items parts
  elements-counted number [] = refl
  elements-counted number (part ∷ parts) =
      let rest = flat_map (part_steps given) (numbered_from (number + unnamed_count part) parts) in
      count_append (part_steps given (number, part)) rest
      ∙ ap (λ n. n + length (element_list rest)) (part_count number part)
      ∙ ap (λ n. part_elements given.scope given.items part + n) (elements-counted (number + unnamed_count part) parts)
      ∙ sym (sum_by-cons (part_elements given.scope given.items) part parts)
