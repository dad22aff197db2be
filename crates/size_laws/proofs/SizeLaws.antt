-- The literals and the assignments of a module make elements for each of their bits.
use Rattle.std.proofs.Common.{◌≡◌, ℕ, zero, suc, ◌+◌, ◌-◌, ◌≤◌, List, [], ◌∷◌, ◌++◌, length, drop, Option, Some, None, refl, sym, ap, ◌∙◌, arith}
use Rattle.std.specs.Option.{option_map_or}
use Rattle.std.specs.List.{AllByRecursion, enumerate_from, flat_map, zip}
use Rattle.std.proofs.lemmas.List.Sums.{sum_by-cons}
use Rattle.v_lexer.specs.declared.literals.Bit.{Bit}
use Rattle.module_scope.specs.declared.scopes.Scope.{Scope}
use Rattle.expression_bits.specs.declared.runs.BitRun.{BitRun}
use Rattle.expression_bits.specs.declared.runs.BitRun.TheVariants.{Net as NetRun, Literal as LiteralRun}
use Rattle.expression_bits.specs.Runs.{run_width, runs_width}
use Rattle.element_forms.specs.declared.forms.ElementForm.{ElementForm}
use Rattle.element_forms.specs.declared.forms.ElementForm.TheVariants.{Single, Bidirectional, Complementary}
use Rattle.element_forms.specs.declared.strengths.Strengths.{Strengths}
use Rattle.module_parts.specs.declared.parts.PairPart.{PairPart}
use Rattle.module_parts.specs.declared.parts.ModulePart.{ModulePart}
use Rattle.module_parts.specs.declared.parts.ModulePart.TheVariants.{Names, Gate, Pair, Instance}
use Rattle.netlist_plan.specs.declared.nets.ModuleNet.{ModuleNet}
use Rattle.netlist_plan.specs.declared.plan.OwnName.{OwnName}
use Rattle.netlist_plan.specs.declared.plan.PlanElement.{PlanElement}
use Rattle.netlist_plan.specs.declared.plan.PlanStep.{PlanStep}
use Rattle.netlist_plan.specs.declared.plan.PlanStep.TheVariants.{Element as ElementStep, Instance as InstanceStep}
use Rattle.netlist_plan.specs.Unnamed.{literal_count, numbered_from, own_count, runs_in, unnamed_count}
use Rattle.netlist_plan.specs.Nets.{run_bits}
use Rattle.netlist_plan.specs.Elements.{constants, copied_bit, form_elements, gate_name, literal_constants, runs_bits, terminal_bits}
use Rattle.netlist_plan.specs.Plan.{Given, element_steps, form_at, gate_elements, own_steps, pair_elements, part_steps, strengths_at}
use Rattle.flattening_laws.specs.Counts.{element_list}
use Rattle.flattening_laws.proofs.Apart.{each_weaker}
use Rattle.flattening_laws.proofs.Numbers.{length_append, length_map, length_range}
use Rattle.plan_laws.proofs.SourceLaws.{unnamed_in}
use Rattle.fit_laws.specs.FitParts.{IsFitRun}
use Rattle.fit_laws.specs.EvenParts.{IsEven}
use Rattle.size_laws.specs.SmallParts.{IsPartUpTo, IsRunUpTo, IsTargetUpTo}

-- ---- elements among steps

pub elements_append : (xs ys : List PlanStep) → element_list (xs ++ ys) ≡ element_list xs ++ element_list ys
elements_append [] ys = refl
elements_append (ElementStep e ∷ xs) ys = ap (λ es. e ∷ es) (elements_append xs ys)
elements_append (InstanceStep i ∷ xs) ys = elements_append xs ys

elements_are : (es : List PlanElement) → element_list (element_steps es) ≡ es
elements_are [] = refl
elements_are (e ∷ es) = ap (λ xs. e ∷ xs) (elements_are es)

-- ---- bits of runs

pub runs_length : (scope : Scope) (nets : List ModuleNet) (number : ℕ) (runs : List BitRun) → length (runs_bits scope nets number runs) ≡ runs_width scope runs
runs_length scope nets number [] = refl
runs_length scope nets number (run ∷ runs) =
    length_append (run_bits scope nets number run) (runs_bits scope nets (number + literal_count (run ∷ [])) runs)
    ∙ ap (λ n. n + length (runs_bits scope nets (number + literal_count (run ∷ [])) runs)) (one run)
    ∙ ap (λ n. run_width scope run + n) (runs_length scope nets (number + literal_count (run ∷ [])) runs)
    ∙ sym (sum_by-cons (run_width scope) run runs)
  where
    one : (r : BitRun) → length (run_bits scope nets number r) ≡ run_width scope r
    one (NetRun name select) = length_range _ _
    one (LiteralRun bits) = length_range _ _

length_drop : {X : Type 0} (n : ℕ) (xs : List X) → length (drop n xs) ≡ length xs - n
length_drop zero xs = omega arith
length_drop (suc n) [] = omega arith
length_drop (suc n) (x ∷ xs) = let rest = length_drop n xs in omega (arith, rest)

length_zip : {X Y : Type 0} (xs : List X) (ys : List Y) → length xs ≤ length ys → length (zip xs ys) ≡ length xs
length_zip [] ys le = refl
length_zip (x ∷ xs) [] le = absurd (omega arith)
length_zip (x ∷ xs) (y ∷ ys) le = ap suc (length_zip xs ys (omega arith))

length_enumerate : {X : Type 0} (k : ℕ) (xs : List X) → length (enumerate_from k xs) ≡ length xs
length_enumerate k [] = refl
length_enumerate k (x ∷ xs) = ap suc (length_enumerate (k + 1) xs)

-- ---- constants

literal_size : (nets : List ModuleNet) (number : ℕ) (bits : List Bit) → length (literal_constants nets number bits) ≡ length bits
literal_size nets number bits = length_map _ (enumerate_from 0 bits) ∙ length_enumerate 0 bits

constants_many : (nets : List ModuleNet) (number : ℕ) (runs : List BitRun) → AllByRecursion IsFitRun runs → literal_count runs ≤ length (constants nets number runs)
constants_many nets number [] filled = omega arith
constants_many nets number (NetRun name select ∷ runs) filled = constants_many nets number runs filled.1
constants_many nets number (LiteralRun bits ∷ runs) filled =
    let all = length_append (literal_constants nets number bits) (constants nets (number + 1) runs) in
    let own = literal_size nets number bits in
    let rest = constants_many nets (number + 1) runs filled.1 in
    let some = filled.0 in
    omega arith

run_more : (a b : ℕ) (run : BitRun) → a ≤ b → IsRunUpTo a run → IsRunUpTo b run
run_more a b (NetRun name select) le is = tt
run_more a b (LiteralRun bits) le is = omega (arith, le, is)

constants_long : (nets : List ModuleNet) (number : ℕ) (runs : List BitRun) → AllByRecursion (IsRunUpTo (length (constants nets number runs))) runs
constants_long nets number [] = tt
constants_long nets number (NetRun name select ∷ runs) = (tt, constants_long nets number runs)
constants_long nets number (LiteralRun bits ∷ runs) =
    let all = length_append (literal_constants nets number bits) (constants nets (number + 1) runs) in
    let own = literal_size nets number bits in
    let whole = length (constants nets number (LiteralRun bits ∷ runs)) in
    let part = length (constants nets (number + 1) runs) in (
      omega (arith, all, own),
      each_weaker (IsRunUpTo part) (IsRunUpTo whole) runs (λ run is. run_more part whole run (omega (arith, all, own)) is) (constants_long nets (number + 1) runs),
    )

-- ---- parts

module _ (given : Given) where
  form_some : (own : OwnName) (form : ElementForm) (strengths : Strengths) (item : ℕ) (terminals : List ℕ) → 1 ≤ length (form_elements own form strengths item terminals)
  form_some own (Single kind) strengths item terminals = omega arith
  form_some own (Bidirectional kind resistive) strengths item terminals = omega arith
  form_some own (Complementary resistive) strengths item terminals = omega arith

  own_few : (name : Option (List ℕ)) → option_map_or (λ (n : List ℕ). 0) name 1 ≤ 1
  own_few None = omega arith
  own_few (Some name) = omega arith

  -- an assignment makes an element for each bit of its target
  pair_size : (number : ℕ) (p : PairPart) → runs_width given.scope p.value.runs ≡ runs_width given.scope p.target + p.value.cut
      → length (element_list (own_steps given number (Pair p))) ≡ runs_width given.scope p.target
  pair_size number p even =
      let targets = runs_bits given.scope given.nets (number + 1) p.target in
      let values = runs_bits given.scope given.nets (number + 1 + literal_count p.target) p.value.runs in
      let target_size = runs_length given.scope given.nets (number + 1) p.target in
      let value_size = runs_length given.scope given.nets (number + 1 + literal_count p.target) p.value.runs in
      let cut_size = length_drop p.value.cut values in
      let pairs = zip targets (drop p.value.cut values) in
      ap length (elements_are (pair_elements given number p))
      ∙ length_map (copied_bit number (length targets) (strengths_at given.items p.item) p.item) (enumerate_from 0 pairs) ∙ length_enumerate 0 pairs
      ∙ length_zip targets (drop p.value.cut values) (omega (arith, target_size, value_size, cut_size, even)) ∙ target_size

  -- the elements of a part without its constants
  own_many : (number : ℕ) (part : ModulePart) → IsEven given.scope part → own_count part ≤ length (element_list (own_steps given number part))
  own_many number (Names names) even = omega arith
  own_many number (Gate g) even =
      let some = form_some (gate_name number g.name) (form_at given.meanings given.items g.item) (strengths_at given.items g.item) g.item (terminal_bits given.scope given.nets (number + own_count (Gate g)) g.terminals) in
      let same = ap length (elements_are (gate_elements given number g)) in
      let few = own_few g.name in
      omega (arith, some, same, few)
  own_many number (Pair p) even =
      let size = pair_size number p even.1 in
      let some = even.0 in
      omega (arith, size, some)
  own_many number (Instance i) even = omega arith

  pub part_many : (number : ℕ) (part : ModulePart) → IsEven given.scope part → AllByRecursion IsFitRun (runs_in part) → unnamed_count part ≤ length (element_list (part_steps given (number, part)))
  part_many number part even fit =
      let first = constants given.nets (number + own_count part) (runs_in part) in
      let all = ap length (elements_append (element_steps first) (own_steps given number part)) ∙ length_append (element_list (element_steps first)) (element_list (own_steps given number part)) in
      let same = ap length (elements_are first) in
      let own = own_many number part even in
      let many = constants_many given.nets (number + own_count part) (runs_in part) fit in
      omega (arith, all, same, own, many)

  target_long : (number : ℕ) (part : ModulePart) → IsEven given.scope part → IsTargetUpTo given.scope (length (element_list (own_steps given number part))) part
  target_long number (Names names) even = tt
  target_long number (Gate g) even = tt
  target_long number (Pair p) even = let size = pair_size number p even.1 in omega (arith, size)
  target_long number (Instance i) even = tt

  target_more : (a b : ℕ) (part : ModulePart) → a ≤ b → IsTargetUpTo given.scope a part → IsTargetUpTo given.scope b part
  target_more a b (Names names) le is = tt
  target_more a b (Gate g) le is = tt
  target_more a b (Pair p) le is = omega (arith, le, is)
  target_more a b (Instance i) le is = tt

  part_more : (a b : ℕ) (part : ModulePart) → a ≤ b → IsPartUpTo given.scope a part → IsPartUpTo given.scope b part
  part_more a b part le is = (each_weaker (IsRunUpTo a) (IsRunUpTo b) (runs_in part) (λ run up. run_more a b run le up) is.0, target_more a b part le is.1)

  part_long : (number : ℕ) (part : ModulePart) → IsEven given.scope part → IsPartUpTo given.scope (length (element_list (part_steps given (number, part)))) part
  part_long number part even =
      let first = constants given.nets (number + own_count part) (runs_in part) in
      let whole = length (element_list (part_steps given (number, part))) in
      let all : whole ≡ length (element_list (element_steps first)) + length (element_list (own_steps given number part))
      = ap length (elements_append (element_steps first) (own_steps given number part)) ∙ length_append (element_list (element_steps first)) (element_list (own_steps given number part)) in
      let same = ap length (elements_are first) in (
        each_weaker (IsRunUpTo (length first)) (IsRunUpTo whole) (runs_in part) (λ run up. run_more (length first) whole run (omega (arith, all, same)) up)
            (constants_long given.nets (number + own_count part) (runs_in part)),
        target_more (length (element_list (own_steps given number part))) whole part (omega (arith, all)) (target_long number part even),
      )

  -- ---- modules

  -- the parts of a module have no more things without name than its plan has elements
  pub parts-many : (number : ℕ) (parts : List ModulePart) → AllByRecursion (IsEven given.scope) parts → AllByRecursion (λ part. AllByRecursion IsFitRun (runs_in part)) parts
      → unnamed_in parts ≤ length (element_list (flat_map (part_steps given) (numbered_from number parts)))
  parts-many number [] even fit = omega arith
  parts-many number (part ∷ parts) even fit =
      let first = part_steps given (number, part) in
      let rest = flat_map (part_steps given) (numbered_from (number + unnamed_count part) parts) in
      let all = ap length (elements_append first rest) ∙ length_append (element_list first) (element_list rest) in
      let own = part_many number part even.0 fit.0 in
      let others = parts-many (number + unnamed_count part) parts even.1 fit.1 in
      omega (arith, all, own, others)

  -- nor is a literal or a target longer
  pub parts-long : (number : ℕ) (parts : List ModulePart) → AllByRecursion (IsEven given.scope) parts
      → AllByRecursion (IsPartUpTo given.scope (length (element_list (flat_map (part_steps given) (numbered_from number parts))))) parts
  parts-long number [] even = tt
  parts-long number (part ∷ parts) even =
      let first = part_steps given (number, part) in
      let rest = flat_map (part_steps given) (numbered_from (number + unnamed_count part) parts) in
      let whole = length (element_list (first ++ rest)) in
      let all : whole ≡ length (element_list first) + length (element_list rest) = ap length (elements_append first rest) ∙ length_append (element_list first) (element_list rest) in (
        part_more (length (element_list first)) whole part (omega (arith, all)) (part_long number part even.0),
        each_weaker (IsPartUpTo given.scope (length (element_list rest))) (IsPartUpTo given.scope whole) parts
            (λ p up. part_more (length (element_list rest)) whole p (omega (arith, all)) up) (parts-long (number + unnamed_count part) parts even.1),
      )
