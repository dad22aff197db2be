-- The names of the steps of a module differ, where no two of its gates and instances have one name.
use Rattle.std.proofs.Common.{◌≡◌, ℕ, ◌+◌, ◌-◌, ◌<◌, ◌≤◌, Bool, true, false, List, [], ◌∷◌, ◌++◌, length, map, drop, Option, Some, None, refl, sym, ap, subst, ◌∙◌, arith}
use Rattle.std.specs.Option.{IsSome, option_map_or}
use Rattle.std.specs.List.{AllByRecursion, enumerate_from, flat_map, zip}
use Rattle.v_lexer.specs.declared.literals.Bit.{Bit}
use Rattle.expression_bits.specs.declared.runs.BitRun.{BitRun}
use Rattle.expression_bits.specs.declared.runs.BitRun.TheVariants.{Net as NetRun, Literal as LiteralRun}
use Rattle.element_forms.specs.declared.forms.ElementForm.{ElementForm}
use Rattle.element_forms.specs.declared.forms.ElementForm.TheVariants.{Single, Bidirectional, Complementary}
use Rattle.element_forms.specs.declared.strengths.Strengths.{Strengths}
use Rattle.module_parts.specs.declared.parts.ModulePart.{ModulePart}
use Rattle.module_parts.specs.declared.parts.ModulePart.TheVariants.{Names, Gate as GateStep, Pair, Instance}
use Rattle.netlist_plan.specs.declared.nets.ModuleNet.{ModuleNet}
use Rattle.netlist_plan.specs.declared.plan.OwnName.{OwnName}
use Rattle.netlist_plan.specs.declared.plan.OwnName.TheVariants.{Written, Unnamed}
use Rattle.netlist_plan.specs.declared.plan.ElementName.{ElementName}
use Rattle.netlist_plan.specs.declared.plan.ElementName.TheVariants.{Gate, Half, Bit as BitName}
use Rattle.netlist_plan.specs.declared.plan.PlanElement.{PlanElement}
use Rattle.netlist_plan.specs.declared.plan.PlanStep.{PlanStep}
use Rattle.netlist_plan.specs.Unnamed.{literal_count, numbered_from, own_count, runs_in, unnamed_count}
use Rattle.netlist_plan.specs.Nets.{literal_first}
use Rattle.netlist_plan.specs.Elements.{constant, constants, copied_bit, form_elements, gate_name, literal_constants, runs_bits, terminal_bits}
use Rattle.netlist_plan.specs.Plan.{Given, element_steps, form_at, gate_elements, own_steps, pair_elements, part_steps, strengths_at}
use Rattle.flat_net.specs.Lists.{AreDistinct}
use Rattle.flattening_laws.proofs.TreeNames.{map_append}
use Rattle.flattening_laws.specs.SoundPlans.{AreNotHalved, step_name}
use Rattle.flattening_laws.proofs.Apart.{each_append, each_weaker}
use Rattle.plan_laws.proofs.NameLaws.{AreAllUnlike, AreUnlike, bit_names, bit_names_owner, bit_names_unlike, owner, owners_unlike, unlike_append, unlike_distinct, unlike_halves}

abbrev pub names_of : List PlanElement → List ElementName
names_of elements = map (λ (e : PlanElement). e.name) elements

-- the owner is a thing without name whose number lies in a range, or has the text
abbrev pub IsOf : Option (List ℕ) → ℕ → ℕ → OwnName → Type 0
IsOf text low high (Unnamed number) = (low ≤ number) × (number < high)
IsOf text low high (Written name) = text ≡ Some name

-- owners of two ranges, one behind the other, and of two texts are two
pub of_apart : (first second : Option (List ℕ)) (low mid start high : ℕ) (a b : OwnName) → mid ≤ start → ((name : List ℕ) → first ≡ Some name → second ≡ Some name → ⊥)
    → IsOf first low mid a → IsOf second start high b → a ≡ b → ⊥
of_apart first second low mid start high (Unnamed m) (Unnamed n) le differ is it e =
    let same : m ≡ n = ap number_of e in
    let less = is.1 in let least = it.0 in omega arith
  where
    number_of : OwnName → ℕ
    number_of (Unnamed k) = k
    number_of (Written name) = 0
of_apart first second low mid start high (Unnamed m) (Written name) le differ is it e = let no : true ≡ false = ap is_unnamed e in cc
  where
    is_unnamed : OwnName → Bool
    is_unnamed (Unnamed k) = true
    is_unnamed (Written name) = false
of_apart first second low mid start high (Written name) (Unnamed n) le differ is it e = let no : false ≡ true = ap is_unnamed e in cc
  where
    is_unnamed : OwnName → Bool
    is_unnamed (Unnamed k) = true
    is_unnamed (Written name) = false
of_apart first second low mid start high (Written name) (Written other) le differ is it e =
    let same : name ≡ other = ap text_of e in differ name is (it ∙ ap (λ (n : List ℕ). Some n) (sym same))
  where
    text_of : OwnName → List ℕ
    text_of (Unnamed k) = []
    text_of (Written n) = n

-- ---- constants

literal_names : (number width first place : ℕ) (bits : List Bit) → names_of (map (constant number width first) (enumerate_from place bits)) ≡ bit_names number width place (length bits)
literal_names number width first place [] = refl
literal_names number width first place (b ∷ bits) = ap (λ ns. BitName number (width - 1 - place) ∷ ns) (literal_names number width first (place + 1) bits)

constants_of : (nets : List ModuleNet) (number : ℕ) (runs : List BitRun) → AllByRecursion (λ name. IsOf None number (number + literal_count runs) (owner name)) (names_of (constants nets number runs))
constants_of nets number [] = tt
constants_of nets number (NetRun name select ∷ runs) = constants_of nets number runs
constants_of nets number (LiteralRun bits ∷ runs) =
    let width = length bits in
    let first = literal_constants nets number bits in
    let rest = constants nets (number + 1) runs in
    let high = number + (1 + literal_count runs) in
    let own : AllByRecursion (λ name. IsOf None number high (owner name)) (names_of first)
    = subst (λ (ns : List ElementName). AllByRecursion (λ name. IsOf None number high (owner name)) ns) (sym (literal_names number width (literal_first nets number) 0 bits))
    (each_weaker (λ name. owner name ≡ Unnamed number) (λ name. IsOf None number high (owner name)) (bit_names number width 0 width)
    (λ name is. subst (IsOf None number high) (sym is) (omega arith, omega arith)) (bit_names_owner number width 0 width)) in
    let later = each_weaker (λ name. IsOf None (number + 1) (number + 1 + literal_count runs) (owner name)) (λ name. IsOf None number high (owner name)) (names_of rest)
    (λ name is. wider number (literal_count runs) (owner name) is) (constants_of nets (number + 1) runs) in
    subst (λ (ns : List ElementName). AllByRecursion (λ name. IsOf None number high (owner name)) ns) (sym (map_append (λ (e : PlanElement). e.name) first rest))
    (each_append (λ name. IsOf None number high (owner name)) (names_of first) (names_of rest) own later)
  where
    wider : (low count : ℕ) (own : OwnName) → IsOf None (low + 1) (low + 1 + count) own → IsOf None low (low + (1 + count)) own
    wider low count (Unnamed k) is = let least = is.0 in let less = is.1 in (omega arith, omega arith)
    wider low count (Written name) is = is

constants_unlike : (nets : List ModuleNet) (number : ℕ) (runs : List BitRun) → AreAllUnlike (names_of (constants nets number runs))
constants_unlike nets number [] = tt
constants_unlike nets number (NetRun name select ∷ runs) = constants_unlike nets number runs
constants_unlike nets number (LiteralRun bits ∷ runs) =
    let width = length bits in
    let first = literal_constants nets number bits in
    let rest = constants nets (number + 1) runs in
    let named : names_of first ≡ bit_names number width 0 width = literal_names number width (literal_first nets number) 0 bits in
    let own : AreAllUnlike (names_of first) = subst AreAllUnlike (sym named) (bit_names_unlike number width 0 width (omega arith)) in
    let apart : AllByRecursion (λ x. AllByRecursion (AreUnlike x) (names_of rest)) (names_of first)
    = subst (λ (ns : List ElementName). AllByRecursion (λ x. AllByRecursion (AreUnlike x) (names_of rest)) ns) (sym named)
    (each_weaker (λ x. owner x ≡ Unnamed number) (λ x. AllByRecursion (AreUnlike x) (names_of rest)) (bit_names number width 0 width)
    (λ x is. each_weaker (λ y. IsOf None (number + 1) (number + 1 + literal_count runs) (owner y)) (AreUnlike x) (names_of rest)
    (λ y it. owners_unlike x y (of_apart None None number (number + 1) (number + 1) (number + 1 + literal_count runs) (owner x) (owner y) (omega arith) (λ name e f. let no : None ≡ Some name = e in cc)
    (subst (IsOf None number (number + 1)) (sym is) (omega arith, omega arith)) it))
    (constants_of nets (number + 1) runs))
    (bit_names_owner number width 0 width)) in
    subst AreAllUnlike (sym (map_append (λ (e : PlanElement). e.name) first rest)) (unlike_append (names_of first) (names_of rest) own (constants_unlike nets (number + 1) runs) apart)

-- ---- what a part has besides constants

abbrev pub step_names : List PlanStep → List ElementName
step_names steps = map step_name steps

element_step_names : (elements : List PlanElement) → step_names (element_steps elements) ≡ names_of elements
element_step_names [] = refl
element_step_names (e ∷ elements) = ap (λ ns. e.name ∷ ns) (element_step_names elements)

-- the text of a part's own name
abbrev pub part_text : ModulePart → Option (List ℕ)
part_text (Names names) = None
part_text (GateStep g) = g.name
part_text (Pair p) = None
part_text (Instance i) = i.name

-- an instance has a name
abbrev pub HasName : ModulePart → Type 0
HasName (Names names) = Unit {0}
HasName (GateStep g) = Unit {0}
HasName (Pair p) = Unit {0}
HasName (Instance i) = IsSome i.name

copied_names : (number width place : ℕ) (strengths : Strengths) (item : ℕ) (pairs : List (ℕ × ℕ)) → names_of (map (copied_bit number width strengths item) (enumerate_from place pairs)) ≡ bit_names number width place (length pairs)
copied_names number width place strengths item [] = refl
copied_names number width place strengths item (p ∷ pairs) = ap (λ ns. BitName number (width - 1 - place) ∷ ns) (copied_names number width (place + 1) strengths item pairs)

zip_length : (xs ys : List ℕ) → length (zip xs ys) ≤ length xs
zip_length [] ys = omega arith
zip_length (x ∷ xs) [] = omega arith
zip_length (x ∷ xs) (y ∷ ys) = let rest = zip_length xs ys in omega arith

abbrev Holds : Option (List ℕ) → ℕ → ℕ → ElementName → Type 0
Holds text low high name = IsOf text low high (owner name)

gate_of : (number : ℕ) (name : Option (List ℕ)) → IsOf name number (number + option_map_or (λ n. 0) name 1) (gate_name number name)
gate_of number None = (omega arith, omega arith)
gate_of number (Some name) = refl

form_of : (text : Option (List ℕ)) (low high : ℕ) (own : OwnName) (form : ElementForm) (strengths : Strengths) (item : ℕ) (terminals : List ℕ) → IsOf text low high own
    → AllByRecursion (Holds text low high) (names_of (form_elements own form strengths item terminals))
form_of text low high own (Single kind) strengths item terminals is = (is, tt)
form_of text low high own (Bidirectional kind resistive) strengths item terminals is = (is, tt)
form_of text low high own (Complementary resistive) strengths item terminals is = (is, (is, tt))

halves_unlike : (own : OwnName) → AreUnlike (Half own true) (Half own false)
halves_unlike own = record {
  differ = λ e. let no : true ≡ false = ap conducts e in cc;
  no_half = λ other on_one half gate. let no : true ≡ false = ap is_half gate in cc;
  not_halved = λ other on_one half gate. let no : true ≡ false = ap is_half gate in cc;
}
  where
    conducts : ElementName → Bool
    conducts (Gate o) = false
    conducts (Half o on_one) = on_one
    conducts (BitName number index) = false

    is_half : ElementName → Bool
    is_half (Gate o) = false
    is_half (Half o on_one) = true
    is_half (BitName number index) = false

form_unlike : (own : OwnName) (form : ElementForm) (strengths : Strengths) (item : ℕ) (terminals : List ℕ) → AreAllUnlike (names_of (form_elements own form strengths item terminals))
form_unlike own (Single kind) strengths item terminals = (tt, tt)
form_unlike own (Bidirectional kind resistive) strengths item terminals = (tt, tt)
form_unlike own (Complementary resistive) strengths item terminals = ((halves_unlike own, tt), (tt, tt))

module _ (given : Given) where
  own_of : (number : ℕ) (part : ModulePart) → HasName part → AllByRecursion (Holds (part_text part) number (number + own_count part)) (step_names (own_steps given number part))
  own_of number (Names names) has = tt
  own_of number (GateStep g) has =
      let own = gate_name number g.name in
      let elements = gate_elements given number g in
      subst (λ (ns : List ElementName). AllByRecursion (Holds g.name number (number + own_count (GateStep g))) ns) (sym (element_step_names elements))
      (form_of g.name number (number + own_count (GateStep g)) own (form_at given.meanings given.items g.item) (strengths_at given.items g.item) g.item
      (terminal_bits given.scope given.nets (number + own_count (GateStep g)) g.terminals) (gate_of number g.name))
  own_of number (Pair p) has =
      let elements = pair_elements given number p in
      let targets = runs_bits given.scope given.nets (number + 1) p.target in
      let values = drop p.value.cut (runs_bits given.scope given.nets (number + 1 + literal_count p.target) p.value.runs) in
      let named : names_of elements ≡ bit_names number (length targets) 0 (length (zip targets values)) = copied_names number (length targets) 0 (strengths_at given.items p.item) p.item (zip targets values) in
      subst (λ (ns : List ElementName). AllByRecursion (Holds None number (number + 1)) ns) (sym (element_step_names elements ∙ named))
      (each_weaker (λ name. owner name ≡ Unnamed number) (Holds None number (number + 1)) (bit_names number (length targets) 0 (length (zip targets values)))
      (λ name is. subst (IsOf None number (number + 1)) (sym is) (omega arith, omega arith)) (bit_names_owner number (length targets) 0 (length (zip targets values))))
  own_of number (Instance i) has = (by_name i.name has, tt)
    where
      by_name : (name : Option (List ℕ)) → IsSome name → name ≡ Some (option_map_or (λ n. n) name [])
      by_name None has = absurd (let no : false ≡ true = has in cc)
      by_name (Some name) has = refl

  own_unlike : (number : ℕ) (part : ModulePart) → AreAllUnlike (step_names (own_steps given number part))
  own_unlike number (Names names) = tt
  own_unlike number (GateStep g) =
      subst AreAllUnlike (sym (element_step_names (gate_elements given number g)))
      (form_unlike (gate_name number g.name) (form_at given.meanings given.items g.item) (strengths_at given.items g.item) g.item (terminal_bits given.scope given.nets (number + own_count (GateStep g)) g.terminals))
  own_unlike number (Pair p) =
      let elements = pair_elements given number p in
      let targets = runs_bits given.scope given.nets (number + 1) p.target in
      let values = drop p.value.cut (runs_bits given.scope given.nets (number + 1 + literal_count p.target) p.value.runs) in
      let named : names_of elements ≡ bit_names number (length targets) 0 (length (zip targets values)) = copied_names number (length targets) 0 (strengths_at given.items p.item) p.item (zip targets values) in
      let fits = zip_length targets values in
      subst AreAllUnlike (sym (element_step_names elements ∙ named)) (bit_names_unlike number (length targets) 0 (length (zip targets values)) (omega arith))
  own_unlike number (Instance i) = (tt, tt)

  -- ---- the steps of a part

  part_names : (number : ℕ) (part : ModulePart) → step_names (part_steps given (number, part))
      ≡ names_of (constants given.nets (number + own_count part) (runs_in part)) ++ step_names (own_steps given number part)
  part_names number part =
      let first = constants given.nets (number + own_count part) (runs_in part) in
      map_append step_name (element_steps first) (own_steps given number part)
      ∙ ap (λ (ns : List ElementName). ns ++ step_names (own_steps given number part)) (element_step_names first)

  wide_constants : (text : Option (List ℕ)) (low own high : ℕ) (name : OwnName) → low ≤ own → IsOf None own high name → IsOf text low high name
  wide_constants text low own high (Unnamed k) le is = let least = is.0 in (omega arith, is.1)
  wide_constants text low own high (Written name) le is = absurd (let no : None ≡ Some name = is in cc)

  wide_own : (text : Option (List ℕ)) (low mid high : ℕ) (name : OwnName) → mid ≤ high → IsOf text low mid name → IsOf text low high name
  wide_own text low mid high (Unnamed k) le is = let less = is.1 in (is.0, omega arith)
  wide_own text low mid high (Written name) le is = is

  part_of : (number : ℕ) (part : ModulePart) → HasName part → AllByRecursion (Holds (part_text part) number (number + unnamed_count part)) (step_names (part_steps given (number, part)))
  part_of number part has =
      let text = part_text part in
      let mid = number + own_count part in
      let high = number + unnamed_count part in
      let first = names_of (constants given.nets mid (runs_in part)) in
      let own = step_names (own_steps given number part) in
      subst (λ (ns : List ElementName). AllByRecursion (Holds text number high) ns) (sym (part_names number part))
      (each_append (Holds text number high) first own
      (each_weaker (Holds None mid (mid + literal_count (runs_in part))) (Holds text number high) first
      (λ name is. wide_constants text number mid high (owner name) (omega arith) (subst (λ k. IsOf None mid k (owner name)) (omega arith) is)) (constants_of given.nets mid (runs_in part)))
      (each_weaker (Holds text number mid) (Holds text number high) own (λ name is. wide_own text number mid high (owner name) (omega arith) is) (own_of number part has)))

  part_unlike : (number : ℕ) (part : ModulePart) → HasName part → AreAllUnlike (step_names (part_steps given (number, part)))
  part_unlike number part has =
      let mid = number + own_count part in
      let first = names_of (constants given.nets mid (runs_in part)) in
      let own = step_names (own_steps given number part) in
      subst AreAllUnlike (sym (part_names number part))
      (unlike_append first own (constants_unlike given.nets mid (runs_in part)) (own_unlike number part)
      (each_weaker (Holds None mid (mid + literal_count (runs_in part))) (λ x. AllByRecursion (AreUnlike x) own) first
      (λ x is. each_weaker (Holds (part_text part) number mid) (AreUnlike x) own
      (λ y it. owners_unlike x y (λ e. of_apart (part_text part) None number mid mid (mid + literal_count (runs_in part)) (owner y) (owner x) (omega arith) (λ name f g. let no : None ≡ Some name = g in cc) it is (sym e)))
      (own_of number part has)) (constants_of given.nets mid (runs_in part))))

  -- ---- the steps of a module

  -- no two parts have one text
  abbrev pub TextsApart : List ModulePart → Type 0
  TextsApart [] = Unit {0}
  TextsApart (part ∷ parts) = AllByRecursion (λ other. (name : List ℕ) → part_text part ≡ Some name → part_text other ≡ Some name → ⊥) parts × TextsApart parts

  later_unlike : (text : Option (List ℕ)) (low mid : ℕ) (x : ElementName) (number : ℕ) (parts : List ModulePart) → mid ≤ number → Holds text low mid x → AllByRecursion HasName parts
      → AllByRecursion (λ other. (name : List ℕ) → text ≡ Some name → part_text other ≡ Some name → ⊥) parts
      → AllByRecursion (AreUnlike x) (step_names (flat_map (part_steps given) (numbered_from number parts)))
  later_unlike text low mid x number [] le is has apart = tt
  later_unlike text low mid x number (part ∷ parts) le is has apart =
      let high = number + unnamed_count part in
      let first = part_steps given (number, part) in
      let rest = flat_map (part_steps given) (numbered_from high parts) in
      subst (λ (ns : List ElementName). AllByRecursion (AreUnlike x) ns) (sym (map_append step_name first rest))
      (each_append (AreUnlike x) (step_names first) (step_names rest)
      (each_weaker (Holds (part_text part) number high) (AreUnlike x) (step_names first)
      (λ y it. owners_unlike x y (of_apart text (part_text part) low mid number high (owner x) (owner y) le apart.0 is it)) (part_of number part has.0))
      (later_unlike text low mid x high parts (omega arith) is has.1 apart.1))

  steps_unlike : (number : ℕ) (parts : List ModulePart) → AllByRecursion HasName parts → TextsApart parts → AreAllUnlike (step_names (flat_map (part_steps given) (numbered_from number parts)))
  steps_unlike number [] has apart = tt
  steps_unlike number (part ∷ parts) has apart =
      let high = number + unnamed_count part in
      let first = part_steps given (number, part) in
      let rest = flat_map (part_steps given) (numbered_from high parts) in
      subst AreAllUnlike (sym (map_append step_name first rest))
      (unlike_append (step_names first) (step_names rest) (part_unlike number part has.0) (steps_unlike high parts has.1 apart.1)
      (each_weaker (Holds (part_text part) number high) (λ x. AllByRecursion (AreUnlike x) (step_names rest)) (step_names first)
      (λ x is. later_unlike (part_text part) number high x high parts (omega arith) is has.1 apart.0) (part_of number part has.0)))

  -- the laws: the names of a module's steps differ, and none is halved that another has
  pub step_names-distinct : (parts : List ModulePart) → AllByRecursion HasName parts → TextsApart parts → AreDistinct (step_names (flat_map (part_steps given) (numbered_from 0 parts)))
  step_names-distinct parts has apart = unlike_distinct (step_names (flat_map (part_steps given) (numbered_from 0 parts))) (steps_unlike 0 parts has apart)

  pub step_names-not_halved : (parts : List ModulePart) → AllByRecursion HasName parts → TextsApart parts → AreNotHalved (step_names (flat_map (part_steps given) (numbered_from 0 parts)))
  step_names-not_halved parts has apart = unlike_halves (step_names (flat_map (part_steps given) (numbered_from 0 parts))) (steps_unlike 0 parts has apart)
