-- The elements of a sound gate are sound.
use Rattle.std.proofs.Common.{◌≡◌, ℕ, zero, suc, ◌+◌, ◌-◌, ◌<◌, ◌≤◌, ◌^◌, Bool, true, false, List, [], ◌∷◌, ◌++◌, length, map, take, drop, Option, Some, None, refl, sym, ap, subst, arith}
use Rattle.std.specs.Prelude.{slice_index_or}
use Rattle.std.specs.List.{AllByRecursion, enumerate_from, zip}
use Rattle.udp_table.specs.Primitive.{Primitive}
use Rattle.flat_net.specs.Elements.{HasPinsOf, joins_ends}
use Rattle.flat_net.specs.declared.kinds.ElementKind.{ElementKind}
use Rattle.flat_net.specs.declared.kinds.ElementKind.TheVariants.{Mos, Copy}
use Rattle.flat_names.specs.Spelling.{IsOwn}
use Rattle.element_forms.specs.declared.forms.ElementForm.{ElementForm}
use Rattle.element_forms.specs.declared.forms.ElementForm.TheVariants.{Single, Bidirectional, Complementary}
use Rattle.element_forms.specs.declared.strengths.Strengths.{Strengths}
use Rattle.netlist_plan.specs.declared.plan.OwnName.{OwnName}
use Rattle.netlist_plan.specs.declared.plan.ElementName.{ElementName}
use Rattle.netlist_plan.specs.declared.plan.ElementName.TheVariants.{Gate, Half, Bit as BitName}
use Rattle.netlist_plan.specs.Elements.{copied_bit, copies, form_elements, gate_name, half, output_count, single}
use Rattle.netlist_plan.specs.Flattening.{own_name}
use Rattle.flattening_laws.proofs.Numbers.{length_append}
use Rattle.flattening_laws.specs.SoundPlans.{IsElementName, IsPlanElement}
use Rattle.flattening_laws.proofs.Apart.{All_from_each, each_append}
use Rattle.plan_laws.specs.SoundGates.{HasTerminalCount, IsTextIfThere}

-- levels of strengths
abbrev pub AreLevels : Strengths → Type 0
AreLevels strengths = (strengths.zero ≤ 7) × (strengths.one ≤ 7)

take_length : (n : ℕ) (xs : List ℕ) → n ≤ length xs → length (take n xs) ≡ n
take_length zero xs le = refl
take_length (suc n) [] le = absurd (omega arith)
take_length (suc n) (x ∷ xs) le = ap suc (take_length n xs (omega arith))

drop_length : (n : ℕ) (xs : List ℕ) → length (drop n xs) ≡ length xs - n
drop_length zero xs = omega arith
drop_length (suc n) [] = omega arith
drop_length (suc n) (x ∷ xs) = let rest = drop_length n xs in omega arith

module _ (P : ℕ → Type 0) where
  each_take : (n : ℕ) (xs : List ℕ) → AllByRecursion P xs → AllByRecursion P (take n xs)
  each_take zero xs h = tt
  each_take (suc n) [] h = tt
  each_take (suc n) (x ∷ xs) h = (h.0, each_take n xs h.1)

  each_drop : (n : ℕ) (xs : List ℕ) → AllByRecursion P xs → AllByRecursion P (drop n xs)
  each_drop zero xs h = h
  each_drop (suc n) [] h = tt
  each_drop (suc n) (x ∷ xs) h = each_drop n xs h.1

  each_get : (k : ℕ) (xs : List ℕ) → k < length xs → AllByRecursion P xs → P (slice_index_or xs k 0)
  each_get k [] less h = absurd (omega arith)
  each_get zero (x ∷ xs) less h = h.0
  each_get (suc k) (x ∷ xs) less h = each_get k xs (omega arith) h.1

pub name_is : (number : ℕ) (name : Option (List ℕ)) → number < 2 ^ 32 → IsTextIfThere name → IsOwn (own_name (gate_name number name))
name_is number None small is = small
name_is number (Some name) small is = is

module _ (udps : List Primitive) (bits : ℕ) where
  -- an element with outputs and inputs alone
  single_sound : (name : ElementName) (kind : ElementKind) (resistive : Bool) (strengths : Strengths) (item : ℕ) (outs ins : List ℕ) → IsElementName name → AreLevels strengths
      → HasPinsOf udps kind (length outs) (length ins) → joins_ends kind ≡ false → length outs + length ins < 2 ^ 32
      → AllByRecursion (λ bit. bit < bits) outs → AllByRecursion (λ bit. bit < bits) ins → IsPlanElement udps bits (single name kind resistive strengths item outs ins)
  single_sound name kind resistive strengths item outs ins named levels pins no_ends few outs_in ins_in =
      let count = length_append outs ins in
      record {
        name = named;
        strengths = levels;
        pins = pins;
        switch = sym no_ends;
        few = omega arith;
        within = All_from_each (λ bit. bit < bits) (outs ++ ins) (each_append (λ bit. bit < bits) outs ins outs_in ins_in);
      }

  half_sound : (own : OwnName) (on_one resistive : Bool) (strengths : Strengths) (item : ℕ) (terminals : List ℕ) (control : ℕ) → IsOwn (own_name own) → AreLevels strengths
      → 1 ≤ control → control < length terminals → AllByRecursion (λ bit. bit < bits) terminals → IsPlanElement udps bits (half own on_one resistive strengths item terminals control)
  half_sound own on_one resistive strengths item terminals control named levels least there within =
      let second = each_get (λ bit. bit < bits) 1 terminals (omega arith) within in
      let gate = each_get (λ bit. bit < bits) control terminals there within in
      let outs = take_length 1 terminals (omega arith) in
      single_sound (Half own on_one) (Mos on_one resistive) resistive strengths item (take 1 terminals)
      (slice_index_or terminals 1 0 ∷ slice_index_or terminals control 0 ∷ []) named levels (outs, refl) refl (omega arith)
      (each_take (λ bit. bit < bits) 1 terminals within) (second, (gate, tt))

  pub form_sound : (own : OwnName) (form : ElementForm) (strengths : Strengths) (item : ℕ) (terminals : List ℕ) → IsOwn (own_name own) → AreLevels strengths
      → length terminals < 2 ^ 32 → HasTerminalCount udps form (length terminals) → AllByRecursion (λ bit. bit < bits) terminals
      → AllByRecursion (IsPlanElement udps bits) (form_elements own form strengths item terminals)
  form_sound own (Single kind) strengths item terminals named levels few count within =
      let outs = output_count kind (length terminals) in
      let first = take_length outs terminals count.0 in
      let rest = drop_length outs terminals in (
        single_sound (Gate own) kind false strengths item (take outs terminals) (drop outs terminals) named levels
            (subst (λ k. HasPinsOf udps kind k (length (drop outs terminals))) (sym first) (subst (λ k. HasPinsOf udps kind outs k) (sym rest) count.1)) count.2
            (let least = count.0 in omega arith) (each_take (λ bit. bit < bits) outs terminals within) (each_drop (λ bit. bit < bits) outs terminals within),
        tt,
      )
  form_sound own (Bidirectional kind resistive) strengths item terminals named levels few count within =
      let least = count.0 in
      let rest = drop_length 2 terminals in
      let first = each_get (λ bit. bit < bits) 0 terminals (omega arith) within in
      let second = each_get (λ bit. bit < bits) 1 terminals (omega arith) within in (
        record {
          name = named;
          strengths = levels;
          pins = subst (λ k. HasPinsOf udps kind 0 k) (sym rest) count.1;
          switch = sym count.2;
          few = omega arith;
          within = All_from_each (λ bit. bit < bits) (slice_index_or terminals 0 0 ∷ (slice_index_or terminals 1 0 ∷ drop 2 terminals)) (first, (second, each_drop (λ bit. bit < bits) 2 terminals within));
        },
        tt,
      )
  form_sound own (Complementary resistive) strengths item terminals named levels few count within = (
    half_sound own true resistive strengths item terminals 2 named levels (omega arith) (omega arith) within,
    (half_sound own false resistive strengths item terminals 3 named levels (omega arith) (omega arith) within, tt),
  )

  -- the copies of an assignment
  copies_from : (number width place : ℕ) (strengths : Strengths) (item : ℕ) (targets values : List ℕ) → number < 2 ^ 32 → width ≤ 2 ^ 32 → AreLevels strengths
      → AllByRecursion (λ bit. bit < bits) targets → AllByRecursion (λ bit. bit < bits) values → 0 < width
      → AllByRecursion (IsPlanElement udps bits) (map (copied_bit number width strengths item) (enumerate_from place (zip targets values)))
  copies_from number width place strengths item [] values small wide levels targets_in values_in some = tt
  copies_from number width place strengths item (t ∷ targets) [] small wide levels targets_in values_in some = tt
  copies_from number width place strengths item (t ∷ targets) (v ∷ values) small wide levels targets_in values_in some = (
    single_sound (BitName number (width - 1 - place)) Copy false strengths item (t ∷ []) (v ∷ []) (small, omega arith) levels (refl, refl) refl (omega arith) (targets_in.0, tt) (values_in.0, tt),
    copies_from number width (place + 1) strengths item targets values small wide levels targets_in.1 values_in.1 some,
  )

  pub copies_sound : (number : ℕ) (strengths : Strengths) (item : ℕ) (targets values : List ℕ) → number < 2 ^ 32 → length targets ≤ 2 ^ 32 → AreLevels strengths
      → AllByRecursion (λ bit. bit < bits) targets → AllByRecursion (λ bit. bit < bits) values → AllByRecursion (IsPlanElement udps bits) (copies number strengths item targets values)
  copies_sound number strengths item [] values small wide levels targets_in values_in = tt
  copies_sound number strengths item (t ∷ targets) values small wide levels targets_in values_in =
      copies_from number (length (t ∷ targets)) 0 strengths item (t ∷ targets) values small wide levels targets_in values_in (omega arith)
