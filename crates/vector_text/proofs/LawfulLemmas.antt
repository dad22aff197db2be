-- A stimulus made of vectors in order is lawful.
use Rattle.std.proofs.Common.{◌≡◌, ℕ, zero, suc, ◌+◌, ◌<◌, ◌≤◌, ◌==◌, Bool, true, not, ◌&&◌, List, [], ◌∷◌, ◌++◌, length, map, take, get_or, Option, Some, None, Ok, refl, sym, ap, subst, ◌∙◌, append_assoc, length-append, arith, inl, inr}
use Rattle.std.specs.Prelude.{All, AllPairs, Contains}
use Rattle.std.specs.Option.{option_or}
use Rattle.std.specs.List.{list_all}
use Rattle.std.proofs.lemmas.Bool.{cases_Bool, cases_lt, lt-leb, eqb-true}
use Rattle.std.proofs.lemmas.Bool.Decides.{Decides-eqb}
use Rattle.std.proofs.lemmas.List.{append-nil, length-take, get_or-take, get_or-map, length-map}
use Rattle.std.proofs.lemmas.List.Elements.{All-append, All-map}
use Rattle.std.proofs.lemmas.List.Folds.{list_all-append}
use Rattle.std.proofs.lemmas.Map.Steps.{length-le_from_distinct_below}
use Rattle.std.proofs.lemmas.Map.Made.{IsDistinct-from_AllPairs}
use Rattle.std.proofs.lemmas.Option.{slice_get-get_or}
use Rattle.line_text.specs.Faults.{first_fault, first_fault_behind}
use Rattle.flat_net.specs.Lists.{AreDistinct}
use Rattle.flat_net.specs.Soundness.{IsSound, AreDistinctNets}
use Rattle.flat_net.specs.Names.{nets_found}
use Rattle.flat_net.specs.Tests.{are_new as are_new_there}
use Rattle.flat_net.specs.declared.parts.Parts.{Parts}
use Rattle.flat_net.proofs.Decisions.{Decides-list_all, Decides-list_any}
use Rattle.flat_net.proofs.Distinct.{Decides-are_new}
use Rattle.vector_text.specs.declared.fault.BindFault.{BindFault}
use Rattle.vector_text.specs.declared.fault.BindFault.TheVariants.{UnknownNet, NotAnInput, NamedTwice, Limit, Width}
use Rattle.vector_text.specs.declared.stimulus.StimulusLine.{StimulusLine}
use Rattle.vector_text.specs.declared.stimulus.StimulusWhat.{StimulusWhat}
use Rattle.vector_text.specs.declared.stimulus.StimulusWhat.TheVariants.{Values, Strobe, Expect}
use Rattle.vector_text.specs.declared.vectors.VectorLine.{VectorLine}
use Rattle.vector_text.specs.declared.vectors.Vectors.{Vectors}
use Rattle.vector_text.specs.Binding.{bits_of, bits_of_all, output_bits, is_unknown, is_net_among, are_new, input_fault, output_fault, outputs_fault, has_width, width_fault, stimulus_line, lines_bound}
use Rattle.vector_text.specs.Flags.{inputs_bound, outputs_bound}
use Rattle.vector_text.specs.Lawful.{MayFollow, AreInOrder, HasWidth, IsLawful, greatest_outputs}
use Rattle.vector_text.proofs.BindingLemmas.{found_within}
use Rattle.vector_text.proofs.NameLemmas.{bits_push, input_unknown, input_other, input_twice, output_unknown, output_many}
use Rattle.vector_text.proofs.WholeLemmas.{bits_passed, lines_passed, stimulus_with}

-- ---- a list without faults

or_none : {F : Type 0} (a b : Option F) → option_or a b ≡ None → (a ≡ None) × (b ≡ None)
or_none None b e = (refl, e)
or_none (Some x) b e = absurd cc

pub clean_first : {A F : Type 0} (fault : List A → A → Option F) (before : List A) (x : A) (xs : List A) → first_fault_behind fault before (x ∷ xs) ≡ None → (fault before x ≡ None) × (first_fault_behind fault (before ++ x ∷ []) xs ≡ None)
clean_first fault before x xs e = or_none (fault before x) (first_fault_behind fault (before ++ x ∷ []) xs) e

some_none : {F : Type 0} (o : Option F) (x : F) → o ≡ Some x → o ≡ None → ⊥
some_none None x e f = cc
some_none (Some y) x e f = cc

-- ---- inputs

new_append : (before xs ys : List ℕ) → are_new before xs ≡ true → are_new (before ++ xs) ys ≡ true → are_new before (xs ++ ys) ≡ true
new_append before [] ys new more = ap (λ (nets : List ℕ). are_new nets ys) (sym (append-nil before)) ∙ more
new_append before (x ∷ xs) ys new more =
    elim (cases_Bool (is_net_among before x)) [
      | inl e ↦ absurd cc
      | inr e ↦ (let rest : are_new (before ++ x ∷ []) xs ≡ true = sym (ap (λ (b : Bool). not b && are_new (before ++ x ∷ []) xs) e) ∙ new in
          let others : are_new ((before ++ x ∷ []) ++ xs) ys ≡ true = ap (λ (nets : List ℕ). are_new nets ys) (append_assoc before (x ∷ []) xs) ∙ more in
          rw e (new_append (before ++ x ∷ []) xs ys rest others))
    ]

input_clean : (parts : Parts) (line : ℕ) (before : List (List ℕ)) (name : List ℕ) → input_fault parts line before name ≡ None
    → (list_all (is_net_among parts.inputs) (bits_of parts name) ≡ true) × (are_new (bits_of_all parts before) (bits_of parts name) ≡ true)
input_clean parts line before name none =
    elim (cases_Bool (is_unknown parts name)) [
      | inl e ↦ absurd (some_none (input_fault parts line before name) (UnknownNet line) (input_unknown parts line before name e) none)
      | inr e ↦ elim (cases_Bool (list_all (is_net_among parts.inputs) (bits_of parts name))) [
        | inl f ↦ elim (cases_Bool (are_new (bits_of_all parts before) (bits_of parts name))) [
          | inl g ↦ (f, g)
          | inr g ↦ absurd (some_none (input_fault parts line before name) (NamedTwice line) (input_twice parts line before name e f g) none)
        ]
        | inr f ↦ absurd (some_none (input_fault parts line before name) (NotAnInput line) (input_other parts line before name e f) none)
      ]
    ]

inputs_clean : (parts : Parts) (line : ℕ) (before names : List (List ℕ)) → first_fault_behind (input_fault parts line) before names ≡ None
    → (list_all (is_net_among parts.inputs) (bits_of_all parts names) ≡ true) × (are_new (bits_of_all parts before) (bits_of_all parts names) ≡ true)
inputs_clean parts line before [] e = (refl, refl)
inputs_clean parts line before (name ∷ names) e =
    let p = clean_first (input_fault parts line) before name names e in
    let h = input_clean parts line before name p.0 in
    let rest = inputs_clean parts line (before ++ name ∷ []) names p.1 in
    let more : are_new (bits_of_all parts before ++ bits_of parts name) (bits_of_all parts names) ≡ true
    = ap (λ (nets : List ℕ). are_new nets (bits_of_all parts names)) (sym (bits_push parts before name)) ∙ rest.1 in
    (list_all-append (is_net_among parts.inputs) (bits_of parts name) (bits_of_all parts names) ∙ rw (h.0, rest.0) refl, new_append (bits_of_all parts before) (bits_of parts name) (bits_of_all parts names) h.1 more)

abbrev same_net : ℕ → ℕ → Bool
same_net a b = a == b

same_new : (before nets : List ℕ) → are_new_there same_net before nets ≡ are_new before nets
same_new before [] = refl
same_new before (net ∷ nets) = ap (λ (b : Bool). not (is_net_among before net) && b) (same_new (before ++ net ∷ []) nets)

inputs_lawful : (parts : Parts) (line : ℕ) (names : List (List ℕ)) → first_fault (input_fault parts line) names ≡ None → All (Contains parts.inputs) (bits_of_all parts names) × AreDistinct (bits_of_all parts names)
inputs_lawful parts line names e =
    let h = inputs_clean parts line [] names e in
    let nets = bits_of_all parts names in (
      (Decides-list_all (is_net_among parts.inputs) (Contains parts.inputs) (λ net. Decides-list_any same_net Decides-eqb net parts.inputs) nets).0 h.0,
      (Decides-are_new same_net Decides-eqb nets).0 (same_new [] nets ∙ h.1),
    )

-- ---- outputs

few_nets : (count : ℕ) (nets : List ℕ) → AreDistinctNets count nets → length nets ≤ count
few_nets count nets h =
    length-le_from_distinct_below nets count
    (IsDistinct-from_AllPairs Decides-eqb nets (λ i j d lt inside e.
    let same : i ≡ j = h.distinct i j (get_or nets i d) (slice_get-get_or nets i d (omega arith)) (slice_get-get_or nets j d inside ∙ ap Some (sym e)) in
    absurd (omega arith)))
    (λ q there. let at = (Decides-list_any same_net Decides-eqb q nets).0 there in subst (λ (n : ℕ). n < count) at.2 (h.within at.0 q at.1))

name_within : (parts : Parts) (n : ℕ) (name : List ℕ) → IsSound parts → All (λ (net : ℕ). net < length parts.nets) (take n (nets_found parts.finds name))
name_within parts n name sound = λ k d lt.
    let found = nets_found parts.finds name in
    let all = found_within (length parts.nets) parts.finds name sound.names.finds in
    let inside : k < n = omega (arith, length-take n found) in
    let there : k < length found = omega (arith, length-take n found) in
    subst (λ (net : ℕ). net < length parts.nets) (sym (get_or-take n found k d inside)) (all k d there)

bits_within : (parts : Parts) (names : List (List ℕ)) → IsSound parts → All (λ (net : ℕ). net < length parts.nets) (bits_of_all parts names)
bits_within parts [] sound = λ k d lt. absurd (omega arith)
bits_within parts (name ∷ names) sound = All-append (λ (net : ℕ). net < length parts.nets) (bits_of parts name) (bits_of_all parts names) (name_within parts 4294967296 name sound) (bits_within parts names sound)

output_room : (parts : Parts) (line : ℕ) (before : List (List ℕ)) (name : List ℕ) → output_fault parts line before name ≡ None → length (bits_of_all parts before) + length (bits_of parts name) ≤ greatest_outputs
output_room parts line before name none =
    elim (cases_Bool (is_unknown parts name)) [
      | inl e ↦ absurd (some_none (output_fault parts line before name) (UnknownNet line) (output_unknown parts line before name e) none)
      | inr e ↦ elim (cases_lt greatest_outputs (length (bits_of_all parts before) + length (bits_of parts name))) [
        | inl lt ↦ absurd (some_none (output_fault parts line before name) (Limit line)
            (output_many parts line before name e (sym (lt-leb (length (bits_of_all parts before) + length (bits_of parts name)) greatest_outputs lt))) none)
        | inr le ↦ le
      ]
    ]

outputs_few : (parts : Parts) (line : ℕ) (before names : List (List ℕ)) → first_fault_behind (output_fault parts line) before names ≡ None → length (bits_of_all parts before) ≤ greatest_outputs
    → length (bits_of_all parts before) + length (bits_of_all parts names) ≤ greatest_outputs
outputs_few parts line before [] e few = omega arith
outputs_few parts line before (name ∷ names) e few =
    let p = clean_first (output_fault parts line) before name names e in
    let room = output_room parts line before name p.0 in
    let long : length (bits_of_all parts (before ++ name ∷ [])) ≡ length (bits_of_all parts before) + length (bits_of parts name)
    = ap length (bits_push parts before name) ∙ length-append (bits_of_all parts before) (bits_of parts name) in
    let rest = outputs_few parts line (before ++ name ∷ []) names p.1 (omega arith) in
    omega (arith, length-append (bits_of parts name) (bits_of_all parts names))

outputs_lawful : (parts : Parts) (line : ℕ) (names : Option (List (List ℕ))) → outputs_fault parts line names ≡ None → IsSound parts
    → All (λ (net : ℕ). net < length parts.nets) (output_bits parts names) × (length (output_bits parts names) ≤ greatest_outputs)
outputs_lawful parts line None e sound = (sound.outputs.within, omega (arith, few_nets (length parts.nets) parts.outputs sound.outputs, sound.cells.few_nets))
outputs_lawful parts line (Some names) e sound = (bits_within parts names sound, omega (arith, outputs_few parts line [] names e (omega arith)))

-- ---- lines

width_is : (inputs outputs : ℕ) (what : StimulusWhat) → has_width inputs outputs what ≡ true → HasWidth inputs outputs what
width_is inputs outputs (Values values) e = eqb-true (length values) inputs e
width_is inputs outputs Strobe e = tt
width_is inputs outputs (Expect wanted) e = eqb-true (length wanted) outputs e

width_clean : (inputs outputs : ℕ) (line : VectorLine) → width_fault inputs outputs line ≡ None → HasWidth inputs outputs line.what
width_clean inputs outputs line none =
    elim (cases_Bool (has_width inputs outputs line.what)) [
      | inl e ↦ width_is inputs outputs line.what e
      | inr e ↦ (let some : width_fault inputs outputs line ≡ Some (Width line.line) = rw e refl in
          absurd (some_none (width_fault inputs outputs line) (Width line.line) some none))
    ]

abbrev wrong_width : ℕ → ℕ → List VectorLine → VectorLine → Option BindFault
wrong_width inputs outputs before line = width_fault inputs outputs line

widths_clean : (inputs outputs : ℕ) (before lines : List VectorLine) → first_fault_behind (wrong_width inputs outputs) before lines ≡ None → All (λ (line : VectorLine). HasWidth inputs outputs line.what) lines
widths_clean inputs outputs before [] e = λ k d lt. absurd (omega arith)
widths_clean inputs outputs before (line ∷ lines) e = λ k d lt. width_at inputs outputs line lines (width_clean inputs outputs line (clean_first (wrong_width inputs outputs) before line lines e).0)
    (widths_clean inputs outputs (before ++ line ∷ []) lines (clean_first (wrong_width inputs outputs) before line lines e).1) k d lt
  where
    width_at : (inputs outputs : ℕ) (line : VectorLine) (lines : List VectorLine) → HasWidth inputs outputs line.what → All (λ (l : VectorLine). HasWidth inputs outputs l.what) lines
        → All (λ (l : VectorLine). HasWidth inputs outputs l.what) (line ∷ lines)
    width_at inputs outputs line lines first rest zero d lt = first
    width_at inputs outputs line lines first rest (suc k) d lt = rest k d (omega arith)

abbrev Follows : StimulusLine → StimulusLine → Type 0
Follows a b = MayFollow a.what a.time b.what b.time

ordered_map : (lines : List VectorLine) → AllPairs (λ (a b : VectorLine). MayFollow a.what a.time b.what b.time) lines → AllPairs Follows (map stimulus_line lines)
ordered_map lines order = λ i j d lt inside.
    let below : j < length lines = omega (arith, length-map lines stimulus_line) in
    let other : VectorLine = record { line = 0; time = d.time; what = d.what } in
    let a = get_or-map stimulus_line lines i other d (omega arith) in
    let b = get_or-map stimulus_line lines j other d below in
    subst (λ (x : StimulusLine). Follows x (get_or (map stimulus_line lines) j d)) (sym a)
    (subst (λ (y : StimulusLine). Follows (stimulus_line (get_or lines i other)) y) (sym b) (order i j other lt below))

-- ---- the stimulus

pub stimulus_lawful : (parts : Parts) (vectors : Vectors) (inputs outputs : List ℕ) (lines : List StimulusLine) → IsSound parts → inputs_bound parts vectors.inputs_line vectors.inputs ≡ Ok inputs
    → outputs_bound parts vectors.outputs_line vectors.outputs ≡ Ok outputs → lines_bound (length inputs) (length outputs) vectors.lines ≡ Ok lines → AreInOrder vectors → IsLawful parts (stimulus_with parts vectors inputs outputs lines)
stimulus_lawful parts vectors inputs outputs lines sound i o l order =
    let nets = bits_of_all parts vectors.inputs in
    let reads = output_bits parts vectors.outputs in
    let first = bits_passed nets (first_fault (input_fault parts vectors.inputs_line) vectors.inputs) inputs i in
    let second = bits_passed reads (outputs_fault parts vectors.outputs_line vectors.outputs) outputs o in
    let third = lines_passed vectors.lines (first_fault (wrong_width (length inputs) (length outputs)) vectors.lines) lines l in
    let ins = inputs_lawful parts vectors.inputs_line vectors.inputs first.0 in
    let outs = outputs_lawful parts vectors.outputs_line vectors.outputs second.0 sound in
    let wide : All (λ (line : StimulusLine). HasWidth (length inputs) (length outputs) line.what) (map stimulus_line vectors.lines)
    = All-map (λ (line : StimulusLine). HasWidth (length inputs) (length outputs) line.what) stimulus_line vectors.lines (widths_clean (length inputs) (length outputs) [] vectors.lines third.0) in
    let within : All (λ (line : StimulusLine). line.time ≤ vectors.end) (map stimulus_line vectors.lines) = All-map (λ (line : StimulusLine). line.time ≤ vectors.end) stimulus_line vectors.lines order.within in
    record {
      inputs = subst (λ (xs : List ℕ). All (Contains parts.inputs) xs) first.1 ins.0;
      distinct = subst (λ (xs : List ℕ). AreDistinct xs) first.1 ins.1;
      outputs = subst (λ (xs : List ℕ). All (λ (net : ℕ). net < length parts.nets) xs) second.1 outs.0;
      few_outputs = subst (λ (xs : List ℕ). length xs ≤ greatest_outputs) second.1 outs.1;
      widths = subst (λ (ls : List StimulusLine). All (λ (line : StimulusLine). HasWidth (length inputs) (length outputs) line.what) ls) third.1 wide;
      order = subst (λ (ls : List StimulusLine). AllPairs Follows ls) third.1 (ordered_map vectors.lines order.order);
      within = subst (λ (ls : List StimulusLine). All (λ (line : StimulusLine). line.time ≤ vectors.end) ls) third.1 within;
      small = order.small;
    }
