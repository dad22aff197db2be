-- What binding answers, from what its parts answer.
use Rattle.std.proofs.Common.{◌≡◌, ℕ, List, [], ◌∷◌, length, map, Option, Some, None, Result, Ok, Err, refl, sym, ap, ◌∙◌}
use Rattle.line_text.specs.Faults.{first_fault, first_there}
use Rattle.flat_net.specs.declared.parts.Parts.{Parts}
use Rattle.vector_text.specs.declared.fault.BindFault.{BindFault}
use Rattle.vector_text.specs.declared.fault.BindFault.TheVariants.{UnknownNet, NotAnInput, NamedTwice, Limit, Width, Memory}
use Rattle.vector_text.specs.declared.stimulus.StimulusLine.{StimulusLine}
use Rattle.vector_text.specs.declared.stimulus.Stimulus.{Stimulus}
use Rattle.vector_text.specs.declared.vectors.VectorLine.{VectorLine}
use Rattle.vector_text.specs.declared.vectors.Vectors.{Vectors}
use Rattle.vector_text.specs.Answers.{IsBindFault}
use Rattle.vector_text.specs.Binding.{bits_of_all, output_bits, input_fault, outputs_fault, width_fault, bind_fault, stimulus_line, lines_unless, lines_bound, stimulus_of, bound_unless, bound_of}
use Rattle.vector_text.specs.Flags.{bits_unless, inputs_bound, outputs_bound}

-- a fault of a part is one of the whole
fault_of_whole : {X Y : Type 0} (fault : BindFault) (part : Result X BindFault) (whole : Result Y BindFault) → ((found : BindFault) → part ≡ Err found → whole ≡ Err found) → IsBindFault fault part → IsBindFault fault whole
fault_of_whole (UnknownNet line) part whole lifted h = lifted (UnknownNet line) h
fault_of_whole (NotAnInput line) part whole lifted h = lifted (NotAnInput line) h
fault_of_whole (NamedTwice line) part whole lifted h = lifted (NamedTwice line) h
fault_of_whole (Limit line) part whole lifted h = lifted (Limit line) h
fault_of_whole (Width line) part whole lifted h = lifted (Width line) h
fault_of_whole Memory part whole lifted h = tt

bits_failed : (bits : List ℕ) (o : Option BindFault) (found : BindFault) → bits_unless bits o ≡ Err found → o ≡ Some found
bits_failed bits None found e = absurd cc
bits_failed bits (Some fault) found e =
    let same : fault ≡ found = cc in
    ap Some same

pub bits_passed : (bits : List ℕ) (o : Option BindFault) (given : List ℕ) → bits_unless bits o ≡ Ok given → (o ≡ None) × (bits ≡ given)
bits_passed bits None given e = (refl, (let same : bits ≡ given = cc in same))
bits_passed bits (Some fault) given e = absurd cc

lines_failed : (lines : List VectorLine) (o : Option BindFault) (found : BindFault) → lines_unless lines o ≡ Err found → o ≡ Some found
lines_failed lines None found e = absurd cc
lines_failed lines (Some fault) found e =
    let same : fault ≡ found = cc in
    ap Some same

pub lines_passed : (lines : List VectorLine) (o : Option BindFault) (given : List StimulusLine) → lines_unless lines o ≡ Ok given → (o ≡ None) × (map stimulus_line lines ≡ given)
lines_passed lines None given e = (refl, (let same : map stimulus_line lines ≡ given = cc in same))
lines_passed lines (Some fault) given e = absurd cc

first_of : (a b c : Option BindFault) (found : BindFault) → a ≡ Some found → first_there (a ∷ b ∷ c ∷ []) ≡ Some found
first_of a b c found e = rw e refl

second_of : (a b c : Option BindFault) (found : BindFault) → a ≡ None → b ≡ Some found → first_there (a ∷ b ∷ c ∷ []) ≡ Some found
second_of a b c found e f = rw (e, f) refl

third_of : (a b c : Option BindFault) (found : BindFault) → a ≡ None → b ≡ None → c ≡ Some found → first_there (a ∷ b ∷ c ∷ []) ≡ Some found
third_of a b c found e f g = rw (e, f, g) refl

none_of : (a b c : Option BindFault) → a ≡ None → b ≡ None → c ≡ None → first_there (a ∷ b ∷ c ∷ []) ≡ None
none_of a b c e f g = rw (e, f, g) refl

-- ---- what the parts are asked

pub same_inputs : (parts : Parts) (vectors : Vectors) (line : ℕ) (names : List (List ℕ)) → line ≡ vectors.inputs_line → names ≡ vectors.inputs → inputs_bound parts vectors.inputs_line vectors.inputs ≡ inputs_bound parts line names
same_inputs parts vectors line names e f = ap (λ (n : ℕ). inputs_bound parts n vectors.inputs) (sym e) ∙ ap (λ (ns : List (List ℕ)). inputs_bound parts line ns) (sym f)

pub same_outputs : (parts : Parts) (vectors : Vectors) (line : ℕ) → line ≡ vectors.outputs_line → outputs_bound parts vectors.outputs_line vectors.outputs ≡ outputs_bound parts line vectors.outputs
same_outputs parts vectors line e = ap (λ (n : ℕ). outputs_bound parts n vectors.outputs) (sym e)

pub same_bound : (given inputs other outputs : List ℕ) (lines all : List VectorLine) → given ≡ inputs → other ≡ outputs → lines ≡ all → lines_bound (length inputs) (length outputs) all ≡ lines_bound (length given) (length other) lines
same_bound given inputs other outputs lines all e f g =
    ap (λ (nets : List ℕ). lines_bound (length nets) (length outputs) all) (sym e) ∙ ap (λ (nets : List ℕ). lines_bound (length given) (length nets) all) (sym f)
    ∙ ap (lines_bound (length given) (length other)) (sym g)

module _ (parts : Parts) (vectors : Vectors) where
  -- the faults of the three parts
  abbrev in_inputs : Option BindFault
  in_inputs = first_fault (input_fault parts vectors.inputs_line) vectors.inputs

  abbrev in_outputs : Option BindFault
  in_outputs = outputs_fault parts vectors.outputs_line vectors.outputs

  abbrev in_lines : ℕ → ℕ → Option BindFault
  in_lines inputs outputs = first_fault (λ before. width_fault inputs outputs) vectors.lines

  abbrev in_all : Option BindFault
  in_all = in_lines (length (bits_of_all parts vectors.inputs)) (length (output_bits parts vectors.outputs))

  whole_is : bound_of parts vectors ≡ bound_unless parts vectors (first_there (in_inputs ∷ in_outputs ∷ in_all ∷ []))
  unfolding bound_of bind_fault
  whole_is = refl

  abbrev whole : Option BindFault → Result Stimulus BindFault
  whole = bound_unless parts vectors

  pub inputs_failed : (fault : BindFault) → IsBindFault fault (inputs_bound parts vectors.inputs_line vectors.inputs) → IsBindFault fault (bound_of parts vectors)
  inputs_failed fault h =
      fault_of_whole fault (inputs_bound parts vectors.inputs_line vectors.inputs) (bound_of parts vectors)
      (λ found e. whole_is ∙ ap whole (first_of in_inputs in_outputs in_all found (bits_failed (bits_of_all parts vectors.inputs) in_inputs found e))) h

  pub outputs_failed : (inputs : List ℕ) (fault : BindFault) → inputs_bound parts vectors.inputs_line vectors.inputs ≡ Ok inputs → IsBindFault fault (outputs_bound parts vectors.outputs_line vectors.outputs) → IsBindFault fault (bound_of parts vectors)
  outputs_failed inputs fault i h =
      let first = bits_passed (bits_of_all parts vectors.inputs) in_inputs inputs i in
      fault_of_whole fault (outputs_bound parts vectors.outputs_line vectors.outputs) (bound_of parts vectors)
      (λ found e. whole_is ∙ ap whole (second_of in_inputs in_outputs in_all found first.0 (bits_failed (output_bits parts vectors.outputs) in_outputs found e))) h

  -- the widths of bound inputs and outputs
  same_lines : (inputs outputs : List ℕ) → bits_of_all parts vectors.inputs ≡ inputs → output_bits parts vectors.outputs ≡ outputs → in_all ≡ in_lines (length inputs) (length outputs)
  same_lines inputs outputs i o = ap (λ (nets : List ℕ). in_lines (length nets) (length (output_bits parts vectors.outputs))) i ∙ ap (λ (nets : List ℕ). in_lines (length inputs) (length nets)) o

  pub all_failed : (inputs outputs : List ℕ) (fault : BindFault) → inputs_bound parts vectors.inputs_line vectors.inputs ≡ Ok inputs → outputs_bound parts vectors.outputs_line vectors.outputs ≡ Ok outputs
      → IsBindFault fault (lines_bound (length inputs) (length outputs) vectors.lines) → IsBindFault fault (bound_of parts vectors)
  all_failed inputs outputs fault i o h =
      let first = bits_passed (bits_of_all parts vectors.inputs) in_inputs inputs i in
      let second = bits_passed (output_bits parts vectors.outputs) in_outputs outputs o in
      let same = same_lines inputs outputs first.1 second.1 in
      fault_of_whole fault (lines_bound (length inputs) (length outputs) vectors.lines) (bound_of parts vectors)
      (λ found e. whole_is ∙ ap whole (third_of in_inputs in_outputs in_all found first.0 second.0 (same ∙ lines_failed vectors.lines (in_lines (length inputs) (length outputs)) found e))) h

  abbrev pub stimulus_with : List ℕ → List ℕ → List StimulusLine → Stimulus
  stimulus_with inputs outputs lines = record { inputs = inputs; outputs = outputs; lines = lines; end = vectors.end }

  stimulus_is : stimulus_of parts vectors ≡ stimulus_with (bits_of_all parts vectors.inputs) (output_bits parts vectors.outputs) (map stimulus_line vectors.lines)
  unfolding stimulus_of
  stimulus_is = refl

  pub all_bound : (inputs outputs : List ℕ) (lines : List StimulusLine) → inputs_bound parts vectors.inputs_line vectors.inputs ≡ Ok inputs → outputs_bound parts vectors.outputs_line vectors.outputs ≡ Ok outputs
      → lines_bound (length inputs) (length outputs) vectors.lines ≡ Ok lines → bound_of parts vectors ≡ Ok (stimulus_with inputs outputs lines)
  all_bound inputs outputs lines i o l =
      let first = bits_passed (bits_of_all parts vectors.inputs) in_inputs inputs i in
      let second = bits_passed (output_bits parts vectors.outputs) in_outputs outputs o in
      let third = lines_passed vectors.lines (in_lines (length inputs) (length outputs)) lines l in
      let same = same_lines inputs outputs first.1 second.1 in
      whole_is ∙ ap whole (none_of in_inputs in_outputs in_all first.0 second.0 (same ∙ third.0)) ∙ ap Ok (stimulus_is
      ∙ ap (λ (nets : List ℕ). stimulus_with nets (output_bits parts vectors.outputs) (map stimulus_line vectors.lines)) first.1
      ∙ ap (λ (nets : List ℕ). stimulus_with inputs nets (map stimulus_line vectors.lines)) second.1
      ∙ ap (stimulus_with inputs outputs) third.1)
