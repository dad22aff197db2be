-- What vectors mean for a netlist, or their first fault.
use Rattle.std.specs.Prelude.{ℕ, ◌+◌, ◌^◌, Bool, true, not, ◌&&◌, List, [], ◌∷◌, ◌++◌, length, map, flat_map, take, Option, Some, None, Result, Ok, Err, nat_lt, ◌==◌}
use Rattle.std.specs.List.{list_all, list_any}
use Rattle.line_text.specs.Faults.{fault_if, first_there, first_fault}
use Rattle.flat_net.specs.Names.{nets_found}
use Rattle.flat_net.specs.declared.parts.Parts.{Parts}
use Rattle.vector_text.specs.declared.fault.BindFault.{BindFault}
use Rattle.vector_text.specs.declared.fault.BindFault.TheVariants.{UnknownNet, NotAnInput, NamedTwice, Limit, Width}
use Rattle.vector_text.specs.declared.stimulus.StimulusLine.{StimulusLine}
use Rattle.vector_text.specs.declared.stimulus.StimulusWhat.{StimulusWhat}
use Rattle.vector_text.specs.declared.stimulus.StimulusWhat.TheVariants.{Values, Strobe, Expect}
use Rattle.vector_text.specs.declared.stimulus.Stimulus.{Stimulus}
use Rattle.vector_text.specs.declared.vectors.VectorLine.{VectorLine}
use Rattle.vector_text.specs.declared.vectors.Vectors.{Vectors}
use Rattle.vector_text.specs.Lawful.{greatest_outputs}

-- the bits of a name, from the left; places of bits are numbers below 2^32
abbrev pub bits_of : Parts → List ℕ → List ℕ
bits_of parts name = take (2 ^ 32) (nets_found parts.finds name)

abbrev pub bits_of_all : Parts → List (List ℕ) → List ℕ
bits_of_all parts names = flat_map (bits_of parts) names

-- a net is among others
abbrev pub is_net_among : List ℕ → ℕ → Bool
is_net_among nets net = list_any (λ other. net == other) nets

-- no net stands twice, nor among those before
abbrev pub are_new : List ℕ → List ℕ → Bool
are_new before [] = true
are_new before (net ∷ nets) = not (is_net_among before net) && are_new (before ++ net ∷ []) nets

-- the name is that of no net
abbrev pub is_unknown : Parts → List ℕ → Bool
is_unknown parts name = length (bits_of parts name) == 0

-- what is wrong with a name of an input behind others
unfoldable pub input_fault : Parts → ℕ → List (List ℕ) → List ℕ → Option BindFault
input_fault parts line before name =
    first_there (
    fault_if (is_unknown parts name) (UnknownNet line)
    ∷ fault_if (not (list_all (is_net_among parts.inputs) (bits_of parts name))) (NotAnInput line)
    ∷ fault_if (not (are_new (bits_of_all parts before) (bits_of parts name))) (NamedTwice line)
    ∷ [])

-- what is wrong with a name of outputs behind others
unfoldable pub output_fault : Parts → ℕ → List (List ℕ) → List ℕ → Option BindFault
output_fault parts line before name =
    first_there (
    fault_if (is_unknown parts name) (UnknownNet line)
    ∷ fault_if (nat_lt greatest_outputs (length (bits_of_all parts before) + length (bits_of parts name))) (Limit line)
    ∷ [])

-- what is wrong with the outputs line, where there is one
abbrev pub outputs_fault : Parts → ℕ → Option (List (List ℕ)) → Option BindFault
outputs_fault parts line None = None
outputs_fault parts line (Some names) = first_fault (output_fault parts line) names

-- the output bits: those of the names, or all of the top
abbrev pub output_bits : Parts → Option (List (List ℕ)) → List ℕ
output_bits parts None = parts.outputs
output_bits parts (Some names) = bits_of_all parts names

-- the line has as many values as inputs, or as many expected values as outputs
abbrev pub has_width : ℕ → ℕ → StimulusWhat → Bool
has_width inputs outputs (Values values) = length values == inputs
has_width inputs outputs Strobe = true
has_width inputs outputs (Expect wanted) = length wanted == outputs

abbrev pub width_fault : ℕ → ℕ → VectorLine → Option BindFault
width_fault inputs outputs line = fault_if (not (has_width inputs outputs line.what)) (Width line.line)

-- the first fault: that of the inputs line, of the outputs line, and of the lines with values
unfoldable pub bind_fault : Parts → Vectors → Option BindFault
bind_fault parts vectors =
    first_there (
    first_fault (input_fault parts vectors.inputs_line) vectors.inputs
    ∷ outputs_fault parts vectors.outputs_line vectors.outputs
    ∷ first_fault
    (λ before. width_fault (length (bits_of_all parts vectors.inputs)) (length (output_bits parts vectors.outputs)))
    vectors.lines
    ∷ [])

abbrev pub stimulus_line : VectorLine → StimulusLine
stimulus_line line = record { time = line.time; what = line.what }

abbrev pub lines_unless : List VectorLine → Option BindFault → Result (List StimulusLine) BindFault
lines_unless lines (Some fault) = Err fault
lines_unless lines None = Ok (map stimulus_line lines)

-- the lines of a stimulus with so many inputs and outputs, or the first fault
abbrev pub lines_bound : ℕ → ℕ → List VectorLine → Result (List StimulusLine) BindFault
lines_bound inputs outputs lines = lines_unless lines (first_fault (λ before. width_fault inputs outputs) lines)

-- the stimulus of vectors without fault
unfoldable pub stimulus_of : Parts → Vectors → Stimulus
stimulus_of parts vectors = record {
  inputs = bits_of_all parts vectors.inputs;
  outputs = output_bits parts vectors.outputs;
  lines = map stimulus_line vectors.lines;
  end = vectors.end;
}

abbrev pub bound_unless : Parts → Vectors → Option BindFault → Result Stimulus BindFault
bound_unless parts vectors (Some fault) = Err fault
bound_unless parts vectors None = Ok (stimulus_of parts vectors)

-- what vectors mean for a netlist, or their first fault
unfoldable pub bound_of : Parts → Vectors → Result Stimulus BindFault
bound_of parts vectors = bound_unless parts vectors (bind_fault parts vectors)
