-- For the code alone: lists of nets as flags, one for each net of a netlist.
use Rattle.std.specs.Prelude.{ℕ, Bool, List, map, Option, Some, None, Result, Ok, Err}
use Rattle.std.specs.List.{range_with_len}
use Rattle.line_text.specs.Faults.{first_fault}
use Rattle.flat_net.specs.declared.parts.Parts.{Parts}
use Rattle.vector_text.specs.declared.fault.BindFault.{BindFault}
use Rattle.vector_text.specs.Binding.{is_net_among, bits_of_all, input_fault, outputs_fault, output_bits}

-- for each of so many nets, whether it is among these
abbrev pub flags_of : List ℕ → ℕ → List Bool
flags_of nets count = map (is_net_among nets) (range_with_len 0 count)

abbrev pub bits_unless : List ℕ → Option BindFault → Result (List ℕ) BindFault
bits_unless bits (Some fault) = Err fault
bits_unless bits None = Ok bits

-- the bits of the inputs line, or its first fault
abbrev pub inputs_bound : Parts → ℕ → List (List ℕ) → Result (List ℕ) BindFault
inputs_bound parts line names = bits_unless (bits_of_all parts names) (first_fault (input_fault parts line) names)

-- the bits of the outputs, or the first fault of their line
abbrev pub outputs_bound : Parts → ℕ → Option (List (List ℕ)) → Result (List ℕ) BindFault
outputs_bound parts line names = bits_unless (output_bits parts names) (outputs_fault parts line names)
