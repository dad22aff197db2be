-- The text of a trace.
use Rattle.std.specs.Prelude.{ℕ, Bool, false, List, [], ◌∷◌, ◌++◌, length, map, slice_index, slice_index_or, Option, Some, None, if◌then◌else◌}
use Rattle.std.specs.Fmt.{decimal}
use Rattle.std.specs.List.{flat_map, range_with_len}
use Rattle.std.specs.Str.{bytes_eq}
use Rattle.level_range.specs.Signal.{signal_text}
use Rattle.gate_net.specs.declared.netlist.Netlist.{Netlist}
use Rattle.first_machine.specs.Machine.{Machine, net_at}

-- a line of the trace: the tick, the name and the three characters of `%v`
abbrev pub trace_line : ℕ → List ℕ → List ℕ → List ℕ
trace_line tick name text = decimal tick ++ 32 ∷ [] ++ name ++ 32 ∷ [] ++ text ++ 10 ∷ []

-- the net at a place of the outputs, its name and its text
abbrev pub output_at : Netlist → ℕ → ℕ
output_at netlist j = slice_index netlist.outputs j

abbrev pub name_of : Netlist → ℕ → List ℕ
name_of netlist n = slice_index_or netlist.names n []

abbrev pub text_at : Netlist → Machine → ℕ → List ℕ
text_at netlist m j = signal_text (net_at m (output_at netlist j)).seen

-- whether a place's last printed text is this one
abbrev pub is_printed : Option (List ℕ) → List ℕ → Bool
is_printed None text = false
is_printed (Some last) text = bytes_eq last text

-- the line of a place, where its text isn't the one last printed
abbrev pub line_at : Netlist → Machine → List (Option (List ℕ)) → ℕ → List ℕ
line_at netlist m printed j = if is_printed (slice_index_or printed j None) (text_at netlist m j) then [] else trace_line m.time (name_of netlist (output_at netlist j)) (text_at netlist m j)

abbrev pub places : Netlist → List ℕ
places netlist = range_with_len 0 (length netlist.outputs)

-- the lines of a step
abbrev pub step_text : Netlist → List (Option (List ℕ)) → Machine → List ℕ
step_text netlist printed m = flat_map (line_at netlist m printed) (places netlist)

-- what was last printed for each place, after a step
abbrev pub printed_after : Netlist → Machine → List (Option (List ℕ))
printed_after netlist m = map (λ j. Some (text_at netlist m j)) (places netlist)

-- the trace of the steps that ended
abbrev pub trace_from : Netlist → List (Option (List ℕ)) → List Machine → List ℕ
trace_from netlist printed [] = []
trace_from netlist printed (m ∷ ms) = step_text netlist printed m ++ trace_from netlist (printed_after netlist m) ms

unfoldable pub trace : Netlist → List Machine → List ℕ
trace netlist machines = trace_from netlist [] machines
