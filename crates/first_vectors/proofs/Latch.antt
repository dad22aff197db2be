-- What the definitions say of small texts, for the nets of a latch.
use Rattle.std.proofs.Common.{◌≡◌, ℕ, List, [], ◌∷◌, ◌++◌, map, Some, None, refl}
use Rattle.std.specs.Prelude.{codes}
use Rattle.level_range.specs.declared.range.Logic.TheVariants.{Zero, One}
use Rattle.gate_net.specs.declared.netlist.Netlist.{Netlist}
use Rattle.gate_net.specs.declared.stimulus.Stimulus.{Stimulus}
use Rattle.first_vectors.specs.Fields.{fields_of, name_in, table_of, number_after, within_limit, time_of}
use Rattle.first_vectors.specs.Reading.{values_of, input_named, inputs_named, input_list, inputs_of, end_row, value_row, row_of, rows_of, stimulus_after, stimulus_in, stimulus_of}

abbrev latch : Netlist
latch = record { names = codes "q" ∷ codes "qn" ∷ codes "s" ∷ codes "r" ∷ []; inputs = 2 ∷ 3 ∷ []; outputs = 0 ∷ 1 ∷ []; gates = [] }

-- a line, with its line feed
abbrev line : List ℕ → List ℕ
line bytes = bytes ++ 10 ∷ []

abbrev text : List ℕ
text = line (codes "vectors 1") ++ line (codes "inputs s r") ++ line (codes "0 01") ++ line (codes "10 11") ++ line (codes "20 10") ++ codes "end 30"

said : Stimulus
said = record {
  inputs = 2 ∷ 3 ∷ [];
  lines = record { time = 0; values = Zero ∷ One ∷ [] } ∷ record { time = 10; values = One ∷ One ∷ [] } ∷ record { time = 20; values = One ∷ Zero ∷ [] } ∷ [];
  end = 30;
}

whole : stimulus_of latch text ≡ Some said
unfolding said number_after within_limit time_of table_of values_of input_named inputs_named input_list inputs_of end_row value_row row_of rows_of stimulus_after stimulus_in stimulus_of
whole = refl

fed : stimulus_of latch (line text) ≡ Some said
unfolding said number_after within_limit time_of table_of values_of input_named inputs_named input_list inputs_of end_row value_row row_of rows_of stimulus_after stimulus_in stimulus_of
fed = refl

equal_times : stimulus_of latch (line (codes "vectors 1") ++ line (codes "inputs s") ++ line (codes "3 0") ++ line (codes "3 1") ++ codes "end 4") ≡ None
unfolding number_after within_limit time_of table_of values_of input_named inputs_named input_list inputs_of end_row value_row row_of rows_of stimulus_after stimulus_in stimulus_of
equal_times = refl

empty_line_behind : stimulus_of latch (line (line text)) ≡ None
unfolding number_after within_limit time_of table_of values_of input_named inputs_named input_list inputs_of end_row value_row row_of rows_of stimulus_after stimulus_in stimulus_of
empty_line_behind = refl

two_spaces : fields_of (codes "a  b ") ≡ codes "a" ∷ [] ∷ codes "b" ∷ [] ∷ []
two_spaces = refl

-- the fields are \s+ and r and \r: each that begins with a backslash, byte 92, has its space
escaped_names : map name_in (fields_of (92 ∷ codes "s+ r " ++ 92 ∷ codes "r")) ≡ (92 ∷ codes "s+ ") ∷ codes "r" ∷ (92 ∷ codes "r ") ∷ []
escaped_names = refl
