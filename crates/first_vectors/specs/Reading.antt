-- What a text of the first vector form says, from its first line to its last.
use Rattle.std.specs.Prelude.{ℕ, ◌+◌, Bool, false, ◌&&◌, List, [], ◌∷◌, length, map, find, codes, Option, Some, None, nat_le, ◌==◌, if◌then◌else◌, slice_index_or}
use Rattle.std.specs.Str.{bytes_eq}
use Rattle.level_range.specs.declared.range.Logic.{Logic}
use Rattle.level_range.specs.declared.range.Logic.TheVariants.{Zero, One}
use Rattle.gate_net.specs.declared.netlist.Netlist.{Netlist}
use Rattle.gate_net.specs.declared.stimulus.ValueLine.{ValueLine}
use Rattle.gate_net.specs.declared.stimulus.Stimulus.{Stimulus}
use Rattle.name_table.specs.Names.{is_distinct}
use Rattle.first_vectors.specs.declared.row.Row.{Row}
use Rattle.first_vectors.specs.declared.row.Row.TheVariants.{Values, End}
use Rattle.gate_net.specs.Steps.{◌>>=◌, each}
use Rattle.first_vectors.specs.Fields.{name_in, table_of, two_of, time_of}

-- the value of a byte 0 or 1
abbrev pub value_of : ℕ → Option Logic
value_of b = if b == 48 then Some Zero else if b == 49 then Some One else None

-- the values of a field, one for each byte
unfoldable pub values_of : List ℕ → Option (List Logic)
values_of field = each value_of field

-- the name of a net
abbrev pub name_of : Netlist → ℕ → List ℕ
name_of netlist net = slice_index_or netlist.names net []

-- the names of the inputs, in port order
abbrev pub input_names : Netlist → List (List ℕ)
input_names netlist = map (name_of netlist) netlist.inputs

-- the input of that name
unfoldable pub input_named : Netlist → List ℕ → Option ℕ
input_named netlist name = find (λ net. bytes_eq name (name_of netlist net)) netlist.inputs

-- the inputs of these names
unfoldable pub inputs_named : Netlist → List (List ℕ) → Option (List ℕ)
inputs_named netlist names = each (input_named netlist) names

-- the inputs of one or more names, of which none stands twice
unfoldable pub input_list : Netlist → List (List ℕ) → Option (List ℕ)
input_list netlist [] = None
input_list netlist (name ∷ names) =
    if is_distinct (name ∷ names) then inputs_named netlist (name ∷ names) else None

-- the inputs whose names the fields of the second line say
unfoldable pub inputs_of : Netlist → List (List ℕ) → Option (List ℕ)
inputs_of netlist [] = None
inputs_of netlist (word ∷ fields) =
    if bytes_eq word (codes "inputs") then input_list netlist (map name_in fields) else None

-- a last line, whose time is at least that of the line before: least is one more than that
unfoldable pub end_row : ℕ → List ℕ → Option Row
end_row least field = do
  time ← time_of field
  if nat_le least (time + 1) then Some (End time) else None

-- a value line at a time
abbrev pub value_row_at : ℕ → List ℕ → Option Row
value_row_at time second = do
  values ← values_of second
  Some (Values (record { time = time; values = values }))

-- a value line, whose time is at least least
unfoldable pub value_row : ℕ → ℕ → List ℕ → List ℕ → Option Row
value_row width least first second = do
  time ← time_of first
  if nat_le least time && (length second == width) then value_row_at time second else None

-- a line of two fields
unfoldable pub row_of : ℕ → ℕ → List (List ℕ) → Option Row
row_of width least fields = do
  two ← two_of fields
  if bytes_eq two.0 (codes "end") then end_row least two.1 else value_row width least two.0 two.1

-- what a line says with those behind it: the end stands last, and behind a value line stand others
abbrev pub with_row : Row → List (List (List ℕ)) → (ℕ → Option (List ValueLine × ℕ))
    → Option (List ValueLine × ℕ)
with_row (End time) [] later = Some ([], time)
with_row (End time) (other ∷ others) later = None
with_row (Values line) others later = later (line.time + 1) >>= λ x. Some (line ∷ x.0, x.1)

-- the value lines and the end, at times from least on
unfoldable pub rows_of : ℕ → ℕ → List (List (List ℕ)) → Option (List ValueLine × ℕ)
rows_of width least [] = None
rows_of width least (fields ∷ others) = do
  row ← row_of width least fields
  with_row row others (λ next. rows_of width next others)

-- the fields of the first line
abbrev pub is_first : List (List ℕ) → Bool
is_first [] = false
is_first (word ∷ []) = false
is_first (word ∷ form ∷ []) = bytes_eq word (codes "vectors") && bytes_eq form (codes "1")
is_first (word ∷ form ∷ third ∷ others) = false

-- the stimulus that the lines behind the first two say
unfoldable pub stimulus_after : Netlist → List (List ℕ) → List (List (List ℕ)) → Option Stimulus
stimulus_after netlist second rows = do
  inputs ← inputs_of netlist second
  x ← rows_of (length inputs) 0 rows
  Some (record { inputs = inputs; lines = x.0; end = x.1 })

-- the stimulus that a table of fields says
unfoldable pub stimulus_in : Netlist → List (List (List ℕ)) → Option Stimulus
stimulus_in netlist [] = None
stimulus_in netlist (first ∷ []) = None
stimulus_in netlist (first ∷ second ∷ rows) =
    if is_first first then stimulus_after netlist second rows else None

-- the stimulus that a text says
unfoldable pub stimulus_of : Netlist → List ℕ → Option Stimulus
stimulus_of netlist text = stimulus_in netlist (table_of text)

-- the time of a line
abbrev pub time_at : Row → ℕ
time_at (Values line) = line.time
time_at (End time) = time
