-- The first vector form: which texts are in it, and which stimulus each of them says.
use Rattle.std.specs.Prelude.{◌≡◌, ℕ, ◌<◌, List, [], ◌∷◌, ◌++◌, length, map, codes, Some}
use Rattle.std.specs.List.{AllZip, Contains}
use Rattle.level_range.specs.declared.range.Logic.{Logic}
use Rattle.level_range.specs.declared.range.Logic.TheVariants.{Zero, One, X, Z}
use Rattle.gate_net.specs.declared.netlist.Netlist.{Netlist}
use Rattle.gate_net.specs.declared.stimulus.ValueLine.{ValueLine}
use Rattle.gate_net.specs.declared.stimulus.Stimulus.{Stimulus}
use Rattle.gate_net.specs.Sound.{IsLawful}
use Rattle.first_vectors.specs.Fields.{lines_of, fields_of, name_in, time_of}
use Rattle.first_vectors.specs.Reading.{name_of}

-- the byte is 0 or 1, and says that value
abbrev pub IsValue : ℕ → Logic → Type 0
IsValue b Zero = b ≡ 48
IsValue b One = b ≡ 49
IsValue b X = ⊥
IsValue b Z = ⊥

-- the first field of a row says the time of the line, the second its values, a byte for each
pub record IsRow (row : List ℕ × List ℕ) (line : ValueLine) : Type 0 where
  pub time : time_of row.0 ≡ Some line.time
  pub values : AllZip IsValue row.1 line.values

-- the net is an input of that name
pub record IsInput (netlist : Netlist) (name : List ℕ) (net : ℕ) : Type 0 where
  pub input : Contains netlist.inputs net
  pub called : name_of netlist net ≡ name

-- both fields of a row
abbrev pub row_fields : List ℕ × List ℕ → List (List ℕ)
row_fields row = row.0 ∷ row.1 ∷ []

-- the fields of the lines: vectors 1, inputs and the spelled names, the rows, end and its time
abbrev pub spelling : List (List ℕ) → List (List ℕ × List ℕ) → List ℕ → List (List (List ℕ))
spelling names rows last =
    (codes "vectors" ∷ codes "1" ∷ [])
    ∷ (codes "inputs" ∷ names)
    ∷ (map row_fields rows ++ (codes "end" ∷ last ∷ []) ∷ [])

-- The text is in the first vector form and says the stimulus. Its lines list one or more inputs by
-- name, rows of a time and values, and the end. A name is spelled by a field: that of an escaped
-- name lacks the space at its end. What the lines say is lawful: no input twice, a value for each
-- input, rising times, and an end that is neither below the last of them nor above 2 ^ 40.
pub record IsFirstVectors (netlist : Netlist) (text : List ℕ) (stimulus : Stimulus) : Type 0 where
  pub names : List (List ℕ)
  pub rows : List (List ℕ × List ℕ)
  pub last : List ℕ
  pub spelled : map fields_of (lines_of text) ≡ spelling names rows last
  pub some : 0 < length names
  pub inputs : AllZip (IsInput netlist) (map name_in names) stimulus.inputs
  pub lines : AllZip IsRow rows stimulus.lines
  pub end : time_of last ≡ Some stimulus.end
  pub lawful : IsLawful netlist stimulus
