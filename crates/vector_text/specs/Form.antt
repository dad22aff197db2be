-- The form of an accepted vector text as a relation: a head, lines and blocks, and an end. It says
-- without the order of reading what the text means.
use Rattle.std.specs.Prelude.{◌≡◌, ℕ, ◌+◌, ◌<◌, ◌≤◌, List, [], ◌∷◌, ◌++◌, map, flat_map, Option, Some, None}
use Rattle.std.specs.List.{All, AllZip}
use Rattle.line_text.specs.Lines.{text_lines}
use Rattle.line_text.specs.Fields.{fields_of}
use Rattle.vector_text.specs.declared.stimulus.StimulusLine.{StimulusLine}
use Rattle.vector_text.specs.declared.vectors.VectorLine.{VectorLine}
use Rattle.vector_text.specs.declared.vectors.Vectors.{Vectors}
use Rattle.vector_text.specs.declared.said.Version.{Version}
use Rattle.vector_text.specs.declared.said.Version.TheVariants.{First, Second}
use Rattle.vector_text.specs.declared.said.Repeat.{Repeat}
use Rattle.vector_text.specs.declared.said.Said.{Said}
use Rattle.vector_text.specs.declared.said.Said.TheVariants.{Timed, Opens, Closes, Ends}
use Rattle.vector_text.specs.Sayings.{version_of, inputs_of, outputs_of, said_of}
use Rattle.vector_text.specs.Written.{Block, last_time, greatest_count, greatest_size, turns_of, total_size}
use Rattle.vector_text.specs.Lawful.{AreOrdered}

-- a timed line with its number
abbrev pub Numbered : Type 0
Numbered = ℕ × StimulusLine

-- a timed line, or a block of them with the numbers of its first and last lines
pub data Item : Type 0 where
  One : Numbered → Item
  Turns : ℕ → Repeat → List Numbered → ℕ → Item

-- what the lines of an item say, each with its number
abbrev pub said_timed : Numbered → ℕ × Said
said_timed line = (line.0, Timed line.1)

abbrev pub item_sayings : Item → List (ℕ × Said)
item_sayings (One line) = said_timed line ∷ []
item_sayings (Turns opening repeat lines closing) = (opening, Opens repeat) ∷ (map said_timed lines ++ (closing, Closes) ∷ [])

-- the line that is written out, so much later
abbrev pub line_after : ℕ → Numbered → VectorLine
line_after start line = record { line = line.0; time = start + line.1.time; what = line.1.what }

abbrev pub block_of : Repeat → List Numbered → Block
block_of repeat lines = record { repeat = repeat; lines = map (line_after repeat.start) lines }

-- what an item writes out
abbrev pub item_lines : Item → List VectorLine
item_lines (One line) = line_after 0 line ∷ []
item_lines (Turns opening repeat lines closing) = turns_of (block_of repeat lines)

-- the numbers of a block are within their limits, and its times below its period
pub record IsBlock (repeat : Repeat) (lines : List Numbered) : Type 0 where
  pub count : repeat.count ≤ greatest_count
  pub period : repeat.period ≤ last_time Second
  pub start : repeat.start ≤ last_time Second
  pub inside : All (λ line. line.1.time < repeat.period) lines

abbrev pub IsItem : Item → Type 0
IsItem (One line) = Unit {0}
IsItem (Turns opening repeat lines closing) = IsBlock repeat lines

-- a block begins no earlier than the lines before it, and the end stands no earlier either
abbrev pub FollowsAll : List VectorLine → ℕ → Type 0
FollowsAll lines time = All (λ line. line.time ≤ time) lines

abbrev pub BeginsBehind : List VectorLine → Item → Type 0
BeginsBehind before (One line) = Unit {0}
BeginsBehind before (Turns opening repeat lines closing) = FollowsAll before repeat.start

-- each block begins no earlier than all that is written out before it
abbrev pub BeginBehind : List VectorLine → List Item → Type 0
BeginBehind before [] = Unit {0}
BeginBehind before (item ∷ items) = BeginsBehind before item × BeginBehind (before ++ item_lines item) items

-- the line of a number says this
abbrev pub Says : Version → ℕ × List ℕ → ℕ × Said → Type 0
Says version line said = (line.0 ≡ said.0) × (said_of version (fields_of line.1) ≡ Some said.1)

-- the outputs line, where there is one, and the lines behind it
abbrev pub AreOutputs : Vectors → List (ℕ × List ℕ) → List (ℕ × List ℕ) → Option (List (List ℕ)) → Type 0
AreOutputs vectors lines rest None = (lines ≡ rest) × (vectors.outputs_line ≡ 0)
AreOutputs vectors lines rest (Some names) =
    (line : List ℕ) × (lines ≡ (vectors.outputs_line, line) ∷ rest) × (outputs_of line ≡ Some names)

-- the size bound of the second version
abbrev pub IsOfSize : Version → List VectorLine → Type 0
IsOfSize First lines = Unit {0}
IsOfSize Second lines = total_size lines ≤ greatest_size

-- The text is a vector text and means these vectors: a first line of the version, a line that lists
-- the inputs, perhaps one that lists the outputs, then items and the end. What the items write out is
-- in order, and within the limits of the version.
pub record IsVectors (text : List ℕ) (vectors : Vectors) : Type 0 where
  pub version : Version
  pub first : ℕ × List ℕ
  pub second : List ℕ
  pub behind : List (ℕ × List ℕ)
  pub rest : List (ℕ × List ℕ)
  pub items : List Item
  pub last : ℕ
  pub lines : text_lines text ≡ first ∷ (vectors.inputs_line, second) ∷ behind
  pub head : version_of (fields_of first.1) ≡ Some version
  pub inputs : inputs_of second ≡ Some vectors.inputs
  pub outputs : AreOutputs vectors behind rest vectors.outputs
  pub sayings : AllZip (Says version) rest (flat_map item_sayings items ++ (last, Ends vectors.end) ∷ [])
  pub blocks : All IsItem items
  pub begins : BeginBehind [] items
  pub written : vectors.lines ≡ flat_map item_lines items
  pub ordered : AreOrdered vectors.lines vectors.end
  pub times : vectors.end ≤ last_time version
  pub size : IsOfSize version vectors.lines
