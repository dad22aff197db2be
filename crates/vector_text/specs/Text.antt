-- What a vector text means, or its first fault.
use Rattle.std.specs.Prelude.{ℕ, List, [], ◌∷◌, Option, Some, None, Result, Ok, Err}
use Rattle.line_text.specs.Lines.{text_lines}
use Rattle.line_text.specs.Fields.{fields_of}
use Rattle.line_text.specs.Faults.{first_fault}
use Rattle.vector_text.specs.declared.fault.VecFault.{VecFault}
use Rattle.vector_text.specs.declared.fault.VecFault.TheVariants.{BadLine, NoEnd}
use Rattle.vector_text.specs.declared.vectors.VectorLine.{VectorLine}
use Rattle.vector_text.specs.declared.vectors.Vectors.{Vectors}
use Rattle.vector_text.specs.declared.said.Version.{Version}
use Rattle.vector_text.specs.Sayings.{version_of, inputs_of, outputs_of}
use Rattle.vector_text.specs.Written.{Body, body_of, line_fault}

-- what is made of a value, or a fault where there is none
abbrev pub or_fault : {A B : Type 0} → Option A → VecFault → (A → Result B VecFault) → Result B VecFault
or_fault None fault next = Err fault
or_fault (Some x) fault next = next x

-- the outputs of a text, the number of their line, and the lines behind; number 0 without such a line
pub record Outputs : Type 0 where
  pub names : Option (List (List ℕ))
  pub line : ℕ
  pub rest : List (ℕ × List ℕ)

abbrev pub outputs_if : Option (List (List ℕ)) → ℕ × List ℕ → List (ℕ × List ℕ) → Outputs
outputs_if None line rest = record { names = None; line = 0; rest = line ∷ rest }
outputs_if (Some names) line rest = record { names = Some names; line = line.0; rest = rest }

-- the outputs, which the first of the lines behind the inputs may list
abbrev pub outputs_in : List (ℕ × List ℕ) → Outputs
outputs_in [] = record { names = None; line = 0; rest = [] }
outputs_in (line ∷ rest) = outputs_if (outputs_of line.1) line rest

-- the lines that are written out and the time of the end
abbrev pub body_end : Body → Result (List VectorLine × ℕ) VecFault
body_end body = or_fault body.end NoEnd (λ end. Ok (body.lines, end))

abbrev pub body_unless : Version → List (ℕ × List ℕ) → Option VecFault → Result (List VectorLine × ℕ) VecFault
body_unless version lines (Some fault) = Err fault
body_unless version lines None = body_end (body_of version lines)

-- what the lines behind the head write out, or their first fault
unfoldable pub body_in : Version → List (ℕ × List ℕ) → Result (List VectorLine × ℕ) VecFault
body_in version lines = body_unless version lines (first_fault (line_fault version) lines)

abbrev pub vectors_with : List (List ℕ) → ℕ → Outputs → Result (List VectorLine × ℕ) VecFault → Result Vectors VecFault
vectors_with inputs number outputs (Err fault) = Err fault
vectors_with inputs number outputs (Ok body) = Ok (record {
  inputs = inputs;
  inputs_line = number;
  outputs = outputs.names;
  outputs_line = outputs.line;
  lines = body.0;
  end = body.1;
})

abbrev pub behind_inputs : Version → List (List ℕ) → ℕ → Outputs → Result Vectors VecFault
behind_inputs version inputs number outputs = vectors_with inputs number outputs (body_in version outputs.rest)

-- what the lines behind the first one mean
abbrev pub behind_version : Version → List (ℕ × List ℕ) → Result Vectors VecFault
behind_version version [] = Err NoEnd
behind_version version (line ∷ rest) =
    or_fault (inputs_of line.1) (BadLine line.0) (λ inputs. behind_inputs version inputs line.0 (outputs_in rest))

-- what lines mean, of which the first names the version
abbrev pub vectors_in : List (ℕ × List ℕ) → Result Vectors VecFault
vectors_in [] = Err NoEnd
vectors_in (line ∷ rest) =
    or_fault (version_of (fields_of line.1)) (BadLine line.0) (λ version. behind_version version rest)

-- what a text means, or the fault of its first line that has one
unfoldable pub vectors_of : List ℕ → Result Vectors VecFault
vectors_of text = vectors_in (text_lines text)
