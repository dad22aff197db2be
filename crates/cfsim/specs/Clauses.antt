-- The words that the clauses of `run` are written with.
use Rattle.std.specs.Prelude.{◌≡◌, ℕ, ◌≤◌, List, Option, Some, IsOk, ◌⊎◌}
use Rattle.outside_io.specs.Outside.{GainsPrefix}
use Rattle.cfsim.specs.Words.{Call, call_of}
use Rattle.cfsim.specs.Messages.{cannot_read_line, no_memory_line}
use Rattle.cfsim.specs.Answer.{netlist_of_file}

-- the statuses that come with the whole answer: 0 and 2 to 6
abbrev pub IsAnswered : ℕ → Type 0
IsAnswered status = (status ≡ 0) ⊎ ((2 ≤ status) × (status ≤ 6))

-- the words are a call, and the name is one of the files that they name
abbrev pub IsNamedBy : List (List ℕ) → List ℕ → Type 0
IsNamedBy words name = (call : Call) × (call_of words ≡ Some call) × ((name ≡ call.netlist) ⊎ (name ≡ call.vectors))

-- no file before this one in the order of refusals is missing from the shelf or refused: the netlist comes first, and
-- the vectors where it is accepted
abbrev pub IsNextFile : List (List ℕ) → (List ℕ → Option (List ℕ)) → List ℕ → Type 0
IsNextFile words files name = (call : Call) × (call_of words ≡ Some call) × ((name ≡ call.netlist) ⊎ ((name ≡ call.vectors) × IsOk (netlist_of_file (files call.netlist))))

-- the sink gained a first part of the answer's text, of the line for a file that can't be read, or of that for want of
-- memory
abbrev pub GainsMessage : Option (List ℕ) → Option (List ℕ) → List ℕ → List ℕ → Type 0
GainsMessage old new text blamed = GainsPrefix old new text ⊎ (GainsPrefix old new (cannot_read_line blamed) ⊎ GainsPrefix old new no_memory_line)
