-- Which words are a call, and of which files.
use Rattle.std.specs.Prelude.{ℕ, Bool, true, not, ◌&&◌, List, [], ◌∷◌, map, Option, None, Some, if◌then◌else◌, ◌==◌, String, string_bytes}
use Rattle.std.specs.declared.alloc.Global.{Global}

-- the words, each by its bytes
abbrev pub texts : List (String Global) → List (List ℕ)
texts words = map string_bytes words

-- the files that a call names
pub record Call : Type 0 where
  pub netlist : List ℕ
  pub vectors : List ℕ

-- a word that doesn't begin with a dash names a file
abbrev pub names_file : List ℕ → Bool
names_file [] = true
names_file (b ∷ bs) = not (b == 45)

-- two words that name files are a call
abbrev pub call_of : List (List ℕ) → Option Call
call_of [] = None
call_of (netlist ∷ []) = None
call_of (netlist ∷ vectors ∷ []) = if names_file netlist && names_file vectors then Some (record { netlist = netlist; vectors = vectors }) else None
call_of (netlist ∷ vectors ∷ other ∷ others) = None
