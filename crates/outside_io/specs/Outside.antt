-- What a call on the outside does to counts, to what is told of a file, and to what is told of a sink.
use Rattle.std.specs.Prelude.{◌≡◌, ℕ, ◌+◌, ◌-◌, ◌^◌, ◌<◌, min, List, [], ◌++◌, take, Option, None, Some, ◌⊎◌, String, string_bytes}
use Rattle.std.specs.declared.alloc.Global.{Global}

-- the count is greater than before, or at its last value
abbrev pub Rose : ℕ → ℕ → Type 0
Rose old new = (old < new) ⊎ (new ≡ 2 ^ 64 - 1)

-- one more, up to the last value of a count
abbrev pub one_more : ℕ → ℕ
one_more n = min (n + 1) (2 ^ 64 - 1)

-- what is told, with a text at its end
abbrev pub told_with : Option (List ℕ) → List ℕ → Option (List ℕ)
told_with None text = None
told_with (Some old) text = Some (old ++ text)

-- where it is told, the new text is the old one with this text at its end; else neither is told
abbrev pub Gains : Option (List ℕ) → Option (List ℕ) → List ℕ → Type 0
Gains old new text = new ≡ told_with old text

-- it gained some first bytes of the text, none or all among them
abbrev pub GainsPrefix : Option (List ℕ) → Option (List ℕ) → List ℕ → Type 0
GainsPrefix old new text = (n : ℕ) × Gains old new (take n text)

-- some bytes, and then what is told
abbrev pub told_after : List ℕ → Option (List ℕ) → Option (List ℕ)
told_after bytes None = None
told_after bytes (Some left) = Some (bytes ++ left)

-- where it is told, what was left is these bytes and then what is left now; else neither is told
abbrev pub Gives : Option (List ℕ) → Option (List ℕ) → List ℕ → Type 0
Gives old new bytes = old ≡ told_after bytes new

-- the bytes of the file of this name, where the files are told and it is among them
abbrev pub content_of : Option (List ℕ → Option (List ℕ)) → List ℕ → Option (List ℕ)
content_of None name = None
content_of (Some files) name = files name

-- the name that a shelf keeps as the blamed one, empty where it keeps none
abbrev pub blamed_text : Option (String Global) → List ℕ
blamed_text None = []
blamed_text (Some name) = string_bytes name
