-- What one line of a vector text says, by its fields, where it has one of the forms of its version.
use Rattle.std.specs.Prelude.{ℕ, Bool, true, false, not, ◌&&◌, ◌||◌, List, [], ◌∷◌, length, filter, codes, Option, Some, None, option_map, option_and_then, nat_lt, ◌==◌, if◌then◌else◌}
use Rattle.std.specs.Str.{bytes_eq}
use Rattle.level_range.specs.declared.range.Logic.{Logic}
use Rattle.level_range.specs.declared.range.Logic.TheVariants.{Zero, One, X, Z}
use Rattle.line_text.specs.Names.{names_of}
use Rattle.line_text.specs.Fields.{one_of, two_of, three_of}
use Rattle.line_text.specs.Numbers.{capped_number}
use Rattle.vector_text.specs.declared.stimulus.StimulusWhat.{StimulusWhat}
use Rattle.vector_text.specs.declared.stimulus.StimulusWhat.TheVariants.{Values, Strobe, Expect}
use Rattle.vector_text.specs.declared.said.Version.{Version}
use Rattle.vector_text.specs.declared.said.Version.TheVariants.{First, Second}
use Rattle.vector_text.specs.declared.said.Said.{Said}
use Rattle.vector_text.specs.declared.said.Said.TheVariants.{Timed, Opens, Closes, Ends}

-- ---- values

-- the value of a byte: 0 1 x z X Z
abbrev pub value_of : ℕ → Option Logic
value_of b =
    if b == 48 then Some Zero
    else if b == 49 then Some One
    else if (b == 120) || (b == 88) then Some X
    else if (b == 122) || (b == 90) then Some Z
    else None

-- the expected value of a byte: a value, or - for one that isn't compared
abbrev pub wanted_of : ℕ → Option (Option Logic)
wanted_of b = if b == 45 then Some None else option_map Some (value_of b)

-- what each byte says, where each says something
abbrev pub all_said : {A : Type 0} → (ℕ → Option A) → List ℕ → Option (List A)
all_said said [] = Some []
all_said said (b ∷ bs) = option_and_then (λ x. option_map (λ xs. x ∷ xs) (all_said said bs)) (said b)

-- the bytes of a field without _
abbrev pub value_bytes : List ℕ → List ℕ
value_bytes field = filter (λ b. not (b == 95)) field

-- what the bytes of a field say, of which there are one or more; _ is passed over
unfoldable pub values_in : {A : Type 0} → (ℕ → Option A) → List ℕ → Option (List A)
values_in said field =
    if nat_lt 0 (length (value_bytes field)) then all_said said (value_bytes field) else None

-- ---- the lines behind the head

-- a line at a time
abbrev pub timed_saying : StimulusWhat → ℕ → Said
timed_saying what time = Timed (record { time = time; what = what })

-- a time and what is done then
abbrev pub timed_saying_if : Option StimulusWhat → ℕ → Option Said
timed_saying_if what time = option_map (λ w. timed_saying w time) what

-- the values of a value line, and of an `expect` line
abbrev pub values_what : List ℕ → Option StimulusWhat
values_what field = option_map Values (values_in value_of field)

abbrev pub expect_what : List ℕ → Option StimulusWhat
expect_what field = option_map Expect (values_in wanted_of field)

-- TIME VALUES, of which the first field is already read
unfoldable pub values_said : List ℕ → List (List ℕ) → Option Said
values_said time fields =
    option_and_then (λ at. option_and_then (λ values. timed_saying_if (values_what values) at) (one_of fields)) (capped_number time)

-- strobe TIME
unfoldable pub strobe_said : List (List ℕ) → Option Said
strobe_said fields = option_and_then (λ time. option_map (timed_saying Strobe) (capped_number time)) (one_of fields)

-- end TIME
unfoldable pub end_said : List (List ℕ) → Option Said
end_said fields = option_and_then (λ time. option_map Ends (capped_number time)) (one_of fields)

-- expect TIME VALUES
unfoldable pub expect_said : List (List ℕ) → Option Said
expect_said fields =
    option_and_then (λ x. option_and_then (timed_saying_if (expect_what x.1)) (capped_number x.0)) (two_of fields)

-- a repetition with COUNT and PERIOD above 0
abbrev pub repeat_if : ℕ → ℕ → ℕ → Option Said
repeat_if count start period =
    if (count == 0) || (period == 0) then None
    else Some (Opens (record { count = count; start = start; period = period }))

-- repeat COUNT START PERIOD
unfoldable pub repeat_said : List (List ℕ) → Option Said
repeat_said fields =
    option_and_then
    (λ x. option_and_then
    (λ count. option_and_then
    (λ start. option_and_then (λ period. repeat_if count start period) (capped_number x.2))
    (capped_number x.1))
    (capped_number x.0))
    (three_of fields)

-- endrepeat
unfoldable pub endrepeat_said : List (List ℕ) → Option Said
endrepeat_said [] = Some Closes
endrepeat_said (field ∷ fields) = None

abbrev pub is_second : Version → Bool
is_second First = false
is_second Second = true

-- what the fields of a line say; the words of the second version are those of no line of the first
unfoldable pub said_of : Version → List (List ℕ) → Option Said
said_of version [] = None
said_of version (word ∷ fields) =
    if bytes_eq word (codes "strobe") then strobe_said fields
    else if bytes_eq word (codes "end") then end_said fields
    else if is_second version && bytes_eq word (codes "expect") then expect_said fields
    else if is_second version && bytes_eq word (codes "repeat") then repeat_said fields
    else if is_second version && bytes_eq word (codes "endrepeat") then endrepeat_said fields
    else values_said word fields

-- ---- the head

-- the version that a field names
abbrev pub version_named : List ℕ → Option Version
version_named field =
    if bytes_eq field (codes "1") then Some First
    else if bytes_eq field (codes "2") then Some Second
    else None

-- vectors 1, or vectors 2
unfoldable pub version_of : List (List ℕ) → Option Version
version_of fields =
    option_and_then (λ x. if bytes_eq x.0 (codes "vectors") then version_named x.1 else None) (two_of fields)

-- the word and one or more names
unfoldable pub listed_behind : List ℕ → List (List ℕ) → Option (List (List ℕ))
listed_behind word (first ∷ name ∷ names) = if bytes_eq first word then Some (name ∷ names) else None
listed_behind word _ = None

-- inputs NAME { NAME }
abbrev pub inputs_of : List ℕ → Option (List (List ℕ))
inputs_of line = listed_behind (codes "inputs") (names_of line)

-- outputs NAME { NAME }
abbrev pub outputs_of : List ℕ → Option (List (List ℕ))
outputs_of line = listed_behind (codes "outputs") (names_of line)
