-- The names in a line. In a name, a backslash at its beginning or behind a dot begins an escaped
-- component, which goes up to the next blank or the end of the line and gets one space there
-- (IEEE 1364-2005, 3.7.1). Where a dot or a bracket directly follows that blank the name goes on;
-- else the blank parts it from the next name.
use Rattle.std.specs.Prelude.{ℕ, Bool, true, false, ◌||◌, List, [], ◌∷◌, Option, Some, None, ◌==◌, if◌then◌else◌}
use Rattle.std.specs.List.{onto_first}
use Rattle.line_text.specs.declared.names.Place.{Place}
use Rattle.line_text.specs.declared.names.Place.TheVariants.{Between, Inside, Begun, Escaped, Closed}
use Rattle.line_text.specs.declared.names.Step.{Step}
use Rattle.line_text.specs.Fields.{is_blank}

-- the place behind a byte of a plain component: behind a dot a component begins
abbrev pub behind_plain : ℕ → Place
behind_plain b = if b == 46 then Begun else Inside

-- the place behind a component's first byte: a backslash begins an escaped one
abbrev pub behind_first : ℕ → Place
behind_first b = if b == 92 then Escaped else behind_plain b

-- a blank that belongs to no name
abbrev pub outer_step : Step
outer_step = record { ends = false; byte = None; place = Between }

-- a blank behind a name, which ends it
abbrev pub end_step : Step
end_step = record { ends = true; byte = None; place = Between }

-- a byte of the name
abbrev pub name_step : ℕ → Place → Step
name_step b place = record { ends = false; byte = Some b; place = place }

-- the first byte of a name, directly behind another one
abbrev pub new_name_step : ℕ → Step
new_name_step b = record { ends = true; byte = Some b; place = behind_first b }

-- What a blank is to the names of its line, by its place. The blank that ends an escaped component is
-- its space.
abbrev pub blank_step : Place → Step
blank_step Between = outer_step
blank_step Begun = end_step
blank_step Inside = end_step
blank_step Escaped = name_step 32 Closed
blank_step Closed = end_step

-- what any other byte is
abbrev pub byte_step : Place → ℕ → Step
byte_step Between b = name_step b (behind_first b)
byte_step Begun b = name_step b (behind_first b)
byte_step Inside b = name_step b (behind_plain b)
byte_step Escaped b = name_step b Escaped
byte_step Closed b = if (b == 46) || (b == 91) then name_step b (behind_plain b) else new_name_step b

-- What a byte is to the names of its line, by its place: whether a name ends before it, what it adds
-- to a name, and the place behind it.
abbrev pub step_of : Place → ℕ → Step
step_of place b = if is_blank b then blank_step place else byte_step place b

-- what the end of the line leaves: an escaped component gets its space there
abbrev pub last_names : Place → List (List ℕ)
last_names Between = []
last_names Begun = [] ∷ []
last_names Inside = [] ∷ []
last_names Escaped = (32 ∷ []) ∷ []
last_names Closed = [] ∷ []

-- a byte before the first name, where there is one
abbrev pub byte_onto : Option ℕ → List (List ℕ) → List (List ℕ)
byte_onto None names = names
byte_onto (Some b) names = onto_first b names

-- before these names another one ends, or none
abbrev pub ended_onto : Bool → List (List ℕ) → List (List ℕ)
ended_onto true names = [] ∷ names
ended_onto false names = names

-- what stands before the names of the rest, by the step at a byte
abbrev pub step_onto : Step → List (List ℕ) → List (List ℕ)
step_onto step names = ended_onto step.ends (byte_onto step.byte names)

-- the names in the bytes from a place on, the first being the rest of the name in which it stands
abbrev pub names_from : Place → List ℕ → List (List ℕ)
names_from place [] = last_names place
names_from place (b ∷ bs) = step_onto (step_of place b) (names_from (step_of place b).place bs)

-- the names in a line
unfoldable pub names_of : List ℕ → List (List ℕ)
names_of line = names_from Between line
