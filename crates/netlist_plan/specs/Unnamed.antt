-- The things without name in a module, counted from 0 by their first tokens: gates and instances of primitives without a
-- name, assignments, and literals, the zeros on the left of a right side among them.
use Rattle.std.specs.Prelude.{ℕ, ◌+◌, List, [], ◌∷◌, ◌++◌}
use Rattle.std.specs.List.{flat_map}
use Rattle.std.specs.Option.{option_map_or}
use Rattle.expression_bits.specs.declared.runs.BitRun.{BitRun}
use Rattle.expression_bits.specs.declared.runs.BitRun.TheVariants.{Net, Literal}
use Rattle.module_parts.specs.declared.parts.ModulePart.{ModulePart}
use Rattle.module_parts.specs.declared.parts.ModulePart.TheVariants.{Names, Gate, Pair, Instance}

-- all runs of a part, in text order
abbrev pub runs_in : ModulePart → List BitRun
runs_in (Names names) = []
runs_in (Gate g) = flat_map (λ runs. runs) g.terminals
runs_in (Pair p) = p.target ++ p.value.runs
runs_in (Instance i) = flat_map (λ c. c.runs) i.connections

-- how many literals there are among runs
abbrev pub literal_count : List BitRun → ℕ
literal_count [] = 0
literal_count (Net name select ∷ runs) = literal_count runs
literal_count (Literal bits ∷ runs) = 1 + literal_count runs

-- a part is itself a thing without name, before its literals
abbrev pub own_count : ModulePart → ℕ
own_count (Names names) = 0
own_count (Gate g) = option_map_or (λ name. 0) g.name 1
own_count (Pair p) = 1
own_count (Instance i) = 0

-- how many things without name there are in a part
abbrev pub unnamed_count : ModulePart → ℕ
unnamed_count part = own_count part + literal_count (runs_in part)

-- each part with the number of the first thing without name in it or behind it
abbrev pub numbered_from : ℕ → List ModulePart → List (ℕ × ModulePart)
numbered_from number [] = []
numbered_from number (part ∷ parts) = (number, part) ∷ numbered_from (number + unnamed_count part) parts
