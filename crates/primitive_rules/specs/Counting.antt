-- For the code alone: names that are counted up to two, by two tables of distinct names.
use Rattle.std.specs.Prelude.{ℕ, Bool, not, ◌&&◌, List, [], ◌∷◌, ◌++◌, if◌then◌else◌}
use Rattle.std.specs.List.{fold}
use Rattle.name_table.specs.Names.{is_among}
use Rattle.v_tree.specs.declared.locations.Name.{Name}
use Rattle.primitive_rules.specs.declared.counts.NameCounts.{NameCounts}

-- a name behind distinct names, unless it is among them
abbrev pub with_name : List (List ℕ) → List ℕ → List (List ℕ)
with_name names name = if is_among name names then names else names ++ name ∷ []

-- one more name: it comes for the first time, or again
abbrev pub count_name : NameCounts → Name → NameCounts
count_name c name =
    if is_among name.text c.seen
    then record { seen = c.seen; again = with_name c.again name.text }
    else record { seen = c.seen ++ name.text ∷ []; again = c.again }

-- several more names
abbrev pub count_names : NameCounts → List Name → NameCounts
count_names c names = fold count_name c names

abbrev pub no_counts : NameCounts
no_counts = record { seen = []; again = [] }

-- a name came once
abbrev pub came_once : NameCounts → List ℕ → Bool
came_once c name = is_among name c.seen && not (is_among name c.again)
