-- For the code alone: the counts of all modules down to so many levels, each number up to a bound.
use Rattle.std.specs.Prelude.{ℕ, ◌+◌, ◌-◌, ◌^◌, max, min, List, length, map, slice_index_or}
use Rattle.std.specs.List.{fold, range_with_len}
use Rattle.hierarchy_counts.specs.declared.counts.ModuleCounts.{ModuleCounts}
use Rattle.hierarchy_counts.specs.declared.counts.InstanceCounts.{InstanceCounts}
use Rattle.hierarchy_counts.specs.declared.rounds.Row.{Row}
use Rattle.hierarchy_counts.specs.Hierarchy.{Nets, Elements, Names, module_at, instances_at, inside, levels_inside}

-- a count, or the bound where it is greater
abbrev pub cap : ℕ → ℕ
cap n = min n (2 ^ 32)

-- the row of a module
abbrev pub row_at : List ModuleCounts → List (List InstanceCounts) → ℕ → ℕ → Row
row_at modules instances levels index = record {
  levels = cap (levels_inside instances levels index);
  nets = cap (inside Nets modules instances levels index);
  elements = cap (inside Elements modules instances levels index);
  names = cap (inside Names modules instances levels index);
}

-- the rows of all modules
abbrev pub rows : List ModuleCounts → List (List InstanceCounts) → ℕ → List Row
rows modules instances levels = map (row_at modules instances levels) (range_with_len 0 (length modules))

abbrev pub no_row : Row
no_row = record { levels = 0; nets = 0; elements = 0; names = 0 }

-- a row with one more instance, whose module by itself and inside is known
abbrev pub with_instance : Row → ModuleCounts → ℕ → Row → Row
with_instance row m bound inner = record {
  levels = cap (max row.levels (cap (1 + inner.levels)));
  nets = cap (row.nets + (cap ((m.nets - bound) + inner.nets)));
  elements = cap (row.elements + (cap (m.elements + inner.elements)));
  names = cap (row.names + (cap (m.names + inner.names)));
}

abbrev pub row_in : List Row → ℕ → Row
row_in table index = slice_index_or table index no_row

-- the row of a list of instances, by the rows of their modules down to one level less
abbrev pub row_of : List ModuleCounts → List Row → List InstanceCounts → Row
row_of modules table list = fold (λ row i. with_instance row (module_at modules i.master) i.bound (row_in table i.master)) no_row list

-- the rows of all modules, by those down to one level less
abbrev pub next_rows : List ModuleCounts → List (List InstanceCounts) → List Row → List Row
next_rows modules instances table = map (λ index. row_of modules table (instances_at instances index)) (range_with_len 0 (length modules))
