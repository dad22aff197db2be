-- The top module.
use Rattle.std.specs.Prelude.{ℕ, zero, suc, Bool, not, List, Option, None, Some, length, if◌then◌else◌}
use Rattle.std.specs.List.{list_any}
use Rattle.name_table.specs.Names.{index_of}
use Rattle.module_graph.specs.declared.references.Reference.{Reference}
use Rattle.module_graph.specs.Reach.{refers_to}
use Rattle.module_graph.specs.Graph.{Graph}

-- the greatest number below a bound that passes a test
abbrev pub last_below : (ℕ → Bool) → ℕ → Option ℕ
last_below test zero = None
last_below test (suc n) = if test n then Some n else last_below test n

-- some module instantiates this one
abbrev pub is_instantiated : List (List Reference) → ℕ → Bool
is_instantiated references index = list_any (refers_to index) references

-- the last module that no module instantiates
abbrev pub last_root : List (List Reference) → Option ℕ
last_root references = last_below (λ index. not (is_instantiated references index)) (length references)

-- the top: the first module of the chosen name, or without a choice the last in the text that no module instantiates
abbrev pub top_of : Graph → Option (List ℕ) → Option ℕ
top_of graph (Some name) = index_of name graph.names
top_of graph None = last_root graph.references
