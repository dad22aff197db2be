-- Which module leads to which through references, over any number of them.
use Rattle.std.specs.Prelude.{◌≡◌, ℕ, Bool, true, false, ◌&&◌, ◌||◌, List, [], ◌∷◌, length, map, nat_eq, slice_index_or}
use Rattle.std.specs.List.{list_any, range_with_len, enumerate_from}
use Rattle.module_graph.specs.declared.references.Master.{Master}
use Rattle.module_graph.specs.declared.references.Master.TheVariants.{Module, Udp, Unknown}
use Rattle.module_graph.specs.declared.references.Reference.{Reference}

-- a master is the module of an index
abbrev pub is_module : ℕ → Master → Bool
is_module index (Module other) = nat_eq index other
is_module index (Udp other) = false
is_module index Unknown = false

-- some of the references are to the module of an index
abbrev pub refers_to : ℕ → List Reference → Bool
refers_to index references = list_any (λ r. is_module index r.master) references

-- the first module instantiates the second
abbrev pub instantiates : List (List Reference) → ℕ → ℕ → Bool
instantiates references a b = refers_to b (slice_index_or references a [])

-- the first module leads to the second, over one reference or more
pub data LeadsTo (references : List (List Reference)) : ℕ → ℕ → Type 0 where
  Directly : {a b : ℕ} → instantiates references a b ≡ true → LeadsTo references a b
  Through : {a b c : ℕ} → instantiates references a b ≡ true → LeadsTo references b c → LeadsTo references a c

-- the same, where all modules between the two are among these
abbrev pub leads_through : List (List Reference) → List ℕ → ℕ → ℕ → Bool
leads_through references [] a c = instantiates references a c
leads_through references (b ∷ bs) a c =
    leads_through references bs a c || (leads_through references bs a b && leads_through references bs b c)

-- the indexes of the modules
abbrev pub indexes : List (List Reference) → List ℕ
indexes references = range_with_len 0 (length references)

-- the first module leads to the second
unfoldable pub leads_to : List (List Reference) → ℕ → ℕ → Bool
leads_to references a c = leads_through references (indexes references) a c

-- a module is the top, or the top leads to it
abbrev pub is_reached : List (List Reference) → ℕ → ℕ → Bool
is_reached references top index = nat_eq index top || leads_to references top index

-- for each module whether it is reached
abbrev pub reached_modules : List (List Reference) → ℕ → List Bool
reached_modules references top = map (is_reached references top) (indexes references)

-- ---- primitives

-- a master is the primitive of an index
abbrev pub is_udp : ℕ → Master → Bool
is_udp index (Module other) = false
is_udp index (Udp other) = nat_eq index other
is_udp index Unknown = false

-- some of the references are to the primitive of an index
abbrev pub refers_to_udp : ℕ → List Reference → Bool
refers_to_udp index references = list_any (λ r. is_udp index r.master) references

-- a module is reached, and instantiates the primitive
abbrev pub reaches_udp : ℕ → List Bool → ℕ × List Reference → Bool
reaches_udp index reached entry = slice_index_or reached entry.0 false && refers_to_udp index entry.1

-- some reached module instantiates the primitive
abbrev pub is_udp_reached : List (List Reference) → List Bool → ℕ → Bool
is_udp_reached references reached index = list_any (reaches_udp index reached) (enumerate_from 0 references)

-- for each of so many primitives whether it is reached
abbrev pub reached_udps : List (List Reference) → List Bool → ℕ → List Bool
reached_udps references reached count = map (is_udp_reached references reached) (range_with_len 0 count)
