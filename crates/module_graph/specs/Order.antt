-- For the code alone: positions of modules, where 0 is none. Each module that has one stands behind all that instantiate it, which have one too.
use Rattle.std.specs.Prelude.{◌≡◌, ◌<◌, ℕ, Bool, true, false, not, ◌&&◌, ◌||◌, List, nat_eq, nat_lt, slice_index, slice_index_or}
use Rattle.std.specs.List.{list_all, enumerate_from}
use Rattle.module_graph.specs.declared.references.Master.{Master}
use Rattle.module_graph.specs.declared.references.Master.TheVariants.{Module, Udp, Unknown}
use Rattle.module_graph.specs.declared.references.Reference.{Reference}
use Rattle.module_graph.specs.Reach.{instantiates, is_reached}

-- a position is none, or behind another that is one
abbrev pub is_behind : ℕ → ℕ → Bool
is_behind before position = nat_eq position 0 || (nat_lt 0 before && nat_lt before position)

-- the module that a master is is reached, and has no position or one behind that of the module that has the reference
abbrev pub is_master_later : List ℕ → List Bool → ℕ → Master → Bool
is_master_later positions reached index (Module other) =
    slice_index_or reached other false && is_behind (slice_index positions index) (slice_index positions other)
is_master_later positions reached index (Udp other) = true
is_master_later positions reached index Unknown = true

abbrev pub is_later : List ℕ → List Bool → ℕ → Reference → Bool
is_later positions reached index r = is_master_later positions reached index r.master

abbrev pub are_later : List ℕ → List Bool → ℕ → List Reference → Bool
are_later positions reached index references = list_all (is_later positions reached index) references

-- the same for the references of a module that is reached
abbrev pub is_list_in_order : List ℕ → List Bool → ℕ × List Reference → Bool
is_list_in_order positions reached entry = not (slice_index_or reached entry.0 false) || are_later positions reached entry.0 entry.1

-- the same for all modules
abbrev pub is_in_order : List ℕ → List Bool → List (List Reference) → Bool
is_in_order positions reached references = list_all (is_list_in_order positions reached) (enumerate_from 0 references)

-- no reference of a reached module to a module that has a position leads back
abbrev pub IsSettled : List ℕ → List Bool → List (List Reference) → Type 0
IsSettled positions reached references = (a b : ℕ) → slice_index_or reached a false ≡ true → instantiates references a b ≡ true →
    0 < slice_index positions b → is_reached references b a ≡ false
