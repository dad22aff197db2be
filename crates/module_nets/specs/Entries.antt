-- For the code alone: nets that are put together one after the other.
use Rattle.std.specs.Prelude.{◌≡◌, ℕ, ◌+◌, List, [], ◌++◌, ◌∷◌, length, slice_get, Bool, if◌then◌else◌, Option, Some, None}
use Rattle.std.specs.Option.{option_flatten}
use Rattle.name_table.specs.Names.{index_of}
use Rattle.module_graph.specs.Numbers.{number_at}
use Rattle.module_scope.specs.declared.scopes.Scope.{Scope}
use Rattle.netlist_plan.specs.declared.nets.NetSource.{NetSource}
use Rattle.netlist_plan.specs.declared.nets.ModuleNet.{ModuleNet}
use Rattle.netlist_plan.specs.Nets.{is_literal, is_named, nets_from, new_sources}
use Rattle.module_nets.specs.declared.entries.NetEntries.{NetEntries}

-- the first bit of the first net whose source passes a test
abbrev pub first_of : (NetSource → Bool) → List ModuleNet → Option ℕ
first_of test [] = None
first_of test (net ∷ nets) = if test net.source then Some net.first else first_of test nets

-- what finds first bits fits the nets
pub record AreNets (e : NetEntries) : Type 0 where
  pub whole : length e.name_firsts ≡ length e.names
  pub names : (name : List ℕ) → first_of (is_named name) e.nets ≡ number_at e.name_firsts (index_of name e.names)
  pub literals : (number : ℕ) → first_of (is_literal number) e.nets ≡ option_flatten (slice_get e.literal_firsts number)

pub record IsEmpty (e : NetEntries) : Type 0 where
  pub nets : e.nets ≡ []
  pub names : e.names ≡ []
  pub literals : e.literal_firsts ≡ []
  pub bits : e.bits ≡ 0

-- the nets when sources that are left are added
abbrev pub nets_with : Scope → NetEntries → List NetSource → List ModuleNet
nets_with scope e sources = e.nets ++ nets_from scope e.bits (new_sources e.names sources)

-- entries that have gained sources, and so many things without name
pub record HasGained (scope : Scope) (old new : NetEntries) (sources : List NetSource) (unnamed : ℕ) : Type 0 where
  pub are : AreNets new
  pub numbers : length new.literal_firsts ≡ length old.literal_firsts + unnamed
  pub nets : (rest : List NetSource) → nets_with scope new rest ≡ nets_with scope old (sources ++ rest)
