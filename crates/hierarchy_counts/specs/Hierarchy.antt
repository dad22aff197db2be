-- How deep a hierarchy of modules is, and how many nets, elements and names it has when it is written out. Since modules may
-- contain themselves, all is told of so many levels.
use Rattle.std.specs.Prelude.{ℕ, zero, suc, ◌+◌, ◌-◌, ◌<◌, max, List, [], ◌∷◌, length, sum_by, map, slice_index_or}
use Rattle.std.specs.List.{All, fold}
use Rattle.hierarchy_counts.specs.declared.counts.ModuleCounts.{ModuleCounts}
use Rattle.hierarchy_counts.specs.declared.counts.InstanceCounts.{InstanceCounts}

-- what is counted
pub data Measure : Type 0 where
  Nets : Measure
  Elements : Measure
  Names : Measure

-- a module by itself
abbrev pub own : Measure → ModuleCounts → ℕ
own Nets m = m.nets
own Elements m = m.elements
own Names m = m.names

abbrev pub nothing : ModuleCounts
nothing = record { nets = 0; elements = 0; names = 0 }

-- the module of an index, and the instances in it
abbrev pub module_at : List ModuleCounts → ℕ → ModuleCounts
module_at modules index = slice_index_or modules index nothing

abbrev pub instances_at : List (List InstanceCounts) → ℕ → List InstanceCounts
instances_at instances index = slice_index_or instances index []

-- an instance by itself: nets that are connected outside aren't its own
abbrev pub instance_own : Measure → List ModuleCounts → InstanceCounts → ℕ
instance_own Nets modules i = own Nets (module_at modules i.master) - i.bound
instance_own Elements modules i = own Elements (module_at modules i.master)
instance_own Names modules i = own Names (module_at modules i.master)

-- what the instances in a module add, down to so many levels of them
unfoldable pub inside : Measure → List ModuleCounts → List (List InstanceCounts) → ℕ → ℕ → ℕ
inside measure modules instances zero index = 0
inside measure modules instances (suc levels) index =
    sum_by (λ i. instance_own measure modules i + inside measure modules instances levels i.master) (instances_at instances index)

-- the greatest of numbers, 0 of none
abbrev pub greatest : List ℕ → ℕ
greatest numbers = fold max 0 numbers

-- how many levels of instances a module has, looking at so many
unfoldable pub levels_inside : List (List InstanceCounts) → ℕ → ℕ → ℕ
levels_inside instances zero index = 0
levels_inside instances (suc levels) index =
    greatest (map (λ i. 1 + levels_inside instances levels i.master) (instances_at instances index))

-- a top with all that is in it
abbrev pub whole : Measure → List ModuleCounts → List (List InstanceCounts) → ℕ → ℕ → ℕ
whole measure modules instances levels top = own measure (module_at modules top) + inside measure modules instances levels top

-- each instance is of a module
abbrev pub AreWithin : ℕ → List (List InstanceCounts) → Type 0
AreWithin count instances = All (All (λ i. i.master < count)) instances
