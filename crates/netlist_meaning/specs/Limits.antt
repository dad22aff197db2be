-- The limits of a netlist, given its top by its index. All but the one on islands are told without writing the netlist out.
use Rattle.std.specs.Prelude.{ℕ, ◌+◌, Bool, nat_lt, List, [], ◌∷◌, ◌++◌, length, map, Option, None}
use Rattle.std.specs.List.{find, items_where_true, list_any}
use Rattle.std.specs.Option.{option_map}
use Rattle.v_tree.specs.declared.expressions.RangeBounds.{RangeBounds}
use Rattle.v_tree.specs.declared.modules.AnsiEntry.{AnsiEntry}
use Rattle.v_tree.specs.declared.modules.AnsiEntry.TheVariants as entry
use Rattle.v_tree.specs.declared.modules.Ports.{Ports}
use Rattle.v_tree.specs.declared.modules.Ports.TheVariants as ports
use Rattle.v_tree.specs.declared.modules.Item.{Item}
use Rattle.v_tree.specs.declared.modules.Item.TheVariants as item
use Rattle.v_tree.specs.declared.modules.Module.{Module}
use Rattle.v_tree.specs.declared.modules.File.{File}
use Rattle.module_scope.specs.Mentions.{vector_bounds}
use Rattle.item_parts.specs.Widths.{range_width}
use Rattle.chosen_delays.specs.declared.choice.Mtm.{Mtm}
use Rattle.flat_net.specs.declared.parts.Island.{Island}
use Rattle.net_islands.specs.Islands.{grouping}
use Rattle.hierarchy_counts.specs.Hierarchy.{Measure, levels_inside, whole}
use Rattle.hierarchy_counts.specs.Hierarchy.Measure.{Elements, Names, Nets}
use Rattle.netlist_plan.specs.declared.plan.ModulePlan.{ModulePlan}
use Rattle.netlist_plan.specs.Additions.{Additions}
use Rattle.flattening_laws.specs.Counts.{all_instance_counts, all_module_counts}
use Rattle.flat_assembly.specs.Assembly.{classes, net_claims}
use Rattle.netlist_meaning.specs.declared.limits.NetlistLimit.{NetlistLimit}
use Rattle.netlist_meaning.specs.declared.limits.NetlistLimit.TheVariants as limit
use Rattle.netlist_meaning.specs.Plans.{modules_reached, plans_in}
use Rattle.netlist_meaning.specs.Delays.{has_long}

-- ---- ranges

abbrev pub item_range : Item → Option RangeBounds
item_range (item.Ports d) = d.range
item_range (item.Nets d) = vector_bounds d.vector_range
item_range (item.Trireg d) = vector_bounds d.vector_range
item_range (item.Assign a) = None
item_range (item.Gates g) = None
item_range (item.Instances i) = None
item_range (item.Cell c) = None
item_range (item.Specify s) = None

abbrev pub entry_range : AnsiEntry → Option RangeBounds
entry_range (entry.Port p) = p.range
entry_range (entry.Name name) = None

abbrev pub header_ranges : Ports → List (Option RangeBounds)
header_ranges (ports.Ansi first entries) = first.range ∷ map entry_range entries
header_ranges (ports.Names names) = []
header_ranges ports.Empty = []
header_ranges ports.Absent = []

-- a range of more than 4,096 bits
abbrev pub is_wide : Option RangeBounds → Bool
is_wide range = nat_lt 4096 (range_width range)

-- some declaration of a module has one
abbrev pub has_wide : Module → Bool
has_wide m = list_any is_wide (header_ranges m.ports ++ map item_range m.items)

-- ---- counts

-- how many modules stand in one another, where 65 is said of all that are deeper than 64
abbrev pub depth : List ModulePlan → ℕ → ℕ
depth plans top = 1 + levels_inside (all_instance_counts plans) 64 top

-- the nets, elements or names of the top with all that is in it
abbrev pub total : Measure → List ModulePlan → ℕ → ℕ
total measure plans top = whole measure (all_module_counts plans) (all_instance_counts plans) 64 top

-- ---- islands

abbrev pub islands_of : Additions → List Island
islands_of a = (grouping (classes (net_claims a)) a.elements a.resistive).islands

-- an island of more than 65,536 nets
abbrev pub is_large : Island → Bool
is_large island = nat_lt 65536 (length island.nets)

-- ---- the limits in their order

pub record LimitTest : Type 0 where
  pub limit : NetlistLimit
  pub is_passed : Bool

abbrev pub count_tests : List Module → List ModulePlan → ℕ → List LimitTest
count_tests modules plans top =
    record { limit = limit.Width; is_passed = list_any has_wide modules }
    ∷ record { limit = limit.Depth; is_passed = nat_lt 64 (depth plans top) }
    ∷ record { limit = limit.Nets; is_passed = nat_lt 1048576 (total Nets plans top) }
    ∷ record { limit = limit.Elements; is_passed = nat_lt 1048576 (total Elements plans top) }
    ∷ record { limit = limit.Names; is_passed = nat_lt 2097152 (total Names plans top) }
    ∷ []

abbrev pub size_tests : Bool → Bool → List LimitTest
size_tests has_large_island has_long_delay =
    record { limit = limit.Island; is_passed = has_large_island }
    ∷ record { limit = limit.Delay; is_passed = has_long_delay }
    ∷ []

-- the modules that the top reaches
abbrev pub modules_in : File → ℕ → List Module
modules_in file top = items_where_true (modules_reached file top) file.modules

abbrev pub count_tests_in : File → ℕ → List LimitTest
count_tests_in file top = count_tests (modules_in file top) (plans_in file top) top

abbrev pub size_tests_in : Mtm → File → ℕ → Additions → List LimitTest
size_tests_in choice file top a =
    size_tests (list_any is_large (islands_of a)) (list_any (has_long choice file.directives) (modules_in file top))

-- the limits on the netlist that the top makes with what it adds
abbrev pub limit_tests : Mtm → File → ℕ → Additions → List LimitTest
limit_tests choice file top a = count_tests_in file top ++ size_tests_in choice file top a

-- the first limit that is passed
abbrev pub first_passed : List LimitTest → Option NetlistLimit
first_passed tests = option_map (λ t. t.limit) (find (λ t. t.is_passed) tests)
