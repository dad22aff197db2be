-- For the code alone: the limits in two steps, before and after the netlist is written out.
use Rattle.std.specs.Prelude.{Bool, nat_lt, List, [], ◌∷◌, Option}
use Rattle.std.specs.List.{list_any}
use Rattle.std.specs.Option.{option_map, option_or}
use Rattle.hierarchy_counts.specs.declared.counts.HierarchyCounts.{HierarchyCounts}
use Rattle.netlist_plan.specs.Additions.{Additions}
use Rattle.netlist_meaning.specs.declared.limits.NetlistLimit.TheVariants as limit
use Rattle.netlist_meaning.specs.Limits.{LimitTest, first_passed, is_large, islands_of, size_tests}
use Rattle.netlist_meaning.specs.Netlist.{first_wired}
use Rattle.elaborate.specs.declared.fault.NetFault.{NetFault}
use Rattle.elaborate.specs.declared.fault.NetFault.TheVariants.{Limit}
use Rattle.elaborate.specs.Refusals.{wired_fault}

-- the limits on the counts of a hierarchy
abbrev pub hierarchy_tests : HierarchyCounts → List LimitTest
hierarchy_tests counts =
    record { limit = limit.Depth; is_passed = nat_lt 64 counts.depth }
    ∷ record { limit = limit.Nets; is_passed = nat_lt 1048576 counts.nets }
    ∷ record { limit = limit.Elements; is_passed = nat_lt 1048576 counts.elements }
    ∷ record { limit = limit.Names; is_passed = nat_lt 2097152 counts.names }
    ∷ []

-- why what a top adds is refused, where a delay may be long
abbrev pub size_refusal : Additions → Bool → Option NetFault
size_refusal a is_long =
    option_or (option_map Limit (first_passed (size_tests (list_any is_large (islands_of a)) is_long))) (option_map wired_fault (first_wired a))
