-- What elaboration answers of a file under a choice: its flat netlist, or the first rule that is broken or limit that is
-- passed. All rules but that on wired nets come first, then the limits, then that one.
use Rattle.std.specs.Prelude.{◌≡◌, ◌≢◌, ℕ, map, Option, Some, None, option_and_then}
use Rattle.std.specs.Option.{IsSomeAnd, option_map, option_or}
use Rattle.v_tree.specs.declared.locations.Location.{Location}
use Rattle.v_tree.specs.declared.modules.File.{File}
use Rattle.module_graph.specs.Top.{top_of}
use Rattle.netlist_scopes.specs.declared.rules.BrokenRule.{BrokenRule}
use Rattle.netlist_scopes.specs.Rules.{first_broken, first_of, number_of}
use Rattle.netlist_rules.specs.Rules.{all_rules}
use Rattle.chosen_delays.specs.declared.choice.Mtm.{Mtm}
use Rattle.flat_net.specs.Patches.{Netlist, whole}
use Rattle.netlist_meaning.specs.Limits.{first_passed, limit_tests}
use Rattle.netlist_meaning.specs.Netlist.{additions_in, first_wired, netlist_parts}
use Rattle.netlist_meaning.specs.Plans.{graph_in}
use Rattle.elaborate.specs.declared.choice.Choice.{Choice}
use Rattle.elaborate.specs.declared.fault.NetFault.{NetFault}
use Rattle.elaborate.specs.declared.fault.NetFault.TheVariants.{Rule, Limit, Memory}

-- a broken rule, by its number and the line of its first place
abbrev pub rule_fault : BrokenRule → NetFault
rule_fault broken = Rule (number_of broken.rule) broken.line

-- rule 15: a terminal of a bidirectional switch is a wired net
abbrev pub wired_fault : Location → NetFault
wired_fault place = Rule 15 place.line

-- the first broken rule of all others
abbrev pub rule_refusal : File → Choice → Option NetFault
rule_refusal file choice = option_map rule_fault (first_broken (map first_of (all_rules file choice.top)))

-- the first limit that the netlist of a top passes, else its first wired net at a bidirectional switch
abbrev pub limit_refusal : Mtm → File → ℕ → Option NetFault
limit_refusal choice file top =
    let a = additions_in choice file top in
    option_or (option_map Limit (first_passed (limit_tests choice file top a))) (option_map wired_fault (first_wired a))

-- the index of the top
abbrev pub top_in : File → Choice → Option ℕ
top_in file choice = top_of (graph_in file) choice.top

-- why a file has no netlist under a choice, None where it has one
abbrev pub refusal : File → Choice → Option NetFault
refusal file choice = option_or (rule_refusal file choice) (option_and_then (limit_refusal choice.delays file) (top_in file choice))

-- the netlist of a file that isn't refused, each cell whole
pub record IsNetlist (file : File) (choice : Choice) (netlist : Netlist) : Type 0 where
  pub accepted : refusal file choice ≡ None
  pub same : IsSomeAnd (top_in file choice) (λ top. netlist ≡ whole (netlist_parts choice.delays file top))

-- any answer but want of memory is why the file is refused
abbrev pub IsRefusal : File → Choice → NetFault → Type 0
IsRefusal file choice fault = fault ≢ Memory → refusal file choice ≡ Some fault
