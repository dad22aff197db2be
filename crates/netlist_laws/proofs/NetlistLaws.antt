-- The flat netlist of a file with sound plans is sound.
use Rattle.std.proofs.Common.{◌≡◌, ℕ, ◌<◌, ◌≤◌, List, [], ◌++◌, length, None, arith}
use Rattle.std.specs.List.{All}
use Rattle.chosen_delays.specs.declared.choice.Mtm.{Mtm}
use Rattle.chosen_delays.specs.Made.{no_delays}
use Rattle.v_tree.specs.declared.modules.File.{File}
use Rattle.rule_places.proofs.PlaceLaws.{first_place_none}
use Rattle.udp_table.specs.Primitive.{Primitive}
use Rattle.flat_net.specs.declared.parts.Element.{Element}
use Rattle.flat_net.specs.Elements.{IsElement, end_nets, pin_nets}
use Rattle.flat_net.specs.Soundness.{IsSound}
use Rattle.net_islands.specs.Islands.{HasNets}
use Rattle.flattening_laws.proofs.Apart.{All_from_each, each_from_All, each_weaker}
use Rattle.flattening_laws.proofs.Numbers.{length_append}
use Rattle.name_laws.proofs.Fronts.{each_back, each_front}
use Rattle.instance_rules.specs.Links.{is_driving}
use Rattle.hierarchy_counts.specs.Hierarchy.Measure.{Elements, Nets}
use Rattle.netlist_plan.specs.Flattening.{Hierarchy}
use Rattle.flattening.specs.Delays.{hierarchy}
use Rattle.flattening_laws.specs.Counts.{all_instance_counts, all_module_counts}
use Rattle.flattening_laws.specs.SoundAdditions.{AreSoundAdditions}
use Rattle.flattening_laws.specs.SoundPlans.{IsSoundPlan}
use Rattle.flattening_laws.proofs.CountLaws.{flattening-elements, flattening-nets}
use Rattle.flattening_laws.proofs.SoundLaws.{flattening-sound}
use Rattle.flat_assembly.specs.Assembly.{classes, net_claims}
use Rattle.flat_assembly.specs.Wired.{wired_places}
use Rattle.flat_assembly.proofs.AssemblyLaws.{flat_parts-sound}
use Rattle.flat_assembly.proofs.WiredLaws.{plain-ends}
use Rattle.netlist_meaning.specs.Plans.{plans_in, primitives_in}
use Rattle.netlist_meaning.specs.Delays.{delays_in}
use Rattle.netlist_meaning.specs.Netlist.{additions_in, first_wired, is_driven, netlist_parts, top_nets}
use Rattle.netlist_meaning.specs.Limits.{total}
use Rattle.file_laws.proofs.TopLaws.{top-nets}
use Rattle.netlist_laws.proofs.HierarchyLaws.{inside-grows}

-- ---- elements

has_nets : (udps : List Primitive) (count : ℕ) (e : Element) → IsElement count udps e → HasNets count e
has_nets udps count e is =
    let all = each_from_All (λ net. net < count) (pin_nets e) is.nets in
    let front = each_front (λ net. net < count) (end_nets e.ends ++ e.outs) e.ins all in
    let whole = length_append (end_nets e.ends ++ e.outs) e.ins in
    let part = length_append (end_nets e.ends) e.outs in
    let few = is.few in
    record {
      few = omega arith;
      outs = All_from_each (λ net. net < count) e.outs (each_back (λ net. net < count) (end_nets e.ends) e.outs front);
      ends = All_from_each (λ net. net < count) (end_nets e.ends) (each_front (λ net. net < count) (end_nets e.ends) e.outs front);
    }

-- ---- netlists

module _ (choice : Mtm) (file : File) (top : ℕ) (plans : All (IsSoundPlan (primitives_in file top)) (plans_in file top)) where
  abbrev whole : Hierarchy
  whole = hierarchy (plans_in file top) (delays_in choice file)

  pub sound-additions : AreSoundAdditions (primitives_in file top) (additions_in choice file top)
  sound-additions = flattening-sound (primitives_in file top) whole plans top

  pub elements-within : All (HasNets (length (additions_in choice file top).net_names)) (additions_in choice file top).elements
  elements-within =
      let a = additions_in choice file top in
      All_from_each (HasNets (length a.net_names)) a.elements (each_weaker (IsElement (length a.net_names) (primitives_in file top)) (HasNets (length a.net_names)) a.elements
      (has_nets (primitives_in file top) (length a.net_names)) (each_from_All (IsElement (length a.net_names) (primitives_in file top)) a.elements sound-additions.elements))

  pub few-nets : total Nets (plans_in file top) top ≤ 1048576 → length (additions_in choice file top).net_names ≤ 1048576
  few-nets few =
      let count = flattening-nets (primitives_in file top) whole plans top in
      let more = inside-grows Nets (all_module_counts (plans_in file top)) (all_instance_counts (plans_in file top)) 63 top in
      omega (arith, count, more, few)

  pub few-elements : total Elements (plans_in file top) top ≤ 1048576 → length (additions_in choice file top).elements ≤ 1048576
  few-elements few =
      let count = flattening-elements whole top in
      let more = inside-grows Elements (all_module_counts (plans_in file top)) (all_instance_counts (plans_in file top)) 63 top in
      omega (arith, count, more, few)

  pub netlist-sound : total Nets (plans_in file top) top ≤ 1048576 → total Elements (plans_in file top) top ≤ 1048576 → first_wired (additions_in choice file top) ≡ None
      → IsSound (netlist_parts choice file top)
  netlist-sound nets elements none =
      let a = additions_in choice file top in
      let nowhere : wired_places (classes (net_claims a)) a.terminals ≡ [] = first_place_none (wired_places (classes (net_claims a)) a.terminals) none in
      flat_parts-sound no_delays (primitives_in file top) (top_nets is_driven file top) (top_nets is_driving file top) a sound-additions (few-nets nets) (few-elements elements)
      (plain-ends (primitives_in file top) whole plans (classes (net_claims a)) top nowhere)
      (top-nets is_driven file top (primitives_in file top) plans choice) (top-nets is_driving file top (primitives_in file top) plans choice)
