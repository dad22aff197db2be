-- What is written out of a top whose counts are within their limits is a sound netlist.
use Rattle.std.proofs.Common.{◌≡◌, ℕ, ◌+◌, ◌<◌, ◌≤◌, Bool, false, List, length, Option, None, Some, sym, ap, subst, ◌∙◌, arith}
use Rattle.std.specs.Prelude.{IfErr, IfOk, ◌≢◌}
use Rattle.std.specs.List.{All, items_where_true, list_any}
use Rattle.chosen_delays.specs.declared.choice.Mtm.{Mtm}
use Rattle.chosen_delays.specs.Made.{no_delays}
use Rattle.v_tree.specs.declared.modules.Module.{Module}
use Rattle.v_tree.specs.declared.modules.File.{File}
use Rattle.instance_rules.specs.Links.{is_driving}
use Rattle.udp_table.specs.Primitive.{Primitive}
use Rattle.flat_net.specs.declared.parts.Parts.{Parts}
use Rattle.flat_net.specs.Soundness.{IsSound, greatest_count}
use Rattle.net_islands.specs.Islands.{HasNets}
use Rattle.netlist_plan.specs.Additions.{Additions}
use Rattle.flattening.specs.Lists.{all_in}
use Rattle.flattening_laws.specs.Counts.{all_instance_counts}
use Rattle.flattening_laws.specs.SoundPlans.{IsSoundPlan}
use Rattle.flat_assembly.specs.Assembly.{flat_parts}
use Rattle.hierarchy_counts.specs.declared.counts.HierarchyCounts.{HierarchyCounts}
use Rattle.hierarchy_counts.specs.Hierarchy.{levels_inside}
use Rattle.hierarchy_counts.specs.Hierarchy.Measure.{Elements, Nets}
use Rattle.netlist_rules.specs.declared.rules.Rules.{Rules}
use Rattle.netlist_meaning.specs.Delays.{has_long}
use Rattle.netlist_meaning.specs.Limits.{depth, first_passed, has_wide, modules_in, total}
use Rattle.netlist_meaning.specs.Netlist.{additions_in, first_wired, is_driven, netlist_parts, top_nets}
use Rattle.netlist_meaning.specs.Plans.{plans_in, primitives_in}
use Rattle.netlist_laws.specs.Unbroken.{AreUnbroken}
use Rattle.netlist_laws.proofs.HierarchyLaws.{plans-sound}
use Rattle.netlist_laws.proofs.NetlistLaws.{elements-within, few-elements, few-nets, netlist-sound, sound-additions}
use Rattle.elaborate.specs.declared.fault.NetFault.{NetFault}
use Rattle.elaborate.specs.declared.written.Written.{Written}
use Rattle.elaborate.specs.Refusals.{limit_refusal}
use Rattle.elaborate.specs.Rules.{AreRulesOf}
use Rattle.elaborate.specs.Steps.{hierarchy_tests, size_refusal}
use Rattle.elaborate.proofs.LimitLaws.{AreCounts, late-same, within-limits}

-- whether a range is wide, by what the rules keep
pub wide-is : (file : File) (top : ℕ) (rules : Rules) → AreRulesOf file top rules → (flags : List Bool) (modules : List Module) (b : Bool)
    → flags ≡ rules.scopes.reached → modules ≡ file.modules → b ≡ list_any has_wide (items_where_true flags modules) → list_any has_wide (modules_in file top) ≡ b
wide-is file top rules are flags modules b flags_are modules_are is =
    sym (is ∙ ap (λ (ms : List Module). list_any has_wide (items_where_true flags ms)) modules_are
    ∙ ap (λ (fs : List Bool). list_any has_wide (items_where_true fs file.modules)) (flags_are ∙ are.reached))

-- a hierarchy that is written out
pub record IsWritten (choice : Mtm) (file : File) (top : ℕ) (w : Written) : Type 0 where
  pub flat : all_in w.flat ≡ additions_in choice file top
  pub is_long : w.is_long ≡ list_any (has_long choice file.directives) (modules_in file top)
  pub udps : w.udps ≡ primitives_in file top
  pub inputs : w.inputs ≡ top_nets is_driven file top
  pub outputs : w.outputs ≡ top_nets is_driving file top

module _ (choice : Mtm) (file : File) (top : ℕ) (w : Written) (is : IsWritten choice file top w) where
  parts_same : flat_parts no_delays w.udps w.inputs w.outputs (all_in w.flat) ≡ netlist_parts choice file top
  parts_same =
      ap (λ (a : Additions). flat_parts no_delays w.udps w.inputs w.outputs a) is.flat
      ∙ ap (λ (us : List Primitive). flat_parts no_delays us w.inputs w.outputs (additions_in choice file top)) is.udps
      ∙ ap (λ (ns : List ℕ). flat_parts no_delays (primitives_in file top) ns w.outputs (additions_in choice file top)) is.inputs
      ∙ ap (λ (ns : List ℕ). flat_parts no_delays (primitives_in file top) (top_nets is_driven file top) ns (additions_in choice file top)) is.outputs

  pub written-parts : flat_parts no_delays w.udps w.inputs w.outputs (all_in w.flat) ≡ netlist_parts choice file top
  written-parts = parts_same

  module _ (counts : HierarchyCounts) (are : AreCounts file top counts) (none : first_passed (hierarchy_tests counts) ≡ None) where
    -- what is written out decides
    pub written-refusal : list_any has_wide (modules_in file top) ≡ false → size_refusal (all_in w.flat) w.is_long ≡ limit_refusal choice file top
    written-refusal narrow =
        ap (λ (a : Additions). size_refusal a w.is_long) is.flat ∙ ap (λ (b : Bool). size_refusal (additions_in choice file top) b) is.is_long
        ∙ sym (late-same choice file top narrow counts are none)

    module _ (unbroken : AreUnbroken file top) where
      sound_plans : All (IsSoundPlan (primitives_in file top)) (plans_in file top)
      sound_plans =
          let limits = within-limits file top counts are none in
          let levels : levels_inside (all_instance_counts (plans_in file top)) 64 top < 64 = omega (arith, limits.0) in
          plans-sound file top unbroken levels limits.2

      pub written-few-nets : length w.flat.net_names ≤ greatest_count
      written-few-nets =
          let limits = within-limits file top counts are none in
          subst (λ (a : Additions). length a.net_names ≤ greatest_count) (sym is.flat) (few-nets choice file top sound_plans limits.1)

      pub written-few-elements : length w.flat.elements ≤ greatest_count
      written-few-elements =
          let limits = within-limits file top counts are none in
          subst (λ (a : Additions). length a.elements ≤ greatest_count) (sym is.flat) (few-elements choice file top sound_plans limits.2)

      pub written-elements : All (HasNets (length w.flat.net_names)) w.flat.elements
      written-elements = subst (λ (a : Additions). All (HasNets (length a.net_names)) a.elements) (sym is.flat) (elements-within choice file top sound_plans)

      pub written-resistive : length w.flat.resistive ≡ length w.flat.elements
      written-resistive = subst (λ (a : Additions). length a.resistive ≡ length a.elements) (sym is.flat) (sound-additions choice file top sound_plans).resistive

      pub written-sound : first_wired (all_in w.flat) ≡ None → IsSound (flat_parts no_delays w.udps w.inputs w.outputs (all_in w.flat))
      written-sound nowhere =
          let limits = within-limits file top counts are none in
          subst IsSound (sym parts_same) (netlist-sound choice file top sound_plans limits.1 limits.2 (sym (ap first_wired is.flat) ∙ nowhere))
