-- The counts of a module's plan, by its parts.
use Rattle.std.proofs.Common.{◌≡◌, ℕ, ◌+◌, List, map, sym, ap, ◌∙◌}
use Rattle.std.specs.List.{flat_map}
use Rattle.v_tree.specs.declared.modules.Module.{Module}
use Rattle.module_scope.specs.declared.scopes.Scope.{Scope}
use Rattle.module_parts.specs.declared.parts.ModulePart.{ModulePart}
use Rattle.netlist_plan.specs.declared.plan.ModulePlan.{ModulePlan}
use Rattle.netlist_plan.specs.Nets.{module_nets}
use Rattle.netlist_plan.specs.Plan.{Given, Meanings, module_plan, plan_net}
use Rattle.netlist_plan.specs.Flattening.{bit_count}
use Rattle.flattening_laws.specs.Counts.{instance_counts, instance_list, module_counts}
use Rattle.plan_counts.specs.PartCounts.{elements_in, instances_in, part_counts}
use Rattle.plan_counts.specs.PortWidths.{widths_in}
use Rattle.plan_counts.proofs.ElementLaws.{elements-counted}
use Rattle.plan_counts.proofs.InstanceLaws.{bounds-counted, instances-counted}

module _ (scope : Scope) (meanings : Meanings) (m : Module) (parts : List ModulePart) where
  abbrev given : Given
  given = record { scope = scope; nets = module_nets scope parts; items = m.items; meanings = meanings }

  pub counts-are : (nets elements names : ℕ) → nets ≡ bit_count (map (plan_net scope) (module_nets scope parts)) → elements ≡ elements_in scope m.items parts → names ≡ nets + instances_in parts
      → record { nets = nets; elements = elements; names = names } ≡ module_counts (module_plan scope meanings m parts)
  counts-are nets elements names nets_are elements_are names_are =
      ap (λ n. record { nets = n; elements = elements; names = names }) nets_are
      ∙ ap (λ n. record { nets = bits; elements = n; names = names }) (elements_are ∙ sym (elements-counted given 0 parts))
      ∙ ap (λ n. record { nets = bits; elements = length_of; names = n }) (names_are ∙ ap (λ n. n + instances_in parts) nets_are ∙ ap (λ n. bits + n) (sym (instances-counted given 0 parts)))
    where
      bits : ℕ
      bits = bit_count (map (plan_net scope) (module_nets scope parts))

      length_of : ℕ
      length_of = (module_counts (module_plan scope meanings m parts)).elements

  pub bounds-are : (plans : List ModulePlan) (widths : List (List ℕ)) → map widths_in plans ≡ widths
      → flat_map (part_counts scope widths) parts ≡ map (instance_counts plans) (instance_list (module_plan scope meanings m parts).steps)
  bounds-are plans widths are = ap (λ ws. flat_map (part_counts scope ws) parts) (sym are) ∙ sym (bounds-counted given plans 0 parts)
