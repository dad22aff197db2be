-- The plan of a module with sound parts is sound.
use Rattle.std.proofs.Common.{◌≡◌, ℕ, ◌+◌, ◌<◌, ◌≤◌, ◌^◌, List, [], ◌∷◌, map, sym, subst, arith}
use Rattle.std.specs.List.{All, AllByRecursion, flat_map}
use Rattle.udp_table.specs.Primitive.{Primitive}
use Rattle.v_tree.specs.declared.modules.Module.{Module}
use Rattle.module_scope.specs.declared.scopes.Scope.{Scope}
use Rattle.module_scope.specs.Scopes.{scope_net}
use Rattle.module_ports.specs.Ports.{port_names}
use Rattle.item_parts.specs.Widths.{net_range}
use Rattle.module_parts.specs.declared.parts.ModulePart.{ModulePart}
use Rattle.module_parts.specs.declared.parts.ModulePart.TheVariants.{Names}
use Rattle.netlist_plan.specs.declared.nets.NetSource.{NetSource}
use Rattle.netlist_plan.specs.declared.plan.PlanNet.{PlanNet}
use Rattle.netlist_plan.specs.declared.plan.ModulePlan.{ModulePlan}
use Rattle.netlist_plan.specs.Unnamed.{numbered_from, own_count, runs_in, unnamed_count}
use Rattle.netlist_plan.specs.Nets.{bit_count, nets_from, new_sources, part_sources}
use Rattle.netlist_plan.specs.Plan.{Given, Meanings, module_plan, part_steps}
use Rattle.netlist_plan.specs.Flattening.{bit_count as plan_bits}
use Rattle.flattening_laws.specs.SoundPlans.{HasTerminals, IsPlanNet, IsPlanStep, IsRange, IsSoundPlan, ports_bits}
use Rattle.flattening_laws.proofs.Apart.{AreApart, All_from_each, distinct_apart, each_append, each_from_All}
use Rattle.plan_laws.specs.SoundRuns.{HasSoundRuns, IsSoundRun}
use Rattle.plan_laws.specs.SoundParts.{IsSoundPart}
use Rattle.plan_laws.proofs.SourceLaws.{IsSource, module_sources_sound, unnamed_in}
use Rattle.plan_laws.proofs.RowLaws.{AreRising, new_rising, parts_rising, plan-bits, plan-names, plan-row}
use Rattle.plan_laws.proofs.BitLaws.{AreAmong}
use Rattle.plan_laws.proofs.NetLaws.{plan-nets}
use Rattle.plan_laws.proofs.PartLaws.{header-named, parts-among}
use Rattle.plan_laws.proofs.PortLaws.{ports-apart, ports-within}
use Rattle.plan_laws.proofs.StepLaws.{part-sound}
use Rattle.plan_laws.proofs.StepNameLaws.{HasName, TextsApart, step_names-distinct, step_names-not_halved}

module _ (udps : List Primitive) (scope : Scope) (meanings : Meanings) (m : Module) (rest : List ModulePart) where
  abbrev parts : List ModulePart
  parts = Names (port_names m.ports) ∷ rest

  abbrev sources : List NetSource
  sources = new_sources [] (flat_map part_sources (numbered_from 0 parts))

  abbrev given : Given
  given = record { scope = scope; nets = nets_from scope 0 sources; items = m.items; meanings = meanings }

  rising : AreRising 0 sources
  rising = new_rising [] 0 (flat_map part_sources (numbered_from 0 parts)) (parts_rising 0 parts)

  steps_from : (number : ℕ) (some : List ModulePart) → number + unnamed_in some ≤ 2 ^ 32 → AllByRecursion (IsSoundPart udps given) (numbered_from number some) → AllByRecursion (HasSoundRuns scope) some
      → AllByRecursion (λ (p : ℕ × ModulePart). AreAmong sources (p.0 + own_count p.1) (runs_in p.1)) (numbered_from number some)
      → AllByRecursion (IsPlanStep udps (bit_count scope (nets_from scope 0 sources))) (flat_map (part_steps given) (numbered_from number some))
  steps_from number [] small is runs among = tt
  steps_from number (part ∷ some) small is runs among =
      each_append (IsPlanStep udps (bit_count scope (nets_from scope 0 sources))) (part_steps given (number, part)) (flat_map (part_steps given) (numbered_from (number + unnamed_count part) some))
      (part-sound udps scope sources rising m.items meanings number part (omega arith) is.0 (each_from_All (IsSoundRun scope) (runs_in part) runs.0.runs) among.0)
      (steps_from (number + unnamed_count part) some (omega arith) is.1 runs.1 among.1)

  abbrev plan : ModulePlan
  plan = module_plan scope meanings m parts

  pub plan-sound : ((name : List ℕ) → IsRange (net_range (scope_net scope name))) → AllByRecursion (HasSoundRuns scope) parts → unnamed_in parts ≤ 2 ^ 32 → AreApart (port_names m.ports)
      → AllByRecursion (IsSoundPart udps given) (numbered_from 0 parts) → AllByRecursion HasName parts → TextsApart given parts
      → All (λ terminal. terminal.bit < plan_bits plan.nets) plan.terminals → All (HasTerminals (map (λ terminal. terminal.bit) plan.terminals)) plan.steps → IsSoundPlan udps plan
  plan-sound ranges runs few ports is has apart terminals ends =
      let bound = unnamed_in parts in
      let sound : AllByRecursion (IsSource bound) sources = module_sources_sound scope parts runs in
      let count : plan_bits plan.nets ≡ bit_count scope (nets_from scope 0 sources) = plan-bits scope bound 0 sources sound in
      let header = header-named (port_names m.ports) rest in
      record {
        row = plan-row scope bound 0 sources sound;
        nets = All_from_each IsPlanNet plan.nets (plan-nets scope ranges bound 0 sources few sound);
        net_names = distinct_apart (map (λ (net : PlanNet). net.name) plan.nets) (plan-names scope parts);
        ports = subst (λ k. All (λ bit. bit < k) (ports_bits plan.ports)) (sym count)
            (All_from_each (λ bit. bit < bit_count scope (nets_from scope 0 sources)) (ports_bits plan.ports) (ports-within scope sources 0 (port_names m.ports) header));
        apart = distinct_apart (ports_bits plan.ports) (ports-apart scope sources 0 (port_names m.ports) header ports);
        steps = subst (λ k. All (IsPlanStep udps k) plan.steps) (sym count)
            (All_from_each (IsPlanStep udps (bit_count scope (nets_from scope 0 sources))) plan.steps (steps_from 0 parts (omega arith) is runs (parts-among parts)));
        step_names = step_names-distinct given parts has apart;
        halves = step_names-not_halved given parts has apart;
        terminals = terminals;
        ends = ends;
      }
