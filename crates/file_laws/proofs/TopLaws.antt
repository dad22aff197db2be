-- The ports of a top are nets of the flat netlist, and no two of them have the same.
use Rattle.std.proofs.Common.{◌≡◌, ℕ, zero, suc, ◌<◌, ◌≤◌, Bool, true, false, List, [], ◌∷◌, ◌++◌, length, map, Option, refl, ap, arith}
use Rattle.std.specs.Prelude.{slice_index_or, if◌then◌else◌}
use Rattle.std.specs.List.{All, AllByRecursion}
use Rattle.udp_table.specs.Primitive.{Primitive}
use Rattle.v_tree.specs.declared.declarations.Direction.{Direction}
use Rattle.v_tree.specs.declared.modules.File.{File}
use Rattle.module_ports.specs.Ports.{Port, net_at}
use Rattle.instance_rules.specs.Links.{net_direction}
use Rattle.netlist_rules.specs.Items.{port_tables}
use Rattle.chosen_delays.specs.declared.choice.Mtm.{Mtm}
use Rattle.flat_net.specs.Soundness.{AreDistinctNets}
use Rattle.hierarchy_counts.specs.declared.counts.ModuleCounts.{ModuleCounts}
use Rattle.hierarchy_counts.specs.Hierarchy.{module_at}
use Rattle.netlist_plan.specs.declared.plan.PortBits.{PortBits}
use Rattle.netlist_plan.specs.declared.plan.ModulePlan.{ModulePlan}
use Rattle.netlist_plan.specs.Flattening.{Hierarchy, bit_count as plan_bits, flattening, no_plan}
use Rattle.flattening.specs.Delays.{hierarchy}
use Rattle.flattening_laws.specs.SoundPlans.{IsSoundPlan, ports_bits}
use Rattle.flattening_laws.specs.Counts.{all_module_counts, module_counts}
use Rattle.flattening_laws.proofs.Apart.{All_from_each, AreApart, Differ, apart_append, apart_distinct, distinct_apart, each_append, each_from_All, each_weaker}
use Rattle.flattening_laws.proofs.CountLaws.{flattening-nets}
use Rattle.flattening_laws.proofs.SoundLaws.{none_sound}
use Rattle.netlist_meaning.specs.Plans.{plans_in}
use Rattle.netlist_meaning.specs.Delays.{delays_in}
use Rattle.netlist_meaning.specs.Netlist.{additions_in, port_nets, top_nets}

-- ---- lists in two parts

module _ {X : Type 0} where
  each_parts : (P : X → Type 0) (xs ys : List X) → AllByRecursion P (xs ++ ys) → AllByRecursion P xs × AllByRecursion P ys
  each_parts P [] ys h = (tt, h)
  each_parts P (x ∷ xs) ys h = let rest = each_parts P xs ys h.1 in ((h.0, rest.0), rest.1)

  -- the elements of each part differ, and those of the one from those of the other
  apart_parts : (xs ys : List X) → AreApart (xs ++ ys) → AreApart xs × AreApart ys × AllByRecursion (λ x. AllByRecursion (Differ x) ys) xs
  apart_parts [] ys h = (tt, h, tt)
  apart_parts (x ∷ xs) ys h =
      let first = each_parts (Differ x) xs ys h.0 in
      let rest = apart_parts xs ys h.1 in
      ((first.0, rest.0), rest.1, (first.1, rest.2))

get_mapped : {X Y : Type 0} (f : X → Y) (xs : List X) (k : ℕ) (d : X) → slice_index_or (map f xs) k (f d) ≡ f (slice_index_or xs k d)
get_mapped f [] k d = refl
get_mapped f (x ∷ xs) zero d = refl
get_mapped f (x ∷ xs) (suc k) d = get_mapped f xs k d

at_or : {X : Type 0} (P : X → Type 0) (xs : List X) (k : ℕ) (d : X) → P d → AllByRecursion P xs → P (slice_index_or xs k d)
at_or P [] k d none each = none
at_or P (x ∷ xs) zero d none each = each.0
at_or P (x ∷ xs) (suc k) d none each = at_or P xs k d none each.1

-- ---- some of the ports of a module

module _ (takes : Option Direction → Bool) (table : List Port) where
  -- what holds of the bits of all ports holds of those that are taken
  port_nets_each : (P : ℕ → Type 0) (ports : List PortBits) → AllByRecursion P (ports_bits ports) → AllByRecursion P (port_nets takes table ports)
  port_nets_each P [] h = tt
  port_nets_each P (p ∷ ports) h =
      let two = each_parts P p.bits (ports_bits ports) h in
      by_test (takes (net_direction (net_at table p.port))) two.0 (port_nets_each P ports two.1)
    where
      by_test : (b : Bool) → AllByRecursion P p.bits → AllByRecursion P (port_nets takes table ports) → AllByRecursion P ((if b then p.bits else []) ++ port_nets takes table ports)
      by_test true own rest = each_append P p.bits (port_nets takes table ports) own rest
      by_test false own rest = rest

  port_nets_apart : (ports : List PortBits) → AreApart (ports_bits ports) → AreApart (port_nets takes table ports)
  port_nets_apart [] h = tt
  port_nets_apart (p ∷ ports) h =
      let three = apart_parts p.bits (ports_bits ports) h in
      by_test (takes (net_direction (net_at table p.port))) three.0
      (each_weaker (λ x. AllByRecursion (Differ x) (ports_bits ports)) (λ x. AllByRecursion (Differ x) (port_nets takes table ports)) p.bits (λ x. port_nets_each (Differ x) ports) three.2)
      (port_nets_apart ports three.1)
    where
      by_test : (b : Bool) → AreApart p.bits → AllByRecursion (λ x. AllByRecursion (Differ x) (port_nets takes table ports)) p.bits → AreApart (port_nets takes table ports)
          → AreApart ((if b then p.bits else []) ++ port_nets takes table ports)
      by_test true own between rest = apart_append p.bits (port_nets takes table ports) own rest between
      by_test false own between rest = rest

  -- the ports of a sound plan that pass a test are distinct nets of it
  pub port-nets : (udps : List Primitive) (plan : ModulePlan) → IsSoundPlan udps plan → AreDistinctNets (plan_bits plan.nets) (port_nets takes table plan.ports)
  port-nets udps plan sound = record {
    within = All_from_each (λ net. net < plan_bits plan.nets) (port_nets takes table plan.ports)
        (port_nets_each (λ net. net < plan_bits plan.nets) plan.ports (each_from_All (λ net. net < plan_bits plan.nets) (ports_bits plan.ports) sound.ports));
    distinct = distinct_apart (port_nets takes table plan.ports) (port_nets_apart plan.ports (apart_distinct (ports_bits plan.ports) sound.apart));
  }

-- ---- those of the top

nets_wider : (m n : ℕ) (nets : List ℕ) → m ≤ n → AreDistinctNets m nets → AreDistinctNets n nets
nets_wider m n nets least are = record {
  within = All_from_each (λ net. net < n) nets (each_weaker (λ net. net < m) (λ net. net < n) nets (λ net less. omega arith) (each_from_All (λ net. net < m) nets are.within));
  distinct = are.distinct;
}

module _ (udps : List Primitive) (h : Hierarchy) where
  -- a flattening has the nets of its top, and perhaps more
  flattening_least : All (IsSoundPlan udps) h.plans → (top : ℕ) → plan_bits (slice_index_or h.plans top no_plan).nets ≤ length (flattening h top).net_names
  flattening_least plans top =
      let count = flattening-nets udps h plans top in
      let own : (module_at (all_module_counts h.plans) top).nets ≡ plan_bits (slice_index_or h.plans top no_plan).nets
      = ap (λ (m : ModuleCounts). m.nets) (get_mapped module_counts h.plans top no_plan) in
      omega arith

module _ (takes : Option Direction → Bool) (file : File) (top : ℕ) (udps : List Primitive) where
  pub top-nets : All (IsSoundPlan udps) (plans_in file top) → (choice : Mtm) → AreDistinctNets (length (additions_in choice file top).net_names) (top_nets takes file top)
  top-nets plans choice =
      let plan = slice_index_or (plans_in file top) top no_plan in
      let sound = at_or (IsSoundPlan udps) (plans_in file top) top no_plan (none_sound udps) (each_from_All (IsSoundPlan udps) (plans_in file top) plans) in
      nets_wider (plan_bits plan.nets) (length (additions_in choice file top).net_names) (top_nets takes file top)
      (flattening_least udps (hierarchy (plans_in file top) (delays_in choice file)) plans top)
      (port-nets takes (slice_index_or (port_tables file.directives file.modules) top []) udps plan sound)
