-- The nets of a plan have names of nets, ranges of numbers, and charges that fit their kinds; connections have bits of the module.
use Rattle.std.proofs.Common.{ℕ, ◌+◌, ◌<◌, ◌≤◌, ◌^◌, List, [], ◌∷◌, ◌++◌, map, Option, Some, None, refl, arith, inl, inr}
use Rattle.std.specs.List.{All, AllByRecursion}
use Rattle.std.specs.Option.{option_map_or}
use Rattle.v_tree.specs.declared.declarations.NetType.{NetType}
use Rattle.v_tree.specs.declared.declarations.NetType.TheVariants as type
use Rattle.v_tree.specs.declared.drives.Charge.TheVariants as charge
use Rattle.module_scope.specs.declared.roles.NetKind.{NetKind as DeclaredKind}
use Rattle.module_scope.specs.declared.roles.NetKind.TheVariants.{Typed, Trireg as TriregKind}
use Rattle.module_scope.specs.declared.nets.ScopeNet.{ScopeNet}
use Rattle.module_scope.specs.declared.scopes.Scope.{Scope}
use Rattle.module_scope.specs.Scopes.{scope_net}
use Rattle.item_parts.specs.Widths.{net_range}
use Rattle.flat_net.specs.Islands.{HasCharge}
use Rattle.element_forms.specs.Classes.{net_class, type_kind}
use Rattle.expression_bits.specs.declared.runs.BitRun.{BitRun}
use Rattle.module_parts.specs.declared.parts.PortRuns.{PortRuns}
use Rattle.netlist_plan.specs.declared.nets.NetSource.{NetSource}
use Rattle.netlist_plan.specs.declared.nets.NetSource.TheVariants.{Named, Literal}
use Rattle.netlist_plan.specs.Unnamed.{literal_count}
use Rattle.netlist_plan.specs.Nets.{bit_count, nets_from, source_width}
use Rattle.netlist_plan.specs.Elements.{connections_bits, runs_bits}
use Rattle.netlist_plan.specs.Plan.{named_net, plan_net, plan_source}
use Rattle.flattening_laws.specs.SoundPlans.{IsConnection, IsPlanNet, IsRange}
use Rattle.flattening_laws.proofs.Apart.{All_from_each, each_append}
use Rattle.plan_laws.specs.SoundRuns.{IsSoundRun}
use Rattle.plan_laws.proofs.SourceLaws.{IsSource}
use Rattle.plan_laws.proofs.RowLaws.{AreRising}
use Rattle.plan_laws.proofs.BitLaws.{AreAmong}
use Rattle.plan_laws.proofs.WithinLaws.{among_parts, runs_within}

-- ---- nets

typed_charge : (t : NetType) → HasCharge (type_kind t) 0
typed_charge type.Wire = refl
typed_charge type.Tri = refl
typed_charge type.Wand = refl
typed_charge type.Triand = refl
typed_charge type.Wor = refl
typed_charge type.Trior = refl
typed_charge type.Tri0 = refl
typed_charge type.Tri1 = refl
typed_charge type.Supply0 = refl
typed_charge type.Supply1 = refl

class_charge : (kind : DeclaredKind) → HasCharge (net_class kind).kind (net_class kind).charge
class_charge (Typed t) = typed_charge t
class_charge (TriregKind charge.Small) = inl refl
class_charge (TriregKind charge.Medium) = inr (inl refl)
class_charge (TriregKind charge.Large) = inr (inr refl)

module _ (scope : Scope) (ranges : (name : List ℕ) → IsRange (net_range (scope_net scope name))) where
  plan_net_sound : (bound first : ℕ) (source : NetSource) → bound ≤ 2 ^ 32 → IsSource bound source → IsPlanNet (plan_source scope first source)
  plan_net_sound bound first (Named name) le is = by_net (scope_net scope name) (ranges name)
    where
      by_net : (o : Option ScopeNet) → IsRange (net_range o) → IsPlanNet (named_net name first o)
      by_net None range = record { name = is; range = tt; charge = refl }
      by_net (Some net) range = record { name = is; range = range; charge = class_charge net.kind }
  plan_net_sound bound first (Literal number bits) le is =
      let small = is.0 in let some = is.1 in let few = is.2 in
      record { name = omega arith; range = (omega arith, omega arith); charge = refl }

  pub plan-nets : (bound first : ℕ) (sources : List NetSource) → bound ≤ 2 ^ 32 → AllByRecursion (IsSource bound) sources → AllByRecursion IsPlanNet (map (plan_net scope) (nets_from scope first sources))
  plan-nets bound first [] le is = tt
  plan-nets bound first (source ∷ sources) le is =
      (plan_net_sound bound first source le is.0, plan-nets bound (first + source_width scope source) sources le is.1)

-- ---- connections

-- the runs of connections, one connection after the other
abbrev pub connection_runs : List PortRuns → List BitRun
connection_runs [] = []
connection_runs (c ∷ connections) = c.runs ++ connection_runs connections

module _ (scope : Scope) (sources : List NetSource) (rising : AreRising 0 sources) where
  pub connections-within : (number : ℕ) (connections : List PortRuns) → AreAmong sources number (connection_runs connections) → AllByRecursion (λ c. AllByRecursion (IsSoundRun scope) c.runs) connections
      → AllByRecursion (IsConnection (bit_count scope (nets_from scope 0 sources))) (connections_bits scope (nets_from scope 0 sources) number connections)
  connections-within number [] among is = tt
  connections-within number (c ∷ connections) among is =
      let count = bit_count scope (nets_from scope 0 sources) in
      let bits = runs_bits scope (nets_from scope 0 sources) number c.runs in
      let split = among_parts sources number c.runs (connection_runs connections) among in
      each_append (IsConnection count) (option_map_or (λ port. record { port = port; bits = bits } ∷ []) c.port []) (connections_bits scope (nets_from scope 0 sources) (number + literal_count c.runs) connections)
      (by_port c.port (All_from_each (λ bit. bit < count) bits (runs_within scope sources rising number c.runs split.0 is.0)))
      (connections-within (number + literal_count c.runs) connections split.1 is.1)
    where
      by_port : (o : Option ℕ) → All (λ bit. bit < bit_count scope (nets_from scope 0 sources)) (runs_bits scope (nets_from scope 0 sources) number c.runs)
          → AllByRecursion (IsConnection (bit_count scope (nets_from scope 0 sources))) (option_map_or (λ port. record { port = port; bits = runs_bits scope (nets_from scope 0 sources) number c.runs } ∷ []) o [])
      by_port None all = tt
      by_port (Some port) all = (all, tt)
