-- A worked example: two inverters in a row.
use Rattle.std.proofs.Common.{◌≡◌, refl}
use Rattle.std.specs.Prelude.{ℕ, false, [], ◌∷◌, map, Option, None}
use Rattle.logic_tables.specs.declared.kinds.FoldKind.TheVariants as fold
use Rattle.delay_rule.specs.declared.delays.Delays.{Delays}
use Rattle.flat_net.specs.declared.kinds.ElementKind.TheVariants.{Fold}
use Rattle.flat_net.specs.declared.kinds.NetKind.TheVariants.{Wire}
use Rattle.netlist_plan.specs.declared.plan.OwnName.TheVariants.{Written, Unnamed}
use Rattle.netlist_plan.specs.declared.plan.ElementName.TheVariants.{Gate}
use Rattle.netlist_plan.specs.declared.plan.PlanNet.{PlanNet}
use Rattle.netlist_plan.specs.declared.plan.PlanStep.{PlanStep}
use Rattle.netlist_plan.specs.declared.plan.PlanStep.TheVariants.{Element as ElementStep, Instance as InstanceStep}
use Rattle.netlist_plan.specs.declared.plan.ModulePlan.{ModulePlan}
use Rattle.netlist_plan.specs.Flattening.{Hierarchy, additions, flattening}

wire : ℕ → ℕ → PlanNet
wire letter first = record { name = Written (letter ∷ []); range = None; class = record { kind = Wire; charge = 0 }; delay = None; first = first }

inverter : ModulePlan
inverter = record {
  nets = wire 121 0 ∷ wire 97 1 ∷ [];
  ports = record { port = 0; bits = 0 ∷ [] } ∷ record { port = 1; bits = 1 ∷ [] } ∷ [];
  steps = ElementStep (record {
    name = Gate (Unnamed 0);
    kind = Fold fold.Not;
    strengths = record { zero = 6; one = 6 };
    item = None;
    resistive = false;
    outs = 0 ∷ [];
    ins = 1 ∷ [];
    ends = None;
  }) ∷ [];
  terminals = [];
}

instance : ℕ → ℕ → ℕ → PlanStep
instance letter out input = InstanceStep (record {
  master = 0;
  name = letter ∷ [];
  connections = record { port = 0; bits = out ∷ [] } ∷ record { port = 1; bits = input ∷ [] } ∷ [];
})

top : ModulePlan
top = record {
  nets = wire 111 0 ∷ wire 105 1 ∷ wire 119 2 ∷ [];
  ports = record { port = 0; bits = 0 ∷ [] } ∷ record { port = 1; bits = 1 ∷ [] } ∷ [];
  steps = instance 117 0 2 ∷ instance 118 2 1 ∷ [];
  terminals = [];
}

both : (ℕ → Option ℕ → Delays) → Hierarchy
both delays = record { plans = inverter ∷ top ∷ []; delays = delays }

outs-are : (delays : ℕ → Option ℕ → Delays) → map (λ e. e.outs) (flattening (both delays) 1).elements ≡ (0 ∷ []) ∷ (2 ∷ []) ∷ []
unfolding additions both top instance inverter wire
outs-are delays = refl

ins-are : (delays : ℕ → Option ℕ → Delays) → map (λ e. e.ins) (flattening (both delays) 1).elements ≡ (2 ∷ []) ∷ (1 ∷ []) ∷ []
unfolding additions both top instance inverter wire
ins-are delays = refl
