use Rattle.std.proofs.Common.{◌≡◌, ℕ, ◌++◌, drop, length, map}
use Rattle.std.specs.List.{enumerate_from, zip}
use Rattle.netlist_plan.specs.declared.plan.PlanStep.TheVariants.{Element as ElementStep}
use Rattle.netlist_plan.specs.Elements.{copied_bit, copies}
use Rattle.netlist_plan.specs.Plan.{element_steps}
use Rattle.module_plan.proofs.assignments.push_copies.Given as goal

abbrev pub invariant-loop-place : goal.invariant-loop-place
invariant-loop-place l =
    l.steps ++ map (λ (p : ℕ × (ℕ × ℕ)). ElementStep (copied_bit l.number (length l.targets) l.strengths l.item p)) (enumerate_from l.place (zip (drop l.place l.targets) (drop l.place l.values)))
    ≡ l.initial.steps ++ element_steps (copies l.number l.strengths l.item l.targets l.values)
