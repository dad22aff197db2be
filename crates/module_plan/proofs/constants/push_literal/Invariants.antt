use Rattle.std.proofs.Common.{◌≡◌, ℕ, ◌++◌, drop, length, map}
use Rattle.std.specs.List.{enumerate_from}
use Rattle.v_lexer.specs.declared.literals.Bit.{Bit}
use Rattle.netlist_plan.specs.declared.plan.PlanStep.TheVariants.{Element as ElementStep}
use Rattle.netlist_plan.specs.Elements.{constant, literal_constants}
use Rattle.netlist_plan.specs.Plan.{element_steps}
use Rattle.module_plan.proofs.constants.push_literal.Given as goal

abbrev pub invariant-loop-place : goal.invariant-loop-place
invariant-loop-place l =
    l.steps ++ map (λ (p : ℕ × Bit). ElementStep (constant l.number (length l.bits) l.first p)) (enumerate_from l.place (drop l.place l.bits))
    ≡ l.initial.steps ++ element_steps (literal_constants l.nets l.number l.bits)
