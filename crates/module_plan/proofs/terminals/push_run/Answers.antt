use Rattle.std.proofs.Common.{◌≡◌, ℕ, List, [], ◌∷◌, ◌++◌, sym, ap, ◌∙◌}
use Rattle.expression_bits.specs.declared.runs.BitRun.{BitRun}
use Rattle.expression_bits.specs.declared.runs.BitRun.TheVariants.{Net}
use Rattle.netlist_plan.specs.declared.plan.SwitchTerminal.{SwitchTerminal}
use Rattle.netlist_plan.specs.Plan.{run_terminal}
use Rattle.module_plan.proofs.terminals.push_run.Goals as goal

pub returns-in_ok-push-in-Net : goal.returns-in_ok-push-in-Net
returns-in_ok-push-in-Net c =
    let select = c.in-Net.select in
    let is : Net c.as_slice.result.now select ≡ c.args.run.now = ap (λ (name : List ℕ). Net name select) c.as_slice.ensures ∙ sym c.in-Net.is in
    c.in_ok-push-in-Net.ensures.items
    ∙ ap (λ (b : ℕ). c.args.list.now.items ++ record { bit = b; location = c.args.location } ∷ []) c.in_ok-bit-in-Net.ensures
    ∙ ap (λ (run : BitRun). c.args.list.now.items ++ run_terminal c.args.scope.now c.args.nets.now c.args.location run) is
