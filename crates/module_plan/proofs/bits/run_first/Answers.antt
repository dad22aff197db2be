use Rattle.std.proofs.Common.{◌≡◌, ℕ, List, subst, sym, ap, ◌∙◌}
use Rattle.std.specs.List.{range_with_len}
use Rattle.expression_bits.specs.declared.runs.BitRun.{BitRun}
use Rattle.expression_bits.specs.declared.runs.BitRun.TheVariants.{Net}
use Rattle.expression_bits.specs.Runs.{run_width}
use Rattle.netlist_plan.specs.Nets.{run_bits}
use Rattle.module_plan.proofs.Walks.{if_ok_then}
use Rattle.module_plan.proofs.bits.run_first.Goals as goal

pub returns-in-Net : goal.returns-in-Net
returns-in-Net c =
    let scope = c.args.scope.now in
    let nets = c.args.nets.now in
    let number = c.args.number in
    let select = c.in-Net.select in
    let is : Net c.as_slice.result.now select ≡ c.args.run.now = ap (λ (name : List ℕ). Net name select) c.as_slice.ensures ∙ sym c.in-Net.is in
    if_ok_then c.pick_first.result
    (λ (first : ℕ). (n : ℕ) → run_bits scope nets n (Net c.as_slice.result.now select) ≡ range_with_len first (run_width scope (Net c.as_slice.result.now select)))
    (λ (first : ℕ). run_bits scope nets number c.args.run.now ≡ range_with_len first (run_width scope c.args.run.now))
    c.pick_first.ensures
    (λ first at. subst (λ (run : BitRun). run_bits scope nets number run ≡ range_with_len first (run_width scope run)) is (at number))
