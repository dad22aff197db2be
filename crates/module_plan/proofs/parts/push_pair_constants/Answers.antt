use Rattle.std.proofs.Common.{◌≡◌, ℕ, ◌+◌, List, ◌++◌, ap, ◌∙◌}
use Rattle.expression_bits.specs.declared.runs.BitRun.{BitRun}
use Rattle.netlist_plan.specs.Unnamed.{literal_count}
use Rattle.module_nets.proofs.Gaining.{ok_then}
use Rattle.module_plan.proofs.Walks.{if_ok_then}
use Rattle.module_plan.proofs.Steps.{constant_steps, number_behind, steps_behind}
use Rattle.module_plan.proofs.parts.push_pair_constants.Goals as goal

pub returns-clause-steps : goal.returns-clause-steps
returns-clause-steps c =
    let nets = c.args.nets.now in
    let pair = c.args.pair.now in
    let start = c.args.steps.now in
    let number = c.args.number in
    let xs = c.as_slice.result.now in
    let ys = c.as_slice-2.result.now in
    let last = c.push_constants-2.new.steps in
    ok_then c.push_constants-2.result
    (last ≡ c.push_constants.new.steps ++ constant_steps nets c.in_ok-middle.middle ys)
    (last ≡ start ++ constant_steps nets number (pair.target ++ pair.value.runs))
    c.push_constants-2.ensures.steps
    (λ e.
    steps_behind nets number c.in_ok-middle.middle xs ys start c.push_constants.new.steps last c.in_ok-middle.ensures.next c.in_ok-middle.ensures.steps e
    ∙ ap (λ (runs : List BitRun). start ++ constant_steps nets number (runs ++ ys)) c.as_slice.ensures
    ∙ ap (λ (runs : List BitRun). start ++ constant_steps nets number (pair.target ++ runs)) c.as_slice-2.ensures)

pub returns-clause-next : goal.returns-clause-next
returns-clause-next c =
    let pair = c.args.pair.now in
    let number = c.args.number in
    let xs = c.as_slice.result.now in
    let ys = c.as_slice-2.result.now in
    if_ok_then c.push_constants-2.result
    (λ (next : ℕ). next ≡ c.in_ok-middle.middle + literal_count ys)
    (λ (next : ℕ). next ≡ number + literal_count (pair.target ++ pair.value.runs))
    c.push_constants-2.ensures.next
    (λ next e.
    number_behind number c.in_ok-middle.middle next xs ys c.in_ok-middle.ensures.next e
    ∙ ap (λ (runs : List BitRun). number + literal_count (runs ++ ys)) c.as_slice.ensures
    ∙ ap (λ (runs : List BitRun). number + literal_count (pair.target ++ runs)) c.as_slice-2.ensures)
