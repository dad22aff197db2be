use Rattle.std.proofs.Common.{ℕ, List, length, replicate, ◌∙◌, ap}
use Rattle.first_machine.proofs.RunState.{starts, nothing}
use Rattle.first_machine.proofs.run.simulate.Goals as goal

pub run_steps-requires-clause-places : goal.run_steps-requires-clause-places
run_steps-requires-clause-places c = rw c.as_slice-2.ensures.value c.in_ok-places.ensures.places

pub run_steps-requires-clause-start : goal.run_steps-requires-clause-start
run_steps-requires-clause-start c =
    starts c.args.limit c.args.netlist.now c.args.stimulus.now _ _ _ _ _
    c.in_ok-state.ensures.outs c.in_ok-state.ensures.targets c.in_ok-state.ensures.seen (c.as_mut_slice.ensures.value ∙ c.in_ok-shown.ensures ∙ ap (λ (n : ℕ). replicate n nothing) (ap (λ (xs : List ℕ). length xs) c.as_slice.ensures)) c.new-text.ensures.items
