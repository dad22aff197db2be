use Rattle.std.proofs.Common.{◌≡◌, ℕ, ◌+◌, ◌<◌, List, get_or, length, ap, sym, ◌∙◌, subst, arith}
use Rattle.std.proofs.lemmas.List.{get_or_default}
use Rattle.std.proofs.lemmas.Option.{get_or_from_slice_get}
use Rattle.level_range.specs.Signal.{Signal, undriven}
use Rattle.net_settle.specs.Charges.{signal_at}
use Rattle.flat_net.specs.declared.parts.NetPart.{NetPart}
use Rattle.cell_step.specs.declared.states.NetState.{NetState}
use Rattle.cell_step.specs.Readings.{no_net, net_at}
use Rattle.cell_step.specs.Nets.{next_net}
use Rattle.cell_step.specs.Islands.{no_state, state_at, part_at, nets_after}
use Rattle.cell_step.proofs.Filling.{IsFilled, filled-more, filled-all}
use Rattle.cell_step.proofs.islands.step_nets.Goals as goal

same-next : (p q : NetPart) (now : ℕ) (a b d e f g : Signal) (s t : NetState) → p ≡ q → a ≡ b → d ≡ e → f ≡ g → s ≡ t →
    next_net p now a d f s ≡ next_net q now b e g t
same-next p q now a b d e f g s t parts driven signals charges states =
    ap (λ x. next_net x now a d f s) parts ∙ ap (λ x. next_net q now x d f s) driven ∙ ap (λ x. next_net q now b x f s) signals
    ∙ ap (λ x. next_net q now b e x s) charges ∙ ap (next_net q now b e g) states

-- a signal that is read is the one at the place
read-at : (xs : List Signal) (k : ℕ) (s : Signal) → k < length xs → s ≡ get_or xs k s → s ≡ signal_at xs k
read-at xs k s lt is = is ∙ get_or_default xs k s undriven lt

pub loop-place-preserved : goal.loop-place-preserved
loop-place-preserved c =
    let parts = c.args.flat.now.parts in
    let island = c.args.island.now in
    let f = λ (place : ℕ). next_net (part_at parts island place) c.args.now (signal_at c.args.driven.now place)
    (signal_at c.args.signals.now place) (signal_at c.args.charges.now place) (state_at c.args.nets.now place) in
    let k = c.loop-place.place in
    let within : k < length island.nets = (let t = c.loop-place-test.true in let e = ap length c.as_slice-numbers.ensures in omega arith) in
    let part = sym (get_or_from_slice_get parts.nets (get_or c.as_slice-numbers.result.now k 0) c.net-part.result.now no_net c.net-part.ensures)
    ∙ ap (λ (l : List ℕ). net_at parts (get_or l k 0)) c.as_slice-numbers.ensures in
    let state = sym (get_or_from_slice_get c.loop-place.nets k c.at-state.result no_state c.at-state.ensures)
    ∙ c.loop-place.invariant.back k (omega arith) in
    let is = c.next_net-next.ensures
    ∙ same-next _ _ c.args.now _ _ _ _ _ _ _ _ part
    (read-at c.args.driven.now k _ (let e = c.requires.driven in omega arith) c.index-driven-place.is)
    (read-at c.args.signals.now k _ (let e = c.requires.signals in omega arith) c.index-signals-place.is)
    (read-at c.args.charges.now k _ (let e = c.requires.charges in omega arith) c.index-charges-place.is)
    state in
    subst (λ l. IsFilled f no_state c.args.nets.now l (k + 1)) (sym c.set.ensures)
    (filled-more f no_state c.args.nets.now c.loop-place.nets k c.next_net-next.result (let s = c.requires.size in omega arith) is
    c.loop-place.invariant)

pub returns : goal.returns
unfolding nets_after
returns c =
    let parts = c.args.flat.now.parts in
    let island = c.args.island.now in
    filled-all (λ (place : ℕ). next_net (part_at parts island place) c.args.now (signal_at c.args.driven.now place)
    (signal_at c.args.signals.now place) (signal_at c.args.charges.now place) (state_at c.args.nets.now place))
    no_state c.args.nets.now c.loop-place.nets (length island.nets) c.loop-place.place c.requires.size
    (let t = c.loop-place-test.false in let e = ap length c.as_slice-numbers.ensures in omega arith) c.loop-place.invariant
