use Rattle.std.proofs.Common.{◌≡◌, ℕ, ◌<◌, List, length, get_or, ap, sym, ◌∙◌, subst, arith}
use Rattle.level_range.specs.Signal.{Signal, undriven}
use Rattle.flat_net.specs.Soundness.{AreDistinctNets}
use Rattle.plain_sim.proofs.Inputs.{missing-undriven}
use Rattle.plain_sim.proofs.run.PlainRun.begin_time.Goals as goal

pub force_inputs-requires-clause-nets : goal.force_inputs-requires-clause-nets
force_inputs-requires-clause-nets c =
    let parts = c.self.inside.flat.now.parts in
    subst (AreDistinctNets (length c.as_mut_slice.result.now)) (sym (c.as_slice-nets.ensures ∙ c.inputs.ensures))
    (subst (λ n. AreDistinctNets n parts.inputs)
    (sym (ap length c.as_mut_slice.ensures.value ∙ c.self.invariant.forced.count)) c.net_count-nets.ensures.sound.sound.inputs)

pub force_inputs-requires-clause-others : goal.force_inputs-requires-clause-others
force_inputs-requires-clause-others c net lt none =
    let parts = c.self.inside.flat.now.parts in
    let same : c.as_slice-nets.result.now ≡ parts.inputs = c.as_slice-nets.ensures ∙ c.inputs.ensures in
    let long = ap length same in
    let size = ap length c.as_mut_slice.ensures.value in
    ap (λ (l : List Signal). get_or l net undriven) c.as_mut_slice.ensures.value
    ∙ c.self.invariant.forced.signals net (omega arith)
    ∙ missing-undriven parts.inputs c.self.inside.inputs.items net
    (λ k within e. none k (omega arith) (ap (λ (l : List ℕ). get_or l k 0) same ∙ e))
