use Rattle.std.proofs.Common.{Bool, drop, ap, sym, ◌∙◌, ◌+◌}
use Rattle.primitive_rules.specs.declared.places.PrimitivePlaces.{PrimitivePlaces}
use Rattle.primitive_rules.specs.Walks.{with_udp, with_all}
use Rattle.primitive_rules.proofs.WalkLaws.{with_all-step, with_all-end, with_all-reached}
use Rattle.primitive_rules.proofs.places.PrimitivePlaces.new.Goals as goal

pub loop-index-preserved : goal.loop-index-preserved
loop-index-preserved c =
    let reached = c.args.reached.now in
    let udps = c.args.udps.now in
    let i = c.loop-index.index in
    let u = c.index-udps-index.result in
    ap (λ (p : PrimitivePlaces). with_all p (drop (i + 1) reached) (drop (i + 1) udps)) (c.in_ok-places.ensures ∙ ap (λ (b : Bool). with_udp c.loop-index.places b u) c.is_reached.ensures)
    ∙ sym (with_all-step c.loop-index.places reached udps i u c.loop-index-test.true (sym c.index-udps-index.is))
    ∙ c.loop-index.invariant

pub returns : goal.returns
returns c =
    sym (with_all-end c.loop-index.places c.args.reached.now c.args.udps.now c.loop-index.index c.loop-index-test.false)
    ∙ c.loop-index.invariant ∙ with_all-reached c.args.reached.now c.args.udps.now
