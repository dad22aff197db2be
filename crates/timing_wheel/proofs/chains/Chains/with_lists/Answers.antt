use Rattle.std.proofs.Common.{◌≡◌, get_or, length, ap, ◌∙◌, arith, ℕ, List}
use Rattle.std.proofs.lemmas.List.{length-replicate, get_or-replicate}
use Rattle.timing_wheel.proofs.Rings.{IsLinked-alone}
use Rattle.timing_wheel.proofs.chains.Chains.with_lists.Goals as goal

pub invariant_of-result : goal.invariant_of-result
invariant_of-result c =
    let places : length c.in_ok-places.places.items ≡ c.args.slots = ap length c.in_ok-places.ensures ∙ length-replicate c.args.slots c.args.lists in
    IsLinked-alone c.in_ok-next.next.items c.in_ok-previous.previous.items c.in_ok-places.places.items c.args.lists
    (omega (arith, c.in_ok-next.ensures.len)) (omega (arith, c.in_ok-previous.ensures.len)) (omega (arith, c.requires)) c.in_ok-next.ensures.each c.in_ok-previous.ensures.each
    (λ k fits. ap (λ (xs : List ℕ). get_or xs k 0) c.in_ok-places.ensures ∙ get_or-replicate c.args.slots k c.args.lists 0 (omega arith))
