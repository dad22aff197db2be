use Rattle.std.proofs.Common.{◌+◌, ◌∷◌, [], ◌++◌, ℕ, List, slice_index_or, ap, ◌∙◌}
use Rattle.netlist_plan.specs.declared.claims.NetClaim.{NetClaim}
use Rattle.flattening.proofs.Ranges.{each_more}
use Rattle.flattening.proofs.nets.push_claims.Goals as goal

pub loop-place-preserved : goal.loop-place-preserved
loop-place-preserved c =
    let claim = c.net_claim-claim.result in
    let seen = c.loop-place.claims.items in
    each_more {A = ℕ × NetClaim} (λ (place : ℕ). (slice_index_or c.args.at.now.numbers (c.args.net.now.first + place) 0, claim)) c.args.claims.now.items seen c.push.new.self.items c.loop-place.place
    c.loop-place.invariant (c.in_ok-push.ensures.items ∙ ap (λ (number : ℕ). seen ++ (number, claim) ∷ []) (c.number_at-number.ensures ∙ ap (λ (ns : List ℕ). slice_index_or ns (c.args.net.now.first + c.loop-place.place) 0) c.as_slice.ensures))
