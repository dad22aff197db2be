use Rattle.std.proofs.Common.{◌≡◌, ◌∙◌, List, [], ◌∷◌, ◌++◌, ℕ, map, take, ap, sym, ◌+◌}
use Rattle.std.specs.List.{range_with_len}
use Rattle.std.proofs.lemmas.List.{take_more}
use Rattle.netlist_plan.specs.declared.claims.NetClaim.{NetClaim}
use Rattle.netlist_plan.specs.Claims.{claim_on}
use Rattle.flattening.specs.Slots.{claim_slots}
use Rattle.flattening.proofs.SlotLemmas.{claims_none, claims_more}
use Rattle.flattening.proofs.claims.net_claims.Goals as goal

pub loop-net-init : goal.loop-net-init
loop-net-init c = c.in_ok-table.ensures ∙ claims_none c.args.count

pub loop-net-preserved : goal.loop-net-preserved
loop-net-preserved c =
    let claims = c.args.claims.now in
    let i = c.loop-net.net-index in
    let item = c.loop-net-item.result in
    let next : take (i + 1) claims ≡ take i claims ++ item ∷ [] =
    take_more claims i item c.loop-net-test.true ∙ ap (λ (x : ℕ × NetClaim). take i claims ++ x ∷ []) (sym c.loop-net-item.is) in
    c.take_claim.ensures
    ∙ ap (λ (table : List NetClaim). claim_slots table item.0 item.1) c.loop-net.invariant
    ∙ claims_more (take i claims) item.0 item.1 c.args.count
    ∙ ap (λ (seen : List (ℕ × NetClaim)). map (claim_on seen) (range_with_len 0 c.args.count)) (sym next)
