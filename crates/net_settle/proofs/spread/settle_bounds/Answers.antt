use Rattle.std.proofs.Common.{◌≡◌, ◌+◌, ◌*◌, ◌-◌, ℕ, suc, List, ap, subst, ◌∙◌, arith}
use Rattle.std.specs.Prelude.{ℤ, zip}
use Rattle.std.proofs.lemmas.List.{length-map}
use Rattle.net_settle.specs.declared.side.Side.{Side}
use Rattle.net_settle.specs.Bounds.{Switch, bound_of, bounds_of, favoured_level, opposed_level}
use Rattle.net_settle.specs.Settling.{IsSettled}
use Rattle.net_settle.specs.Progress.{rank, IsDone}
use Rattle.net_settle.proofs.Ranks.{rank-favoured_level, rank-opposed_level}
use Rattle.net_settle.proofs.Signals.{signals-most}
use Rattle.net_settle.proofs.Walks.{starts, settles, settled_once}
use Rattle.net_settle.proofs.Rounds.{settled_bounds-settled}
use Rattle.net_settle.proofs.spread.settle_bounds.Goals as goal
use Rattle.net_settle.proofs.spread.settle_bounds.Goals.{After-loop-weaker}

-- both levels of a strength are finished, the better one first
strength-done : (side : Side) (switches : List Switch) (own : List ℤ) (strength next : ℕ) (first second : ℤ) (before between after : List ℤ) →
    strength ≡ suc next → first ≡ favoured_level side strength → second ≡ opposed_level side strength →
    ((r : ℕ) → rank side first ≡ suc r → IsDone side switches own (suc r) before → IsDone side switches own r between) →
    ((r : ℕ) → rank side second ≡ suc r → IsDone side switches own (suc r) between → IsDone side switches own r after) →
    IsDone side switches own (2 * strength) before → IsDone side switches own (2 * next) after
strength-done side switches own strength next first second before between after s f o fore back done =
    let rf = ap (rank side) f ∙ rank-favoured_level side strength in
    let ro = rank-opposed_level side strength (omega arith) in
    let rs = ap (rank side) o in
    let e : 2 * strength ≡ suc (suc (2 * next)) = omega arith in
    back (2 * next) (omega arith) (fore (suc (2 * next)) (omega arith) (subst (λ r. IsDone side switches own r before) e done))

pub loop-weaker-init : goal.loop-weaker-init
loop-weaker-init c =
    starts c.args.side (zip c.args.links.now c.args.on.now) (bounds_of c.args.side c.args.own.now) 14 (signals-most c.args.side c.args.own.now c.clear.ensures.signals) c.clear.new.bounds
    (let h = length-map c.args.own.now (bound_of c.args.side) in omega arith) c.clear.ensures.none

pub loop-weaker-preserved : goal.loop-weaker-preserved
loop-weaker-preserved c =
    strength-done c.args.side (zip c.args.links.now c.args.on.now) (bounds_of c.args.side c.args.own.now)
    (7 - c.loop-weaker.weaker) (7 - (c.loop-weaker.weaker + 1)) c.favoured_level.result c.opposed_level.result
    c.loop-weaker.bounds c.spread.new.bounds c.spread-in-loop-weaker.new.bounds
    (omega arith) c.favoured_level.ensures c.opposed_level.ensures c.spread.ensures.finishes c.spread-in-loop-weaker.ensures.finishes
    c.loop-weaker.invariant

settled : (c : After-loop-weaker) → IsSettled c.args.side (zip c.args.links.now c.args.on.now) (bounds_of c.args.side c.args.own.now) c.loop-weaker.bounds
settled c =
    let e : 2 * (7 - c.loop-weaker.weaker) ≡ 0 = omega arith in
    settles c.args.side (zip c.args.links.now c.args.on.now) (bounds_of c.args.side c.args.own.now) c.loop-weaker.bounds
    (subst (λ r. IsDone c.args.side (zip c.args.links.now c.args.on.now) (bounds_of c.args.side c.args.own.now) r c.loop-weaker.bounds) e c.loop-weaker.invariant)

pub returns-clause-settled : goal.returns-clause-settled
returns-clause-settled c = settled c

pub returns-clause-value : goal.returns-clause-value
returns-clause-value c =
    settled_once c.args.side (zip c.args.links.now c.args.on.now) (bounds_of c.args.side c.args.own.now) 14 (signals-most c.args.side c.args.own.now c.clear.ensures.signals) _ _ (settled c)
    (settled_bounds-settled c.args.side (zip c.args.links.now c.args.on.now) (bounds_of c.args.side c.args.own.now) (signals-most c.args.side c.args.own.now c.clear.ensures.signals))
