use Rattle.std.proofs.Common.{◌≡◌, refl, subst, arith}
use Rattle.std.specs.FinMap.{empty}
use Rattle.timing_wheel.specs.Wheel.{Pending, IsLeastTime}
use Rattle.timing_wheel.proofs.Held.{least_held, empty_held, not_empty}
use Rattle.timing_wheel.proofs.wheel.Wheel.next_time.Goals as goal

pub returns-then-least-clause-none : goal.returns-then-least-clause-none
returns-then-least-clause-none c =
    let s = c.self.inside in
    let w = c.self.invariant in
    let is_empty : c.args.self.now.times ≡ empty = subst (λ (p : Pending). p.times ≡ empty) c.self.view_is (empty_held s.keys.items s.schedule s.index s.spare w (c.least-least.ensures.none c.if-least.true)) in
    ((λ none. is_empty), (λ none. refl))

least_time : (c : goal.Else-least) → IsLeastTime c.args.self.now.times c.least-least.result
least_time c =
    let s = c.self.inside in
    let w = c.self.invariant in
    subst (λ (p : Pending). IsLeastTime p.times c.least-least.result) c.self.view_is
    (least_held s.keys.items s.schedule s.index s.spare c.least-least.result w c.least-least.ensures.least (omega (arith, c.if-least.false)))

pub returns-else-least-clause-none : goal.returns-else-least-clause-none
returns-else-least-clause-none c =
    ((λ e. absurd (let h = e in cc)), (λ e. absurd (not_empty c.args.self.now.times c.least-least.result (least_time c) e)))

pub returns-else-least-clause-least : goal.returns-else-least-clause-least
returns-else-least-clause-least c = least_time c
