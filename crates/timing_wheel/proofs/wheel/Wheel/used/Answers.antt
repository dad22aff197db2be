use Rattle.std.proofs.Common.{◌≤◌, ◌-◌, subst, arith}
use Rattle.std.specs.FinMap.{len}
use Rattle.timing_wheel.specs.Wheel.{Pending}
use Rattle.timing_wheel.proofs.Taken.{len_held}
use Rattle.timing_wheel.proofs.wheel.Wheel.used.Goals as goal

pub returns-clause-most : goal.returns-clause-most
returns-clause-most c =
    let s = c.self.inside in
    let w = c.self.invariant in
    subst (λ (p : Pending). len p.times ≤ c.len.result - s.spare) c.self.view_is
    (omega (arith, len_held s.keys.items s.schedule w.size, w.counted, w.size, c.len.ensures))
