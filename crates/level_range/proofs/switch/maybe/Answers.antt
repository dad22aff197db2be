use Rattle.std.proofs.Common.{rules, ◌≡◌, subst}
use Rattle.level_range.specs.Signal.{IsSignal, undriven}
use Rattle.level_range.specs.Reduce.{hull_of}
use Rattle.level_range.proofs.Reduction.{hull_of-is, hull_of-monotone, undriven-is}
use Rattle.level_range.proofs.switch.maybe.Goals as goal

pub returns-clause-hull : goal.returns-clause-hull
returns-clause-hull c =
    let is_a : IsSignal c.args.a = subst IsSignal c.a.view_is (record { low = c.a.invariant.0; order = c.a.invariant.1; high = c.a.invariant.2 }) in
    let e : c.new.result ≡ hull_of c.args.a undriven = search rules in
    rw e (hull_of-is c.args.a undriven is_a undriven-is)

pub returns-clause-monotone : goal.returns-clause-monotone
returns-clause-monotone c =
    let e : c.new.result ≡ hull_of c.args.a undriven = search rules in
    λ b is_b within v h. rw e (hull_of-monotone c.args.a b is_b within v h)
