use Rattle.std.proofs.Common.{rules, ◌≡◌, arith, subst, to_z, of_z, w8}
use Rattle.std.proofs.lemmas.Int.{ints}
use Rattle.level_range.specs.Signal.{IsSignal}
use Rattle.level_range.specs.Reduce.{reduction_of}
use Rattle.level_range.proofs.Reduction.{reduced_level-low, reduced_level-high, reduced_level-monotone, reduced_level-weaker, reduced-is, reduced-reads, reduced-monotone}
use Rattle.level_range.proofs.switch.reduce.Goals as goal

pub new-requires-clause-low : goal.new-requires-clause-low
new-requires-clause-low c =
    let h = reduced_level-low c.args.resistive (to_z w8 (of_z w8 c.a.inside.lo)) (omega (arith, ints)) in
    omega (arith, ints)

pub new-requires-clause-order : goal.new-requires-clause-order
new-requires-clause-order c =
    let h = reduced_level-monotone c.args.resistive (to_z w8 (of_z w8 c.a.inside.lo)) (to_z w8 (of_z w8 c.a.inside.hi)) (omega (arith, ints)) in
    omega (arith, ints)

pub new-requires-clause-high : goal.new-requires-clause-high
new-requires-clause-high c =
    let h = reduced_level-high c.args.resistive (to_z w8 (of_z w8 c.a.inside.hi)) (omega (arith, ints)) in
    omega (arith, ints)

pub returns-clause-levels : goal.returns-clause-levels
returns-clause-levels c =
    let is_a : IsSignal c.args.a = subst IsSignal c.a.view_is (record { low = c.a.invariant.0; order = c.a.invariant.1; high = c.a.invariant.2 }) in
    let e : c.new.result ≡ reduction_of c.args.resistive c.args.a = search rules in
    rw e (reduced-is c.args.resistive c.args.a is_a)

pub returns-clause-reading : goal.returns-clause-reading
returns-clause-reading c =
    let e : c.new.result ≡ reduction_of c.args.resistive c.args.a = search rules in
    rw e (reduced-reads c.args.resistive c.args.a)

pub returns-clause-weaker_lo : goal.returns-clause-weaker_lo
returns-clause-weaker_lo c =
    let e : c.new.result ≡ reduction_of c.args.resistive c.args.a = search rules in
    rw e (reduced_level-weaker c.args.resistive c.args.a.lo)

pub returns-clause-weaker_hi : goal.returns-clause-weaker_hi
returns-clause-weaker_hi c =
    let e : c.new.result ≡ reduction_of c.args.resistive c.args.a = search rules in
    rw e (reduced_level-weaker c.args.resistive c.args.a.hi)

pub returns-clause-monotone : goal.returns-clause-monotone
returns-clause-monotone c =
    let e : c.new.result ≡ reduction_of c.args.resistive c.args.a = search rules in
    λ b is_b within v h. rw e (reduced-monotone c.args.resistive c.args.a b is_b within v h)
