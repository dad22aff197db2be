use Rattle.std.proofs.Common.{rules, ◌≡◌, pos, negsuc, arith, subst, to_z, of_z, w8}
use Rattle.std.proofs.lemmas.Int.{ints}
use Rattle.level_range.specs.Combine.{join_of}
use Rattle.level_range.proofs.Combination.{HasSome, lower_of-low, upper_of-high, lower_of-upper_of, two-signals}
use Rattle.level_range.proofs.combine.join.Goals as goal

pub new-requires-clause-low : goal.new-requires-clause-low
new-requires-clause-low c =
    let h = lower_of-low c.args.kind (negsuc 6) (to_z w8 (of_z w8 c.a.inside.lo)) (to_z w8 (of_z w8 c.b.inside.lo)) (omega (arith, ints)) (omega (arith, ints)) in
    omega (arith, ints)

pub new-requires-clause-order : goal.new-requires-clause-order
new-requires-clause-order c =
    let h = lower_of-upper_of c.args.kind (to_z w8 (of_z w8 c.a.inside.lo)) (to_z w8 (of_z w8 c.b.inside.lo)) (to_z w8 (of_z w8 c.a.inside.hi)) (to_z w8 (of_z w8 c.b.inside.hi)) (omega (arith, ints)) (omega (arith, ints)) in
    omega (arith, ints)

pub new-requires-clause-high : goal.new-requires-clause-high
new-requires-clause-high c =
    let h = upper_of-high c.args.kind (pos 7) (to_z w8 (of_z w8 c.a.inside.hi)) (to_z w8 (of_z w8 c.b.inside.hi)) (omega (arith, ints)) (omega (arith, ints)) in
    omega (arith, ints)

pub returns-clause-combination : goal.returns-clause-combination
returns-clause-combination c =
    let some_a = subst HasSome c.a.view_is c.a.invariant.1 in
    let some_b = subst HasSome c.b.view_is c.b.invariant.1 in
    let e : c.new.result ≡ join_of c.args.kind c.args.a c.args.b = search rules in
    rw e (two-signals c.args.kind c.args.a c.args.b some_a some_b)
