use Rattle.std.proofs.Common.{◌≡◌, ◌<◌, ◌+◌, ℕ, ◌++◌, ◌∷◌, [], List, append-nil, append_assoc, sym, ap, ◌∙◌, arith}
use Rattle.std.specs.FinMap.{len}
use Rattle.timing_wheel.proofs.Taken.{collects_none, collects_more, len_taken}
use Rattle.timing_wheel.proofs.wheel.Wheel.collect.Goals as goal

pub loop-key-init : goal.loop-key-init
loop-key-init c = (c.requires, ([], sym (append-nil c.args.keys.now.items), collects_none c.args.self.now c.args.t))

pub push_reserved-requires : goal.push_reserved-requires
push_reserved-requires c =
    let due = c.in-Some.ensures.taken in
    let fewer = len_taken c.loop-key.self.times c.in-Some.key due.0 due.1 in
    omega (arith, c.loop-key.invariant.0, fewer.0)

pub loop-key-smaller : goal.loop-key-smaller
loop-key-smaller c =
    let due = c.in-Some.ensures.taken in
    let fewer = len_taken c.loop-key.self.times c.in-Some.key due.0 due.1 in
    let smaller : len c.take_one.new.self.times < len c.loop-key.self.times = rw c.in-Some.ensures.times (omega (arith, fewer)) in smaller

pub loop-key-preserved : goal.loop-key-preserved
loop-key-preserved c =
    let so_far = c.loop-key.invariant.1 in
    let due = c.in-Some.ensures.taken in
    let fewer = len_taken c.loop-key.self.times c.in-Some.key due.0 due.1 in
    let left : len c.take_one.new.self.times + 1 ≡ len c.loop-key.self.times = rw c.in-Some.ensures.times (fewer.1) in (
      omega (arith, c.loop-key.invariant.0, left, c.push_reserved.ensures.len, c.push_reserved.ensures.capacity),
      (
        so_far.0 ++ c.in-Some.key ∷ [],
        c.push_reserved.ensures.items ∙ ap (λ (xs : List ℕ). xs ++ c.in-Some.key ∷ []) so_far.1 ∙ append_assoc c.args.keys.now.items so_far.0 (c.in-Some.key ∷ []),
        collects_more c.args.self.now c.loop-key.self c.take_one.new.self c.args.t c.in-Some.key so_far.0 so_far.2 due c.in-Some.ensures.times c.in-Some.ensures.spare,
      ),
    )
