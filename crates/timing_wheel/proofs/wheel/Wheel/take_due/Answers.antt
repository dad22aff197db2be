use Rattle.std.proofs.Common.{◌≡◌, ◌++◌, ℕ, List, drop, ap, subst, ◌∙◌, arith}
use Rattle.std.specs.List.Sorted.{IsPermutation}
use Rattle.timing_wheel.proofs.Taken.{takes_due, tail_of}
use Rattle.timing_wheel.proofs.wheel.Wheel.take_due.Goals as goal

pub returns-clause-taken : goal.returns-clause-taken
returns-clause-taken c =
    let all = c.collect.ensures.taken in
    let start = c.len-start.result in
    let into : c.reserve.new.self.items ≡ c.args.into.now = c.in_ok-reserve.ensures.items ∙ c.into.view_is in
    let parts = tail_of c.reserve.new.self.items all.0 c.collect.new.keys.items c.sort_from.new.keys.items start (omega (arith, c.len-start.ensures)) all.1 c.sort_from.ensures.head in (
      drop start c.sort_from.new.keys.items,
      parts.0 ∙ ap (λ (xs : List ℕ). xs ++ drop start c.sort_from.new.keys.items) into,
      takes_due c.args.self.now c.collect.new.self c.args.t all.0 (drop start c.sort_from.new.keys.items) all.2 c.collect.ensures.none
          (subst (λ (xs : List ℕ). IsPermutation xs (drop start c.sort_from.new.keys.items)) parts.1 c.sort_from.ensures.permutation) c.sort_from.ensures.sorted,
    )
