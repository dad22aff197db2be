use Rattle.std.proofs.Common.{◌≡◌, ℕ, ◌++◌, ap, ◌∙◌, arith}
use Rattle.std.specs.List.{range_with_len}
use Rattle.module_plan.proofs.Walks.{range-more}
use Rattle.module_plan.proofs.numbers.push_range.Goals as goal

pub loop-offset-preserved : goal.loop-offset-preserved
loop-offset-preserved c =
    range-more c.args.first c.loop-offset.offset c.args.numbers.now.items c.loop-offset.numbers.items c.push.new.self.items c.in_ok-plan_sum.field-0
    c.loop-offset.invariant c.in_ok-plan_sum.ensures c.in_ok-push.ensures.items

pub returns : goal.returns
returns c =
    let all : c.loop-offset.offset ≡ c.args.count = omega arith in
    c.loop-offset.invariant ∙ ap (λ (n : ℕ). c.args.numbers.now.items ++ range_with_len c.args.first n) all
