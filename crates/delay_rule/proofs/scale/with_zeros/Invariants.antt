use Rattle.std.proofs.Common.{◌≡◌, ◌*◌, ◌^◌, min}
use Rattle.delay_rule.proofs.scale.with_zeros.Given as goal

abbrev pub invariant-loop-zeros : goal.invariant-loop-zeros
invariant-loop-zeros l = l.value ≡ min (l.number * 10 ^ l._zeros) (2 ^ 31)
