use Rattle.std.proofs.Common.{◌≡◌, ◌^◌, min, take}
use Rattle.delay_rule.specs.Ticks.{number_after}
use Rattle.delay_rule.proofs.scale.with_digits.Given as goal

abbrev pub invariant-loop-digit : goal.invariant-loop-digit
invariant-loop-digit l = l.value ≡ min (number_after l.number (take l.digit-index l.digits)) (2 ^ 31)
