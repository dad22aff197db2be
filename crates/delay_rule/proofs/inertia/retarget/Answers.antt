use Rattle.std.proofs.Common.{◌+◌, rules}
use Rattle.level_range.specs.Signal.{reads}
use Rattle.delay_rule.specs.Delay.{delay_of}
use Rattle.delay_rule.proofs.InertiaLemmas.{IsEquality-same_signal, IsRetarget-pending_after, IsNone-pending_after}
use Rattle.delay_rule.specs.Inertia.{same_signal}
use Rattle.delay_rule.proofs.inertia.retarget.Goals as goal

pub returns-clause-inertia : goal.returns-clause-inertia
returns-clause-inertia c = IsRetarget-pending_after _ _ _ _ same_signal IsEquality-same_signal _ (search rules)

pub returns-clause-none : goal.returns-clause-none
returns-clause-none c =
    IsNone-pending_after c.args.present c.args.pending c.args.target (c.args.now + delay_of c.args.delays.now (reads c.args.target)) same_signal IsEquality-same_signal _ (search rules)
