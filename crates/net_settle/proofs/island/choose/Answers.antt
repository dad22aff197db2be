use Rattle.std.proofs.Common.{length, arith, ap, sym, ◌∙◌}
use Rattle.level_range.specs.Signal.{undriven}
use Rattle.net_settle.specs.ByLevels.{signals_between}
use Rattle.net_settle.specs.Charges.{prefer_driven, signal_at}
use Rattle.net_settle.proofs.Listed.{chosen_signals-all, signals_between-at}
use Rattle.net_settle.proofs.island.choose.Goals as goal

pub returns : goal.returns
returns c =
    chosen_signals-all c.args.driven.now (signals_between c.args.lower.now c.args.upper.now (length c.args.out.now)) c.loop-net.out (omega arith)
    (λ n lt.
    c.loop-net.invariant n undriven (omega arith)
    ∙ ap (prefer_driven (signal_at c.args.driven.now n))
    (sym (signals_between-at c.args.lower.now c.args.upper.now (length c.args.out.now) n undriven (omega arith))))
