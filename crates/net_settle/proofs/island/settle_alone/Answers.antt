use Rattle.std.proofs.Common.{◌≡◌, length, arith, ap, sym, ◌∙◌, subst, slice_set}
use Rattle.level_range.specs.Signal.{IsSignal}
use Rattle.net_settle.specs.Charges.{driven_signals, island_signals, charged_signals}
use Rattle.net_settle.proofs.Alone.{first_driven, alone-driven, alone-driven_settled, alone-charged_settled, chosen-excluded, chosen-second, alone-excluded, alone-second}
use Rattle.net_settle.proofs.island.settle_alone.Goals as goal
use Rattle.net_settle.proofs.island.settle_alone.Goals.{then-excludes_zero, else-excludes_zero}

pub returns-clause-driven : goal.returns-clause-driven
unfolding driven_signals
returns-clause-driven c =
    let i = c.first.invariant in
    alone-driven c.args.shape.now.links c.args.on.now c.args.own.now (slice_set c.args.driven.now 0 c.index-own-0.result) c.index-driven-0.result
    c.requires.links c.requires.own
    (first_driven c.args.own.now c.args.driven.now c.index-own-0.result c.requires.own c.requires.driven_nets c.index-own-0.is)
    c.index-driven-0.is
    (subst IsSignal c.first.view_is record { low = i.0; order = i.1; high = i.2 })

pub returns-clause-signals : goal.returns-clause-signals
unfolding island_signals driven_signals
returns-clause-signals c =
    let kinds = c.args.shape.now.kinds in
    let levels = c.args.shape.now.charge in
    let driven = slice_set c.args.driven.now 0 c.index-own-0.result in
    let i = c.first.invariant in
    let j = c.second.invariant in
    let is = first_driven c.args.own.now c.args.driven.now c.index-own-0.result c.requires.own c.requires.driven_nets c.index-own-0.is in
    let first = subst IsSignal c.first.view_is record { low = i.0; order = i.1; high = i.2 } in
    let second = subst IsSignal c.second.view_is record { low = j.0; order = j.1; high = j.2 } in
    let charged =
    c.charge_signals.ensures
    ∙ ap (λ k. charged_signals k c.as_slice-levels.result.now c.args.own.now c.args.charges.now driven) c.as_slice.ensures
    ∙ ap (λ l. charged_signals kinds l c.args.own.now c.args.charges.now driven) c.as_slice-levels.ensures in
    let one : length c.charge_signals.new.out ≡ 1 = omega arith in
    elim c.if-excludes_zero.branch [
      | then-excludes_zero w ↦
          alone-excluded c.args.shape.now.links c.args.on.now c.args.own.now driven c.index-driven-0.result c.requires.links c.requires.own is
          c.index-driven-0.is first kinds levels c.args.charges.now c.charge_signals.new.out c.index-out-0.result charged one c.index-out-0.is second
          c.if-excludes_zero.out (sym c.excludes_zero.ensures ∙ w.if-excludes_zero.true) w.out-is
      | else-excludes_zero w ↦
          alone-second c.args.shape.now.links c.args.on.now c.args.own.now driven c.index-driven-0.result c.requires.links c.requires.own is
          c.index-driven-0.is first kinds levels c.args.charges.now c.charge_signals.new.out c.index-out-0.result charged one c.index-out-0.is second
          c.if-excludes_zero.out (sym c.excludes_zero.ensures ∙ w.if-excludes_zero.false) w.out-is
    ]

pub returns-clause-driven_settled : goal.returns-clause-driven_settled
returns-clause-driven_settled c =
    let i = c.first.invariant in
    alone-driven_settled c.args.shape.now.links c.args.on.now c.args.own.now (slice_set c.args.driven.now 0 c.index-own-0.result) c.index-driven-0.result
    c.requires.links c.requires.own
    (first_driven c.args.own.now c.args.driven.now c.index-own-0.result c.requires.own c.requires.driven_nets c.index-own-0.is)
    c.index-driven-0.is
    (subst IsSignal c.first.view_is record { low = i.0; order = i.1; high = i.2 })

pub returns-clause-charged : goal.returns-clause-charged
returns-clause-charged c =
    let kinds = c.args.shape.now.kinds in
    let levels = c.args.shape.now.charge in
    let driven = slice_set c.args.driven.now 0 c.index-own-0.result in
    let i = c.first.invariant in
    let j = c.second.invariant in
    let is = first_driven c.args.own.now c.args.driven.now c.index-own-0.result c.requires.own c.requires.driven_nets c.index-own-0.is in
    let first = subst IsSignal c.first.view_is record { low = i.0; order = i.1; high = i.2 } in
    let second = subst IsSignal c.second.view_is record { low = j.0; order = j.1; high = j.2 } in
    let charged =
    c.charge_signals.ensures
    ∙ ap (λ k. charged_signals k c.as_slice-levels.result.now c.args.own.now c.args.charges.now driven) c.as_slice.ensures
    ∙ ap (λ l. charged_signals kinds l c.args.own.now c.args.charges.now driven) c.as_slice-levels.ensures in
    let one : length c.charge_signals.new.out ≡ 1 = omega arith in
    record {
      second = c.charge_signals.new.out;
      settled =
          alone-charged_settled c.args.shape.now.links c.args.on.now c.args.own.now driven c.index-driven-0.result c.requires.links c.requires.own is
          c.index-driven-0.is first kinds levels c.args.charges.now c.charge_signals.new.out c.index-out-0.result charged one c.index-out-0.is second;
      prefer_driven = elim c.if-excludes_zero.branch [
        | then-excludes_zero w ↦
            chosen-excluded c.args.shape.now.links c.args.on.now c.args.own.now driven c.index-driven-0.result c.requires.links c.requires.own is
            c.index-driven-0.is first kinds levels c.args.charges.now c.charge_signals.new.out c.index-out-0.result charged one c.index-out-0.is second
            c.if-excludes_zero.out (sym c.excludes_zero.ensures ∙ w.if-excludes_zero.true) w.out-is
        | else-excludes_zero w ↦
            chosen-second c.args.shape.now.links c.args.on.now c.args.own.now driven c.index-driven-0.result c.requires.links c.requires.own is
            c.index-driven-0.is first kinds levels c.args.charges.now c.charge_signals.new.out c.index-out-0.result charged one c.index-out-0.is second
            c.if-excludes_zero.out (sym c.excludes_zero.ensures ∙ w.if-excludes_zero.false) w.out-is
      ];
    }
