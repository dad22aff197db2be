use Rattle.std.proofs.Common.{◌<◌, length, get_or, sym, ap, subst, ◌∙◌, arith, inl, inr}
use Rattle.std.specs.Prelude.{pos, slice_set}
use Rattle.std.proofs.lemmas.Bool.{cases_eq, cases_lt}
use Rattle.std.proofs.lemmas.List.{get_or_default, get_or_past}
use Rattle.level_range.specs.Signal.{IsSignal, undriven}
use Rattle.net_settle.specs.Bounds.{at}
use Rattle.net_settle.proofs.Walks.{at-other, at-same}
use Rattle.net_settle.proofs.spread.clear.Goals as goal

pub loop-net-preserved : goal.loop-net-preserved
loop-net-preserved c n d lt =
    let inside : c.loop-net.net < length c.args.own.now = omega arith in
    elim (cases_eq n c.loop-net.net) [
      | inl e ↦ (
        ap (at (slice_set c.loop-net.bounds c.loop-net.net c.zero.result)) e
            ∙ at-same c.loop-net.bounds c.loop-net.net c.zero.result (omega arith) ∙ c.zero.ensures,
        subst IsSignal
            (c.index-own-net.is ∙ get_or_default c.args.own.now c.loop-net.net c.index-own-net.result d inside
            ∙ ap (λ k. get_or c.args.own.now k d) (sym e))
            c.bound-bound.ensures.signal,
      )
      | inr ne ↦
          let h = c.loop-net.invariant n d (omega arith) in
          (at-other c.loop-net.bounds c.loop-net.net n c.zero.result ne ∙ h.0, h.1)
    ]

pub returns-clause-none : goal.returns-clause-none
returns-clause-none c n = elim (cases_lt n (length c.loop-net.bounds)) [
  | inl lt ↦ (c.loop-net.invariant n undriven (omega arith)).0
  | inr ge ↦ get_or_past c.loop-net.bounds n (pos 0) ge
]

pub returns-clause-signals : goal.returns-clause-signals
returns-clause-signals c k d lt = (c.loop-net.invariant k d (omega arith)).1
