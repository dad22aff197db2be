use Rattle.std.proofs.Common.{◌≡◌, false, get_or, sym, ap, ◌∙◌, subst, cond, arith}
use Rattle.std.specs.Prelude.{length, ◌-◌}
use Rattle.level_range.specs.declared.range.Conduct.TheVariants.{On}
use Rattle.net_settle.specs.declared.shape.Link.{Link}
use Rattle.net_settle.specs.Progress.{Moves, LinkRests}
use Rattle.net_settle.proofs.Walking.{Walked, next_place, walked_took, walked_rests, walked_all}
use Rattle.net_settle.proofs.spread.walk.Goals as goal
use Rattle.net_settle.proofs.spread.walk.Goals.{Joined-took, then-took, else-took, then-backwards, else-backwards}

first : Link
first = record { a = 0; b = 0; resistive = false }

place : (c : Joined-took) → c.if-backwards.at ≡ next_place c.args.backwards (length c.args.links.now) c.loop-passed.passed
place c =
    elim c.if-backwards.branch [
      | then-backwards w ↦ w.at-is ∙ ap (λ b. cond b (length c.args.links.now - 1 - c.loop-passed.passed) c.loop-passed.passed) (sym w.if-backwards.true)
      | else-backwards w ↦ w.at-is ∙ ap (λ b. cond b (length c.args.links.now - 1 - c.loop-passed.passed) c.loop-passed.passed) (sym w.if-backwards.false)
    ]

pub loop-passed-preserved : goal.loop-passed-preserved
unfolding first
loop-passed-preserved c =
    let Rests = LinkRests c.args.side (get_or c.args.links.now c.if-backwards.at first) (get_or c.args.on.now c.if-backwards.at On) c.loop-passed.bounds c.args.level in
    elim c.if-took.branch [
      | then-took w ↦
          rw w.changed-is
          (walked_took c.args.side c.args.links.now c.args.on.now c.args.level c.args.backwards c.args.bounds.now
          c.loop-passed.bounds c.take_carried-took.new.bounds c.loop-passed.changed c.loop-passed.passed c.if-backwards.at first On
          c.loop-passed.invariant c.requires.conduction c.loop-passed-test.true (place c) c.take_carried-took.ensures.spreads
          (subst (λ b. Moves b Rests c.loop-passed.bounds c.take_carried-took.new.bounds) w.if-took.true c.take_carried-took.ensures.moves))
      | else-took w ↦
          let m = subst (λ b. Moves b Rests c.loop-passed.bounds c.take_carried-took.new.bounds) w.if-took.false c.take_carried-took.ensures.moves in
          rw w.changed-is
          (walked_rests c.args.side c.args.links.now c.args.on.now c.args.level c.args.backwards c.args.bounds.now
          c.loop-passed.bounds c.take_carried-took.new.bounds c.loop-passed.changed c.loop-passed.passed c.if-backwards.at first On
          c.loop-passed.invariant c.requires.conduction c.loop-passed-test.true (place c) c.take_carried-took.ensures.spreads m.0 m.1)
    ]

pub returns-clause-moves : goal.returns-clause-moves
returns-clause-moves c =
    let e : c.loop-passed.passed ≡ length c.args.links.now = omega arith in
    walked_all c.args.side c.args.links.now c.args.on.now c.args.level c.args.backwards c.args.bounds.now c.requires.conduction
    c.loop-passed.bounds c.loop-passed.changed
    (subst (λ p. Walked c.args.side c.args.links.now c.args.on.now c.args.level c.args.backwards c.args.bounds.now c.loop-passed.bounds c.loop-passed.changed p) e c.loop-passed.invariant)
