use Rattle.std.proofs.Common.{◌≡◌, ◌+◌, ℕ, Option, Some, None, ap, sym, subst, ◌∙◌, arith}
use Rattle.std.specs.FinMap.{len}
use Rattle.timing_wheel.specs.Wheel.{Times}
use Rattle.plain_sim.specs.Due.{SetsTime}
use Rattle.plain_sim.proofs.Keys.{put-sets, cancel-sets, put-room, cancel-room}
use Rattle.plain_sim.proofs.due.put_or_cancel.Goals as goal

pub returns-in-Some-clause-times : goal.returns-in-Some-clause-times
returns-in-Some-clause-times c =
    let old = c.args.wheel.now.times in
    subst (λ (t : Option ℕ). SetsTime old c.put.new.self.times c.args.key t) (sym c.in-Some.is)
    (subst (λ (m : Times). SetsTime old m c.args.key (Some c.in-Some.at)) (sym c.put.ensures.times) (put-sets old c.args.key c.in-Some.at))

pub returns-in-Some-clause-room : goal.returns-in-Some-clause-room
returns-in-Some-clause-room c =
    let whole = put-room c.args.wheel.now c.args.key c.in-Some.at c.requires.room in
    let spare = c.put.ensures.spare in
    let more = ap (λ (m : Times). len m) c.put.ensures.times in
    omega arith

pub returns-in-None-clause-times : goal.returns-in-None-clause-times
returns-in-None-clause-times c =
    let old = c.args.wheel.now.times in
    subst (λ (t : Option ℕ). SetsTime old c.cancel.new.self.times c.args.key t) (sym c.in-None.is)
    (subst (λ (m : Times). SetsTime old m c.args.key None) (sym c.cancel.ensures.times) (cancel-sets old c.args.key))

pub returns-in-None-clause-room : goal.returns-in-None-clause-room
returns-in-None-clause-room c =
    let whole = cancel-room c.args.wheel.now c.args.key in
    let spare = c.cancel.ensures.spare in
    let less = ap (λ (m : Times). len m) c.cancel.ensures.times in
    omega arith
