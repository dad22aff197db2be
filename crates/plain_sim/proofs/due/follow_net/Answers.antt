use Rattle.std.proofs.Common.{◌≡◌, ◌<◌, ◌+◌, ℕ, length, ap, sym, subst, ◌∙◌, arith}
use Rattle.std.specs.Prelude.{Option}
use Rattle.cell_step.specs.declared.states.NetState.{NetState}
use Rattle.machine.specs.Pass.{change_times, timer_times}
use Rattle.machine.specs.Run.{least}
use Rattle.plain_sim.specs.Due.{AreSoonTimes, key_count}
use Rattle.plain_sim.proofs.Times.{Soon, change-times, timer-times}
use Rattle.plain_sim.proofs.DueTimes.{least-soon}
use Rattle.plain_sim.proofs.Keys.{room-for, keys-kept, net-set, net-other}
use Rattle.plain_sim.proofs.due.follow_net.Goals as goal

pub put_or_cancel-requires-clause-room : goal.put_or_cancel-requires-clause-room
put_or_cancel-requires-clause-room c =
    room-for (key_count c.args.flat.now.parts) c.args.due.now (c.element_count.result + c.args.net) c.requires.keys
    (let e = c.element_count.ensures.count in let lt = c.requires.net in omega arith)

pub put_or_cancel-requires-clause-time : goal.put_or_cancel-requires-clause-time
put_or_cancel-requires-clause-time c =
    least-soon (change_times c.net_of-state.result.due) c.change_time.result c.change_time.ensures
    (subst (λ (s : NetState). AreSoonTimes (change_times s.due)) (sym c.net_of-state.ensures)
    (change-times Soon c.args.flat.now.parts c.args.islands.now c.args.net c.requires.soon))

pub put_or_cancel-requires-2-clause-room : goal.put_or_cancel-requires-2-clause-room
put_or_cancel-requires-2-clause-room c =
    room-for (key_count c.args.flat.now.parts) c.put_or_cancel.new.wheel (c.element_count.result + c.args.net + c.net_count.result)
    (keys-kept (key_count c.args.flat.now.parts) c.args.due.now c.put_or_cancel.new.wheel (c.element_count.result + c.args.net) c.change_time.result
    c.requires.keys (let e = c.element_count.ensures.count in let lt = c.requires.net in omega arith)
    c.put_or_cancel.ensures.times c.put_or_cancel.ensures.room)
    (let e = c.element_count.ensures.count in let f = c.net_count.ensures.count in let lt = c.requires.net in omega arith)

pub put_or_cancel-requires-2-clause-time : goal.put_or_cancel-requires-2-clause-time
put_or_cancel-requires-2-clause-time c =
    least-soon (timer_times c.net_of-state.result.timer) c.timer_time.result c.timer_time.ensures
    (subst (λ (s : NetState). AreSoonTimes (timer_times s.timer)) (sym c.net_of-state.ensures)
    (timer-times Soon c.args.flat.now.parts c.args.islands.now c.args.net c.requires.soon))

pub returns-clause-times : goal.returns-clause-times
returns-clause-times c =
    net-set c.args.flat.now.parts c.args.islands.now c.args.net c.requires.net c.args.due.now.times c.put_or_cancel.new.wheel.times
    c.put_or_cancel-2.new.wheel.times (c.element_count.result + c.args.net) (c.element_count.result + c.args.net + c.net_count.result)
    c.change_time.result c.timer_time.result c.put_or_cancel.ensures.times c.put_or_cancel-2.ensures.times
    (let e = c.element_count.ensures.count in omega arith)
    (let e = c.element_count.ensures.count in let f = c.net_count.ensures.count in omega arith)
    (c.change_time.ensures ∙ ap (λ (s : NetState). least (change_times s.due)) c.net_of-state.ensures)
    (c.timer_time.ensures ∙ ap (λ (s : NetState). least (timer_times s.timer)) c.net_of-state.ensures)

pub returns-clause-others : goal.returns-clause-others
returns-clause-others c =
    net-other c.args.flat.now.parts c.args.islands.now c.args.net c.requires.net c.args.due.now.times c.put_or_cancel.new.wheel.times
    c.put_or_cancel-2.new.wheel.times (c.element_count.result + c.args.net) (c.element_count.result + c.args.net + c.net_count.result)
    c.change_time.result c.timer_time.result c.put_or_cancel.ensures.times c.put_or_cancel-2.ensures.times
    (let e = c.element_count.ensures.count in omega arith)
    (let e = c.element_count.ensures.count in let f = c.net_count.ensures.count in omega arith)

pub returns-clause-keys : goal.returns-clause-keys
returns-clause-keys c =
    keys-kept (key_count c.args.flat.now.parts) c.put_or_cancel.new.wheel c.put_or_cancel-2.new.wheel
    (c.element_count.result + c.args.net + c.net_count.result) c.timer_time.result
    (keys-kept (key_count c.args.flat.now.parts) c.args.due.now c.put_or_cancel.new.wheel (c.element_count.result + c.args.net) c.change_time.result
    c.requires.keys (let e = c.element_count.ensures.count in let lt = c.requires.net in omega arith)
    c.put_or_cancel.ensures.times c.put_or_cancel.ensures.room)
    (let e = c.element_count.ensures.count in let f = c.net_count.ensures.count in let lt = c.requires.net in omega arith)
    c.put_or_cancel-2.ensures.times c.put_or_cancel-2.ensures.room
