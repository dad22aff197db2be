use Rattle.std.proofs.Common.{◌≡◌, ◌<◌, ℕ, length, ap, sym, ◌∙◌, arith}
use Rattle.std.proofs.lemmas.List.{get_or_default}
use Rattle.cell_step.specs.declared.states.CellState.{CellState}
use Rattle.machine.specs.Machine.{state_among}
use Rattle.machine.specs.Pass.{cell_times}
use Rattle.machine.specs.Run.{least}
use Rattle.plain_sim.specs.Due.{AreSoonTimes, key_count}
use Rattle.plain_sim.proofs.Stepping.{no_cell}
use Rattle.plain_sim.proofs.DueTimes.{least-soon}
use Rattle.plain_sim.proofs.Keys.{room-for, keys-kept, element-more}
use Rattle.plain_sim.proofs.due.follow_elements.Goals as goal

pub put_or_cancel-requires-clause-room : goal.put_or_cancel-requires-clause-room
put_or_cancel-requires-clause-room c =
    room-for (key_count c.args.flat.now.parts) c.loop-number.due c.loop-number.number c.loop-number.invariant.keys
    (let e = c.element_count-number-end.ensures.count in let t = c.loop-number-test.true in omega arith)

pub put_or_cancel-requires-clause-time : goal.put_or_cancel-requires-clause-time
put_or_cancel-requires-clause-time c =
    let elements = c.args.elements.now in
    let number = c.loop-number.number in
    let lt : number < length elements =
    (let e = c.element_count-number-end.ensures.count in let t = c.loop-number-test.true in let n = c.requires.elements.count in omega arith) in
    least-soon (cell_times (state_among elements number)) c.element_time.result
    (c.element_time.ensures ∙ ap (λ (s : CellState). least (cell_times s)) (c.index-elements-number.is ∙ get_or_default elements number c.index-elements-number.result no_cell lt))
    (c.requires.soon number)

pub loop-number-preserved : goal.loop-number-preserved
loop-number-preserved c =
    let parts = c.args.flat.now.parts in
    let elements = c.args.elements.now in
    let number = c.loop-number.number in
    let lt : number < length parts.elements = (let e = c.element_count-number-end.ensures.count in let t = c.loop-number-test.true in omega arith) in
    record {
      times =
          element-more elements c.loop-number.due.times c.put_or_cancel.new.wheel.times number c.element_time.result c.put_or_cancel.ensures.times
          (c.element_time.ensures
          ∙ ap (λ (s : CellState). least (cell_times s)) (c.index-elements-number.is ∙ get_or_default elements number c.index-elements-number.result no_cell (let n = c.requires.elements.count in omega arith)))
          c.loop-number.invariant.times;
      keys =
          keys-kept (key_count parts) c.loop-number.due c.put_or_cancel.new.wheel number c.element_time.result c.loop-number.invariant.keys
          (omega arith) c.put_or_cancel.ensures.times c.put_or_cancel.ensures.room;
    }
