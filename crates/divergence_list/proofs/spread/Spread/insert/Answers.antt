-- The entry goes to the rank of its fault.
use Rattle.std.proofs.Common.{◌^◌, ◌<◌, Some, arith}
use Rattle.divergence_list.proofs.Rising.{rank-le-length}
use Rattle.divergence_list.proofs.Writes.{ChangesOnly-insert, IsSound-insert, count-insert, count-fits, kept-changes}
use Rattle.divergence_list.proofs.spread.Spread.insert.Goals as goal

pub insert-requires-clause-index : goal.insert-requires-clause-index
insert-requires-clause-index g c =
    rw (c.requires.place, ← c.self.view_is) (rank-le-length _ c.args.fault)

pub overflow_add-self : goal.overflow_add-self
overflow_add-self g c =
    let s = c.self.inside.lists in
    let within = rw (← c.self.view_is) at c.requires.cell in
    let place = rw (← c.self.view_is) at c.requires.place in
    let absent = rw (← c.self.view_is) at c.requires.absent in
    let made = c.in-Ok-insert.ensures.ok in
    let fits : c.args.fault < 2 ^ 32 = omega arith in
    let change = ChangesOnly-insert s c.args.cell c.args.fault c.args.place c.self.invariant.sound within place absent fits c.args.value _ made in
    let sound = IsSound-insert s c.args.cell c.args.fault c.args.place c.self.invariant.sound within place absent fits c.args.value _ made in
    let one_more = count-insert s c.args.cell c.args.fault c.args.place c.self.invariant.sound within place absent fits c.args.value _ made in
    omega (arith, count-fits _ sound (rw change.cells c.self.invariant.few), one_more, c.self.invariant.counted)

pub invariant_of-self-in-Ok-insert : goal.invariant_of-self-in-Ok-insert
invariant_of-self-in-Ok-insert g c =
    let s = c.self.inside.lists in
    let within = rw (← c.self.view_is) at c.requires.cell in
    let place = rw (← c.self.view_is) at c.requires.place in
    let absent = rw (← c.self.view_is) at c.requires.absent in
    let made = c.in-Ok-insert.ensures.ok in
    let fits : c.args.fault < 2 ^ 32 = omega arith in
    let change = ChangesOnly-insert s c.args.cell c.args.fault c.args.place c.self.invariant.sound within place absent fits c.args.value _ made in
    record {
      sound = IsSound-insert s c.args.cell c.args.fault c.args.place c.self.invariant.sound within place absent fits c.args.value _ made;
      fault_cells = kept-changes c.self.inside.fault_cells c.add.new.self s _ c.args.cell c.args.fault (Some c.args.value) c.self.invariant.fault_cells c.in-Ok.ensures.ok change;
      counted = omega (arith, count-insert s c.args.cell c.args.fault c.args.place c.self.invariant.sound within place absent fits c.args.value _ made, c.self.invariant.counted);
      few = rw change.cells c.self.invariant.few;
    }

pub returns-in-Ok-insert-clause-changed : goal.returns-in-Ok-insert-clause-changed
returns-in-Ok-insert-clause-changed g c =
    let s = c.self.inside.lists in
    let within = rw (← c.self.view_is) at c.requires.cell in
    let place = rw (← c.self.view_is) at c.requires.place in
    let absent = rw (← c.self.view_is) at c.requires.absent in
    let made = c.in-Ok-insert.ensures.ok in
    let fits : c.args.fault < 2 ^ 32 = omega arith in
    rw (← c.self.view_is) (ChangesOnly-insert s c.args.cell c.args.fault c.args.place c.self.invariant.sound within place absent fits c.args.value _ made)
