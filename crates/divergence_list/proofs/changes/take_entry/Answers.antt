-- The entry stands at the rank of its fault.
use Rattle.std.proofs.Common.{◌^◌}
use Rattle.divergence_list.specs.Entries.{at_cell}
use Rattle.divergence_list.proofs.Rising.{rank-within, value-at_rank}
use Rattle.divergence_list.proofs.Writes.{ChangesOnly-remove, IsSound-remove, count-remove}
use Rattle.divergence_list.proofs.changes.take_entry.Goals as goal

pub remove-requires-clause-index : goal.remove-requires-clause-index
remove-requires-clause-index g c =
    let e = c.in-Ok.ensures in
    let there = rw c.at_cell.ensures at e.there in
    rw (e.place, c.at_cell.ensures) (rank-within 0 (2 ^ 32) _ c.args.fault (c.requires.sound c.args.cell) there)

pub returns-in-Ok-clause-old : goal.returns-in-Ok-clause-old
returns-in-Ok-clause-old g c =
    let e = c.in-Ok.ensures in
    let there = rw c.at_cell.ensures at e.there in
    let place = rw c.at_cell.ensures at e.place in
    value-at_rank 0 (2 ^ 32) (at_cell c.args.lists.now c.args.cell) c.args.fault c.in-Ok.place _ (c.requires.sound c.args.cell) place there c.remove.ensures.entry

pub returns-in-Ok-clause-changed : goal.returns-in-Ok-clause-changed
returns-in-Ok-clause-changed g c =
    let e = c.in-Ok.ensures in
    let there = rw c.at_cell.ensures at e.there in
    let place = rw c.at_cell.ensures at e.place in
    ChangesOnly-remove c.args.lists.now c.args.cell c.args.fault c.in-Ok.place c.requires.sound c.requires.cell place there _ c.remove.ensures.lists

pub returns-in-Ok-clause-sound : goal.returns-in-Ok-clause-sound
returns-in-Ok-clause-sound g c =
    let e = c.in-Ok.ensures in
    let there = rw c.at_cell.ensures at e.there in
    let place = rw c.at_cell.ensures at e.place in
    IsSound-remove c.args.lists.now c.args.cell c.args.fault c.in-Ok.place c.requires.sound c.requires.cell place there _ c.remove.ensures.lists

pub returns-in-Ok-clause-counted : goal.returns-in-Ok-clause-counted
returns-in-Ok-clause-counted g c =
    let e = c.in-Ok.ensures in
    let there = rw c.at_cell.ensures at e.there in
    let place = rw c.at_cell.ensures at e.place in
    count-remove c.args.lists.now c.args.cell c.args.fault c.in-Ok.place c.requires.sound c.requires.cell place there _ c.remove.ensures.lists
