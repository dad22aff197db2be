-- The entry stands at the rank of its fault.
use Rattle.std.proofs.Common.{◌^◌, sym, ap, ◌∙◌}
use Rattle.divergence_list.specs.Entries.{at_cell, entry_at}
use Rattle.divergence_list.proofs.Rising.{rank-within, value-at_rank}
use Rattle.divergence_list.proofs.Writes.{ChangesOnly-replace, IsSound-replace, count-replace, kept-stays}
use Rattle.divergence_list.proofs.spread.Spread.set.Goals as goal

pub replace-requires-clause-index : goal.replace-requires-clause-index
replace-requires-clause-index g c =
    let e = c.in-Ok.ensures in
    let there = rw c.at_cell.ensures at e.there in
    rw (e.place, c.at_cell.ensures) (rank-within 0 (2 ^ 32) _ c.args.fault (c.self.invariant.sound c.args.cell) there)

pub invariant_of-self : goal.invariant_of-self
invariant_of-self g c =
    let s = c.self.inside.lists in
    let within = rw (← c.self.view_is) at c.requires in
    let e = c.in-Ok.ensures in
    let there = rw c.at_cell.ensures at e.there in
    let place = rw c.at_cell.ensures at e.place in
    let change = ChangesOnly-replace s c.args.cell c.args.fault c.in-Ok.place c.self.invariant.sound within place there c.args.value _ c.replace.ensures.lists in
    record {
      sound = IsSound-replace s c.args.cell c.args.fault c.in-Ok.place c.self.invariant.sound within place there c.args.value _ c.replace.ensures.lists;
      fault_cells = kept-stays c.self.inside.fault_cells s _ c.args.cell c.args.fault c.args.value c.self.invariant.fault_cells there change;
      counted = c.self.invariant.counted ∙ sym (count-replace s c.args.cell c.args.fault c.in-Ok.place c.self.invariant.sound within place there c.args.value _ c.replace.ensures.lists);
      few = rw change.cells c.self.invariant.few;
    }

pub returns-in-Ok-clause-old : goal.returns-in-Ok-clause-old
returns-in-Ok-clause-old g c =
    let s = c.self.inside.lists in
    let within = rw (← c.self.view_is) at c.requires in
    let e = c.in-Ok.ensures in
    let there = rw c.at_cell.ensures at e.there in
    let place = rw c.at_cell.ensures at e.place in
    value-at_rank 0 (2 ^ 32) (at_cell s c.args.cell) c.args.fault c.in-Ok.place _ (c.self.invariant.sound c.args.cell) place there c.replace.ensures.entry
    ∙ ap (λ cells. entry_at cells c.args.cell c.args.fault) c.self.view_is

pub returns-in-Ok-clause-changed : goal.returns-in-Ok-clause-changed
returns-in-Ok-clause-changed g c =
    let s = c.self.inside.lists in
    let within = rw (← c.self.view_is) at c.requires in
    let e = c.in-Ok.ensures in
    let there = rw c.at_cell.ensures at e.there in
    let place = rw c.at_cell.ensures at e.place in
    rw (← c.self.view_is) (ChangesOnly-replace s c.args.cell c.args.fault c.in-Ok.place c.self.invariant.sound within place there c.args.value _ c.replace.ensures.lists)
