-- The entry stands at the rank of its fault.
use Rattle.std.proofs.Common.{◌^◌, Some, sym, ap, ◌∙◌, arith}
use Rattle.divergence_list.specs.Entries.{entry_in, entry_at}
use Rattle.divergence_list.proofs.Rising.{rank-within, value-at_rank}
use Rattle.divergence_list.proofs.spread.Spread.get.Goals as goal

pub bounds-entries-place : goal.bounds-entries-place
bounds-entries-place g c =
    let rises = rw (← c.at_cell-entries.ensures) at (c.self.invariant.sound c.args.cell) in
    rw c.in-Ok.ensures.place (rank-within 0 (2 ^ 32) _ c.args.fault rises c.in-Ok.ensures.there)

pub offset_bounds-entries-place : goal.offset_bounds-entries-place
offset_bounds-entries-place g c =
    let rises = rw (← c.at_cell-entries.ensures) at (c.self.invariant.sound c.args.cell) in
    let less = rank-within 0 (2 ^ 32) _ c.args.fault rises c.in-Ok.ensures.there in
    rw c.in-Ok.ensures.place (omega arith)

pub returns-in-Ok : goal.returns-in-Ok
returns-in-Ok g c =
    let es = c.at_cell-entries.result.now in
    let rises = rw (← c.at_cell-entries.ensures) at (c.self.invariant.sound c.args.cell) in
    let e = c.in-Ok.ensures in
    let read = c.index-entries-place.is in
    ap (λ x. Some x.value) (sym read)
    ∙ value-at_rank 0 (2 ^ 32) es c.args.fault c.in-Ok.place _ rises e.place e.there read
    ∙ ap (λ xs. entry_in xs c.args.fault) c.at_cell-entries.ensures
    ∙ ap (λ cells. entry_at cells c.args.cell c.args.fault) c.self.view_is
