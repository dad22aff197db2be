-- The cell's list is that of its number, and alone is written.
use Rattle.std.proofs.Common.{length, get_or, refl, sym, ap, ◌∙◌, arith}
use Rattle.std.proofs.Math.ListN.{set}
use Rattle.divergence_list.specs.Entries.{at_cell}
use Rattle.divergence_list.proofs.Owned.{number-of_entries, at_cell-read, by_cell-writes, IsOwned-write}
use Rattle.divergence_list.proofs.cell_lists.CellLists.replace.Goals as goal

pub index_mut-requires-2 : goal.index_mut-requires-2
index_mut-requires-2 g c =
    let s = c.self.inside in
    let named = number-of_entries s.numbers.items s.lists.items _ c.args.cell c.args.index _ c.self.view_is c.requires.cell c.requires.index c.index.ensures in
    let read = sym (ap (λ cells. at_cell cells c.args.cell) c.self.view_is) ∙ at_cell-read s.numbers.items s.lists.items c.args.cell _ c.self.invariant named _ c.index_mut.ensures.value in
    omega (arith, c.index_mut.result.now.entries.ok, ap length read, c.requires.index)

pub invariant_of-self : goal.invariant_of-self
invariant_of-self g c =
    let s = c.self.inside in
    let named = number-of_entries s.numbers.items s.lists.items _ c.args.cell c.args.index _ c.self.view_is c.requires.cell c.requires.index c.index.ensures in
    IsOwned-write s.numbers.items s.lists.items c.args.cell _ c.self.invariant named _ _ c.index_mut.ensures.value refl

pub returns-clause-entry : goal.returns-clause-entry
returns-clause-entry g c =
    let s = c.self.inside in
    let named = number-of_entries s.numbers.items s.lists.items _ c.args.cell c.args.index _ c.self.view_is c.requires.cell c.requires.index c.index.ensures in
    let read = sym (ap (λ cells. at_cell cells c.args.cell) c.self.view_is) ∙ at_cell-read s.numbers.items s.lists.items c.args.cell _ c.self.invariant named _ c.index_mut.ensures.value in
    c.replace.ensures.value ∙ c.index_mut-2.ensures.value
    ∙ ap (get_or c.index_mut.result.now.entries.items c.args.index) (sym c.replace.ensures.value) ∙ ap (λ es. get_or es c.args.index c.replace.result) (sym read)

pub returns-clause-lists : goal.returns-clause-lists
returns-clause-lists g c =
    let s = c.self.inside in
    let named = number-of_entries s.numbers.items s.lists.items _ c.args.cell c.args.index _ c.self.view_is c.requires.cell c.requires.index c.index.ensures in
    by_cell-writes s.numbers.items s.lists.items c.args.cell _ c.self.invariant named _ _ _ (λ es. set es c.args.index c.args.entry)
    c.self.view_is c.requires.cell c.index_mut.ensures.value (ap (set c.index_mut.result.now.entries.items c.args.index) c.replace.ensures.after)
