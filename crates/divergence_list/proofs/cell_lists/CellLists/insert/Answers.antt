-- The cell's list is that of its number, and alone is written.
use Rattle.std.proofs.Common.{length, refl, sym, ap, ◌∙◌, arith, add-one, []}
use Rattle.std.specs.List.{insert}
use Rattle.std.proofs.lemmas.List.{set-get_or}
use Rattle.divergence_list.specs.Entries.{at_cell}
use Rattle.divergence_list.proofs.Owned.{list-there, at_cell-read, by_cell-writes, IsOwned-write}
use Rattle.divergence_list.proofs.cell_lists.CellLists.insert.Goals as goal
use Rattle.divergence_list.proofs.cell_lists.CellLists.insert.Goals.{in-Ok-insert, in-Err}

pub index_mut-requires : goal.index_mut-requires
index_mut-requires g c =
    let e = c.in-Ok.ensures in
    let named = e.place ∙ add-one c.in-Ok.number in
    omega (arith, c.make_list.new.lists.ok, list-there c.make_list.new.numbers.items c.make_list.new.lists.items c.args.cell c.in-Ok.number e.owned named)

pub insert-requires : goal.insert-requires
insert-requires g c =
    let e = c.in-Ok.ensures in
    let named = e.place ∙ add-one c.in-Ok.number in
    let view = e.entries ∙ c.self.view_is in
    let read = sym (ap (λ cells. at_cell cells c.args.cell) view) ∙ at_cell-read c.make_list.new.numbers.items c.make_list.new.lists.items c.args.cell _ e.owned named _ c.index_mut.ensures.value in
    omega (arith, c.index_mut.result.now.entries.ok, ap length read, c.requires.index)

pub invariant_of-self-2 : goal.invariant_of-self-2
invariant_of-self-2 g c =
    let e = c.in-Ok.ensures in
    let named = e.place ∙ add-one c.in-Ok.number in
    IsOwned-write c.make_list.new.numbers.items c.make_list.new.lists.items c.args.cell _ e.owned named _ _ c.index_mut.ensures.value refl

pub returns-clause-ok : goal.returns-clause-ok
returns-clause-ok g c =
    let e = c.in-Ok.ensures in
    let named = e.place ∙ add-one c.in-Ok.number in
    let view = e.entries ∙ c.self.view_is in
    elim c.match-insert.branch [
      | in-Ok-insert w ↦ rw w.result-is (by_cell-writes c.make_list.new.numbers.items c.make_list.new.lists.items c.args.cell _ e.owned named _ _ _ (λ es. insert es c.args.index c.args.entry)
          view c.requires.cell c.index_mut.ensures.value w.in-Ok-insert.ensures.items)
      | in-Err w ↦ rw w.result-is tt
    ]

pub returns-clause-err : goal.returns-clause-err
returns-clause-err g c =
    let e = c.in-Ok.ensures in
    let named = e.place ∙ add-one c.in-Ok.number in
    let view = e.entries ∙ c.self.view_is in
    elim c.match-insert.branch [
      | in-Ok-insert w ↦ rw w.result-is tt
      | in-Err w ↦ rw w.result-is (by_cell-writes c.make_list.new.numbers.items c.make_list.new.lists.items c.args.cell _ e.owned named _ _ _ (λ es. es)
          view c.requires.cell c.index_mut.ensures.value w.in-Err.ensures.items ∙ set-get_or c.args.self.now c.args.cell [])
    ]
