-- The number of a cell's list leads to that list.
use Rattle.std.proofs.Common.{◌≡◌, get_or, sym, ap, ◌∙◌, arith}
use Rattle.std.proofs.lemmas.List.{get_or_default}
use Rattle.divergence_list.specs.Entries.{at_cell}
use Rattle.divergence_list.specs.Parts.{numbered, contents}
use Rattle.divergence_list.proofs.Owned.{within-numbers, number-read, at_cell-by_cell, list-there, at_cell-read}
use Rattle.divergence_list.proofs.cell_lists.CellLists.at_cell.Goals as goal

pub index-requires : goal.index-requires
index-requires g c =
    let s = c.self.inside in
    let within = within-numbers s.numbers.items s.lists.items _ c.args.cell c.self.view_is c.requires in
    let named = number-read s.numbers.items c.args.cell _ within c.index-number.ensures c.if-number-eq0.false in
    omega (arith, s.lists.ok, list-there s.numbers.items s.lists.items c.args.cell _ c.self.invariant named)

pub returns-then-number-eq0 : goal.returns-then-number-eq0
returns-then-number-eq0 g c =
    let s = c.self.inside in
    let within = within-numbers s.numbers.items s.lists.items _ c.args.cell c.self.view_is c.requires in
    let zero-there : get_or s.numbers.items c.args.cell 0 ≡ 0 =
    get_or_default s.numbers.items c.args.cell 0 _ within ∙ sym c.index-number.ensures ∙ c.if-number-eq0.true in
    sym (ap (λ s. at_cell s c.args.cell) (sym c.self.view_is) ∙ at_cell-by_cell s.numbers.items s.lists.items c.args.cell
    ∙ ap (numbered (contents s.lists.items)) zero-there)

pub returns : goal.returns
returns g c =
    let s = c.self.inside in
    let within = within-numbers s.numbers.items s.lists.items _ c.args.cell c.self.view_is c.requires in
    let named = number-read s.numbers.items c.args.cell _ within c.index-number.ensures c.if-number-eq0.false in
    c.as_slice.ensures.value
    ∙ sym (at_cell-read s.numbers.items s.lists.items c.args.cell _ c.self.invariant named _ c.index.ensures)
    ∙ ap (λ s. at_cell s c.args.cell) c.self.view_is
