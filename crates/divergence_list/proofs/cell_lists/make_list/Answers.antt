-- One more list, for a cell that had none, changes no entries.
use Rattle.std.proofs.Common.{◌≡◌, ◌+◌, length, get_or, refl, sym, ◌∙◌, arith}
use Rattle.std.proofs.lemmas.List.{get_or_default}
use Rattle.divergence_list.proofs.Owned.{by_cell-push, IsOwned-push}
use Rattle.divergence_list.proofs.cell_lists.make_list.Goals as goal

pub returns-in_err-push-clause-owned : goal.returns-in_err-push-clause-owned
returns-in_err-push-clause-owned g c = rw c.in_err-push.ensures.items c.requires.owned

pub returns-clause-entries : goal.returns-clause-entries
returns-clause-entries g c =
    let a = c.in-Ok.ensures in
    let within = c.requires.cell in
    let none : get_or c.args.numbers.now.items c.args.cell 0 ≡ 0 =
    get_or_default c.args.numbers.now.items c.args.cell 0 _ within ∙ sym c.index-number.ensures ∙ omega arith in
    let number : c.in-Ok.number ≡ length c.args.lists.now.items + 1 = omega (arith, a, c.len-place.ensures, c.args.lists.now.ok) in
    rw (c.in_ok-push.ensures.items, number) (by_cell-push c.args.numbers.now.items c.args.lists.now.items c.args.cell c.requires.owned none _ within c.in_ok-entries.ensures.items)

pub returns-clause-owned : goal.returns-clause-owned
returns-clause-owned g c =
    let a = c.in-Ok.ensures in
    let within = c.requires.cell in
    let none : get_or c.args.numbers.now.items c.args.cell 0 ≡ 0 =
    get_or_default c.args.numbers.now.items c.args.cell 0 _ within ∙ sym c.index-number.ensures ∙ omega arith in
    let number : c.in-Ok.number ≡ length c.args.lists.now.items + 1 = omega (arith, a, c.len-place.ensures, c.args.lists.now.ok) in
    rw (c.in_ok-push.ensures.items, number) (IsOwned-push c.args.numbers.now.items c.args.lists.now.items c.args.cell c.requires.owned none _ within refl)
