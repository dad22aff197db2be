use Rattle.std.proofs.lemmas.Bool.Decides.{Decides-at}
use Rattle.cell_step.proofs.SameLemmas as same
use Rattle.cell_step.proofs.copies.same_element.Goals as goal

pub returns : goal.returns
returns c =
    Decides-at c.eq.result (same.same_element c.args.a.now c.args.b.now) c.eq.ensures
    (same.IsEquality-same_element c.args.a.now c.args.b.now)
