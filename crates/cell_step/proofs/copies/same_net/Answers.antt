use Rattle.std.proofs.lemmas.Bool.Decides.{Decides-at}
use Rattle.cell_step.proofs.SameLemmas as same
use Rattle.cell_step.proofs.copies.same_net.Goals as goal

pub returns : goal.returns
returns c =
    Decides-at c.eq.result (same.same_net c.args.net.now c.args.other.now) c.eq.ensures
    (same.IsEquality-same_net c.args.net.now c.args.other.now)
