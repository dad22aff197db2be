use Rattle.std.proofs.Common.{sym, ap, not, ◌∙◌}
use Rattle.std.specs.Ordering.{int_eq}
use Rattle.net_settle.proofs.Rounds.{taken-stays, taken-takes}
use Rattle.net_settle.proofs.Taking.{differ, agree, at-read}
use Rattle.net_settle.proofs.spread.take.Goals as goal

pub returns-then-ne-clause-bounds : goal.returns-then-ne-clause-bounds
returns-then-ne-clause-bounds c =
    let is = at-read c.args.bounds.now c.args.net c.index-bounds-net.result c.index-bounds-net.is c.requires in
    let some = differ c.index-bounds-net.result c.zero.result (sym c.if-ne.true ∙ c.ne.ensures ∙ ap (λ u. not (int_eq u c.zero.result)) (sym c.index-bounds-net.is)) in
    sym (taken-stays c.args.level c.args.net c.args.comes c.args.bounds.now (λ none. absurd (some (is ∙ none ∙ sym c.zero.ensures))))

pub returns-then-ne-2-clause-bounds : goal.returns-then-ne-2-clause-bounds
returns-then-ne-2-clause-bounds c =
    let ne = differ c.args.comes c.args.level (sym c.if-ne-2.true ∙ c.ne-2.ensures) in
    sym (taken-stays c.args.level c.args.net c.args.comes c.args.bounds.now (λ _. ne))

pub returns-clause-bounds : goal.returns-clause-bounds
returns-clause-bounds c =
    let is = at-read c.args.bounds.now c.args.net c.index-bounds-net.result c.index-bounds-net.is c.requires in
    let none = agree c.index-bounds-net.result c.zero.result (sym c.if-ne.false ∙ c.ne.ensures ∙ ap (λ u. not (int_eq u c.zero.result)) (sym c.index-bounds-net.is)) in
    let comes = agree c.args.comes c.args.level (sym c.if-ne-2.false ∙ c.ne-2.ensures) in
    sym (taken-takes c.args.level c.args.net c.args.comes c.args.bounds.now (sym is ∙ none ∙ c.zero.ensures) comes)
