use Rattle.std.proofs.Common.{◌<◌, length, get_or, false, Bool, List, sym, ap, ◌∙◌, arith}
use Rattle.module_graph.proofs.SearchLaws.{Found-new}
use Rattle.module_graph.proofs.reach.find.Goals as goal

pub returns-in_ok-push : goal.returns-in_ok-push
returns-in_ok-push c =
    let within : c.args.module < length c.args.search.now.reached = omega (arith, c.len.ensures) in
    Found-new c.args.module c.args.search.now _ within
    (ap (λ (bs : List Bool). get_or bs c.args.module false) (sym c.as_slice.ensures) ∙ c.if-not-as_slice-module.true)
    c.set.ensures c.in_ok-push.ensures.ok
