use Rattle.std.proofs.Common.{◌∙◌, ℕ, List, [], length, sym, ap}
use Rattle.netlist_plan.specs.Additions.{Additions, joined}
use Rattle.flattening.specs.Spelled.{additions}
use Rattle.flattening.proofs.SpelledLaws.{flattening_spelled}
use Rattle.flattening.proofs.hierarchy.flatten.Goals as goal

pub returns : goal.returns
returns c =
    let plans = c.args.plans.now in
    let delays = c.args.delays.now in
    c.all_of.ensures
    ∙ c.in_ok-push_instance.ensures
    ∙ ap (λ (a : Additions). joined a (additions plans delays 64 c.args.top c.new-prefix.result.items [] (length a.net_names))) c.no_growth-growth.ensures
    ∙ ap (λ (p : List ℕ). additions plans delays 64 c.args.top p [] 0) c.new-prefix.ensures.items
    ∙ sym (flattening_spelled plans delays c.args.top)
