use Rattle.std.proofs.Common.{◌≡◌, ◌+◌, Bool, false, List, length, get_or, ap, sym, ◌∙◌, arith}
use Rattle.std.proofs.lemmas.List.FromFn.{get_or-map-range_with_len}
use Rattle.module_graph.specs.declared.references.Master.{Master}
use Rattle.module_graph.specs.Reach.{is_reached}
use Rattle.module_graph.specs.Rules.{leads_back}
use Rattle.module_graph.proofs.circles.leads_back.Goals as goal

pub returns-in_ok-onward-in-Module : goal.returns-in_ok-onward-in-Module
returns-in_ok-onward-in-Module c =
    let same : 0 + c.args.module ≡ c.args.module = omega arith in
    c.is_reached.ensures
    ∙ ap (λ (bs : List Bool). get_or bs c.args.module false) (c.as_slice.ensures ∙ c.in_ok-onward-in-Module.ensures)
    ∙ get_or-map-range_with_len (is_reached c.args.references.now c.in-Module.other) 0 (length c.args.references.now) c.args.module c.args.module false c.requires.within same
    ∙ sym (ap (λ (m : Master). leads_back c.args.references.now c.args.module m) c.in-Module.is)
