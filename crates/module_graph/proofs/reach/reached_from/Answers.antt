use Rattle.std.proofs.Common.{◌≡◌, ◌<◌, ◌+◌, [], List, length, get_or, refl, subst, ◌∙◌, arith, rules}
use Rattle.std.proofs.lemmas.List.{get_or_default}
use Rattle.module_graph.specs.declared.reach.Search.{Search}
use Rattle.module_graph.specs.declared.references.Reference.{Reference}
use Rattle.module_graph.specs.Searches.{Followed, work_left}
use Rattle.module_graph.proofs.SearchLaws.{IsSearch-start, IsSearch-next, work_less, waiting_within, reached-done}
use Rattle.module_graph.proofs.reach.reached_from.Goals as goal

pub loop-module-init : goal.loop-module-init
loop-module-init c = IsSearch-start c.args.references.now c.args.top c.in_ok-search.search c.find.new.search c.in_ok-search.ensures c.in_ok-find.ensures

pub bounds-references-module : goal.bounds-references-module
bounds-references-module c = waiting_within c.args.references.now c.args.top c.loop-module.search c.pop.new.self c.in-Some.module c.loop-module.invariant c.in-Some.ensures

-- the search without the module that is followed next
before : (c : goal.In_ok-follow) → Search
before c = record { reached = c.loop-module.search.reached; waiting = c.pop.new.self }

followed : (c : goal.In_ok-follow) → Followed (get_or c.args.references.now c.in-Some.module []) (before c) c.follow.new.search
unfolding before
followed c =
    let within : c.in-Some.module < length c.args.references.now
    = waiting_within c.args.references.now c.args.top c.loop-module.search c.pop.new.self c.in-Some.module c.loop-module.invariant c.in-Some.ensures in
    subst (λ (list : List Reference). Followed list (before c) c.follow.new.search)
    (c.as_slice.ensures ∙ c.index-references-module.is ∙ get_or_default c.args.references.now c.in-Some.module c.index-references-module.result [] within) c.in_ok-follow.ensures

pub loop-module-preserved : goal.loop-module-preserved
unfolding before
loop-module-preserved c = IsSearch-next c.args.references.now c.args.top c.loop-module.search (before c) c.follow.new.search c.in-Some.module c.loop-module.invariant refl c.in-Some.ensures (followed c)

pub loop-module-smaller : goal.loop-module-smaller
unfolding before
loop-module-smaller c =
    let less : work_left c.follow.new.search + 1 ≡ work_left c.loop-module.search
    = work_less c.args.references.now c.args.top c.loop-module.search (before c) c.follow.new.search c.in-Some.module c.loop-module.invariant refl c.in-Some.ensures (followed c) in
    omega (arith, less)

pub returns : goal.returns
returns c = reached-done c.args.references.now c.args.top c.loop-module.search c.loop-module.invariant c.in_default.ensures.0

pub offset_bounds-references-module : goal.offset_bounds-references-module
offset_bounds-references-module c =
    let within : c.in-Some.module < length c.args.references.now
    = waiting_within c.args.references.now c.args.top c.loop-module.search c.pop.new.self c.in-Some.module c.loop-module.invariant c.in-Some.ensures in
    search rules
