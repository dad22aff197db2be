use Rattle.std.proofs.Common.{◌≡◌, ◌<◌, ◌+◌, [], length, get_or, drop, Option, subst, sym, arith}
use Rattle.std.specs.List.{flat_map, enumerate_from}
use Rattle.std.proofs.lemmas.List.{get_or_default}
use Rattle.v_tree.specs.declared.locations.Location.{Location}
use Rattle.rule_places.specs.Places.{earliest, first_place}
use Rattle.rule_places.proofs.PlaceSteps.{enumerate_step}
use Rattle.module_graph.specs.Rules.{leads_back, places_in, reached_places}
use Rattle.module_graph.proofs.circles.circular_among.Goals as goal

pub loop-module-preserved : goal.loop-module-preserved
loop-module-preserved c =
    let within : c.loop-module.module < length c.args.references.now = omega arith in
    let list = get_or c.args.references.now c.loop-module.module [] in
    let whole = first_place (reached_places (λ index r. leads_back c.args.references.now index r.master) c.args.references.now c.args.reached.now) in
    let rest = first_place (flat_map (places_in (λ index r. leads_back c.args.references.now index r.master) c.args.reached.now) (enumerate_from (c.loop-module.module + 1) (drop (c.loop-module.module + 1) c.args.references.now))) in
    subst (λ (first : Option Location). whole ≡ earliest first rest) (sym c.in_ok-first.ensures)
    (enumerate_step (places_in (λ index r. leads_back c.args.references.now index r.master) c.args.reached.now) c.args.references.now c.loop-module.module whole c.loop-module.first
    c.loop-module.invariant list within (get_or_default c.args.references.now c.loop-module.module list [] within))
