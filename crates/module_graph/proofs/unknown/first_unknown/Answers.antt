use Rattle.std.proofs.Common.{◌≡◌, ◌<◌, ◌+◌, List, length, drop, Option, ap, subst, sym, ◌∙◌, arith}
use Rattle.std.specs.List.{flat_map, enumerate_from}
use Rattle.v_tree.specs.declared.locations.Location.{Location}
use Rattle.rule_places.specs.Places.{earliest, first_place}
use Rattle.rule_places.proofs.PlaceSteps.{enumerate_step}
use Rattle.module_graph.specs.declared.references.Reference.{Reference}
use Rattle.module_graph.specs.Rules.{is_unknown, places_in, reached_places}
use Rattle.module_graph.proofs.unknown.first_unknown.Goals as goal

pub loop-module-preserved : goal.loop-module-preserved
loop-module-preserved c =
    let within : c.loop-module.module < length c.args.references.now = omega arith in
    let whole = first_place (reached_places (λ index r. is_unknown r.master) c.args.references.now c.args.reached.now) in
    let rest = first_place (flat_map (places_in (λ index r. is_unknown r.master) c.args.reached.now) (enumerate_from (c.loop-module.module + 1) (drop (c.loop-module.module + 1) c.args.references.now))) in
    let here : c.earliest-first.result ≡ earliest c.loop-module.first (first_place (places_in (λ index r. is_unknown r.master) c.args.reached.now (c.loop-module.module, c.index-references-module.result)))
    = c.earliest-first.ensures
    ∙ ap (λ (place : Option Location). earliest c.loop-module.first place) (c.unknown_of.ensures
    ∙ ap (λ (list : List Reference). first_place (places_in (λ index r. is_unknown r.master) c.args.reached.now (c.loop-module.module, list))) c.as_slice.ensures) in
    subst (λ (first : Option Location). whole ≡ earliest first rest) (sym here)
    (enumerate_step (places_in (λ index r. is_unknown r.master) c.args.reached.now) c.args.references.now c.loop-module.module whole c.loop-module.first
    c.loop-module.invariant c.index-references-module.result within (sym c.index-references-module.is))
