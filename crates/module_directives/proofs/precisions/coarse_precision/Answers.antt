use Rattle.std.proofs.Common.{◌<◌, pos, length, take, Option, ap, ◌∙◌, sym, arith}
use Rattle.std.specs.List.{flat_map}
use Rattle.v_tree.specs.declared.locations.Location.{Location}
use Rattle.v_tree.specs.declared.directives.Directive.{Directive}
use Rattle.v_tree.specs.declared.directives.Directive.TheVariants.{Timescale}
use Rattle.rule_places.specs.Places.{earliest, first_place}
use Rattle.rule_places.proofs.PlaceLaws.{first_place-flat_map_more}
use Rattle.module_directives.specs.Precisions.{coarse_places}
use Rattle.module_directives.proofs.precisions.coarse_precision.Goals as goal

-- what the loop reads past the end
abbrev none : Directive
none = Timescale (record { location = record { line = 0; token = 0 }; unit = pos 0; precision = pos 0 })

pub loop-directive-preserved : goal.loop-directive-preserved
loop-directive-preserved c =
    let within : c.loop-directive.directive-index < length c.args.directives.now = omega arith in
    let so_far = first_place (flat_map coarse_places (take c.loop-directive.directive-index c.args.directives.now)) in
    c.earliest-first.ensures
    ∙ ap (λ (first : Option Location). earliest first c.coarse_place.result) c.loop-directive.invariant
    ∙ ap (λ (place : Option Location). earliest so_far place) c.coarse_place.ensures
    ∙ sym (first_place-flat_map_more coarse_places c.args.directives.now c.loop-directive.directive-index none within)
