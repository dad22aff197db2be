use Rattle.std.proofs.Common.{◌≡◌, take}
use Rattle.rule_places.specs.Places.{first_place}
use Rattle.module_directives.specs.Precisions.{coarse_precisions}
use Rattle.module_directives.proofs.precisions.coarse_precision.Given as goal

abbrev pub invariant-loop-directive : goal.invariant-loop-directive
invariant-loop-directive l = l.first ≡ first_place (coarse_precisions (take l.directive-index l.directives))
