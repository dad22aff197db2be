use Rattle.std.proofs.Common.{◌≡◌, drop}
use Rattle.module_directives.specs.Precisions.{finer, finest_precision}
use Rattle.module_directives.proofs.precisions.finest_precision.Given as goal

abbrev pub invariant-loop-directive : goal.invariant-loop-directive
invariant-loop-directive l = finest_precision l.directives ≡ finer l.finest (finest_precision (drop l.directive-index l.directives))
