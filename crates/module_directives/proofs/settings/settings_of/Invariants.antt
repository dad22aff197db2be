use Rattle.std.proofs.Common.{◌≡◌, take, map}
use Rattle.module_directives.specs.InForce.{settings_at}
use Rattle.module_directives.specs.Walks.{IsBehind}
use Rattle.module_directives.proofs.settings.settings_of.Given as goal

abbrev pub invariant-loop-module : goal.invariant-loop-module
invariant-loop-module l = record {
  behind : IsBehind l.tick l.directives l.walk;
  list : l.list ≡ map (λ m. settings_at l.directives m.location) (take l.module-index l.modules);
}
