use Rattle.module_directives.specs.Walks.{IsBehind}
use Rattle.module_directives.proofs.settings.walk_on.Given as goal

abbrev pub invariant-loop-count : goal.invariant-loop-count
invariant-loop-count l = IsBehind l.tick l.directives (record { token = l.token; count = l.count; settings = l.settings })
