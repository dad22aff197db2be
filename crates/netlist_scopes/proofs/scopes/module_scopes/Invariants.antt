use Rattle.std.proofs.Common.{◌≡◌, map, take}
use Rattle.netlist_scopes.specs.Reached.{scope_under}
use Rattle.netlist_scopes.proofs.scopes.module_scopes.Given as goal

abbrev pub invariant-loop-i : goal.invariant-loop-i
invariant-loop-i l = l.scopes ≡ map (scope_under l.directives) (take l.i l.modules)
