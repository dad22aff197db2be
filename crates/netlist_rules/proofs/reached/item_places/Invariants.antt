use Rattle.std.proofs.Common.{◌≡◌, drop}
use Rattle.instance_rules.specs.Walks.{no_places}
use Rattle.netlist_rules.specs.Walks.{with_modules}
use Rattle.netlist_rules.proofs.reached.item_places.Given as goal

abbrev pub invariant-loop-i : goal.invariant-loop-i
invariant-loop-i l = with_modules l.file l.places (drop l.i l.reached) (drop l.i l.modules) ≡ with_modules l.file no_places l.reached l.modules
