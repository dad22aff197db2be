use Rattle.std.proofs.Common.{◌≡◌, drop}
use Rattle.primitive_rules.specs.Walks.{no_places, with_all}
use Rattle.primitive_rules.proofs.places.PrimitivePlaces.new.Given as goal

abbrev pub invariant-loop-index : goal.invariant-loop-index
invariant-loop-index l = with_all l.places (drop l.index l.reached) (drop l.index l.udps) ≡ with_all no_places l.reached l.udps
