use Rattle.std.proofs.Common.{◌≡◌, drop}
use Rattle.netlist_scopes.specs.Walks.{no_places, places_among}
use Rattle.netlist_scopes.proofs.reached.places_among.Given as goal

abbrev pub invariant-loop-i : goal.invariant-loop-i
invariant-loop-i l = places_among l.places (drop l.i l.reached) (drop l.i l.scopes) ≡ places_among no_places l.reached l.scopes
