use Rattle.std.proofs.Common.{◌≡◌, take}
use Rattle.rule_places.specs.Places.{first_place}
use Rattle.flat_assembly.specs.Assembly.{classes}
use Rattle.flat_assembly.specs.Wired.{wired_places}
use Rattle.netlist_assembly.proofs.wired.first_wired.Given as goal

abbrev pub invariant-loop-net : goal.invariant-loop-net
invariant-loop-net l = l.first ≡ first_place (wired_places (classes l.claims) (take l.net-index l.terminals))
