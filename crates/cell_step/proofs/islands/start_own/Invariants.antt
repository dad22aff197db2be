use Rattle.std.proofs.Common.{[]}
use Rattle.level_range.specs.Signal.{undriven}
use Rattle.cell_step.specs.Owns.{place_signal}
use Rattle.cell_step.proofs.Filling.{IsFilled}
use Rattle.cell_step.proofs.islands.start_own.Given as goal

-- the places before this one have what their first drivers drive
abbrev pub invariant-loop-place : goal.invariant-loop-place
invariant-loop-place g l =
    IsFilled (place_signal l.flat.parts (g.V.View.readings l.view) l.island []) undriven l.fn.own l.own l.place
