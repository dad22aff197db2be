-- The values of the plain run's state.
use Rattle.first_machine.specs.declared.state.State.{State}
use Rattle.first_machine.specs.Shown.{Values}

abbrev pub values_of : State → Values
values_of s = record { outs = s.outs.items; targets = s.targets.items; seen = s.seen.items; forced = s.forced.items }
