use Rattle.std.proofs.Common.{◌≡◌, ◌++◌, take}
use Rattle.net_islands.specs.Islands.{element_drives}
use Rattle.net_islands.proofs.items.push_drives.Given as goal

abbrev pub invariant-loop-pin : goal.invariant-loop-pin
invariant-loop-pin l = l.drives.items ≡ l.initial.drives.items ++ element_drives l.numbers l.places l.element (take l.pin l.outs)
