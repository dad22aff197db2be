use Rattle.std.proofs.Common.{◌≡◌, take}
use Rattle.flat_net.specs.Islands.{drive_pins}
use Rattle.flat_net.proofs.joints.drive_pins.Given as goal

abbrev pub invariant-loop-island : goal.invariant-loop-island
invariant-loop-island l = l.pins.items ≡ drive_pins (take l.island-index l.islands)
