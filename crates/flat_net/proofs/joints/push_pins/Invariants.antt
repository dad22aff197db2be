use Rattle.std.proofs.Common.{◌≡◌, ◌++◌, map, take}
use Rattle.flat_net.proofs.joints.push_pins.Given as goal

abbrev pub invariant-loop-drive : goal.invariant-loop-drive
invariant-loop-drive l = l.pins.items ≡ l.initial.pins.items ++ map (λ drive. (drive.element, drive.pin)) (take l.drive-index l.drives)
