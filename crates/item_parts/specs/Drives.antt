-- Which drives and levels of pull gates are right.
use Rattle.std.specs.Prelude.{Bool, true, false, ◌&&◌, not, List, [], Option, None, Some, if◌then◌else◌}
use Rattle.v_tree.specs.declared.locations.Location.{Location}
use Rattle.v_tree.specs.declared.drives.Strength.{Strength}
use Rattle.v_tree.specs.declared.drives.Strength.TheVariants.{Supply, Strong, Pull, Weak, Highz}
use Rattle.v_tree.specs.declared.drives.Level.{Level}
use Rattle.v_tree.specs.declared.drives.DriveStrength.{DriveStrength}
use Rattle.v_tree.specs.declared.drives.PullLevels.{PullLevels}
use Rattle.v_tree.specs.declared.gates.PullGate.{PullGate}
use Rattle.v_tree.specs.declared.gates.PullGate.TheVariants.{Pullup, Pulldown}
use Rattle.module_scope.specs.Places.{place_if}

abbrev pub is_highz : Strength → Bool
is_highz Supply = false
is_highz Strong = false
is_highz Pull = false
is_highz Weak = false
is_highz Highz = true

-- a level is that of a value, where `true` is 1
abbrev pub is_level_of : Bool → Level → Bool
is_level_of true level = level.of_one
is_level_of false level = not level.of_one

-- of two levels one is for 0 and one for 1, in either order
abbrev pub are_of_both : Level → Level → Bool
are_of_both first second = is_level_of (not first.of_one) second

-- one level for 0 and one for 1, not both highz (IEEE 1364-2005, 7.1.2)
abbrev pub is_drive : DriveStrength → Bool
is_drive drive = are_of_both drive.first drive.second && not (is_highz drive.first.strength && is_highz drive.second.strength)

-- the `(` of a drive that isn't right
abbrev pub drive_places : Option DriveStrength → List Location
drive_places None = []
drive_places (Some drive) = place_if (not (is_drive drive)) drive.location

-- the value of a pull gate (IEEE 1364-2005, 7.8)
abbrev pub pulls_to_one : PullGate → Bool
pulls_to_one Pullup = true
pulls_to_one Pulldown = false

-- the level for a value, among one level or two: None where one is for the other value, or two are for the same
abbrev pub level_among : Bool → Level → Option Level → Option Level
level_among one first None = if is_level_of one first then Some first else None
level_among one first (Some second) =
    if are_of_both first second then Some (if is_level_of one first then first else second) else None

-- the level that a pull gate uses, that of its value, where its levels are one for that or one for each value
abbrev pub pull_level : PullGate → PullLevels → Option Level
pull_level gate levels = level_among (pulls_to_one gate) levels.first levels.second

-- there is a level to use, and it isn't highz
abbrev pub is_strong_level : Option Level → Bool
is_strong_level None = false
is_strong_level (Some level) = not (is_highz level.strength)

-- the levels of a pull gate are right
abbrev pub is_pull : PullGate → PullLevels → Bool
is_pull gate levels = is_strong_level (pull_level gate levels)

-- the `(` of a pull gate's levels that aren't right
abbrev pub pull_places : PullGate → Option PullLevels → List Location
pull_places gate None = []
pull_places gate (Some levels) = place_if (not (is_pull gate levels)) levels.location
