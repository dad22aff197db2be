-- The strengths of what gates and assignments drive (IEEE 1364-2005, 7.10).
use Rattle.std.specs.Prelude.{ℕ, Bool, true, false, Option, None, Some, if◌then◌else◌}
use Rattle.std.specs.Option.{option_map_or}
use Rattle.v_tree.specs.declared.drives.Strength.{Strength}
use Rattle.v_tree.specs.declared.drives.Strength.TheVariants.{Supply, Strong, Pull, Weak, Highz}
use Rattle.v_tree.specs.declared.drives.DriveStrength.{DriveStrength}
use Rattle.v_tree.specs.declared.drives.PullLevels.{PullLevels}
use Rattle.v_tree.specs.declared.gates.PullGate.{PullGate}
use Rattle.v_tree.specs.declared.gates.GateKind.{GateKind}
use Rattle.v_tree.specs.declared.gates.GateKind.TheVariants as gate
use Rattle.item_parts.specs.Drives.{is_level_of, pull_level, pulls_to_one}
use Rattle.element_forms.specs.declared.strengths.Strengths.{Strengths}

abbrev pub strength_level : Strength → ℕ
strength_level Supply = 7
strength_level Strong = 6
strength_level Pull = 5
strength_level Weak = 3
strength_level Highz = 0

-- the level of a drive for a value, where `true` is 1
abbrev pub drive_level : Bool → DriveStrength → ℕ
drive_level one drive = strength_level (if is_level_of one drive.first then drive.first.strength else drive.second.strength)

-- what drives without a drive strength is strong
abbrev pub drive_strengths : Option DriveStrength → Strengths
drive_strengths None = record { zero = 6; one = 6 }
drive_strengths (Some drive) = record { zero = drive_level false drive; one = drive_level true drive }

-- the level of a pull gate, which is pull where none is written
abbrev pub pull_strength : PullGate → Option PullLevels → ℕ
pull_strength g None = 5
pull_strength g (Some levels) = option_map_or (λ level. strength_level level.strength) (pull_level g levels) 0

-- a pull gate has a level for its value alone
abbrev pub pull_strengths : PullGate → Option PullLevels → Strengths
pull_strengths g levels =
    if pulls_to_one g then record { zero = 0; one = pull_strength g levels } else record { zero = pull_strength g levels; one = 0 }

-- switches have no strengths of their own, and stand as strong
abbrev pub gate_strengths : GateKind → Strengths
gate_strengths (gate.Logic g drive delay) = drive_strengths drive
gate_strengths (gate.Switch g delay) = drive_strengths None
gate_strengths (gate.Tran g) = drive_strengths None
gate_strengths (gate.Pull g levels) = pull_strengths g levels
