-- Drives, charges and delays.
use Rattle.std.specs.Prelude.{Bool, ◌&&◌, Option, Some, None, is_some}
use Rattle.v_tree.specs.declared.locations.Location.{Location}
use Rattle.v_tree.specs.declared.drives.Level.{Level}
use Rattle.v_tree.specs.declared.drives.DriveStrength.{DriveStrength}
use Rattle.v_tree.specs.declared.drives.PullLevels.{PullLevels}
use Rattle.v_tree.specs.declared.drives.Charge.{Charge}
use Rattle.v_tree.specs.declared.drives.Amount.{Amount}
use Rattle.v_tree.specs.declared.drives.Amount.TheVariants as amounts
use Rattle.v_tree.specs.declared.drives.DelayValue.{DelayValue}
use Rattle.v_tree.specs.declared.drives.DelayValue.TheVariants.{One, Three}
use Rattle.v_tree.specs.declared.drives.Delay.{Delay}
use Rattle.v_tree.specs.declared.drives.Delay.TheVariants as delays
use Rattle.v_tree.specs.declared.drives.DelaySpec.{DelaySpec}
use Rattle.v_tree.specs.Written.{Form}
use Rattle.v_tree.specs.Written as form
use Rattle.v_parser.specs.Input.{Reader, ◌<$>◌, ◌&◌, token, mark, skip, is_mark, optional, choice, comma_list}
use Rattle.v_parser.specs.Expressions.{sees_mark}
use Rattle.v_parser.specs.Words.{level_in, sees_level, charge_in}

-- a level, without its location
unfoldable pub level : Reader Level
level = (λ z. z.0) <$> token level_in

abbrev pub drive_of : Location × (Level × (Unit {0} × (Level × Unit {0}))) → DriveStrength
drive_of z = record { location = z.0; first = z.1.0; second = z.1.1.1.0 }

-- `( level , level )`
unfoldable pub drive : Reader DriveStrength
drive = drive_of <$> (mark 40 & level & skip 44 & level & skip 41)

-- `(` and a level
abbrev pub sees_drive : Form → Form → Bool
sees_drive f g = is_mark 40 f && sees_level g g

-- `, level`
unfoldable pub second_level : Reader Level
second_level = (λ z. z.1) <$> (skip 44 & level)

abbrev pub pull_of : Location × (Level × (Option Level × Unit {0})) → PullLevels
pull_of z = record { location = z.0; first = z.1.0; second = z.1.1.0 }

-- `( level )` or `( level , level )`
unfoldable pub pull_levels : Reader PullLevels
pull_levels = pull_of <$> (mark 40 & level & optional (sees_mark 44) second_level & skip 41)

-- a word for a charge, without its location
unfoldable pub charge_word : Reader Charge
charge_word = (λ z. z.0) <$> token charge_in

-- `( charge )`
unfoldable pub charge : Reader Charge
charge = (λ z. z.1.0) <$> (skip 40 & charge_word & skip 41)

-- a number or a decimal
abbrev pub amount_in : Form → Option Amount
amount_in (form.Number n) = Some (amounts.Number n)
amount_in (form.Decimal digits) = Some (amounts.Decimal digits)
amount_in _ = None

-- the first of two tokens is a number or a decimal
abbrev pub sees_amount : Form → Form → Bool
sees_amount f g = is_some (amount_in f)

unfoldable pub amount : Reader Amount
amount = (λ z. z.0) <$> token amount_in

-- `: amount : amount`
unfoldable pub other_values : Reader (Amount × Amount)
other_values = (λ z. (z.1.0, z.1.1.1)) <$> (skip 58 & amount & skip 58 & amount)

abbrev pub delay_value_with : Amount → Option (Amount × Amount) → DelayValue
delay_value_with a None = One a
delay_value_with a (Some others) = Three a others.0 others.1

-- an amount, or three with `:` between
unfoldable pub delay_value : Reader DelayValue
delay_value = (λ z. delay_value_with z.0 z.1) <$> (amount & optional (sees_mark 58) other_values)

-- `( value , .. )`
unfoldable pub delay_values : Reader Delay
delay_values = (λ z. delays.Values z.1.0) <$> (skip 40 & comma_list delay_value & skip 41)

-- an amount, or values in parentheses
abbrev pub delay : Reader Delay
delay = choice sees_amount (delays.Amount <$> amount) delay_values

abbrev pub delay_of : Location × Delay → DelaySpec
delay_of z = record { location = z.0; delay = z.1 }

-- `# amount` or `# ( value , .. )`
unfoldable pub delay_spec : Reader DelaySpec
delay_spec = delay_of <$> (mark 35 & delay)
