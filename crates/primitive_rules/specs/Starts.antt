-- The start values of a sequential primitive (IEEE 1364-2005, 8.5).
use Rattle.std.specs.Prelude.{ℕ, nat_eq, ◌-◌, Bool, true, false, List, length, take, slice_get, Option, Some, None, option_and_then, if◌then◌else◌}
use Rattle.std.specs.List.{list_all}
use Rattle.level_range.specs.declared.range.Logic.{Logic}
use Rattle.level_range.specs.declared.range.Logic.TheVariants as value
use Rattle.v_lexer.specs.declared.literals.Bit.{Bit}
use Rattle.v_lexer.specs.declared.literals.Bit.TheVariants.{Zero, One, X, Z}
use Rattle.v_tree.specs.declared.primitives.Lit.{Lit}
use Rattle.v_tree.specs.declared.primitives.Lit.TheVariants.{Number, Based}

abbrev pub is_x : Bit → Bool
is_x X = true
is_x other = false

-- the value of a single bit that is 0 or 1
abbrev pub bit_value : Bit → Option Logic
bit_value Zero = Some value.Zero
bit_value One = Some value.One
bit_value X = None
bit_value Z = None

abbrev pub is_zero : Bit → Bool
is_zero Zero = true
is_zero other = false

-- the value of the last bit
abbrev pub last_value : List Bit → Option Logic
last_value bits = option_and_then bit_value (slice_get bits (length bits - 1))

-- the number of bits from the left, where it is 0 or 1: all but the last are 0
abbrev pub small_number : List Bit → Option Logic
small_number bits = if list_all is_zero (take (length bits - 1) bits) then last_value bits else None

-- x where all bits are x, else the number, which has to be 0 or 1
abbrev pub bits_value : List Bit → Option Logic
bits_value bits = if list_all is_x bits then Some value.X else small_number bits

-- a plain number, which has to be 0 or 1
abbrev pub number_value : ℕ → Option Logic
number_value n = if nat_eq n 0 then Some value.Zero else if nat_eq n 1 then Some value.One else None

-- the start value that a literal is, where it is one
abbrev pub start_value : Lit → Option Logic
start_value (Number location n) = number_value n
start_value (Based location literal) = bits_value literal.bits
