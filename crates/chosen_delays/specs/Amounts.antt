-- The amounts of delays in ticks.
use Rattle.std.specs.Prelude.{ℕ, ◌/◌, ◌%◌, Bool, ◌&&◌, nat_le, List, [], ◌∷◌, Option, None, if◌then◌else◌, ℤ}
use Rattle.std.specs.List.{list_all}
use Rattle.delay_rule.specs.Ticks.{ticks_of, delay_in_ticks}
use Rattle.v_tree.specs.declared.drives.Amount.{Amount}
use Rattle.v_tree.specs.declared.drives.Amount.TheVariants.{Number, Decimal}

-- the ten decimal digits of a number below 10^10, zeros on the left among them
abbrev pub ten_digits : ℕ → List ℕ
ten_digits n =
    n / 1000000000 % 10 ∷ n / 100000000 % 10 ∷ n / 10000000 % 10 ∷ n / 1000000 % 10 ∷ n / 100000 % 10
    ∷ n / 10000 % 10 ∷ n / 1000 % 10 ∷ n / 100 % 10 ∷ n / 10 % 10 ∷ n % 10 ∷ []

-- each is from 0 to 9, as in every decimal of a text
abbrev pub are_digits : List ℕ → Bool
are_digits digits = list_all (λ digit. nat_le digit 9) digits

-- an amount in ticks, under a unit, a precision and a tick (IEEE 1364-2005, 19.8): None where it is 2^31 or more, or
-- where a digit isn't one
abbrev pub amount_ticks : ℤ → ℤ → ℤ → Amount → Option ℕ
amount_ticks unit precision tick (Number n) = delay_in_ticks (ticks_of (ten_digits n) [] unit precision tick)
amount_ticks unit precision tick (Decimal decimal) =
    if are_digits decimal.whole && are_digits decimal.fraction
    then delay_in_ticks (ticks_of decimal.whole decimal.fraction unit precision tick) else None
