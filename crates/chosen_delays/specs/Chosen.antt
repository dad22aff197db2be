-- The delays behind a `#` in ticks, of which a choice takes the least, the typical or the greatest ones.
use Rattle.std.specs.Prelude.{ℕ, List, [], ◌∷◌, map, take, Option, None, Some, ℤ}
use Rattle.std.specs.Option.{option_map, option_and_then}
use Rattle.v_tree.specs.declared.drives.Amount.{Amount}
use Rattle.v_tree.specs.declared.drives.DelayValue.{DelayValue}
use Rattle.v_tree.specs.declared.drives.DelayValue.TheVariants.{One, Three}
use Rattle.v_tree.specs.declared.drives.Delay.{Delay}
use Rattle.v_tree.specs.declared.drives.Delay.TheVariants as delay
use Rattle.v_tree.specs.declared.drives.DelaySpec.{DelaySpec}
use Rattle.chosen_delays.specs.declared.choice.Mtm.{Mtm}
use Rattle.chosen_delays.specs.declared.choice.Mtm.TheVariants.{Min, Typ, Max}
use Rattle.chosen_delays.specs.Amounts.{amount_ticks}

-- the amount that is chosen of a value: the only one, or one of `min : typ : max` (IEEE 1364-2005, 7.14.1)
abbrev pub chosen_amount : Mtm → DelayValue → Amount
chosen_amount choice (One amount) = amount
chosen_amount Min (Three min typ max) = min
chosen_amount Typ (Three min typ max) = typ
chosen_amount Max (Three min typ max) = max

-- the chosen amount of a value in ticks
abbrev pub value_ticks : Mtm → ℤ → ℤ → ℤ → DelayValue → Option ℕ
value_ticks choice unit precision tick value = amount_ticks unit precision tick (chosen_amount choice value)

-- the values of a delay: an amount without parentheses is one
abbrev pub values_in : Delay → List DelayValue
values_in (delay.Amount amount) = One amount ∷ []
values_in (delay.Values values) = values

-- the first three values of an item's delay; none where there is no `#`
abbrev pub delay_values : Option DelaySpec → List DelayValue
delay_values None = []
delay_values (Some spec) = take 3 (values_in spec.delay)

-- what all have, or None where one has none
abbrev pub all_or_none : List (Option ℕ) → Option (List ℕ)
all_or_none [] = Some []
all_or_none (first ∷ rest) = option_and_then (λ x. option_map (λ xs. x ∷ xs) (all_or_none rest)) first

-- the delays of an item in ticks, at most three (IEEE 1364-2005, 7.14): None where one of them has no value
abbrev pub delays_of : Mtm → ℤ → ℤ → ℤ → Option DelaySpec → Option (List ℕ)
delays_of choice unit precision tick spec = all_or_none (map (value_ticks choice unit precision tick) (delay_values spec))
