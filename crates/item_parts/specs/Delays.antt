-- How many delays stand behind a `#`.
use Rattle.std.specs.Prelude.{ℕ, List, [], length, Option, None, Some, nat_lt}
use Rattle.v_tree.specs.declared.locations.Location.{Location}
use Rattle.v_tree.specs.declared.drives.Delay.{Delay}
use Rattle.v_tree.specs.declared.drives.Delay.TheVariants.{Amount, Values}
use Rattle.v_tree.specs.declared.drives.DelaySpec.{DelaySpec}
use Rattle.module_scope.specs.Places.{place_if}

abbrev pub count_in : Delay → ℕ
count_in (Amount amount) = 1
count_in (Values values) = length values

-- how many delays there are: one without parentheses, else as many as stand in them (IEEE 1364-2005, 7.14)
abbrev pub delay_count : DelaySpec → ℕ
delay_count spec = count_in spec.delay

-- the `#`, where there are more delays than so many
abbrev pub delay_places : ℕ → Option DelaySpec → List Location
delay_places most None = []
delay_places most (Some spec) = place_if (nat_lt most (delay_count spec)) spec.location
