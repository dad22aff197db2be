-- Charges of triregs: what they contribute to the signals of an island, and what becomes of them. It is this project's own.
use Rattle.std.specs.Prelude.{ℕ, Bool, ℤ, pos, ◌||◌, int_lt, nat_eq, if◌then◌else◌, List, length, map, slice_index_or, zip}
use Rattle.std.specs.List.{range_with_len}
use Rattle.level_range.specs.declared.range.Conduct.{Conduct}
use Rattle.level_range.specs.declared.range.Kind.{Kind}
use Rattle.level_range.specs.declared.range.Kind.TheVariants.{Plain}
use Rattle.level_range.specs.Signal.{Signal, undriven, negative_level}
use Rattle.level_range.specs.Combine.{join_of}
use Rattle.level_range.specs.Reduce.{hull_of}
use Rattle.net_settle.specs.declared.shape.Shape.{Shape}
use Rattle.net_settle.specs.Bounds.{Switch}
use Rattle.net_settle.specs.ByLevels.{settled_signals}

-- the signal of a net; z past the last net
abbrev pub signal_at : List Signal → ℕ → Signal
signal_at signals n = slice_index_or signals n undriven

-- all levels of the signal are below 0, or all are above
abbrev pub excludes_zero : Signal → Bool
excludes_zero s = int_lt s.hi (pos 0) || int_lt (pos 0) s.lo

-- a signal of one level
abbrev pub level : ℤ → Signal
level v = record { lo = v; hi = v }

-- the charge with the level of strength c and value 0 where the driven signal has a level below 0
abbrev pub charge_with_zero : ℕ → Signal → Signal → Signal
charge_with_zero c charge driven = if int_lt driven.lo (pos 0) then hull_of charge (level (negative_level c)) else charge

-- and with that of value 1 where the driven signal has a level above 0
abbrev pub charge_with_signs : ℕ → Signal → Signal → Signal
charge_with_signs c charge driven =
    if int_lt (pos 0) driven.hi then hull_of (charge_with_zero c charge driven) (level (pos c))
    else charge_with_zero c charge driven

-- what a net's charge of strength c contributes: nothing where there is none or where the driven signal excludes 0
abbrev pub contribution : ℕ → Signal → Signal → Signal
contribution c charge driven =
    if nat_eq c 0 then undriven
    else if excludes_zero driven then undriven
    else charge_with_signs c charge driven

-- the side of a charge of strength c by the sign of a bound
abbrev pub charge_bound : ℕ → ℤ → ℤ
charge_bound c v = if int_lt v (pos 0) then negative_level c else pos c

-- what becomes of a charge of strength c by the signal of its net
abbrev pub charge_left : ℕ → Signal → Signal → Signal
charge_left c charge signal =
    if nat_eq c 0 then charge
    else record { lo = charge_bound c signal.lo; hi = charge_bound c signal.hi }

-- the switches of an island
abbrev pub switches_of : Shape → List Conduct → List Switch
switches_of shape on = zip shape.links on

-- the signals without charges
unfoldable pub driven_signals : Shape → List Conduct → List Signal → List Signal
driven_signals shape on own = settled_signals (switches_of shape on) own

-- the own signals of nets, whose kinds and levels of charges are given, with what the charges contribute
unfoldable pub charged_signals : List Kind → List ℕ → List Signal → List Signal → List Signal → List Signal
charged_signals kinds levels own charges driven =
    map (λ n. join_of (slice_index_or kinds n Plain) (signal_at own n)
    (contribution (slice_index_or levels n 0) (signal_at charges n) (signal_at driven n)))
    (range_with_len 0 (length own))

-- of two settled signals the driven one where it excludes 0
abbrev pub prefer_driven : Signal → Signal → Signal
prefer_driven driven second = if excludes_zero driven then driven else second

unfoldable pub prefer_driven_signals : List Signal → List Signal → List Signal
prefer_driven_signals driven second =
    map (λ n. prefer_driven (signal_at driven n) (signal_at second n)) (range_with_len 0 (length driven))

-- the signals: the driven ones where they exclude 0, else those that settle with charges
unfoldable pub island_signals : Shape → List Conduct → List Signal → List Signal → List Signal
island_signals shape on own charges =
    let driven = driven_signals shape on own in
    prefer_driven_signals driven (settled_signals (switches_of shape on) (charged_signals shape.kinds shape.charge own charges driven))

-- what becomes of the charges, whose levels are given, by the signals of their nets
unfoldable pub charges_left : List ℕ → List Signal → List Signal → List Signal
charges_left levels charges signals =
    map (λ n. charge_left (slice_index_or levels n 0) (signal_at charges n) (signal_at signals n))
    (range_with_len 0 (length charges))
