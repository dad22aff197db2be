-- Settling as a function, which goes through the levels from 7 down. What it gives is the one list of finished bounds.
use Rattle.std.specs.Prelude.{ℕ, zero, suc, ℤ, pos, ◌&&◌, if◌then◌else◌, List, [], ◌∷◌, length, map, replicate, slice_set}
use Rattle.std.specs.List.{range_with_len}
use Rattle.std.specs.Ordering.{int_eq}
use Rattle.level_range.specs.Signal.{Signal}
use Rattle.net_settle.specs.declared.side.Side.{Side}
use Rattle.net_settle.specs.declared.side.Side.TheVariants.{Lower, Upper}
use Rattle.net_settle.specs.Bounds.{Switch, at, bounds_of, carried_bound, favoured_level, opposed_level}

-- a net that has no bound yet takes the level where it is what comes
unfoldable pub take_level : ℤ → ℕ → ℤ → List ℤ → List ℤ
take_level level n comes bounds =
    if int_eq (at bounds n) (pos 0) && int_eq comes level then slice_set bounds n level else bounds

-- nets take the level where it is their own bound, for the first nets
abbrev pub take_own : ℤ → List ℤ → ℕ → List ℤ → List ℤ
take_own level own zero bounds = bounds
take_own level own (suc n) bounds = take_level level n (at own n) (take_own level own n bounds)

-- nets take the level where a switch carries it from the net at its other end, switch by switch
abbrev pub take_carried : Side → ℤ → List Switch → List ℤ → List ℤ
take_carried side level [] bounds = bounds
take_carried side level ((link, conduct) ∷ switches) bounds =
    let there = take_level level link.b (carried_bound side link conduct (at bounds link.a)) bounds in
    let back = take_level level link.a (carried_bound side link conduct (at there link.b)) there in
    take_carried side level switches back

-- so many rounds of both
abbrev pub rounds : Side → ℤ → List Switch → List ℤ → ℕ → List ℤ → List ℤ
rounds side level switches own zero bounds = bounds
rounds side level switches own (suc k) bounds =
    rounds side level switches own k
    (take_carried side level switches (take_own level own (length own) bounds))

-- the level spreads until no net takes it: a round for each net is enough
unfoldable pub spread : Side → ℤ → List Switch → List ℤ → List ℤ → List ℤ
spread side level switches own bounds = rounds side level switches own (length own) bounds

-- the levels from a strength down, at each strength the better one first
unfoldable pub spread_from : Side → List Switch → List ℤ → ℕ → List ℤ → List ℤ
spread_from side switches own zero bounds = bounds
spread_from side switches own (suc k) bounds =
    let first = spread side (favoured_level side (suc k)) switches own bounds in
    spread_from side switches own k (spread side (opposed_level side (suc k)) switches own first)

-- the finished bounds on a side
unfoldable pub settled_bounds : Side → List Switch → List ℤ → List ℤ
settled_bounds side switches own = spread_from side switches own 7 (replicate (length own) (pos 0))

-- the signals from lower to upper bounds, for so many nets
unfoldable pub signals_between : List ℤ → List ℤ → ℕ → List Signal
signals_between lower upper nets = map (λ n. record { lo = at lower n; hi = at upper n }) (range_with_len 0 nets)

-- the signals of nets whose own signals are given
unfoldable pub settled_signals : List Switch → List Signal → List Signal
settled_signals switches own =
    signals_between (settled_bounds Lower switches (bounds_of Lower own)) (settled_bounds Upper switches (bounds_of Upper own))
    (length own)
