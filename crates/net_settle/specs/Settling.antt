-- Settling: the finished bounds of the nets of an island, as a relation. It is this project's own.
use Rattle.std.specs.Prelude.{◌≡◌, ◌<◌, ◌⊎◌, ℕ, zero, suc, ℤ, pos, List, length, Contains}
use Rattle.level_range.specs.declared.range.Conduct.{Conduct}
use Rattle.level_range.specs.Signal.{Signal}
use Rattle.net_settle.specs.declared.shape.Link.{Link}
use Rattle.net_settle.specs.declared.side.Side.{Side}
use Rattle.net_settle.specs.declared.side.Side.TheVariants.{Lower, Upper}
use Rattle.net_settle.specs.Bounds.{Switch, at, better, bounds_of, carried_bound}

-- the link is between the two nets, in either direction
abbrev pub Joins : Link → ℕ → ℕ → Type 0
Joins link m n = ((link.a ≡ m) × (link.b ≡ n)) ⊎ ((link.a ≡ n) × (link.b ≡ m))

-- a switch carries the level to the net from net m
pub record Brings (side : Side) (switches : List Switch) (bounds : List ℤ) (m n : ℕ) (v : ℤ) : Type 0 where
  pub link : Link
  pub conduct : Conduct
  pub there : Contains switches (link, conduct)
  pub joins : Joins link m n
  pub carries : carried_bound side link conduct (at bounds m) ≡ v

-- the level is 0, the net's own bound, or carried to the net
abbrev pub Comes : Side → List Switch → List ℤ → List ℤ → ℕ → ℤ → Type 0
Comes side switches own bounds n v =
    (v ≡ pos 0) ⊎ (v ≡ at own n) ⊎ ((m : ℕ) × Brings side switches bounds m n v)

-- the level comes to the net, and no better one does
pub record IsBest (side : Side) (switches : List Switch) (own bounds : List ℤ) (n : ℕ) (v : ℤ) : Type 0 where
  pub comes : Comes side switches own bounds n v
  pub none_better : (u : ℤ) → Comes side switches own bounds n u → better side u v ≡ v

-- a walk over so many switches, from a net whose bound is its own to net n, on which each bound that is carried is
-- the bound of the net that it comes to
abbrev pub IsWalk : Side → List Switch → List ℤ → List ℤ → ℕ → ℕ → Type 0
IsWalk side switches own bounds zero n = at bounds n ≡ at own n
IsWalk side switches own bounds (suc steps) n =
    (m : ℕ) × Brings side switches bounds m n (at bounds n) × IsWalk side switches own bounds steps m

-- the bounds of all nets are finished: each is the best of what comes to the net, and each but 0 has a source
pub record IsSettled (side : Side) (switches : List Switch) (own bounds : List ℤ) : Type 0 where
  pub nets : length bounds ≡ length own
  pub best : (n : ℕ) → n < length own → IsBest side switches own bounds n (at bounds n)
  pub source :
      (n : ℕ) → n < length own → ¬ (at bounds n ≡ pos 0)
      → (steps : ℕ) × IsWalk side switches own bounds steps n

-- the signals of the nets of an island whose own signals are given go from finished lower to finished upper bounds
pub record AreSettled (switches : List Switch) (own signals : List Signal) : Type 0 where
  pub lower : IsSettled Lower switches (bounds_of Lower own) (bounds_of Lower signals)
  pub upper : IsSettled Upper switches (bounds_of Upper own) (bounds_of Upper signals)
