-- Only the bodies and their proofs use these: how far bounds have come while levels spread.
use Rattle.std.specs.Prelude.{◌≡◌, ◌≢◌, ◌+◌, ◌*◌, ◌<◌, ◌≤◌, ℕ, zero, suc, Bool, ℤ, pos, negsuc, if◌then◌else◌, List, [], ◌∷◌, length, Contains, MatchBool}
use Rattle.std.specs.Ordering.{int_eq}
use Rattle.level_range.specs.declared.range.Conduct.{Conduct}
use Rattle.net_settle.specs.declared.shape.Link.{Link}
use Rattle.net_settle.specs.declared.side.Side.{Side}
use Rattle.net_settle.specs.declared.side.Side.TheVariants.{Lower, Upper}
use Rattle.net_settle.specs.Bounds.{Switch, at, carried_bound}
use Rattle.net_settle.specs.Settling.{Joins, IsWalk}

-- of two bounds the better one has the greater rank
abbrev pub low_rank : ℤ → ℕ
low_rank (pos zero) = 0
low_rank (pos (suc n)) = 2 * n + 1
low_rank (negsuc n) = 2 * n + 2

abbrev pub high_rank : ℤ → ℕ
high_rank (pos zero) = 0
high_rank (pos (suc n)) = 2 * n + 2
high_rank (negsuc n) = 2 * n + 1

abbrev pub rank : Side → ℤ → ℕ
rank Lower v = low_rank v
rank Upper v = high_rank v

-- all bounds of a rank above r are finished, and there are none of lower rank
pub record IsDone (side : Side) (switches : List Switch) (own : List ℤ) (r : ℕ) (bounds : List ℤ) : Type 0 where
  pub nets : length bounds ≡ length own
  pub above : (n : ℕ) → at bounds n ≢ pos 0 → r ≤ rank side (at bounds n)
  pub owned : (n : ℕ) → n < length own → r < rank side (at own n) → rank side (at own n) ≤ rank side (at bounds n)
  pub brought :
      (link : Link) (conduct : Conduct) (m n : ℕ) → Contains switches (link, conduct) → Joins link m n → n < length own
      → r < rank side (carried_bound side link conduct (at bounds m)) → rank side (carried_bound side link conduct (at bounds m)) ≤ rank side (at bounds n)
  pub source : (n : ℕ) → at bounds n ≢ pos 0 → (steps : ℕ) × IsWalk side switches own bounds steps n

-- no net without a bound has the level as its own bound
abbrev pub OwnRests : List ℤ → List ℤ → ℤ → Type 0
OwnRests own bounds v = (n : ℕ) → n < length bounds → at bounds n ≡ pos 0 → at own n ≢ v

-- the switch carries the level to no net without a bound
abbrev pub LinkRests : Side → Link → Conduct → List ℤ → ℤ → Type 0
LinkRests side link conduct bounds v =
    (m n : ℕ) → Joins link m n → n < length bounds → at bounds n ≡ pos 0 → carried_bound side link conduct (at bounds m) ≢ v

-- no switch carries the level to a net without a bound
abbrev pub LinksRest : Side → List Switch → List ℤ → ℤ → Type 0
LinksRest side switches bounds v =
    (link : Link) (conduct : Conduct) → Contains switches (link, conduct) → LinkRests side link conduct bounds v

-- how many nets have no bound yet
unfoldable pub without : List ℤ → ℕ
without [] = 0
without (v ∷ bounds) = (if int_eq v (pos 0) then 1 else 0) + without bounds

-- nets without a bound took a level that these switches bring, and nothing else changed
pub record Spreads (side : Side) (switches : List Switch) (v : ℤ) (before after : List ℤ) : Type 0 where
  pub nets : length after ≡ length before
  pub grows : (n : ℕ) → at after n ≡ pos 0 → at before n ≡ pos 0
  pub keeps :
      (own : List ℤ) (r : ℕ) → rank side v ≡ suc r → IsDone side switches own (suc r) before
      → IsDone side switches own (suc r) after

-- where something changed fewer nets have no bound, else a fact holds
abbrev pub Moves : Bool → Type 0 → List ℤ → List ℤ → Type 0
Moves changed Rests before after = MatchBool changed (without after < without before) ((after ≡ before) × Rests)
