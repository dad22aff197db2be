-- Combining the signals that drive one net (IEEE 1364-2005, 7.10). What an ambiguous strength gives against one of
-- equal level, or against another ambiguous one, is this project's own.
use Rattle.std.specs.Prelude.{◌≡◌, ◌≤◌, ℤ, pos, ◌≤ℤ◌, unsigned_abs, nat_lt, if◌then◌else◌, List, [], ◌∷◌, ◌++◌, All, Contains, fold, IsPermutation}
use Rattle.std.specs.Int.{int_min, int_max}
use Rattle.level_range.specs.declared.range.Kind.{Kind}
use Rattle.level_range.specs.declared.range.Kind.TheVariants.{Plain, And, Or}
use Rattle.level_range.specs.Signal.{Signal, undriven, IsSignal}
use Rattle.level_range.specs.Levels.{HasLevel, IsFilled}

-- a choice takes one level out of each signal
abbrev pub IsChoice : List Signal → List ℤ → Type 0
IsChoice [] [] = Unit {0}
IsChoice [] (_ ∷ _) = ⊥
IsChoice (_ ∷ _) [] = ⊥
IsChoice (s ∷ signals) (v ∷ levels) = HasLevel s v × IsChoice signals levels

-- the level has the greatest absolute level of the choice; with nothing chosen it is 0
abbrev pub Wins : List ℤ → ℤ → Type 0
Wins levels v = Contains (pos 0 ∷ levels) v × All (λ u. unsigned_abs u ≤ unsigned_abs v) levels

-- where both signs win a plain net has every level between the two, an And net the negative one, an Or net the positive one
abbrev pub Gives : Kind → List ℤ → ℤ → Type 0
Gives Plain levels v = (u w : ℤ) × Wins levels u × Wins levels w × (u ≤ℤ v) × (v ≤ℤ w)
Gives And levels v = Wins levels v × ((w : ℤ) → Wins levels w → v ≤ℤ w)
Gives Or levels v = Wins levels v × ((u : ℤ) → Wins levels u → u ≤ℤ v)

-- the level is given by a choice
abbrev pub Combined : Kind → List Signal → ℤ → Type 0
Combined kind signals v = (levels : List ℤ) × IsChoice signals levels × Gives kind levels v

-- the combination of a list of signals: what all choices give, with gaps filled
unfoldable pub IsCombination : Kind → List Signal → Signal → Type 0
IsCombination kind signals s = IsFilled (Combined kind signals) s

-- of two lower bounds the one of greater absolute level is better, and at equal levels the negative one
unfoldable pub better_low : ℤ → ℤ → ℤ
better_low x y =
    if nat_lt (unsigned_abs x) (unsigned_abs y) then y
    else if nat_lt (unsigned_abs y) (unsigned_abs x) then x
    else int_min x y

-- of two upper bounds likewise, and at equal levels the positive one
unfoldable pub better_high : ℤ → ℤ → ℤ
better_high x y =
    if nat_lt (unsigned_abs x) (unsigned_abs y) then y
    else if nat_lt (unsigned_abs y) (unsigned_abs x) then x
    else int_max x y

-- the better lower bound on a net of a kind: where both signs have the greatest level, an Or net takes the positive one
abbrev pub lower_of : Kind → ℤ → ℤ → ℤ
lower_of Plain x y = better_low x y
lower_of And x y = better_low x y
lower_of Or x y = better_high x y

-- the better upper bound: an And net takes the negative one
abbrev pub upper_of : Kind → ℤ → ℤ → ℤ
upper_of Plain x y = better_high x y
upper_of And x y = better_low x y
upper_of Or x y = better_high x y

-- two signals joined by their bounds
abbrev pub join_of : Kind → Signal → Signal → Signal
join_of kind a b = record { lo = lower_of kind a.lo b.lo; hi = upper_of kind a.hi b.hi }

-- signals joined one after the other, from z on
abbrev pub combination_of : Kind → List Signal → Signal
combination_of kind signals = fold (join_of kind) undriven signals

-- The combination of a list of signals, in any order and grouping: it is the signals joined one after the other, it is
-- the only signal that all choices give, and that of two lists together is that of the one joined with that of the other.
pub record CombinationLaw (kind : Kind) : Type 0 where
  pub none : combination_of kind [] ≡ undriven
  pub one : (s : Signal) → IsSignal s → combination_of kind (s ∷ []) ≡ s
  pub is : (signals : List Signal) → All IsSignal signals → IsCombination kind signals (combination_of kind signals)
  pub only : (signals : List Signal) (s : Signal) → All IsSignal signals → IsCombination kind signals s
      → s ≡ combination_of kind signals
  pub order : (signals others : List Signal) → All IsSignal signals → IsPermutation signals others
      → combination_of kind signals ≡ combination_of kind others
  pub grouping : (signals others : List Signal) → All IsSignal signals → All IsSignal others
      → combination_of kind (signals ++ others) ≡ join_of kind (combination_of kind signals) (combination_of kind others)
  pub signal : (signals : List Signal) → All IsSignal signals → IsSignal (combination_of kind signals)
