-- Signals by their bounds, and lists of signals by their bounds.
use Rattle.std.proofs.Common.{◌≡◌, ℕ, ◌≤◌, List, length, refl, ap, sym, ◌∙◌, subst, arith, inl, inr}
use Rattle.std.specs.Prelude.{ℤ, pos, ◌≤ℤ◌, All}
use Rattle.std.proofs.lemmas.Int.{ints}
use Rattle.std.proofs.lemmas.List.{get_or_past, get_or-map, length-map}
use Rattle.std.proofs.lemmas.Bool.{cases_lt}
use Rattle.level_range.specs.Signal.{Signal, undriven, IsSignal}
use Rattle.net_settle.specs.declared.side.Side.{Side}
use Rattle.net_settle.specs.declared.side.Side.TheVariants.{Lower, Upper}
use Rattle.net_settle.specs.Bounds.{Switch, at, bound_of, bounds_of}
use Rattle.net_settle.specs.Settling.{IsSettled}
use Rattle.net_settle.specs.Charges.{signal_at}
use Rattle.net_settle.specs.Progress.{rank}
use Rattle.net_settle.proofs.Ranks.{rank-most}
use Rattle.net_settle.proofs.InOrder.{in_order}

-- finished bounds of both sides, as a list by sides
abbrev pub by_side : List ℤ → List ℤ → Side → List ℤ
by_side lower upper Lower = lower
by_side lower upper Upper = upper

-- the bound of a net is that of its signal, past the last net too
pub bounds_of-at : (side : Side) (signals : List Signal) (n : ℕ) → at (bounds_of side signals) n ≡ bound_of side (signal_at signals n)
bounds_of-at side signals n = elim (cases_lt n (length signals)) [
  | inl lt ↦ get_or-map (bound_of side) signals n undriven (pos 0) lt
  | inr ge ↦
      get_or_past (bounds_of side signals) n (pos 0) (let h = length-map signals (bound_of side) in omega arith)
      ∙ none side ∙ ap (bound_of side) (sym (get_or_past signals n undriven ge))
]
  where
    none : (side : Side) → pos 0 ≡ bound_of side undriven
    none Lower = refl
    none Upper = refl

pub length-bounds_of : (side : Side) (signals : List Signal) → length (bounds_of side signals) ≡ length signals
length-bounds_of side signals = length-map signals (bound_of side)

pub signal_is : (own : List Signal) → All IsSignal own → (n : ℕ) → IsSignal (signal_at own n)
signal_is own signals n = elim (cases_lt n (length own)) [
  | inl lt ↦ signals n undriven lt
  | inr ge ↦ subst IsSignal (sym (get_or_past own n undriven ge))
      record { low = omega (arith, ints); order = omega (arith, ints); high = omega (arith, ints) }
]

pub signals-most : (side : Side) (own : List Signal) → All IsSignal own → (n : ℕ) → rank side (at (bounds_of side own) n) ≤ 14
signals-most side own signals n =
    let s = signal_is own signals n in
    subst (λ v. rank side v ≤ 14) (sym (bounds_of-at side own n)) (by_side_most side (signal_at own n) s)
  where
    by_side_most : (side : Side) (s : Signal) → IsSignal s → rank side (bound_of side s) ≤ 14
    by_side_most Lower s is = rank-most Lower s.lo is.low (let a = is.order in let b = is.high in omega (arith, ints))
    by_side_most Upper s is = rank-most Upper s.hi (let a = is.order in let b = is.low in omega (arith, ints)) is.high

-- own lower bounds are at most own upper ones, and both are finished: then the finished ones are in order too
pub both_in_order : (switches : List Switch) (own : List Signal) (lower upper : List ℤ) → All IsSignal own →
    IsSettled Lower switches (bounds_of Lower own) lower → IsSettled Upper switches (bounds_of Upper own) upper →
    (n : ℕ) → at lower n ≤ℤ at upper n
both_in_order switches own lower upper signals low high =
    in_order switches (λ side. bounds_of side own) (by_side lower upper) (length own)
    (λ side. length-bounds_of side own)
    (λ side. signals-most side own signals)
    (λ n. subst (λ x. x ≤ℤ at (bounds_of Upper own) n) (sym (bounds_of-at Lower own n))
    (subst (λ x. (signal_at own n).lo ≤ℤ x) (sym (bounds_of-at Upper own n)) (signal_is own signals n).order))
    settled_side
  where
    settled_side : (side : Side) → IsSettled side switches (bounds_of side own) (by_side lower upper side)
    settled_side Lower = low
    settled_side Upper = high
