-- Laws of settling, over the definitions.
use Rattle.std.proofs.Common.{◌≡◌, ℕ, zero, suc, ◌<◌, ◌≤◌, List, length, get_or, refl, ap, sym, ◌∙◌, subst, arith}
use Rattle.std.specs.Prelude.{ℤ, pos, negsuc, ◌≤ℤ◌, All}
use Rattle.std.proofs.lemmas.Int.{ints}
use Rattle.std.proofs.lemmas.List.{same_lists, get_or_default}
use Rattle.level_range.specs.Signal.{Signal, undriven, IsSignal}
use Rattle.net_settle.specs.declared.side.Side.{Side}
use Rattle.net_settle.specs.declared.side.Side.TheVariants.{Lower, Upper}
use Rattle.net_settle.specs.Bounds.{Switch, at, bound_of, bounds_of}
use Rattle.net_settle.specs.Settling.{IsSettled, AreSettled}
use Rattle.net_settle.specs.ByLevels.{settled_bounds, signals_between, settled_signals}
use Rattle.net_settle.specs.Charges.{signal_at}
use Rattle.net_settle.specs.Progress.{rank}
use Rattle.net_settle.proofs.Signals.{by_side, bounds_of-at, length-bounds_of, signals-most, both_in_order}
use Rattle.net_settle.proofs.Listed.{length-signals_between, signals_between-at, signals_between-all, settled-between}
use Rattle.net_settle.proofs.SameSignal.{same_signal}
use Rattle.net_settle.proofs.Walks.{settled_once, bounds-most}
use Rattle.net_settle.proofs.Rounds.{settled_bounds-settled}

bounds_of-between : (side : Side) (lower upper : List ℤ) (nets : ℕ) → length lower ≡ nets → length upper ≡ nets →
    bounds_of side (signals_between lower upper nets) ≡ by_side lower upper side
bounds_of-between side lower upper nets low high =
    same_lists _ _ (length-bounds_of side (signals_between lower upper nets) ∙ length-signals_between lower upper nets ∙ sym (long side))
    (λ k d lt.
    let inside : k < nets = (let a = length-bounds_of side (signals_between lower upper nets) in let b = length-signals_between lower upper nets in omega arith) in
    get_or_default (bounds_of side (signals_between lower upper nets)) k d (pos 0) lt
    ∙ bounds_of-at side (signals_between lower upper nets) k
    ∙ ap (bound_of side) (signals_between-at lower upper nets k undriven inside)
    ∙ here side k d inside)
  where
    long : (side : Side) → length (by_side lower upper side) ≡ nets
    long Lower = low
    long Upper = high

    here : (side : Side) (k : ℕ) (d : ℤ) → k < nets → bound_of side (record { lo = at lower k; hi = at upper k }) ≡ get_or (by_side lower upper side) k d
    here Lower k d lt = get_or_default lower k (pos 0) d (omega arith)
    here Upper k d lt = get_or_default upper k (pos 0) d (omega arith)

pub bounds_of-settled : (side : Side) (switches : List Switch) (own : List Signal) → All IsSignal own →
    bounds_of side (settled_signals switches own) ≡ settled_bounds side switches (bounds_of side own)
unfolding settled_signals
bounds_of-settled side switches own signals =
    bounds_of-between side (settled_bounds Lower switches (bounds_of Lower own)) (settled_bounds Upper switches (bounds_of Upper own)) (length own)
    ((settled_bounds-settled Lower switches (bounds_of Lower own) (signals-most Lower own signals)).nets ∙ length-bounds_of Lower own)
    ((settled_bounds-settled Upper switches (bounds_of Upper own) (signals-most Upper own signals)).nets ∙ length-bounds_of Upper own)
    ∙ which side
  where
    which : (side : Side) → by_side (settled_bounds Lower switches (bounds_of Lower own)) (settled_bounds Upper switches (bounds_of Upper own)) side
        ≡ settled_bounds side switches (bounds_of side own)
    which Lower = refl
    which Upper = refl

-- what settling by levels gives is settled
pub settled-are_settled : (switches : List Switch) (own : List Signal) → All IsSignal own → AreSettled switches own (settled_signals switches own)
settled-are_settled switches own signals = record {
  lower = subst (IsSettled Lower switches (bounds_of Lower own)) (sym (bounds_of-settled Lower switches own signals))
      (settled_bounds-settled Lower switches (bounds_of Lower own) (signals-most Lower own signals));
  upper = subst (IsSettled Upper switches (bounds_of Upper own)) (sym (bounds_of-settled Upper switches own signals))
      (settled_bounds-settled Upper switches (bounds_of Upper own) (signals-most Upper own signals));
}

-- and no other list is
pub settled-only : (switches : List Switch) (own signals : List Signal) → All IsSignal own → AreSettled switches own signals → signals ≡ settled_signals switches own
settled-only switches own signals are_signals are =
    signals_between-all (bounds_of Lower signals) (bounds_of Upper signals) (length signals) signals refl
    (λ n lt. same_signal (get_or signals n undriven) _ _ (sym (bounds_of-at Lower signals n)) (sym (bounds_of-at Upper signals n)))
    ∙ settled-between switches own (bounds_of Lower signals) (bounds_of Upper signals) (length signals)
    (once Lower are.lower) (once Upper are.upper)
    (sym (length-bounds_of Lower signals) ∙ are.lower.nets ∙ length-bounds_of Lower own)
  where
    once : (side : Side) → IsSettled side switches (bounds_of side own) (bounds_of side signals) →
        bounds_of side signals ≡ settled_bounds side switches (bounds_of side own)
    once side is = settled_once side switches (bounds_of side own) 14 (signals-most side own are_signals) _ _ is
        (settled_bounds-settled side switches (bounds_of side own) (signals-most side own are_signals))

-- the signals that settle are signals
pub settled-signals : (switches : List Switch) (own : List Signal) → All IsSignal own → All IsSignal (settled_signals switches own)
settled-signals switches own signals k d lt =
    let are = settled-are_settled switches own signals in
    let s = settled_signals switches own in
    let inside : k < length s = lt in
    subst IsSignal (get_or_default s k undriven d lt) record {
      low = subst (λ (v : ℤ). negsuc 6 ≤ℤ v) (bounds_of-at Lower s k)
          (from_rank Lower _ (bounds-most Lower switches (bounds_of Lower own) 14 (signals-most Lower own signals) _ are.lower k)).0;
      order = subst (λ (v : ℤ). v ≤ℤ (signal_at s k).hi) (bounds_of-at Lower s k)
          (subst (λ (v : ℤ). at (bounds_of Lower s) k ≤ℤ v) (bounds_of-at Upper s k)
          (both_in_order switches own (bounds_of Lower s) (bounds_of Upper s) signals are.lower are.upper k));
      high = subst (λ (v : ℤ). v ≤ℤ pos 7) (bounds_of-at Upper s k)
          (from_rank Upper _ (bounds-most Upper switches (bounds_of Upper own) 14 (signals-most Upper own signals) _ are.upper k)).1;
    }
  where
    from_rank : (side : Side) (v : ℤ) → rank side v ≤ 14 → (negsuc 6 ≤ℤ v) × (v ≤ℤ pos 7)
    from_rank Lower (pos zero) h = (omega (arith, ints), omega (arith, ints))
    from_rank Lower (pos (suc n)) h = (omega (arith, ints), omega (arith, ints))
    from_rank Lower (negsuc n) h = (omega (arith, ints), omega (arith, ints))
    from_rank Upper (pos zero) h = (omega (arith, ints), omega (arith, ints))
    from_rank Upper (pos (suc n)) h = (omega (arith, ints), omega (arith, ints))
    from_rank Upper (negsuc n) h = (omega (arith, ints), omega (arith, ints))
