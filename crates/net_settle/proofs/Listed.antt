-- Lists of signals net by net.
use Rattle.std.proofs.Common.{[], inl, inr, ◌≡◌, ℕ, ◌<◌, ◌≤◌, List, length, get_or, refl, ap, sym, ◌∙◌, subst, arith}
use Rattle.std.proofs.lemmas.List.{same_lists, get_or_default}
use Rattle.std.specs.Prelude.{ℤ, pos, All}
use Rattle.std.proofs.lemmas.List.FromFn.{length-map-range_with_len, get_or-map-range_with_len, fill_by_all}
use Rattle.level_range.specs.Signal.{Signal, undriven, IsSignal}
use Rattle.net_settle.specs.declared.side.Side.{Side}
use Rattle.net_settle.specs.declared.side.Side.TheVariants.{Lower, Upper}
use Rattle.net_settle.specs.Bounds.{Switch, at, bounds_of}
use Rattle.net_settle.specs.Settling.{IsSettled}
use Rattle.net_settle.specs.Progress.{rank}
use Rattle.net_settle.proofs.Ranks.{rank-none, better-from_rank}
use Rattle.net_settle.proofs.Walks.{settled_once}
use Rattle.net_settle.proofs.Rounds.{settled_bounds-settled}
use Rattle.net_settle.proofs.SameSignal.{same_signal}
use Rattle.net_settle.proofs.Signals.{bounds_of-at, signals-most}
use Rattle.net_settle.specs.ByLevels.{signals_between, settled_signals, settled_bounds}
use Rattle.net_settle.specs.Charges.{signal_at, prefer_driven, prefer_driven_signals}

pub length-signals_between : (lower upper : List ℤ) (nets : ℕ) → length (signals_between lower upper nets) ≡ nets
unfolding signals_between
length-signals_between lower upper nets = length-map-range_with_len _ 0 nets

pub signals_between-at : (lower upper : List ℤ) (nets n : ℕ) (d : Signal) → n < nets →
    get_or (signals_between lower upper nets) n d ≡ record { lo = at lower n; hi = at upper n }
unfolding signals_between
signals_between-at lower upper nets n d h = get_or-map-range_with_len _ 0 nets n n d h (omega arith)

pub signals_between-all : (lower upper : List ℤ) (nets : ℕ) (signals : List Signal) → length signals ≡ nets →
    ((n : ℕ) → n < nets → get_or signals n undriven ≡ record { lo = at lower n; hi = at upper n }) → signals ≡ signals_between lower upper nets
unfolding signals_between
signals_between-all lower upper nets signals long each = fill_by_all _ signals nets undriven long each

pub chosen_signals-all : (driven second signals : List Signal) → length signals ≡ length driven →
    ((n : ℕ) → n < length driven → get_or signals n undriven ≡ prefer_driven (signal_at driven n) (signal_at second n)) → signals ≡ prefer_driven_signals driven second
unfolding prefer_driven_signals
chosen_signals-all driven second signals long each = fill_by_all _ signals (length driven) undriven long each

-- signals between the bounds that settle are those that settle
pub settled-between : (switches : List Switch) (own : List Signal) (lower upper : List ℤ) (nets : ℕ) →
    lower ≡ settled_bounds Lower switches (bounds_of Lower own) → upper ≡ settled_bounds Upper switches (bounds_of Upper own) →
    nets ≡ length own → signals_between lower upper nets ≡ settled_signals switches own
unfolding settled_signals
settled-between switches own lower upper nets low high same =
    ap (λ l. signals_between l upper nets) low
    ∙ ap (λ u. signals_between (settled_bounds Lower switches (bounds_of Lower own)) u nets) high
    ∙ ap (signals_between (settled_bounds Lower switches (bounds_of Lower own)) (settled_bounds Upper switches (bounds_of Upper own))) same

-- without links each net has its own signal
own-settled : (side : Side) (own : List ℤ) → IsSettled side [] own own
own-settled side own = record {
  nets = refl;
  best = λ n inside. record {
    comes = inr (inl refl);
    none_better = λ u comes. better-from_rank side u (at own n) (elim comes [
      | inl e ↦ let z = rank-none side in let f : rank side u ≡ rank side (pos 0) = ap (rank side) e in omega arith
      | inr e ↦ elim e [
        | inl same ↦ let f : rank side u ≡ rank side (at own n) = ap (rank side) same in omega arith
        | inr (m, brings) ↦ let lt = brings.there.1 in absurd (omega arith)
      ]
    ]);
  };
  source = λ n inside some. (0, refl);
}

pub settled_bounds-alone : (side : Side) (own : List ℤ) → ((n : ℕ) → rank side (at own n) ≤ 14) → settled_bounds side [] own ≡ own
settled_bounds-alone side own most =
    settled_once side [] own 14 most _ _ (settled_bounds-settled side [] own most) (own-settled side own)

pub settled-alone : (own : List Signal) → All IsSignal own → settled_signals [] own ≡ own
settled-alone own signals =
    sym (
    signals_between-all (bounds_of Lower own) (bounds_of Upper own) (length own) own refl
    (λ n lt. same_signal (get_or own n undriven) _ _ (sym (bounds_of-at Lower own n)) (sym (bounds_of-at Upper own n)))
    ∙ settled-between [] own (bounds_of Lower own) (bounds_of Upper own) (length own)
    (sym (settled_bounds-alone Lower (bounds_of Lower own) (signals-most Lower own signals)))
    (sym (settled_bounds-alone Upper (bounds_of Upper own) (signals-most Upper own signals)))
    refl
    )

-- lists of one signal
pub one_list : (xs ys : List Signal) → length xs ≡ 1 → length ys ≡ 1 → get_or xs 0 undriven ≡ get_or ys 0 undriven → xs ≡ ys
one_list xs ys a b same = same_lists xs ys (a ∙ sym b) (λ k d lt.
    let z : k ≡ 0 = omega arith in
    ap (λ i. get_or xs i d) z ∙ get_or_default xs 0 d undriven (omega arith) ∙ same
    ∙ get_or_default ys 0 undriven d (omega arith) ∙ ap (λ i. get_or ys i d) (sym z))

pub one_signal : (xs : List Signal) (s : Signal) → length xs ≡ 1 → IsSignal s → s ≡ get_or xs 0 undriven → All IsSignal xs
one_signal xs s one is same k d lt =
    let z : k ≡ 0 = omega arith in
    subst IsSignal (same ∙ get_or_default xs 0 undriven d (omega arith) ∙ ap (λ i. get_or xs i d) (sym z)) is
