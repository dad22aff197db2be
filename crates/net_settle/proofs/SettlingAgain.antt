-- Settling again with what is left of the charges gives the same signals and charges.
use Rattle.std.proofs.Common.{◌≡◌, ◌≢◌, ℕ, zero, suc, ◌<◌, ◌≤◌, Bool, true, false, cond, List, length, get_or, refl, ap, sym, ◌∙◌, subst, arith, inl, inr}
use Rattle.std.specs.Prelude.{ℤ, pos, ◌≤ℤ◌, All, zip, nat_eq, slice_index_or}
use Rattle.std.proofs.lemmas.List.{same_lists, get_or_past}
use Rattle.std.proofs.lemmas.List.FromFn.{length-map-range_with_len, get_or-map-range_with_len}
use Rattle.std.proofs.lemmas.Bool.{cases_lt}
use Rattle.level_range.specs.declared.range.Conduct.{Conduct}
use Rattle.level_range.specs.declared.range.Kind.{Kind}
use Rattle.level_range.specs.declared.range.Kind.TheVariants.{Plain, And, Or}
use Rattle.level_range.specs.Signal.{Signal, undriven, IsSignal}
use Rattle.level_range.specs.Combine.{join_of}
use Rattle.net_settle.specs.declared.shape.Shape.{Shape}
use Rattle.net_settle.specs.declared.side.Side.{Side}
use Rattle.net_settle.specs.declared.side.Side.TheVariants.{Lower, Upper}
use Rattle.net_settle.specs.Bounds.{Switch, at, bound_of, bounds_of}
use Rattle.net_settle.specs.Settling.{IsSettled}
use Rattle.net_settle.specs.ByLevels.{settled_signals}
use Rattle.net_settle.specs.Charges.{signal_at, contribution, charged_signals, prefer_driven, prefer_driven_signals, charge_left, charges_left, switches_of, driven_signals, island_signals}
use Rattle.net_settle.specs.Conditions.{IsIsland, IsCharge, IsChargeLevel, AreCharges, WiredAlone}
use Rattle.net_settle.specs.Progress.{rank}
use Rattle.net_settle.proofs.Ranks.{rank-none}
use Rattle.net_settle.specs.Charges.{excludes_zero}
use Rattle.net_settle.proofs.Signals.{bounds_of-at, length-bounds_of, signal_is}
use Rattle.net_settle.proofs.Walks.{settled-most}
use Rattle.net_settle.proofs.Listed.{settled-alone}
use Rattle.net_settle.proofs.Laws.{settled-are_settled, settled-only, settled-signals}
use Rattle.net_settle.proofs.Again.{settled-again}
use Rattle.net_settle.proofs.Contributions.{Keeps, keeps, charged-signal, left-charge, next_contribution, PlainOrAlone}

-- the level of a net's charge is such a level, past the last net too
level_is : (levels : List ℕ) → All IsChargeLevel levels → (n : ℕ) → IsChargeLevel (slice_index_or levels n 0)
level_is levels are n = elim (cases_lt n (length levels)) [
  | inl lt ↦ are n 0 lt
  | inr ge ↦ inl (get_or_past levels n 0 ge)
]

length-charged : (kinds : List Kind) (levels : List ℕ) (own charges driven : List Signal) → length (charged_signals kinds levels own charges driven) ≡ length own
unfolding charged_signals
length-charged kinds levels own charges driven = length-map-range_with_len _ 0 (length own)

charged-at : (kinds : List Kind) (levels : List ℕ) (own charges driven : List Signal) (n : ℕ) (d : Signal) → n < length own →
    get_or (charged_signals kinds levels own charges driven) n d
    ≡ join_of (slice_index_or kinds n Plain) (signal_at own n) (contribution (slice_index_or levels n 0) (signal_at charges n) (signal_at driven n))
unfolding charged_signals
charged-at kinds levels own charges driven n d h = get_or-map-range_with_len _ 0 (length own) n n d h (omega arith)

chosen-at : (driven second : List Signal) (n : ℕ) (d : Signal) → n < length driven → get_or (prefer_driven_signals driven second) n d ≡ prefer_driven (signal_at driven n) (signal_at second n)
unfolding prefer_driven_signals
chosen-at driven second n d h = get_or-map-range_with_len _ 0 (length driven) n n d h (omega arith)

left-at : (levels : List ℕ) (charges signals : List Signal) (n : ℕ) (d : Signal) → n < length charges →
    get_or (charges_left levels charges signals) n d ≡ charge_left (slice_index_or levels n 0) (signal_at charges n) (signal_at signals n)
unfolding charges_left
left-at levels charges signals n d h = get_or-map-range_with_len _ 0 (length charges) n n d h (omega arith)

pub length-left : (levels : List ℕ) (charges signals : List Signal) → length (charges_left levels charges signals) ≡ length charges
unfolding charges_left
length-left levels charges signals = length-map-range_with_len _ 0 (length charges)

-- what is left of a charge is left of what is left of it
left-twice : (c : ℕ) (charge s : Signal) → charge_left c (charge_left c charge s) s ≡ charge_left c charge s
left-twice zero charge s = refl
left-twice (suc m) charge s =
    let z : nat_eq (suc m) 0 ≡ false = grind arith in
    rw z refl

module _ (shape : Shape) (on : List Conduct) (own charges : List Signal)
    (island : IsIsland shape (length own) charges)
    (wired : WiredAlone shape)
    (signals : All IsSignal own)
    (charged : AreCharges shape.charge charges) where
  abbrev switches : List Switch
  switches = switches_of shape on

  abbrev driven : List Signal
  driven = settled_signals switches own

  abbrev first : List Signal
  first = charged_signals shape.kinds shape.charge own charges driven

  abbrev second : List Signal
  second = settled_signals switches first

  abbrev left : List Signal
  left = charges_left shape.charge charges (prefer_driven_signals driven second)

  abbrev next : List Signal
  next = charged_signals shape.kinds shape.charge own left driven

  charge_is : (n : ℕ) → slice_index_or shape.charge n 0 ≢ 0 → IsCharge (slice_index_or shape.charge n 0) (signal_at charges n)
  charge_is n some = charged n some

  first-signals : All IsSignal first
  first-signals k d lt =
      let inside : k < length own = (let e = length-charged shape.kinds shape.charge own charges driven in omega arith) in
      subst IsSignal (sym (charged-at shape.kinds shape.charge own charges driven k d inside))
      (charged-signal (slice_index_or shape.kinds k Plain) (slice_index_or shape.charge k 0) (signal_at own k) (signal_at charges k) (signal_at driven k)
      (signal_is own signals k) (level_is shape.charge island.strengths k) (charge_is k))

  length-driven : length driven ≡ length own
  length-driven =
      let e = (settled-are_settled switches own signals).lower.nets in
      let a = length-bounds_of Lower driven in let b = length-bounds_of Lower own in omega arith

  plain_or_alone : (n : ℕ) → n < length own →
      PlainOrAlone (slice_index_or shape.kinds n Plain) (signal_at own n) (signal_at driven n)
      (join_of (slice_index_or shape.kinds n Plain) (signal_at own n)
      (contribution (slice_index_or shape.charge n 0) (signal_at charges n) (signal_at driven n)))
      (signal_at second n)
  plain_or_alone n lt = by_kind (slice_index_or shape.kinds n Plain) refl
    where
      alone : slice_index_or shape.kinds n Plain ≢ Plain →
          PlainOrAlone (slice_index_or shape.kinds n Plain) (signal_at own n) (signal_at driven n)
          (join_of (slice_index_or shape.kinds n Plain) (signal_at own n)
          (contribution (slice_index_or shape.charge n 0) (signal_at charges n) (signal_at driven n)))
          (signal_at second n)
      alone ne =
          let none = (wired n ne).1 in inr (
            ap (λ l. signal_at (settled_signals (zip l on) own) n) none ∙ ap (λ s. signal_at s n) (settled-alone own signals),
            ap (λ l. signal_at (settled_signals (zip l on) first) n) none ∙ ap (λ s. signal_at s n) (settled-alone first first-signals)
                ∙ charged-at shape.kinds shape.charge own charges driven n undriven lt,
          )

      by_kind : (kind : Kind) → slice_index_or shape.kinds n Plain ≡ kind →
          PlainOrAlone (slice_index_or shape.kinds n Plain) (signal_at own n) (signal_at driven n)
          (join_of (slice_index_or shape.kinds n Plain) (signal_at own n)
          (contribution (slice_index_or shape.charge n 0) (signal_at charges n) (signal_at driven n)))
          (signal_at second n)
      by_kind Plain e = inl e
      by_kind And e = alone (λ f. cc)
      by_kind Or e = alone (λ f. cc)

  side-settled : (side : Side) → IsSettled side switches (bounds_of side first) (bounds_of side second)
  side-settled Lower = (settled-are_settled switches first first-signals).lower
  side-settled Upper = (settled-are_settled switches first first-signals).upper

  -- what each net keeps
  net-keeps : (side : Side) (n : ℕ) → n < length own →
      Keeps side (slice_index_or shape.kinds n Plain) (slice_index_or shape.charge n 0) (signal_at own n) (signal_at charges n) (signal_at driven n) (signal_at second n)
  net-keeps side n lt =
      keeps side (slice_index_or shape.kinds n Plain) (signal_at own n) (signal_at charges n) (signal_at driven n) (signal_at second n)
      (slice_index_or shape.charge n 0) settled_here (charge_is n) (signal_is second (settled-signals switches first first-signals) n).order (plain_or_alone n lt)
    where
      settled_here : rank side (bound_of side (join_of (slice_index_or shape.kinds n Plain) (signal_at own n)
          (contribution (slice_index_or shape.charge n 0) (signal_at charges n) (signal_at driven n)))) ≤ rank side (bound_of side (signal_at second n))
      settled_here =
          let inside : n < length (bounds_of side first) = (let a = length-bounds_of side first in let b = length-charged shape.kinds shape.charge own charges driven in omega arith) in
          let h = settled-most side switches (bounds_of side first) (bounds_of side second) (side-settled side) n inside (at (bounds_of side first) n) (inr (inl refl)) in
          let a = bounds_of-at side first n ∙ ap (bound_of side) (charged-at shape.kinds shape.charge own charges driven n undriven lt) in
          subst (λ (v : ℤ). rank side v ≤ rank side (bound_of side (signal_at second n))) a
          (subst (λ (v : ℤ). rank side (at (bounds_of side first) n) ≤ rank side v) (bounds_of-at side second n) h)

  next-at : (n : ℕ) → n < length own →
      signal_at next n ≡ join_of (slice_index_or shape.kinds n Plain) (signal_at own n)
      (next_contribution (slice_index_or shape.charge n 0) (signal_at charges n) (signal_at driven n) (signal_at second n))
  next-at n lt =
      charged-at shape.kinds shape.charge own left driven n undriven lt
      ∙ ap (λ s. join_of (slice_index_or shape.kinds n Plain) (signal_at own n) (contribution (slice_index_or shape.charge n 0) s (signal_at driven n)))
      (left-at shape.charge charges (prefer_driven_signals driven second) n undriven (let e = island.charge_nets in omega arith)
      ∙ ap (charge_left (slice_index_or shape.charge n 0) (signal_at charges n)) (chosen-at driven second n undriven (let e = length-driven in omega arith)))

  same_nets : (side : Side) → length (bounds_of side next) ≡ length (bounds_of side first)
  same_nets side =
      length-bounds_of side next ∙ length-charged shape.kinds shape.charge own left driven
      ∙ sym (length-charged shape.kinds shape.charge own charges driven) ∙ sym (length-bounds_of side first)

  weaker-at : (side : Side) (n : ℕ) → rank side (at (bounds_of side next) n) ≤ rank side (at (bounds_of side second) n)
  weaker-at side n = elim (cases_lt n (length own)) [
    | inl lt ↦
        subst (λ (v : ℤ). rank side v ≤ rank side (at (bounds_of side second) n)) (sym (bounds_of-at side next n ∙ ap (bound_of side) (next-at n lt)))
        (subst (λ (v : ℤ). rank side (bound_of side (join_of (slice_index_or shape.kinds n Plain) (signal_at own n)
        (next_contribution (slice_index_or shape.charge n 0) (signal_at charges n) (signal_at driven n) (signal_at second n)))) ≤ rank side v)
        (sym (bounds_of-at side second n)) (net-keeps side n lt).weaker)
    | inr ge ↦
        let e = get_or_past (bounds_of side next) n (pos 0)
        (let a = length-bounds_of side next in let b = length-charged shape.kinds shape.charge own left driven in omega arith) in
        let f : rank side (at (bounds_of side next) n) ≡ rank side (pos 0) = ap (rank side) e in
        let z = rank-none side in
        omega arith
  ]

  kept-at : (side : Side) (n : ℕ) → at (bounds_of side second) n ≡ at (bounds_of side first) n → at (bounds_of side second) n ≡ at (bounds_of side next) n
  kept-at side n e = elim (cases_lt n (length own)) [
    | inl lt ↦
        bounds_of-at side second n
        ∙ (net-keeps side n lt).kept
        (sym (bounds_of-at side second n) ∙ e ∙ bounds_of-at side first n ∙ ap (bound_of side) (charged-at shape.kinds shape.charge own charges driven n undriven lt))
        ∙ sym (bounds_of-at side next n ∙ ap (bound_of side) (next-at n lt))
    | inr ge ↦
        e ∙ get_or_past (bounds_of side first) n (pos 0)
        (let a = length-bounds_of side first in let b = length-charged shape.kinds shape.charge own charges driven in omega arith)
        ∙ sym (get_or_past (bounds_of side next) n (pos 0)
        (let a = length-bounds_of side next in let b = length-charged shape.kinds shape.charge own left driven in omega arith))
  ]

  next-settled : (side : Side) → IsSettled side switches (bounds_of side next) (bounds_of side second)
  next-settled side =
      settled-again side switches (bounds_of side first) (bounds_of side next) (bounds_of side second) (same_nets side) (side-settled side) (weaker-at side) (kept-at side)

  left-charges : AreCharges shape.charge left
  left-charges n some = elim (cases_lt n (length charges)) [
    | inl lt ↦
        subst (IsCharge (slice_index_or shape.charge n 0)) (sym (left-at shape.charge charges (prefer_driven_signals driven second) n undriven lt))
        (left-charge (slice_index_or shape.charge n 0) (signal_at charges n) (signal_at (prefer_driven_signals driven second) n) some
        (subst (λ s. s.lo ≤ℤ s.hi) (sym (chosen-at driven second n undriven (let e = length-driven in let f = island.charge_nets in omega arith))) (chosen-order n)))
    | inr ge ↦ absurd (some (get_or_past shape.charge n 0 (let e = island.levels in let f = island.charge_nets in omega arith)))
  ]
    where
      chosen-order : (n : ℕ) → (prefer_driven (signal_at driven n) (signal_at second n)).lo ≤ℤ (prefer_driven (signal_at driven n) (signal_at second n)).hi
      chosen-order n = by_test (excludes_zero (signal_at driven n))
        where
          by_test : (b : Bool) → (cond b (signal_at driven n) (signal_at second n)).lo ≤ℤ (cond b (signal_at driven n) (signal_at second n)).hi
          by_test true = (signal_is driven (settled-signals switches own signals) n).order
          by_test false = (signal_is second (settled-signals switches first first-signals) n).order

  next-signals : All IsSignal next
  next-signals k d lt =
      let inside : k < length own = (let e = length-charged shape.kinds shape.charge own left driven in omega arith) in
      subst IsSignal (sym (charged-at shape.kinds shape.charge own left driven k d inside))
      (charged-signal (slice_index_or shape.kinds k Plain) (slice_index_or shape.charge k 0) (signal_at own k) (signal_at left k) (signal_at driven k)
      (signal_is own signals k) (level_is shape.charge island.strengths k) (left-charges k))

  -- the signals are the same
  pub signals-again :
      island_signals shape on own (charges_left shape.charge charges (island_signals shape on own charges)) ≡ island_signals shape on own charges
  unfolding island_signals driven_signals
  signals-again =
      ap (prefer_driven_signals driven) (sym (settled-only switches next second next-signals record { lower = next-settled Lower; upper = next-settled Upper }))

  -- and so are the charges
  pub charges-again : (settled_signals : List Signal) → settled_signals ≡ island_signals shape on own charges →
      charges_left shape.charge (charges_left shape.charge charges settled_signals) settled_signals ≡ charges_left shape.charge charges settled_signals
  charges-again settled_signals is =
      let once = charges_left shape.charge charges settled_signals in
      same_lists _ _ (length-left shape.charge once settled_signals)
      (λ k d lt.
      let inside : k < length charges = (let a = length-left shape.charge once settled_signals in let b = length-left shape.charge charges settled_signals in omega arith) in
      left-at shape.charge once settled_signals k d (let b = length-left shape.charge charges settled_signals in omega arith)
      ∙ ap (λ s. charge_left (slice_index_or shape.charge k 0) s (signal_at settled_signals k)) (left-at shape.charge charges settled_signals k undriven inside)
      ∙ left-twice (slice_index_or shape.charge k 0) (signal_at charges k) (signal_at settled_signals k)
      ∙ sym (left-at shape.charge charges settled_signals k d inside))

  -- the settled signals of an island are signals, one for each net
  pub length-signals : length (island_signals shape on own charges) ≡ length own
  unfolding island_signals driven_signals prefer_driven_signals
  length-signals = length-map-range_with_len _ 0 (length driven) ∙ length-driven

  pub signals-are : All IsSignal (island_signals shape on own charges)
  unfolding island_signals driven_signals
  signals-are k d lt =
      let inside : k < length driven = (let e = length-signals in let f = length-driven in omega arith) in
      subst IsSignal (sym (chosen-at driven second k d inside)) (by_test (excludes_zero (signal_at driven k)))
    where
      by_test : (b : Bool) → IsSignal (cond b (signal_at driven k) (signal_at second k))
      by_test true = signal_is driven (settled-signals switches own signals) k
      by_test false = signal_is second (settled-signals switches first first-signals) k

  -- what is left of its charges are charges
  pub left-are : AreCharges shape.charge (charges_left shape.charge charges (island_signals shape on own charges))
  unfolding island_signals driven_signals
  left-are = left-charges
