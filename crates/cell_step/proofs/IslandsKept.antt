-- What an island's part in a pass, its maturing and its start keep: its state fits, and its signals are signals; and the
-- part in a pass done again changes nothing.
use Rattle.std.proofs.Common.{◌≡◌, ◌≢◌, ℕ, zero, suc, ◌+◌, ◌<◌, ◌≤◌, ◌⊎◌, Bool, true, false, cond, List, [], ◌∷◌, length, get_or, refl, ap, sym, ◌∙◌, subst, arith, inl, inr}
use Rattle.std.specs.Prelude.{ℤ, pos, negsuc, ◌≤ℤ◌, All, Option, Some, None, map, nat_eq, nat_le, unsigned_abs, slice_get, slice_index_or}
use Rattle.std.proofs.lemmas.Option.{get_or_from_slice_get}
use Rattle.std.specs.List.{AllZip, range_with_len}
use Rattle.std.proofs.lemmas.Int.{ints}
use Rattle.std.proofs.lemmas.List.{get_or_default, get_or-map, length-map}
use Rattle.std.proofs.lemmas.List.FromFn.{length-map-range_with_len, get_or-map-range_with_len}
use Rattle.std.proofs.lemmas.List.Elements.{All-get_or, All-map}
use Rattle.level_range.specs.declared.range.Conduct.{Conduct}
use Rattle.level_range.specs.Signal.{Signal, IsSignal, undriven, negative_level, reads}
use Rattle.level_range.proofs.Reduction.{undriven-is}
use Rattle.delay_rule.specs.declared.inertia.Pending.{Pending}
use Rattle.delay_rule.specs.Delay.{delay_list}
use Rattle.delay_rule.specs.Inertia.{pending_after, same_signal}
use Rattle.net_settle.specs.Charges.{signal_at, level, charge_left, charges_left, driven_signals, island_signals}
use Rattle.net_settle.specs.Conditions.{IsCharge, IsChargeLevel, AreCharges}
use Rattle.net_settle.specs.Conditions.{IsIsland as IsSettlingIsland}
use Rattle.net_settle.proofs.Signals.{signal_is}
use Rattle.net_settle.proofs.SettlingAgain.{length-left, length-signals, signals-are, left-are}
use Rattle.flat_net.specs.declared.kinds.Patch.{Patch}
use Rattle.flat_net.specs.declared.kinds.NetKind.{NetKind}
use Rattle.flat_net.specs.declared.kinds.NetKind.TheVariants.{Wire, And, Or, Tri0, Tri1, Supply0, Supply1, Trireg}
use Rattle.flat_net.specs.declared.parts.NetPart.{NetPart}
use Rattle.flat_net.specs.declared.parts.Island.{Island}
use Rattle.flat_net.specs.declared.parts.Parts.{Parts}
use Rattle.flat_net.specs.Islands.{HasCharge}
use Rattle.flat_net.specs.Soundness.{IsSound}
use Rattle.cell_step.specs.declared.states.Timer.{Timer}
use Rattle.cell_step.specs.declared.states.Timer.TheVariants.{Idle, Running, Ended}
use Rattle.cell_step.specs.declared.states.NetState.{NetState}
use Rattle.cell_step.specs.declared.states.IslandState.{IslandState}
use Rattle.cell_step.specs.Readings.{Readings, no_island, net_at, island_at}
use Rattle.cell_step.specs.Owns.{left_charges}
use Rattle.cell_step.specs.Changes.{mature_value, mature_due, is_timer_due, decay, mature_net, mature_island}
use Rattle.cell_step.specs.Nets.{net_delay, decay_time, start_timer, next_timer, next_net, start_charge, net_start}
use Rattle.cell_step.specs.Islands.{no_state, state_at, charges_of, part_at, own_signals, nets_after, next_island, island_after, island_start}
use Rattle.cell_step.specs.Fitting.{HasChargeOf, FitsNet, FitsIsland, IsSignalPending, HasNetSignals, HasIslandSignals}
use Rattle.cell_step.proofs.Mapping.{zip-from, zip-length, zip-at}
use Rattle.cell_step.proofs.IslandStillness.{length-nets_after, nets_after-at, next_island-again}
use Rattle.cell_step.proofs.Facts.{island-is, charge-length, place-level, place-net, wired_alone, states-length, net-fits, charges-length, charge-at, charges-are, settling-island}
use Rattle.cell_step.proofs.Signals.{AreReadings, own_signals-are, charge-signal, pending-after, span-signal}
use Rattle.cell_step.proofs.ElementsKept.{mature_value-is, mature_due-is}
use Rattle.level_range.specs.declared.range.Logic.TheVariants.{X}

-- the level of a charge is one
level-most : (kind : NetKind) (level : ℕ) → HasCharge kind level → level ≤ 7
level-most Trireg level (inl e) = omega arith
level-most Trireg level (inr (inl e)) = omega arith
level-most Trireg level (inr (inr e)) = omega arith
level-most Wire level e = omega arith
level-most And level e = omega arith
level-most Or level e = omega arith
level-most Tri0 level e = omega arith
level-most Tri1 level e = omega arith
level-most Supply0 level e = omega arith
level-most Supply1 level e = omega arith

nat_cases : (n : ℕ) → (n ≡ 0) ⊎ (n ≢ 0)
nat_cases zero = inl refl
nat_cases (suc k) = inr (λ e. omega arith)

idle-stays : (part : NetPart) (now : ℕ) (driven : Signal) (timer : Timer) → decay_time part.kind (delay_list part.delays) ≡ 0 →
    timer ≡ Idle → next_timer part now driven timer ≡ Idle
idle-stays part now driven timer none idle =
    ap (λ t. cond (same_signal driven undriven) (start_timer t now timer) Idle) none
    ∙ ap (λ t. cond (same_signal driven undriven) (start_timer 0 now t) Idle) idle
    ∙ by_test (same_signal driven undriven)
  where
    by_test : (b : Bool) → cond b Idle Idle ≡ Idle
    by_test true = refl
    by_test false = refl

-- a net after settling fits its part
module _ (part : NetPart) (now : ℕ) (driven signal charge : Signal) (s : NetState)
    (charged : part.charge ≢ 0 → IsCharge part.charge charge)
    (stays : part.charge ≡ 0 → charge ≡ s.charge) where
  no-decay : (kind : NetKind) → part.kind ≡ kind → decay_time kind (delay_list part.delays) ≡ 0 → s.timer ≡ Idle →
      next_timer part now driven s.timer ≡ Idle
  no-decay kind is none idle = idle-stays part now driven s.timer (ap (λ k. decay_time k (delay_list part.delays)) is ∙ none) idle

  some-level : (level : ℕ) → HasCharge Trireg level → level ≢ 0
  some-level level (inl e) z = omega arith
  some-level level (inr (inl e)) z = omega arith
  some-level level (inr (inr e)) z = omega arith

  fits-by : (kind : NetKind) → part.kind ≡ kind → HasCharge kind part.charge → HasChargeOf kind part.charge s →
      HasChargeOf kind part.charge (next_net part now driven signal charge s)
  fits-by Trireg is has fits = charged (some-level part.charge has)
  fits-by Wire is has fits = (stays has ∙ fits.0, no-decay Wire is refl fits.1)
  fits-by And is has fits = (stays has ∙ fits.0, no-decay And is refl fits.1)
  fits-by Or is has fits = (stays has ∙ fits.0, no-decay Or is refl fits.1)
  fits-by Tri0 is has fits = (stays has ∙ fits.0, no-decay Tri0 is refl fits.1)
  fits-by Tri1 is has fits = (stays has ∙ fits.0, no-decay Tri1 is refl fits.1)
  fits-by Supply0 is has fits = (stays has ∙ fits.0, no-decay Supply0 is refl fits.1)
  fits-by Supply1 is has fits = (stays has ∙ fits.0, no-decay Supply1 is refl fits.1)

  pub next_net-fits : HasCharge part.kind part.charge → FitsNet part s → FitsNet part (next_net part now driven signal charge s)
  next_net-fits has fits = fits-by part.kind refl has fits

pub next_net-signals : (part : NetPart) (now : ℕ) (driven signal charge : Signal) (s : NetState) → IsSignal signal → IsSignal charge →
    HasNetSignals s → HasNetSignals (next_net part now driven signal charge s)
next_net-signals part now driven signal charge s is charge_is has =
    let at_once = nat_eq part.delays.count 0 in record {
      settled = is;
      seen = seen-is at_once;
      due = due-is at_once;
      charge = charge_is;
    }
  where
    seen-is : (b : Bool) → IsSignal (cond b signal s.seen)
    seen-is true = is
    seen-is false = has.seen

    due-is : (b : Bool) → IsSignalPending (cond b None (pending_after same_signal s.seen s.due signal (now + net_delay part (reads signal))))
    due-is true = cc
    due-is false = pending-after s.seen s.due signal (now + net_delay part (reads signal)) has.due is

module _ (parts : Parts) (sound : IsSound parts) (number : ℕ) (lt : number < length parts.islands) where
  abbrev island : Island
  island = island_at parts number

  -- what is left of an island's charges
  abbrev pub charges_after : List Signal → List Conduct → IslandState → List Signal
  charges_after own on s = charges_left island.shape.charge (charges_of s.nets) (island_signals island.shape on own (charges_of s.nets))

  module _ (own : List Signal) (on : List Conduct) (s : IslandState) (fits : FitsIsland parts number s)
      (left-charges : AreCharges island.shape.charge (charges_after own on s)) where
    abbrev charges : List Signal
    charges = charges_of s.nets

    abbrev signals : List Signal
    signals = island_signals island.shape on own charges

    abbrev left : List Signal
    left = charges_after own on s

    -- the charge that is left of a net
    left-at : (place : ℕ) → place < length island.nets →
        signal_at left place ≡ charge_left (part_at parts island place).charge (state_at s.nets place).charge (signal_at signals place)
    unfolding charges_left
    left-at place within =
        get_or-map-range_with_len _ 0 (length charges) place place undriven (let e = charges-length parts sound number lt s fits in omega arith) (omega arith)
        ∙ ap (λ c. charge_left c (signal_at charges place) (signal_at signals place)) (place-level parts sound number lt place within)
        ∙ ap (λ c. charge_left (part_at parts island place).charge c (signal_at signals place)) (charge-at parts sound number lt s fits place within)

    charged-at : (place : ℕ) → place < length island.nets → (part_at parts island place).charge ≢ 0 →
        IsCharge (part_at parts island place).charge (signal_at left place)
    charged-at place within some =
        let same = place-level parts sound number lt place within in
        subst (λ c. IsCharge c (signal_at left place)) same (left-charges place (λ none. some (sym same ∙ none)))

    stays-at : (place : ℕ) → place < length island.nets → (part_at parts island place).charge ≡ 0 →
        signal_at left place ≡ (state_at s.nets place).charge
    stays-at place within none =
        left-at place within ∙ ap (λ c. charge_left c (state_at s.nets place).charge (signal_at signals place)) none

    abbrev after : ℕ → List NetState
    after now = nets_after parts island now (driven_signals island.shape on own) signals left s.nets

    next-fits-at : (now place : ℕ) → place < length island.nets → FitsNet (part_at parts island place) (state_at (after now) place)
    next-fits-at now place within =
        let part = part_at parts island place in
        subst (FitsNet part)
        (sym (nets_after-at parts island now (driven_signals island.shape on own) signals left s.nets place no_state within))
        (next_net-fits part now (signal_at (driven_signals island.shape on own) place) (signal_at signals place) (signal_at left place)
        (state_at s.nets place) (charged-at place within) (stays-at place within) (place-net parts sound number lt place within).charge
        (net-fits parts sound number lt s fits place within))

    pub next-island_fits : (now : ℕ) → FitsIsland parts number (next_island parts island now own on s)
    unfolding next_island
    next-island_fits now =
        zip-from (λ net state. FitsNet (net_at parts net) state) island.nets (after now) 0 no_state
        (sym (length-nets_after parts island now (driven_signals island.shape on own) signals left s.nets))
        (next-fits-at now)

  module _ (own : List Signal) (on : List Conduct) (own-are : All IsSignal own) (long : length own ≡ length island.nets)
      (s : IslandState) (fits : FitsIsland parts number s) where
    settles : IsSettlingIsland island.shape (length own) (charges_of s.nets)
    settles = settling-island parts sound number lt s fits own long

    -- the part in a pass done again
    pub next-again : (now later : ℕ) →
        next_island parts island later own on (next_island parts island now own on s) ≡ next_island parts island now own on s
    next-again now later =
        next_island-again parts island now later own on s (sym (states-length parts sound number lt s fits))
        settles (wired_alone parts sound number lt) own-are (charges-are parts sound number lt s fits)

    pub charges_after-are : AreCharges island.shape.charge (charges_after own on s)
    charges_after-are =
        left-are island.shape on own (charges_of s.nets) settles (wired_alone parts sound number lt) own-are
        (charges-are parts sound number lt s fits)

    all-signals : All IsSignal (island_signals island.shape on own (charges_of s.nets))
    all-signals =
        signals-are island.shape on own (charges_of s.nets) settles (wired_alone parts sound number lt) own-are
        (charges-are parts sound number lt s fits)

    -- a charge that is left is a signal
    left-signal : (place : ℕ) → place < length island.nets → HasIslandSignals s → IsSignal (signal_at (charges_after own on s) place)
    left-signal place within has = by_level (nat_cases (part_at parts island place).charge)
      where
        by_level : ((part_at parts island place).charge ≡ 0) ⊎ ((part_at parts island place).charge ≢ 0) → IsSignal (signal_at (charges_after own on s) place)
        by_level (inl none) =
            subst IsSignal (sym (stays-at own on s fits charges_after-are place within none))
            (has place no_state (let e = states-length parts sound number lt s fits in omega arith)).charge
        by_level (inr some) =
            charge-signal (part_at parts island place).charge (signal_at (charges_after own on s) place)
            (level-most (part_at parts island place).kind (part_at parts island place).charge (place-net parts sound number lt place within).charge)
            (charged-at own on s fits charges_after-are place within some)

    pub next-island_signals : (now : ℕ) → HasIslandSignals s → HasIslandSignals (next_island parts island now own on s)
    unfolding next_island
    next-island_signals now has place d inside =
        let driven = driven_signals island.shape on own in
        let signals = island_signals island.shape on own (charges_of s.nets) in
        let left = charges_after own on s in
        let within : place < length island.nets = (let e = length-nets_after parts island now driven signals left s.nets in omega arith) in
        subst HasNetSignals (sym (nets_after-at parts island now driven signals left s.nets place d within))
        (next_net-signals (part_at parts island place) now (signal_at driven place) (signal_at signals place) (signal_at (charges_after own on s) place)
        (state_at s.nets place) (signal_is signals all-signals place) (left-signal place within has)
        (has place no_state (let e = states-length parts sound number lt s fits in omega arith)))

module _ (parts : Parts) (sound : IsSound parts) (number : ℕ) (lt : number < length parts.islands)
    (patch : Patch) (r : Readings) (are : AreReadings r) (s : IslandState) (fits : FitsIsland parts number s) where
  own-are_signals : All IsSignal (own_signals parts r patch (island_at parts number))
  own-are_signals = own_signals-are parts r are patch (island_at parts number)

  own-length : length (own_signals parts r patch (island_at parts number)) ≡ length (island_at parts number).nets
  own-length = length-map-range_with_len _ 0 (length (island_at parts number).nets)

  pub island_after-again : (now later : ℕ) →
      island_after parts number patch later r (island_after parts number patch now r s) ≡ island_after parts number patch now r s
  island_after-again now later =
      next-again parts sound number lt (own_signals parts r patch (island_at parts number)) (map r.conduct (island_at parts number).links)
      own-are_signals own-length s fits now later

  pub island_after-fits : (now : ℕ) → FitsIsland parts number (island_after parts number patch now r s)
  island_after-fits now =
      next-island_fits parts sound number lt (own_signals parts r patch (island_at parts number)) (map r.conduct (island_at parts number).links)
      s fits
      (charges_after-are parts sound number lt (own_signals parts r patch (island_at parts number)) (map r.conduct (island_at parts number).links)
      own-are_signals own-length s fits)
      now

  pub island_after-signals : (now : ℕ) → HasIslandSignals s → HasIslandSignals (island_after parts number patch now r s)
  island_after-signals now has =
      next-island_signals parts sound number lt (own_signals parts r patch (island_at parts number)) (map r.conduct (island_at parts number).links)
      own-are_signals own-length s fits now has

-- a net at the start fits its part
start_net-fits : (kind : NetKind) (level : ℕ) → HasCharge kind level → HasChargeOf kind level (net_start level)
start_net-fits Trireg level has = inr (inr refl)
start_net-fits Wire level has = (ap start_charge has, refl)
start_net-fits And level has = (ap start_charge has, refl)
start_net-fits Or level has = (ap start_charge has, refl)
start_net-fits Tri0 level has = (ap start_charge has, refl)
start_net-fits Tri1 level has = (ap start_charge has, refl)
start_net-fits Supply0 level has = (ap start_charge has, refl)
start_net-fits Supply1 level has = (ap start_charge has, refl)

start_charge-is : (level : ℕ) → level ≤ 7 → IsSignal (start_charge level)
start_charge-is level most = span-signal X level level most most

module _ (parts : Parts) (sound : IsSound parts) (number : ℕ) (lt : number < length parts.islands) where
  start-at : (place : ℕ) (d : NetState) → place < length (island_at parts number).nets →
      get_or (island_start parts number).nets place d ≡ net_start (part_at parts (island_at parts number) place).charge
  start-at place d within =
      get_or-map net_start (island_at parts number).shape.charge place 0 d (let e = charge-length parts sound number lt in omega arith)
      ∙ ap net_start (place-level parts sound number lt place within)

  start-length : length (island_start parts number).nets ≡ length (island_at parts number).nets
  start-length = length-map (island_at parts number).shape.charge net_start ∙ sym (charge-length parts sound number lt)

  pub island_start-fits : FitsIsland parts number (island_start parts number)
  island_start-fits =
      zip-from (λ net state. FitsNet (net_at parts net) state) (island_at parts number).nets (island_start parts number).nets 0 no_state
      (sym start-length)
      (λ place within.
      let part = part_at parts (island_at parts number) place in
      subst (FitsNet part) (sym (start-at place no_state within))
      (start_net-fits part.kind part.charge (place-net parts sound number lt place within).charge))

  pub island_start-signals : HasIslandSignals (island_start parts number)
  island_start-signals place d inside =
      let within : place < length (island_at parts number).nets = (let e = start-length in omega arith) in
      let part = part_at parts (island_at parts number) place in
      let is = start_charge-is part.charge (level-most part.kind part.charge (place-net parts sound number lt place within).charge) in
      subst HasNetSignals (sym (start-at place d within)) record { settled = is; seen = is; due = cc; charge = is }

-- maturing
decay-charge : (level : ℕ) (charge : Signal) → IsCharge level charge → IsCharge level (decay charge)
decay-charge level charge is = inr (inr (ap decay-of (strength level charge is)))
  where
    decay-of : ℕ → Signal
    decay-of n = record { lo = negative_level n; hi = pos n }

    of-negative : (n : ℕ) → unsigned_abs (negative_level n) ≡ n
    of-negative zero = refl
    of-negative (suc k) = refl

    strength : (level : ℕ) (charge : Signal) → IsCharge level charge → unsigned_abs charge.lo ≡ level
    strength level charge (inl e) = ap (λ (s : Signal). unsigned_abs s.lo) e ∙ of-negative level
    strength level charge (inr (inl e)) = ap (λ (s : Signal). unsigned_abs s.lo) e
    strength level charge (inr (inr e)) = ap (λ (s : Signal). unsigned_abs s.lo) e ∙ of-negative level

mature_idle : (now : ℕ) (s : NetState) → (s.charge ≡ undriven) × (s.timer ≡ Idle) →
    ((mature_net now s).charge ≡ undriven) × ((mature_net now s).timer ≡ Idle)
mature_idle now s fits =
    let none : is_timer_due now s.timer ≡ false = ap (is_timer_due now) fits.1 in
    (ap (λ b. cond b (decay s.charge) s.charge) none ∙ fits.0, ap (λ b. cond b Ended s.timer) none ∙ fits.1)

mature_net-fits : (kind : NetKind) (level now : ℕ) (s : NetState) → HasChargeOf kind level s → HasChargeOf kind level (mature_net now s)
mature_net-fits Trireg level now s fits = by_test (is_timer_due now s.timer)
  where
    by_test : (b : Bool) → IsCharge level (cond b (decay s.charge) s.charge)
    by_test true = decay-charge level s.charge fits
    by_test false = fits
mature_net-fits Wire level now s fits = mature_idle now s fits
mature_net-fits And level now s fits = mature_idle now s fits
mature_net-fits Or level now s fits = mature_idle now s fits
mature_net-fits Tri0 level now s fits = mature_idle now s fits
mature_net-fits Tri1 level now s fits = mature_idle now s fits
mature_net-fits Supply0 level now s fits = mature_idle now s fits
mature_net-fits Supply1 level now s fits = mature_idle now s fits

pub mature_island-fits : (parts : Parts) (number now : ℕ) (s : IslandState) → FitsIsland parts number s → FitsIsland parts number (mature_island now s)
mature_island-fits parts number now s fits = maps (island_at parts number).nets s.nets fits
  where
    maps : (nets : List ℕ) (states : List NetState) → AllZip (λ net state. FitsNet (net_at parts net) state) nets states →
        AllZip (λ net state. FitsNet (net_at parts net) state) nets (map (mature_net now) states)
    maps [] [] h = h
    maps [] (s ∷ states) h = h
    maps (net ∷ nets) [] h = h
    maps (net ∷ nets) (s ∷ states) h = (mature_net-fits (net_at parts net).kind (net_at parts net).charge now s h.0, maps nets states h.1)

decay-signal : (charge : Signal) → IsSignal charge → IsSignal (decay charge)
decay-signal charge is = span-signal X (unsigned_abs charge.lo) (unsigned_abs charge.lo) most most
  where
    most-of : (l h : ℤ) → negsuc 6 ≤ℤ l → l ≤ℤ h → h ≤ℤ pos 7 → unsigned_abs l ≤ 7
    most-of (pos n) h a b c = grind (arith, ints)
    most-of (negsuc n) h a b c = grind (arith, ints)

    most : unsigned_abs charge.lo ≤ 7
    most = most-of charge.lo charge.hi is.low is.order is.high

mature_net-signals : (now : ℕ) (s : NetState) → HasNetSignals s → HasNetSignals (mature_net now s)
mature_net-signals now s has = record {
  settled = has.settled;
  seen = mature_value-is now s.seen s.due has.seen has.due;
  due = mature_due-is now s.due has.due;
  charge = charge-is (is_timer_due now s.timer);
}
  where
    charge-is : (b : Bool) → IsSignal (cond b (decay s.charge) s.charge)
    charge-is true = decay-signal s.charge has.charge
    charge-is false = has.charge

pub mature_island-signals : (now : ℕ) (s : IslandState) → HasIslandSignals s → HasIslandSignals (mature_island now s)
mature_island-signals now s has = All-map HasNetSignals (mature_net now) s.nets (λ k d lt. mature_net-signals now (slice_index_or s.nets k d) (has k d lt))

-- what the code of an island knows by the island itself
module _ (parts : Parts) (sound : IsSound parts) (number : ℕ) (lt : number < length parts.islands) where
  pub levels-most : All (λ level. level ≤ 7) (island_at parts number).shape.charge
  levels-most place d within =
      let island = island_at parts number in
      let inside : place < length island.nets = (let e = charge-length parts sound number lt in omega arith) in
      let part = part_at parts island place in
      subst (λ n. n ≤ 7) (sym (get_or_default island.shape.charge place d 0 within ∙ place-level parts sound number lt place inside))
      (level-most part.kind part.charge (place-net parts sound number lt place inside).charge)

  pub next-island_fits-of : (s : IslandState) → FitsIsland parts number s → (island : Island) → slice_get parts.islands number ≡ Some island →
      (now : ℕ) (own : List Signal) (on : List Conduct) → AreCharges island.shape.charge (left_charges island own on s) →
      (after : IslandState) → after ≡ next_island parts island now own on s → FitsIsland parts number after
  next-island_fits-of s fits island is now own on left after e =
      let same = get_or_from_slice_get parts.islands number island no_island is in
      subst (FitsIsland parts number) (sym (e ∙ ap (λ (i : Island). next_island parts i now own on s) (sym same)))
      (next-island_fits parts sound number lt own on s fits
      (subst (λ (i : Island). AreCharges i.shape.charge (left_charges i own on s)) (sym same) left) now)
