-- What an element's part in a pass, its maturing and its start keep: its state fits, and its signals are signals.
use Rattle.std.proofs.Common.{◌≡◌, ◌≢◌, ℕ, suc, ◌<◌, ◌≤◌, Bool, true, false, cond, List, [], ◌∷◌, ◌++◌, length, take, drop, refl, ap, sym, ◌∙◌, subst, arith}
use Rattle.std.specs.Prelude.{All, Option, Some, None, map, replicate, nat_le, slice_index_or}
use Rattle.std.proofs.lemmas.List.{length-map, length-append, length-drop, length-replicate}
use Rattle.std.proofs.lemmas.List.Elements.{All-map, All-replicate, All-take}
use Rattle.level_range.specs.declared.range.Logic.{Logic}
use Rattle.level_range.specs.declared.range.Logic.TheVariants as value
use Rattle.level_range.specs.Signal.{Signal, IsSignal, reads}
use Rattle.delay_rule.specs.declared.inertia.Pending.{Pending}
use Rattle.delay_rule.specs.Delay.{due}
use Rattle.udp_table.specs.Primitive.{Primitive, IsAccepted}
use Rattle.udp_table.specs.LookUp.{level_value}
use Rattle.udp_table.proofs.Known.{state_after-known}
use Rattle.flat_net.specs.declared.kinds.Patch.{Patch}
use Rattle.flat_net.specs.declared.kinds.ElementKind.{ElementKind}
use Rattle.flat_net.specs.declared.kinds.ElementKind.TheVariants.{Fold, Enable, Mos, Udp, Copy, Constant, Pull, Tran, Tranif}
use Rattle.flat_net.specs.declared.parts.Element.{Element}
use Rattle.flat_net.specs.declared.parts.Parts.{Parts}
use Rattle.flat_net.specs.Elements.{joins_ends}
use Rattle.flat_net.specs.Soundness.{IsSound}
use Rattle.cell_step.specs.declared.states.ElementState.{ElementState}
use Rattle.cell_step.specs.Readings.{Readings, element_at, primitive_at}
use Rattle.cell_step.specs.Changes.{mature_value, mature_due, mature_element}
use Rattle.cell_step.specs.Elements.{known, primitive_inputs, primitive_value, remember, remember_of_kind, signals_from, input_signals, signal_of_kind, conduct_of_kind, aim_signal, aim_switch, next_element, element_after, start_state, start_value, element_start}
use Rattle.cell_step.specs.Fitting.{HasAcceptedPrimitives, IsKnown, FitsKind, FitsElement, IsSignalPending, HasElementSignals}
use Rattle.cell_step.proofs.ElementStillness.{HasWidth, take_front, next_element-again}
use Rattle.cell_step.proofs.Facts.{HasAccepted, element-is, primitive-width, primitive-accepted}
use Rattle.cell_step.proofs.Signals.{AreReadings, input_signals-are, signal_of_kind-is, start_signal-is, pending-after}

signals_from-length : (r : Readings) (patch : Patch) (number : ℕ) (nets : List ℕ) → length (signals_from r patch number nets) ≡ length nets
signals_from-length r patch number [] = refl
signals_from-length r patch number (net ∷ nets) = ap suc (signals_from-length r patch (suc number) nets)

pub input_signals-length : (r : Readings) (patch : Patch) (e : Element) → length (input_signals r patch e) ≡ length e.ins
unfolding input_signals
input_signals-length r patch e = signals_from-length r patch _ e.ins

-- the part in a pass done again
pub element_after-again : (parts : Parts) (sound : IsSound parts) (number : ℕ) (patch : Patch) (now later : ℕ) (r : Readings) (s : ElementState) →
    number < length parts.elements →
    element_after parts number patch later r (element_after parts number patch now r s) ≡ element_after parts number patch now r s
element_after-again parts sound number patch now later r s lt =
    let e = element_at parts number in
    next_element-again parts e patch now later (input_signals r patch e) s
    (subst (HasWidth parts e.kind) (sym (input_signals-length r patch e)) (primitive-width parts sound number lt))

known-some : (v : Logic) → known v ≢ value.Z
known-some value.Zero = λ e. cc
known-some value.One = λ e. cc
known-some value.X = λ e. cc
known-some value.Z = λ e. cc

module _ (udp : Primitive) (ins : List Logic) (s : ElementState) where
  remember-out : (remember udp ins s).out ≡ s.out
  unfolding remember
  remember-out = by_test udp.sequential
    where
      by_test : (b : Bool) → (cond b (record s { state = primitive_value udp s ins; seen = ins ++ drop (length ins) s.seen }) s).out ≡ s.out
      by_test true = refl
      by_test false = refl

  remember-on : (remember udp ins s).on ≡ s.on
  unfolding remember
  remember-on = by_test udp.sequential
    where
      by_test : (b : Bool) → (cond b (record s { state = primitive_value udp s ins; seen = ins ++ drop (length ins) s.seen }) s).on ≡ s.on
      by_test true = refl
      by_test false = refl

  remember-due : (remember udp ins s).due ≡ s.due
  unfolding remember
  remember-due = by_test udp.sequential
    where
      by_test : (b : Bool) → (cond b (record s { state = primitive_value udp s ins; seen = ins ++ drop (length ins) s.seen }) s).due ≡ s.due
      by_test true = refl
      by_test false = refl

  remember-seen : length ins ≤ length s.seen → length (remember udp ins s).seen ≡ length s.seen
  unfolding remember
  remember-seen few = by_test udp.sequential
    where
      by_test : (b : Bool) → length (cond b (record s { state = primitive_value udp s ins; seen = ins ++ drop (length ins) s.seen }) s).seen ≡ length s.seen
      by_test true = let a = length-append ins (drop (length ins) s.seen) in let d = length-drop (length ins) s.seen in omega arith
      by_test false = refl

  value-known : udp.sequential ≡ true → s.state ≢ value.Z → primitive_value udp s ins ≢ value.Z
  unfolding primitive_value
  value-known e state = rw e (state_after-known udp.rows [] (take udp.inputs s.seen) ins s.state state)

  remember-known : length ins ≡ udp.inputs → All (λ v. v ≢ value.Z) ins → IsKnown udp s → IsKnown udp (remember udp ins s)
  unfolding remember
  remember-known width are was e =
      subst (λ (x : ElementState). (x.state ≢ value.Z) × All (λ v. v ≢ value.Z) (take udp.inputs x.seen)) (sym same) (
        value-known e (was e).0,
        subst (All (λ v. v ≢ value.Z)) (sym (take_front udp.inputs ins (drop (length ins) s.seen) width)) are,
      )
    where
      same : cond udp.sequential (record s { state = primitive_value udp s ins; seen = ins ++ drop (length ins) s.seen }) s
          ≡ record s { state = primitive_value udp s ins; seen = ins ++ drop (length ins) s.seen }
      same = ap (λ b. cond b (record s { state = primitive_value udp s ins; seen = ins ++ drop (length ins) s.seen }) s) e

-- a state fits by its remembered parts
fits-like : (parts : Parts) (kind : ElementKind) (s t : ElementState) → s.state ≡ t.state → s.seen ≡ t.seen → FitsKind parts kind s → FitsKind parts kind t
fits-like parts (Udp number) s t state seen fits = λ e.
    let known_parts = fits e in (
      subst (λ v. v ≢ value.Z) state known_parts.0,
      subst (λ l. All (λ v. v ≢ value.Z) (take (primitive_at parts number).inputs l)) seen known_parts.1,
    )
fits-like parts (Fold kind) s t state seen fits = cc
fits-like parts (Enable kind) s t state seen fits = cc
fits-like parts (Mos on_one resistive) s t state seen fits = cc
fits-like parts Copy s t state seen fits = cc
fits-like parts (Constant v) s t state seen fits = cc
fits-like parts (Pull v) s t state seen fits = cc
fits-like parts Tran s t state seen fits = cc
fits-like parts (Tranif on_one) s t state seen fits = cc

start-known : (udp : Primitive) → IsAccepted udp → cond udp.sequential udp.start value.X ≢ value.Z
start-known udp accepted = by_test udp.sequential
  where
    by_test : (b : Bool) → cond b udp.start value.X ≢ value.Z
    by_test true = accepted.start
    by_test false = λ e. cc

start-fits : (parts : Parts) (number : ℕ) (patch : Patch) (kind : ElementKind) → (element_at parts number).kind ≡ kind → HasAccepted parts kind →
    FitsKind parts (element_at parts number).kind (element_start parts number patch)
start-fits parts number patch kind is accepted =
    subst (λ k. FitsKind parts k (element_start parts number patch)) (sym is)
    (by_kind kind (ap (start_state parts) is) accepted)
  where
    by_kind : (kind : ElementKind) → (element_start parts number patch).state ≡ start_state parts kind → HasAccepted parts kind →
        FitsKind parts kind (element_start parts number patch)
    by_kind (Udp k) state accepted = λ e. (
      subst (λ v. v ≢ value.Z) (sym state) (start-known (primitive_at parts k) accepted),
      All-take (λ v. v ≢ value.Z) (primitive_at parts k).inputs (replicate 10 value.X) (All-replicate (λ v. v ≢ value.Z) 10 value.X (λ e. cc)),
    )
    by_kind (Fold kind) state accepted = cc
    by_kind (Enable kind) state accepted = cc
    by_kind (Mos on_one resistive) state accepted = cc
    by_kind Copy state accepted = cc
    by_kind (Constant v) state accepted = cc
    by_kind (Pull v) state accepted = cc
    by_kind Tran state accepted = cc
    by_kind (Tranif on_one) state accepted = cc

module _ (parts : Parts) (ins : List Signal) (s : ElementState) where
  memory-out : (kind : ElementKind) → (remember_of_kind parts kind ins s).out ≡ s.out
  memory-out (Udp number) = remember-out (primitive_at parts number) (primitive_inputs ins) s
  memory-out (Fold kind) = refl
  memory-out (Enable kind) = refl
  memory-out (Mos on_one resistive) = refl
  memory-out Copy = refl
  memory-out (Constant v) = refl
  memory-out (Pull v) = refl
  memory-out Tran = refl
  memory-out (Tranif on_one) = refl

  memory-on : (kind : ElementKind) → (remember_of_kind parts kind ins s).on ≡ s.on
  memory-on (Udp number) = remember-on (primitive_at parts number) (primitive_inputs ins) s
  memory-on (Fold kind) = refl
  memory-on (Enable kind) = refl
  memory-on (Mos on_one resistive) = refl
  memory-on Copy = refl
  memory-on (Constant v) = refl
  memory-on (Pull v) = refl
  memory-on Tran = refl
  memory-on (Tranif on_one) = refl

  memory-due : (kind : ElementKind) → (remember_of_kind parts kind ins s).due ≡ s.due
  memory-due (Udp number) = remember-due (primitive_at parts number) (primitive_inputs ins) s
  memory-due (Fold kind) = refl
  memory-due (Enable kind) = refl
  memory-due (Mos on_one resistive) = refl
  memory-due Copy = refl
  memory-due (Constant v) = refl
  memory-due (Pull v) = refl
  memory-due Tran = refl
  memory-due (Tranif on_one) = refl

  memory-fits : (kind : ElementKind) → HasWidth parts kind (length ins) → HasAccepted parts kind → length s.seen ≡ 10 → FitsKind parts kind s →
      (length (remember_of_kind parts kind ins s).seen ≡ 10) × FitsKind parts kind (remember_of_kind parts kind ins s)
  memory-fits (Udp number) width few ten fits =
      let udp = primitive_at parts number in
      let long = length-map ins (λ v. known (reads v)) in
      let most = few.inputs.1 in (
        remember-seen udp (primitive_inputs ins) s (omega arith) ∙ ten,
        remember-known udp (primitive_inputs ins) s (long ∙ width)
            (All-map (λ v. v ≢ value.Z) (λ v. known (reads v)) ins (λ k d lt. known-some (reads (slice_index_or ins k d)))) fits,
      )
  memory-fits (Fold kind) width few ten fits = (ten, fits)
  memory-fits (Enable kind) width few ten fits = (ten, fits)
  memory-fits (Mos on_one resistive) width few ten fits = (ten, fits)
  memory-fits Copy width few ten fits = (ten, fits)
  memory-fits (Constant v) width few ten fits = (ten, fits)
  memory-fits (Pull v) width few ten fits = (ten, fits)
  memory-fits Tran width few ten fits = (ten, fits)
  memory-fits (Tranif on_one) width few ten fits = (ten, fits)

module _ (parts : Parts) (e : Element) (patch : Patch) (now : ℕ) (ins : List Signal) (s : ElementState) where
  -- outputs stay: what changes them is a change that takes effect
  pub next-out : (next_element parts e patch now ins s).out ≡ s.out
  unfolding next_element
  next-out = by_test (joins_ends e.kind)
    where
      by_test : (b : Bool) → (cond b (aim_switch e now (conduct_of_kind e.kind patch ins) s)
          (aim_signal e now (signal_of_kind parts e.kind e.s0 e.s1 patch s ins) (remember_of_kind parts e.kind ins s))).out ≡ s.out
      by_test true = refl
      by_test false = memory-out parts ins s e.kind

  pub next-on : (next_element parts e patch now ins s).on ≡ s.on
  unfolding next_element
  next-on = by_test (joins_ends e.kind)
    where
      by_test : (b : Bool) → (cond b (aim_switch e now (conduct_of_kind e.kind patch ins) s)
          (aim_signal e now (signal_of_kind parts e.kind e.s0 e.s1 patch s ins) (remember_of_kind parts e.kind ins s))).on ≡ s.on
      by_test true = refl
      by_test false = memory-on parts ins s e.kind

  next-due : e.s0 ≤ 7 → e.s1 ≤ 7 → All IsSignal ins → HasElementSignals s → IsSignalPending (next_element parts e patch now ins s).due
  unfolding next_element
  next-due a b are has = by_test (joins_ends e.kind)
    where
      memory : ElementState
      memory = remember_of_kind parts e.kind ins s

      by_test : (b : Bool) → IsSignalPending (cond b (aim_switch e now (conduct_of_kind e.kind patch ins) s)
          (aim_signal e now (signal_of_kind parts e.kind e.s0 e.s1 patch s ins) (remember_of_kind parts e.kind ins s))).due
      by_test true = has.due
      by_test false =
          pending-after _ _ _ _ (subst IsSignalPending (sym (memory-due parts ins s e.kind)) has.due)
          (signal_of_kind-is parts e.kind e.s0 e.s1 patch s ins a b are)

  pub next-signals : e.s0 ≤ 7 → e.s1 ≤ 7 → All IsSignal ins → HasElementSignals s → HasElementSignals (next_element parts e patch now ins s)
  next-signals a b are has = record { out = subst IsSignal (sym next-out) has.out; due = next-due a b are has }

  pub next-fits : HasWidth parts e.kind (length ins) → HasAccepted parts e.kind → length s.seen ≡ 10 → FitsKind parts e.kind s →
      (length (next_element parts e patch now ins s).seen ≡ 10) × FitsKind parts e.kind (next_element parts e patch now ins s)
  unfolding next_element
  next-fits width accepted ten fits = by_test (joins_ends e.kind)
    where
      by_test : (b : Bool) →
          (length (cond b (aim_switch e now (conduct_of_kind e.kind patch ins) s)
          (aim_signal e now (signal_of_kind parts e.kind e.s0 e.s1 patch s ins) (remember_of_kind parts e.kind ins s))).seen ≡ 10)
          × FitsKind parts e.kind (cond b (aim_switch e now (conduct_of_kind e.kind patch ins) s)
          (aim_signal e now (signal_of_kind parts e.kind e.s0 e.s1 patch s ins) (remember_of_kind parts e.kind ins s)))
      by_test true = (ten, fits-like parts e.kind s _ refl refl fits)
      by_test false =
          let memory = memory-fits parts ins s e.kind width accepted ten fits in
          (memory.0, fits-like parts e.kind (remember_of_kind parts e.kind ins s) _ refl refl memory.1)

module _ (parts : Parts) (sound : IsSound parts) (number : ℕ) (lt : number < length parts.elements) where
  pub element_after-signals : (patch : Patch) (now : ℕ) (r : Readings) (s : ElementState) → AreReadings r → HasElementSignals s →
      HasElementSignals (element_after parts number patch now r s)
  element_after-signals patch now r s are has =
      let e = element_at parts number in let strengths = (element-is parts sound number lt).strengths in
      next-signals parts e patch now (input_signals r patch e) s strengths.0 strengths.1 (input_signals-are r are patch e) has

  pub element_after-fits : HasAcceptedPrimitives parts → (patch : Patch) (now : ℕ) (r : Readings) (s : ElementState) → FitsElement parts number s →
      FitsElement parts number (element_after parts number patch now r s)
  element_after-fits all patch now r s fits =
      let e = element_at parts number in
      next-fits parts e patch now (input_signals r patch e) s
      (subst (HasWidth parts e.kind) (sym (input_signals-length r patch e)) (primitive-width parts sound number lt))
      (primitive-accepted parts sound all number lt) fits.0 fits.1

  pub element_start-signals : (patch : Patch) → HasElementSignals (element_start parts number patch)
  element_start-signals patch =
      let e = element_at parts number in let strengths = (element-is parts sound number lt).strengths in
      record { out = start_signal-is parts e.kind e.s0 e.s1 strengths.0 strengths.1; due = cc }

  pub element_start-fits : HasAcceptedPrimitives parts → (patch : Patch) → FitsElement parts number (element_start parts number patch)
  element_start-fits all patch =
      let e = element_at parts number in
      (length-replicate 10 value.X, start-fits parts number patch e.kind refl (primitive-accepted parts sound all number lt))

-- a change that takes effect
pub mature_value-is : (now : ℕ) (present : Signal) (pending : Option (Pending Signal)) → IsSignal present → IsSignalPending pending →
    IsSignal (mature_value now present pending)
mature_value-is now present None is waits = is
mature_value-is now present (Some change) is waits = by_test (nat_le change.at now)
  where
    by_test : (b : Bool) → IsSignal (cond b change.value present)
    by_test true = waits
    by_test false = is

pub mature_due-is : (now : ℕ) (pending : Option (Pending Signal)) → IsSignalPending pending → IsSignalPending (mature_due now pending)
mature_due-is now None waits = cc
mature_due-is now (Some change) waits = by_test (nat_le change.at now)
  where
    by_test : (b : Bool) → IsSignalPending (cond b None (Some change))
    by_test true = cc
    by_test false = waits

pub mature_element-signals : (now : ℕ) (s : ElementState) → HasElementSignals s → HasElementSignals (mature_element now s)
mature_element-signals now s has = record { out = mature_value-is now s.out s.due has.out has.due; due = mature_due-is now s.due has.due }

pub mature_element-fits : (parts : Parts) (number now : ℕ) (s : ElementState) → FitsElement parts number s → FitsElement parts number (mature_element now s)
mature_element-fits parts number now s fits = (fits.0, fits-like parts (element_at parts number).kind s _ refl refl fits.1)
