-- What cells drive, read and aim at are signals, where what they read are.
use Rattle.std.proofs.Common.{◌≡◌, ℕ, zero, suc, ◌<◌, ◌≤◌, Bool, true, false, cond, List, [], ◌∷◌, length, refl, ap, sym, ◌∙◌, subst, arith, inl, inr}
use Rattle.std.specs.Prelude.{ℤ, pos, negsuc, ◌≤ℤ◌, All, Option, Some, None, nat_eq, filter, slice_index_or}
use Rattle.std.specs.List.{range_with_len}
use Rattle.std.proofs.lemmas.Int.{ints}
use Rattle.std.proofs.lemmas.List.Elements.{All-nil, All-cons, All-map}
use Rattle.level_range.specs.declared.range.Logic.{Logic}
use Rattle.level_range.specs.declared.range.Logic.TheVariants as value
use Rattle.level_range.specs.declared.range.Conduct.{Conduct}
use Rattle.level_range.specs.declared.range.Conduct.TheVariants.{On, Off, Unknown}
use Rattle.level_range.specs.Signal.{Signal, IsSignal, undriven, negative_level, span_of}
use Rattle.level_range.specs.Combine.{combination_of}
use Rattle.level_range.specs.Reduce.{reduction_of, hull_with_z}
use Rattle.level_range.proofs.Reduction.{undriven-is, reduced_level-monotone, reduced_level-low, reduced_level-high}
use Rattle.level_range.proofs.Combination.{combination-law}
use Rattle.logic_tables.specs.declared.kinds.EnableOut.{EnableOut}
use Rattle.logic_tables.specs.declared.kinds.EnableOut.TheVariants as out
use Rattle.logic_tables.specs.Enable.{enable_span_of}
use Rattle.delay_rule.specs.declared.inertia.Pending.{Pending}
use Rattle.delay_rule.specs.Inertia.{is_pending, pending_after, same_signal}
use Rattle.net_settle.specs.Conditions.{IsCharge}
use Rattle.net_settle.proofs.Signals.{signal_is}
use Rattle.flat_net.specs.declared.kinds.Patch.{Patch}
use Rattle.flat_net.specs.declared.kinds.Patch.TheVariants.{Whole, NetStuck, InStuck, OutStuck, Open, Closed}
use Rattle.flat_net.specs.declared.kinds.ElementKind.{ElementKind}
use Rattle.flat_net.specs.declared.kinds.ElementKind.TheVariants.{Fold, Enable, Mos, Udp, Copy, Constant, Pull, Tran, Tranif}
use Rattle.flat_net.specs.declared.kinds.NetKind.{NetKind}
use Rattle.flat_net.specs.declared.kinds.NetKind.TheVariants.{Wire, And, Or, Tri0, Tri1, Supply0, Supply1, Trireg}
use Rattle.flat_net.specs.declared.parts.Drive.{Drive}
use Rattle.flat_net.specs.declared.parts.Element.{Element}
use Rattle.flat_net.specs.declared.parts.Island.{Island}
use Rattle.flat_net.specs.declared.parts.Parts.{Parts}
use Rattle.flat_net.specs.Islands.{combination_kind}
use Rattle.cell_step.specs.declared.states.ElementState.{ElementState}
use Rattle.cell_step.specs.Readings.{Readings, net_at}
use Rattle.cell_step.specs.Elements.{bit_value, stuck_signal, input_stuck, pin_signal, signals_from, input_signals, input_at, mos_signal, signal_of_kind, start_signal, start_value, drive_at}
use Rattle.cell_step.specs.Islands.{own_driver, drives_at, drivers, driver_signal, net_stuck, unless_stuck, own_signal, own_signals}
use Rattle.cell_step.specs.Fitting.{IsSignalPending}

-- all that cells read are signals
pub record AreReadings (r : Readings) : Type 0 where
  pub drive : (element pin : ℕ) → IsSignal (r.drive element pin)
  pub seen : (net : ℕ) → IsSignal (r.seen net)
  pub input : (net : ℕ) → IsSignal (r.input net)

negative-low : (n : ℕ) → n ≤ 7 → negsuc 6 ≤ℤ negative_level n
negative-low zero le = grind (arith, ints)
negative-low (suc k) le = grind (arith, ints)

negative-high : (n : ℕ) → negative_level n ≤ℤ pos 0
negative-high zero = grind (arith, ints)
negative-high (suc k) = grind (arith, ints)

pub span-signal : (v : Logic) (s0 s1 : ℕ) → s0 ≤ 7 → s1 ≤ 7 → IsSignal (span_of v s0 s1)
span-signal value.Zero s0 s1 a b = let l = negative-low s0 a in let h = negative-high s0 in
    record { low = l; order = grind (arith, ints); high = grind (arith, ints) }
span-signal value.One s0 s1 a b = record { low = grind (arith, ints); order = grind (arith, ints); high = grind (arith, ints) }
span-signal value.X s0 s1 a b = let l = negative-low s0 a in let h = negative-high s0 in
    record { low = l; order = grind (arith, ints); high = grind (arith, ints) }
span-signal value.Z s0 s1 a b = undriven-is

enable-signal : (o : EnableOut) (s0 s1 : ℕ) → s0 ≤ 7 → s1 ≤ 7 → IsSignal (enable_span_of o s0 s1)
enable-signal out.Zero s0 s1 a b = span-signal value.Zero s0 s1 a b
enable-signal out.One s0 s1 a b = span-signal value.One s0 s1 a b
enable-signal out.X s0 s1 a b = span-signal value.X s0 s1 a b
enable-signal out.Z s0 s1 a b = undriven-is
enable-signal out.L s0 s1 a b = let l = negative-low s0 a in let h = negative-high s0 in
    record { low = l; order = h; high = grind (arith, ints) }
enable-signal out.H s0 s1 a b = record { low = grind (arith, ints); order = grind (arith, ints); high = grind (arith, ints) }

reduction-signal : (resistive : Bool) (s : Signal) → IsSignal s → IsSignal (reduction_of resistive s)
reduction-signal resistive s is = record {
  low = reduced_level-low resistive s.lo is.low;
  order = reduced_level-monotone resistive s.lo s.hi is.order;
  high = reduced_level-high resistive s.hi is.high;
}

hull-signal : (s : Signal) → IsSignal s → IsSignal (hull_with_z s)
hull-signal s is = let l = is.low in let o = is.order in let h = is.high in
    record { low = grind (arith, ints); order = grind (arith, ints); high = grind (arith, ints) }

mos-is_signal : (on : Conduct) (s : Signal) → IsSignal s → IsSignal (mos_signal on s)
mos-is_signal On s is = is
mos-is_signal Off s is = undriven-is
mos-is_signal Unknown s is = hull-signal s is

pub stuck-signal : (strength : ℕ) (v : Bool) → strength ≤ 7 → IsSignal (stuck_signal strength v)
stuck-signal strength v le = span-signal (bit_value v) strength strength le le

pin-is_signal : (r : Readings) → AreReadings r → (stuck : Option Bool) (net : ℕ) → IsSignal (pin_signal r stuck net)
pin-is_signal r are (Some v) net = stuck-signal 6 v (omega arith)
pin-is_signal r are None net = are.seen net

signals_from-are : (r : Readings) → AreReadings r → (patch : Patch) (number : ℕ) (nets : List ℕ) → All IsSignal (signals_from r patch number nets)
signals_from-are r are patch number [] = All-nil IsSignal
signals_from-are r are patch number (net ∷ nets) =
    All-cons IsSignal _ _ (pin-is_signal r are (input_stuck patch number) net) (signals_from-are r are patch (suc number) nets)

pub input_signals-are : (r : Readings) → AreReadings r → (patch : Patch) (e : Element) → All IsSignal (input_signals r patch e)
unfolding input_signals
input_signals-are r are patch e = signals_from-are r are patch _ e.ins

pub signal_of_kind-is : (parts : Parts) (kind : ElementKind) (s0 s1 : ℕ) (patch : Patch) (s : ElementState) (ins : List Signal) →
    s0 ≤ 7 → s1 ≤ 7 → All IsSignal ins → IsSignal (signal_of_kind parts kind s0 s1 patch s ins)
signal_of_kind-is parts (Fold kind) s0 s1 patch s ins a b are = span-signal _ s0 s1 a b
signal_of_kind-is parts (Enable kind) s0 s1 patch s ins a b are = enable-signal _ s0 s1 a b
signal_of_kind-is parts (Mos on_one resistive) s0 s1 patch s ins a b are =
    mos-is_signal _ _ (reduction-signal resistive (input_at ins 0) (signal_is ins are 0))
signal_of_kind-is parts (Udp number) s0 s1 patch s ins a b are = span-signal _ s0 s1 a b
signal_of_kind-is parts Copy s0 s1 patch s ins a b are = span-signal _ s0 s1 a b
signal_of_kind-is parts (Constant v) s0 s1 patch s ins a b are = span-signal v s0 s1 a b
signal_of_kind-is parts (Pull v) s0 s1 patch s ins a b are = span-signal (bit_value v) s0 s1 a b
signal_of_kind-is parts Tran s0 s1 patch s ins a b are = undriven-is
signal_of_kind-is parts (Tranif on_one) s0 s1 patch s ins a b are = undriven-is

pub start_signal-is : (parts : Parts) (kind : ElementKind) (s0 s1 : ℕ) → s0 ≤ 7 → s1 ≤ 7 → IsSignal (start_signal parts kind s0 s1)
start_signal-is parts (Mos on_one true) s0 s1 a b = span-signal value.X 5 5 (omega arith) (omega arith)
start_signal-is parts (Mos on_one false) s0 s1 a b = span-signal value.X 6 6 (omega arith) (omega arith)
start_signal-is parts (Fold kind) s0 s1 a b = span-signal value.X s0 s1 a b
start_signal-is parts (Enable kind) s0 s1 a b = span-signal value.X s0 s1 a b
start_signal-is parts (Udp number) s0 s1 a b = span-signal _ s0 s1 a b
start_signal-is parts Copy s0 s1 a b = span-signal value.X s0 s1 a b
start_signal-is parts (Constant v) s0 s1 a b = span-signal v s0 s1 a b
start_signal-is parts (Pull v) s0 s1 a b = span-signal (bit_value v) s0 s1 a b
start_signal-is parts Tran s0 s1 a b = undriven-is
start_signal-is parts (Tranif on_one) s0 s1 a b = undriven-is

pub drive_at-is : (patch : Patch) (pin : ℕ) (s : ElementState) → IsSignal s.out → IsSignal (drive_at patch pin s)
drive_at-is (OutStuck stuck v) pin s is = by_test (nat_eq stuck pin)
  where
    by_test : (b : Bool) → IsSignal (cond b (stuck_signal 6 v) s.out)
    by_test true = stuck-signal 6 v (omega arith)
    by_test false = is
drive_at-is Open pin s is = undriven-is
drive_at-is Closed pin s is = is
drive_at-is Whole pin s is = is
drive_at-is (NetStuck net v) pin s is = is
drive_at-is (InStuck input v) pin s is = is

pub own_driver-is : (kind : NetKind) → IsSignal (own_driver kind)
own_driver-is Tri0 = record { low = grind (arith, ints); order = grind (arith, ints); high = grind (arith, ints) }
own_driver-is Tri1 = record { low = grind (arith, ints); order = grind (arith, ints); high = grind (arith, ints) }
own_driver-is Supply0 = record { low = grind (arith, ints); order = grind (arith, ints); high = grind (arith, ints) }
own_driver-is Supply1 = record { low = grind (arith, ints); order = grind (arith, ints); high = grind (arith, ints) }
own_driver-is Wire = undriven-is
own_driver-is And = undriven-is
own_driver-is Or = undriven-is
own_driver-is Trireg = undriven-is

pub drivers-are : (r : Readings) → AreReadings r → (island : Island) (kind : NetKind) (net place : ℕ) → All IsSignal (drivers r island kind net place)
drivers-are r are island kind net place =
    let at_place = filter (λ (drive : Drive). nat_eq drive.place place) island.drives in
    All-cons IsSignal (own_driver kind) (r.input net ∷ drives_at r island.drives place) (own_driver-is kind)
    (All-cons IsSignal (r.input net) (drives_at r island.drives place) (are.input net)
    (All-map IsSignal (λ (drive : Drive). r.drive drive.element drive.pin) at_place
    (λ k d lt. are.drive (slice_index_or at_place k d).element (slice_index_or at_place k d).pin)))

unless_stuck-is : (stuck : Option Bool) (s : Signal) → IsSignal s → IsSignal (unless_stuck stuck s)
unless_stuck-is (Some v) s is = stuck-signal 7 v (omega arith)
unless_stuck-is None s is = is

pub own_signal-is : (parts : Parts) (r : Readings) → AreReadings r → (patch : Patch) (island : Island) (place : ℕ) → IsSignal (own_signal parts r patch island place)
own_signal-is parts r are patch island place =
    let net = slice_index_or island.nets place 0 in
    let kind = (net_at parts net).kind in
    unless_stuck-is (net_stuck patch net) (driver_signal r island kind net place)
    ((combination-law (combination_kind kind)).signal (drivers r island kind net place) (drivers-are r are island kind net place))

pub own_signals-are : (parts : Parts) (r : Readings) → AreReadings r → (patch : Patch) (island : Island) → All IsSignal (own_signals parts r patch island)
own_signals-are parts r are patch island =
    All-map IsSignal (own_signal parts r patch island) (range_with_len 0 (length island.nets))
    (λ k d lt. own_signal-is parts r are patch island (slice_index_or (range_with_len 0 (length island.nets)) k d))

-- a charge of a level is a signal
pub charge-signal : (c : ℕ) (s : Signal) → c ≤ 7 → IsCharge c s → IsSignal s
charge-signal c s le (inl e) = subst IsSignal (sym e) (span-signal value.Zero c c le le)
charge-signal c s le (inr (inl e)) = subst IsSignal (sym e) (span-signal value.One c c le le)
charge-signal c s le (inr (inr e)) = subst IsSignal (sym e) (span-signal value.X c c le le)

-- a pending signal after a target
pub pending-after : (present : Signal) (pending : Option (Pending Signal)) (target : Signal) (tick : ℕ) →
    IsSignalPending pending → IsSignal target → IsSignalPending (pending_after same_signal present pending target tick)
pending-after present pending target tick waits aims = by_tests (is_pending same_signal pending target) (same_signal target present)
  where
    by_tests : (a b : Bool) → IsSignalPending (cond a pending (cond b None (Some (record { value = target; at = tick }))))
    by_tests true b = waits
    by_tests false true = cc
    by_tests false false = aims
