-- What soundness of a netlist says of an element, and states that fit it.
use Rattle.std.proofs.Common.{◌≡◌, ◌≢◌, ◌<◌, ℕ, Bool, true, false, cond, List, ◌++◌, length, refl, ap, subst, Some}
use Rattle.std.specs.Prelude.{Option, slice_get}
use Rattle.std.proofs.lemmas.Option.{slice_get_within, get_or_from_slice_get}
use Rattle.level_range.specs.Signal.{Signal}
use Rattle.delay_rule.specs.declared.inertia.Pending.{Pending}
use Rattle.flat_net.specs.declared.kinds.ElementKind.{ElementKind}
use Rattle.flat_net.specs.declared.kinds.ElementKind.TheVariants.{Fold, Enable, Mos, Udp, Copy, Constant, Pull, Tran, Tranif}
use Rattle.flat_net.specs.declared.parts.Element.{Element}
use Rattle.flat_net.specs.declared.parts.Parts.{Parts}
use Rattle.flat_net.specs.declared.kinds.Patch.{Patch}
use Rattle.flat_net.specs.Elements.{IsElement, end_nets, joins_ends}
use Rattle.flat_net.specs.Patches.{Netlist, IsNetlist}
use Rattle.flat_net.proofs.ElementDecisions.{all_right}
use Rattle.cell_step.specs.declared.states.ElementState.{ElementState}
use Rattle.cell_step.specs.Readings.{AreNetsOf, element_at, no_element}
use Rattle.cell_step.specs.Elements.{signal_of_kind, conduct_of_kind, remember_of_kind, aim_signal, aim_switch, next_element}
use Rattle.cell_step.specs.Fitting.{FitsKind}

-- the element of a number that the netlist has
pub element_at_is : (parts : Parts) (number : ℕ) (e : Element) → slice_get parts.elements number ≡ Some e → element_at parts number ≡ e
element_at_is parts number e is = get_or_from_slice_get parts.elements number e no_element is

pub element_is : (netlist : Netlist) (number : ℕ) (e : Element) → IsNetlist netlist → slice_get netlist.parts.elements number ≡ Some e →
    IsElement (length netlist.parts.nets) netlist.parts.udps e
element_is netlist number e sound is =
    subst (IsElement (length netlist.parts.nets) netlist.parts.udps) (element_at_is netlist.parts number e is)
    (sound.sound.cells.elements number no_element (slice_get_within netlist.parts.elements number e is))

-- the inputs of an element are on nets of the netlist
pub ins_within : (netlist : Netlist) (number : ℕ) (e : Element) → IsNetlist netlist → slice_get netlist.parts.elements number ≡ Some e →
    AreNetsOf netlist.parts e.ins
ins_within netlist number e sound is =
    all_right (λ net. net < length netlist.parts.nets) (end_nets e.ends ++ e.outs) e.ins (element_is netlist number e sound is).nets

-- whether a state fits doesn't depend on what is pending
pub fits_due : (parts : Parts) (kind : ElementKind) (s : ElementState) (due : Option (Pending Signal)) → FitsKind parts kind s →
    FitsKind parts kind (record s { due = due })
fits_due parts (Udp number) s due fits = fits
fits_due parts (Fold kind) s due fits = tt
fits_due parts (Enable kind) s due fits = tt
fits_due parts (Mos on_one resistive) s due fits = tt
fits_due parts Copy s due fits = tt
fits_due parts (Constant v) s due fits = tt
fits_due parts (Pull v) s due fits = tt
fits_due parts Tran s due fits = tt
fits_due parts (Tranif on_one) s due fits = tt

-- the next state of a bidirectional switch and of any other element
pub next_switch : (parts : Parts) (e : Element) (patch : Patch) (now : ℕ) (ins : List Signal) (s : ElementState) → joins_ends e.kind ≡ true →
    next_element parts e patch now ins s ≡ aim_switch e now (conduct_of_kind e.kind patch ins) s
unfolding next_element
next_switch parts e patch now ins s is =
    ap (λ b. cond b (aim_switch e now (conduct_of_kind e.kind patch ins) s)
    (aim_signal e now (signal_of_kind parts e.kind e.s0 e.s1 patch s ins) (remember_of_kind parts e.kind ins s))) is

pub next_other : (parts : Parts) (e : Element) (patch : Patch) (now : ℕ) (ins : List Signal) (s : ElementState) → joins_ends e.kind ≡ false →
    next_element parts e patch now ins s
    ≡ aim_signal e now (signal_of_kind parts e.kind e.s0 e.s1 patch s ins) (remember_of_kind parts e.kind ins s)
unfolding next_element
next_other parts e patch now ins s is =
    ap (λ b. cond b (aim_switch e now (conduct_of_kind e.kind patch ins) s)
    (aim_signal e now (signal_of_kind parts e.kind e.s0 e.s1 patch s ins) (remember_of_kind parts e.kind ins s))) is

pub joins_no_ends : (kind : ElementKind) → kind ≢ Tran → ((on_one : Bool) → kind ≢ Tranif on_one) → joins_ends kind ≡ false
joins_no_ends (Udp number) a b = refl
joins_no_ends (Fold kind) a b = refl
joins_no_ends (Enable kind) a b = refl
joins_no_ends (Mos on_one resistive) a b = refl
joins_no_ends Copy a b = refl
joins_no_ends (Constant v) a b = refl
joins_no_ends (Pull v) a b = refl
joins_no_ends Tran a b = absurd (a refl)
joins_no_ends (Tranif on_one) a b = absurd (b on_one refl)
