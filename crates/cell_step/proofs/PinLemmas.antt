-- The signals at the input pins of an element, place by place.
use Rattle.std.proofs.Common.{◌≡◌, ◌<◌, ℕ, zero, suc, ◌+◌, List, [], ◌∷◌, length, get_or, refl, ap, ◌∙◌, arith}
use Rattle.level_range.specs.Signal.{undriven}
use Rattle.flat_net.specs.declared.kinds.Patch.{Patch}
use Rattle.flat_net.specs.declared.parts.Element.{Element}
use Rattle.flat_net.specs.Patches.{first_input}
use Rattle.cell_step.specs.Readings.{Readings}
use Rattle.cell_step.specs.Elements.{pin_signal, input_stuck, signals_from, input_signals, input_at}

signals_from-length : (r : Readings) (patch : Patch) (number : ℕ) (nets : List ℕ) → length (signals_from r patch number nets) ≡ length nets
signals_from-length r patch number [] = refl
signals_from-length r patch number (net ∷ nets) = ap suc (signals_from-length r patch (suc number) nets)

signals_from-at : (r : Readings) (patch : Patch) (number : ℕ) (nets : List ℕ) (k : ℕ) → k < length nets →
    get_or (signals_from r patch number nets) k undriven ≡ pin_signal r (input_stuck patch (number + k)) (get_or nets k 0)
signals_from-at r patch number [] k lt = absurd (omega arith)
signals_from-at r patch number (net ∷ nets) zero lt =
    let e : number ≡ number + 0 = omega arith in
    ap (λ n. pin_signal r (input_stuck patch n) net) e
signals_from-at r patch number (net ∷ nets) (suc k) lt =
    let e : suc number + k ≡ number + suc k = omega arith in
    signals_from-at r patch (suc number) nets k (omega arith) ∙ ap (λ n. pin_signal r (input_stuck patch n) (get_or nets k 0)) e

-- there is a signal for each input pin
pub input_signals_length : (r : Readings) (patch : Patch) (e : Element) → length (input_signals r patch e) ≡ length e.ins
unfolding input_signals
input_signals_length r patch e = signals_from-length r patch (first_input e) e.ins

-- the signal at the input pin at a place
pub input_at_is : (r : Readings) (patch : Patch) (e : Element) (k : ℕ) → k < length e.ins →
    input_at (input_signals r patch e) k ≡ pin_signal r (input_stuck patch (first_input e + k)) (get_or e.ins k 0)
unfolding input_signals
input_at_is r patch e k lt = signals_from-at r patch (first_input e) e.ins k lt
