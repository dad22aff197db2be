-- What the clauses of the code repeat; for the code alone.
use Rattle.std.specs.Prelude.{◌≡◌, ◌≢◌, ℕ, ◌<◌, Bool, List, length, slice_index, slice_index_or, Option, None}
use Rattle.level_range.specs.declared.range.Logic.{Logic}
use Rattle.gate_net.specs.declared.netlist.Gate.{Gate}
use Rattle.gate_net.specs.declared.netlist.Netlist.{Netlist}
use Rattle.first_machine.specs.Machine.{Machine}
use Rattle.first_machine.specs.Pass.{is_due, no_gate}
use Rattle.first_machine.specs.Shown.{Values, AreShown, logic_at, next_value}
use Rattle.first_machine.specs.Places.{IsPlace}

-- each listed net has its value
abbrev pub HaveValues : List ℕ → List Logic → List Logic → Type 0
HaveValues nets values seen = (k : ℕ) → k < length nets → logic_at seen (slice_index nets k) ≡ logic_at values k

-- nets that aren't listed keep theirs
abbrev pub OthersKeep : List ℕ → List Logic → List Logic → Type 0
OthersKeep nets before after =
    (n : ℕ) → ((k : ℕ) → k < length nets → slice_index nets k ≢ n) → logic_at after n ≡ logic_at before n

-- the output net of each gate has the gate's value
abbrev pub HaveOutputs : List Gate → List Logic → List Logic → Type 0
HaveOutputs gates values seen =
    (k : ℕ) → k < length gates → logic_at seen (slice_index_or gates k no_gate).output ≡ logic_at values k

-- nets that are no output keep theirs
abbrev pub UndrivenKeep : List Gate → List Logic → List Logic → Type 0
UndrivenKeep gates before after =
    (n : ℕ) → ((k : ℕ) → k < length gates → (slice_index_or gates k no_gate).output ≢ n) → logic_at after n ≡ logic_at before n

-- the targets are what the gates give for what is seen
abbrev pub AreTargets : List Gate → List Logic → List Logic → Type 0
AreTargets gates seen targets =
    (k : ℕ) → k < length gates → logic_at targets k ≡ next_value (slice_index_or gates k no_gate) seen

-- where values stand for a machine, others stand for what becomes of it
abbrev pub ShowsAfter : Netlist → Values → Values → (Machine → Machine) → Type 0
ShowsAfter netlist before after change = (m : Machine) → AreShown netlist before m → AreShown netlist after (change m)

-- and whether something is due in it is told
abbrev pub TellsDue : Netlist → Values → Bool → (Machine → Machine) → Type 0
TellsDue netlist before due change = (m : Machine) → AreShown netlist before m → is_due (change m) ≡ due

-- nets have the places at which they are listed
abbrev pub ArePlaces : List ℕ → ℕ → List (Option ℕ) → Type 0
ArePlaces listed count places = (n : ℕ) → n < count → IsPlace listed (length listed) n (slice_index_or places n None)
