-- Elements: their start, what they read, drive and conduct, and their part in a pass, with their patches (IEEE 1364-2005,
-- clauses 7 and 8). The start and what patches do are this project's own.
use Rattle.std.specs.Prelude.{ℕ, suc, Bool, true, false, nat_eq, if◌then◌else◌, List, [], ◌∷◌, ◌++◌, length, map, take, drop, replicate, Option, Some, None, slice_index_or}
use Rattle.level_range.specs.declared.range.Logic.{Logic}
use Rattle.level_range.specs.declared.range.Logic.TheVariants as value
use Rattle.level_range.specs.declared.range.Conduct.{Conduct}
use Rattle.level_range.specs.declared.range.Conduct.TheVariants.{On, Off, Unknown}
use Rattle.level_range.specs.Signal.{Signal, undriven, reads, span_of}
use Rattle.level_range.specs.Reduce.{reduction_of, hull_with_z}
use Rattle.logic_tables.specs.Fold.{gate_value}
use Rattle.logic_tables.specs.Enable.{enable_of, enable_span_of, conduct_of}
use Rattle.delay_rule.specs.Delay.{due, switch_value}
use Rattle.delay_rule.specs.Inertia.{pending_after, same_signal, same_conduct}
use Rattle.udp_table.specs.Primitive.{Primitive}
use Rattle.udp_table.specs.LookUp.{level_value, state_after}
use Rattle.flat_net.specs.declared.kinds.Patch.{Patch}
use Rattle.flat_net.specs.declared.kinds.Patch.TheVariants.{Whole, NetStuck, InStuck, OutStuck, Open, Closed}
use Rattle.flat_net.specs.declared.kinds.ElementKind.{ElementKind}
use Rattle.flat_net.specs.declared.kinds.ElementKind.TheVariants.{Fold, Enable, Mos, Udp, Copy, Constant, Pull, Tran, Tranif}
use Rattle.flat_net.specs.declared.parts.Element.{Element}
use Rattle.flat_net.specs.declared.parts.Parts.{Parts}
use Rattle.flat_net.specs.Elements.{joins_ends}
use Rattle.flat_net.specs.Patches.{first_input}
use Rattle.cell_step.specs.declared.states.ElementState.{ElementState}
use Rattle.cell_step.specs.Readings.{Readings, element_at, primitive_at}

-- 1 or 0
abbrev pub bit_value : Bool → Logic
bit_value true = value.One
bit_value false = value.Zero

-- the signal of what is stuck at 1 or 0 with a strength
abbrev pub stuck_signal : ℕ → Bool → Signal
stuck_signal strength v = span_of (bit_value v) strength strength

-- at what an input pin is stuck, by the pin's number
abbrev pub input_stuck : Patch → ℕ → Option Bool
input_stuck (InStuck pin v) number = if nat_eq pin number then Some v else None
input_stuck Whole number = None
input_stuck (NetStuck net v) number = None
input_stuck (OutStuck pin v) number = None
input_stuck Open number = None
input_stuck Closed number = None

-- what an input pin on a net reads: a stuck one St0 or St1
abbrev pub pin_signal : Readings → Option Bool → ℕ → Signal
pin_signal r (Some v) net = stuck_signal 6 v
pin_signal r None net = r.seen net

-- what input pins on these nets read, whose numbers go up from one
abbrev pub signals_from : Readings → Patch → ℕ → List ℕ → List Signal
signals_from r patch number [] = []
signals_from r patch number (net ∷ nets) = pin_signal r (input_stuck patch number) net ∷ signals_from r patch (suc number) nets

-- what the input pins of an element read
unfoldable pub input_signals : Readings → Patch → Element → List Signal
input_signals r patch e = signals_from r patch (first_input e) e.ins

-- the signal at an input
abbrev pub input_at : List Signal → ℕ → Signal
input_at ins k = slice_index_or ins k undriven

-- an open switch never conducts, and a closed one always does
abbrev pub conduction : Patch → Conduct → Conduct
conduction Open on = Off
conduction Closed on = On
conduction Whole on = on
conduction (NetStuck net v) on = on
conduction (InStuck pin v) on = on
conduction (OutStuck pin v) on = on

-- what a MOS switch passes of its reduced data
abbrev pub mos_signal : Conduct → Signal → Signal
mos_signal On reduced = reduced
mos_signal Off reduced = undriven
mos_signal Unknown reduced = hull_with_z reduced

-- at a primitive's input z counts as x
abbrev pub known : Logic → Logic
known value.Zero = value.Zero
known value.One = value.One
known value.X = value.X
known value.Z = value.X

-- the values at a primitive's inputs
abbrev pub primitive_inputs : List Signal → List Logic
primitive_inputs ins = map (λ s. known (reads s)) ins

-- the value of a primitive: a sequential one goes on from its state and its remembered inputs
unfoldable pub primitive_value : Primitive → ElementState → List Logic → Logic
primitive_value udp s ins =
    if udp.sequential then state_after udp.rows [] (take udp.inputs s.seen) ins s.state
    else level_value udp.rows ins

-- what a sequential primitive remembers of these inputs: its state, and the inputs themselves
unfoldable pub remember : Primitive → List Logic → ElementState → ElementState
remember udp ins s =
    if udp.sequential then record s { state = primitive_value udp s ins; seen = ins ++ drop (length ins) s.seen }
    else s

-- the signal that an element aims at, by its kind and strengths
abbrev pub signal_of_kind : Parts → ElementKind → ℕ → ℕ → Patch → ElementState → List Signal → Signal
signal_of_kind parts (Fold kind) s0 s1 patch s ins = span_of (gate_value kind (map reads ins)) s0 s1
signal_of_kind parts (Enable kind) s0 s1 patch s ins =
    enable_span_of (enable_of kind (reads (input_at ins 0)) (reads (input_at ins 1))) s0 s1
signal_of_kind parts (Mos on_one resistive) s0 s1 patch s ins =
    mos_signal (conduction patch (conduct_of on_one (reads (input_at ins 1)))) (reduction_of resistive (input_at ins 0))
signal_of_kind parts (Udp number) s0 s1 patch s ins =
    span_of (primitive_value (primitive_at parts number) s (primitive_inputs ins)) s0 s1
signal_of_kind parts Copy s0 s1 patch s ins = span_of (reads (input_at ins 0)) s0 s1
signal_of_kind parts (Constant v) s0 s1 patch s ins = span_of v s0 s1
signal_of_kind parts (Pull v) s0 s1 patch s ins = span_of (bit_value v) s0 s1
signal_of_kind parts Tran s0 s1 patch s ins = undriven
signal_of_kind parts (Tranif on_one) s0 s1 patch s ins = undriven

-- what a bidirectional switch is to conduct
abbrev pub conduct_of_kind : ElementKind → Patch → List Signal → Conduct
conduct_of_kind (Tranif on_one) patch ins = conduction patch (conduct_of on_one (reads (input_at ins 0)))
conduct_of_kind Tran patch ins = conduction patch On
conduct_of_kind (Fold kind) patch ins = Off
conduct_of_kind (Enable kind) patch ins = Off
conduct_of_kind (Mos on_one resistive) patch ins = Off
conduct_of_kind (Udp number) patch ins = Off
conduct_of_kind Copy patch ins = Off
conduct_of_kind (Constant v) patch ins = Off
conduct_of_kind (Pull v) patch ins = Off

-- what an element remembers of its inputs: only a sequential primitive does
abbrev pub remember_of_kind : Parts → ElementKind → List Signal → ElementState → ElementState
remember_of_kind parts (Udp number) ins s = remember (primitive_at parts number) (primitive_inputs ins) s
remember_of_kind parts (Fold kind) ins s = s
remember_of_kind parts (Enable kind) ins s = s
remember_of_kind parts (Mos on_one resistive) ins s = s
remember_of_kind parts Copy ins s = s
remember_of_kind parts (Constant v) ins s = s
remember_of_kind parts (Pull v) ins s = s
remember_of_kind parts Tran ins s = s
remember_of_kind parts (Tranif on_one) ins s = s

-- an element with a new target for its output: the delay is that of how the target reads
abbrev pub aim_signal : Element → ℕ → Signal → ElementState → ElementState
aim_signal e now target s =
    record s { due = pending_after same_signal s.out s.due target (due now e.delays (reads target)) }

-- a switch with a new target for what it conducts
abbrev pub aim_switch : Element → ℕ → Conduct → ElementState → ElementState
aim_switch e now target s =
    record s { switch_due = pending_after same_conduct s.on s.switch_due target (due now e.delays (switch_value target)) }

-- the element with these signals at its inputs
unfoldable pub next_element : Parts → Element → Patch → ℕ → List Signal → ElementState → ElementState
next_element parts e patch now ins s =
    if joins_ends e.kind then aim_switch e now (conduct_of_kind e.kind patch ins) s
    else aim_signal e now (signal_of_kind parts e.kind e.s0 e.s1 patch s ins) (remember_of_kind parts e.kind ins s)

-- an element of the netlist after its part in a pass
abbrev pub element_after : Parts → ℕ → Patch → ℕ → Readings → ElementState → ElementState
element_after parts number patch now r s =
    let e = element_at parts number in next_element parts e patch now (input_signals r patch e) s

-- the value with which an element starts
abbrev pub start_value : Parts → ElementKind → Logic
start_value parts (Udp number) = if (primitive_at parts number).sequential then (primitive_at parts number).start else value.X
start_value parts (Constant v) = v
start_value parts (Pull v) = bit_value v
start_value parts (Fold kind) = value.X
start_value parts (Enable kind) = value.X
start_value parts (Mos on_one resistive) = value.X
start_value parts Copy = value.X
start_value parts Tran = value.Z
start_value parts (Tranif on_one) = value.Z

-- the signal with which an element starts: x of its strengths, or its own value
abbrev pub start_signal : Parts → ElementKind → ℕ → ℕ → Signal
start_signal parts (Mos on_one true) s0 s1 = span_of value.X 5 5
start_signal parts (Mos on_one false) s0 s1 = span_of value.X 6 6
start_signal parts (Fold kind) s0 s1 = span_of value.X s0 s1
start_signal parts (Enable kind) s0 s1 = span_of value.X s0 s1
start_signal parts (Udp number) s0 s1 = span_of (start_value parts (Udp number)) s0 s1
start_signal parts Copy s0 s1 = span_of value.X s0 s1
start_signal parts (Constant v) s0 s1 = span_of v s0 s1
start_signal parts (Pull v) s0 s1 = span_of (bit_value v) s0 s1
start_signal parts Tran s0 s1 = undriven
start_signal parts (Tranif on_one) s0 s1 = undriven

-- what a switch conducts at the start; an element that is no bidirectional switch conducts nothing
abbrev pub start_conduct : ElementKind → Patch → Conduct
start_conduct Tran patch = conduction patch On
start_conduct (Tranif on_one) patch = Unknown
start_conduct (Fold kind) patch = Off
start_conduct (Enable kind) patch = Off
start_conduct (Mos on_one resistive) patch = Off
start_conduct (Udp number) patch = Off
start_conduct Copy patch = Off
start_conduct (Constant v) patch = Off
start_conduct (Pull v) patch = Off

-- the state with which a sequential primitive starts
abbrev pub start_state : Parts → ElementKind → Logic
start_state parts (Udp number) = start_value parts (Udp number)
start_state parts (Fold kind) = value.X
start_state parts (Enable kind) = value.X
start_state parts (Mos on_one resistive) = value.X
start_state parts Copy = value.X
start_state parts (Constant v) = value.X
start_state parts (Pull v) = value.X
start_state parts Tran = value.X
start_state parts (Tranif on_one) = value.X

-- an element at the start: nothing is pending, and remembered inputs are x
abbrev pub element_start : Parts → ℕ → Patch → ElementState
element_start parts number patch =
    let e = element_at parts number in record {
      out = start_signal parts e.kind e.s0 e.s1;
      on = start_conduct e.kind patch;
      due = None;
      switch_due = None;
      state = start_state parts e.kind;
      seen = replicate 10 value.X;
    }

-- what an element drives at an output pin: a stuck one St0 or St1, an open switch nothing
abbrev pub drive_at : Patch → ℕ → ElementState → Signal
drive_at (OutStuck stuck v) pin s = if nat_eq stuck pin then stuck_signal 6 v else s.out
drive_at Open pin s = undriven
drive_at Closed pin s = s.out
drive_at Whole pin s = s.out
drive_at (NetStuck net v) pin s = s.out
drive_at (InStuck input v) pin s = s.out

-- what a bidirectional switch conducts
abbrev pub conduct_at : Patch → ElementState → Conduct
conduct_at patch s = conduction patch s.on
