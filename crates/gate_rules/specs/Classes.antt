-- The classes of gates and switches: how many terminals and delays each may have, and which of its terminals are outputs or bidirectional.
use Rattle.std.specs.Prelude.{ℕ, ◌-◌, Bool, ◌==◌, nat_le}
use Rattle.v_tree.specs.declared.gates.LogicGate.{LogicGate}
use Rattle.v_tree.specs.declared.gates.LogicGate.TheVariants as logic
use Rattle.v_tree.specs.declared.gates.Switch.{Switch}
use Rattle.v_tree.specs.declared.gates.Switch.TheVariants as switch
use Rattle.v_tree.specs.declared.gates.GateKind.{GateKind}
use Rattle.v_tree.specs.declared.gates.GateKind.TheVariants as kind
use Rattle.gate_rules.specs.declared.classes.GateClass.{GateClass}
use Rattle.gate_rules.specs.declared.classes.GateClass.TheVariants.{NInput, NOutput, Enable, Mos, Cmos, PassEnable, Pass, Pull}

-- IEEE 1364-2005, 7.2 to 7.4
abbrev pub logic_class : LogicGate → GateClass
logic_class logic.And = NInput
logic_class logic.Nand = NInput
logic_class logic.Or = NInput
logic_class logic.Nor = NInput
logic_class logic.Xor = NInput
logic_class logic.Xnor = NInput
logic_class logic.Buf = NOutput
logic_class logic.Not = NOutput
logic_class logic.Bufif0 = Enable
logic_class logic.Bufif1 = Enable
logic_class logic.Notif0 = Enable
logic_class logic.Notif1 = Enable

-- IEEE 1364-2005, 7.5 to 7.7
abbrev pub switch_class : Switch → GateClass
switch_class switch.Nmos = Mos
switch_class switch.Pmos = Mos
switch_class switch.Rnmos = Mos
switch_class switch.Rpmos = Mos
switch_class switch.Cmos = Cmos
switch_class switch.Rcmos = Cmos
switch_class switch.Tranif0 = PassEnable
switch_class switch.Tranif1 = PassEnable
switch_class switch.Rtranif0 = PassEnable
switch_class switch.Rtranif1 = PassEnable

abbrev pub gate_class : GateKind → GateClass
gate_class (kind.Logic gate drive delay) = logic_class gate
gate_class (kind.Switch gate delay) = switch_class gate
gate_class (kind.Tran gate) = Pass
gate_class (kind.Pull gate levels) = Pull

-- a gate of a class may have so many terminals
abbrev pub is_terminal_count : GateClass → ℕ → Bool
is_terminal_count NInput n = nat_le 2 n
is_terminal_count NOutput n = nat_le 2 n
is_terminal_count Enable n = n == 3
is_terminal_count Mos n = n == 3
is_terminal_count Cmos n = n == 4
is_terminal_count PassEnable n = n == 3
is_terminal_count Pass n = n == 2
is_terminal_count Pull n = n == 1

-- how many delays a gate may have at most (IEEE 1364-2005, 7.14)
abbrev pub most_delays : GateClass → ℕ
most_delays NInput = 2
most_delays NOutput = 2
most_delays Enable = 3
most_delays Mos = 3
most_delays Cmos = 3
most_delays PassEnable = 2
most_delays Pass = 0
most_delays Pull = 0

-- of so many terminals, how many at the beginning are outputs or bidirectional: all but the last input, the output, or the two ends
abbrev pub output_count : GateClass → ℕ → ℕ
output_count NInput n = 1
output_count NOutput n = n - 1
output_count Enable n = 1
output_count Mos n = 1
output_count Cmos n = 1
output_count PassEnable n = 2
output_count Pass n = 2
output_count Pull n = 1
