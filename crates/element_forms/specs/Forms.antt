-- The elements that gates become (IEEE 1364-2005, 7.2 to 7.8).
use Rattle.std.specs.Prelude.{Bool, true, false}
use Rattle.logic_tables.specs.declared.kinds.FoldKind.TheVariants as fold
use Rattle.logic_tables.specs.declared.kinds.EnableKind.TheVariants as enable
use Rattle.v_tree.specs.declared.gates.LogicGate.{LogicGate}
use Rattle.v_tree.specs.declared.gates.LogicGate.TheVariants as logic
use Rattle.v_tree.specs.declared.gates.Switch.{Switch}
use Rattle.v_tree.specs.declared.gates.Switch.TheVariants as switch
use Rattle.v_tree.specs.declared.gates.TranGate.{TranGate}
use Rattle.v_tree.specs.declared.gates.TranGate.TheVariants as tran
use Rattle.v_tree.specs.declared.gates.GateKind.{GateKind}
use Rattle.v_tree.specs.declared.gates.GateKind.TheVariants as gate
use Rattle.flat_net.specs.declared.kinds.ElementKind.TheVariants.{Fold, Enable, Mos, Pull, Tran, Tranif}
use Rattle.item_parts.specs.Drives.{pulls_to_one}
use Rattle.element_forms.specs.declared.forms.ElementForm.{ElementForm}
use Rattle.element_forms.specs.declared.forms.ElementForm.TheVariants.{Single, Bidirectional, Complementary}

abbrev pub logic_form : LogicGate → ElementForm
logic_form logic.And = Single (Fold fold.And)
logic_form logic.Nand = Single (Fold fold.Nand)
logic_form logic.Or = Single (Fold fold.Or)
logic_form logic.Nor = Single (Fold fold.Nor)
logic_form logic.Xor = Single (Fold fold.Xor)
logic_form logic.Xnor = Single (Fold fold.Xnor)
logic_form logic.Buf = Single (Fold fold.Buf)
logic_form logic.Not = Single (Fold fold.Not)
logic_form logic.Bufif0 = Single (Enable enable.Bufif0)
logic_form logic.Bufif1 = Single (Enable enable.Bufif1)
logic_form logic.Notif0 = Single (Enable enable.Notif0)
logic_form logic.Notif1 = Single (Enable enable.Notif1)

-- an n switch conducts for control 1 and a p switch for control 0; one whose word begins with `r` is resistive
abbrev pub switch_form : Switch → ElementForm
switch_form switch.Nmos = Single (Mos true false)
switch_form switch.Pmos = Single (Mos false false)
switch_form switch.Rnmos = Single (Mos true true)
switch_form switch.Rpmos = Single (Mos false true)
switch_form switch.Cmos = Complementary false
switch_form switch.Rcmos = Complementary true
switch_form switch.Tranif0 = Bidirectional (Tranif false) false
switch_form switch.Tranif1 = Bidirectional (Tranif true) false
switch_form switch.Rtranif0 = Bidirectional (Tranif false) true
switch_form switch.Rtranif1 = Bidirectional (Tranif true) true

abbrev pub tran_form : TranGate → ElementForm
tran_form tran.Tran = Bidirectional Tran false
tran_form tran.Rtran = Bidirectional Tran true

abbrev pub element_form : GateKind → ElementForm
element_form (gate.Logic g drive delay) = logic_form g
element_form (gate.Switch g delay) = switch_form g
element_form (gate.Tran g) = tran_form g
element_form (gate.Pull g levels) = Single (Pull (pulls_to_one g))
