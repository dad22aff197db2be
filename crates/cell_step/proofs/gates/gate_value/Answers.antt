use Rattle.std.proofs.Common.{length, subst}
use Rattle.logic_tables.specs.declared.kinds.FoldKind.{FoldKind}
use Rattle.logic_tables.specs.Fold.{Takes}
use Rattle.cell_step.proofs.GateLemmas.{buf_value, not_value}
use Rattle.cell_step.proofs.gates.gate_value.Goals as goal

pub returns-in-Buf : goal.returns-in-Buf
returns-in-Buf g c =
    let one = subst (λ (kind : FoldKind). Takes kind (length c.args.e.now.ins)) c.in-Buf.is c.requires.pins in
    let value = buf_value (g.V.View.readings c.args.view.now) c.args.patch c.args.e.now one in cc

pub returns-in-Not : goal.returns-in-Not
returns-in-Not g c =
    let one = subst (λ (kind : FoldKind). Takes kind (length c.args.e.now.ins)) c.in-Not.is c.requires.pins in
    let value = not_value (g.V.View.readings c.args.view.now) c.args.patch c.args.e.now one in cc
