use Rattle.std.proofs.Common.{◌≡◌, ◌<◌, length, Some, get_or, arith, sym, ◌∙◌}
use Rattle.std.proofs.lemmas.Grind.{common_steps}
use Rattle.std.proofs.lemmas.Option.{gets}
use Rattle.first_vectors.proofs.Names.{found, not_found}
use Rattle.first_vectors.proofs.inputs.input_in.Goals as goal

pub returns-in_err-index : goal.returns-in_err-index
returns-in_err-index c = rw c.from_residual.ensures (not_found c.args.netlist.now c.args.name.now c.args.table.now c.requires (sym c.in_err-index.ensures))

pub returns : goal.returns
returns c =
    let at = found c.args.netlist.now c.args.name.now c.args.table.now c.in_ok-index.index c.requires (sym c.in_ok-index.ensures) in
    let here : c.copied.result ≡ Some (get_or c.args.netlist.now.inputs c.in_ok-index.index 0) = (let lt : c.in_ok-index.index < length c.args.netlist.now.inputs = at.0 in grind (arith, common_steps, gets)) in here ∙ at.1
