use Rattle.std.proofs.Common.{◌∙◌, ℕ, List, Result, sym, subst, rules}
use Rattle.std.proofs.lemmas.Result.{err_from_is_err_and}
use Rattle.flat_net.specs.Soundness.{IsSound}
use Rattle.vector_text.specs.declared.fault.BindFault.{BindFault}
use Rattle.vector_text.specs.declared.stimulus.StimulusLine.{StimulusLine}
use Rattle.vector_text.specs.Answers.{IsBindFault}
use Rattle.vector_text.proofs.LawfulLemmas.{stimulus_lawful}
use Rattle.vector_text.proofs.WholeLemmas.{same_inputs, same_outputs, same_bound, inputs_failed, outputs_failed, all_failed, all_bound}
use Rattle.vector_text.proofs.binding.bind.Goals as goal

pub returns-in_err-inputs-clause-exact : goal.returns-in_err-inputs-clause-exact
returns-in_err-inputs-clause-exact c =
    let parts = c.args.flat.now.parts in
    let vectors = c.args.vectors.now in
    let of_inputs = same_inputs parts vectors c.from-inputs_line.result c.as_slice.result.now c.from-inputs_line.ensures c.as_slice.ensures in
    let p = err_from_is_err_and c.from_residual.result c.from_residual.ensures.1 in
    rw (p.1, p.2) (inputs_failed parts vectors c.in_err-inputs.field-0.0 (subst (λ (given : Result (List ℕ) BindFault). IsBindFault c.in_err-inputs.field-0.0 given) (sym of_inputs) c.in_err-inputs.ensures))

pub returns-in_err-outputs-clause-exact : goal.returns-in_err-outputs-clause-exact
returns-in_err-outputs-clause-exact c =
    let parts = c.args.flat.now.parts in
    let vectors = c.args.vectors.now in
    let of_inputs = same_inputs parts vectors c.from-inputs_line.result c.as_slice.result.now c.from-inputs_line.ensures c.as_slice.ensures in
    let of_outputs = same_outputs parts vectors c.from-outputs_line.result c.from-outputs_line.ensures in
    let p = err_from_is_err_and c.from_residual-in_err-outputs.result c.from_residual-in_err-outputs.ensures.1 in
    rw (p.1, p.2) (outputs_failed parts vectors c.in_ok-inputs.inputs c.in_err-outputs.field-0.0 (of_inputs ∙ c.in_ok-inputs.ensures)
    (subst (λ (given : Result (List ℕ) BindFault). IsBindFault c.in_err-outputs.field-0.0 given) (sym of_outputs) c.in_err-outputs.ensures))

pub returns-in_err-lines-clause-exact : goal.returns-in_err-lines-clause-exact
returns-in_err-lines-clause-exact c =
    let parts = c.args.flat.now.parts in
    let vectors = c.args.vectors.now in
    let of_inputs = same_inputs parts vectors c.from-inputs_line.result c.as_slice.result.now c.from-inputs_line.ensures c.as_slice.ensures in
    let of_outputs = same_outputs parts vectors c.from-outputs_line.result c.from-outputs_line.ensures in
    let of_lines = same_bound c.as_slice-3.result.now c.in_ok-inputs.inputs c.as_slice-4.result.now c.in_ok-outputs.outputs c.as_slice-2.result.now vectors.lines c.as_slice-3.ensures c.as_slice-4.ensures c.as_slice-2.ensures in
    let p = err_from_is_err_and c.from_residual-in_err-lines.result c.from_residual-in_err-lines.ensures.1 in
    rw (p.1, p.2) (all_failed parts vectors c.in_ok-inputs.inputs c.in_ok-outputs.outputs c.in_err-lines.field-0.0 (of_inputs ∙ c.in_ok-inputs.ensures) (of_outputs ∙ c.in_ok-outputs.ensures)
    (subst (λ (given : Result (List StimulusLine) BindFault). IsBindFault c.in_err-lines.field-0.0 given) (sym of_lines) c.in_err-lines.ensures))

pub returns-clause-exact : goal.returns-clause-exact
returns-clause-exact c =
    let parts = c.args.flat.now.parts in
    let vectors = c.args.vectors.now in
    let of_inputs = same_inputs parts vectors c.from-inputs_line.result c.as_slice.result.now c.from-inputs_line.ensures c.as_slice.ensures in
    let of_outputs = same_outputs parts vectors c.from-outputs_line.result c.from-outputs_line.ensures in
    let of_lines = same_bound c.as_slice-3.result.now c.in_ok-inputs.inputs c.as_slice-4.result.now c.in_ok-outputs.outputs c.as_slice-2.result.now vectors.lines c.as_slice-3.ensures c.as_slice-4.ensures c.as_slice-2.ensures in
    all_bound parts vectors c.in_ok-inputs.inputs c.in_ok-outputs.outputs c.in_ok-lines.lines (of_inputs ∙ c.in_ok-inputs.ensures) (of_outputs ∙ c.in_ok-outputs.ensures) (of_lines ∙ c.in_ok-lines.ensures)

pub returns-clause-lawful : goal.returns-clause-lawful
returns-clause-lawful c = λ order.
    let parts = c.args.flat.now.parts in
    let vectors = c.args.vectors.now in
    let of_inputs = same_inputs parts vectors c.from-inputs_line.result c.as_slice.result.now c.from-inputs_line.ensures c.as_slice.ensures in
    let of_outputs = same_outputs parts vectors c.from-outputs_line.result c.from-outputs_line.ensures in
    let of_lines = same_bound c.as_slice-3.result.now c.in_ok-inputs.inputs c.as_slice-4.result.now c.in_ok-outputs.outputs c.as_slice-2.result.now vectors.lines c.as_slice-3.ensures c.as_slice-4.ensures c.as_slice-2.ensures in
    let sound : IsSound parts = search rules in
    stimulus_lawful parts vectors c.in_ok-inputs.inputs c.in_ok-outputs.outputs c.in_ok-lines.lines sound (of_inputs ∙ c.in_ok-inputs.ensures) (of_outputs ∙ c.in_ok-outputs.ensures) (of_lines ∙ c.in_ok-lines.ensures) order
