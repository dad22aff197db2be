use Rattle.std.proofs.Common.{◌≡◌, ◌++◌, drop, sym, ap, ◌∙◌}
use Rattle.udp_table.specs.LookUp.{level_value}
use Rattle.cell_step.specs.Elements.{input_signals, primitive_inputs, primitive_value}
use Rattle.cell_step.proofs.PrimitiveLemmas.{take_inputs, take_known, sequential_value_is, combinational_value, with_memory, sequential_remembers, combinational_remembers, primitive_inputs_length}
use Rattle.cell_step.proofs.primitives.primitive_value.Goals as goal

pub state_after-value-requires-clause-known : goal.state_after-value-requires-clause-known
state_after-value-requires-clause-known g c =
    take_known (g.V.View.readings c.args.view.now) c.args.patch c.args.e.now _ c.read_inputs-values.result c.inputs-count.result
    (c.inputs-count.ensures.value ∙ c.requires.inputs) c.read_inputs-values.ensures

pub level_at-requires-clause-known : goal.level_at-requires-clause-known
level_at-requires-clause-known g c =
    take_known (g.V.View.readings c.args.view.now) c.args.patch c.args.e.now _ c.read_inputs-values.result c.inputs-count.result
    (c.inputs-count.ensures.value ∙ c.requires.inputs) c.read_inputs-values.ensures

pub returns-then-sequential-clause-value : goal.returns-then-sequential-clause-value
returns-then-sequential-clause-value g c =
    let r = g.V.View.readings c.args.view.now in
    sequential_value_is c.args.udp.now c.args.state.now (primitive_inputs (input_signals r c.args.patch c.args.e.now))
    c.read_inputs-values.result c.inputs-count.result c.state_after-value.result (sym c.sequential.ensures ∙ c.if-sequential.true)
    c.inputs-count.ensures.value
    (take_inputs r c.args.patch c.args.e.now _ c.read_inputs-values.result c.inputs-count.result
    (c.inputs-count.ensures.value ∙ c.requires.inputs) c.read_inputs-values.ensures)
    c.state_after-value.ensures.value

pub returns-then-sequential-clause-state : goal.returns-then-sequential-clause-state
returns-then-sequential-clause-state g c =
    let udp = c.args.udp.now in
    let s = c.args.state.now in
    let r = g.V.View.readings c.args.view.now in
    let ins = primitive_inputs (input_signals r c.args.patch c.args.e.now) in
    let is = sym c.sequential.ensures ∙ c.if-sequential.true in
    let value : c.state_after-value.result ≡ primitive_value udp s ins =
    sequential_value_is udp s ins c.read_inputs-values.result c.inputs-count.result c.state_after-value.result is c.inputs-count.ensures.value
    (take_inputs r c.args.patch c.args.e.now _ c.read_inputs-values.result c.inputs-count.result
    (c.inputs-count.ensures.value ∙ c.requires.inputs) c.read_inputs-values.ensures)
    c.state_after-value.ensures.value in
    ap (λ v. with_memory s v c.read_inputs-values.result) value
    ∙ ap (with_memory s (primitive_value udp s ins))
    (c.read_inputs-values.ensures ∙ ap (λ n. ins ++ drop n s.seen) (sym (primitive_inputs_length r c.args.patch c.args.e.now)))
    ∙ sym (sequential_remembers udp s ins is)

pub returns-then-sequential-clause-known : goal.returns-then-sequential-clause-known
returns-then-sequential-clause-known g c is = (
  c.state_after-value.ensures.known,
  take_known (g.V.View.readings c.args.view.now) c.args.patch c.args.e.now _ c.read_inputs-values.result c.args.udp.now.inputs
      c.requires.inputs c.read_inputs-values.ensures,
)

pub returns-else-sequential-clause-value : goal.returns-else-sequential-clause-value
returns-else-sequential-clause-value g c =
    let udp = c.args.udp.now in
    let values =
    take_inputs (g.V.View.readings c.args.view.now) c.args.patch c.args.e.now _ c.read_inputs-values.result c.inputs-count.result
    (c.inputs-count.ensures.value ∙ c.requires.inputs) c.read_inputs-values.ensures in
    c.level_at.ensures ∙ ap (level_value udp.rows) values
    ∙ sym (combinational_value udp c.args.state.now _ (sym c.sequential.ensures ∙ c.if-sequential.false))

pub returns-else-sequential-clause-state : goal.returns-else-sequential-clause-state
returns-else-sequential-clause-state g c =
    sym (combinational_remembers c.args.udp.now c.args.state.now _ (sym c.sequential.ensures ∙ c.if-sequential.false))
