use Rattle.std.proofs.Common.{◌≡◌, None, ap, sym, subst, ◌∙◌}
use Rattle.flat_net.specs.declared.parts.Parts.{Parts}
use Rattle.flat_net.specs.Patches.{Netlist, whole}
use Rattle.flat_net.specs.Soundness.{IsSound}
use Rattle.netlist_plan.specs.Additions.{Additions}
use Rattle.flattening.specs.Lists.{all_in}
use Rattle.flat_assembly.specs.Assembly.{flat_parts}
use Rattle.chosen_delays.specs.Made.{no_delays}
use Rattle.delay_rule.specs.declared.delays.Delays.{Delays}
use Rattle.netlist_meaning.specs.Netlist.{first_wired}
use Rattle.elaborate.specs.Steps.{size_refusal}
use Rattle.elaborate.proofs.LimitLaws.{none-wired}
use Rattle.elaborate.proofs.netlist.netlist_with.Goals as goal

pub returns-in-Some-clause-refusal : goal.returns-in-Some-clause-refusal
returns-in-Some-clause-refusal c other =
    let w = c.args.written in
    sym (ap (λ (a : Additions). size_refusal a w.is_long) c.in_ok-assembly.ensures) ∙ sym c.refusal_of.ensures ∙ c.in-Some.is

pub new-requires-in-None : goal.new-requires-in-None
new-requires-in-None c =
    let w = c.args.written in
    let nowhere : first_wired (all_in w.flat) ≡ None
    = none-wired (all_in w.flat) w.is_long (sym (ap (λ (a : Additions). size_refusal a w.is_long) c.in_ok-assembly.ensures) ∙ sym c.refusal_of.ensures ∙ c.in-None.is) in
    let same : c.in_ok-parts-in-None.parts ≡ flat_parts no_delays w.udps w.inputs w.outputs (all_in w.flat)
    = c.in_ok-parts-in-None.ensures
    ∙ ap (λ (d : Delays). flat_parts d w.udps w.inputs w.outputs c.in_ok-assembly.assembly) c.no_delays.ensures
    ∙ ap (λ (a : Additions). flat_parts no_delays w.udps w.inputs w.outputs a) c.in_ok-assembly.ensures in
    subst IsSound (sym same) (c.requires.sound nowhere)

pub returns-in_ok-new-in-None-clause-accepted : goal.returns-in_ok-new-in-None-clause-accepted
returns-in_ok-new-in-None-clause-accepted c =
    let w = c.args.written in
    sym (ap (λ (a : Additions). size_refusal a w.is_long) c.in_ok-assembly.ensures) ∙ sym c.refusal_of.ensures ∙ c.in-None.is

pub returns-in_ok-new-in-None-clause-same : goal.returns-in_ok-new-in-None-clause-same
returns-in_ok-new-in-None-clause-same c =
    let w = c.args.written in
    c.in_ok-new-in-None.ensures
    ∙ ap whole (c.in_ok-parts-in-None.ensures
    ∙ ap (λ (d : Delays). flat_parts d w.udps w.inputs w.outputs c.in_ok-assembly.assembly) c.no_delays.ensures
    ∙ ap (λ (a : Additions). flat_parts no_delays w.udps w.inputs w.outputs a) c.in_ok-assembly.ensures)
