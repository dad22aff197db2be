use Rattle.std.proofs.Common.{◌≡◌, false, length, Option, None, Some, ap, sym, subst, ◌∙◌}
use Rattle.std.specs.Prelude.{IfErr, IfOk, ◌≢◌}
use Rattle.std.specs.List.{list_any}
use Rattle.flat_net.specs.declared.parts.Parts.{Parts}
use Rattle.flat_net.specs.Patches.{Netlist, whole}
use Rattle.flattening.specs.Lists.{all_in}
use Rattle.netlist_meaning.specs.Limits.{first_passed, has_wide, modules_in}
use Rattle.elaborate.specs.declared.fault.NetFault.{NetFault}
use Rattle.elaborate.specs.declared.fault.NetFault.TheVariants.{Memory}
use Rattle.elaborate.specs.Refusals.{limit_refusal}
use Rattle.elaborate.specs.Steps.{hierarchy_tests, size_refusal}
use Rattle.elaborate.proofs.LimitLaws.{AreCounts}
use Rattle.elaborate.proofs.NetlistSteps.{IsWritten, wide-is, written-elements, written-few-elements, written-few-nets, written-parts, written-refusal, written-resistive, written-sound}
use Rattle.elaborate.proofs.PlanLaws.{reached-length}
use Rattle.elaborate.proofs.netlist.netlist_of.Goals as goal

pub has_wide_range-requires : goal.has_wide_range-requires
has_wide_range-requires c =
    ap length c.as_slice-2.ensures ∙ reached-length c.args.file.now c.args.top c.args.rules.now c.requires.rules ∙ sym (ap length c.as_slice.ensures)

pub part_lists-requires-clause-reached : goal.part_lists-requires-clause-reached
part_lists-requires-clause-reached c = reached-length c.args.file.now c.args.top c.args.rules.now c.requires.rules

pub netlist_with-requires-clause-few_nets : goal.netlist_with-requires-clause-few_nets
netlist_with-requires-clause-few_nets c =
    let file = c.args.file.now in
    let top = c.args.top in
    let counts = c.in_ok-counts.counts in
    let w = c.in_ok-written-in-None.written in
    let are : AreCounts file top counts = record { depth = c.in_ok-counts.ensures.depth; nets = c.in_ok-counts.ensures.nets; elements = c.in_ok-counts.ensures.elements; names = c.in_ok-counts.ensures.names } in
    let none : first_passed (hierarchy_tests counts) ≡ None = sym c.passed_limit.ensures ∙ c.in-None.is in
    let is : IsWritten c.args.choice file top w = record {
      flat = c.in_ok-written-in-None.ensures.flat;
      is_long = c.in_ok-written-in-None.ensures.is_long;
      udps = c.in_ok-written-in-None.ensures.udps;
      inputs = c.in_ok-written-in-None.ensures.inputs;
      outputs = c.in_ok-written-in-None.ensures.outputs;
    } in
    written-few-nets c.args.choice file top w is counts are none c.requires.unbroken

pub netlist_with-requires-clause-few_elements : goal.netlist_with-requires-clause-few_elements
netlist_with-requires-clause-few_elements c =
    let file = c.args.file.now in
    let top = c.args.top in
    let counts = c.in_ok-counts.counts in
    let w = c.in_ok-written-in-None.written in
    let are : AreCounts file top counts = record { depth = c.in_ok-counts.ensures.depth; nets = c.in_ok-counts.ensures.nets; elements = c.in_ok-counts.ensures.elements; names = c.in_ok-counts.ensures.names } in
    let none : first_passed (hierarchy_tests counts) ≡ None = sym c.passed_limit.ensures ∙ c.in-None.is in
    let is : IsWritten c.args.choice file top w = record {
      flat = c.in_ok-written-in-None.ensures.flat;
      is_long = c.in_ok-written-in-None.ensures.is_long;
      udps = c.in_ok-written-in-None.ensures.udps;
      inputs = c.in_ok-written-in-None.ensures.inputs;
      outputs = c.in_ok-written-in-None.ensures.outputs;
    } in
    written-few-elements c.args.choice file top w is counts are none c.requires.unbroken

pub netlist_with-requires-clause-elements : goal.netlist_with-requires-clause-elements
netlist_with-requires-clause-elements c =
    let file = c.args.file.now in
    let top = c.args.top in
    let counts = c.in_ok-counts.counts in
    let w = c.in_ok-written-in-None.written in
    let are : AreCounts file top counts = record { depth = c.in_ok-counts.ensures.depth; nets = c.in_ok-counts.ensures.nets; elements = c.in_ok-counts.ensures.elements; names = c.in_ok-counts.ensures.names } in
    let none : first_passed (hierarchy_tests counts) ≡ None = sym c.passed_limit.ensures ∙ c.in-None.is in
    let is : IsWritten c.args.choice file top w = record {
      flat = c.in_ok-written-in-None.ensures.flat;
      is_long = c.in_ok-written-in-None.ensures.is_long;
      udps = c.in_ok-written-in-None.ensures.udps;
      inputs = c.in_ok-written-in-None.ensures.inputs;
      outputs = c.in_ok-written-in-None.ensures.outputs;
    } in
    written-elements c.args.choice file top w is counts are none c.requires.unbroken

pub netlist_with-requires-clause-resistive : goal.netlist_with-requires-clause-resistive
netlist_with-requires-clause-resistive c =
    let file = c.args.file.now in
    let top = c.args.top in
    let counts = c.in_ok-counts.counts in
    let w = c.in_ok-written-in-None.written in
    let are : AreCounts file top counts = record { depth = c.in_ok-counts.ensures.depth; nets = c.in_ok-counts.ensures.nets; elements = c.in_ok-counts.ensures.elements; names = c.in_ok-counts.ensures.names } in
    let none : first_passed (hierarchy_tests counts) ≡ None = sym c.passed_limit.ensures ∙ c.in-None.is in
    let is : IsWritten c.args.choice file top w = record {
      flat = c.in_ok-written-in-None.ensures.flat;
      is_long = c.in_ok-written-in-None.ensures.is_long;
      udps = c.in_ok-written-in-None.ensures.udps;
      inputs = c.in_ok-written-in-None.ensures.inputs;
      outputs = c.in_ok-written-in-None.ensures.outputs;
    } in
    written-resistive c.args.choice file top w is counts are none c.requires.unbroken

pub netlist_with-requires-clause-sound : goal.netlist_with-requires-clause-sound
netlist_with-requires-clause-sound c =
    let file = c.args.file.now in
    let top = c.args.top in
    let counts = c.in_ok-counts.counts in
    let w = c.in_ok-written-in-None.written in
    let are : AreCounts file top counts = record { depth = c.in_ok-counts.ensures.depth; nets = c.in_ok-counts.ensures.nets; elements = c.in_ok-counts.ensures.elements; names = c.in_ok-counts.ensures.names } in
    let none : first_passed (hierarchy_tests counts) ≡ None = sym c.passed_limit.ensures ∙ c.in-None.is in
    let is : IsWritten c.args.choice file top w = record {
      flat = c.in_ok-written-in-None.ensures.flat;
      is_long = c.in_ok-written-in-None.ensures.is_long;
      udps = c.in_ok-written-in-None.ensures.udps;
      inputs = c.in_ok-written-in-None.ensures.inputs;
      outputs = c.in_ok-written-in-None.ensures.outputs;
    } in
    written-sound c.args.choice file top w is counts are none c.requires.unbroken

pub returns-clause-accepted : goal.returns-clause-accepted
returns-clause-accepted c =
    let file = c.args.file.now in
    let top = c.args.top in
    let counts = c.in_ok-counts.counts in
    let w = c.in_ok-written-in-None.written in
    let are : AreCounts file top counts = record { depth = c.in_ok-counts.ensures.depth; nets = c.in_ok-counts.ensures.nets; elements = c.in_ok-counts.ensures.elements; names = c.in_ok-counts.ensures.names } in
    let none : first_passed (hierarchy_tests counts) ≡ None = sym c.passed_limit.ensures ∙ c.in-None.is in
    let is : IsWritten c.args.choice file top w = record {
      flat = c.in_ok-written-in-None.ensures.flat;
      is_long = c.in_ok-written-in-None.ensures.is_long;
      udps = c.in_ok-written-in-None.ensures.udps;
      inputs = c.in_ok-written-in-None.ensures.inputs;
      outputs = c.in_ok-written-in-None.ensures.outputs;
    } in
    let narrow : list_any has_wide (modules_in file top) ≡ false
    = wide-is file top c.args.rules.now c.requires.rules c.as_slice-2.result.now c.as_slice.result.now c.has_wide_range.result c.as_slice-2.ensures c.as_slice.ensures c.has_wide_range.ensures ∙ c.if-has_wide_range.false in
    let late : size_refusal (all_in w.flat) w.is_long ≡ limit_refusal c.args.choice file top = written-refusal c.args.choice file top w is counts are none narrow in
    subst (λ (r : Option NetFault). IfOk c.netlist_with.result (λ (flat : Netlist). r ≡ None)) late c.netlist_with.ensures.accepted

pub returns-clause-same : goal.returns-clause-same
returns-clause-same c =
    let file = c.args.file.now in
    let top = c.args.top in
    let counts = c.in_ok-counts.counts in
    let w = c.in_ok-written-in-None.written in
    let are : AreCounts file top counts = record { depth = c.in_ok-counts.ensures.depth; nets = c.in_ok-counts.ensures.nets; elements = c.in_ok-counts.ensures.elements; names = c.in_ok-counts.ensures.names } in
    let none : first_passed (hierarchy_tests counts) ≡ None = sym c.passed_limit.ensures ∙ c.in-None.is in
    let is : IsWritten c.args.choice file top w = record {
      flat = c.in_ok-written-in-None.ensures.flat;
      is_long = c.in_ok-written-in-None.ensures.is_long;
      udps = c.in_ok-written-in-None.ensures.udps;
      inputs = c.in_ok-written-in-None.ensures.inputs;
      outputs = c.in_ok-written-in-None.ensures.outputs;
    } in
    subst (λ (parts : Parts). IfOk c.netlist_with.result (λ (flat : Netlist). flat ≡ whole parts)) (written-parts c.args.choice file top w is) c.netlist_with.ensures.same

pub returns-clause-refusal : goal.returns-clause-refusal
returns-clause-refusal c =
    let file = c.args.file.now in
    let top = c.args.top in
    let counts = c.in_ok-counts.counts in
    let w = c.in_ok-written-in-None.written in
    let are : AreCounts file top counts = record { depth = c.in_ok-counts.ensures.depth; nets = c.in_ok-counts.ensures.nets; elements = c.in_ok-counts.ensures.elements; names = c.in_ok-counts.ensures.names } in
    let none : first_passed (hierarchy_tests counts) ≡ None = sym c.passed_limit.ensures ∙ c.in-None.is in
    let is : IsWritten c.args.choice file top w = record {
      flat = c.in_ok-written-in-None.ensures.flat;
      is_long = c.in_ok-written-in-None.ensures.is_long;
      udps = c.in_ok-written-in-None.ensures.udps;
      inputs = c.in_ok-written-in-None.ensures.inputs;
      outputs = c.in_ok-written-in-None.ensures.outputs;
    } in
    let narrow : list_any has_wide (modules_in file top) ≡ false
    = wide-is file top c.args.rules.now c.requires.rules c.as_slice-2.result.now c.as_slice.result.now c.has_wide_range.result c.as_slice-2.ensures c.as_slice.ensures c.has_wide_range.ensures ∙ c.if-has_wide_range.false in
    let late : size_refusal (all_in w.flat) w.is_long ≡ limit_refusal c.args.choice file top = written-refusal c.args.choice file top w is counts are none narrow in
    subst (λ (r : Option NetFault). IfErr c.netlist_with.result (λ (fault : NetFault). fault ≢ Memory → r ≡ Some fault)) late c.netlist_with.ensures.refusal
