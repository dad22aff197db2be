use Rattle.std.proofs.Common.{◌≡◌, ◌∷◌, [], ◌++◌, true, sym, refl, ◌∙◌}
use Rattle.first_vectors.specs.Fields.{name_in}
use Rattle.first_vectors.proofs.Names.{names_in, seen_none, seen_more, input_list_unknown, input_list_twice, input_list_all, first_name, among_from, apart_from, grown, parts_more, name_then, name_last}
use Rattle.first_vectors.proofs.inputs.listed_inputs.Goals as goal

pub loop-inputs-init : goal.loop-inputs-init
loop-inputs-init c = rw (c.new-seen.ensures, c.new-inputs.ensures.items) record { parts = refl; seen = seen_none c.args.netlist.now }

pub returns-in-None : goal.returns-in-None
returns-in-None c =
    let is : c.as_slice-name.result.now ≡ name_in c.field_at.result.0.now = c.as_slice-name.ensures ∙ c.in_ok-owned.ensures in
    let first = first_name c.loop-inputs.rest.now c.field_at.result.0.now c.as_slice-name.result.now c.field_at.result.1 is c.field_at.ensures.parts in
    input_list_unknown c.args.netlist.now (names_in c.args.names.now) c.loop-inputs.seen c.as_slice-name.result.now first.0 (rw (← first.1) c.loop-inputs.invariant.parts) (sym c.in-None.ensures)

pub returns-then-not-branch : goal.returns-then-not-branch
returns-then-not-branch c =
    let is : c.as_slice-name.result.now ≡ name_in c.field_at.result.0.now = c.as_slice-name.ensures ∙ c.in_ok-owned.ensures in
    let first = first_name c.loop-inputs.rest.now c.field_at.result.0.now c.as_slice-name.result.now c.field_at.result.1 is c.field_at.ensures.parts in
    input_list_twice c.args.netlist.now (names_in c.args.names.now) c.loop-inputs.seen c.as_slice-name.result.now first.0 (rw (← first.1) c.loop-inputs.invariant.parts) (among_from c.in_ok-add.field-0 c.as_slice-name.result.now c.loop-inputs.seen c.in_ok-add.ensures.new c.if-not-branch.true)

pub loop-inputs-preserved : goal.loop-inputs-preserved
loop-inputs-preserved c =
    let is : c.as_slice-name.result.now ≡ name_in c.field_at.result.0.now = c.as_slice-name.ensures ∙ c.in_ok-owned.ensures in
    let new : c.in_ok-add.field-0 ≡ true = c.if-not-branch.false in
    let next : c.add.new.self ≡ c.loop-inputs.seen ++ c.as_slice-name.result.now ∷ [] = grown c.in_ok-add.field-0 c.as_slice-name.result.now c.loop-inputs.seen c.add.new.self c.in_ok-add.ensures.names new in
    record {
      parts = parts_more (names_in c.args.names.now) c.loop-inputs.seen (names_in c.loop-inputs.rest.now) c.as_slice-name.result.now (names_in c.in-Some-others.after.now) c.add.new.self c.loop-inputs.invariant.parts (name_then c.loop-inputs.rest.now c.field_at.result.0.now c.as_slice-name.result.now c.field_at.result.1 c.in-Some-others.after is c.in-Some-others.is c.field_at.ensures.parts) next;
      seen = rw (next, c.in_ok-push.ensures.items) (seen_more c.args.netlist.now c.loop-inputs.seen c.loop-inputs.inputs.items c.as_slice-name.result.now c.in-Some.input c.loop-inputs.invariant.seen (sym c.in-Some.ensures) (apart_from c.in_ok-add.field-0 c.as_slice-name.result.now c.loop-inputs.seen c.in_ok-add.ensures.new new));
    }

pub returns-in-None-others : goal.returns-in-None-others
returns-in-None-others c =
    let is : c.as_slice-name.result.now ≡ name_in c.field_at.result.0.now = c.as_slice-name.ensures ∙ c.in_ok-owned.ensures in
    let new : c.in_ok-add.field-0 ≡ true = c.if-not-branch.false in
    let seen = seen_more c.args.netlist.now c.loop-inputs.seen c.loop-inputs.inputs.items c.as_slice-name.result.now c.in-Some.input c.loop-inputs.invariant.seen (sym c.in-Some.ensures) (apart_from c.in_ok-add.field-0 c.as_slice-name.result.now c.loop-inputs.seen c.in_ok-add.ensures.new new) in
    let last : names_in c.loop-inputs.rest.now ≡ c.as_slice-name.result.now ∷ [] = name_last c.loop-inputs.rest.now c.field_at.result.0.now c.as_slice-name.result.now c.field_at.result.1 is c.in-None-others.is c.field_at.ensures.parts in
    rw c.in_ok-push.ensures.items (input_list_all c.args.netlist.now (names_in c.args.names.now) c.loop-inputs.seen (c.loop-inputs.inputs.items ++ c.in-Some.input ∷ []) c.as_slice-name.result.now c.in-Some.input seen (rw (← last) c.loop-inputs.invariant.parts))
