use Rattle.std.proofs.Common.{ℕ, ◌+◌, List, [], ◌∷◌, ◌++◌, map, ap, ◌∙◌, arith}
use Rattle.std.proofs.lemmas.List.{take_all}
use Rattle.v_tree.specs.declared.modules.Item.{Item}
use Rattle.module_graph.specs.declared.references.Master.{Master}
use Rattle.element_forms.specs.declared.forms.ElementForm.{ElementForm}
use Rattle.netlist_plan.specs.Plan.{item_form}
use Rattle.module_plan.specs.Meant.{meanings}
use Rattle.module_plan.proofs.References.{Walked-more, reference_count-least}
use Rattle.module_plan.proofs.forms.item_forms.Goals as goal

pub overflow_add-next : goal.overflow_add-next
overflow_add-next c = omega (arith, reference_count-least c.item-item.result, c.reference_count-next.ensures, c.loop-item.invariant.within)

pub loop-item-init : goal.loop-item-init
loop-item-init c = record {
  within = omega arith;
  walked = λ of same. record { rest = same; seen = c.new-forms.ensures.items };
}

pub loop-item-preserved : goal.loop-item-preserved
loop-item-preserved c = record {
  within = omega (arith, reference_count-least c.item-item.result, c.reference_count-next.ensures, c.loop-item.invariant.within);
  walked = λ of same.
      Walked-more of c.args.references.now c.args.udp_numbers.now c.args.items.now c.loop-item.next c.loop-item.item-index c.loop-item.forms.items
      (c.loop-item.invariant.walked of same) c.item-item.result c.loop-item-test.true c.item-item.is
      (c.loop-item.next + c.reference_count-next.result) (ap (λ (count : ℕ). c.loop-item.next + count) c.reference_count-next.ensures)
      c.push.new.self.items
      (c.in_ok-push.ensures.items
      ∙ ap (λ (form : ElementForm). c.loop-item.forms.items ++ form ∷ [])
      (c.item_form.ensures ∙ ap (λ (m : Master). item_form (meanings (λ name. m) c.args.udp_numbers.now) c.item-item.result) c.master_at.ensures));
}

pub returns : goal.returns
returns c = λ of same.
    (c.loop-item.invariant.walked of same).seen
    ∙ ap (λ (items : List Item). map (item_form (meanings of c.args.udp_numbers.now)) items)
    (take_all c.loop-item.item-index c.args.items.now c.loop-item-test.false)
