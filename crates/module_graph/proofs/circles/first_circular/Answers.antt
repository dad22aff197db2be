use Rattle.std.proofs.Common.{List, ℕ, sym, subst, ◌∙◌}
use Rattle.module_graph.specs.Order.{IsSettled}
use Rattle.module_graph.proofs.OrderLaws.{IsSettled-order}
use Rattle.module_graph.proofs.circles.first_circular.Goals as goal

pub circular_among-requires : goal.circular_among-requires
circular_among-requires c =
    subst (λ (ps : List ℕ). IsSettled ps c.args.reached.now c.args.references.now) (c.deref.ensures.value ∙ sym c.deref-then-is_in_order.ensures.value)
    (IsSettled-order c.deref.result.now c.args.reached.now c.args.references.now (sym c.is_in_order.ensures ∙ c.if-is_in_order.true))
