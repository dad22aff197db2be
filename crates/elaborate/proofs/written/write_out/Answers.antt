use Rattle.std.proofs.Common.{◌≡◌, ◌<◌, length, ap, sym, subst, ◌∙◌}
use Rattle.elaborate.proofs.PlanLaws.{plans-length, primitives-count, reached-length}
use Rattle.elaborate.proofs.written.write_out.Goals as goal

pub item_delays-requires-clause-reached : goal.item_delays-requires-clause-reached
item_delays-requires-clause-reached c = ap length c.as_slice-2.ensures ∙ reached-length c.args.file.now c.args.top c.args.rules.now c.requires.rules

pub reached_primitives-requires : goal.reached_primitives-requires
reached_primitives-requires c =
    ap length c.as_slice-4.ensures ∙ primitives-count c.args.file.now c.args.top c.in_ok-reached.reached c.in_ok-reached.ensures ∙ sym (ap length c.as_slice-3.ensures)

pub top_nets-requires-clause-plans : goal.top_nets-requires-clause-plans
top_nets-requires-clause-plans c =
    subst (λ n. c.args.top < n) (sym (ap length (c.as_slice-plans.ensures ∙ c.in_ok-plans.ensures) ∙ plans-length c.args.file.now c.args.top)) c.requires.top

pub top_nets-requires-2-clause-plans : goal.top_nets-requires-2-clause-plans
top_nets-requires-2-clause-plans c =
    subst (λ n. c.args.top < n) (sym (ap length (c.as_slice-plans.ensures ∙ c.in_ok-plans.ensures) ∙ plans-length c.args.file.now c.args.top)) c.requires.top
