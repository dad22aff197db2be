use Rattle.std.proofs.Common.{◌≡◌, ◌<◌, [], ◌∷◌, sym, ap, subst, arith}
use Rattle.hierarchy_counts.specs.declared.counts.InstanceCounts.{InstanceCounts}
use Rattle.hierarchy_counts.proofs.WithinLemmas.{IsWithin, none_within, one_more_within, within_none, within_cons}
use Rattle.hierarchy_counts.proofs.tests.each_instance_is_counted_without_its_bound_nets.Goals as goal

pub hierarchy_counts-requires-clause-within : goal.hierarchy_counts-requires-clause-within
hierarchy_counts-requires-clause-within g c =
    let first = ap (λ (i : InstanceCounts). i.master) c.instance.ensures in
    let second = ap (λ (i : InstanceCounts). i.master) c.instance-2.ensures in
    within_cons 2 c.in_ok-list.field-0 (c.in_ok-list-2.field-0 ∷ [])
    (subst (IsWithin 2) (sym c.in_ok-list.ensures) (one_more_within 2 c.instance.result (c.instance-2.result ∷ []) (omega arith) (one_more_within 2 c.instance-2.result [] (omega arith) (none_within 2))))
    (within_cons 2 c.in_ok-list-2.field-0 [] (subst (IsWithin 2) (sym c.in_ok-list-2.ensures) (none_within 2)) (within_none 2))
