use Rattle.std.proofs.Common.{◌≡◌, ◌<◌, [], ◌∷◌, sym, ap, subst, arith}
use Rattle.hierarchy_counts.specs.declared.counts.InstanceCounts.{InstanceCounts}
use Rattle.hierarchy_counts.proofs.WithinLemmas.{IsWithin, none_within, one_more_within, within_none, within_cons}
use Rattle.hierarchy_counts.proofs.tests.a_module_in_itself_has_no_end.Goals as goal

pub hierarchy_counts-requires-clause-within : goal.hierarchy_counts-requires-clause-within
hierarchy_counts-requires-clause-within g c =
    let master = ap (λ (i : InstanceCounts). i.master) c.instance.ensures in
    within_cons 1 c.in_ok-list.field-0 [] (subst (IsWithin 1) (sym c.in_ok-list.ensures) (one_more_within 1 c.instance.result [] (omega arith) (none_within 1))) (within_none 1)
