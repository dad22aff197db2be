use Rattle.std.proofs.Common.{◌≡◌, refl, ap}
use Rattle.std.specs.Prelude.{true, Err}
use Rattle.udp_table.specs.Primitive.{IsCount}
use Rattle.udp_table.specs.declared.making.UdpFault.TheVariants.{TooManyInputs, BadSymbol, TwoEdges, Clash}
use Rattle.udp_table.proofs.FaultLemmas.{IsFault-unique, no_refusal}
use Rattle.udp_table.proofs.RowLemmas.{bad_at, all_well_formed, edges_at, all_few}
use Rattle.udp_table.proofs.BuildLemmas.{Agrees-NoClash, IsFirstClash-FirstClash, IsAccepted-copy}
use Rattle.udp_table.proofs.making.build.Goals as goal

pub returns-in-Some-clause-fault : goal.returns-in-Some-clause-fault
returns-in-Some-clause-fault c =
    (c.if-not-is_count.ensures.0 refl, bad_at _ _ _ _ c.as_slice.ensures _ _ c.first_bad.ensures c.in-Some.is)

pub returns-in-Some-first_with_two_edges-clause-fault : goal.returns-in-Some-first_with_two_edges-clause-fault
returns-in-Some-first_with_two_edges-clause-fault c = (
  c.if-not-is_count.ensures.0 refl,
  all_well_formed _ _ _ _ c.as_slice.ensures _ c.first_bad.ensures c.in_default.is,
  edges_at c.args.inputs c.args.sequential _ _ c.as_slice-2.ensures _ _ c.first_with_two_edges.ensures c.in-Some-first_with_two_edges.is,
)

pub returns-in-Some-first_clash-clause-fault : goal.returns-in-Some-first_clash-clause-fault
returns-in-Some-first_clash-clause-fault c = (
  c.if-not-is_count.ensures.0 refl,
  all_well_formed _ _ _ _ c.as_slice.ensures _ c.first_bad.ensures c.in_default.is,
  all_few c.args.inputs c.args.sequential _ _ c.as_slice-2.ensures _ c.first_with_two_edges.ensures c.in_default-first_with_two_edges.is,
  IsFirstClash-FirstClash _ _ _ (rw c.as_slice-3.ensures at c.in-Some-first_clash.ensures),
)

pub returns-in_default-copied-clause-fault : goal.returns-in_default-copied-clause-fault
returns-in_default-copied-clause-fault c = (
  c.if-not-is_count.ensures.0 refl,
  all_well_formed _ _ _ _ c.as_slice.ensures _ c.first_bad.ensures c.in_default.is,
  all_few c.args.inputs c.args.sequential _ _ c.as_slice-2.ensures _ c.first_with_two_edges.ensures c.in_default-first_with_two_edges.is,
  Agrees-NoClash _ (rw c.as_slice-3.ensures at c.in_default-first_clash.ensures),
)

pub invariant_of-result : goal.invariant_of-result
invariant_of-result c =
    IsAccepted-copy _ _ _ _ _ c.in-Ok.ensures (c.if-not-is_count.ensures.0 refl) c.requires
    (all_well_formed _ _ _ _ c.as_slice.ensures _ c.first_bad.ensures c.in_default.is)
    (all_few c.args.inputs c.args.sequential _ _ c.as_slice-2.ensures _ c.first_with_two_edges.ensures c.in_default-first_with_two_edges.is)
    (Agrees-NoClash _ (rw c.as_slice-3.ensures at c.in_default-first_clash.ensures))

pub returns-clause-accepted : goal.returns-clause-accepted
returns-clause-accepted c =
    IsAccepted-copy _ _ _ _ _ c.in-Ok.ensures (c.if-not-is_count.ensures.0 refl) c.requires
    (all_well_formed _ _ _ _ c.as_slice.ensures _ c.first_bad.ensures c.in_default.is)
    (all_few c.args.inputs c.args.sequential _ _ c.as_slice-2.ensures _ c.first_with_two_edges.ensures c.in_default-first_with_two_edges.is)
    (Agrees-NoClash _ (rw c.as_slice-3.ensures at c.in_default-first_clash.ensures))

pub returns-then-not-is_count-clause-exactly : goal.returns-then-not-is_count-clause-exactly
returns-then-not-is_count-clause-exactly c f r h =
    let no : ¬ IsCount c.args.inputs = λ n. let e : c.is_count.result ≡ true = c.is_count.ensures.1 n in let d = c.if-not-is_count.true in cc in
    ap Err (IsFault-unique c.args.inputs c.args.sequential c.args.rows.now f TooManyInputs r h no)

pub returns-in-Some-clause-exactly : goal.returns-in-Some-clause-exactly
returns-in-Some-clause-exactly c f r h =
    ap Err (IsFault-unique c.args.inputs c.args.sequential c.args.rows.now f (BadSymbol _) r h (c.if-not-is_count.ensures.0 refl, bad_at _ _ _ _ c.as_slice.ensures _ _ c.first_bad.ensures c.in-Some.is))

pub returns-in-Some-first_with_two_edges-clause-exactly : goal.returns-in-Some-first_with_two_edges-clause-exactly
returns-in-Some-first_with_two_edges-clause-exactly c f r h =
    ap Err (IsFault-unique c.args.inputs c.args.sequential c.args.rows.now f (TwoEdges _) r h (c.if-not-is_count.ensures.0 refl, all_well_formed _ _ _ _ c.as_slice.ensures _ c.first_bad.ensures c.in_default.is, edges_at c.args.inputs c.args.sequential _ _ c.as_slice-2.ensures _ _ c.first_with_two_edges.ensures c.in-Some-first_with_two_edges.is))

pub returns-in-Some-first_clash-clause-exactly : goal.returns-in-Some-first_clash-clause-exactly
returns-in-Some-first_clash-clause-exactly c f r h =
    ap Err (IsFault-unique c.args.inputs c.args.sequential c.args.rows.now f (Clash _ _) r h (c.if-not-is_count.ensures.0 refl, all_well_formed _ _ _ _ c.as_slice.ensures _ c.first_bad.ensures c.in_default.is, all_few c.args.inputs c.args.sequential _ _ c.as_slice-2.ensures _ c.first_with_two_edges.ensures c.in_default-first_with_two_edges.is, IsFirstClash-FirstClash _ _ _ (rw c.as_slice-3.ensures at c.in-Some-first_clash.ensures)))

pub returns-in_default-copied-clause-exactly : goal.returns-in_default-copied-clause-exactly
returns-in_default-copied-clause-exactly c f r h =
    absurd (no_refusal c.args.inputs c.args.sequential c.args.rows.now f r h (c.if-not-is_count.ensures.0 refl, all_well_formed _ _ _ _ c.as_slice.ensures _ c.first_bad.ensures c.in_default.is, all_few c.args.inputs c.args.sequential _ _ c.as_slice-2.ensures _ c.first_with_two_edges.ensures c.in_default-first_with_two_edges.is, Agrees-NoClash _ (rw c.as_slice-3.ensures at c.in_default-first_clash.ensures)))

pub returns-clause-exactly : goal.returns-clause-exactly
returns-clause-exactly c f r h =
    absurd (no_refusal c.args.inputs c.args.sequential c.args.rows.now f r h (c.if-not-is_count.ensures.0 refl, all_well_formed _ _ _ _ c.as_slice.ensures _ c.first_bad.ensures c.in_default.is, all_few c.args.inputs c.args.sequential _ _ c.as_slice-2.ensures _ c.first_with_two_edges.ensures c.in_default-first_with_two_edges.is, Agrees-NoClash _ (rw c.as_slice-3.ensures at c.in_default-first_clash.ensures)))
