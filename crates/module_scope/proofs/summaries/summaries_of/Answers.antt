use Rattle.std.proofs.Common.{ap, arith, length}
use Rattle.module_scope.proofs.Summing.{length-summaries_of, summaries_of-more}
use Rattle.std.proofs.Common.{take}
use Rattle.module_scope.specs.declared.roles.Role.TheVariants.{Header}
use Rattle.module_scope.specs.declared.mentions.Occurrence.{Occurrence}
use Rattle.module_scope.proofs.summaries.summaries_of.Goals as goal

abbrev none : Occurrence
none = record { name = 0; location = record { line = 0; token = 0 }; role = Header }

pub index-requires : goal.index-requires
index-requires c =
    omega (arith, c.requires c.loop-occurrence.occurrence-index none c.loop-occurrence-test.true, ap length c.loop-occurrence.invariant, length-summaries_of c.args.count (take c.loop-occurrence.occurrence-index c.args.occurrences.now))

pub index_mut-requires : goal.index_mut-requires
index_mut-requires c =
    omega (arith, c.requires c.loop-occurrence.occurrence-index none c.loop-occurrence-test.true, ap length c.loop-occurrence.invariant, length-summaries_of c.args.count (take c.loop-occurrence.occurrence-index c.args.occurrences.now))

pub loop-occurrence-preserved : goal.loop-occurrence-preserved
loop-occurrence-preserved c =
    summaries_of-more c.args.count c.loop-occurrence.occurrence-index c.args.occurrences.now none _ c.loop-occurrence.summaries.items c.index.result.now c.with_role.result
    c.loop-occurrence-test.true (c.requires c.loop-occurrence.occurrence-index none c.loop-occurrence-test.true) c.loop-occurrence.invariant c.index.ensures c.with_role.ensures
