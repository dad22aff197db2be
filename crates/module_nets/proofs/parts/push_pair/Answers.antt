use Rattle.std.proofs.Common.{List, ◌++◌, length, subst}
use Rattle.expression_bits.specs.declared.runs.BitRun.{BitRun}
use Rattle.module_parts.specs.declared.parts.ModulePart.TheVariants.{Pair}
use Rattle.netlist_plan.specs.Nets.{part_sources, run_sources}
use Rattle.netlist_plan.specs.Unnamed.{literal_count, unnamed_count}
use Rattle.module_nets.specs.Entries.{HasGained}
use Rattle.module_nets.proofs.Gaining.{HasGained-behind, HasGained-runs, ok_then}
use Rattle.module_nets.proofs.parts.push_pair.Goals as goal

pub push_runs-requires : goal.push_runs-requires
push_runs-requires c = (c.in_ok-count_unnamed.ensures c.args.scope.now).are

pub returns : goal.returns
returns c =
    let scope = c.args.scope.now in
    let pair = c.args.pair.now in
    let a = c.args.entries.now in
    let b = c.count_unnamed.new.self in
    let d = c.push_runs.new.entries in
    let last = c.push_runs-2.new.entries in
    let target : HasGained scope b d (run_sources (length b.literal_firsts) pair.target) (literal_count pair.target) =
    subst (λ (runs : List BitRun). HasGained scope b d (run_sources (length b.literal_firsts) runs) (literal_count runs)) c.as_slice.ensures c.in_ok-push_runs.ensures in
    ok_then c.push_runs-2.result
    (HasGained scope d last (run_sources (length d.literal_firsts) c.as_slice-2.result.now) (literal_count c.as_slice-2.result.now))
    (HasGained scope a last (part_sources (length a.literal_firsts, Pair pair)) (unnamed_count (Pair pair)))
    c.push_runs-2.ensures
    (λ gained.
    let value : HasGained scope d last (run_sources (length d.literal_firsts) pair.value.runs) (literal_count pair.value.runs) =
    subst (λ (runs : List BitRun). HasGained scope d last (run_sources (length d.literal_firsts) runs) (literal_count runs)) c.as_slice-2.ensures gained in
    HasGained-behind scope a b last (pair.target ++ pair.value.runs) 1 (literal_count (pair.target ++ pair.value.runs))
    (c.in_ok-count_unnamed.ensures scope) (HasGained-runs scope b d last pair.target pair.value.runs target value))
