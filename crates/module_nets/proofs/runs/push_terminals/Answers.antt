use Rattle.std.proofs.Common.{List, length, subst}
use Rattle.std.proofs.lemmas.List.{take_all}
use Rattle.expression_bits.specs.declared.runs.BitRun.{BitRun}
use Rattle.netlist_plan.specs.Nets.{run_sources}
use Rattle.netlist_plan.specs.Unnamed.{literal_count}
use Rattle.module_nets.specs.Entries.{HasGained}
use Rattle.module_nets.proofs.Gaining.{HasGained-next, HasGained-none, HasGained-one}
use Rattle.module_nets.proofs.Sources.{literals_in, literals_in-push, sources_in, sources_in-push}
use Rattle.module_nets.proofs.runs.push_terminals.Goals as goal

pub loop-runs-init : goal.loop-runs-init
loop-runs-init c = HasGained-none c.args.scope.now c.args.entries.now c.requires

pub loop-runs-preserved : goal.loop-runs-preserved
loop-runs-preserved c =
    let scope = c.args.scope.now in
    let runs_of = λ (list : List BitRun). list in
    let before = c.loop-runs.entries in
    let after = c.push_runs.new.entries in
    let more : HasGained scope before after (run_sources (length before.literal_firsts) c.runs-item.result) (literal_count c.runs-item.result) =
    subst (λ (runs : List BitRun). HasGained scope before after (run_sources (length before.literal_firsts) runs) (literal_count runs)) c.as_slice.ensures c.in_ok-push_runs.ensures in
    HasGained-next (sources_in runs_of) (literals_in runs_of) (sources_in-push runs_of) (literals_in-push runs_of)
    scope c.args.entries.now before after c.args.terminals.now c.loop-runs.runs-index c.runs-item.result
    c.loop-runs-test.true c.runs-item.is c.loop-runs.invariant (HasGained-one runs_of scope before after c.runs-item.result more)

pub returns : goal.returns
returns c =
    let runs_of = λ (list : List BitRun). list in
    subst (λ (elements : List (List BitRun)). HasGained c.args.scope.now c.args.entries.now c.loop-runs.entries (sources_in runs_of (length c.args.entries.now.literal_firsts) elements) (literals_in runs_of elements))
    (take_all c.loop-runs.runs-index c.args.terminals.now c.loop-runs-test.false) c.loop-runs.invariant
