use Rattle.std.proofs.Common.{List, length, subst}
use Rattle.std.proofs.lemmas.List.{take_all}
use Rattle.expression_bits.specs.declared.runs.BitRun.{BitRun}
use Rattle.module_parts.specs.declared.parts.PortRuns.{PortRuns}
use Rattle.netlist_plan.specs.Nets.{run_sources}
use Rattle.netlist_plan.specs.Unnamed.{literal_count}
use Rattle.module_nets.specs.Entries.{HasGained}
use Rattle.module_nets.proofs.Gaining.{HasGained-next, HasGained-none, HasGained-one}
use Rattle.module_nets.proofs.Sources.{literals_in, literals_in-push, sources_in, sources_in-push}
use Rattle.module_nets.proofs.runs.push_connections.Goals as goal

pub loop-connection-init : goal.loop-connection-init
loop-connection-init c = HasGained-none c.args.scope.now c.args.entries.now c.requires

pub loop-connection-preserved : goal.loop-connection-preserved
loop-connection-preserved c =
    let scope = c.args.scope.now in
    let runs_of = λ (connection : PortRuns). connection.runs in
    let before = c.loop-connection.entries in
    let after = c.push_runs.new.entries in
    let more : HasGained scope before after (run_sources (length before.literal_firsts) c.connection-item.result.runs) (literal_count c.connection-item.result.runs) =
    subst (λ (runs : List BitRun). HasGained scope before after (run_sources (length before.literal_firsts) runs) (literal_count runs)) c.as_slice.ensures c.in_ok-push_runs.ensures in
    HasGained-next (sources_in runs_of) (literals_in runs_of) (sources_in-push runs_of) (literals_in-push runs_of)
    scope c.args.entries.now before after c.args.connections.now c.loop-connection.connection-index c.connection-item.result
    c.loop-connection-test.true c.connection-item.is c.loop-connection.invariant (HasGained-one runs_of scope before after c.connection-item.result more)

pub returns : goal.returns
returns c =
    let runs_of = λ (connection : PortRuns). connection.runs in
    subst (λ (elements : List (PortRuns)). HasGained c.args.scope.now c.args.entries.now c.loop-connection.entries (sources_in runs_of (length c.args.entries.now.literal_firsts) elements) (literals_in runs_of elements))
    (take_all c.loop-connection.connection-index c.args.connections.now c.loop-connection-test.false) c.loop-connection.invariant
