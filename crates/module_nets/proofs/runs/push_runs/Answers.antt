use Rattle.std.proofs.Common.{List, [], ◌∷◌, length, subst}
use Rattle.std.proofs.lemmas.List.{take_all}
use Rattle.expression_bits.specs.declared.runs.BitRun.{BitRun}
use Rattle.netlist_plan.specs.Nets.{run_sources}
use Rattle.netlist_plan.specs.Unnamed.{literal_count}
use Rattle.module_nets.specs.Entries.{HasGained}
use Rattle.module_nets.proofs.Gaining.{HasGained-next, HasGained-none}
use Rattle.module_nets.proofs.Sources.{literal_count-append, run_sources-append}
use Rattle.module_nets.proofs.runs.push_runs.Goals as goal

pub loop-run-init : goal.loop-run-init
loop-run-init c = HasGained-none c.args.scope.now c.args.entries.now c.requires

pub loop-run-preserved : goal.loop-run-preserved
loop-run-preserved c =
    HasGained-next run_sources literal_count
    (λ n runs run. run_sources-append n runs (run ∷ [])) (λ runs run. literal_count-append runs (run ∷ []))
    c.args.scope.now c.args.entries.now c.loop-run.entries c.push_run.new.entries c.args.runs.now c.loop-run.run-index c.run-item.result
    c.loop-run-test.true c.run-item.is c.loop-run.invariant c.in_ok-push_run.ensures

pub returns : goal.returns
returns c =
    subst (λ (runs : List BitRun). HasGained c.args.scope.now c.args.entries.now c.loop-run.entries (run_sources (length c.args.entries.now.literal_firsts) runs) (literal_count runs))
    (take_all c.loop-run.run-index c.args.runs.now c.loop-run-test.false) c.loop-run.invariant
