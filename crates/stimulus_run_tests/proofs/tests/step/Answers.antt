use Rattle.std.proofs.Common.{ap, ◌∙◌}
use Rattle.stimulus_run.specs.Progress.{Progress}
use Rattle.stimulus_run_tests.proofs.Netlists.{netlist-kept}
use Rattle.stimulus_run_tests.proofs.tests.step.Goals as goal

pub returns : goal.returns
returns g c = ap (λ (p : Progress). p.netlist) c.next_step.ensures.progress ∙ netlist-kept c.args.run.now
