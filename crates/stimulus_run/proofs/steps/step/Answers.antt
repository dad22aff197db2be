use Rattle.stimulus_run.proofs.Passing.{at-start, at-more, at-quiet, at-oscillates, at-falls}
use Rattle.stimulus_run.proofs.steps.step.Goals as goal

pub passes-init : goal.passes-init
passes-init g c = at-start c.args.run.now c.requires.fresh c.requires.some

pub passes-preserved : goal.passes-preserved
passes-preserved g c =
    at-more c.args.run.now c.passes.run c.pass.new.self c.passes.invariant c.pass.ensures.machine c.requires.few c.in-More.ensures.end

pub passes-smaller : goal.passes-smaller
passes-smaller g c =
    at-falls c.args.run.now c.passes.run c.pass.new.self c.passes.invariant c.pass.ensures.machine c.requires.few c.in-More.ensures.end

pub returns-in-Quiet-clause-machine : goal.returns-in-Quiet-clause-machine
returns-in-Quiet-clause-machine g c =
    (at-quiet c.args.run.now c.passes.run c.pass.new.self c.passes.invariant c.pass.ensures.machine c.in-Quiet.ensures.end).0

pub returns-in-Oscillates-clause-machine : goal.returns-in-Oscillates-clause-machine
returns-in-Oscillates-clause-machine g c =
    (at-oscillates c.args.run.now c.passes.run c.pass.new.self c.passes.invariant c.pass.ensures.machine c.requires.few c.in-Oscillates.ensures.end).0
