use Rattle.std.proofs.Common.{ap, sym, refl, ◌∙◌}
use Rattle.cfsim.specs.Answer.{answer_of_trace}
use Rattle.cfsim.proofs.AnswerLemmas.{same_answer, run_is}
use Rattle.cfsim.proofs.report.report_of_run.Goals as goal

pub returns-in_ok-err-in-Some-clause-answer : goal.returns-in_ok-err-in-Some-clause-answer
returns-in_ok-err-in-Some-clause-answer c =
    same_answer _ _ _ _ _ _ c.new.ensures refl c.in_ok-err-in-Some.ensures
    ∙ ap (answer_of_trace c.in_ok-simulated.simulated.trace) (sym c.in-Some.is)
    ∙ run_is c.args.netlist.now c.args.stimulus.now _ _ c.in_ok-simulated.ensures.trace c.in_ok-simulated.ensures.oscillated

pub returns-in-None-clause-answer : goal.returns-in-None-clause-answer
returns-in-None-clause-answer c =
    same_answer _ _ _ _ _ _ c.new-in-None.ensures refl (c.from_vec.ensures ∙ c.new-in-None-2.ensures.items)
    ∙ ap (answer_of_trace c.in_ok-simulated.simulated.trace) (sym c.in-None.is)
    ∙ run_is c.args.netlist.now c.args.stimulus.now _ _ c.in_ok-simulated.ensures.trace c.in_ok-simulated.ensures.oscillated
