use Rattle.std.proofs.Common.{◌≡◌, ◌∙◌}
use Rattle.plain_sim.proofs.due.follow.Goals as goal

pub returns-clause-times : goal.returns-clause-times
returns-clause-times c = record {
  of_elements = λ number lt. c.follow_nets.ensures.elements number lt ∙ c.follow_elements.ensures.times number lt;
  of_nets = c.follow_nets.ensures.times;
  past = c.follow_nets.ensures.keys.past;
}
