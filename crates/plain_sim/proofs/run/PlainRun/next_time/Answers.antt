use Rattle.std.proofs.Common.{◌≡◌, ap, ◌∙◌}
use Rattle.std.specs.List.{flat_map}
use Rattle.machine.specs.Pass.{cell_times, due_times}
use Rattle.machine.specs.Run.{least}
use Rattle.plain_sim.specs.Plain.{PlainMachine}
use Rattle.plain_sim.proofs.DueTimes.{due-least}
use Rattle.plain_sim.proofs.run.PlainRun.next_time.Goals as goal

pub returns : goal.returns
unfolding due_times
returns c =
    let r = c.self.inside in
    let w = c.self.invariant in
    due-least r.flat.now.parts c.net_count-nets.ensures.sound.sound r.elements.items r.islands.items w.elements w.islands r.due.times w.due
    c.next_time.result c.next_time.ensures.none c.next_time.ensures.least
    ∙ ap (λ (p : PlainMachine). least (flat_map cell_times p.machine.cells)) c.self.view_is
