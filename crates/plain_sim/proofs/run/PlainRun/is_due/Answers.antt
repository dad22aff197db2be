use Rattle.std.proofs.Common.{◌≡◌, ap, sym, ◌∙◌, ℕ}
use Rattle.std.specs.Prelude.{Option, Some, None, nat_le}
use Rattle.machine.specs.Pass.{due_times, is_machine_due}
use Rattle.machine.specs.Run.{least}
use Rattle.machine.proofs.Maturing.{due_times-due}
use Rattle.plain_sim.specs.Plain.{PlainMachine}
use Rattle.plain_sim.proofs.Pending.{is_past, least-past}
use Rattle.plain_sim.proofs.run.PlainRun.is_due.Goals as goal

pub returns-in-Some : goal.returns-in-Some
returns-in-Some c =
    let m = c.args.self.now.machine in
    ap (λ (t : ℕ). nat_le c.in-Some.at t) (ap (λ (p : PlainMachine). p.machine.time) c.self.view_is)
    ∙ ap (is_past m.time) (sym c.in-Some.is ∙ c.next_time.ensures)
    ∙ sym (least-past m.time (due_times m)) ∙ due_times-due m

pub returns-in-None : goal.returns-in-None
returns-in-None c =
    let m = c.args.self.now.machine in
    ap (is_past m.time) (sym c.in-None.is ∙ c.next_time.ensures)
    ∙ sym (least-past m.time (due_times m)) ∙ due_times-due m
