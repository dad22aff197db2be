-- A step keeps the netlist.
use Rattle.std.specs.Prelude.{◌≡◌, ℕ, Bool, true, false, if◌then◌else◌, Option, Some, None}
use Rattle.std.proofs.Common.{refl}
use Rattle.machine.specs.Machine.{Machine}
use Rattle.machine.specs.Pass.{is_machine_due}
use Rattle.stimulus_run.specs.Progress.{Progress, machine_after, after_end, after_oscillation, step_by, progress_after}

kept-either : (p : Progress) (tick : ℕ) (m : Machine) (due : Bool)
    → (if due then after_oscillation p m else after_end p tick m).netlist ≡ p.netlist
kept-either p tick m true = refl
kept-either p tick m false = refl

kept-by : (p : Progress) (next : Option ℕ) → (step_by p next).netlist ≡ p.netlist
kept-by p None = refl
kept-by p (Some tick) = kept-either p tick (machine_after p tick) (is_machine_due (machine_after p tick))

pub netlist-kept : (p : Progress) → (progress_after p).netlist ≡ p.netlist
netlist-kept p = kept-by p p.next
