-- Answers by their parts.
use Rattle.std.proofs.Common.{◌≡◌, ℕ, List, Option, refl}
use Rattle.gate_net.specs.declared.netlist.Netlist.{Netlist}
use Rattle.gate_net.specs.declared.stimulus.Stimulus.{Stimulus}
use Rattle.first_machine.specs.Run.{run}
use Rattle.first_machine.specs.Trace.{trace}
use Rattle.cfsim.specs.Answer.{Answer, pass_limit, answer_of_trace, answer_of_run}

pub same_answer : (s s' : ℕ) (o o' e e' : List ℕ) → s ≡ s' → o ≡ o' → e ≡ e' → ◌≡◌ {A = Answer} (record { status = s; out = o; err = e }) (record { status = s'; out = o'; err = e' })
same_answer s s' o o' e e' p q r = rw (p, q, r) refl

pub run_is : (netlist : Netlist) (stimulus : Stimulus) (text : List ℕ) (oscillated : Option ℕ) → text ≡ trace netlist (run pass_limit netlist stimulus).ended → oscillated ≡ (run pass_limit netlist stimulus).oscillated → answer_of_trace text oscillated ≡ answer_of_run netlist stimulus
unfolding answer_of_run
run_is netlist stimulus text oscillated e f = rw (e, f) refl
