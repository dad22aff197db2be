-- The passes of a time step by a plain run.
use Rattle.std.proofs.Common.{◌≡◌, ℕ, ◌-◌, ◌<◌, ◌≤◌, ◌^◌, Bool, true, false, refl, ap, sym, ◌∙◌, subst, arith}
use Rattle.flat_net.specs.Patches.{Netlist}
use Rattle.cell_step.specs.declared.states.PassEnd.{PassEnd}
use Rattle.cell_step.specs.declared.states.PassEnd.TheVariants.{Quiet, More, Oscillates}
use Rattle.machine.specs.Machine.{Machine}
use Rattle.machine.specs.Pass.{is_machine_due, pass, machine_end}
use Rattle.machine.specs.System.{machines, step}
use Rattle.plain_sim.specs.Plain.{PlainMachine, with_machine}
use Rattle.stimulus_run.proofs.Stepping.{IsStepping, stepping-start, stepping-more, stepping-quiet, stepping-oscillates, stepping-falls}

-- the machine after the step from a plain machine
abbrev pub whole : PlainMachine → Machine
whole first = step (machines first.netlist) first.limit first.machine

-- a plain machine from which further passes make the step of the first
pub record IsAt (first now : PlainMachine) : Type 0 where
  pub same : now ≡ with_machine first now.machine
  pub stepping : IsStepping first.netlist first.limit (whole first) now.machine

pub at-start : (first : PlainMachine) → first.machine.passes ≡ 0 → 1 ≤ first.limit → IsAt first first
at-start first fresh some = record {
  same = refl;
  stepping = stepping-start first.netlist first.limit first.machine fresh some;
}

module _ (first now next : PlainMachine) (at : IsAt first now) (made : next ≡ with_machine now (pass now.netlist now.machine)) where
  abbrev after : Machine
  after = pass first.netlist now.machine

  next-is : next ≡ with_machine first after
  next-is =
      made ∙ ap (λ (q : PlainMachine). with_machine q (pass q.netlist now.machine)) at.same

  machine-is : next.machine ≡ after
  machine-is = ap (λ (q : PlainMachine). q.machine) next-is

  limit-is : now.limit ≡ first.limit
  limit-is = ap (λ (q : PlainMachine). q.limit) at.same

  end-is : (end : PassEnd) → end ≡ machine_end now.limit next.machine → machine_end first.limit after ≡ end
  end-is end e =
      sym (e ∙ ap (λ (n : ℕ). machine_end n next.machine) limit-is ∙ ap (machine_end first.limit) machine-is)

  pub at-more : first.limit ≤ 2 ^ 32 - 1 → More ≡ machine_end now.limit next.machine → IsAt first next
  at-more small e = record {
    same = next-is ∙ ap (with_machine first) (sym machine-is);
    stepping =
        subst (IsStepping first.netlist first.limit (whole first)) (sym machine-is)
        (stepping-more first.netlist first.limit (whole first) now.machine small at.stepping (end-is More e));
  }

  pub at-quiet : Quiet ≡ machine_end now.limit next.machine →
      (next ≡ with_machine first (whole first)) × (false ≡ is_machine_due next.machine)
  at-quiet e =
      let is = stepping-quiet first.netlist first.limit (whole first) now.machine at.stepping (end-is Quiet e) in
      (next-is ∙ ap (with_machine first) is.0, sym (ap is_machine_due machine-is ∙ is.1))

  pub at-oscillates : first.limit ≤ 2 ^ 32 - 1 → Oscillates ≡ machine_end now.limit next.machine →
      (next ≡ with_machine first (whole first)) × (true ≡ is_machine_due next.machine)
  at-oscillates small e =
      let is = stepping-oscillates first.netlist first.limit (whole first) now.machine small at.stepping (end-is Oscillates e) in
      (next-is ∙ ap (with_machine first) is.0, sym (ap is_machine_due machine-is ∙ is.1))

  pub at-falls : first.limit ≤ 2 ^ 32 - 1 → More ≡ machine_end now.limit next.machine →
      next.limit - next.machine.passes < now.limit - now.machine.passes
  at-falls small e =
      let falls = stepping-falls first.netlist first.limit (whole first) now.machine small at.stepping (end-is More e) in
      let limit = ap (λ (q : PlainMachine). q.limit) next-is in
      let passes = ap (λ (m : Machine). m.passes) machine-is in
      let same = limit-is in
      omega arith
