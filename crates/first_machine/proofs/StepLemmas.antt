-- Passes of a step, one after the other.
use Rattle.std.proofs.Common.{◌≡◌, ℕ, zero, suc, ◌-◌, ◌<◌, Bool, true, false, cond, refl, ◌∙◌, arith}
use Rattle.gate_net.specs.declared.netlist.Netlist.{Netlist}
use Rattle.first_machine.specs.Machine.{Machine}
use Rattle.first_machine.specs.Pass.{is_due, pass, evaluate, settle}
use Rattle.first_machine.specs.Run.{further, step}

pub further_settled : (left : ℕ) (netlist : Netlist) (m : Machine) → is_due m ≡ false → further left netlist m ≡ m
unfolding further
further_settled zero netlist m e = refl
further_settled (suc left) netlist m e = rw e refl

pub further_none : (left : ℕ) (netlist : Netlist) (m : Machine) → left ≡ 0 → further left netlist m ≡ m
unfolding further
further_none zero netlist m e = refl
further_none (suc left) netlist m e = absurd (omega arith)

pub further_more : (left : ℕ) (netlist : Netlist) (m : Machine) → 0 < left → is_due m ≡ true → further left netlist m ≡ further (left - 1) netlist (pass netlist m)
unfolding further
further_more zero netlist m h e = absurd (omega arith)
further_more (suc left) netlist m h e =
    let less : suc left - 1 ≡ left = omega arith in
    rw (e, less) refl

pub first_pass : (limit : ℕ) (netlist : Netlist) (m : Machine) → further (limit - 1) netlist (pass netlist m) ≡ step limit netlist m
unfolding step
first_pass limit netlist m = refl

-- passes keep the time
pass_time : (netlist : Netlist) (m : Machine) → (pass netlist m).time ≡ m.time
unfolding pass evaluate settle
pass_time netlist m = refl

further_time : (left : ℕ) (netlist : Netlist) (m : Machine) → (further left netlist m).time ≡ m.time
unfolding further
further_time zero netlist m = refl
further_time (suc left) netlist m = by_test (further_time left netlist (pass netlist m)) (is_due m)
  where
    by_test : (further left netlist (pass netlist m)).time ≡ (pass netlist m).time → (b : Bool) → (cond b (further left netlist (pass netlist m)) m).time ≡ m.time
    by_test rest true = rest ∙ pass_time netlist m
    by_test rest false = refl

pub step_time : (limit : ℕ) (netlist : Netlist) (m : Machine) → (step limit netlist m).time ≡ m.time
unfolding step
step_time limit netlist m = further_time (limit - 1) netlist (pass netlist m) ∙ pass_time netlist m
