-- A time step of a machine is what passes make that are repeated while they leave more to do.
use Rattle.std.proofs.Common.{◌≡◌, ◌⊎◌, ℕ, zero, suc, ◌+◌, ◌-◌, ◌^◌, ◌<◌, ◌≤◌, Bool, true, false, cond, List, refl, ap, sym, ◌∙◌, inl, inr, arith}
use Rattle.std.proofs.lemmas.Bool.{lt-leb, le-leb}
use Rattle.level_range.specs.Signal.{Signal}
use Rattle.flat_net.specs.Patches.{Netlist}
use Rattle.cell_step.specs.declared.states.PassEnd.TheVariants.{Quiet, More, Oscillates}
use Rattle.machine.specs.Machine.{Machine, begin}
use Rattle.machine.specs.Pass.{is_machine_due, one_more, pass, pass_end, machine_end}
use Rattle.machine.specs.System.{repeat_pass, step_at, machines}
use Rattle.machine.proofs.Steps.{step-is}

pass-count : (netlist : Netlist) (m : Machine) → (pass netlist m).passes ≡ one_more m.passes
unfolding pass
pass-count netlist m = refl

-- so many passes are counted, up to the last value of the count
pub repeat_pass-count : (netlist : Netlist) (count : ℕ) (m : Machine) → m.passes + count ≤ 2 ^ 32 - 1 →
    (repeat_pass (machines netlist) count m).passes ≡ m.passes + count
unfolding repeat_pass
repeat_pass-count netlist zero m small = omega arith
repeat_pass-count netlist (suc count) m small =
    let one : (pass netlist m).passes ≡ m.passes + 1 = pass-count netlist m ∙ (let e : one_more m.passes ≡ m.passes + 1 = omega arith in e) in
    let rest = repeat_pass-count netlist count (pass netlist m) (omega arith) in
    omega arith

due-more : (due : Bool) (passes limit : ℕ) → due ≡ true → passes < limit → pass_end due passes limit ≡ More
due-more true passes limit e fewer = rw (lt-leb limit passes fewer) refl
due-more false passes limit e fewer = cc

due-oscillates : (due : Bool) (passes limit : ℕ) → due ≡ true → limit ≤ passes → pass_end due passes limit ≡ Oscillates
due-oscillates true passes limit e all = rw (le-leb limit passes all) refl
due-oscillates false passes limit e all = cc

module _ (netlist : Netlist) (limit tick : ℕ) (inputs : List Signal) (m : Machine) (some : 1 ≤ limit) (small : limit ≤ 2 ^ 32 - 1) where
  abbrev begun : Machine
  begun = begin tick inputs m

  abbrev after : Machine
  after = step_at (machines netlist) limit tick inputs m

  -- how many passes the step makes
  pub step_count : ℕ
  step_count = suc (step-is (machines netlist) limit begun).count

  pub step-made : after ≡ repeat_pass (machines netlist) step_count begun
  unfolding step_count repeat_pass
  step-made = (step-is (machines netlist) limit begun).made

  pub step_count-most : step_count ≤ limit
  unfolding step_count
  step_count-most = let le = (step-is (machines netlist) limit begun).most in omega arith

  due-then : (k : ℕ) → is_machine_due (repeat_pass (machines netlist) k (pass netlist begun)) ≡ true →
      is_machine_due (repeat_pass (machines netlist) (suc k) begun) ≡ true
  unfolding repeat_pass
  due-then k e = e

  last-count : (step-is (machines netlist) limit begun).count ≡ limit - 1 → step_count ≡ limit
  unfolding step_count
  last-count all = omega arith

  -- each pass but the last leaves more to do
  pub step-more : (k : ℕ) → suc k < step_count → machine_end limit (repeat_pass (machines netlist) (suc k) begun) ≡ More
  unfolding step_count
  step-more k fewer =
      let is = step-is (machines netlist) limit begun in
      let most = is.most in
      let count = repeat_pass-count netlist (suc k) begun (omega arith) in
      due-more (is_machine_due (repeat_pass (machines netlist) (suc k) begun)) (repeat_pass (machines netlist) (suc k) begun).passes limit
      (due-then k (is.due k (omega arith))) (omega arith)

  -- the last leaves nothing due, or something is due and the limit is reached
  pub step-end : machine_end limit after ≡ cond (is_machine_due after) Oscillates Quiet
  step-end = by_stop (is_machine_due after) refl (step-is (machines netlist) limit begun).stops
    where
      by_stop : (b : Bool) → is_machine_due after ≡ b → (is_machine_due after ≡ false) ⊎ ((step-is (machines netlist) limit begun).count ≡ limit - 1) →
          pass_end b after.passes limit ≡ cond b Oscillates Quiet
      by_stop false e stops = refl
      by_stop true e (inl quiet) = absurd (let f : true ≡ false = sym e ∙ quiet in cc)
      by_stop true e (inr all) =
          let count = repeat_pass-count netlist step_count begun (let le = step_count-most in omega arith) in
          let same : after.passes ≡ (repeat_pass (machines netlist) step_count begun).passes = ap (λ (n : Machine). n.passes) step-made in
          let last = last-count all in
          due-oscillates true after.passes limit refl (omega arith)
