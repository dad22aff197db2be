-- Time steps of anything that makes passes. The limit of passes is this project's own.
use Rattle.std.specs.Prelude.{◌≡◌, ◌⊎◌, ℕ, zero, suc, ◌-◌, ◌<◌, ◌≤◌, Bool, true, false, if◌then◌else◌, List}
use Rattle.level_range.specs.Signal.{Signal}
use Rattle.flat_net.specs.Patches.{Netlist}
use Rattle.machine.specs.Machine.{Machine, begin}
use Rattle.machine.specs.Pass.{pass, is_machine_due, due_times}

-- what a system does: it makes a pass, and begins a time with inputs in force; and what is known of it: whether something
-- is due at its time, and the times for which something is pending
pub record System (M : Type 0) : Type 0 where
  pub pass : M → M
  pub begin : ℕ → List Signal → M → M
  pub is_due : M → Bool
  pub due_times : M → List ℕ

-- further passes while something is due, up to a number of them
unfoldable pub further : {M : Type 0} → System M → ℕ → M → M
further system zero m = m
further system (suc left) m = if system.is_due m then further system left (system.pass m) else m

-- a time step: a first pass, and further ones while something is due, up to the limit of passes
unfoldable pub step : {M : Type 0} → System M → ℕ → M → M
step system limit m = further system (limit - 1) (system.pass m)

-- a time step at a tick, with these inputs in force; it oscillates where something is due after it
abbrev pub step_at : {M : Type 0} → System M → ℕ → ℕ → List Signal → M → M
step_at system limit tick inputs m = step system limit (system.begin tick inputs m)

-- so many passes
unfoldable pub repeat_pass : {M : Type 0} → System M → ℕ → M → M
repeat_pass system zero m = m
repeat_pass system (suc count) m = repeat_pass system count (system.pass m)

-- a time step by what it is: a first pass and so many further ones, before each of which something is due; after the last
-- nothing is, or there were as many as may be
pub record IsStep {M : Type 0} (system : System M) (limit : ℕ) (m after : M) : Type 0 where
  pub count : ℕ
  pub most : count ≤ limit - 1
  pub made : after ≡ repeat_pass system count (system.pass m)
  pub due : (k : ℕ) → k < count → system.is_due (repeat_pass system k (system.pass m)) ≡ true
  pub stops : (system.is_due after ≡ false) ⊎ (count ≡ limit - 1)

-- the machines of a netlist
abbrev pub machines : Netlist → System Machine
machines netlist = record { pass = pass netlist; begin = begin; is_due = is_machine_due; due_times = due_times }
