-- For the code and its proofs alone: the fields of a plain run, and the machine for which they stand.
use Rattle.std.specs.Prelude.{◌≡◌, ◌≤◌, ◌^◌, ◌++◌, length}
use Rattle.machine.specs.Machine.{Machine}
use Rattle.plain_sim.specs.Plain.{PlainMachine}
use Rattle.plain_sim.specs.Lists.{AreElements, AreIslands, AreForced, HasRoom}
use Rattle.plain_sim.specs.Due.{AreSoon, AreDueTimes, HasKeyRoom, key_count}
use Rattle.plain_sim.specs.declared.run.PlainRun.TheInside.{Inside}

-- the machine of the fields: the elements stand before the islands
abbrev pub machine_of : Inside → Machine
machine_of r = record {
  time = r.time;
  passes = r.passes;
  has_passed = r.has_passed;
  inputs = r.inputs.items;
  last_inputs = r.last_inputs.items;
  cells = r.elements.items ++ r.islands.items;
}

abbrev pub plain_of : Inside → PlainMachine
plain_of r = record { netlist = r.flat.now; limit = r.limit; machine = machine_of r }

-- each cell has a state that fits it, each input a signal, the bench has room for each island, and the wheel has the times
-- for which something is pending, and room for each key
pub record IsPlain (r : Inside) : Type 0 where
  pub elements : AreElements r.flat.now.parts r.elements.items
  pub islands : AreIslands r.flat.now.parts r.islands.items
  pub inputs : length r.inputs.items ≡ length r.flat.now.parts.inputs
  pub last_inputs : length r.last_inputs.items ≡ length r.flat.now.parts.inputs
  pub forced : AreForced r.flat.now.parts r.inputs.items r.forced.items
  pub room : HasRoom r.flat.now.parts r.bench
  pub soon_elements : AreSoon r.elements.items
  pub soon_islands : AreSoon r.islands.items
  pub due : AreDueTimes r.flat.now.parts r.elements.items r.islands.items r.due.times
  pub keys : HasKeyRoom (key_count r.flat.now.parts) r.due
  pub time : r.time ≤ 2 ^ 48
