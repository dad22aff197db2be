-- What a netlist and a stimulus are to be, so that a run of them has a meaning.
use Rattle.std.specs.Prelude.{◌≡◌, ◌≢◌, ℕ, ◌<◌, ◌≤◌, ◌^◌, List, length, map, All, slice_index}
use Rattle.std.specs.List.{Contains}
use Rattle.gate_net.specs.declared.netlist.Gate.{Gate}
use Rattle.gate_net.specs.declared.netlist.Netlist.{Netlist}
use Rattle.gate_net.specs.declared.stimulus.ValueLine.{ValueLine}
use Rattle.gate_net.specs.declared.stimulus.Stimulus.{Stimulus}

-- the numbers are nets
abbrev pub AreNets : ℕ → List ℕ → Type 0
AreNets count nets = (k : ℕ) → k < length nets → slice_index nets k < count

-- no number stands twice
abbrev pub AreApart : List ℕ → Type 0
AreApart nets = (j k : ℕ) → j < k → k < length nets → slice_index nets j ≢ slice_index nets k

-- the net that each gate drives
abbrev pub driven_nets : List Gate → List ℕ
driven_nets gates = map (λ g. g.output) gates

-- a gate reads and drives nets, and reads one at least
pub record IsGate (count : ℕ) (gate : Gate) : Type 0 where
  pub output : gate.output < count
  pub inputs : AreNets count gate.inputs
  pub some : 0 < length gate.inputs

-- all numbers are in range, and each net has one driver at most
pub record IsSound (netlist : Netlist) : Type 0 where
  pub few_nets : length netlist.names ≤ 1048576
  pub few_gates : length netlist.gates ≤ 1048576
  pub inputs : AreNets (length netlist.names) netlist.inputs
  pub inputs_apart : AreApart netlist.inputs
  pub outputs : AreNets (length netlist.names) netlist.outputs
  pub gates : All (IsGate (length netlist.names)) netlist.gates
  pub one_driver : AreApart (driven_nets netlist.gates)
  pub inputs_free : (j k : ℕ) → j < length netlist.inputs → k < length netlist.gates → slice_index netlist.inputs j ≢ slice_index (driven_nets netlist.gates) k

-- the times of the lines
abbrev pub times_of : List ValueLine → List ℕ
times_of lines = map (λ line. line.time) lines

-- the stimulus names inputs of the netlist, each once; its lines have a value for each, at rising times up to the end
pub record IsLawful (netlist : Netlist) (stimulus : Stimulus) : Type 0 where
  pub known : All (Contains netlist.inputs) stimulus.inputs
  pub apart : AreApart stimulus.inputs
  pub widths : All (λ line. length line.values ≡ length stimulus.inputs) stimulus.lines
  pub rising : (j k : ℕ) → j < k → k < length stimulus.lines → slice_index (times_of stimulus.lines) j < slice_index (times_of stimulus.lines) k
  pub ended : All (λ time. time ≤ stimulus.end) (times_of stimulus.lines)
  pub limit : stimulus.end ≤ 2 ^ 40
