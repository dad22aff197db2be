-- What a plain run stands for: a machine of one netlist, and how many passes it may make at one time.
use Rattle.std.specs.Prelude.{ℕ}
use Rattle.level_range.specs.Signal.{Signal}
use Rattle.flat_net.specs.Patches.{Netlist}
use Rattle.machine.specs.Machine.{Machine, net_state}

-- the netlist, the limit of passes, and the machine
pub record PlainMachine : Type 0 where
  pub netlist : Netlist
  pub limit : ℕ
  pub machine : Machine

-- the same with another machine
abbrev pub with_machine : PlainMachine → Machine → PlainMachine
with_machine plain m = record plain { machine = m }

-- the signal that is seen of a net
abbrev pub seen_signal : PlainMachine → ℕ → Signal
seen_signal plain net = (net_state plain.netlist.parts plain.machine.cells net).seen
