-- Machines: plain data, with one state for each element and each net.
use Rattle.std.specs.Prelude.{ℕ, Bool, false, List, length, replicate, slice_index_or, Option, None}
use Rattle.level_range.specs.Signal.{Signal, span_of}
use Rattle.level_range.specs.declared.range.Logic.{Logic}
use Rattle.level_range.specs.declared.range.Logic.TheVariants.{X, Z}
use Rattle.gate_net.specs.declared.netlist.Netlist.{Netlist}

-- a logic value of strong strength: St0, St1, StX or HiZ
abbrev pub strong : Logic → Signal
strong value = span_of value 6 6

-- what is to become of an output, and at which tick
pub record Pending : Type 0 where
  pub value : Signal
  pub at : ℕ

-- an element's present output, and its pending change
pub record ElementState : Type 0 where
  pub out : Signal
  pub due : Option Pending

-- what a net's drivers give, and what the elements see of it
pub record NetState : Type 0 where
  pub settled : Signal
  pub seen : Signal

-- a machine of a netlist: its time in ticks, how many passes it made at this time, whether it ever made one, the
-- inputs in force and those of its last pass (one for each input of the netlist), and the states of its cells
pub record Machine : Type 0 where
  pub time : ℕ
  pub passes : ℕ
  pub passed : Bool
  pub inputs : List Signal
  pub last_inputs : List Signal
  pub elements : List ElementState
  pub nets : List NetState

-- an element starts at x
abbrev pub fresh_element : ElementState
fresh_element = record { out = strong X; due = None }

-- a net starts at z
abbrev pub fresh_net : NetState
fresh_net = record { settled = strong Z; seen = strong Z }

unfoldable pub start : Netlist → Machine
start netlist = record {
  time = 0;
  passes = 0;
  passed = false;
  inputs = replicate (length netlist.inputs) (strong Z);
  last_inputs = replicate (length netlist.inputs) (strong Z);
  elements = replicate (length netlist.gates) fresh_element;
  nets = replicate (length netlist.names) fresh_net;
}

abbrev pub element_at : Machine → ℕ → ElementState
element_at m k = slice_index_or m.elements k fresh_element

abbrev pub net_at : Machine → ℕ → NetState
net_at m n = slice_index_or m.nets n fresh_net
