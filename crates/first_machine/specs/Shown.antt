-- How the plain run keeps a machine: lists of logic values, each standing for a strong signal.
use Rattle.std.specs.Prelude.{◌≡◌, ◌≢◌, ℕ, ◌<◌, Bool, true, false, List, length, map, slice_index_or, Some, None, if◌then◌else◌}
use Rattle.level_range.specs.declared.range.Logic.{Logic}
use Rattle.level_range.specs.declared.range.Logic.TheVariants.{Zero, One, X, Z}
use Rattle.logic_tables.specs.Fold.{gate_value}
use Rattle.logic_tables.specs.declared.kinds.FoldKind.TheVariants.{Nand}
use Rattle.gate_net.specs.declared.netlist.Gate.{Gate}
use Rattle.gate_net.specs.declared.netlist.Netlist.{Netlist}
use Rattle.first_machine.specs.Machine.{Machine, ElementState, NetState, strong, element_at, net_at}
use Rattle.first_machine.specs.Pass.{gate_at}

-- the present outputs and the targets of the gates, the seen values of the nets, the values in force of the inputs
pub record Values : Type 0 where
  pub outs : List Logic
  pub targets : List Logic
  pub seen : List Logic
  pub forced : List Logic

abbrev pub values_from : List Logic → List Logic → List Logic → List Logic → Values
values_from outs targets seen forced = record { outs = outs; targets = targets; seen = seen; forced = forced }

-- other values in force
abbrev pub with_forced : Values → List Logic → Values
with_forced values forced = values_from values.outs values.targets values.seen forced

abbrev pub logic_at : List Logic → ℕ → Logic
logic_at values k = slice_index_or values k X

abbrev pub same_logic : Logic → Logic → Bool
same_logic Zero Zero = true
same_logic One One = true
same_logic X X = true
same_logic Z Z = true
same_logic a b = false

-- an element whose target is pending where it isn't the present output
abbrev pub element_of : ℕ → Logic → Logic → ElementState
element_of now out target = record { out = strong out; due = if same_logic out target then None else Some (record { value = strong target; at = now }) }

abbrev pub net_of : Logic → NetState
net_of value = record { settled = strong value; seen = strong value }

-- no gate drives the net
abbrev pub IsUndriven : Netlist → ℕ → Type 0
IsUndriven netlist n = (k : ℕ) → k < length netlist.gates → (gate_at netlist k).output ≢ n

-- the net is no input
abbrev pub IsNoInput : Netlist → ℕ → Type 0
IsNoInput netlist n = (k : ℕ) → k < length netlist.inputs → slice_index_or netlist.inputs k 0 ≢ n

-- each list has a value for each of its things
pub record HaveSizes (netlist : Netlist) (values : Values) : Type 0 where
  pub outs : length values.outs ≡ length netlist.gates
  pub targets : length values.targets ≡ length netlist.gates
  pub seen : length values.seen ≡ length netlist.names
  pub forced : length values.forced ≡ length netlist.inputs

-- the values stand for the machine
pub record AreShown (netlist : Netlist) (values : Values) (m : Machine) : Type 0 where
  pub sizes : HaveSizes netlist values
  pub elements_len : length m.elements ≡ length netlist.gates
  pub elements : (k : ℕ) → k < length netlist.gates → element_at m k ≡ element_of m.time (logic_at values.outs k) (logic_at values.targets k)
  pub nets_len : length m.nets ≡ length netlist.names
  pub nets : (n : ℕ) → n < length netlist.names → net_at m n ≡ net_of (logic_at values.seen n)
  pub inputs : m.inputs ≡ map strong values.forced
  pub idle : (n : ℕ) → n < length netlist.names → IsUndriven netlist n → IsNoInput netlist n → logic_at values.seen n ≡ Z

-- what a gate gives for the values that it sees
abbrev pub next_value : Gate → List Logic → Logic
next_value gate seen = gate_value Nand (map (logic_at seen) gate.inputs)

-- what the two phases make of the values
pub record ArePassed (netlist : Netlist) (old new : Values) : Type 0 where
  pub sizes : HaveSizes netlist new
  pub outs : new.outs ≡ old.targets
  pub forced : new.forced ≡ old.forced
  pub driven : (k : ℕ) → k < length netlist.gates → logic_at new.seen (gate_at netlist k).output ≡ logic_at old.targets k
  pub entered : (k : ℕ) → k < length netlist.inputs → logic_at new.seen (slice_index_or netlist.inputs k 0) ≡ logic_at old.forced k
  pub idle : (n : ℕ) → n < length netlist.names → IsUndriven netlist n → IsNoInput netlist n → logic_at new.seen n ≡ logic_at old.seen n
  pub targets : (k : ℕ) → k < length netlist.gates → logic_at new.targets k ≡ next_value (gate_at netlist k) new.seen

-- whether a target differs from its output among the first count
pub record SaysDue (due : Bool) (outs targets : List Logic) (count : ℕ) : Type 0 where
  pub some : due ≡ true → (k : ℕ) × ((k < count) × (same_logic (logic_at outs k) (logic_at targets k) ≡ false))
  pub none : due ≡ false → (k : ℕ) → k < count → same_logic (logic_at outs k) (logic_at targets k) ≡ true
