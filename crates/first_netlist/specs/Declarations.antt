-- A module's tree, and what it declares, by kind.
use Rattle.std.specs.Prelude.{ℕ, List, [], ◌∷◌, ◌++◌, Option, Some}
use Rattle.first_netlist.specs.declared.tree.Direction.TheVariants.{Input, Output}
use Rattle.first_netlist.specs.declared.tree.Instance.{Instance}
use Rattle.first_netlist.specs.declared.tree.Item.{Item}
use Rattle.first_netlist.specs.declared.tree.Item.TheVariants.{Ports, Wires, Gates}
use Rattle.first_netlist.specs.declared.tree.Module.{Module}
use Rattle.gate_net.specs.Steps.{◌>>=◌}

-- a module: the names of its header, and its items
pub record Tree : Type 0 where
  pub header : List (List ℕ)
  pub items : List Item

-- the header, and what the items declare, each kind in text order
pub record Declarations : Type 0 where
  pub header : List (List ℕ)
  pub inputs : List (List ℕ)
  pub outputs : List (List ℕ)
  pub wires : List (List ℕ)
  pub gates : List Instance

-- a module of the program without where it lies in memory
abbrev pub module_view : Module → Declarations
module_view m = record { header = m.header.items; inputs = m.inputs.items; outputs = m.outputs.items; wires = m.wires.items; gates = m.gates.items }

-- what an item declares besides
abbrev pub with_item : Declarations → Item → Declarations
with_item d (Ports Input names) = record d { inputs = d.inputs ++ names }
with_item d (Ports Output names) = record d { outputs = d.outputs ++ names }
with_item d (Wires names) = record d { wires = d.wires ++ names }
with_item d (Gates gates) = record d { gates = d.gates ++ gates }

-- what all the items declare
abbrev pub with_items : Declarations → List Item → Declarations
with_items d [] = d
with_items d (item ∷ items) = with_items (with_item d item) items

-- what was declared before the items, and what they declare, where they could be read
abbrev pub with_read_items : Declarations → Option (List Item) → Option Declarations
with_read_items d read = read >>= λ items. Some (with_items d items)

-- what a module declares
abbrev pub declarations_of : Tree → Declarations
declarations_of tree = with_items (record { header = tree.header; inputs = []; outputs = []; wires = []; gates = [] }) tree.items
