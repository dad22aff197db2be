-- For the code alone: ports by the indexes of their names.
use Rattle.std.specs.Prelude.{◌≡◌, ℕ, ◌<◌, List, [], length, map, slice_index_or}
use Rattle.std.specs.List.{All}
use Rattle.name_table.specs.Names.{index_of}
use Rattle.module_graph.specs.Numbers.{number_at}
use Rattle.module_ports.specs.declared.entries.PortEntry.{PortEntry}
use Rattle.module_ports.specs.declared.entries.PortEntries.{PortEntries}
use Rattle.module_ports.specs.Ports.{Port, index_in}

-- the port that an entry stands for
abbrev pub port_at : List (List ℕ) → PortEntry → Port
port_at names entry = record { name = slice_index_or names entry.name []; net = entry.net }

abbrev pub ports_at : List (List ℕ) → List PortEntry → List Port
ports_at names entries = map (port_at names) entries

-- the ports that entries stand for
abbrev pub ports_in : PortEntries → List Port
ports_in e = ports_at e.names e.entries

-- each entry has a name, and each name the index of its first entry
pub record AreEntries (e : PortEntries) : Type 0 where
  pub within : All (λ entry. entry.name < length e.names) e.entries
  pub whole : length e.firsts ≡ length e.names
  pub firsts : (name : List ℕ) → index_in name (ports_in e) ≡ number_at e.firsts (index_of name e.names)
