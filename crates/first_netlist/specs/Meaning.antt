-- The netlist that lawful declarations mean.
use Rattle.std.specs.Prelude.{ℕ, suc, Bool, true, not, ◌&&◌, ◌||◌, nat_le, nat_lt, nat_eq, if◌then◌else◌, List, [], ◌∷◌, ◌++◌, length, filter, Option, Some, None}
use Rattle.std.specs.Option.{option_to_list}
use Rattle.std.specs.List.{flat_map, list_all, list_any}
use Rattle.gate_net.specs.Sound.{driven_nets}
use Rattle.gate_net.specs.declared.netlist.Gate.{Gate}
use Rattle.gate_net.specs.declared.netlist.Netlist.{Netlist}
use Rattle.name_table.specs.Names.{is_among, index_of, is_distinct}
use Rattle.first_netlist.specs.declared.tree.Instance.{Instance}
use Rattle.gate_net.specs.Steps.{◌>>=◌, each}
use Rattle.first_netlist.specs.Declarations.{Declarations}

-- the most nets, and the most gates
abbrev pub limit : ℕ
limit = 1048576

-- the names, where none stands twice
unfoldable pub distinct_names : List (List ℕ) → Option (List (List ℕ))
distinct_names names = if is_distinct names then Some names else None

-- each name stands among the others
abbrev pub all_among : List (List ℕ) → List (List ℕ) → Bool
all_among others names = list_all (λ name. is_among name others) names

-- no name stands among the others
abbrev pub none_among : List (List ℕ) → List (List ℕ) → Bool
none_among others names = list_all (λ name. not (is_among name others)) names

-- the names of those instances that have one
abbrev pub instance_names : List Instance → List (List ℕ)
instance_names gates = flat_map (λ gate. option_to_list gate.name) gates

-- the header's names, and then the wires that are no ports, where no header name and no wire is declared twice
unfoldable pub net_names : Declarations → Option (List (List ℕ))
net_names d = do
  header ← distinct_names d.header
  wires ← distinct_names d.wires
  Some (d.header ++ filter (λ name. not (is_among name d.header)) d.wires)

-- the names of the instances, where none stands twice, and none is a net's
unfoldable pub names_besides : List (List ℕ) → List Instance → Option (List (List ℕ))
names_besides nets gates = do
  names ← distinct_names (instance_names gates)
  if none_among nets (instance_names gates) then Some names else None

-- the names of the nets, where nets and instances are declared once each, and there are few enough nets
unfoldable pub nets_of : Declarations → Option (List (List ℕ))
nets_of d = do
  names ← net_names d
  nets ← distinct_names names
  instances ← names_besides nets d.gates
  if nat_le (length nets) limit then Some nets else None

-- the indices, counted from k, of the names that stand among the others
abbrev pub indices_from : ℕ → List (List ℕ) → List (List ℕ) → List ℕ
indices_from k others [] = []
indices_from k others (name ∷ names) = if is_among name others then k ∷ indices_from (suc k) others names else indices_from (suc k) others names

-- directions name header names alone, and each header name has one of the two
abbrev pub ports_agree : List (List ℕ) → List (List ℕ) → List (List ℕ) → Bool
ports_agree header inputs outputs = all_among header inputs && all_among header outputs && none_among inputs outputs && list_all (λ name. is_among name inputs || is_among name outputs) header

-- the nets of the inputs and of the outputs, in header order, where each header name is declared exactly once as one of them
unfoldable pub ports_of : Declarations → Option (List ℕ × List ℕ)
ports_of d = do
  header ← distinct_names d.header
  inputs ← distinct_names d.inputs
  outputs ← distinct_names d.outputs
  if ports_agree d.header d.inputs d.outputs then Some (indices_from 0 inputs d.header, indices_from 0 outputs d.header) else None

-- the indices of a gate's inputs, where all of them are nets, and there is one
unfoldable pub inputs_at : List (List ℕ) → List (List ℕ) → Option (List ℕ)
inputs_at nets names = do
  inputs ← each (λ name. index_of name nets) names
  if nat_lt 0 (length inputs) then Some inputs else None

-- a gate by the indices of its names
unfoldable pub gate_of : List (List ℕ) → Instance → Option Gate
gate_of nets gate = do
  output ← index_of gate.output nets
  inputs ← inputs_at nets gate.inputs
  Some (record { output = output; inputs = inputs })

-- no number stands twice
abbrev pub is_apart : List ℕ → Bool
is_apart [] = true
is_apart (n ∷ ns) = not (list_any (nat_eq n) ns) && is_apart ns

-- the netlist, where all rules are kept: no net is driven twice, and an input counts as driven
unfoldable pub meaning : Declarations → Option Netlist
meaning d = do
  nets ← nets_of d
  ports ← ports_of d
  gates ← each (gate_of nets) d.gates
  if is_apart (ports.0 ++ driven_nets gates) && nat_le (length gates) limit then Some (record { names = nets; inputs = ports.0; outputs = ports.1; gates = gates }) else None
