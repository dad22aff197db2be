-- The rule on the headers of primitives (IEEE 1364-2005, 8.1.1 to 8.1.4).
use Rattle.std.specs.Prelude.{ℕ, nat_eq, nat_lt, Bool, not, ◌&&◌, ◌||◌, List, length, if◌then◌else◌}
use Rattle.std.specs.List.{list_any, count_by}
use Rattle.std.specs.Option.{is_none}
use Rattle.name_table.specs.Names.{same_name, is_among}
use Rattle.v_tree.specs.declared.locations.Name.{Name}
use Rattle.v_tree.specs.declared.primitives.UdpDecl.{UdpDecl}
use Rattle.primitive_rules.specs.Arguments.{has_reg, has_state}
use Rattle.primitive_rules.specs.Ports.{Start, header_names, first_port, directions, outputs, regs, starts}
use Rattle.primitive_rules.specs.Starts.{start_value}

-- how often a name stands among others
abbrev pub count_of : List ℕ → List Name → ℕ
count_of name names = count_by (λ other. same_name name other.text) names

-- it stands there once
abbrev pub is_once : List ℕ → List Name → Bool
is_once name names = nat_eq (count_of name names) 1

-- a port of the header has no direction, or several
abbrev pub breaks_directions : UdpDecl → Bool
breaks_directions udp = list_any (λ port. not (is_once port.text (directions udp))) (header_names udp.ports)

-- the name is that of the first port
abbrev pub names_first : UdpDecl → Name → Bool
names_first udp name = same_name (first_port udp.ports) name.text

-- the name is that of a port
abbrev pub names_port : UdpDecl → Name → Bool
names_port udp name = list_any (λ port. same_name name.text port.text) (header_names udp.ports)

-- the first port isn't an output
abbrev pub breaks_first : UdpDecl → Bool
breaks_first udp = not (list_any (names_first udp) (outputs udp))

-- another port is an output
abbrev pub breaks_others : UdpDecl → Bool
breaks_others udp = list_any (λ name. not (names_first udp name) && names_port udp name) (outputs udp)

-- a `reg` is of another name than the first port, or stands twice
abbrev pub breaks_regs : UdpDecl → Bool
breaks_regs udp = list_any (λ name. not (names_first udp name)) (regs udp) || nat_lt 1 (length (regs udp))

-- an `initial` is of another name than this one, or its value isn't 0, 1 or x
abbrev pub is_wrong_start : List ℕ → Start → Bool
is_wrong_start name s = not (same_name name s.name.text) || is_none (start_value s.value)

-- such an `initial`, or one that stands twice
abbrev pub breaks_starts : UdpDecl → Bool
breaks_starts udp = list_any (is_wrong_start (first_port udp.ports)) (starts udp) || nat_lt 1 (length (starts udp))

-- a row has a state field and there is no `reg`, or there is a `reg` and a row has no state field
abbrev pub breaks_rows : UdpDecl → Bool
breaks_rows udp = list_any (λ r. if has_reg udp then not (has_state r) else has_state r) udp.rows

-- the header is wrong in one of these ways
abbrev pub breaks_header : UdpDecl → Bool
breaks_header udp =
    breaks_directions udp
    || (breaks_first udp || (breaks_others udp || (breaks_regs udp || (breaks_starts udp || breaks_rows udp))))
