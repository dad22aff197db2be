-- What the parts of a declaration say, put together.
use Rattle.std.proofs.Common.{◌≡◌, ℕ, ◌+◌, Bool, true, false, cond, not, ◌||◌, ◌&&◌, nat_lt, List, [], ◌∷◌, ◌++◌, length, map, Option, Some, None, refl, sym, ap, ◌∙◌, arith, length-append, append_assoc}
use Rattle.std.specs.List.{flat_map, list_any, count_by}
use Rattle.std.specs.Option.{option_or}
use Rattle.level_range.specs.declared.range.Logic.{Logic}
use Rattle.name_table.specs.Names.{same_name, is_among}
use Rattle.std.proofs.lemmas.List.Folds.{list_any-append}
use Rattle.v_tree.specs.declared.locations.Name.{Name}
use Rattle.v_tree.specs.declared.primitives.Lit.{Lit}
use Rattle.v_tree.specs.declared.primitives.UdpInput.{UdpInput}
use Rattle.v_tree.specs.declared.primitives.UdpPorts.{UdpPorts}
use Rattle.v_tree.specs.declared.primitives.UdpPorts.TheVariants.{Names, Declared}
use Rattle.v_tree.specs.declared.primitives.UdpItem.{UdpItem}
use Rattle.v_tree.specs.declared.primitives.UdpItem.TheVariants.{Output, Input, Reg}
use Rattle.v_tree.specs.declared.primitives.UdpInitial.{UdpInitial}
use Rattle.v_tree.specs.declared.primitives.UdpDecl.{UdpDecl}
use Rattle.primitive_rules.specs.declared.counts.NameCounts.{NameCounts}
use Rattle.primitive_rules.specs.Arguments.{first_value, has_reg, is_empty}
use Rattle.primitive_rules.specs.Counting.{came_once, count_names, no_counts}
use Rattle.primitive_rules.specs.Headers.{breaks_directions, breaks_first, breaks_others, breaks_regs, breaks_starts, is_once, names_first, names_port, is_wrong_start}
use Rattle.primitive_rules.specs.Ports.{Start, name_if, start_if, header_names, first_port, directions, header_outputs, item_outputs, outputs, header_regs, item_regs, regs, header_starts, item_starts, initial_starts, starts}
use Rattle.primitive_rules.proofs.Lists.{first_value-append, list_any-parts, list_any-same, list_any-map, is_empty-append, is_empty-flat_map, length-flat_map_single}
use Rattle.primitive_rules.proofs.CountLaws.{came_once-is_once, is_among-counted}

-- ---- `reg`

pub has_reg_parts : (udp : UdpDecl) → has_reg udp ≡ (not (is_empty (header_regs udp.ports)) || list_any (λ item. not (is_empty (item_regs item))) udp.items)
has_reg_parts udp =
    is_empty-append (header_regs udp.ports) (flat_map item_regs udp.items)
    ∙ ap (λ (b : Bool). not (is_empty (header_regs udp.ports)) || b) (is_empty-flat_map item_regs udp.items)

length-name_if : (b : Bool) (name : Name) → length (name_if b name) ≡ cond (not (is_empty (name_if b name))) 1 0
length-name_if true name = refl
length-name_if false name = refl

single_reg : (item : UdpItem) → length (item_regs item) ≡ cond (not (is_empty (item_regs item))) 1 0
single_reg (Output location is_reg name start) = length-name_if is_reg name
single_reg (Input location names) = refl
single_reg (Reg location name) = refl

header_reg : (ports : UdpPorts) → length (header_regs ports) ≡ cond (not (is_empty (header_regs ports))) 1 0
header_reg (Names names) = refl
header_reg (Declared is_reg output start inputs) = length-name_if is_reg output

pub length_regs : (udp : UdpDecl) → length (regs udp) ≡ count_by (λ item. not (is_empty (item_regs item))) udp.items + cond (not (is_empty (header_regs udp.ports))) 1 0
length_regs udp =
    length-append (header_regs udp.ports) (flat_map item_regs udp.items)
    ∙ (ap (λ (n : ℕ). n + length (flat_map item_regs udp.items)) (header_reg udp.ports)
    ∙ (ap (λ (n : ℕ). cond (not (is_empty (header_regs udp.ports))) 1 0 + n) (length-flat_map_single item_regs single_reg udp.items)
    ∙ omega arith))

pub other_regs : (first : List ℕ) (udp : UdpDecl) → list_any (λ name. not (same_name first name.text)) (regs udp)
    ≡ (list_any (λ name. not (same_name first name.text)) (header_regs udp.ports) || list_any (λ item. list_any (λ name. not (same_name first name.text)) (item_regs item)) udp.items)
other_regs first udp = list_any-parts (λ (name : Name). not (same_name first name.text)) (header_regs udp.ports) item_regs udp.items

pub other_regs_of : (first : List ℕ) (udp : UdpDecl) → first ≡ first_port udp.ports → list_any (λ name. not (names_first udp name)) (regs udp)
    ≡ (list_any (λ name. not (same_name first name.text)) (header_regs udp.ports) || list_any (λ item. list_any (λ name. not (same_name first name.text)) (item_regs item)) udp.items)
other_regs_of first udp is =
    ap (λ (text : List ℕ). list_any (λ (name : Name). not (same_name text name.text)) (regs udp)) (sym is) ∙ other_regs first udp

-- ---- start values

length-start_if : (name : Name) (value : Option Lit) → length (start_if name value) ≡ cond (not (is_empty (start_if name value))) 1 0
length-start_if name None = refl
length-start_if name (Some value) = refl

single_start : (item : UdpItem) → length (item_starts item) ≡ cond (not (is_empty (item_starts item))) 1 0
single_start (Output location is_reg name start) = length-start_if name start
single_start (Input location names) = refl
single_start (Reg location name) = refl

header_start : (ports : UdpPorts) → length (header_starts ports) ≡ cond (not (is_empty (header_starts ports))) 1 0
header_start (Names names) = refl
header_start (Declared is_reg output start inputs) = length-start_if output start

pub length_starts : (udp : UdpDecl) → length (starts udp)
    ≡ cond (not (is_empty (header_starts udp.ports))) 1 0 + count_by (λ item. not (is_empty (item_starts item))) udp.items + length (initial_starts udp.initial)
length_starts udp =
    length-append (header_starts udp.ports ++ flat_map item_starts udp.items) (initial_starts udp.initial)
    ∙ ap (λ (n : ℕ). n + length (initial_starts udp.initial))
    (length-append (header_starts udp.ports) (flat_map item_starts udp.items)
    ∙ (ap (λ (n : ℕ). n + length (flat_map item_starts udp.items)) (header_start udp.ports)
    ∙ ap (λ (n : ℕ). cond (not (is_empty (header_starts udp.ports))) 1 0 + n) (length-flat_map_single item_starts single_start udp.items)))

pub wrong_starts : (first : List ℕ) (udp : UdpDecl) → list_any (is_wrong_start first) (starts udp)
    ≡ ((list_any (is_wrong_start first) (header_starts udp.ports) || list_any (λ item. list_any (is_wrong_start first) (item_starts item)) udp.items)
    || list_any (is_wrong_start first) (initial_starts udp.initial))
wrong_starts first udp =
    list_any-append (is_wrong_start first) (header_starts udp.ports ++ flat_map item_starts udp.items) (initial_starts udp.initial)
    ∙ ap (λ (b : Bool). b || list_any (is_wrong_start first) (initial_starts udp.initial)) (list_any-parts (is_wrong_start first) (header_starts udp.ports) item_starts udp.items)

pub wrong_starts_of : (first : List ℕ) (udp : UdpDecl) → first ≡ first_port udp.ports → list_any (is_wrong_start (first_port udp.ports)) (starts udp)
    ≡ ((list_any (is_wrong_start first) (header_starts udp.ports) || list_any (λ item. list_any (is_wrong_start first) (item_starts item)) udp.items)
    || list_any (is_wrong_start first) (initial_starts udp.initial))
wrong_starts_of first udp is = ap (λ (text : List ℕ). list_any (is_wrong_start text) (starts udp)) (sym is) ∙ wrong_starts first udp

-- the first start value that is written
pub first_value_parts : (udp : UdpDecl) → first_value (starts udp)
    ≡ option_or (option_or (first_value (header_starts udp.ports)) (first_value (flat_map item_starts udp.items))) (first_value (initial_starts udp.initial))
first_value_parts udp =
    first_value-append (header_starts udp.ports ++ flat_map item_starts udp.items) (initial_starts udp.initial)
    ∙ ap (λ (first : Option Logic). option_or first (first_value (initial_starts udp.initial))) (first_value-append (header_starts udp.ports) (flat_map item_starts udp.items))

-- ---- directions

pub any_port_not_once : (c : NameCounts) (is_reg : Bool) (output : Name) (start : Option Lit) (inputs : List UdpInput) →
    list_any (λ port. not (came_once c port.text)) (header_names (Declared is_reg output start inputs))
    ≡ (not (came_once c output.text) || list_any (λ i. not (came_once c i.name.text)) inputs)
any_port_not_once c is_reg output start inputs =
    ap (λ (b : Bool). not (came_once c output.text) || b) (list_any-map (λ (port : Name). not (came_once c port.text)) (λ (i : UdpInput). i.name) inputs)

pub breaks_directions_counted : (udp : UdpDecl) → list_any (λ port. not (came_once (count_names no_counts (directions udp)) port.text)) (header_names udp.ports) ≡ breaks_directions udp
breaks_directions_counted udp =
    list_any-same (λ (port : Name). not (came_once (count_names no_counts (directions udp)) port.text)) (λ (port : Name). not (is_once port.text (directions udp)))
    (λ (port : Name). ap (λ (b : Bool). not b) (came_once-is_once (directions udp) port.text)) (header_names udp.ports)

pub any_output : (first : List ℕ) (udp : UdpDecl) → list_any (λ name. same_name first name.text) (outputs udp)
    ≡ (list_any (λ name. same_name first name.text) (header_outputs udp.ports) || list_any (λ item. list_any (λ name. same_name first name.text) (item_outputs item)) udp.items)
any_output first udp = list_any-parts (λ (name : Name). same_name first name.text) (header_outputs udp.ports) item_outputs udp.items

pub breaks_first_parts : (first : List ℕ) (udp : UdpDecl) → first ≡ first_port udp.ports → breaks_first udp
    ≡ not (list_any (λ name. same_name first name.text) (header_outputs udp.ports) || list_any (λ item. list_any (λ name. same_name first name.text) (item_outputs item)) udp.items)
breaks_first_parts first udp is =
    ap (λ (text : List ℕ). not (list_any (λ (name : Name). same_name text name.text) (outputs udp))) (sym is)
    ∙ ap (λ (b : Bool). not b) (any_output first udp)

pub breaks_others_counted : (first : List ℕ) (c : NameCounts) (udp : UdpDecl) → first ≡ first_port udp.ports → c ≡ count_names no_counts (header_names udp.ports) →
    (list_any (λ name. not (same_name first name.text) && is_among name.text c.seen) (header_outputs udp.ports)
    || list_any (λ item. list_any (λ name. not (same_name first name.text) && is_among name.text c.seen) (item_outputs item)) udp.items) ≡ breaks_others udp
breaks_others_counted first c udp is_first is_counted =
    sym (list_any-parts (λ (name : Name). not (same_name first name.text) && is_among name.text c.seen) (header_outputs udp.ports) item_outputs udp.items)
    ∙ list_any-same (λ (name : Name). not (same_name first name.text) && is_among name.text c.seen) (λ (name : Name). not (names_first udp name) && names_port udp name) same (outputs udp)
  where
    same : (name : Name) → (not (same_name first name.text) && is_among name.text c.seen) ≡ (not (names_first udp name) && names_port udp name)
    same name =
        ap (λ (text : List ℕ). not (same_name text name.text) && is_among name.text c.seen) is_first
        ∙ ap (λ (b : Bool). not (names_first udp name) && b)
        (ap (λ (d : NameCounts). is_among name.text d.seen) is_counted ∙ is_among-counted (header_names udp.ports) name.text)
