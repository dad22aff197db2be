-- What a module's parts name is among its nets, what they drive has levels of strength, and an instance's connections keep
-- their ports.
use Rattle.std.proofs.Common.{◌≡◌, ℕ, ◌+◌, ◌≤◌, Bool, true, false, List, [], ◌∷◌, ◌++◌, map, Option, Some, None, refl, ap, arith}
use Rattle.std.specs.Prelude.{if◌then◌else◌, slice_get}
use Rattle.std.specs.Option.{option_map_or}
use Rattle.std.specs.List.{AllByRecursion, flat_map}
use Rattle.v_tree.specs.declared.drives.Strength.{Strength}
use Rattle.v_tree.specs.declared.drives.Strength.TheVariants as level
use Rattle.v_tree.specs.declared.drives.Level.{Level}
use Rattle.v_tree.specs.declared.drives.DriveStrength.{DriveStrength}
use Rattle.v_tree.specs.declared.drives.PullLevels.{PullLevels}
use Rattle.v_tree.specs.declared.gates.PullGate.{PullGate}
use Rattle.v_tree.specs.declared.gates.GateKind.{GateKind}
use Rattle.v_tree.specs.declared.gates.GateKind.TheVariants as gate
use Rattle.v_tree.specs.declared.modules.Item.{Item}
use Rattle.v_tree.specs.declared.modules.Item.TheVariants as item
use Rattle.module_scope.specs.declared.scopes.Scope.{Scope}
use Rattle.item_parts.specs.Drives.{is_level_of, pull_level, pulls_to_one}
use Rattle.element_forms.specs.Strengths.{drive_strengths, gate_strengths, pull_strength, pull_strengths, strength_level}
use Rattle.expression_bits.specs.declared.runs.BitRun.TheVariants.{Net as NetRun}
use Rattle.module_parts.specs.declared.parts.ModulePart.{ModulePart}
use Rattle.module_parts.specs.declared.parts.ModulePart.TheVariants.{Names, Gate, Pair, Instance}
use Rattle.module_parts.specs.declared.parts.PortRuns.{PortRuns}
use Rattle.netlist_plan.specs.declared.nets.NetSource.{NetSource}
use Rattle.netlist_plan.specs.declared.nets.NetSource.TheVariants.{Named}
use Rattle.netlist_plan.specs.declared.nets.ModuleNet.{ModuleNet}
use Rattle.netlist_plan.specs.declared.plan.PortBits.{PortBits}
use Rattle.netlist_plan.specs.Unnamed.{literal_count, numbered_from, own_count, runs_in, unnamed_count}
use Rattle.netlist_plan.specs.Nets.{new_sources, part_sources}
use Rattle.netlist_plan.specs.Elements.{connections_bits, runs_bits}
use Rattle.netlist_plan.specs.Plan.{item_strengths, strengths_at}
use Rattle.flattening_laws.proofs.Apart.{each_weaker}
use Rattle.plan_laws.proofs.BitLaws.{AreAmong, among_left, among_new, among_own, among_right, has_name, has_name_left, has_name_right, new_has_name}
use Rattle.plan_laws.specs.SoundParts.{connected_ports}
use Rattle.plan_laws.proofs.GateLaws.{AreLevels}

-- ---- levels of strengths

strength_small : (s : Strength) → strength_level s ≤ 7
strength_small level.Supply = omega arith
strength_small level.Strong = omega arith
strength_small level.Pull = omega arith
strength_small level.Weak = omega arith
strength_small level.Highz = omega arith

drive_small : (d : Option DriveStrength) → AreLevels (drive_strengths d)
drive_small None = (omega arith, omega arith)
drive_small (Some d) = (
  strength_small (if is_level_of false d.first then d.first.strength else d.second.strength),
  strength_small (if is_level_of true d.first then d.first.strength else d.second.strength),
)

pull_small : (g : PullGate) (levels : Option PullLevels) → pull_strength g levels ≤ 7
pull_small g None = omega arith
pull_small g (Some levels) = by_level (pull_level g levels)
  where
    by_level : (o : Option Level) → option_map_or (λ l. strength_level l.strength) o 0 ≤ 7
    by_level None = omega arith
    by_level (Some l) = strength_small l.strength

pulls_small : (g : PullGate) (levels : Option PullLevels) → AreLevels (pull_strengths g levels)
pulls_small g levels = by_value (pulls_to_one g)
  where
    by_value : (b : Bool) → AreLevels (if b then record { zero = 0; one = pull_strength g levels } else record { zero = pull_strength g levels; one = 0 })
    by_value true = (omega arith, pull_small g levels)
    by_value false = (pull_small g levels, omega arith)

gate_small : (kind : GateKind) → AreLevels (gate_strengths kind)
gate_small (gate.Logic g drive delay) = drive_small drive
gate_small (gate.Switch g delay) = drive_small None
gate_small (gate.Tran g) = drive_small None
gate_small (gate.Pull g levels) = pulls_small g levels

item_small : (i : Item) → AreLevels (item_strengths i)
item_small (item.Gates g) = gate_small g.kind
item_small (item.Instances i) = drive_small i.drive
item_small (item.Nets d) = drive_small d.drive
item_small (item.Assign a) = drive_small a.drive
item_small (item.Ports d) = drive_small None
item_small (item.Trireg d) = drive_small None
item_small (item.Cell c) = drive_small None
item_small (item.Specify s) = drive_small None

pub strengths-levels : (items : List Item) (index : ℕ) → AreLevels (strengths_at items index)
strengths-levels items index = by_item (slice_get items index)
  where
    by_item : (o : Option Item) → AreLevels (option_map_or item_strengths o (drive_strengths None))
    by_item None = drive_small None
    by_item (Some i) = item_small i

-- ---- what parts name

abbrev RunsAmong : List NetSource → ℕ × ModulePart → Type 0
RunsAmong sources (number, part) = AreAmong sources (number + own_count part) (runs_in part)

part_among : (number : ℕ) (part : ModulePart) → RunsAmong (part_sources (number, part)) (number, part)
part_among number (Names names) = tt
part_among number (Gate g) = among_own (number + own_count (Gate g)) (runs_in (Gate g))
part_among number (Pair p) = among_own (number + own_count (Pair p)) (runs_in (Pair p))
part_among number (Instance i) = among_own (number + own_count (Instance i)) (runs_in (Instance i))

all_among : (number : ℕ) (parts : List ModulePart) → AllByRecursion (RunsAmong (flat_map part_sources (numbered_from number parts))) (numbered_from number parts)
all_among number [] = tt
all_among number (part ∷ parts) =
    let first = part_sources (number, part) in
    let rest = flat_map part_sources (numbered_from (number + unnamed_count part) parts) in (
      among_left first rest (number + own_count part) (runs_in part) (part_among number part),
      each_weaker (RunsAmong rest) (RunsAmong (first ++ rest)) (numbered_from (number + unnamed_count part) parts)
          (λ p among. among_right first rest (p.0 + own_count p.1) (runs_in p.1) among) (all_among (number + unnamed_count part) parts),
    )

-- the runs of each part are among the nets of the module
pub parts-among : (parts : List ModulePart) → AllByRecursion (RunsAmong (new_sources [] (flat_map part_sources (numbered_from 0 parts)))) (numbered_from 0 parts)
parts-among parts =
    each_weaker (RunsAmong (flat_map part_sources (numbered_from 0 parts))) (RunsAmong (new_sources [] (flat_map part_sources (numbered_from 0 parts)))) (numbered_from 0 parts)
    (λ p among. among_new (flat_map part_sources (numbered_from 0 parts)) (p.0 + own_count p.1) (runs_in p.1) among) (all_among 0 parts)

names_there : (names : List (List ℕ)) (rest : List NetSource) → AllByRecursion (λ name. has_name name (map Named names ++ rest) ≡ true) names
names_there [] rest = tt
names_there (name ∷ names) rest = (
  has_name_left name (Named name ∷ []) (map Named names ++ rest) (first name),
  each_weaker (λ n. has_name n (map Named names ++ rest) ≡ true) (λ n. has_name n (Named name ∷ (map Named names ++ rest)) ≡ true) names
      (λ n e. has_name_right n (Named name ∷ []) (map Named names ++ rest) e) (names_there names rest),
)
  where
    first : (n : List ℕ) → has_name n (Named n ∷ []) ≡ true
    first n = has_name_left n (Named n ∷ []) [] (own n)
      where
        own : (m : List ℕ) → has_name m (Named m ∷ []) ≡ true
        own m = (among_own 0 (NetRun m None ∷ [])).0

-- the names of the first part, the header's, are nets of the module
pub header-named : (names : List (List ℕ)) (parts : List ModulePart) → AllByRecursion (λ name. has_name name (new_sources [] (flat_map part_sources (numbered_from 0 (Names names ∷ parts)))) ≡ true) names
header-named names parts =
    let rest = flat_map part_sources (numbered_from (0 + unnamed_count (Names names)) parts) in
    each_weaker (λ name. has_name name (map Named names ++ rest) ≡ true) (λ name. has_name name (new_sources [] (map Named names ++ rest)) ≡ true) names
    (λ name e. new_has_name name [] (map Named names ++ rest) refl e) (names_there names rest)

-- ---- connections

pub connections-ports : (scope : Scope) (nets : List ModuleNet) (number : ℕ) (connections : List PortRuns) → map (λ (c : PortBits). c.port) (connections_bits scope nets number connections) ≡ connected_ports connections
connections-ports scope nets number [] = refl
connections-ports scope nets number (c ∷ connections) = by_port c.port (connections-ports scope nets (number + literal_count c.runs) connections)
  where
    rest : List PortBits
    rest = connections_bits scope nets (number + literal_count c.runs) connections

    by_port : (o : Option ℕ) → map (λ (d : PortBits). d.port) rest ≡ connected_ports connections
        → map (λ (d : PortBits). d.port) (option_map_or (λ port. record { port = port; bits = runs_bits scope nets number c.runs } ∷ []) o [] ++ rest) ≡ option_map_or (λ port. port ∷ []) o [] ++ connected_ports connections
    by_port None same = same
    by_port (Some port) same = ap (λ ps. port ∷ ps) same
