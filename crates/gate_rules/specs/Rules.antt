-- The places at which a gate, an assignment or a declaration breaks a rule.
use Rattle.std.specs.Prelude.{not, List, [], ◌∷◌, length, take, Option, None, Some}
use Rattle.std.specs.List.{flat_map}
use Rattle.v_tree.specs.declared.locations.Location.{Location}
use Rattle.v_tree.specs.declared.locations.Name.{Name}
use Rattle.v_tree.specs.declared.drives.DriveStrength.{DriveStrength}
use Rattle.v_tree.specs.declared.expressions.Expr.{Expr}
use Rattle.v_tree.specs.declared.declarations.ValuedName.{ValuedName}
use Rattle.v_tree.specs.declared.declarations.Pair.{Pair}
use Rattle.v_tree.specs.declared.declarations.DeclaredNames.{DeclaredNames}
use Rattle.v_tree.specs.declared.declarations.DeclaredNames.TheVariants.{Names, Valued}
use Rattle.v_tree.specs.declared.gates.Terms.{Terms}
use Rattle.v_tree.specs.declared.gates.GateKind.{GateKind}
use Rattle.v_tree.specs.declared.gates.GateKind.TheVariants as kind
use Rattle.v_tree.specs.declared.modules.Item.{Item}
use Rattle.v_tree.specs.declared.modules.Item.TheVariants as item
use Rattle.module_scope.specs.declared.scopes.Scope.{Scope}
use Rattle.module_scope.specs.Places.{place_if}
use Rattle.item_parts.specs.Literals.{has_literal, location_of, unsized_in_concatenations}
use Rattle.item_parts.specs.Misfits.{width_places}
use Rattle.item_parts.specs.Delays.{delay_places}
use Rattle.item_parts.specs.Drives.{drive_places, pull_places}
use Rattle.gate_rules.specs.declared.classes.GateClass.{GateClass}
use Rattle.gate_rules.specs.Classes.{gate_class, logic_class, switch_class, is_terminal_count, most_delays, output_count}

-- ---- widths

-- each terminal of a gate has one bit (IEEE 1364-2005, 7.1.6)
abbrev pub terminal_widths : Scope → Expr → List Location
terminal_widths scope e = width_places scope (Some 1) (location_of e) e

abbrev pub terms_widths : Scope → Terms → List Location
terms_widths scope t = flat_map (terminal_widths scope) t.terminals

-- what is assigned has no width to keep
abbrev pub value_widths : ValuedName → List Location
value_widths v = unsized_in_concatenations v.value

abbrev pub pair_widths : Pair → List Location
pair_widths p = unsized_in_concatenations p.value

abbrev pub declared_widths : DeclaredNames → List Location
declared_widths (Names names) = []
declared_widths (Valued names) = flat_map value_widths names

abbrev pub item_widths : Scope → Item → List Location
item_widths scope (item.Nets d) = declared_widths d.declared_names
item_widths scope (item.Assign a) = flat_map pair_widths a.pairs
item_widths scope (item.Gates g) = flat_map (terms_widths scope) g.gates
item_widths scope _ = []

-- ---- counts of terminals

-- the name of a gate, or its `(` where it has none
abbrev pub name_or_paren : Option Name → Location → Location
name_or_paren None paren = paren
name_or_paren (Some name) paren = name.location

abbrev pub terms_counts : GateClass → Terms → List Location
terms_counts class t = place_if (not (is_terminal_count class (length t.terminals))) (name_or_paren t.name t.paren)

abbrev pub item_counts : Item → List Location
item_counts (item.Gates g) = flat_map (terms_counts (gate_class g.kind)) g.gates
item_counts _ = []

-- ---- delays

abbrev pub kind_delays : GateKind → List Location
kind_delays (kind.Logic gate drive delay) = delay_places (most_delays (logic_class gate)) delay
kind_delays (kind.Switch gate delay) = delay_places (most_delays (switch_class gate)) delay
kind_delays (kind.Tran gate) = []
kind_delays (kind.Pull gate levels) = []

-- nets and assignments may have three: to 1, to 0, and to z or of charge decay (IEEE 1364-2005, 7.14)
abbrev pub item_delays : Item → List Location
item_delays (item.Nets d) = delay_places 3 d.delay
item_delays (item.Trireg d) = delay_places 3 d.delay
item_delays (item.Assign a) = delay_places 3 a.delay
item_delays (item.Gates g) = kind_delays g.kind
item_delays _ = []

-- ---- drives

abbrev pub kind_drives : GateKind → List Location
kind_drives (kind.Logic gate drive delay) = drive_places drive
kind_drives (kind.Switch gate delay) = []
kind_drives (kind.Tran gate) = []
kind_drives (kind.Pull gate levels) = pull_places gate levels

-- a drive of names that aren't assigned, whatever its levels
abbrev pub idle_drives : Option DriveStrength → List Location
idle_drives None = []
idle_drives (Some drive) = drive.location ∷ []

-- a declaration of nets has a drive only where they are assigned (IEEE 1364-2005, 6.1.4)
abbrev pub declared_drives : DeclaredNames → Option DriveStrength → List Location
declared_drives (Names names) drive = idle_drives drive
declared_drives (Valued names) drive = drive_places drive

abbrev pub item_drives : Item → List Location
item_drives (item.Nets d) = declared_drives d.declared_names d.drive
item_drives (item.Assign a) = drive_places a.drive
item_drives (item.Gates g) = kind_drives g.kind
item_drives _ = []

-- ---- literals at outputs

abbrev pub literal_places : Expr → List Location
literal_places e = place_if (has_literal e) (location_of e)

-- the outputs and bidirectional terminals of a gate
abbrev pub output_terminals : GateClass → Terms → List Expr
output_terminals class t = take (output_count class (length t.terminals)) t.terminals

abbrev pub terms_literals : GateClass → Terms → List Location
terms_literals class t = flat_map literal_places (output_terminals class t)

abbrev pub item_literals : Item → List Location
item_literals (item.Gates g) = flat_map (terms_literals (gate_class g.kind)) g.gates
item_literals _ = []
