-- Rules of modules.
use Rattle.std.proofs.Common.{◌≡◌, ℕ, suc, ◌<◌, ◌≤◌, Bool, true, false, not, List, [], ◌∷◌, ◌++◌, length, Option, codes, ◌⊎◌, inl, inr, refl, sym, ap, subst, ◌∙◌, arith}
use Rattle.std.proofs.lemmas.Bool.{not-true, cases_lt}
use Rattle.v_tree.specs.declared.locations.Location.{Location}
use Rattle.v_tree.specs.declared.locations.Name.{Name}
use Rattle.v_tree.specs.declared.expressions.RangeBounds.{RangeBounds}
use Rattle.v_tree.specs.declared.declarations.Direction.{Direction}
use Rattle.v_tree.specs.declared.declarations.NetType.{NetType}
use Rattle.v_tree.specs.declared.declarations.PortDecl.{PortDecl}
use Rattle.v_tree.specs.declared.declarations.NetDecl.{NetDecl}
use Rattle.v_tree.specs.declared.declarations.TriregDecl.{TriregDecl}
use Rattle.v_tree.specs.declared.declarations.AssignItem.{AssignItem}
use Rattle.v_tree.specs.declared.gates.GateKind.{GateKind}
use Rattle.v_tree.specs.declared.gates.GateKind.TheVariants as gates
use Rattle.v_tree.specs.declared.gates.GateItem.{GateItem}
use Rattle.v_tree.specs.declared.gates.Instance.{Instance}
use Rattle.v_tree.specs.declared.modules.ModuleWord.{ModuleWord}
use Rattle.v_tree.specs.declared.modules.AnsiPort.{AnsiPort}
use Rattle.v_tree.specs.declared.modules.AnsiEntry.{AnsiEntry}
use Rattle.v_tree.specs.declared.modules.AnsiEntry.TheVariants as entry
use Rattle.v_tree.specs.declared.modules.Ports.{Ports}
use Rattle.v_tree.specs.declared.modules.Ports.TheVariants as ports
use Rattle.v_tree.specs.declared.directives.CellDirective.{CellDirective}
use Rattle.v_tree.specs.declared.modules.SpecifyBlock.{SpecifyBlock}
use Rattle.v_tree.specs.declared.modules.Item.{Item}
use Rattle.v_tree.specs.declared.modules.Item.TheVariants as item
use Rattle.v_tree.specs.declared.modules.Module.{Module}
use Rattle.v_tree.specs.Written.{Form, Written, Spelled, Exactly, exactly, between_commas, one_by_one}
use Rattle.v_tree.specs.Fit as fit
use Rattle.v_tree.specs.Words as words
use Rattle.v_tree.specs.Spelling as spell
use Rattle.v_parser.specs.Input.{Input, Reader, pure, is_mark, choice, ◌<$>◌}
use Rattle.v_parser.specs.Expressions.{sees_mark, sees_name}
use Rattle.v_parser.specs.Words.{sees_net_type}
use Rattle.v_parser.specs.Gates.{instance}
use Rattle.v_parser.specs.Modules.{sees_mark_second, sees_name_second, ends_module}
use Rattle.v_parser.specs.Modules as read
use Rattle.v_parser.proofs.Rules.{Rule, Follow, anything, begins, first_form, Takes, ok_is, ok_of, map_rule, variant_rule, refit_rule, follow_rule, pair_rule, optional_rule, choice_rule, commas_rule, comma_list_rule}
use Rattle.v_parser.proofs.SpelledRules.{SpelledRule, begins_with, whatever, exactly_rule, exactly_by_rule, spelled_map_rule, spelled_variant_rule, spelled_refit_rule, respelled_rule, spelled_pair_rule, spelled_choice_rule, spelled_many_rule}
use Rattle.v_parser.proofs.TokenRules.{name_rule, skip_rule, skip_word_rule, direction_rule, opening_rule}
use Rattle.v_parser.proofs.ExprRules.{range_rule}
use Rattle.v_parser.proofs.DriveRules.{free_if_there}
use Rattle.v_parser.proofs.DeclarationRules.{may_skip, no_net_type, net_type_begins, net_type_rule, port_decl_rule, net_decl_rule, trireg_decl_rule, assign_item_rule}
use Rattle.v_parser.proofs.GateRules.{IsLogicKind, IsSwitchKind, IsTranKind, IsPullKind, logic_item_rule, switch_item_rule, tran_item_rule, pull_item_rule, instance_rule}
use Rattle.v_parser.proofs.DirectiveRules.{cell_rule}
use Rattle.v_parser.proofs.BlockRules.{specify_block_rule}
use Rattle.v_parser.proofs.ItemKinds.{test_at, index_holds, index_fails, item_tests, gate_number, item_number, first_spelled, item_starts, item_index}

-- ---- items

-- an item that fits, of the kind with a number, and one of a kind from a number on
abbrev IsItem : ℕ → Item → Type 0
IsItem n x = fit.IsFitItem x × (item_number x ≡ n)

abbrev IsItemFrom : ℕ → Item → Type 0
IsItemFrom n x = fit.IsFitItem x × (n ≤ item_number x)

-- an item with a number, or a later one, is one from that number on
from_first : (n : ℕ) (x : Item) → IsItem n x ⊎ IsItemFrom (suc n) x → IsItemFrom n x
from_first n x (inl f) = (f.0, omega (arith, f.1))
from_first n x (inr f) = (f.0, omega (arith, f.1))

-- an item from a number on has that number or is a later one
first_or_later : (n : ℕ) (x : Item) → IsItemFrom n x → IsItem n x ⊎ IsItemFrom (suc n) x
first_or_later n x f = by (cases_lt n (item_number x))
  where
    by : (n < item_number x) ⊎ (item_number x ≤ n) → IsItem n x ⊎ IsItemFrom (suc n) x
    by (inl later) = inr (f.0, omega arith)
    by (inr same) = inl (f.0, omega (arith, f.1))

-- an item with a number is seen by the test of that number
item_seen : (n : ℕ) (x : Item) (ss : List Spelled) → n < 11 → item_number x ≡ n → begins_with (test_at item_tests n) (spell.module_item x ++ ss) ≡ true
item_seen n x ss few is = item_starts x ss (test_at item_tests n) ∙ index_holds item_tests n (first_spelled (spell.module_item x ++ ss)) (item_index x ss ∙ is) few

-- a later item isn't
item_unseen : (n : ℕ) (x : Item) (ss : List Spelled) → n < item_number x → begins_with (λ f. not (test_at item_tests n f)) (spell.module_item x ++ ss) ≡ true
item_unseen n x ss later =
    item_starts x ss (λ f. not (test_at item_tests n f)) ∙ ap not (index_fails item_tests n (first_spelled (spell.module_item x ++ ss)) (omega (arith, item_index x ss, later)))

-- an item by its test, or a later one
item_choice : (n : ℕ) {p q : Reader Item} → n < 11 → SpelledRule p spell.module_item (IsItem n) whatever → SpelledRule q spell.module_item (IsItemFrom (suc n)) whatever
    → SpelledRule (choice (λ f g. test_at item_tests n f) p q) spell.module_item (IsItemFrom n) whatever
item_choice n few first later =
    spelled_refit_rule (spelled_choice_rule (test_at item_tests n) first later (λ x ss f. item_seen n x ss few f.1) (λ x ss f. item_unseen n x ss f.1))
    (from_first n) (first_or_later n)

-- each kind of gates has a number from 5 to 8
gate_number_within : (kind : GateKind) → (5 ≤ gate_number kind) × (gate_number kind ≤ 8)
gate_number_within (gates.Logic kind strength time) = (omega arith, omega arith)
gate_number_within (gates.Switch kind time) = (omega arith, omega arith)
gate_number_within (gates.Tran kind) = (omega arith, omega arith)
gate_number_within (gates.Pull kind levels) = (omega arith, omega arith)

-- an item has a number above 0
item_number_some : (x : Item) → 1 ≤ item_number x
item_number_some (item.Gates g) = omega (arith, gate_number_within g.kind)
item_number_some x = omega arith

-- a kind of items with a number: what is read, as such an item
kind_rule : {A : Type 0} {p : Reader A} {spelled : A → List Spelled} {IsFit : A → Type 0} (n : ℕ) → SpelledRule p spelled IsFit whatever → (make : A → Item) → ((a : A) → spell.module_item (make a) ≡ spelled a)
    → ((a : A) → IsFit a → IsItem n (make a)) → ((x : Item) → IsItem n x → (a : A) × (x ≡ make a) × IsFit a) → SpelledRule (make <$> p) spell.module_item (IsItem n) whatever
kind_rule n rule make same fits from =
    spelled_refit_rule (spelled_variant_rule rule make spell.module_item same) (λ x f. subst (IsItem n) (sym f.1) (fits f.0 f.2)) from

-- items of gates, whose kind has a number
abbrev AreGates : ℕ → GateItem → Type 0
AreGates n g = fit.IsFitGateItem g × (gate_number g.kind ≡ n)

-- an item with a gates' number is gates
gates_from : (n : ℕ) (x : Item) → 5 ≤ n → n ≤ 8 → IsItem n x → (g : GateItem) × (x ≡ item.Gates g) × AreGates n g
gates_from n (item.Gates g) low high f = (g, refl, f)
gates_from n x low high f = absurd (omega (arith, f.1))

-- gates of a kind
gates_rule : (n : ℕ) {p : Reader GateItem} → 5 ≤ n → n ≤ 8 → Rule p spell.gate_item (AreGates n) anything → SpelledRule (item.Gates <$> p) spell.module_item (IsItem n) whatever
gates_rule n low high rule = kind_rule n (exactly_rule rule) item.Gates (λ a. refl) (λ a f. f) (λ x f. gates_from n x low high f)

-- logic gates have the number 5
logic_number : (kind : GateKind) → IsLogicKind kind → gate_number kind ≡ 5
logic_number (gates.Logic kind strength time) h = refl
logic_number kind h = absurd h

-- gates with the number 5 are logic gates
number_logic : (kind : GateKind) → gate_number kind ≡ 5 → IsLogicKind kind
number_logic (gates.Logic kind strength time) e = tt
number_logic kind e = absurd (omega (arith, e))

-- switches have the number 6
switch_number : (kind : GateKind) → IsSwitchKind kind → gate_number kind ≡ 6
switch_number (gates.Switch kind time) h = refl
switch_number kind h = absurd h

-- gates with the number 6 are switches
number_switch : (kind : GateKind) → gate_number kind ≡ 6 → IsSwitchKind kind
number_switch (gates.Switch kind time) e = tt
number_switch kind e = absurd (omega (arith, e))

-- pass gates have the number 7
tran_number : (kind : GateKind) → IsTranKind kind → gate_number kind ≡ 7
tran_number (gates.Tran kind) h = refl
tran_number kind h = absurd h

-- gates with the number 7 are pass gates
number_tran : (kind : GateKind) → gate_number kind ≡ 7 → IsTranKind kind
number_tran (gates.Tran kind) e = tt
number_tran kind e = absurd (omega (arith, e))

-- pull gates have the number 8
pull_number : (kind : GateKind) → IsPullKind kind → gate_number kind ≡ 8
pull_number (gates.Pull kind levels) h = refl
pull_number kind h = absurd h

-- gates with the number 8 are pull gates
number_pull : (kind : GateKind) → gate_number kind ≡ 8 → IsPullKind kind
number_pull (gates.Pull kind levels) e = tt
number_pull kind e = absurd (omega (arith, e))

-- an item with the last number is instances
instances_from : (x : Item) → IsItemFrom 11 x → (i : Instance) × (x ≡ item.Instances i) × fit.IsFitInstance i
instances_from (item.Instances i) f = (i, refl, f.0)
instances_from (item.Gates g) f = absurd (omega (arith, f.1, gate_number_within g.kind))
instances_from x f = absurd (omega (arith, f.1))

-- instances
instances_rule : SpelledRule (item.Instances <$> instance) spell.module_item (IsItemFrom 11) whatever
instances_rule =
    spelled_refit_rule (spelled_variant_rule (exactly_rule instance_rule) item.Instances spell.module_item (λ a. refl))
    (λ x f. subst (IsItemFrom 11) (sym f.1) (f.2, omega arith)) instances_from

-- an item with the number of blocks is a block
block_from : (x : Item) → IsItem 10 x → (b : SpecifyBlock) × (x ≡ item.Specify b) × fit.IsFitBlock b
block_from (item.Specify b) f = (b, refl, f.0)
block_from (item.Gates g) f = absurd (omega (arith, f.1, gate_number_within g.kind))
block_from x f = absurd (omega (arith, f.1))

-- blocks that are passed over, or instances
blocks_rule : SpelledRule read.blocks spell.module_item (IsItemFrom 10) whatever
unfolding read.blocks
blocks_rule = item_choice 10 (omega arith) (kind_rule 10 specify_block_rule item.Specify (λ a. refl) (λ a f. (f, refl)) block_from) instances_rule

-- an item with the number of cells is a cell
cell_from : (x : Item) → IsItem 9 x → (c : CellDirective) × (x ≡ item.Cell c) × fit.IsFree c
cell_from (item.Cell c) f = (c, refl, tt)
cell_from (item.Gates g) f = absurd (omega (arith, f.1, gate_number_within g.kind))
cell_from x f = absurd (omega (arith, f.1))

-- cells or what comes later
cells_rule : SpelledRule read.cells spell.module_item (IsItemFrom 9) whatever
unfolding read.cells
cells_rule = item_choice 9 (omega arith) (kind_rule 9 (exactly_rule cell_rule) item.Cell (λ a. refl) (λ a f. (tt, refl)) cell_from) blocks_rule

-- pull gates or what comes later
pulls_rule : SpelledRule read.pulls spell.module_item (IsItemFrom 8) whatever
unfolding read.pulls
pulls_rule = item_choice 8 (omega arith) (gates_rule 8 (omega arith) (omega arith) (refit_rule pull_item_rule (λ g f. (f.0, pull_number g.kind f.1)) (λ g f. (f.0, number_pull g.kind f.1)))) cells_rule

-- pass gates or what comes later
trans_rule : SpelledRule read.trans spell.module_item (IsItemFrom 7) whatever
unfolding read.trans
trans_rule = item_choice 7 (omega arith) (gates_rule 7 (omega arith) (omega arith) (refit_rule tran_item_rule (λ g f. (f.0, tran_number g.kind f.1)) (λ g f. (f.0, number_tran g.kind f.1)))) pulls_rule

-- switches or what comes later
switches_rule : SpelledRule read.switches spell.module_item (IsItemFrom 6) whatever
unfolding read.switches
switches_rule = item_choice 6 (omega arith) (gates_rule 6 (omega arith) (omega arith) (refit_rule switch_item_rule (λ g f. (f.0, switch_number g.kind f.1)) (λ g f. (f.0, number_switch g.kind f.1)))) trans_rule

-- logic gates or what comes later
gates_or_later_rule : SpelledRule read.gates spell.module_item (IsItemFrom 5) whatever
unfolding read.gates
gates_or_later_rule = item_choice 5 (omega arith) (gates_rule 5 (omega arith) (omega arith) (refit_rule logic_item_rule (λ g f. (f.0, logic_number g.kind f.1)) (λ g f. (f.0, number_logic g.kind f.1)))) switches_rule

-- an item with the number of assignments is assignments
assign_from : (x : Item) → IsItem 4 x → (a : AssignItem) × (x ≡ item.Assign a) × fit.IsFitAssignItem a
assign_from (item.Assign a) f = (a, refl, f.0)
assign_from (item.Gates g) f = absurd (omega (arith, f.1, gate_number_within g.kind))
assign_from x f = absurd (omega (arith, f.1))

-- assignments or what comes later
assigns_rule : SpelledRule read.assigns spell.module_item (IsItemFrom 4) whatever
unfolding read.assigns
assigns_rule = item_choice 4 (omega arith) (kind_rule 4 (exactly_rule assign_item_rule) item.Assign (λ a. refl) (λ a f. (f, refl)) assign_from) gates_or_later_rule

-- an item with the number of trireg nets is trireg nets
trireg_from : (x : Item) → IsItem 3 x → (d : TriregDecl) × (x ≡ item.Trireg d) × fit.IsFitTriregDecl d
trireg_from (item.Trireg d) f = (d, refl, f.0)
trireg_from (item.Gates g) f = absurd (omega (arith, f.1, gate_number_within g.kind))
trireg_from x f = absurd (omega (arith, f.1))

-- trireg nets or what comes later
triregs_rule : SpelledRule read.triregs spell.module_item (IsItemFrom 3) whatever
unfolding read.triregs
triregs_rule = item_choice 3 (omega arith) (kind_rule 3 (exactly_rule trireg_decl_rule) item.Trireg (λ a. refl) (λ a f. (f, refl)) trireg_from) assigns_rule

-- an item with the number of nets is nets
nets_from : (x : Item) → IsItem 2 x → (d : NetDecl) × (x ≡ item.Nets d) × fit.IsFitNetDecl d
nets_from (item.Nets d) f = (d, refl, f.0)
nets_from (item.Gates g) f = absurd (omega (arith, f.1, gate_number_within g.kind))
nets_from x f = absurd (omega (arith, f.1))

-- nets or what comes later
nets_rule : SpelledRule read.nets spell.module_item (IsItemFrom 2) whatever
unfolding read.nets
nets_rule = item_choice 2 (omega arith) (kind_rule 2 (exactly_rule net_decl_rule) item.Nets (λ a. refl) (λ a f. (f, refl)) nets_from) triregs_rule

-- an item with the number of ports is ports
ports_from : (x : Item) → IsItem 1 x → (d : PortDecl) × (x ≡ item.Ports d) × fit.IsFitPortDecl d
ports_from (item.Ports d) f = (d, refl, f.0)
ports_from (item.Gates g) f = absurd (omega (arith, f.1, gate_number_within g.kind))
ports_from x f = absurd (omega (arith, f.1))

-- an item of a module
pub module_item_rule : SpelledRule read.module_item spell.module_item fit.IsFitItem whatever
unfolding read.module_item
module_item_rule =
    spelled_refit_rule (item_choice 1 (omega arith) (kind_rule 1 (exactly_rule port_decl_rule) item.Ports (λ a. refl) (λ a f. (f, refl)) ports_from) nets_rule)
    (λ x f. f.0) (λ x f. (f, item_number_some x))

-- ---- ports

abbrev ansi_parts : AnsiPort → (Direction × Location) × (Option NetType × (Option RangeBounds × Name))
ansi_parts p = ((p.direction, p.location), (p.net_type, (p.range, p.name)))

-- `dir [ nettype ] [ range ] Name`
ansi_port_rule : Rule read.ansi_port spell.ansi_port fit.IsFitAnsiPort anything
unfolding read.ansi_port
ansi_port_rule =
    refit_rule (map_rule (pair_rule direction_rule
    (pair_rule (optional_rule sees_net_type net_type_rule (λ x ws f. net_type_begins x ws))
    (pair_rule (optional_rule (sees_mark 91) range_rule (λ x ws f. refl)) name_rule
    (λ y ws f g. refl))
    (λ y ws f g. may_skip no_net_type spell.range y.0 (spell.name y.1) ws (λ x. refl) refl))
    (λ y ws f g. refl))
    read.ansi_port_of ansi_parts (λ b. refl) (λ a. refl))
    (λ x f. record { range = f.1.1.0; name = f.1.1.1 })
    (λ x f. (tt, (free_if_there x.net_type, (f.range, f.name))))

abbrev IsNameEntry : AnsiEntry → Type 0
IsNameEntry x = (n : Name) × (x ≡ entry.Name n) × fit.IsFitName n

abbrev IsPortEntry : AnsiEntry → Type 0
IsPortEntry x = (p : AnsiPort) × (x ≡ entry.Port p) × fit.IsFitAnsiPort p

-- a port or a name that was read fits
entry_fits : (x : AnsiEntry) → IsNameEntry x ⊎ IsPortEntry x → fit.IsFitAnsiEntry x
entry_fits x (inl f) = subst fit.IsFitAnsiEntry (sym f.1) f.2
entry_fits x (inr f) = subst fit.IsFitAnsiEntry (sym f.1) f.2

-- an entry that fits is a port or a name
entry_from : (x : AnsiEntry) → fit.IsFitAnsiEntry x → IsNameEntry x ⊎ IsPortEntry x
entry_from (entry.Name n) f = inl (n, refl, f)
entry_from (entry.Port p) f = inr (p, refl, f)

-- a port, or a name alone
ansi_entry_rule : Rule read.ansi_entry spell.ansi_entry fit.IsFitAnsiEntry anything
unfolding read.ansi_entry
ansi_entry_rule =
    refit_rule (choice_rule sees_name (variant_rule name_rule entry.Name spell.ansi_entry (λ a. refl)) (variant_rule ansi_port_rule entry.Port spell.ansi_entry (λ a. refl))
    (λ x ws f g. ap (λ (e : AnsiEntry). begins sees_name (spell.ansi_entry e ++ ws)) f.1)
    (λ x ws f g. ap (λ (e : AnsiEntry). begins sees_name (spell.ansi_entry e ++ ws)) f.1))
    entry_fits entry_from

abbrev make_empty : Unit {0} × Unit {0} → Ports
make_empty z = ports.Empty

abbrev make_names : Unit {0} × (List Name × Unit {0}) → Ports
make_names z = ports.Names z.1.0

abbrev make_ansi : Unit {0} × (AnsiPort × (List AnsiEntry × Unit {0})) → Ports
make_ansi z = ports.Ansi z.1.0 z.1.1.0

-- ports that fit, of one form
abbrev AreEmpty : Ports → Type 0
AreEmpty ports.Empty = Unit {0}
AreEmpty x = ⊥

abbrev AreNames : Ports → Type 0
AreNames (ports.Names names) = fit.AreSome fit.IsFitName names
AreNames x = ⊥

abbrev AreAnsi : Ports → Type 0
AreAnsi (ports.Ansi first others) = fit.IsFitAnsiPort first × fit.AreFit fit.IsFitAnsiEntry others
AreAnsi x = ⊥

-- ports in parentheses that fit
abbrev AreWithin : Ports → Type 0
AreWithin ports.Absent = ⊥
AreWithin x = fit.IsFitPorts x

-- ports without an entry
empty_from : (x : Ports) → AreEmpty x → (z : Unit {0} × Unit {0}) × (x ≡ make_empty z) × (Unit {0} × Unit {0})
empty_from ports.Empty f = ((tt, tt), refl, (tt, tt))
empty_from x f = absurd f

-- `( )`
empty_ports_rule : Rule read.empty_ports spell.header_ports AreEmpty anything
unfolding read.empty_ports
empty_ports_rule =
    refit_rule (variant_rule (pair_rule (skip_rule 40) (skip_rule 41) (λ y ws f g. refl)) make_empty spell.header_ports (λ a. refl))
    (λ x f. subst AreEmpty (sym f.1) tt) empty_from

-- ports with names
names_from : (x : Ports) → AreNames x → (z : Unit {0} × (List Name × Unit {0})) × (x ≡ make_names z) × (Unit {0} × (fit.AreSome fit.IsFitName z.1.0 × Unit {0}))
names_from (ports.Names names) f = ((tt, (names, tt)), refl, (tt, (f, tt)))
names_from x f = absurd f

-- `( Name , .. )`
named_ports_rule : Rule read.named_ports spell.header_ports AreNames anything
unfolding read.named_ports
named_ports_rule =
    refit_rule (variant_rule (pair_rule (skip_rule 40) (pair_rule (comma_list_rule name_rule (λ x f. omega arith) (λ ws. refl)) (skip_rule 41) (λ y ws f g. refl)) (λ y ws f g. refl))
    make_names spell.header_ports (λ a. refl))
    (λ x f. subst AreNames (sym f.1) f.2.1.0) names_from

-- ports with directions
ansi_from : (x : Ports) → AreAnsi x
    → (z : Unit {0} × (AnsiPort × (List AnsiEntry × Unit {0}))) × (x ≡ make_ansi z) × (Unit {0} × (fit.IsFitAnsiPort z.1.0 × (fit.AreFit fit.IsFitAnsiEntry z.1.1.0 × Unit {0})))
ansi_from (ports.Ansi first others) f = ((tt, (first, (others, tt))), refl, (tt, (f.0, (f.1, tt))))
ansi_from x f = absurd f

-- `( port , .. )`
ansi_ports_rule : Rule read.ansi_ports spell.header_ports AreAnsi anything
unfolding read.ansi_ports
ansi_ports_rule =
    refit_rule (variant_rule (pair_rule (skip_rule 40)
    (pair_rule ansi_port_rule
    (pair_rule (commas_rule ansi_entry_rule (λ ws. refl)) (skip_rule 41)
    (λ y ws f g. refl))
    (λ y ws f g. refl))
    (λ y ws f g. refl))
    make_ansi spell.header_ports (λ a. refl))
    (λ x f. subst AreAnsi (sym f.1) (f.2.1.0, f.2.1.1.0)) ansi_from

-- ports with names are seen by a name behind the `(`
names_seen : (x : Ports) (ws : List Written) → AreNames x → begins sees_name_second (spell.header_ports x ++ ws) ≡ true
names_seen (ports.Names []) ws f = absurd (omega (arith, f.some))
names_seen (ports.Names (n ∷ names)) ws f = refl
names_seen x ws f = absurd f

-- ports with directions are seen by a word behind the `(`
ansi_seen : (x : Ports) (ws : List Written) → AreAnsi x → begins sees_name_second (spell.header_ports x ++ ws) ≡ false
ansi_seen (ports.Ansi first others) ws f = refl
ansi_seen x ws f = absurd f

-- ports without an entry are seen by the `)` behind the `(`
empty_seen : (x : Ports) (ws : List Written) → AreEmpty x → begins (sees_mark_second 41) (spell.header_ports x ++ ws) ≡ true
empty_seen ports.Empty ws f = refl
empty_seen x ws f = absurd f

-- ports with names or directions are seen by another token than `)` behind the `(`
entries_seen : (x : Ports) (ws : List Written) → AreNames x ⊎ AreAnsi x → begins (sees_mark_second 41) (spell.header_ports x ++ ws) ≡ false
entries_seen (ports.Names []) ws (inl f) = absurd (omega (arith, f.some))
entries_seen (ports.Names (n ∷ names)) ws (inl f) = refl
entries_seen (ports.Ansi first others) ws (inr f) = refl
entries_seen x ws (inl f) = absurd f
entries_seen x ws (inr f) = absurd f

-- ports in parentheses that were read fit
within_fits : (x : Ports) → AreEmpty x ⊎ (AreNames x ⊎ AreAnsi x) → AreWithin x
within_fits ports.Empty (inl f) = tt
within_fits (ports.Names names) (inr (inl f)) = f
within_fits (ports.Ansi first others) (inr (inr f)) = f
within_fits x (inl f) = absurd f
within_fits x (inr (inl f)) = absurd f
within_fits x (inr (inr f)) = absurd f

-- ports in parentheses that fit are of one of three forms
within_from : (x : Ports) → AreWithin x → AreEmpty x ⊎ (AreNames x ⊎ AreAnsi x)
within_from ports.Absent f = absurd f
within_from ports.Empty f = inl tt
within_from (ports.Names names) f = inr (inl f)
within_from (ports.Ansi first others) f = inr (inr f)

-- the ports of a header, in parentheses
ports_within_rule : Rule read.ports_within spell.header_ports AreWithin anything
unfolding read.ports_within
ports_within_rule =
    refit_rule (choice_rule (sees_mark_second 41) empty_ports_rule
    (choice_rule sees_name_second named_ports_rule ansi_ports_rule (λ x ws f g. names_seen x ws f) (λ x ws f g. ansi_seen x ws f))
    (λ x ws f g. empty_seen x ws f) (λ x ws f g. entries_seen x ws f))
    within_fits within_from

-- nothing
pure_rule : {A : Type 0} (x : A) (written : A → List Written) → written x ≡ [] → Rule (pure x) written (λ y. y ≡ x) anything
pure_rule {A} x written none = record {
  takes = λ i j y source e.
      let made : A × Input = (x, i) in
      subst (λ (z : A × Input). Takes i (written z.0) z.1 × (z.0 ≡ x)) (ok_is made (y, j) e) (subst (λ (ws : List Written). Takes i ws i) (sym none) refl, refl);
  again = λ i j y ws t end fit follows.
      (i, ap (λ (z : A). ok_of (z, i)) (sym fit), subst (λ (vs : List Written). Takes i (vs ++ ws) j) (ap written fit ∙ none) t);
}

-- no `(` is next
abbrev pub no_paren : Follow
no_paren ws = not (is_mark 40 (first_form ws))

-- ports in parentheses are seen by the `(`
within_seen : (x : Ports) (ws : List Written) → AreWithin x → begins (sees_mark 40) (spell.header_ports x ++ ws) ≡ true
within_seen ports.Absent ws f = absurd f
within_seen ports.Empty ws f = refl
within_seen (ports.Names names) ws f = refl
within_seen (ports.Ansi first others) ws f = refl

-- a header's ports that were read fit
header_fits : (x : Ports) → AreWithin x ⊎ (x ≡ ports.Absent) → fit.IsFitPorts x
header_fits x (inr e) = subst fit.IsFitPorts (sym e) tt
header_fits ports.Absent (inl f) = absurd f
header_fits ports.Empty (inl f) = f
header_fits (ports.Names names) (inl f) = f
header_fits (ports.Ansi first others) (inl f) = f

-- a header's ports that fit are in parentheses or absent
header_from : (x : Ports) → fit.IsFitPorts x → AreWithin x ⊎ (x ≡ ports.Absent)
header_from ports.Absent f = inr refl
header_from ports.Empty f = inl f
header_from (ports.Names names) f = inl f
header_from (ports.Ansi first others) f = inl f

-- the ports of a header
pub header_ports_rule : Rule read.header_ports spell.header_ports fit.IsFitPorts no_paren
unfolding read.header_ports
header_ports_rule =
    refit_rule (choice_rule (sees_mark 40) ports_within_rule
    (follow_rule {may_follow' = no_paren} (pure_rule ports.Absent spell.header_ports refl) (λ ws h. refl))
    (λ x ws f g. within_seen x ws f)
    (λ x ws f g. ap (λ (p : Ports). begins (sees_mark 40) (spell.header_ports p ++ ws)) f ∙ not-true (is_mark 40 (first_form ws)) g))
    header_fits header_from

-- ---- modules

-- an item begins with another token than `endmodule`
item_begins : (x : Item) (ss : List Spelled) → begins_with (λ f. not (ends_module f)) (spell.module_item x ++ ss) ≡ true
item_begins x ss = item_unseen 0 x ss (omega (arith, item_number_some x))

-- gates are written with something
gates_some : (location : Location) (kind : GateKind) (rest : List Written) → 0 < length (exactly (spell.gate_head location kind ++ rest))
gates_some location (gates.Logic kind strength time) rest = omega arith
gates_some location (gates.Switch kind time) rest = omega arith
gates_some location (gates.Tran kind) rest = omega arith
gates_some location (gates.Pull kind levels) rest = omega arith

-- an item is written with something
item_some : (x : Item) → 0 < length (spell.module_item x)
item_some (item.Gates g) = gates_some g.location g.kind (between_commas spell.terms g.gates ++ spell.mark 59 ∷ [])
item_some x = omega arith

abbrev module_parts : Module → (ModuleWord × Location) × (Name × (Ports × (Unit {0} × (List Item × Unit {0}))))
module_parts m = ((m.word, m.location), (m.name, (m.ports, (tt, (m.items, tt)))))

-- no `(` is next
abbrev is_other : Form → Bool
is_other f = not (is_mark 40 f)

-- two parts one after the other
exactly_both : (a b : List Written) (rest : List Spelled) → exactly (a ++ b) ++ rest ≡ exactly a ++ (exactly b ++ rest)
exactly_both [] b rest = refl
exactly_both (w ∷ a) b rest = ap (λ (ss : List Spelled). Exactly w ∷ ss) (exactly_both a b rest)

-- the tokens of a module, part by part
abbrev module_by_parts : Module → List Spelled
module_by_parts m =
    Exactly (spell.placed_word m.location (words.opening_word m.word))
    ∷ (exactly (spell.name m.name) ++ (exactly (spell.header_ports m.ports) ++ (Exactly (spell.mark 59) ∷ (one_by_one spell.module_item m.items ++ exactly (spell.word (codes "endmodule") ∷ [])))))

module_respelled : (m : Module) → module_by_parts m ≡ spell.module_spelling m
module_respelled m =
    ap (λ (ss : List Spelled). Exactly (spell.placed_word m.location (words.opening_word m.word)) ∷ (exactly (spell.name m.name) ++ ss))
    (sym (exactly_both (spell.header_ports m.ports) (spell.mark 59 ∷ []) (one_by_one spell.module_item m.items ++ exactly (spell.word (codes "endmodule") ∷ []))))

-- `module Name [ ports ] ; { item } endmodule`
pub module_rule : SpelledRule read.module_at spell.module_spelling fit.IsFitModule whatever
unfolding read.module_at
module_rule =
    spelled_refit_rule (respelled_rule (spelled_map_rule (spelled_pair_rule (exactly_rule opening_rule)
    (spelled_pair_rule (exactly_rule name_rule)
    (spelled_pair_rule (exactly_by_rule is_other header_ports_rule (λ ws h. h))
    (spelled_pair_rule (exactly_rule (skip_rule 59))
    (spelled_pair_rule (spelled_many_rule ends_module module_item_rule item_some (λ x ss f. item_begins x ss)) (exactly_rule (skip_word_rule (codes "endmodule")))
    (λ y ss f g. refl))
    (λ y ss f g. refl))
    (λ y ss f g. refl))
    (λ y ss f g. refl))
    (λ y ss f g. refl))
    read.module_of module_parts (λ b. refl) (λ a. refl)) module_respelled)
    (λ x f. record { name = f.1.0; ports = f.1.1.0; items = f.1.1.1.1.0 })
    (λ x f. (tt, (f.name, (f.ports, (tt, (f.items, tt))))))
