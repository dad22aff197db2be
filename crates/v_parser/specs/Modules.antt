-- Modules and files.
use Rattle.std.specs.Prelude.{ℕ, Bool, List, [], Option, codes}
use Rattle.v_tree.specs.declared.locations.Location.{Location}
use Rattle.v_tree.specs.declared.locations.Name.{Name}
use Rattle.v_tree.specs.declared.expressions.RangeBounds.{RangeBounds}
use Rattle.v_tree.specs.declared.declarations.Direction.{Direction}
use Rattle.v_tree.specs.declared.declarations.NetType.{NetType}
use Rattle.v_tree.specs.declared.modules.ModuleWord.{ModuleWord}
use Rattle.v_tree.specs.declared.modules.AnsiPort.{AnsiPort}
use Rattle.v_tree.specs.declared.modules.AnsiEntry.{AnsiEntry}
use Rattle.v_tree.specs.declared.modules.AnsiEntry.TheVariants as entry
use Rattle.v_tree.specs.declared.modules.Ports.{Ports}
use Rattle.v_tree.specs.declared.modules.Ports.TheVariants as ports
use Rattle.v_tree.specs.declared.modules.Item.{Item}
use Rattle.v_tree.specs.declared.modules.Item.TheVariants as item
use Rattle.v_tree.specs.declared.modules.Module.{Module}
use Rattle.v_tree.specs.Written.{Form}
use Rattle.v_parser.specs.Input.{Reader, ◌<$>◌, ◌&◌, pure, token, skip, skip_word, name, is_mark, is_name, is_word, optional, choice, commas, comma_list, many}
use Rattle.v_parser.specs.Expressions.{sees_mark, sees_name, range}
use Rattle.v_parser.specs.Words.{direction_in, sees_direction, sees_net_type, opening_in, sees_logic, sees_switch, sees_tran, sees_pull}
use Rattle.v_parser.specs.Declarations.{net_type, port_decl, net_decl, trireg_decl, assign_item}
use Rattle.v_parser.specs.Directives.{sees_some_directive, cell}
use Rattle.v_parser.specs.Blocks.{specify_block}
use Rattle.v_parser.specs.Gates.{logic_item, switch_item, tran_item, pull_item, instance}

abbrev pub sees_word : List ℕ → Form → Form → Bool
sees_word bytes f g = is_word bytes f

-- blocks that are passed over, or instances
unfoldable pub blocks : Reader Item
blocks =
    choice (sees_word (codes "specify")) (item.Specify <$> specify_block)
    (item.Instances <$> instance)

-- cells, or what comes later
unfoldable pub cells : Reader Item
cells = choice sees_some_directive (item.Cell <$> cell) blocks

-- gates of a kind
unfoldable pub pulls : Reader Item
pulls = choice sees_pull (item.Gates <$> pull_item) cells

unfoldable pub trans : Reader Item
trans = choice sees_tran (item.Gates <$> tran_item) pulls

unfoldable pub switches : Reader Item
switches = choice sees_switch (item.Gates <$> switch_item) trans

unfoldable pub gates : Reader Item
gates = choice sees_logic (item.Gates <$> logic_item) switches

-- assignments, gates or instances
unfoldable pub assigns : Reader Item
assigns = choice (sees_word (codes "assign")) (item.Assign <$> assign_item) gates

unfoldable pub triregs : Reader Item
triregs = choice (sees_word (codes "trireg")) (item.Trireg <$> trireg_decl) assigns

unfoldable pub nets : Reader Item
nets = choice sees_net_type (item.Nets <$> net_decl) triregs

-- an item of a module
unfoldable pub module_item : Reader Item
module_item = choice sees_direction (item.Ports <$> port_decl) nets

abbrev pub ansi_port_of : (Direction × Location) × (Option NetType × (Option RangeBounds × Name))
    → AnsiPort
ansi_port_of z =
    record {
      location = z.0.1;
      direction = z.0.0;
      net_type = z.1.0;
      range = z.1.1.0;
      name = z.1.1.1;
    }

-- `dir [ nettype ] [ range ] Name`
unfoldable pub ansi_port : Reader AnsiPort
ansi_port = ansi_port_of
    <$> (token direction_in & optional sees_net_type net_type & optional (sees_mark 91) range
    & name)

-- a port, or a name alone
unfoldable pub ansi_entry : Reader AnsiEntry
ansi_entry = choice sees_name (entry.Name <$> name) (entry.Port <$> ansi_port)

-- `( )`
unfoldable pub empty_ports : Reader Ports
empty_ports = (λ z. ports.Empty) <$> (skip 40 & skip 41)

-- `( Name , .. )`
unfoldable pub named_ports : Reader Ports
named_ports = (λ z. ports.Names z.1.0) <$> (skip 40 & comma_list name & skip 41)

-- `( port , .. )`
unfoldable pub ansi_ports : Reader Ports
ansi_ports =
    (λ (z : Unit {0} × (AnsiPort × (List AnsiEntry × Unit {0}))). ports.Ansi z.1.0 z.1.1.0)
    <$> (skip 40 & ansi_port & commas ansi_entry [] & skip 41)

-- the second of two tokens is the mark
abbrev pub sees_mark_second : ℕ → Form → Form → Bool
sees_mark_second byte f g = is_mark byte g

abbrev pub sees_name_second : Form → Form → Bool
sees_name_second f g = is_name g

-- the ports of a header, in parentheses
unfoldable pub ports_within : Reader Ports
ports_within =
    choice (sees_mark_second 41) empty_ports (choice sees_name_second named_ports ansi_ports)

-- the ports of a header
unfoldable pub header_ports : Reader Ports
header_ports = choice (sees_mark 40) ports_within (pure ports.Absent)

abbrev pub ends_module : Form → Bool
ends_module f = is_word (codes "endmodule") f

abbrev pub module_of : (ModuleWord × Location)
    × (Name × (Ports × (Unit {0} × (List Item × Unit {0})))) → Module
module_of z =
    record { location = z.0.1; word = z.0.0; name = z.1.0; ports = z.1.1.0; items = z.1.1.1.1.0 }

-- `module Name [ ports ] ; { item } endmodule`
unfoldable pub module_at : Reader Module
module_at = module_of
    <$> (token opening_in & name & header_ports & skip 59 & many ends_module module_item
    & skip_word (codes "endmodule"))
