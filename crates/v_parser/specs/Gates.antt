-- Gates, switches and instances.
use Rattle.std.specs.Prelude.{Bool, ◌||◌, List, Option}
use Rattle.v_tree.specs.declared.locations.Location.{Location}
use Rattle.v_tree.specs.declared.locations.Name.{Name}
use Rattle.v_tree.specs.declared.expressions.Expr.{Expr}
use Rattle.v_tree.specs.declared.drives.DriveStrength.{DriveStrength}
use Rattle.v_tree.specs.declared.drives.PullLevels.{PullLevels}
use Rattle.v_tree.specs.declared.drives.DelaySpec.{DelaySpec}
use Rattle.v_tree.specs.declared.gates.LogicGate.{LogicGate}
use Rattle.v_tree.specs.declared.gates.Switch.{Switch}
use Rattle.v_tree.specs.declared.gates.TranGate.{TranGate}
use Rattle.v_tree.specs.declared.gates.PullGate.{PullGate}
use Rattle.v_tree.specs.declared.gates.Terms.{Terms}
use Rattle.v_tree.specs.declared.gates.GateKind.{GateKind}
use Rattle.v_tree.specs.declared.gates.GateKind.TheVariants as kind
use Rattle.v_tree.specs.declared.gates.GateItem.{GateItem}
use Rattle.v_tree.specs.declared.gates.Connection.{Connection}
use Rattle.v_tree.specs.declared.gates.Connections.{Connections}
use Rattle.v_tree.specs.declared.gates.Connections.TheVariants.{ByOrder, ByName}
use Rattle.v_tree.specs.declared.gates.Inst.{Inst}
use Rattle.v_tree.specs.declared.gates.Instance.{Instance}
use Rattle.v_tree.specs.Written.{Form}
use Rattle.v_parser.specs.Input.{Reader, ◌<$>◌, ◌&◌, token, mark, skip, name, is_mark, is_name, is_number, is_based, optional, choice, comma_list}
use Rattle.v_parser.specs.Expressions.{sees_mark, sees_name}
use Rattle.v_parser.specs.Words.{logic_in, switch_in, tran_in, pull_in}
use Rattle.v_parser.specs.Drives.{drive, sees_drive, pull_levels, delay_spec}
use Rattle.v_parser.specs.Declarations.{expr}

abbrev pub terms_of : Option Name × (Location × (List Expr × Unit {0})) → Terms
terms_of z = record { name = z.0; paren = z.1.0; terminals = z.1.1.0 }

-- `[ Name ] ( expr , .. )`
unfoldable pub terms : Reader Terms
terms = terms_of <$> (optional sees_name name & mark 40 & comma_list expr & skip 41)

abbrev pub gates_of : Location → GateKind → List Terms → GateItem
gates_of location kind gates = record { location = location; kind = kind; gates = gates }

-- `logic [ drive ] [ delay ] terms , .. ;`
unfoldable pub logic_item : Reader GateItem
logic_item =
    (λ (z : (LogicGate × Location)
    × (Option DriveStrength × (Option DelaySpec × (List Terms × Unit {0})))). gates_of z.0.1
    (kind.Logic z.0.0 z.1.0 z.1.1.0) z.1.1.1.0)
    <$> (token logic_in & optional sees_drive drive & optional (sees_mark 35) delay_spec
    & comma_list terms & skip 59)

-- `switch [ delay ] terms , .. ;`
unfoldable pub switch_item : Reader GateItem
switch_item =
    (λ (z : (Switch × Location) × (Option DelaySpec × (List Terms × Unit {0}))). gates_of z.0.1
    (kind.Switch z.0.0 z.1.0) z.1.1.0)
    <$> (token switch_in & optional (sees_mark 35) delay_spec & comma_list terms & skip 59)

-- `tran terms , .. ;`
unfoldable pub tran_item : Reader GateItem
tran_item =
    (λ (z : (TranGate × Location) × (List Terms × Unit {0})). gates_of z.0.1
    (kind.Tran z.0.0) z.1.0)
    <$> (token tran_in & comma_list terms & skip 59)

-- `pull [ ( level [ , level ] ) ] terms , .. ;`
unfoldable pub pull_item : Reader GateItem
pull_item =
    (λ (z : (PullGate × Location) × (Option PullLevels × (List Terms × Unit {0}))). gates_of z.0.1
    (kind.Pull z.0.0 z.1.0) z.1.1.0)
    <$> (token pull_in & optional sees_drive pull_levels & comma_list terms & skip 59)

-- the first token of an expression
abbrev pub begins_expr : Form → Form → Bool
begins_expr f g = is_name f || is_number f || is_based f || is_mark 123 f

abbrev pub connection_of : Location × (Name × (Unit {0} × (Option Expr × Unit {0}))) → Connection
connection_of z = record { location = z.0; port = z.1.0; value = z.1.1.1.0 }

-- `. Name ( [ expr ] )`
unfoldable pub connection : Reader Connection
connection = connection_of <$> (mark 46 & name & skip 40 & optional begins_expr expr & skip 41)

-- connections by name, or by order
unfoldable pub connections : Reader Connections
connections =
    choice (sees_mark 46) (ByName <$> comma_list connection)
    (ByOrder <$> comma_list (optional begins_expr expr))

abbrev pub inst_of : Option Name × (Location × (Connections × Unit {0})) → Inst
inst_of z = record { name = z.0; paren = z.1.0; connections = z.1.1.0 }

-- `[ Name ] ( connections )`
unfoldable pub inst : Reader Inst
inst = inst_of <$> (optional sees_name name & mark 40 & connections & skip 41)

abbrev pub instance_of : Name
    × (Option DriveStrength × (Option DelaySpec × (List Inst × Unit {0}))) → Instance
instance_of z = record { name = z.0; drive = z.1.0; delay = z.1.1.0; instances = z.1.1.1.0 }

-- `Name [ drive ] [ delay ] inst , .. ;`
unfoldable pub instance : Reader Instance
instance = instance_of
    <$> (name & optional sees_drive drive & optional (sees_mark 35) delay_spec & comma_list inst
    & skip 59)
