-- Declarations and assignments.
use Rattle.std.specs.Prelude.{Bool, ◌||◌, List, Option, codes}
use Rattle.v_tree.specs.declared.locations.Location.{Location}
use Rattle.v_tree.specs.declared.locations.Name.{Name}
use Rattle.v_tree.specs.declared.expressions.RangeBounds.{RangeBounds}
use Rattle.v_tree.specs.declared.expressions.Expr.{Expr}
use Rattle.v_tree.specs.declared.expressions.Target.{Target}
use Rattle.v_tree.specs.declared.drives.DriveStrength.{DriveStrength}
use Rattle.v_tree.specs.declared.drives.Charge.{Charge}
use Rattle.v_tree.specs.declared.drives.DelaySpec.{DelaySpec}
use Rattle.v_tree.specs.declared.declarations.Direction.{Direction}
use Rattle.v_tree.specs.declared.declarations.NetType.{NetType}
use Rattle.v_tree.specs.declared.declarations.VectorWord.{VectorWord}
use Rattle.v_tree.specs.declared.declarations.VectorRange.{VectorRange}
use Rattle.v_tree.specs.declared.declarations.PortDecl.{PortDecl}
use Rattle.v_tree.specs.declared.declarations.ValuedName.{ValuedName}
use Rattle.v_tree.specs.declared.declarations.DeclaredNames.{DeclaredNames}
use Rattle.v_tree.specs.declared.declarations.DeclaredNames.TheVariants as kind
use Rattle.v_tree.specs.declared.declarations.NetDecl.{NetDecl}
use Rattle.v_tree.specs.declared.declarations.TriregDecl.{TriregDecl}
use Rattle.v_tree.specs.declared.declarations.Pair.{Pair}
use Rattle.v_tree.specs.declared.declarations.AssignItem.{AssignItem}
use Rattle.v_tree.specs.Written.{Form}
use Rattle.v_parser.specs.Input.{Reader, ◌<$>◌, ◌&◌, token, skip, word, name, is_mark, optional, choice, comma_list}
use Rattle.v_parser.specs.Expressions.{sees_mark, range, expr_at, target_at}
use Rattle.v_parser.specs.Words.{direction_in, net_type_in, sees_net_type, vector_word_in, sees_vector_word}
use Rattle.v_parser.specs.Drives.{drive, charge, delay_spec}

-- an expression of the grammar: its concatenations stand at most 64 deep
unfoldable pub expr : Reader Expr
expr = expr_at 64

-- a target of the grammar: its concatenations stand at most 64 deep
unfoldable pub target : Reader Target
target = target_at 64

-- a type of nets, without its location
unfoldable pub net_type : Reader NetType
net_type = (λ z. z.0) <$> token net_type_in

-- a word before a range, without its location
unfoldable pub range_word : Reader VectorWord
range_word = (λ z. z.0) <$> token vector_word_in

abbrev pub port_decl_of : (Direction × Location)
    × (Option NetType × (Option RangeBounds × (List Name × Unit {0}))) → PortDecl
port_decl_of z =
    record {
      location = z.0.1;
      direction = z.0.0;
      net_type = z.1.0;
      range = z.1.1.0;
      names = z.1.1.1.0;
    }

-- `dir [ nettype ] [ range ] Name , .. ;`
unfoldable pub port_decl : Reader PortDecl
port_decl = port_decl_of
    <$> (token direction_in & optional sees_net_type net_type & optional (sees_mark 91) range
    & comma_list name & skip 59)

abbrev pub vector_range_of : Option VectorWord × RangeBounds → VectorRange
vector_range_of z = record { word = z.0; range = z.1 }

-- a range, with a word before it or without one
unfoldable pub vector_range : Reader VectorRange
vector_range = vector_range_of <$> (optional sees_vector_word range_word & range)

-- a word before a range, or a `[`
abbrev pub begins_vector_range : Form → Form → Bool
begins_vector_range f g = sees_vector_word f g || is_mark 91 f

abbrev pub valued_of : Name × (Unit {0} × Expr) → ValuedName
valued_of z = record { name = z.0; value = z.1.1 }

-- `Name = expr`
unfoldable pub valued_name : Reader ValuedName
valued_name = valued_of <$> (name & skip 61 & expr)

-- a `=` is the second token
abbrev pub sees_value : Form → Form → Bool
sees_value f g = is_mark 61 g

-- names alone, or names with values
unfoldable pub declared_names : Reader DeclaredNames
declared_names = choice sees_value (kind.Valued <$> comma_list valued_name) (kind.Names <$> comma_list name)

abbrev pub net_decl_of : (NetType × Location)
    × (Option DriveStrength × (Option VectorRange × (Option DelaySpec × (DeclaredNames × Unit {0}))))
    → NetDecl
net_decl_of z =
    record {
      location = z.0.1;
      net_type = z.0.0;
      drive = z.1.0;
      vector_range = z.1.1.0;
      delay = z.1.1.1.0;
      declared_names = z.1.1.1.1.0;
    }

-- `nettype [ drive ] [ vector_range ] [ delay ] declared_names ;`
unfoldable pub net_decl : Reader NetDecl
net_decl = net_decl_of
    <$> (token net_type_in & optional (sees_mark 40) drive
    & optional begins_vector_range vector_range & optional (sees_mark 35) delay_spec & declared_names
    & skip 59)

abbrev pub trireg_of : Location
    × (Option Charge × (Option VectorRange × (Option DelaySpec × (List Name × Unit {0}))))
    → TriregDecl
trireg_of z =
    record {
      location = z.0;
      charge = z.1.0;
      vector_range = z.1.1.0;
      delay = z.1.1.1.0;
      names = z.1.1.1.1.0;
    }

-- `trireg [ charge ] [ vector_range ] [ delay ] Name , .. ;`
unfoldable pub trireg_decl : Reader TriregDecl
trireg_decl = trireg_of
    <$> (word (codes "trireg") & optional (sees_mark 40) charge
    & optional begins_vector_range vector_range & optional (sees_mark 35) delay_spec
    & comma_list name & skip 59)

abbrev pub pair_of : Target × (Unit {0} × Expr) → Pair
pair_of z = record { target = z.0; value = z.1.1 }

-- `target = expr`
unfoldable pub pair : Reader Pair
pair = pair_of <$> (target & skip 61 & expr)

abbrev pub assign_of : Location
    × (Option DriveStrength × (Option DelaySpec × (List Pair × Unit {0}))) → AssignItem
assign_of z = record { location = z.0; drive = z.1.0; delay = z.1.1.0; pairs = z.1.1.1.0 }

-- `assign [ drive ] [ delay ] pair , .. ;`
unfoldable pub assign_item : Reader AssignItem
assign_item = assign_of
    <$> (word (codes "assign") & optional (sees_mark 40) drive & optional (sees_mark 35) delay_spec
    & comma_list pair & skip 59)
