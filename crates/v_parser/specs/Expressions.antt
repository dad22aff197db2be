-- Ranges, selects, expressions and targets.
use Rattle.std.specs.Prelude.{ℕ, zero, suc, Bool, List, Option}
use Rattle.v_tree.specs.declared.locations.Location.{Location}
use Rattle.v_tree.specs.declared.locations.Name.{Name}
use Rattle.v_tree.specs.declared.expressions.RangeBounds.{RangeBounds}
use Rattle.v_tree.specs.declared.expressions.Select.{Select}
use Rattle.v_tree.specs.declared.expressions.Pick.{Pick}
use Rattle.v_tree.specs.declared.expressions.Expr.{Expr}
use Rattle.v_tree.specs.declared.expressions.Expr.TheVariants as expr
use Rattle.v_tree.specs.declared.expressions.Target.{Target}
use Rattle.v_tree.specs.declared.expressions.Target.TheVariants as target
use Rattle.v_tree.specs.Written.{Form}
use Rattle.v_parser.specs.Input.{Reader, ◌<$>◌, ◌&◌, mark, skip, name, number, placed_number, placed_based, is_mark, is_name, is_number, optional, choice, comma_list}

-- the first of two tokens is the mark
abbrev pub sees_mark : ℕ → Form → Form → Bool
sees_mark byte f g = is_mark byte f

abbrev pub sees_name : Form → Form → Bool
sees_name f g = is_name f

abbrev pub sees_number : Form → Form → Bool
sees_number f g = is_number f

abbrev pub range_of : Unit {0} × (ℕ × (Unit {0} × (ℕ × Unit {0}))) → RangeBounds
range_of z = record { left = z.1.0; right = z.1.1.1.0 }

-- `[ number : number ]`
unfoldable pub range : Reader RangeBounds
range = range_of <$> (skip 91 & number & skip 58 & number & skip 93)

-- `: number`
unfoldable pub bound : Reader ℕ
bound = (λ z. z.1) <$> (skip 58 & number)

abbrev pub select_of : Unit {0} × (ℕ × (Option ℕ × Unit {0})) → Select
select_of z = record { left = z.1.0; right = z.1.1.0 }

-- `[ number ]` or `[ number : number ]`
unfoldable pub select : Reader Select
select = select_of <$> (skip 91 & number & optional (sees_mark 58) bound & skip 93)

abbrev pub pick_of : Name × Option Select → Pick
pick_of z = record { name = z.0; select = z.1 }

-- a name, with a select or without one
unfoldable pub pick : Reader Pick
pick = pick_of <$> (name & optional (sees_mark 91) select)

-- a pick, a number or a based number
unfoldable pub atom : Reader Expr
atom =
    choice sees_name (expr.Pick <$> pick)
    (choice sees_number ((λ z. expr.Number z.1 z.0) <$> placed_number)
    ((λ z. expr.Based z.1 z.0) <$> placed_based))

-- an expression with concatenations so deep at most
unfoldable pub expr_at : ℕ → Reader Expr
expr_at zero = atom
expr_at (suc depth) =
    choice (sees_mark 123) ((λ (z : Location × (List Expr × Unit {0})). expr.Concat z.0 z.1.0)
    <$> (mark 123 & comma_list (expr_at depth) & skip 125)) atom

-- a target with concatenations so deep at most
unfoldable pub target_at : ℕ → Reader Target
target_at zero = target.Pick <$> pick
target_at (suc depth) =
    choice (sees_mark 123) ((λ (z : Location × (List Target × Unit {0})). target.Concat z.0 z.1.0)
    <$> (mark 123 & comma_list (target_at depth) & skip 125)) (target.Pick <$> pick)
