-- A UDP's symbols as sets of values and of changes (IEEE 1364-2005, table 8-1).
use Rattle.std.specs.Prelude.{Option, Some, None, Bool, true, false, ◌&&◌, IsTrue, if◌then◌else◌}
use Rattle.level_range.specs.declared.range.Logic.{Logic}
use Rattle.level_range.specs.declared.range.Logic.TheVariants.{Zero, One, X, Z}
use Rattle.udp_table.specs.declared.symbols.Base.{Base}
use Rattle.udp_table.specs.declared.symbols.Base.TheVariants as base
use Rattle.udp_table.specs.declared.symbols.Sym.{Sym}
use Rattle.udp_table.specs.declared.symbols.Sym.TheVariants as sym

-- the values of `0 1 x ? b`
abbrev pub base_has : Base → Logic → Bool
base_has base.Zero Zero = true
base_has base.One One = true
base_has base.X X = true
base_has base.Any Zero = true
base_has base.Any One = true
base_has base.Any X = true
base_has base.Both Zero = true
base_has base.Both One = true
base_has _ _ = false

-- the symbols for values among all
abbrev pub base_of : Sym → Option Base
base_of sym.Zero = Some base.Zero
base_of sym.One = Some base.One
base_of sym.X = Some base.X
base_of sym.Any = Some base.Any
base_of sym.Both = Some base.Both
base_of _ = None

abbrev pub some_has : Option Base → Logic → Bool
some_has None v = false
some_has (Some s) v = base_has s v

-- the values of a symbol: an edge has none, nor has `-`
abbrev pub has_value : Sym → Logic → Bool
has_value s v = some_has (base_of s) v

-- the changes: from 0, 1 or x to another of them
abbrev pub is_change : Logic → Logic → Bool
is_change Zero One = true
is_change Zero X = true
is_change One Zero = true
is_change One X = true
is_change X Zero = true
is_change X One = true
is_change _ _ = false

-- the changes of a symbol: a symbol for values has none, nor has `-`
abbrev pub has_change : Sym → Logic → Logic → Bool
has_change sym.Rise Zero One = true
has_change sym.Fall One Zero = true
has_change sym.Pos Zero One = true
has_change sym.Pos Zero X = true
has_change sym.Pos X One = true
has_change sym.Neg One Zero = true
has_change sym.Neg One X = true
has_change sym.Neg X Zero = true
has_change sym.Change v w = is_change v w
has_change (sym.Edge a b) v w = base_has a v && base_has b w && is_change v w
has_change _ _ _ = false

-- an input at a look-up: its value before and after, which are the same where it keeps its value
pub record Pin : Type 0 where
  pub was : Logic
  pub now : Logic

-- whether two values are one
abbrev pub same_value : Logic → Logic → Bool
same_value Zero Zero = true
same_value One One = true
same_value X X = true
same_value Z Z = true
same_value _ _ = false

-- a symbol admits an input that keeps its value by the value, and one that changes by the change
abbrev pub admits : Sym → Pin → Bool
admits s p = if same_value p.was p.now then has_value s p.now else has_change s p.was p.now

-- the symbol has a value
abbrev pub HasValue : Sym → Type 0
HasValue s = (v : Logic) × IsTrue (has_value s v)

-- the symbol contains a change
abbrev pub HasChange : Sym → Type 0
HasChange s = (v w : Logic) × IsTrue (has_change s v w)
