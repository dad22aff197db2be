-- Directives.
use Rattle.std.specs.Prelude.{ℕ, ℤ, pos, negsuc, Bool, ◌==◌, if◌then◌else◌, List, [], ◌∷◌, codes, Option, Some, None, is_some}
use Rattle.std.specs.Option.{option_map}
use Rattle.std.specs.Str.{bytes_eq}
use Rattle.v_tree.specs.declared.locations.Location.{Location}
use Rattle.v_tree.specs.declared.directives.CellDirective.{CellDirective}
use Rattle.v_tree.specs.declared.directives.CellWord.{CellWord}
use Rattle.v_tree.specs.declared.directives.CellWord.TheVariants as cells
use Rattle.v_tree.specs.declared.directives.Timescale.{Timescale}
use Rattle.v_tree.specs.declared.directives.ImplicitNetType.{ImplicitNetType}
use Rattle.v_tree.specs.declared.directives.ImplicitNetType.TheVariants as implicit
use Rattle.v_tree.specs.declared.directives.DefaultNettype.{DefaultNettype}
use Rattle.v_tree.specs.declared.directives.Directive.{Directive}
use Rattle.v_tree.specs.declared.directives.Directive.TheVariants as directives
use Rattle.v_tree.specs.Written.{Form}
use Rattle.v_tree.specs.Written as form
use Rattle.v_parser.specs.declared.directives.ScaleFactor.{ScaleFactor}
use Rattle.v_parser.specs.declared.directives.ScaleFactor.TheVariants.{One, Ten, Hundred}
use Rattle.v_parser.specs.declared.directives.TimeUnit.{TimeUnit}
use Rattle.v_parser.specs.declared.directives.TimeUnit.TheVariants as units
use Rattle.v_parser.specs.Input.{Reader, ◌<$>◌, ◌&◌, token, skip, directive_word, name_in, directive_in, is_directive, choice}
use Rattle.v_parser.specs.Words.{word_entry, word_meaning}

-- the first of two tokens is this directive
abbrev pub sees_directive : List ℕ → Form → Form → Bool
sees_directive bytes f g = is_directive bytes f

-- the first of two tokens is a directive
abbrev pub sees_some_directive : Form → Form → Bool
sees_some_directive f g = is_some (directive_in f)

-- ---- cells

unfoldable pub cell_table : List (List ℕ × CellWord)
cell_table = (codes "`celldefine", cells.Celldefine)
    ∷ (codes "`endcelldefine", cells.Endcelldefine) ∷ []

unfoldable pub cell_of : List ℕ → Option CellWord
cell_of bytes = word_entry cell_table bytes

abbrev pub cell_in : Form → Option CellWord
cell_in f = word_meaning cell_of (directive_in f)

abbrev pub cell_with : CellWord × Location → CellDirective
cell_with z = record { location = z.1; word = z.0 }

-- `` `celldefine `` or `` `endcelldefine ``
unfoldable pub cell : Reader CellDirective
cell = cell_with <$> token cell_in

-- ---- scales

-- the numbers that a scale may begin with
unfoldable pub factor_of : ℕ → Option ScaleFactor
factor_of n = if n == 1 then Some One else if n == 10 then Some Ten
    else if n == 100 then Some Hundred else None

abbrev pub factor_in : Form → Option ScaleFactor
factor_in (form.Number n) = factor_of n
factor_in _ = None

-- the names of units
unfoldable pub unit_table : List (List ℕ × TimeUnit)
unit_table = (codes "s", units.Second) ∷ (codes "ms", units.Millisecond)
    ∷ (codes "us", units.Microsecond) ∷ (codes "ns", units.Nanosecond)
    ∷ (codes "ps", units.Picosecond) ∷ (codes "fs", units.Femtosecond) ∷ []

unfoldable pub unit_of : List ℕ → Option TimeUnit
unit_of name = word_entry unit_table name

abbrev pub unit_in : Form → Option TimeUnit
unit_in f = word_meaning unit_of (name_in f)

-- a power of ten by a factor
abbrev pub by_factor : ScaleFactor → ℤ → ℤ → ℤ → ℤ
by_factor One one ten hundred = one
by_factor Ten one ten hundred = ten
by_factor Hundred one ten hundred = hundred

-- the power of ten of a second that a factor and a unit make
abbrev pub power_of : ScaleFactor → TimeUnit → ℤ
power_of f units.Second = by_factor f (pos 0) (pos 1) (pos 2)
power_of f units.Millisecond = by_factor f (negsuc 2) (negsuc 1) (negsuc 0)
power_of f units.Microsecond = by_factor f (negsuc 5) (negsuc 4) (negsuc 3)
power_of f units.Nanosecond = by_factor f (negsuc 8) (negsuc 7) (negsuc 6)
power_of f units.Picosecond = by_factor f (negsuc 11) (negsuc 10) (negsuc 9)
power_of f units.Femtosecond = by_factor f (negsuc 14) (negsuc 13) (negsuc 12)

-- 1, 10 or 100
unfoldable pub factor : Reader ScaleFactor
factor = (λ z. z.0) <$> token factor_in

-- the name of a unit
unfoldable pub unit : Reader TimeUnit
unit = (λ z. z.0) <$> token unit_in

abbrev pub scale_of : ScaleFactor × TimeUnit → ℤ
scale_of z = power_of z.0 z.1

-- a number and a unit
unfoldable pub scale : Reader ℤ
scale = scale_of <$> (factor & unit)

abbrev pub timescale_of : Location × (ℤ × (Unit {0} × ℤ)) → Timescale
timescale_of z = record { location = z.0; unit = z.1.0; precision = z.1.1.1 }

-- `` `timescale unit / precision ``
unfoldable pub timescale : Reader Timescale
timescale = timescale_of <$> (directive_word (codes "`timescale") & scale & skip 47 & scale)

-- ---- the type of implicit nets

unfoldable pub implicit_table : List (List ℕ × ImplicitNetType)
implicit_table = (codes "wire", implicit.Wire) ∷ (codes "tri", implicit.Tri)
    ∷ (codes "tri0", implicit.Tri0) ∷ (codes "tri1", implicit.Tri1) ∷ (codes "wand", implicit.Wand)
    ∷ (codes "triand", implicit.Triand) ∷ (codes "wor", implicit.Wor)
    ∷ (codes "trior", implicit.Trior) ∷ (codes "trireg", implicit.Trireg) ∷ []

unfoldable pub implicit_of : List ℕ → Option ImplicitNetType
implicit_of word = word_entry implicit_table word

-- `none`, which is a name
unfoldable pub none_of : List ℕ → Option (Option ImplicitNetType)
none_of name = if bytes_eq name (codes "none") then Some None else None

abbrev pub default_in : Form → Option (Option ImplicitNetType)
default_in (form.Word word) = option_map Some (implicit_of word)
default_in (form.Name name) = none_of name
default_in _ = None

-- a type or `none`
unfoldable pub default : Reader (Option ImplicitNetType)
default = (λ z. z.0) <$> token default_in

abbrev pub default_nettype_of : Location × Option ImplicitNetType → DefaultNettype
default_nettype_of z = record { location = z.0; net_type = z.1 }

-- `` `default_nettype `` and a type or `none`
unfoldable pub default_nettype : Reader DefaultNettype
default_nettype = default_nettype_of <$> (directive_word (codes "`default_nettype") & default)

-- ---- directives

-- `` `resetall ``, or a cell
unfoldable pub resets : Reader Directive
resets =
    choice (sees_directive (codes "`resetall"))
    (directives.Resetall <$> directive_word (codes "`resetall")) (directives.Cell <$> cell)

unfoldable pub defaults : Reader Directive
defaults =
    choice (sees_directive (codes "`default_nettype"))
    (directives.DefaultNettype <$> default_nettype) resets

-- a directive
unfoldable pub directive : Reader Directive
directive =
    choice (sees_directive (codes "`timescale")) (directives.Timescale <$> timescale) defaults
