-- The precisions of `timescale` directives (IEEE 1364-2005, 19.8), as powers of ten of a second.
use Rattle.std.specs.Prelude.{ℤ, pos, List, [], ◌∷◌, Option, None, Some, int_lt, if◌then◌else◌}
use Rattle.std.specs.Int.{int_min}
use Rattle.std.specs.Option.{unwrap_or}
use Rattle.std.specs.List.{flat_map}
use Rattle.v_tree.specs.declared.locations.Location.{Location}
use Rattle.v_tree.specs.declared.directives.Directive.{Directive}
use Rattle.v_tree.specs.declared.directives.Directive.TheVariants.{Timescale, DefaultNettype, Resetall, Cell}

-- the precision that a directive gives
abbrev pub precision_of : Directive → Option ℤ
precision_of (Timescale t) = Some t.precision
precision_of (DefaultNettype d) = None
precision_of (Resetall location) = None
precision_of (Cell c) = None

-- the finer of two precisions that may be there
abbrev pub finer : Option ℤ → Option ℤ → Option ℤ
finer None b = b
finer (Some a) None = Some a
finer (Some a) (Some b) = Some (int_min a b)

-- the finest precision of all, where there is a `timescale`
abbrev pub finest_precision : List Directive → Option ℤ
finest_precision [] = None
finest_precision (d ∷ ds) = finer (precision_of d) (finest_precision ds)

-- the tick of a file: the finest precision, or 0 where there is no `timescale`
abbrev pub tick_of : List Directive → ℤ
tick_of ds = unwrap_or (finest_precision ds) (pos 0)

-- the place of a directive that gives a precision greater than the unit
abbrev pub coarse_places : Directive → List Location
coarse_places (Timescale t) = if int_lt t.unit t.precision then t.location ∷ [] else []
coarse_places (DefaultNettype d) = []
coarse_places (Resetall location) = []
coarse_places (Cell c) = []

-- the directives that give a precision greater than the unit, anywhere in the text
abbrev pub coarse_precisions : List Directive → List Location
coarse_precisions ds = flat_map coarse_places ds
