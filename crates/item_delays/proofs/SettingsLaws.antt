-- What is in force at a module keeps what delays are counted in, where no precision is greater than its unit.
use Rattle.std.proofs.Common.{◌≡◌, ℕ, ℤ, pos, Bool, true, false, List, [], ◌∷◌, ◌++◌, length, Option, None, Some, refl, ap, subst, arith}
use Rattle.std.specs.Prelude.{◌≤ℤ◌, int_lt, if◌then◌else◌}
use Rattle.std.specs.Option.{unwrap_or}
use Rattle.std.specs.List.{AllByRecursion, flat_map}
use Rattle.std.proofs.Math.Logic.{∥∥₁_elim}
use Rattle.std.proofs.lemmas.Int.{ints, clamps}
use denote.Struct.Props.{props}
use Rattle.v_tree.specs.declared.directives.Timescale.{Timescale as TimescaleOf}
use Rattle.v_tree.specs.declared.directives.Directive.{Directive}
use Rattle.v_tree.specs.declared.directives.Directive.TheVariants.{Timescale, DefaultNettype, Resetall, Cell}
use Rattle.v_tree.specs.declared.locations.Location.{Location}
use Rattle.v_tree.specs.declared.modules.File.{File}
use Rattle.v_tree.specs.Fit.{IsFitDirective, IsScale}
use Rattle.module_directives.specs.InForce.{default_settings, is_before, settings_after, settings_at}
use Rattle.module_directives.specs.Precisions.{coarse_places, coarse_precisions, finer, finest_precision, precision_of, tick_of}
use Rattle.module_directives.specs.Walks.{settings_from}
use Rattle.module_directives.specs.declared.settings.Settings.{Settings}
use Rattle.module_directives.proofs.WalkLaws.{settings_at-from}
use Rattle.item_delays.specs.Scales.{IsScaled}

-- ---- the tick

-- a precision that may be there is at least so great
abbrev IsFrom : ℤ → Option ℤ → Type 0
IsFrom low None = Unit {0}
IsFrom low (Some precision) = low ≤ℤ precision

-- a precision that may be there is a scale
abbrev IsScaleIfThere : Option ℤ → Type 0
IsScaleIfThere None = Unit {0}
IsScaleIfThere (Some precision) = IsScale precision

both_from : (low : ℤ) (a b : Option ℤ) → IsFrom low (finer a b) → IsFrom low a × IsFrom low b
both_from low None b h = (tt, h)
both_from low (Some a) None h = (h, tt)
both_from low (Some a) (Some b) h = (omega (arith, ints, clamps), omega (arith, ints, clamps))

-- no precision is below the finest
each_from : (low : ℤ) (ds : List Directive) → IsFrom low (finest_precision ds) → AllByRecursion (λ d. IsFrom low (precision_of d)) ds
each_from low [] h = tt
each_from low (d ∷ ds) h =
    let both = both_from low (precision_of d) (finest_precision ds) h in
    (both.0, each_from low ds both.1)

finer_scale : (a b : Option ℤ) → IsScaleIfThere a → IsScaleIfThere b → IsScaleIfThere (finer a b)
finer_scale None b f g = g
finer_scale (Some a) None f g = f
finer_scale (Some a) (Some b) f g = record {
  low = let one = f.low in let other = g.low in omega (arith, ints, clamps);
  high = let one = f.high in let other = g.high in omega (arith, ints, clamps);
}

precision_scale : (d : Directive) → IsFitDirective d → IsScaleIfThere (precision_of d)
precision_scale (Timescale t) f = f.precision
precision_scale (DefaultNettype d) f = tt
precision_scale (Resetall location) f = tt
precision_scale (Cell c) f = tt

finest_scale : (ds : List Directive) → AllByRecursion IsFitDirective ds → IsScaleIfThere (finest_precision ds)
finest_scale [] f = tt
finest_scale (d ∷ ds) f = finer_scale (precision_of d) (finest_precision ds) (precision_scale d f.0) (finest_scale ds f.1)

finest_tick : (finest : Option ℤ) → IsScaleIfThere finest → IsScale (unwrap_or finest (pos 0))
finest_tick None f = record { low = omega (arith, ints); high = omega (arith, ints) }
finest_tick (Some precision) f = f

finest_from : (finest : Option ℤ) → IsFrom (unwrap_or finest (pos 0)) finest
finest_from None = tt
finest_from (Some precision) = omega (arith, ints)

-- ---- one directive after the other

not_coarse : (t : TimescaleOf) (is_coarse : Bool) → int_lt t.unit t.precision ≡ is_coarse → coarse_places (Timescale t) ≡ [] → t.precision ≤ℤ t.unit
not_coarse t true e none =
    let some : t.location ∷ [] ≡ [] = rw e at none in
    absurd (let count : length (t.location ∷ []) ≡ 0 = ap length some in omega arith)
not_coarse t false e none = grind (arith, ints)

default_scaled : (tick : ℤ) → IsScale tick → IsScaled tick (default_settings tick)
default_scaled tick f = record { least = f.low; fine = omega (arith, ints); coarse = omega (arith, ints); greatest = f.high }

-- what is in force behind a directive keeps it, where what was before it does
scaled_after : (tick : ℤ) (d : Directive) (settings : Settings) → IsScale tick → IsFrom tick (precision_of d) → IsFitDirective d → coarse_places d ≡ [] →
    IsScaled tick settings → IsScaled tick (settings_after tick settings d)
scaled_after tick (Timescale t) settings scale from f none h =
    record { least = scale.low; fine = from; coarse = not_coarse t (int_lt t.unit t.precision) refl none; greatest = f.unit.high }
scaled_after tick (DefaultNettype d) settings scale from f none h =
    record { least = h.least; fine = h.fine; coarse = h.coarse; greatest = h.greatest }
scaled_after tick (Resetall location) settings scale from f none h = default_scaled tick scale
scaled_after tick (Cell c) settings scale from f none h = h

either_scaled : (tick : ℤ) (test : Bool) (a b : Settings) → IsScaled tick a → IsScaled tick b → IsScaled tick (if test then a else b)
either_scaled tick true a b f g = f
either_scaled tick false a b f g = g

append_none : {X : Type 0} (xs ys : List X) → xs ++ ys ≡ [] → (xs ≡ []) × (ys ≡ [])
append_none [] ys e = (refl, e)
append_none (x ∷ xs) ys e = absurd (let count : length (x ∷ (xs ++ ys)) ≡ 0 = ap length e in omega arith)

scaled_from : (tick : ℤ) (token : ℕ) (settings : Settings) (ds : List Directive) → IsScale tick → AllByRecursion (λ d. IsFrom tick (precision_of d)) ds →
    AllByRecursion IsFitDirective ds → coarse_precisions ds ≡ [] → IsScaled tick settings → IsScaled tick (settings_from tick token settings ds)
scaled_from tick token settings [] scale from f none h = h
scaled_from tick token settings (d ∷ ds) scale from f none h =
    let both = append_none (coarse_places d) (flat_map coarse_places ds) none in
    either_scaled tick (is_before token d) (settings_from tick token (settings_after tick settings d) ds) settings
    (scaled_from tick token (settings_after tick settings d) ds scale from.1 f.1 both.1 (scaled_after tick d settings scale from.0 f.0 both.0 h))
    h

-- ---- at a location

settings_scaled : (ds : List Directive) (location : Location) → AllByRecursion IsFitDirective ds → coarse_precisions ds ≡ [] →
    IsScaled (tick_of ds) (settings_at ds location)
settings_scaled ds location f none =
    let scale = finest_tick (finest_precision ds) (finest_scale ds f) in
    let from = each_from (tick_of ds) ds (finest_from (finest_precision ds)) in
    subst (IsScaled (tick_of ds)) (settings_at-from ds location (tick_of ds) refl)
    (scaled_from (tick_of ds) location.token (default_settings (tick_of ds)) ds scale from f none (default_scaled (tick_of ds) scale))

-- what is in force at a module of a file
pub file_scaled : (file : File) (location : Location) → coarse_precisions file.directives ≡ [] →
    IsScaled (tick_of file.directives) (settings_at file.directives location)
file_scaled file location none = record {
  least = ∥∥₁_elim file.kept (hlevel props) (λ f. (settings_scaled file.directives location f.directives.each none).least);
  fine = ∥∥₁_elim file.kept (hlevel props) (λ f. (settings_scaled file.directives location f.directives.each none).fine);
  coarse = ∥∥₁_elim file.kept (hlevel props) (λ f. (settings_scaled file.directives location f.directives.each none).coarse);
  greatest = ∥∥₁_elim file.kept (hlevel props) (λ f. (settings_scaled file.directives location f.directives.each none).greatest);
}
