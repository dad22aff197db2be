-- What is in force at a module, by the directives before it (IEEE 1364-2005, 19).
use Rattle.std.specs.Prelude.{ℕ, ℤ, Bool, List, Some, nat_lt}
use Rattle.std.specs.List.{fold, take_while}
use Rattle.v_tree.specs.Tree.{directive_location}
use Rattle.v_tree.specs.declared.locations.Location.{Location}
use Rattle.v_tree.specs.declared.directives.Directive.{Directive}
use Rattle.v_tree.specs.declared.directives.Directive.TheVariants.{Timescale, DefaultNettype, Resetall, Cell}
use Rattle.v_tree.specs.declared.directives.ImplicitNetType.TheVariants.{Wire}
use Rattle.module_directives.specs.declared.settings.Settings.{Settings}
use Rattle.module_directives.specs.Precisions.{tick_of}

-- before any directive, and behind `resetall`: the tick is unit and precision, and implicit nets are wires
abbrev pub default_settings : ℤ → Settings
default_settings tick = record { unit = tick; precision = tick; implicit_type = Some Wire }

-- what is in force behind a directive
abbrev pub settings_after : ℤ → Settings → Directive → Settings
settings_after tick settings (Timescale t) = record { unit = t.unit; precision = t.precision; implicit_type = settings.implicit_type }
settings_after tick settings (DefaultNettype d) = record { unit = settings.unit; precision = settings.precision; implicit_type = d.net_type }
settings_after tick settings (Resetall location) = default_settings tick
settings_after tick settings (Cell c) = settings

-- a directive stands before a token
abbrev pub is_before : ℕ → Directive → Bool
is_before token d = nat_lt (directive_location d).token token

-- what is in force at a location: what the directives before it leave, one after the other
abbrev pub settings_at : List Directive → Location → Settings
settings_at ds location = fold (settings_after (tick_of ds)) (default_settings (tick_of ds)) (take_while (is_before location.token) ds)
