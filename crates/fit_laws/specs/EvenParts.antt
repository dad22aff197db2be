-- The two sides of an assignment have as many bits.
use Rattle.std.specs.Prelude.{◌≡◌, ◌+◌, ◌<◌}
use Rattle.module_scope.specs.declared.scopes.Scope.{Scope}
use Rattle.expression_bits.specs.Runs.{runs_width}
use Rattle.module_parts.specs.declared.parts.ModulePart.{ModulePart}
use Rattle.module_parts.specs.declared.parts.ModulePart.TheVariants.{Names, Gate, Pair, Instance}

-- the target of an assignment has a bit, and the right side has as many bits as it, but for those that are cut
abbrev pub IsEven : Scope → ModulePart → Type 0
IsEven scope (Names names) = Unit {0}
IsEven scope (Gate g) = Unit {0}
IsEven scope (Pair p) = (0 < runs_width scope p.target) × (runs_width scope p.value.runs ≡ runs_width scope p.target + p.value.cut)
IsEven scope (Instance i) = Unit {0}
