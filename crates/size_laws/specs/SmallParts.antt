-- Parts whose literals and assignments are no longer than a bound.
use Rattle.std.specs.Prelude.{ℕ, ◌≤◌, length}
use Rattle.module_scope.specs.declared.scopes.Scope.{Scope}
use Rattle.std.specs.List.{AllByRecursion}
use Rattle.expression_bits.specs.declared.runs.BitRun.{BitRun}
use Rattle.expression_bits.specs.declared.runs.BitRun.TheVariants.{Net, Literal}
use Rattle.expression_bits.specs.Runs.{runs_width}
use Rattle.module_parts.specs.declared.parts.ModulePart.{ModulePart}
use Rattle.module_parts.specs.declared.parts.ModulePart.TheVariants.{Names, Gate, Pair, Instance}
use Rattle.netlist_plan.specs.Unnamed.{runs_in}

-- a literal of no more bits than a bound
abbrev pub IsRunUpTo : ℕ → BitRun → Type 0
IsRunUpTo bound (Net name select) = Unit {0}
IsRunUpTo bound (Literal bits) = length bits ≤ bound

abbrev pub IsTargetUpTo : Scope → ℕ → ModulePart → Type 0
IsTargetUpTo scope bound (Names names) = Unit {0}
IsTargetUpTo scope bound (Gate g) = Unit {0}
IsTargetUpTo scope bound (Pair p) = runs_width scope p.target ≤ bound
IsTargetUpTo scope bound (Instance i) = Unit {0}

-- literals and the target of a part are no longer than a bound
abbrev pub IsPartUpTo : Scope → ℕ → ModulePart → Type 0
IsPartUpTo scope bound part = AllByRecursion (IsRunUpTo bound) (runs_in part) × IsTargetUpTo scope bound part
