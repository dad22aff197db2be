-- When the runs of a module select bits that its nets have.
use Rattle.module_scope.specs.declared.scopes.Scope.{Scope}
use Rattle.module_scope.specs.Scopes.{scope_net}
use Rattle.item_parts.specs.Widths.{net_range}
use Rattle.expression_bits.specs.declared.runs.BitRun.{BitRun}
use Rattle.expression_bits.specs.declared.runs.BitRun.TheVariants.{Net, Literal}
use Rattle.plan_laws.specs.SoundRuns.{FitsRange}

-- a run of a net selects bits that the net has
abbrev pub HasFitSelect : Scope → BitRun → Type 0
HasFitSelect scope (Net name select) = FitsRange (net_range (scope_net scope name)) select
HasFitSelect scope (Literal bits) = Unit {0}
