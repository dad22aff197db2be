-- What has to hold of the names and the runs of bits in a module.
use Rattle.std.specs.Prelude.{ℕ, ◌+◌, ◌<◌, ◌≤◌, ◌^◌, List, [], length, Option}
use Rattle.std.specs.List.{All}
use Rattle.v_tree.specs.declared.expressions.RangeBounds.{RangeBounds}
use Rattle.v_tree.specs.declared.expressions.Select.{Select}
use Rattle.module_scope.specs.declared.scopes.Scope.{Scope}
use Rattle.module_scope.specs.Scopes.{scope_net}
use Rattle.item_parts.specs.Widths.{net_range, range_width, width_in}
use Rattle.expression_bits.specs.declared.runs.BitRun.{BitRun}
use Rattle.expression_bits.specs.declared.runs.BitRun.TheVariants.{Net, Literal}
use Rattle.module_parts.specs.declared.parts.ModulePart.{ModulePart}
use Rattle.module_parts.specs.declared.parts.ModulePart.TheVariants.{Names, Gate, Pair, Instance}
use Rattle.flat_names.specs.Spelling.{IsText}
use Rattle.netlist_plan.specs.Nets.{select_offset}
use Rattle.netlist_plan.specs.Unnamed.{runs_in}

-- a select of bits that a net of the range has
abbrev pub FitsRange : Option RangeBounds → Option Select → Type 0
FitsRange range select = select_offset range select + width_in range select ≤ range_width range

-- a run of bits that a net of the module has, or of a literal of one bit or more
abbrev pub IsSoundRun : Scope → BitRun → Type 0
IsSoundRun scope (Net name select) = IsText name × FitsRange (net_range (scope_net scope name)) select
IsSoundRun scope (Literal bits) = (0 < length bits) × (length bits < 2 ^ 32)

-- the names that a part names as a whole
abbrev pub whole_names : ModulePart → List (List ℕ)
whole_names (Names names) = names
whole_names (Gate g) = []
whole_names (Pair p) = []
whole_names (Instance i) = []

-- names and runs of a part that are sound
pub record HasSoundRuns (scope : Scope) (part : ModulePart) : Type 0 where
  pub names : All IsText (whole_names part)
  pub runs : All (IsSoundRun scope) (runs_in part)
