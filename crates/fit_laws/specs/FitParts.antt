-- What the tree of a module gives its parts.
use Rattle.std.specs.Prelude.{ℕ, ◌<◌, ◌^◌, List, [], length, Option, None}
use Rattle.std.specs.List.{All, AllByRecursion}
use Rattle.expression_bits.specs.declared.runs.BitRun.{BitRun}
use Rattle.expression_bits.specs.declared.runs.BitRun.TheVariants.{Net, Literal}
use Rattle.flat_names.specs.Spelling.{IsText}
use Rattle.module_parts.specs.declared.parts.ModulePart.{ModulePart}
use Rattle.module_parts.specs.declared.parts.ModulePart.TheVariants.{Names, Gate, Pair, Instance}
use Rattle.netlist_plan.specs.Unnamed.{runs_in}
use Rattle.plan_laws.specs.SoundGates.{IsTextIfThere}
use Rattle.plan_laws.specs.SoundRuns.{whole_names}

-- a name that is a text, or the bits of a literal, one or more
abbrev pub IsFitRun : BitRun → Type 0
IsFitRun (Net name select) = IsText name
IsFitRun (Literal bits) = 0 < length bits

-- the name of a gate or of an instance, where it has one
abbrev pub part_text : ModulePart → Option (List ℕ)
part_text (Names names) = None
part_text (Gate g) = g.name
part_text (Pair p) = None
part_text (Instance i) = i.name

-- the runs of each terminal of a gate
abbrev pub terminals_of : ModulePart → List (List BitRun)
terminals_of (Names names) = []
terminals_of (Gate g) = g.terminals
terminals_of (Pair p) = []
terminals_of (Instance i) = []

-- a part of a fit module: names are texts, each literal has a bit, and each terminal of a gate has a run
pub record IsFitPart (part : ModulePart) : Type 0 where
  pub names : All IsText (whole_names part)
  pub runs : All IsFitRun (runs_in part)
  pub text : IsTextIfThere (part_text part)
  pub terminals : AllByRecursion (λ runs. 0 < length runs) (terminals_of part)
  pub few : length (terminals_of part) < 2 ^ 32
