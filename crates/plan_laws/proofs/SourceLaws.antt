-- The nets of a module stand in a row.
use Rattle.std.proofs.Common.{ℕ, ◌+◌, ◌<◌, ◌≤◌, ◌^◌, Bool, true, false, List, [], ◌∷◌, ◌++◌, length, arith}
use Rattle.std.specs.Prelude.{if◌then◌else◌}
use Rattle.std.specs.List.{AllByRecursion, flat_map}
use Rattle.name_table.specs.Names.{is_among}
use Rattle.module_scope.specs.declared.scopes.Scope.{Scope}
use Rattle.expression_bits.specs.declared.runs.BitRun.{BitRun}
use Rattle.expression_bits.specs.declared.runs.BitRun.TheVariants.{Net as NetRun, Literal as LiteralRun}
use Rattle.module_parts.specs.declared.parts.ModulePart.{ModulePart}
use Rattle.module_parts.specs.declared.parts.ModulePart.TheVariants.{Names, Gate, Pair, Instance}
use Rattle.flat_names.specs.Spelling.{IsText}
use Rattle.netlist_plan.specs.declared.nets.NetSource.{NetSource}
use Rattle.netlist_plan.specs.declared.nets.NetSource.TheVariants.{Named, Literal}
use Rattle.netlist_plan.specs.Unnamed.{literal_count, numbered_from, own_count, runs_in, unnamed_count}
use Rattle.netlist_plan.specs.Nets.{new_sources, part_sources, run_sources}
use Rattle.flattening_laws.proofs.Apart.{each_append, each_from_All, each_map}
use Rattle.plan_laws.specs.SoundRuns.{HasSoundRuns, IsSoundRun}

-- ---- what nets are

-- a net with the text of a name, or of a literal of one bit or more with a number below a bound
abbrev pub IsSource : ℕ → NetSource → Type 0
IsSource bound (Named name) = IsText name
IsSource bound (Literal number bits) = (number < bound) × (0 < length bits) × (length bits < 2 ^ 32)

run_sources_sound : (scope : Scope) (bound number : ℕ) (runs : List BitRun) → number + literal_count runs ≤ bound → AllByRecursion (IsSoundRun scope) runs → AllByRecursion (IsSource bound) (run_sources number runs)
run_sources_sound scope bound number [] fits h = tt
run_sources_sound scope bound number (NetRun name select ∷ runs) fits h = (h.0.0, run_sources_sound scope bound number runs fits h.1)
run_sources_sound scope bound number (LiteralRun bits ∷ runs) fits h =
    ((omega arith, h.0.0, h.0.1), run_sources_sound scope bound (number + 1) runs (omega arith) h.1)

part_sources_sound : (scope : Scope) (bound number : ℕ) (part : ModulePart) → number + unnamed_count part ≤ bound → HasSoundRuns scope part → AllByRecursion (IsSource bound) (part_sources (number, part))
part_sources_sound scope bound number (Names names) fits is =
    each_map (IsSource bound) Named names (each_from_All IsText names is.names)
part_sources_sound scope bound number (Gate g) fits is =
    run_sources_sound scope bound (number + own_count (Gate g)) (runs_in (Gate g)) (omega arith) (each_from_All (IsSoundRun scope) (runs_in (Gate g)) is.runs)
part_sources_sound scope bound number (Pair p) fits is =
    run_sources_sound scope bound (number + own_count (Pair p)) (runs_in (Pair p)) (omega arith) (each_from_All (IsSoundRun scope) (runs_in (Pair p)) is.runs)
part_sources_sound scope bound number (Instance i) fits is =
    run_sources_sound scope bound (number + own_count (Instance i)) (runs_in (Instance i)) (omega arith) (each_from_All (IsSoundRun scope) (runs_in (Instance i)) is.runs)

-- how many things without name parts have
abbrev pub unnamed_in : List ModulePart → ℕ
unnamed_in [] = 0
unnamed_in (part ∷ parts) = unnamed_count part + unnamed_in parts

sources_sound : (scope : Scope) (bound number : ℕ) (parts : List ModulePart) → number + unnamed_in parts ≤ bound → AllByRecursion (HasSoundRuns scope) parts
    → AllByRecursion (IsSource bound) (flat_map part_sources (numbered_from number parts))
sources_sound scope bound number [] fits is = tt
sources_sound scope bound number (part ∷ parts) fits is =
    each_append (IsSource bound) (part_sources (number, part)) (flat_map part_sources (numbered_from (number + unnamed_count part) parts))
    (part_sources_sound scope bound number part (omega arith) is.0)
    (sources_sound scope bound (number + unnamed_count part) parts (omega arith) is.1)

module _ (P : NetSource → Type 0) where
  each_new : (before : List (List ℕ)) (sources : List NetSource) → AllByRecursion P sources → AllByRecursion P (new_sources before sources)
  each_new before [] h = tt
  each_new before (Named name ∷ sources) h = by_test (each_new before sources h.1) (each_new (before ++ name ∷ []) sources h.1) (is_among name before)
    where
      by_test : AllByRecursion P (new_sources before sources) → AllByRecursion P (new_sources (before ++ name ∷ []) sources)
          → (b : Bool) → AllByRecursion P (if b then new_sources before sources else Named name ∷ new_sources (before ++ name ∷ []) sources)
      by_test old new true = old
      by_test old new false = (h.0, new)
  each_new before (Literal number bits ∷ sources) h = (h.0, each_new before sources h.1)

-- the nets of a module are such sources
abbrev pub module_sources : Scope → List ModulePart → List NetSource
module_sources scope parts = new_sources [] (flat_map part_sources (numbered_from 0 parts))

pub module_sources_sound : (scope : Scope) (parts : List ModulePart) → AllByRecursion (HasSoundRuns scope) parts → AllByRecursion (IsSource (unnamed_in parts)) (module_sources scope parts)
module_sources_sound scope parts is =
    each_new (IsSource (unnamed_in parts)) [] (flat_map part_sources (numbered_from 0 parts)) (sources_sound scope (unnamed_in parts) 0 parts (omega arith) is)
