-- The pins of elements and the bits of connections are bits of the module's nets.
use Rattle.std.proofs.Common.{◌≡◌, ℕ, suc, ◌+◌, ◌<◌, List, [], ◌∷◌, ◌++◌, length, Option, Some, None, refl, ap, subst, arith}
use Rattle.std.specs.Prelude.{slice_index_or}
use Rattle.std.specs.List.{AllByRecursion, flat_map}
use Rattle.v_tree.specs.declared.expressions.RangeBounds.{RangeBounds}
use Rattle.v_tree.specs.declared.expressions.Select.{Select}
use Rattle.module_scope.specs.declared.scopes.Scope.{Scope}
use Rattle.module_scope.specs.Scopes.{scope_net}
use Rattle.item_parts.specs.Widths.{net_range, width_in}
use Rattle.expression_bits.specs.declared.runs.BitRun.{BitRun}
use Rattle.expression_bits.specs.declared.runs.BitRun.TheVariants.{Net as NetRun, Literal as LiteralRun}
use Rattle.expression_bits.specs.Runs.{run_width}
use Rattle.netlist_plan.specs.declared.nets.NetSource.{NetSource}
use Rattle.netlist_plan.specs.declared.nets.ModuleNet.{ModuleNet}
use Rattle.netlist_plan.specs.Unnamed.{literal_count}
use Rattle.netlist_plan.specs.Nets.{bit_count, literal_first, name_first, nets_from, run_bits, select_offset}
use Rattle.netlist_plan.specs.Elements.{runs_bits, terminal_bits}
use Rattle.flattening_laws.proofs.Numbers.{length_append, length_range}
use Rattle.flattening_laws.proofs.Apart.{each_append}
use Rattle.flattening_laws.proofs.BitNames.{each_range}
use Rattle.plan_laws.specs.SoundRuns.{IsSoundRun}
use Rattle.plan_laws.proofs.RowLaws.{AreRising}
use Rattle.plan_laws.proofs.BitLaws.{AreAmong, literal_within, name_within}

-- ---- runs and their numbers

pub among_parts : (sources : List NetSource) (number : ℕ) (xs ys : List BitRun) → AreAmong sources number (xs ++ ys) → AreAmong sources number xs × AreAmong sources (number + literal_count xs) ys
among_parts sources number [] ys h = (tt, subst (λ n. AreAmong sources n ys) (omega arith) h)
among_parts sources number (NetRun name select ∷ xs) ys h = let rest = among_parts sources number xs ys h.1 in ((h.0, rest.0), rest.1)
among_parts sources number (LiteralRun bits ∷ xs) ys h =
    let rest = among_parts sources (number + 1) xs ys h.1 in
    ((h.0, rest.0), subst (λ n. AreAmong sources n ys) (omega arith) rest.1)

width_some : (range : Option RangeBounds) (select : Option Select) → 0 < width_in range select
width_some None None = omega arith
width_some (Some range) None = omega arith
width_some range (Some select) = omega arith

module _ (scope : Scope) (sources : List NetSource) (rising : AreRising 0 sources) where
  abbrev nets : List ModuleNet
  nets = nets_from scope 0 sources

  abbrev count : ℕ
  count = bit_count scope nets

  pub run_within : (number : ℕ) (run : BitRun) → AreAmong sources number (run ∷ []) → IsSoundRun scope run → AllByRecursion (λ bit. bit < count) (run_bits scope nets number run)
  run_within number (NetRun name select) among is =
      let range = net_range (scope_net scope name) in
      let whole = name_within scope name 0 sources among.0 in
      let fits = is.1 in
      each_range (λ bit. bit < count) (name_first nets name + select_offset range select) (run_width scope (NetRun name select)) (λ bit least less. omega arith)
  run_within number (LiteralRun bits) among is =
      let whole = literal_within scope number 0 bits 0 sources rising among.0 in
      each_range (λ bit. bit < count) (literal_first nets number) (length bits) (λ bit least less. omega arith)

  run_some : (number : ℕ) (run : BitRun) → IsSoundRun scope run → 0 < length (run_bits scope nets number run)
  run_some number (NetRun name select) is =
      let range = net_range (scope_net scope name) in
      let all : length (run_bits scope nets number (NetRun name select)) ≡ width_in range select = length_range (name_first nets name + select_offset range select) (run_width scope (NetRun name select)) in
      let some = width_some range select in
      omega arith
  run_some number (LiteralRun bits) is =
      let all : length (run_bits scope nets number (LiteralRun bits)) ≡ length bits = length_range (literal_first nets number) (length bits) in
      let some = is.0 in
      omega arith

  pub runs_within : (number : ℕ) (runs : List BitRun) → AreAmong sources number runs → AllByRecursion (IsSoundRun scope) runs → AllByRecursion (λ bit. bit < count) (runs_bits scope nets number runs)
  runs_within number [] among is = tt
  runs_within number (run ∷ runs) among is =
      let split = among_parts sources number (run ∷ []) runs among in
      each_append (λ bit. bit < count) (run_bits scope nets number run) (runs_bits scope nets (number + literal_count (run ∷ [])) runs)
      (run_within number run split.0 is.0) (runs_within (number + literal_count (run ∷ [])) runs split.1 is.1)

  runs_some : (number : ℕ) (runs : List BitRun) → 0 < length runs → AllByRecursion (IsSoundRun scope) runs → 0 < length (runs_bits scope nets number runs)
  runs_some number [] some is = absurd (omega arith)
  runs_some number (run ∷ runs) some is =
      let all = length_append (run_bits scope nets number run) (runs_bits scope nets (number + literal_count (run ∷ [])) runs) in
      let first = run_some number run is.0 in
      omega arith

  first_within : (bits : List ℕ) → 0 < length bits → AllByRecursion (λ bit. bit < count) bits → slice_index_or bits 0 0 < count
  first_within [] some h = absurd (omega arith)
  first_within (bit ∷ bits) some h = h.0

  -- the terminals of a gate, each with a run
  pub terminals_within : (number : ℕ) (lists : List (List BitRun)) → AreAmong sources number (flat_map (λ runs. runs) lists) → AllByRecursion (λ runs. (0 < length runs) × AllByRecursion (IsSoundRun scope) runs) lists
      → AllByRecursion (λ bit. bit < count) (terminal_bits scope nets number lists)
  terminals_within number [] among is = tt
  terminals_within number (runs ∷ lists) among is =
      let split = among_parts sources number runs (flat_map (λ runs. runs) lists) among in (
        first_within (runs_bits scope nets number runs) (runs_some number runs is.0.0 is.0.1) (runs_within number runs split.0 is.0.1),
        terminals_within (number + literal_count runs) lists split.1 is.1,
      )

pub terminals_count : (scope : Scope) (of : List ModuleNet) (number : ℕ) (lists : List (List BitRun)) → length (terminal_bits scope of number lists) ≡ length lists
terminals_count scope of number [] = refl
terminals_count scope of number (runs ∷ lists) = ap suc (terminals_count scope of (number + literal_count runs) lists)
