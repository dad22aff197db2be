-- The nets of a module in the order of the first tokens that name them, literals among them, and the numbers of their bits:
-- those of one net from the left, behind those of the nets before it (IEEE 1364-2005, 4.3.1).
use Rattle.std.specs.Prelude.{ℕ, ◌+◌, ◌-◌, List, [], ◌∷◌, ◌++◌, map, length, Bool, if◌then◌else◌, Option, Some, None, nat_eq}
use Rattle.std.specs.List.{flat_map, range_with_len}
use Rattle.v_tree.specs.declared.expressions.RangeBounds.{RangeBounds}
use Rattle.v_tree.specs.declared.expressions.Select.{Select}
use Rattle.name_table.specs.Names.{is_among, same_name}
use Rattle.module_scope.specs.declared.scopes.Scope.{Scope}
use Rattle.module_scope.specs.Scopes.{scope_net}
use Rattle.item_parts.specs.Widths.{net_range, range_width}
use Rattle.expression_bits.specs.declared.runs.BitRun.{BitRun}
use Rattle.expression_bits.specs.declared.runs.BitRun.TheVariants.{Net, Literal as LiteralRun}
use Rattle.expression_bits.specs.Runs.{run_width}
use Rattle.module_parts.specs.declared.parts.ModulePart.{ModulePart}
use Rattle.module_parts.specs.declared.parts.ModulePart.TheVariants.{Names, Gate, Pair, Instance}
use Rattle.netlist_plan.specs.declared.nets.NetSource.{NetSource}
use Rattle.netlist_plan.specs.declared.nets.NetSource.TheVariants.{Named, Literal}
use Rattle.netlist_plan.specs.declared.nets.ModuleNet.{ModuleNet}
use Rattle.netlist_plan.specs.Unnamed.{numbered_from, own_count, runs_in}

-- ---- the nets

-- what runs name, where the first literal has a number
abbrev pub run_sources : ℕ → List BitRun → List NetSource
run_sources number [] = []
run_sources number (Net name select ∷ runs) = Named name ∷ run_sources number runs
run_sources number (LiteralRun bits ∷ runs) = Literal number bits ∷ run_sources (number + 1) runs

-- what a part names, where the first thing without name in it has a number
abbrev pub part_sources : ℕ × ModulePart → List NetSource
part_sources (number, Names names) = map Named names
part_sources (number, Gate g) = run_sources (number + own_count (Gate g)) (runs_in (Gate g))
part_sources (number, Pair p) = run_sources (number + own_count (Pair p)) (runs_in (Pair p))
part_sources (number, Instance i) = run_sources (number + own_count (Instance i)) (runs_in (Instance i))

-- the sources among these whose names don't stand among the names before them; each literal is one
abbrev pub new_sources : List (List ℕ) → List NetSource → List NetSource
new_sources before [] = []
new_sources before (Named name ∷ sources) =
    if is_among name before then new_sources before sources else Named name ∷ new_sources (before ++ name ∷ []) sources
new_sources before (Literal number bits ∷ sources) = Literal number bits ∷ new_sources before sources

-- how many bits a net has; a name without a net counts as a scalar
abbrev pub source_width : Scope → NetSource → ℕ
source_width scope (Named name) = range_width (net_range (scope_net scope name))
source_width scope (Literal number bits) = length bits

-- nets behind so many bits
abbrev pub nets_from : Scope → ℕ → List NetSource → List ModuleNet
nets_from scope first [] = []
nets_from scope first (source ∷ sources) =
    record { source = source; first = first } ∷ nets_from scope (first + source_width scope source) sources

-- the nets of a module, by its parts
abbrev pub module_nets : Scope → List ModulePart → List ModuleNet
module_nets scope parts = nets_from scope 0 (new_sources [] (flat_map part_sources (numbered_from 0 parts)))

-- how many bits nets have together
abbrev pub bit_count : Scope → List ModuleNet → ℕ
bit_count scope [] = 0
bit_count scope (net ∷ nets) = source_width scope net.source + bit_count scope nets

-- ---- their bits

-- the number of the first bit of the net of a name, and of the literal with a number; 0 where there is none
abbrev pub is_named : List ℕ → NetSource → Bool
is_named name (Named other) = same_name name other
is_named name (Literal number bits) = Bool.false

abbrev pub is_literal : ℕ → NetSource → Bool
is_literal number (Named name) = Bool.false
is_literal number (Literal other bits) = nat_eq number other

abbrev pub first_where : (NetSource → Bool) → List ModuleNet → ℕ
first_where test [] = 0
first_where test (net ∷ nets) = if test net.source then net.first else first_where test nets

abbrev pub name_first : List ModuleNet → List ℕ → ℕ
name_first nets name = first_where (is_named name) nets

abbrev pub literal_first : List ModuleNet → ℕ → ℕ
literal_first nets number = first_where (is_literal number) nets

-- how far a bit is from the left bound of its range; a scalar has one bit
abbrev pub bit_offset : Option RangeBounds → ℕ → ℕ
bit_offset None index = 0
bit_offset (Some range) index = (range.left - index) + (index - range.left)

-- how far the leftmost bit of a select is from the left
abbrev pub select_offset : Option RangeBounds → Option Select → ℕ
select_offset range None = 0
select_offset range (Some select) = bit_offset range select.left

-- the bits of a run from the left, where it has a number if it is a literal
abbrev pub run_bits : Scope → List ModuleNet → ℕ → BitRun → List ℕ
run_bits scope nets number (Net name select) =
    range_with_len (name_first nets name + select_offset (net_range (scope_net scope name)) select) (run_width scope (Net name select))
run_bits scope nets number (LiteralRun bits) = range_with_len (literal_first nets number) (length bits)
