-- The elements of a module's parts, with their pins by the numbers of bits.
use Rattle.std.specs.Prelude.{ℕ, ◌+◌, ◌-◌, Bool, true, false, List, [], ◌∷◌, ◌++◌, map, length, take, drop, Option, Some, None, slice_index_or, if◌then◌else◌}
use Rattle.std.specs.List.{enumerate_from, zip}
use Rattle.std.specs.Option.{option_map_or}
use Rattle.level_range.specs.declared.range.Logic.{Logic}
use Rattle.level_range.specs.declared.range.Logic.TheVariants as logic
use Rattle.logic_tables.specs.declared.kinds.FoldKind.TheVariants as fold
use Rattle.v_lexer.specs.declared.literals.Bit.{Bit}
use Rattle.v_lexer.specs.declared.literals.Bit.TheVariants as bit
use Rattle.flat_net.specs.declared.kinds.ElementKind.{ElementKind}
use Rattle.flat_net.specs.declared.kinds.ElementKind.TheVariants.{Fold, Mos, Copy, Constant}
use Rattle.module_scope.specs.declared.scopes.Scope.{Scope}
use Rattle.expression_bits.specs.declared.runs.BitRun.{BitRun}
use Rattle.expression_bits.specs.declared.runs.BitRun.TheVariants.{Net, Literal}
use Rattle.element_forms.specs.declared.forms.ElementForm.{ElementForm}
use Rattle.element_forms.specs.declared.forms.ElementForm.TheVariants.{Single, Bidirectional, Complementary}
use Rattle.element_forms.specs.declared.strengths.Strengths.{Strengths}
use Rattle.element_forms.specs.Strengths.{drive_strengths}
use Rattle.module_parts.specs.declared.parts.PortRuns.{PortRuns}
use Rattle.netlist_plan.specs.declared.nets.ModuleNet.{ModuleNet}
use Rattle.netlist_plan.specs.Unnamed.{literal_count}
use Rattle.netlist_plan.specs.Nets.{literal_first, run_bits}
use Rattle.netlist_plan.specs.declared.plan.OwnName.{OwnName}
use Rattle.netlist_plan.specs.declared.plan.OwnName.TheVariants.{Written, Unnamed}
use Rattle.netlist_plan.specs.declared.plan.ElementName.{ElementName}
use Rattle.netlist_plan.specs.declared.plan.ElementName.TheVariants.{Gate, Half, Bit as BitName}
use Rattle.netlist_plan.specs.declared.plan.PlanElement.{PlanElement}
use Rattle.netlist_plan.specs.declared.plan.PortBits.{PortBits}

-- ---- bits

-- the bits of runs from the left, where the first literal among them has a number
abbrev pub runs_bits : Scope → List ModuleNet → ℕ → List BitRun → List ℕ
runs_bits scope nets number [] = []
runs_bits scope nets number (run ∷ runs) =
    run_bits scope nets number run ++ runs_bits scope nets (number + literal_count (run ∷ [])) runs

-- the bits of lists of runs, one after the other
abbrev pub lists_bits : Scope → List ModuleNet → ℕ → List (List BitRun) → List (List ℕ)
lists_bits scope nets number [] = []
lists_bits scope nets number (runs ∷ lists) =
    runs_bits scope nets number runs ∷ lists_bits scope nets (number + literal_count runs) lists

-- the one bit of each terminal
abbrev pub terminal_bits : Scope → List ModuleNet → ℕ → List (List BitRun) → List ℕ
terminal_bits scope nets number lists = map (λ bits. slice_index_or bits 0 0) (lists_bits scope nets number lists)

-- ---- literals

abbrev pub bit_value : Bit → Logic
bit_value bit.Zero = logic.Zero
bit_value bit.One = logic.One
bit_value bit.X = logic.X
bit_value bit.Z = logic.Z

-- the constant of a bit of a literal, by its place from the left
abbrev pub constant : ℕ → ℕ → ℕ → ℕ × Bit → PlanElement
constant number width first (place, b) = record {
  name = BitName number (width - 1 - place);
  kind = Constant (bit_value b);
  strengths = drive_strengths None;
  item = None;
  resistive = false;
  outs = (first + place) ∷ [];
  ins = [];
  ends = None;
}

-- the constants of a literal with a number, from the left
abbrev pub literal_constants : List ModuleNet → ℕ → List Bit → List PlanElement
literal_constants nets number bits = map (constant number (length bits) (literal_first nets number)) (enumerate_from 0 bits)

-- the constants of the literals among runs, where the first of them has a number
abbrev pub constants : List ModuleNet → ℕ → List BitRun → List PlanElement
constants nets number [] = []
constants nets number (Net name select ∷ runs) = constants nets number runs
constants nets number (Literal bits ∷ runs) = literal_constants nets number bits ++ constants nets (number + 1) runs

-- ---- gates

-- the name of a gate, or the number that it has where it has none
abbrev pub gate_name : ℕ → Option (List ℕ) → OwnName
gate_name number None = Unnamed number
gate_name number (Some name) = Written name

-- a `buf` or a `not` has its input last, behind its outputs (IEEE 1364-2005, 7.3)
abbrev pub has_many_outputs : ElementKind → Bool
has_many_outputs (Fold fold.Buf) = true
has_many_outputs (Fold fold.Not) = true
has_many_outputs kind = false

-- how many of so many terminals are outputs
abbrev pub output_count : ElementKind → ℕ → ℕ
output_count kind terminals = if has_many_outputs kind then terminals - 1 else 1

-- what the elements of a gate have in common: their strengths, and the item with their delays
abbrev pub single : ElementName → ElementKind → Bool → Strengths → ℕ → List ℕ → List ℕ → PlanElement
single name kind resistive strengths item outs ins = record {
  name = name;
  kind = kind;
  strengths = strengths;
  item = Some item;
  resistive = resistive;
  outs = outs;
  ins = ins;
  ends = None;
}

-- a half of a complementary switch: the output, the data, and its control
abbrev pub half : OwnName → Bool → Bool → Strengths → ℕ → List ℕ → ℕ → PlanElement
half own on_one resistive strengths item terminals control =
    single (Half own on_one) (Mos on_one resistive) resistive strengths item (take 1 terminals)
    (slice_index_or terminals 1 0 ∷ slice_index_or terminals control 0 ∷ [])

-- the elements of a gate, by the bits of its terminals; of a complementary switch the half that conducts for 1 comes first
abbrev pub form_elements : OwnName → ElementForm → Strengths → ℕ → List ℕ → List PlanElement
form_elements own (Single kind) strengths item terminals =
    let outs = output_count kind (length terminals) in
    single (Gate own) kind false strengths item (take outs terminals) (drop outs terminals) ∷ []
form_elements own (Bidirectional kind resistive) strengths item terminals =
    record {
      name = Gate own;
      kind = kind;
      strengths = strengths;
      item = Some item;
      resistive = resistive;
      outs = [];
      ins = drop 2 terminals;
      ends = Some (slice_index_or terminals 0 0, slice_index_or terminals 1 0);
    } ∷ []
form_elements own (Complementary resistive) strengths item terminals =
    half own true resistive strengths item terminals 2 ∷ half own false resistive strengths item terminals 3 ∷ []

-- ---- assignments

-- the copy of a bit of an assignment with a number, by its place from the left
abbrev pub copied_bit : ℕ → ℕ → Strengths → ℕ → ℕ × (ℕ × ℕ) → PlanElement
copied_bit number width strengths item (place, (target, value)) =
    single (BitName number (width - 1 - place)) Copy false strengths item (target ∷ []) (value ∷ [])

-- an element for each bit of the target, from the left
abbrev pub copies : ℕ → Strengths → ℕ → List ℕ → List ℕ → List PlanElement
copies number strengths item targets values =
    map (copied_bit number (length targets) strengths item) (enumerate_from 0 (zip targets values))

-- ---- instances

-- the bits of connections to ports, where the first literal among them has a number
abbrev pub connections_bits : Scope → List ModuleNet → ℕ → List PortRuns → List PortBits
connections_bits scope nets number [] = []
connections_bits scope nets number (c ∷ connections) =
    option_map_or (λ port. record { port = port; bits = runs_bits scope nets number c.runs } ∷ []) c.port []
    ++ connections_bits scope nets (number + literal_count c.runs) connections
