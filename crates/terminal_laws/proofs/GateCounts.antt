-- A gate with as many terminals as its class may have has the pins of its form.
use Rattle.std.proofs.Common.{◌≡◌, ℕ, ◌+◌, ◌-◌, ◌≤◌, Bool, true, false, ◌==◌, List, Option, Some, None, refl, sym, ◌∙◌, arith}
use Rattle.std.specs.Prelude.{slice_get}
use Rattle.std.specs.Option.{IsSomeAnd}
use Rattle.std.proofs.lemmas.Bool.{eqb-true, leb-true}
use Rattle.v_tree.specs.declared.gates.LogicGate.{LogicGate}
use Rattle.v_tree.specs.declared.gates.LogicGate.TheVariants as logic
use Rattle.v_tree.specs.declared.gates.Switch.{Switch}
use Rattle.v_tree.specs.declared.gates.Switch.TheVariants as switch
use Rattle.v_tree.specs.declared.gates.TranGate.{TranGate}
use Rattle.v_tree.specs.declared.gates.TranGate.TheVariants as tran
use Rattle.v_tree.specs.declared.gates.GateKind.{GateKind}
use Rattle.v_tree.specs.declared.gates.GateKind.TheVariants as kind
use Rattle.udp_table.specs.Primitive.{Primitive}
use Rattle.flat_net.specs.declared.kinds.ElementKind.TheVariants.{Udp}
use Rattle.gate_rules.specs.Classes.{gate_class, is_terminal_count, logic_class, output_count, switch_class}
use Rattle.element_forms.specs.declared.forms.ElementForm.TheVariants.{Single}
use Rattle.element_forms.specs.Forms.{element_form, logic_form, switch_form, tran_form}
use Rattle.netlist_plan.specs.Plan.{is_bidirectional}
use Rattle.plan_laws.specs.SoundGates.{HasTerminalCount}

module _ (udps : List Primitive) where
  logic_count : (g : LogicGate) (n : ℕ) → is_terminal_count (logic_class g) n ≡ true → HasTerminalCount udps (logic_form g) n
  logic_count logic.And n e = let least = leb-true 2 n e in (omega arith, (refl, omega arith), refl)
  logic_count logic.Nand n e = let least = leb-true 2 n e in (omega arith, (refl, omega arith), refl)
  logic_count logic.Or n e = let least = leb-true 2 n e in (omega arith, (refl, omega arith), refl)
  logic_count logic.Nor n e = let least = leb-true 2 n e in (omega arith, (refl, omega arith), refl)
  logic_count logic.Xor n e = let least = leb-true 2 n e in (omega arith, (refl, omega arith), refl)
  logic_count logic.Xnor n e = let least = leb-true 2 n e in (omega arith, (refl, omega arith), refl)
  logic_count logic.Buf n e = let least = leb-true 2 n e in (omega arith, (omega arith, omega arith), refl)
  logic_count logic.Not n e = let least = leb-true 2 n e in (omega arith, (omega arith, omega arith), refl)
  logic_count logic.Bufif0 n e = let same = eqb-true n 3 e in (omega arith, (refl, omega arith), refl)
  logic_count logic.Bufif1 n e = let same = eqb-true n 3 e in (omega arith, (refl, omega arith), refl)
  logic_count logic.Notif0 n e = let same = eqb-true n 3 e in (omega arith, (refl, omega arith), refl)
  logic_count logic.Notif1 n e = let same = eqb-true n 3 e in (omega arith, (refl, omega arith), refl)

  switch_count : (s : Switch) (n : ℕ) → is_terminal_count (switch_class s) n ≡ true → HasTerminalCount udps (switch_form s) n
  switch_count switch.Nmos n e = let same = eqb-true n 3 e in (omega arith, (refl, omega arith), refl)
  switch_count switch.Pmos n e = let same = eqb-true n 3 e in (omega arith, (refl, omega arith), refl)
  switch_count switch.Rnmos n e = let same = eqb-true n 3 e in (omega arith, (refl, omega arith), refl)
  switch_count switch.Rpmos n e = let same = eqb-true n 3 e in (omega arith, (refl, omega arith), refl)
  switch_count switch.Cmos n e = let same = eqb-true n 4 e in omega arith
  switch_count switch.Rcmos n e = let same = eqb-true n 4 e in omega arith
  switch_count switch.Tranif0 n e = let same = eqb-true n 3 e in (omega arith, (refl, omega arith), refl)
  switch_count switch.Tranif1 n e = let same = eqb-true n 3 e in (omega arith, (refl, omega arith), refl)
  switch_count switch.Rtranif0 n e = let same = eqb-true n 3 e in (omega arith, (refl, omega arith), refl)
  switch_count switch.Rtranif1 n e = let same = eqb-true n 3 e in (omega arith, (refl, omega arith), refl)

  tran_count : (t : TranGate) (n : ℕ) → (n == 2) ≡ true → HasTerminalCount udps (tran_form t) n
  tran_count tran.Tran n e = let same = eqb-true n 2 e in (omega arith, (refl, omega arith), refl)
  tran_count tran.Rtran n e = let same = eqb-true n 2 e in (omega arith, (refl, omega arith), refl)

  pub gate_count : (g : GateKind) (n : ℕ) → is_terminal_count (gate_class g) n ≡ true → HasTerminalCount udps (element_form g) n
  gate_count (kind.Logic g drive delay) n e = logic_count g n e
  gate_count (kind.Switch s delay) n e = switch_count s n e
  gate_count (kind.Tran t) n e = tran_count t n e
  gate_count (kind.Pull g levels) n e = let same = eqb-true n 1 e in (omega arith, (refl, omega arith), refl)

  -- a terminal for the output and each input of a primitive
  pub primitive_count : (number count n : ℕ) → IsSomeAnd (slice_get udps number) (λ p. p.inputs + 1 ≡ count) → n ≡ count → HasTerminalCount udps (Single (Udp number)) n
  primitive_count number count n has same = let rest = by_primitive (slice_get udps number) has in (rest.0, (refl, rest.1), refl)
    where
      by_primitive : (o : Option Primitive) → IsSomeAnd o (λ p. p.inputs + 1 ≡ count) → (1 ≤ n) × IsSomeAnd o (λ p. p.inputs ≡ n - 1)
      by_primitive None h = absurd h
      by_primitive (Some p) h = (omega arith, omega arith)

-- ---- bidirectional switches

abbrev pub HasTwoEnds : GateKind → ℕ → Type 0
HasTwoEnds g n = (output_count (gate_class g) n ≡ 2) × (2 ≤ n)

logic_single : (g : LogicGate) → is_bidirectional (logic_form g) ≡ false
logic_single logic.And = refl
logic_single logic.Nand = refl
logic_single logic.Or = refl
logic_single logic.Nor = refl
logic_single logic.Xor = refl
logic_single logic.Xnor = refl
logic_single logic.Buf = refl
logic_single logic.Not = refl
logic_single logic.Bufif0 = refl
logic_single logic.Bufif1 = refl
logic_single logic.Notif0 = refl
logic_single logic.Notif1 = refl

never : {X : Type 0} (b : Bool) → b ≡ false → b ≡ true → X
never b is on = absurd (let clash : false ≡ true = sym is ∙ on in cc)

-- a bidirectional switch has two ends, its first two terminals
pub two_ends : (g : GateKind) (n : ℕ) → is_bidirectional (element_form g) ≡ true → is_terminal_count (gate_class g) n ≡ true → HasTwoEnds g n
two_ends (kind.Logic g drive delay) n joins e = never (is_bidirectional (logic_form g)) (logic_single g) joins
two_ends (kind.Switch switch.Nmos delay) n joins e = never false refl joins
two_ends (kind.Switch switch.Pmos delay) n joins e = never false refl joins
two_ends (kind.Switch switch.Rnmos delay) n joins e = never false refl joins
two_ends (kind.Switch switch.Rpmos delay) n joins e = never false refl joins
two_ends (kind.Switch switch.Cmos delay) n joins e = never false refl joins
two_ends (kind.Switch switch.Rcmos delay) n joins e = never false refl joins
two_ends (kind.Switch switch.Tranif0 delay) n joins e = let same = eqb-true n 3 e in (refl, omega arith)
two_ends (kind.Switch switch.Tranif1 delay) n joins e = let same = eqb-true n 3 e in (refl, omega arith)
two_ends (kind.Switch switch.Rtranif0 delay) n joins e = let same = eqb-true n 3 e in (refl, omega arith)
two_ends (kind.Switch switch.Rtranif1 delay) n joins e = let same = eqb-true n 3 e in (refl, omega arith)
two_ends (kind.Tran t) n joins e = let same = eqb-true n 2 e in (refl, omega arith)
two_ends (kind.Pull g levels) n joins e = never false refl joins
