-- Each test of symbols and rows decides what its name says.
use Rattle.std.proofs.Common.{◌≡◌, ℕ, Bool, true, false, ◌&&◌, length, refl, sym, ◌∙◌, arith}
use Rattle.std.specs.Bool.{Decides}
use Rattle.std.specs.Prelude.{Option, Some, None, IsTrue, nat_eq}
use Rattle.std.specs.List.{list_all}
use Rattle.std.proofs.lemmas.Bool.Decides.{Decides-and, Decides-or, Decides-not, Decides-like, Decides-eqb, Decides-by_and}
use Rattle.level_range.specs.declared.range.Logic.{Logic}
use Rattle.level_range.specs.declared.range.Logic.TheVariants as value
use Rattle.udp_table.specs.declared.symbols.Base.{Base}
use Rattle.udp_table.specs.declared.symbols.Base.TheVariants as base
use Rattle.udp_table.specs.declared.symbols.Sym.{Sym}
use Rattle.udp_table.specs.declared.symbols.Sym.TheVariants.{Zero, One, X, Any, Both, Same, Rise, Fall, Pos, Neg, Change, Edge}
use Rattle.udp_table.specs.Symbols.{base_has, is_change, HasValue, HasChange}
use Rattle.udp_table.specs.declared.rows.UdpRow.{UdpRow}
use Rattle.udp_table.specs.Rows.{IsInput, IsState, IsOutput, IsWellFormed}
use Rattle.udp_table.specs.Tests.{value_test, change_test, input_test, state_test, output_test, row_test, same_base, same_symbol}
use Rattle.udp_table.proofs.Pairs.{and_left, and_right}

pub true_not_false : true ≡ false → ⊥
true_not_false e = cc

-- a symbol has a value where it is one for values
pub Decides-value_test : (s : Sym) → Decides (value_test s) (HasValue s)
Decides-value_test Zero = (λ h. (value.Zero, refl), λ h. refl)
Decides-value_test One = (λ h. (value.One, refl), λ h. refl)
Decides-value_test X = (λ h. (value.X, refl), λ h. refl)
Decides-value_test Any = (λ h. (value.Zero, refl), λ h. refl)
Decides-value_test Both = (λ h. (value.Zero, refl), λ h. refl)
Decides-value_test Same = (λ h. absurd (true_not_false (sym h)), λ h. h.1)
Decides-value_test Rise = (λ h. absurd (true_not_false (sym h)), λ h. h.1)
Decides-value_test Fall = (λ h. absurd (true_not_false (sym h)), λ h. h.1)
Decides-value_test Pos = (λ h. absurd (true_not_false (sym h)), λ h. h.1)
Decides-value_test Neg = (λ h. absurd (true_not_false (sym h)), λ h. h.1)
Decides-value_test Change = (λ h. absurd (true_not_false (sym h)), λ h. h.1)
Decides-value_test (Edge a b) = (λ h. absurd (true_not_false (sym h)), λ h. h.1)

-- one value alone has no change
no_change_zero : (v w : Logic) → (base_has base.Zero v && base_has base.Zero w && is_change v w) ≡ false
no_change_zero v w = grind arith

no_change_one : (v w : Logic) → (base_has base.One v && base_has base.One w && is_change v w) ≡ false
no_change_one v w = grind arith

no_change_x : (v w : Logic) → (base_has base.X v && base_has base.X w && is_change v w) ≡ false
no_change_x v w = grind arith

-- a symbol contains a change where it is an edge between values that aren't one alone
pub Decides-change_test : (s : Sym) → Decides (change_test s) (HasChange s)
Decides-change_test Zero = (λ h. absurd (true_not_false (sym h)), λ h. h.2)
Decides-change_test One = (λ h. absurd (true_not_false (sym h)), λ h. h.2)
Decides-change_test X = (λ h. absurd (true_not_false (sym h)), λ h. h.2)
Decides-change_test Any = (λ h. absurd (true_not_false (sym h)), λ h. h.2)
Decides-change_test Both = (λ h. absurd (true_not_false (sym h)), λ h. h.2)
Decides-change_test Same = (λ h. absurd (true_not_false (sym h)), λ h. h.2)
Decides-change_test Rise = (λ h. (value.Zero, value.One, refl), λ h. refl)
Decides-change_test Fall = (λ h. (value.One, value.Zero, refl), λ h. refl)
Decides-change_test Pos = (λ h. (value.Zero, value.One, refl), λ h. refl)
Decides-change_test Neg = (λ h. (value.One, value.Zero, refl), λ h. refl)
Decides-change_test Change = (λ h. (value.Zero, value.One, refl), λ h. refl)
Decides-change_test (Edge base.Zero base.Zero) = (λ h. absurd (true_not_false (sym h)), λ h. sym (no_change_zero h.0 h.1) ∙ h.2)
Decides-change_test (Edge base.Zero base.One) = (λ h. (value.Zero, value.One, refl), λ h. refl)
Decides-change_test (Edge base.Zero base.X) = (λ h. (value.Zero, value.X, refl), λ h. refl)
Decides-change_test (Edge base.Zero base.Any) = (λ h. (value.Zero, value.One, refl), λ h. refl)
Decides-change_test (Edge base.Zero base.Both) = (λ h. (value.Zero, value.One, refl), λ h. refl)
Decides-change_test (Edge base.One base.Zero) = (λ h. (value.One, value.Zero, refl), λ h. refl)
Decides-change_test (Edge base.One base.One) = (λ h. absurd (true_not_false (sym h)), λ h. sym (no_change_one h.0 h.1) ∙ h.2)
Decides-change_test (Edge base.One base.X) = (λ h. (value.One, value.X, refl), λ h. refl)
Decides-change_test (Edge base.One base.Any) = (λ h. (value.One, value.Zero, refl), λ h. refl)
Decides-change_test (Edge base.One base.Both) = (λ h. (value.One, value.Zero, refl), λ h. refl)
Decides-change_test (Edge base.X base.Zero) = (λ h. (value.X, value.Zero, refl), λ h. refl)
Decides-change_test (Edge base.X base.One) = (λ h. (value.X, value.One, refl), λ h. refl)
Decides-change_test (Edge base.X base.X) = (λ h. absurd (true_not_false (sym h)), λ h. sym (no_change_x h.0 h.1) ∙ h.2)
Decides-change_test (Edge base.X base.Any) = (λ h. (value.X, value.Zero, refl), λ h. refl)
Decides-change_test (Edge base.X base.Both) = (λ h. (value.X, value.Zero, refl), λ h. refl)
Decides-change_test (Edge base.Any base.Zero) = (λ h. (value.One, value.Zero, refl), λ h. refl)
Decides-change_test (Edge base.Any base.One) = (λ h. (value.Zero, value.One, refl), λ h. refl)
Decides-change_test (Edge base.Any base.X) = (λ h. (value.Zero, value.X, refl), λ h. refl)
Decides-change_test (Edge base.Any base.Any) = (λ h. (value.Zero, value.One, refl), λ h. refl)
Decides-change_test (Edge base.Any base.Both) = (λ h. (value.Zero, value.One, refl), λ h. refl)
Decides-change_test (Edge base.Both base.Zero) = (λ h. (value.One, value.Zero, refl), λ h. refl)
Decides-change_test (Edge base.Both base.One) = (λ h. (value.Zero, value.One, refl), λ h. refl)
Decides-change_test (Edge base.Both base.X) = (λ h. (value.Zero, value.X, refl), λ h. refl)
Decides-change_test (Edge base.Both base.Any) = (λ h. (value.Zero, value.One, refl), λ h. refl)
Decides-change_test (Edge base.Both base.Both) = (λ h. (value.Zero, value.One, refl), λ h. refl)

decided_false : {P : Type 0} → ¬ P → Decides false P
decided_false never = (λ h. absurd (true_not_false (sym h)), λ p. absurd (never p))

Decides-flag : (b : Bool) → Decides b (IsTrue b)
Decides-flag b = (λ h. h, λ h. h)

pub Decides-input_test : (sequential : Bool) (s : Sym) → Decides (input_test sequential s) (IsInput sequential s)
Decides-input_test sequential s =
    Decides-or (value_test s) (sequential && change_test s) (Decides-value_test s)
    (Decides-and sequential (change_test s) (Decides-flag sequential) (Decides-change_test s))

Decides-state_test : (sequential : Bool) (state : Option Sym) → Decides (state_test sequential state) (IsState sequential state)
Decides-state_test sequential None = Decides-not sequential (Decides-flag sequential)
Decides-state_test sequential (Some s) =
    Decides-and sequential (value_test s) (Decides-flag sequential) (Decides-value_test s)

Decides-output_test : (sequential : Bool) (s : Sym) → Decides (output_test sequential s) (IsOutput sequential s)
Decides-output_test sequential Zero = (λ h. tt, λ h. refl)
Decides-output_test sequential One = (λ h. tt, λ h. refl)
Decides-output_test sequential X = (λ h. tt, λ h. refl)
Decides-output_test sequential Same = Decides-flag sequential
Decides-output_test sequential Any = decided_false (λ h. h)
Decides-output_test sequential Both = decided_false (λ h. h)
Decides-output_test sequential Rise = decided_false (λ h. h)
Decides-output_test sequential Fall = decided_false (λ h. h)
Decides-output_test sequential Pos = decided_false (λ h. h)
Decides-output_test sequential Neg = decided_false (λ h. h)
Decides-output_test sequential Change = decided_false (λ h. h)
Decides-output_test sequential (Edge a b) = decided_false (λ h. h)

pub Decides-row_test : (inputs : ℕ) (sequential : Bool) (row : UdpRow) → Decides (row_test inputs sequential row) (IsWellFormed inputs sequential row)
Decides-row_test inputs sequential row =
    Decides-like (row_test inputs sequential row)
    (λ h. record { length = h.0; ins = h.1.0; state = h.1.1.0; out = h.1.1.1 })
    (λ w. (w.length, (w.ins, (w.state, w.out))))
    (Decides-and (nat_eq (length row.ins) inputs) _ (Decides-eqb (length row.ins) inputs)
    (Decides-and (list_all (input_test sequential) row.ins) _
    (Decides-by_and (input_test sequential) (IsInput sequential) (list_all (input_test sequential)) (Decides-input_test sequential) refl (λ _ _. refl) row.ins)
    (Decides-and (state_test sequential row.state) (output_test sequential row.out) (Decides-state_test sequential row.state) (Decides-output_test sequential row.out))))

-- the same symbol
same_base-self : (a : Base) → same_base a a ≡ true
same_base-self a = grind arith

pub same_symbol-self : (a : Sym) → same_symbol a a ≡ true
same_symbol-self (Edge a b) = rw (same_base-self a, same_base-self b) refl
same_symbol-self Zero = refl
same_symbol-self One = refl
same_symbol-self X = refl
same_symbol-self Any = refl
same_symbol-self Both = refl
same_symbol-self Same = refl
same_symbol-self Rise = refl
same_symbol-self Fall = refl
same_symbol-self Pos = refl
same_symbol-self Neg = refl
same_symbol-self Change = refl

same_base-sound : (a b : Base) → same_base a b ≡ true → a ≡ b
same_base-sound a b h = grind (arith, h)

same_edge : (a b c d : Base) → a ≡ c → b ≡ d → Edge a b ≡ Edge c d
same_edge a b c d e f = cc

-- one symbol at a time, by its cases
pub same_symbol-sound : (a b : Sym) → same_symbol a b ≡ true → a ≡ b
same_symbol-sound Zero b h = grind (arith, h)
same_symbol-sound One b h = grind (arith, h)
same_symbol-sound X b h = grind (arith, h)
same_symbol-sound Any b h = grind (arith, h)
same_symbol-sound Both b h = grind (arith, h)
same_symbol-sound Same b h = grind (arith, h)
same_symbol-sound Rise b h = grind (arith, h)
same_symbol-sound Fall b h = grind (arith, h)
same_symbol-sound Pos b h = grind (arith, h)
same_symbol-sound Neg b h = grind (arith, h)
same_symbol-sound Change b h = grind (arith, h)
same_symbol-sound (Edge a b) (Edge c d) h =
    same_edge a b c d
    (same_base-sound a c (and_left (same_base a c) (same_base b d) h))
    (same_base-sound b d (and_right (same_base a c) (same_base b d) h))
same_symbol-sound (Edge a b) Zero h = absurd (true_not_false (sym h))
same_symbol-sound (Edge a b) One h = absurd (true_not_false (sym h))
same_symbol-sound (Edge a b) X h = absurd (true_not_false (sym h))
same_symbol-sound (Edge a b) Any h = absurd (true_not_false (sym h))
same_symbol-sound (Edge a b) Both h = absurd (true_not_false (sym h))
same_symbol-sound (Edge a b) Same h = absurd (true_not_false (sym h))
same_symbol-sound (Edge a b) Rise h = absurd (true_not_false (sym h))
same_symbol-sound (Edge a b) Fall h = absurd (true_not_false (sym h))
same_symbol-sound (Edge a b) Pos h = absurd (true_not_false (sym h))
same_symbol-sound (Edge a b) Neg h = absurd (true_not_false (sym h))
same_symbol-sound (Edge a b) Change h = absurd (true_not_false (sym h))
