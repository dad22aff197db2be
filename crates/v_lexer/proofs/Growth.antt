-- Values of digits only grow with more digits.
use Rattle.std.proofs.Common.{ℕ, ◌≤◌, eqb, List, [], ◌∷◌, arith, inl, inr}
use Rattle.std.proofs.lemmas.Bool.{cases_Bool}
use Rattle.v_lexer.specs.Numbers.{value_with, value_after}

value_with_grows : (value byte : ℕ) → value ≤ value_with value byte
value_with_grows value byte =
    elim (cases_Bool (eqb byte 95)) [
      | inl e ↦ rw e (omega arith)
      | inr e ↦ rw e (omega arith)
    ]

pub value_grows : (value : ℕ) (bytes : List ℕ) → value ≤ value_after value bytes
unfolding value_after
value_grows value [] = omega arith
value_grows value (byte ∷ bytes) = omega (arith, value_with_grows value byte, value_grows (value_with value byte) bytes)

pub ruleset values = (value_grows)
