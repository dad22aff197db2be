-- A run is not empty where the first byte is in it.
use Rattle.std.proofs.Common.{◌≡◌, ℕ, ◌<◌, Bool, true, false, ◌||◌, eqb, List, [], ◌∷◌, refl, sym, arith, inl, inr}
use Rattle.std.proofs.lemmas.Bool.{true≢false, or_cases, or_left, or_right}
use Rattle.std.specs.List.{prefix_len}
use Rattle.std.specs.Int.{is_in_range}
use Rattle.std.specs.Char.{is_ascii_alphabetic, is_ascii_alphanumeric, is_ascii_digit}
use Rattle.v_lexer.specs.Bytes.{first, is_letter, is_name_byte, is_number_byte, name_run, number_run, blank_run, is_blank}

run_some : (p : ℕ → Bool) (byte : ℕ) (bytes : List ℕ) → p byte ≡ true → 0 < prefix_len p (byte ∷ bytes)
run_some p byte bytes h = rw h (omega arith)

alphabetic_in_name : (a b c : Bool) → (b || c) ≡ true → ((a || b) || c) ≡ true
alphabetic_in_name true true c h = refl
alphabetic_in_name true false c h = refl
alphabetic_in_name false b c h = h

letter_in_name : (byte : ℕ) → is_letter byte ≡ true → is_name_byte byte ≡ true
letter_in_name byte letter =
    elim (or_cases (is_ascii_alphabetic byte) (eqb byte 95) letter) [
      | inl a ↦ or_left (is_ascii_alphanumeric byte || eqb byte 95) (eqb byte 36) (or_left (is_ascii_alphanumeric byte) (eqb byte 95) (alphabetic_in_name (is_in_range 48 57 byte) (is_in_range 65 90 byte) (is_in_range 97 122 byte) a))
      | inr e ↦ or_left (is_ascii_alphanumeric byte || eqb byte 95) (eqb byte 36) (or_right (is_ascii_alphanumeric byte) (eqb byte 95) e)
    ]

pub name_run_some : (text : List ℕ) → is_letter (first text) ≡ true → 0 < name_run text
name_run_some [] letter = absurd (true≢false (sym letter))
name_run_some (byte ∷ bytes) letter = run_some is_name_byte byte bytes (letter_in_name byte letter)

pub number_run_some : (text : List ℕ) → is_ascii_digit (first text) ≡ true → 0 < number_run text
number_run_some [] digit = absurd (true≢false (sym digit))
number_run_some (byte ∷ bytes) digit = run_some is_number_byte byte bytes (or_left (is_ascii_digit byte) (eqb byte 95) digit)

pub blank_run_some : (text : List ℕ) → is_blank (first text) ≡ true → 0 < blank_run text
blank_run_some [] blank = absurd (true≢false (sym blank))
blank_run_some (byte ∷ bytes) blank = run_some is_blank byte bytes blank

pub ruleset fronts = (name_run_some, number_run_some, blank_run_some)
