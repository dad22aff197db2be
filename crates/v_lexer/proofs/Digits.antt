-- Bits of digits one after the other, as loops make them.
use Rattle.std.proofs.Common.{◌≡◌, rules, leb, ◌&&◌, ◌||◌, inl, inr, ℕ, suc, ◌+◌, ◌-◌, ◌/◌, ◌%◌, ◌^◌, ◌<◌, ◌≤◌, true, eqb, if◌then◌else◌, List, [], ◌∷◌, ◌++◌, length, drop, sym, ap, ◌∙◌, arith, append_assoc, append-nil}
use Rattle.std.proofs.lemmas.Bool.{or_cases, and_parts, or_left, or_right}
use Rattle.std.specs.Prelude.{Option, Some, None}
use Rattle.v_lexer.specs.declared.literals.Base.{Base}
use Rattle.v_lexer.specs.declared.literals.Base.TheVariants.{Decimal}
use Rattle.v_lexer.specs.declared.literals.Bit.{Bit}
use Rattle.v_lexer.specs.declared.literals.Bit.TheVariants.{Zero, One}
use Rattle.v_lexer.specs.Bytes.{first}
use Rattle.v_lexer.specs.Numbers.{decimal_value}
use Rattle.v_lexer.specs.Literals.{Form, digit_bits, bits_of, binary, size_holds, digits_hold, value_holds, holds, is_single}
use Rattle.v_lexer.specs.Values.{width_of}

pub bits_go_on : (base : Base) (old new : List Bit) (byte : ℕ) (rest after : List ℕ) (all : List Bit) → 0 < length rest → byte ≡ first rest → after ≡ drop 1 rest
    → new ≡ old ++ digit_bits base byte → old ++ bits_of base rest ≡ all → new ++ bits_of base after ≡ all
unfolding bits_of
bits_go_on base old new byte [] after all some is left with_it so_far = absurd (omega arith)
bits_go_on base old new byte (next ∷ rest) after all some is left with_it so_far =
    rw (with_it, left, is) (append_assoc old (digit_bits base next) (bits_of base rest) ∙ so_far)

pub bits_done : (base : Base) (bits : List Bit) (rest : List ℕ) (all : List Bit) → length rest ≡ 0 → bits ++ bits_of base rest ≡ all → bits ≡ all
unfolding bits_of
bits_done base bits [] all none so_far = sym (append-nil bits) ∙ so_far
bits_done base bits (byte ∷ rest) all none so_far = absurd (omega arith)

pub binary_go_on : (n i value : ℕ) (old new all : List Bit) → i < n → new ≡ old ++ (if eqb ((value / 2 ^ (n - 1 - i)) % 2) 1 then One else Zero) ∷ []
    → old ++ binary (n - i) value ≡ all → new ++ binary (n - (i + 1)) value ≡ all
unfolding binary
binary_go_on n i value old new all less with_it so_far =
    let k : n - i ≡ suc (n - 1 - i) = omega arith in
    let e : n - (i + 1) ≡ n - 1 - i = omega arith in
    let head : List Bit = (if eqb ((value / 2 ^ (n - 1 - i)) % 2) 1 then One else Zero) ∷ [] in
    rw (with_it, e) (append_assoc old head (binary (n - 1 - i) value) ∙ (rw k at so_far))

pub binary_done : (n value : ℕ) (bits all : List Bit) → n ≡ 0 → bits ++ binary n value ≡ all → bits ≡ all
unfolding binary
binary_done n value bits all none so_far = sym (append-nil bits) ∙ (rw none at so_far)

-- a size that holds is at most 128
size_within : (size : Option ℕ) → size_holds size ≡ true → width_of size ≤ 128
size_within None h = omega arith
size_within (Some size) h = let e : leb size 128 ≡ true = (and_parts (leb 1 size) (leb size 128) h).1 in search (rules, e)

pub holds_within : (size : Option ℕ) (form : Form) → holds size form ≡ true → width_of size ≤ 128
unfolding holds
holds_within size form h =
    size_within size (and_parts (size_holds size) (digits_hold form.base form.digits) (and_parts (size_holds size && digits_hold form.base form.digits) (value_holds size form.base form.digits) h).0).0

larger : (value : ℕ) → leb value 4294967295 ≡ true → leb value 340282366920938463463374607431768211455 ≡ true
larger value e = let le : value ≤ 4294967295 = search (rules, e) in let more : value ≤ 340282366920938463463374607431768211455 = omega arith in search (rules, more)

-- a decimal value that holds is below 2 ^ 128
decimal_small : (size : Option ℕ) (digits : List ℕ) → value_holds size Decimal digits ≡ true → (is_single digits || leb (decimal_value digits) 340282366920938463463374607431768211455) ≡ true
unfolding value_holds
decimal_small None digits h =
    elim (or_cases (is_single digits) (leb (decimal_value digits) 4294967295) h) [
      | inl e ↦ or_left (is_single digits) (leb (decimal_value digits) 340282366920938463463374607431768211455) e
      | inr e ↦ or_right (is_single digits) (leb (decimal_value digits) 340282366920938463463374607431768211455) (larger (decimal_value digits) e)
    ]
decimal_small (Some size) digits h = h

pub holds_small : (size : Option ℕ) (form : Form) → holds size form ≡ true → form.base ≡ Decimal
    → (is_single form.digits || leb (decimal_value form.digits) 340282366920938463463374607431768211455) ≡ true
unfolding holds
holds_small size form h base =
    decimal_small size form.digits (ap (λ b. value_holds size b form.digits) (sym base) ∙ (and_parts (size_holds size && digits_hold form.base form.digits) (value_holds size form.base form.digits) h).1)
