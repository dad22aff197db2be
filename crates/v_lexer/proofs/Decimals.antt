-- The digits of a decimal by its form.
use Rattle.std.proofs.Common.{◌≡◌, ℕ, suc, ◌+◌, ◌-◌, ◌<◌, ◌≤◌, true, List, [], ◌∷◌, ◌++◌, length, take, drop, refl, sym, ap, subst, ◌∙◌, arith, length-append}
use Rattle.std.specs.List.{AllByRecursion, list_all}
use Rattle.std.specs.Char.{is_ascii_digit}
use Rattle.std.proofs.lemmas.Bool.{and_parts}
use Rattle.v_lexer.specs.Bytes.{digit_run}
use Rattle.v_lexer.specs.Forms.{IsDigits, IsDecimal}
use Rattle.v_lexer.specs.Values.{digits_in}
use Rattle.v_lexer.specs.Sound.{AreDigits, HasDigits}

-- digits end where another byte stands
digits_end : (digits others : List ℕ) → list_all is_ascii_digit digits ≡ true → digit_run (digits ++ (46 ∷ others)) ≡ length digits
digits_end [] others all = refl
digits_end (byte ∷ digits) others all =
    let parts = and_parts (is_ascii_digit byte) (list_all is_ascii_digit digits) all in
    rw parts.0 (ap (λ n. 1 + n) (digits_end digits others parts.1) ∙ omega arith)

-- the bytes before and behind others
take_front : (front others : List ℕ) → take (length front) (front ++ others) ≡ front
take_front [] others = refl
take_front (byte ∷ front) others = ap (λ (bytes : List ℕ). byte ∷ bytes) (take_front front others)

drop_front : (front others : List ℕ) (point : ℕ) → drop (suc (length front)) (front ++ (point ∷ others)) ≡ others
drop_front [] others point = refl
drop_front (byte ∷ front) others point = drop_front front others point

-- a digit's value
below_ten : (byte : ℕ) → is_ascii_digit byte ≡ true → byte - 48 < 10
below_ten byte is = grind arith

each_below : (bytes : List ℕ) → list_all is_ascii_digit bytes ≡ true → AllByRecursion (λ digit. digit < 10) (digits_in bytes)
each_below [] all = tt
each_below (byte ∷ bytes) all =
    let parts = and_parts (is_ascii_digit byte) (list_all is_ascii_digit bytes) all in
    (below_ten byte parts.0, each_below bytes parts.1)

length_of : (bytes : List ℕ) → length (digits_in bytes) ≡ length bytes
length_of [] = refl
length_of (byte ∷ bytes) = omega (arith, length_of bytes)

are_digits : (bytes : List ℕ) → IsDigits bytes → AreDigits (digits_in bytes)
are_digits bytes is = record { some = omega (arith, length_of bytes, is.0); each = each_below bytes is.1 }

digits_of : (whole part : List ℕ) → IsDigits whole → IsDigits part → HasDigits (whole ++ (46 ∷ part))
digits_of whole part before behind =
    let all : List ℕ = whole ++ (46 ∷ part) in
    let run : digit_run all ≡ length whole = digits_end whole part before.1 in
    let next : digit_run all + 1 ≡ suc (length whole) = omega (arith, run) in
    let front : take (digit_run all) all ≡ whole = ap (λ n. take n all) run ∙ take_front whole (46 ∷ part) in
    let back : drop (digit_run all + 1) all ≡ part = ap (λ n. drop n all) next ∙ drop_front whole part 46 in
    record {
      whole = subst (λ (bytes : List ℕ). AreDigits (digits_in bytes)) (sym front) (are_digits whole before);
      fraction = subst (λ (bytes : List ℕ). AreDigits (digits_in bytes)) (sym back) (are_digits part behind);
      few_whole = subst (λ (bytes : List ℕ). length (digits_in bytes) ≤ length all) (sym front) (omega (arith, length_of whole, length-append whole (46 ∷ part)));
      few_fraction = subst (λ (bytes : List ℕ). length (digits_in bytes) ≤ length all) (sym back) (omega (arith, length_of part, length-append whole (46 ∷ part)));
    }

pub has_digits : (bytes : List ℕ) → IsDecimal bytes → HasDigits bytes
has_digits bytes is = subst HasDigits (sym is.all) (digits_of is.whole is.part is.before is.behind)
