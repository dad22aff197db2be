-- How many bits are needed, counted from the left.
use Rattle.std.proofs.Common.{◌≡◌, false, eqb, leb, rules, ℕ, zero, suc, ◌+◌, ◌≤◌, ◌<◌, List, [], ◌∷◌, ◌++◌, length, drop, refl, sym, ◌∙◌, arith}
use Rattle.std.proofs.lemmas.Bool.{false_from_ne_true, eqb-true}
use Rattle.v_lexer.specs.declared.literals.Base.{Base}
use Rattle.v_lexer.specs.declared.literals.Bit.{Bit}
use Rattle.v_lexer.specs.declared.literals.Bit.TheVariants.{Zero, One, X, Z}
use Rattle.v_lexer.specs.Bytes.{first}
use Rattle.v_lexer.specs.Literals.{needed_len, digit_bits, bits_of}
use Rattle.v_lexer.specs.Needed.{needed_with, needed_by}

suc_other : (n : ℕ) → eqb (suc n) 0 ≡ false
suc_other n = false_from_ne_true (eqb (suc n) 0) (λ e. let same : suc n ≡ 0 = eqb-true (suc n) 0 e in absurd (omega arith))

-- after a bit that is needed all are
needed_some : (n : ℕ) (bits : List Bit) → needed_by (suc n) bits ≡ suc n + length bits
unfolding needed_by
needed_some n [] = omega arith
needed_some n (Zero ∷ bits) = let e : suc n + 1 ≡ suc (suc n) = omega arith in rw (suc_other n, e) (needed_some (suc n) bits ∙ omega arith)
needed_some n (One ∷ bits) = let e : suc n + 1 ≡ suc (suc n) = omega arith in rw e (needed_some (suc n) bits ∙ omega arith)
needed_some n (X ∷ bits) = let e : suc n + 1 ≡ suc (suc n) = omega arith in rw e (needed_some (suc n) bits ∙ omega arith)
needed_some n (Z ∷ bits) = let e : suc n + 1 ≡ suc (suc n) = omega arith in rw e (needed_some (suc n) bits ∙ omega arith)

pub needed_all : (bits : List Bit) → needed_by 0 bits ≡ needed_len bits
unfolding needed_by needed_len
needed_all [] = refl
needed_all (Zero ∷ bits) = needed_all bits
needed_all (One ∷ bits) = needed_some 0 bits ∙ omega arith
needed_all (X ∷ bits) = needed_some 0 bits ∙ omega arith
needed_all (Z ∷ bits) = needed_some 0 bits ∙ omega arith

pub needed_by-append : (n : ℕ) (xs ys : List Bit) → needed_by n (xs ++ ys) ≡ needed_by (needed_by n xs) ys
unfolding needed_by
needed_by-append n [] ys = refl
needed_by-append n (bit ∷ xs) ys = needed_by-append (needed_with n bit) xs ys

needed_with-grows : (n : ℕ) (bit : Bit) → n ≤ needed_with n bit
needed_with-grows zero Zero = omega arith
needed_with-grows (suc n) Zero = rw (suc_other n) (omega arith)
needed_with-grows n One = omega arith
needed_with-grows n X = omega arith
needed_with-grows n Z = omega arith

pub needed_by-grows : (n : ℕ) (bits : List Bit) → n ≤ needed_by n bits
unfolding needed_by
needed_by-grows n [] = omega arith
needed_by-grows n (bit ∷ bits) = omega (arith, needed_with-grows n bit, needed_by-grows (needed_with n bit) bits)

pub needed_goes_on : (base : Base) (n byte : ℕ) (bytes : List ℕ) (m : ℕ) (rest : List ℕ) (all : ℕ) → 0 < length bytes → byte ≡ first bytes → m ≡ needed_by n (digit_bits base byte) → rest ≡ drop 1 bytes
    → needed_by n (bits_of base bytes) ≡ all → needed_by m (bits_of base rest) ≡ all
unfolding bits_of
needed_goes_on base n byte [] m rest all some is with_it left so_far = absurd (omega arith)
needed_goes_on base n byte (next ∷ bytes) m rest all some is with_it left so_far =
    rw (left, with_it, is) (sym (needed_by-append n (digit_bits base next) (bits_of base bytes)) ∙ so_far)

pub needed_end : (base : Base) (n : ℕ) (bytes : List ℕ) → length bytes < 1 → needed_by n (bits_of base bytes) ≡ n
unfolding needed_by bits_of
needed_end base n [] none = refl
needed_end base n (byte ∷ bytes) none = absurd (omega arith)

pub ruleset enough = (needed_all, needed_by-grows, needed_end)

too_many : (all : ℕ) → 32 < all → false ≡ leb all 32
too_many all more = sym (false_from_ne_true (leb all 32) (λ e. let le : all ≤ 32 = search (rules, e) in absurd (omega arith)))

-- where more bits than 32 are needed for the first digits
pub too_many_bits : (base : Base) (m : ℕ) (rest : List ℕ) (all : ℕ) → 32 < m → needed_by m (bits_of base rest) ≡ all → false ≡ leb all 32
too_many_bits base m rest all more so_far = too_many all (omega (arith, needed_by-grows m (bits_of base rest), so_far))
