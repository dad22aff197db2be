-- Counting up to a bound: what is past the bound stays past it.
use Rattle.std.proofs.Common.{◌≡◌, ℕ, zero, suc, ◌+◌, ◌*◌, ◌-◌, ◌^◌, ◌≤◌, min, List, [], ◌∷◌, ◌++◌, length, take, drop, Bool, false, cond, leb, Some, None, refl, sym, ap, ◌∙◌, arith, inl, inr}
use Rattle.std.specs.Prelude.{replicate}
use Rattle.std.proofs.Math.Nat.{mul_assoc, mul_comm, pow-suc, pow-succ', le-mul_of_pos_right, mul-le-mul_right}
use Rattle.std.proofs.lemmas.Bool.{cases_lt}
use Rattle.std.proofs.lemmas.Bool.Decides.{nat_tests}
use Rattle.std.proofs.lemmas.List.{take_min}
use Rattle.delay_rule.specs.Ticks.{number_after, number, digits_to, half_up, rounded_amount, delay_in_ticks}

one_digit : (bound n digit : ℕ) → min (10 * min n bound + digit) bound ≡ min (10 * n + digit) bound
one_digit bound n digit = omega arith

-- more digits behind a number that was cut to the bound
pub number_after-cap : (bound n : ℕ) (digits : List ℕ) → min (number_after (min n bound) digits) bound ≡ min (number_after n digits) bound
number_after-cap bound n [] = omega arith
number_after-cap bound n (digit ∷ digits) =
    sym (number_after-cap bound (10 * min n bound + digit) digits)
    ∙ ap (λ (m : ℕ). min (number_after m digits) bound) (one_digit bound n digit)
    ∙ number_after-cap bound (10 * n + digit) digits

pub number_after-append : (n : ℕ) (xs ys : List ℕ) → number_after n (xs ++ ys) ≡ number_after (number_after n xs) ys
number_after-append n [] ys = refl
number_after-append n (x ∷ xs) ys = number_after-append (10 * n + x) xs ys

pub number_after-zeros : (n k : ℕ) → number_after n (replicate k 0) ≡ n * 10 ^ k
number_after-zeros n zero = omega arith
number_after-zeros n (suc k) =
    let first : 10 * n + 0 ≡ n * 10 = omega arith in
    number_after-zeros (10 * n + 0) k ∙ ap (λ (m : ℕ). m * 10 ^ k) first ∙ mul_assoc n 10 (10 ^ k) ∙ ap (λ (p : ℕ). n * p) (sym (pow-succ' 10 k))

flip : (m n : ℕ) → min m n ≡ min n m
flip m n = omega arith

cut_sum : (bound n m : ℕ) → min (min n bound + m) bound ≡ min (n + m) bound
cut_sum bound n m = omega arith

-- a product of a number that was cut to the bound
pub times-cap : (bound n m : ℕ) → min (min n bound * m) bound ≡ min (n * m) bound
times-cap bound n zero = omega arith
times-cap bound n (suc m) = elim (cases_lt bound n) [
  | inl lt ↦
      let cut : min n bound ≡ bound = omega arith in
      let own : bound ≤ bound * suc m = le-mul_of_pos_right bound (omega arith) in
      let more : bound * suc m ≤ n * suc m = mul-le-mul_right (suc m) (omega arith) in
      ap (λ (x : ℕ). min (x * suc m) bound) cut ∙ omega arith
  | inr le ↦
      let same : min n bound ≡ n = omega arith in
      ap (λ (x : ℕ). min (x * suc m) bound) same
]

-- the number that the first k digits of a fraction continue, up to the bound
pub rounded_amount-cap : (bound : ℕ) (whole fraction : List ℕ) (k : ℕ) →
    min (min (min (number_after (min (number_after 0 whole) bound) (take (min (length fraction) k) fraction)) bound * 10 ^ (k - min (length fraction) k)) bound + half_up (drop k fraction)) bound
    ≡ min (rounded_amount whole fraction k) bound
rounded_amount-cap bound whole fraction k =
    let few : k - min (length fraction) k ≡ k - length fraction = omega arith in
    let front : take (min (length fraction) k) fraction ≡ take k fraction = ap (λ (m : ℕ). take m fraction) (flip (length fraction) k) ∙ take_min k fraction in
    let digits : number (whole ++ digits_to k fraction) ≡ number_after (number_after (number_after 0 whole) (take k fraction)) (replicate (k - length fraction) 0)
    = number_after-append 0 whole (digits_to k fraction) ∙ number_after-append (number_after 0 whole) (take k fraction) (replicate (k - length fraction) 0) in
    let zeros : number (whole ++ digits_to k fraction) ≡ number_after (number_after 0 whole) (take k fraction) * 10 ^ (k - length fraction)
    = digits ∙ number_after-zeros (number_after (number_after 0 whole) (take k fraction)) (k - length fraction) in
    let one : min (number_after (min (number_after 0 whole) bound) (take (min (length fraction) k) fraction)) bound ≡ min (number_after (number_after 0 whole) (take k fraction)) bound
    = ap (λ (ds : List ℕ). min (number_after (min (number_after 0 whole) bound) ds) bound) front ∙ number_after-cap bound (number_after 0 whole) (take k fraction) in
    let two : min (min (number_after (min (number_after 0 whole) bound) (take (min (length fraction) k) fraction)) bound * 10 ^ (k - min (length fraction) k)) bound
    ≡ min (number (whole ++ digits_to k fraction)) bound
    = ap (λ (x : ℕ). min (x * 10 ^ (k - min (length fraction) k)) bound) one
    ∙ ap (λ (z : ℕ). min (min (number_after (number_after 0 whole) (take k fraction)) bound * 10 ^ z) bound) few
    ∙ times-cap bound (number_after (number_after 0 whole) (take k fraction)) (10 ^ (k - length fraction))
    ∙ ap (λ (x : ℕ). min x bound) (sym zeros) in
    ap (λ (x : ℕ). min (x + half_up (drop k fraction)) bound) two ∙ cut_sum bound (number (whole ++ digits_to k fraction)) (half_up (drop k fraction))

-- one more zero behind a number that was cut to the bound
pub one_zero : (bound n k : ℕ) → min (10 * min (n * 10 ^ k) bound) bound ≡ min (n * 10 ^ (k + 1)) bound
one_zero bound n k =
    let more : k + 1 ≡ suc k = omega arith in
    let next : n * 10 ^ (k + 1) ≡ 10 * (n * 10 ^ k) =
    ap (λ (j : ℕ). n * 10 ^ j) more ∙ ap (λ (p : ℕ). n * p) (pow-suc 10 k) ∙ sym (mul_assoc n (10 ^ k) 10) ∙ mul_comm (n * 10 ^ k) 10 in
    omega arith

past : (n : ℕ) → 2147483648 ≤ n → delay_in_ticks n ≡ None
past n le =
    let over : leb n 2147483647 ≡ false = grind (arith, nat_tests) in
    ap (λ (b : Bool). cond b (Some n) None) over

-- a delay is past the greatest where its count up to the bound is
pub delay-cap : (n : ℕ) → delay_in_ticks (min n 2147483648) ≡ delay_in_ticks n
delay-cap n = elim (cases_lt n 2147483648) [
  | inl lt ↦ let same : min n 2147483648 ≡ n = omega arith in ap delay_in_ticks same
  | inr le ↦
      let cut : min n 2147483648 ≡ 2147483648 = omega arith in
      ap delay_in_ticks cut ∙ sym (past n le)
]
