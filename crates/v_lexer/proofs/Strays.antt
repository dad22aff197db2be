-- A `"` that begins no text in quotes: neither does one after it on its line.
use Rattle.std.proofs.Common.{◌≡◌, ℕ, zero, suc, ◌+◌, ◌-◌, ◌<◌, Bool, true, false, not, ◌&&◌, ◌||◌, eqb, List, [], ◌∷◌, drop, if◌then◌else◌, refl, sym, ap, ◌∙◌, arith, inl, inr}
use Rattle.std.proofs.lemmas.Bool.{cases_Bool, true≢false, and_parts, not-true, eqb-true}
use Rattle.std.proofs.lemmas.Option.{none-some, same_Some}
use Rattle.std.specs.Prelude.{Option, Some, None}
use Rattle.std.specs.Option.{option_map_or}
use Rattle.v_lexer.specs.Bytes.{first, plus}
use Rattle.v_lexer.specs.Quoted.{quote_end}
use Rattle.v_lexer.specs.Gaps.{quoted_after}

-- no text in quotes that began before ends on the line
abbrev pub IsStray : List ℕ → Type 0
IsStray rest = (before : ℕ) × (quote_end before rest ≡ None)

plus_is_none : (n : ℕ) (len : Option ℕ) → plus n len ≡ None → len ≡ None
plus_is_none n None is = refl
plus_is_none n (Some m) is = absurd (none-some (n + m) (sym is))

ends_or_not : (ends : Bool) (len : Option ℕ) → (if ends then Some 1 else plus 1 len) ≡ None → len ≡ None
ends_or_not true len is = absurd (none-some 1 (sym is))
ends_or_not false len is = plus_is_none 1 len is

in_line : (line : Bool) (len : Option ℕ) → line ≡ false → (if line then None else len) ≡ None → len ≡ None
in_line true len other is = absurd (true≢false other)
in_line false len other is = is

stray_next : (before byte : ℕ) (bytes : List ℕ) → eqb byte 10 ≡ false → quote_end before (byte ∷ bytes) ≡ None → quote_end byte bytes ≡ None
unfolding quote_end
stray_next before byte bytes line is =
    ends_or_not (eqb byte 34 && not (eqb before 92)) (quote_end byte bytes)
    (in_line (eqb byte 10) (if eqb byte 34 && not (eqb before 92) then Some 1 else plus 1 (quote_end byte bytes)) line is)

-- what a `"` has behind it where no text ends
none_quoted : (bytes : List ℕ) → first bytes ≡ 34 → quote_end 34 (drop 1 bytes) ≡ None → quoted_after bytes ≡ 0
none_quoted bytes is none = rw (is, none) refl

stray_quoted : (rest : List ℕ) → IsStray rest → quoted_after rest ≡ 0
stray_quoted [] stray = refl
stray_quoted (byte ∷ bytes) stray =
    elim (cases_Bool (eqb byte 34)) [
      | inl e ↦ let is : byte ≡ 34 = eqb-true byte 34 e in
          none_quoted (byte ∷ bytes) is (ap (λ b. quote_end b bytes) (sym is) ∙ stray_next stray.0 byte bytes (ap (λ b. eqb b 10) is) stray.1)
      | inr e ↦ rw e refl
    ]

some_len : (len : Option ℕ) (n : ℕ) → plus 1 len ≡ Some n → 0 < n
some_len None n is = absurd (none-some n is)
some_len (Some m) n is = let e : 1 + m ≡ n = same_Some (1 + m) n is in omega arith

either_len : (line ends : Bool) (len : Option ℕ) (n : ℕ) → (if line then None else if ends then Some 1 else plus 1 len) ≡ Some n → 0 < n
either_len true ends len n is = absurd (none-some n is)
either_len false true len n is = let e : 1 ≡ n = same_Some 1 n is in omega arith
either_len false false len n is = some_len len n is

quote_end-some : (before n : ℕ) (bytes : List ℕ) → quote_end before bytes ≡ Some n → 0 < n
unfolding quote_end
quote_end-some before n [] is = absurd (none-some n is)
quote_end-some before n (byte ∷ bytes) is = either_len (eqb byte 10) (eqb byte 34 && not (eqb before 92)) (quote_end byte bytes) n is

-- where none is passed over no text ends
none_passed : (len : Option ℕ) → ((n : ℕ) → len ≡ Some n → 0 < n) → option_map_or (λ n. n - 1) (plus 1 len) 0 ≡ 0 → len ≡ None
none_passed None some none = refl
none_passed (Some n) some none = absurd (omega (arith, some n refl, none))

stray_begins : (rest : List ℕ) → first rest ≡ 34 → quoted_after rest ≡ 0 → quote_end 34 (drop 1 rest) ≡ None
stray_begins rest is none =
    none_passed (quote_end 34 (drop 1 rest)) (λ n e. quote_end-some 34 n (drop 1 rest) e) (rw is at none)

pub quoted_kept : (stray : Bool) (rest : List ℕ) (q : ℕ) → q ≡ (if stray then 0 else quoted_after rest) → (stray ≡ true → IsStray rest) → q ≡ quoted_after rest
quoted_kept true rest q is strays = is ∙ sym (stray_quoted rest (strays refl))
quoted_kept false rest q is strays = is

none_left : (n : ℕ) → quote_end 0 (drop n []) ≡ None
unfolding quote_end
none_left zero = refl
none_left (suc n) = refl

pub stray_goes_on : (stray new : Bool) (rest after : List ℕ) (q byte : ℕ) → q ≡ (if stray then 0 else quoted_after rest) → byte ≡ first rest → after ≡ drop (1 + q) rest
    → new ≡ (not (eqb byte 10) && (stray || (eqb byte 34 && eqb q 0))) → (stray ≡ true → IsStray rest) → new ≡ true → IsStray after
stray_goes_on true new [] after q byte is byte-is after-is new-is strays still = (0, ap (quote_end 0) after-is ∙ none_left (1 + q))
stray_goes_on true new (front ∷ rest) after q byte is byte-is after-is new-is strays still =
    let stray : IsStray (front ∷ rest) = strays refl in
    let one : 1 + q ≡ 1 = omega (arith, is) in
    let other : eqb byte 10 ≡ false = not-true (eqb byte 10) (and_parts (not (eqb byte 10)) true (sym new-is ∙ still)).0 in
    (front, ap (quote_end front) (after-is ∙ ap (λ n. drop n (front ∷ rest)) one) ∙ stray_next stray.0 front rest (ap (λ b. eqb b 10) (sym byte-is) ∙ other) stray.1)
stray_goes_on false new rest after q byte is byte-is after-is new-is strays still =
    let both : (eqb byte 34 && eqb q 0) ≡ true = (and_parts (not (eqb byte 10)) (eqb byte 34 && eqb q 0) (sym new-is ∙ still)).1 in
    let parts : (eqb byte 34 ≡ true) × (eqb q 0 ≡ true) = and_parts (eqb byte 34) (eqb q 0) both in
    let quote : first rest ≡ 34 = sym byte-is ∙ eqb-true byte 34 parts.0 in
    let none : q ≡ 0 = eqb-true q 0 parts.1 in
    let one : 1 + q ≡ 1 = omega (arith, none) in
    (34, ap (quote_end 34) (after-is ∙ ap (λ n. drop n rest) one) ∙ stray_begins rest quote (sym is ∙ none))
