-- What is found has the form of its kind.
use Rattle.std.proofs.Common.{◌≡◌, ℕ, zero, suc, ◌+◌, ◌<◌, Bool, true, false, not, ◌&&◌, ◌||◌, eqb, nat_lt, List, [], ◌∷◌, ◌++◌, take, drop, if◌then◌else◌, ◌⊎◌, refl, sym, ap, subst, ◌∙◌, arith, inl, inr}
use Rattle.std.proofs.lemmas.Bool.{and_from, cases_Bool, true≢false, or_cases, and_parts, not-true, not-false, not_from_false, false_from_ne_true, eqb-true, eqb-false, ltb-true}
use Rattle.std.proofs.lemmas.List.{drop-drop}
use Rattle.std.proofs.lemmas.List.Folds.{length-prefix_len}
use Rattle.std.proofs.lemmas.Slice.Eq.{bytes_eq-Decides}
use Rattle.std.proofs.Math.Seq.{take-add}
use Rattle.std.proofs.lemmas.Option.{none-some, same_Some}
use Rattle.std.specs.Prelude.{Option, Some, None, Ok, Err, codes}
use Rattle.std.specs.List.{prefix_len, list_all}
use Rattle.std.specs.Char.{is_ascii_digit}
use Rattle.name_table.specs.Names.{same_name}
use Rattle.v_lexer.specs.declared.token.TokenKind.{TokenKind}
use Rattle.v_lexer.specs.declared.token.TokenKind.TheVariants as kind
use Rattle.v_lexer.specs.declared.literals.Base.{Base}
use Rattle.v_lexer.specs.Bytes.{first, begins, plus, is_letter, is_name_byte, is_number_byte, is_literal_byte, is_blank, is_visible, name_run, number_run, digit_run, literal_run, blank_run, visible_run}
use Rattle.v_lexer.specs.Quoted.{quote_end, text_len}
use Rattle.v_lexer.specs.Numbers.{decimal_len, sign_len, exponent_head, exponent_len}
use Rattle.v_lexer.specs.Literals.{Form, form_at, form_with, form_after, base_of, signed_len, holds}
use Rattle.v_lexer.specs.Words.{is_reserved}
use Rattle.v_lexer.specs.Pieces.{PieceOrFault, quote_offset, symbols, is_symbol, is_table_end, piece_at}
use Rattle.v_lexer.specs.Forms.{IsDigits, IsWord, IsEscaped, IsNumber, IsDecimal, IsExponent, IsUnsized, IsSized, IsInside, IsText, IsDirective, begins_other, IsMark, IsTableByte, IsFormOf}
use Rattle.v_lexer.proofs.Fronts.{name_run_some, number_run_some}
use Rattle.v_lexer.proofs.Cases.{Case, NumberCase, IsNumberLen, piece_case}
use Rattle.v_lexer.proofs.Cases as case
use Rattle.v_lexer.proofs.Cuts.{first_cut, formed, form_at-formed, form_with-some, and_then-some}
use Rattle.v_lexer.proofs.Meanings.{endtable_is_reserved}

-- a token has the form of its kind
abbrev pub HasShape : Option TokenKind → List ℕ → Type 0
HasShape None bytes = Unit {0}
HasShape (Some shape) bytes = IsFormOf shape bytes

-- what is found has the form of its kind
abbrev pub Takes : List ℕ → PieceOrFault → Type 0
Takes bytes (Ok piece) = HasShape piece.kind (take piece.len bytes)
Takes bytes (Err wrong) = Unit {0}

-- runs
run_all : (p : ℕ → Bool) (bytes : List ℕ) → list_all p (take (prefix_len p bytes) bytes) ≡ true
run_all p [] = refl
run_all p (byte ∷ bytes) =
    elim (cases_Bool (p byte)) [
      | inl e ↦ let one : 1 + prefix_len p bytes ≡ suc (prefix_len p bytes) = omega arith in
          rw (e, one) (and_from (p byte) (list_all p (take (prefix_len p bytes) bytes)) e (run_all p bytes))
      | inr e ↦ rw e refl
    ]

-- the first byte, and those behind it
front_is : (n byte : ℕ) (bytes : List ℕ) → first bytes ≡ byte → 0 < byte → take (1 + n) bytes ≡ byte ∷ take n (drop 1 bytes)
front_is n byte [] is some = absurd (omega (arith, is))
front_is n byte (front ∷ bytes) is some =
    let one : 1 + n ≡ suc n = omega arith in
    ap (λ m. take m (front ∷ bytes)) one ∙ ap (λ b. b ∷ take n bytes) is

one_byte : (byte : ℕ) (bytes : List ℕ) → first bytes ≡ byte → 0 < byte → take 1 bytes ≡ byte ∷ []
one_byte byte bytes is some = front_is 0 byte bytes is some

visible_some : (byte : ℕ) → is_visible byte ≡ true → 0 < byte
visible_some byte is = omega (arith, ltb-true 32 byte (and_parts (nat_lt 32 byte) (nat_lt byte 127) is).0)

mark_takes : (bytes : List ℕ) → is_visible (first bytes) ≡ true → not (begins_other (first bytes)) ≡ true → IsMark (take 1 bytes)
mark_takes bytes visible other =
    record { byte = first bytes; visible = visible; other = other; all = one_byte (first bytes) bytes refl (visible_some (first bytes) visible) }

-- names
word_takes : (bytes : List ℕ) → is_letter (first bytes) ≡ true → IsWord (take (name_run bytes) bytes)
word_takes bytes letter = (ap is_letter (first_cut 0 (name_run bytes) bytes (name_run_some bytes letter)) ∙ letter, run_all is_name_byte bytes)

escaped_takes : (bytes : List ℕ) → first bytes ≡ 92 → 0 < visible_run (drop 1 bytes) → IsEscaped (take (1 + visible_run (drop 1 bytes)) bytes)
escaped_takes bytes is some =
    let run : ℕ = visible_run (drop 1 bytes) in
    record {
      name = take run (drop 1 bytes);
      some = omega (arith, length-prefix_len is_visible (drop 1 bytes), some);
      visible = run_all is_visible (drop 1 bytes);
      all = front_is run 92 bytes is (omega arith);
    }

directive_takes : (bytes : List ℕ) → first bytes ≡ 96 → is_letter (first (drop 1 bytes)) ≡ true → IsDirective (take (1 + name_run (drop 1 bytes)) bytes)
directive_takes bytes is letter =
    let run : ℕ = name_run (drop 1 bytes) in
    record { name = take run (drop 1 bytes); is_name = word_takes (drop 1 bytes) letter; all = front_is run 96 bytes is (omega arith) }

-- texts in quotes
record Closes (before m : ℕ) (bytes : List ℕ) : Type 0 where
  inside : List ℕ
  closed : IsInside before inside
  all : take m bytes ≡ inside ++ (34 ∷ [])

plus_of : (len : Option ℕ) (m : ℕ) → plus 1 len ≡ Some m → (n : ℕ) × (len ≡ Some n) × (m ≡ 1 + n)
plus_of None m is = absurd (none-some m is)
plus_of (Some n) m is = (n, refl, sym (same_Some (1 + n) m is))

closes_now : (before m : ℕ) (bytes : List ℕ) → ¬ (before ≡ 92) → 1 ≡ m → Closes before m (34 ∷ bytes)
closes_now before m bytes other is = record { inside = []; closed = other; all = ap (λ k. take k (34 ∷ bytes)) (sym is) }

quote_closes : (before m : ℕ) (bytes : List ℕ) → quote_end before bytes ≡ Some m → Closes before m bytes
unfolding quote_end
quote_closes before m [] is = absurd (none-some m is)
quote_closes before m (byte ∷ bytes) is =
    elim (cases_Bool (eqb byte 10)) [
      | inl e ↦ absurd (none-some m (rw e at is))
      | inr line ↦ elim (cases_Bool (eqb byte 34 && not (eqb before 92))) [
        | inl both ↦
            let parts : (eqb byte 34 ≡ true) × (not (eqb before 92) ≡ true) = and_parts (eqb byte 34) (not (eqb before 92)) both in
            let now : Some 1 ≡ Some m = rw (line, both) at is in
            subst (λ b. Closes before m (b ∷ bytes)) (sym (eqb-true byte 34 parts.0))
            (closes_now before m bytes (eqb-false before 92 (not-true (eqb before 92) parts.1)) (same_Some 1 m now))
        | inr not_both ↦
            let more : (n : ℕ) × (quote_end byte bytes ≡ Some n) × (m ≡ 1 + n) = plus_of (quote_end byte bytes) m (rw (line, not_both) at is) in
            let rest : Closes byte more.0 bytes = quote_closes byte more.0 bytes more.1 in
            let next : m ≡ suc more.0 = omega (arith, more.2) in
            record {
              inside = byte ∷ rest.inside;
              closed = (eqb-false byte 10 line, λ e. before_is byte before e not_both, rest.closed);
              all = ap (λ k. take k (byte ∷ bytes)) next ∙ ap (λ (bs : List ℕ). byte ∷ bs) rest.all;
            }
      ]
    ]
  where
    before_is : (b other : ℕ) → b ≡ 34 → (eqb b 34 && not (eqb other 92)) ≡ false → other ≡ 92
    before_is b other e h = eqb-true other 92 (not-false (eqb other 92) (rw e at h))

text_takes : (bytes : List ℕ) (len : ℕ) → first bytes ≡ 34 → text_len bytes ≡ Some len → IsText (take len bytes)
text_takes bytes len is end =
    let more : (n : ℕ) × (quote_end 34 (drop 1 bytes) ≡ Some n) × (len ≡ 1 + n) = plus_of (quote_end 34 (drop 1 bytes)) len end in
    let closes : Closes 34 more.0 (drop 1 bytes) = quote_closes 34 more.0 (drop 1 bytes) more.1 in
    record {
      inside = closes.inside;
      closed = closes.closed;
      all = ap (λ n. take n bytes) more.2 ∙ front_is more.0 34 bytes is (omega arith) ∙ ap (λ (bs : List ℕ). 34 ∷ bs) closes.all;
    }

-- numbers
number_takes : (bytes : List ℕ) → is_ascii_digit (first bytes) ≡ true → IsNumber (take (number_run bytes) bytes)
number_takes bytes digit = (ap is_ascii_digit (first_cut 0 (number_run bytes) bytes (number_run_some bytes digit)) ∙ digit, run_all is_number_byte bytes)

digits_takes : (bytes : List ℕ) → 0 < digit_run bytes → IsDigits (take (digit_run bytes) bytes)
digits_takes bytes some = (omega (arith, some, length-prefix_len is_ascii_digit bytes), run_all is_ascii_digit bytes)

digit_run-some : (bytes : List ℕ) → is_ascii_digit (first bytes) ≡ true → 0 < digit_run bytes
digit_run-some [] digit = absurd (true≢false (sym digit))
digit_run-some (byte ∷ bytes) digit = rw digit (omega arith)

decimal_parts : (point : Bool) (d run len : ℕ) → (if point then d + 1 + run else 0) ≡ len → 0 < len → (point ≡ true) × (len ≡ d + (1 + run))
decimal_parts true d run len is some = (refl, sym is ∙ omega arith)
decimal_parts false d run len is some = absurd (omega (arith, is))

decimal_takes : (bytes : List ℕ) → is_ascii_digit (first bytes) ≡ true → 0 < decimal_len bytes → IsDecimal (take (decimal_len bytes) bytes)
unfolding decimal_len
decimal_takes bytes digit some =
    let d : ℕ = digit_run bytes in
    let run : ℕ = digit_run (drop (d + 1) bytes) in
    let is_point : Bool = eqb (first (drop d bytes)) 46 && nat_lt 0 run in
    let parts : ((eqb (first (drop d bytes)) 46 && nat_lt 0 run) ≡ true) × (decimal_len bytes ≡ d + (1 + run)) = decimal_parts (eqb (first (drop d bytes)) 46 && nat_lt 0 run) d run (decimal_len bytes) refl some in
    let both : (eqb (first (drop d bytes)) 46 ≡ true) × (nat_lt 0 run ≡ true) = and_parts (eqb (first (drop d bytes)) 46) (nat_lt 0 run) parts.0 in
    record {
      whole = take d bytes;
      part = take run (drop (d + 1) bytes);
      before = digits_takes bytes (digit_run-some bytes digit);
      behind = digits_takes (drop (d + 1) bytes) (ltb-true 0 run both.1);
      all = ap (λ n. take n bytes) parts.1 ∙ take-add d (1 + run) bytes
          ∙ ap (λ (bs : List ℕ). take d bytes ++ bs) (front_is run 46 (drop d bytes) (eqb-true (first (drop d bytes)) 46 both.0) (omega arith) ∙ ap (λ (bs : List ℕ). 46 ∷ take run bs) (drop-drop 1 d bytes));
    }

-- a sign of an exponent
sign_takes : (bytes : List ℕ) → (take (sign_len bytes) bytes ≡ []) ⊎ ((take (sign_len bytes) bytes ≡ 43 ∷ []) ⊎ (take (sign_len bytes) bytes ≡ 45 ∷ []))
sign_takes bytes =
    elim (cases_Bool (eqb (first bytes) 43)) [
      | inl e ↦ let one : sign_len bytes ≡ 1 = rw e refl in inr (inl (ap (λ n. take n bytes) one ∙ one_byte 43 bytes (eqb-true (first bytes) 43 e) (omega arith)))
      | inr other ↦ elim (cases_Bool (eqb (first bytes) 45)) [
        | inl e ↦ let one : sign_len bytes ≡ 1 = rw (other, e) refl in inr (inr (ap (λ n. take n bytes) one ∙ one_byte 45 bytes (eqb-true (first bytes) 45 e) (omega arith)))
        | inr none ↦ let zero_len : sign_len bytes ≡ 0 = rw (other, none) refl in inl (ap (λ n. take n bytes) zero_len)
      ]
    ]

exponent_parts : (is_e some : Bool) (head run len : ℕ) → (if is_e && some then head + run else 0) ≡ len → 0 < len → (is_e ≡ true) × (some ≡ true) × (len ≡ head + run)
exponent_parts true true head run len is some = (refl, refl, sym is)
exponent_parts true false head run len is some = absurd (omega (arith, is))
exponent_parts false some head run len is more = absurd (omega (arith, is))

e_some : (letter : ℕ) → (eqb letter 101 || eqb letter 69) ≡ true → 0 < letter
e_some letter is =
    elim (or_cases (eqb letter 101) (eqb letter 69) is) [
      | inl e ↦ omega (arith, eqb-true letter 101 e)
      | inr e ↦ omega (arith, eqb-true letter 69 e)
    ]

exponent_takes : (len : ℕ) (bytes : List ℕ) → IsNumber (take len bytes) ⊎ IsDecimal (take len bytes) → 0 < exponent_len (drop len bytes) → IsExponent (take (len + exponent_len (drop len bytes)) bytes)
unfolding exponent_len
exponent_takes len bytes number more =
    let tail : List ℕ = drop len bytes in
    let letter : ℕ = first tail in
    let s : ℕ = sign_len (drop 1 tail) in
    let head : ℕ = exponent_head tail in
    let run : ℕ = digit_run (drop head tail) in
    let parts : ((eqb letter 101 || eqb letter 69) ≡ true) × (nat_lt 0 run ≡ true) × (exponent_len tail ≡ head + run) = exponent_parts (eqb letter 101 || eqb letter 69) (nat_lt 0 run) head run (exponent_len tail) refl more in
    let sum : exponent_len tail ≡ 1 + (s + run) = omega (arith, parts.2) in
    record {
      front = take len bytes;
      letter = letter;
      sign = take s (drop 1 tail);
      digits = take run (drop head tail);
      number = number;
      is_e = parts.0;
      is_sign = sign_takes (drop 1 tail);
      some = digits_takes (drop head tail) (ltb-true 0 run parts.1);
      all = take-add len (exponent_len tail) bytes
          ∙ ap (λ (bs : List ℕ). take len bytes ++ bs)
          (ap (λ n. take n tail) sum ∙ front_is (s + run) letter tail refl (e_some letter parts.0)
          ∙ ap (λ (bs : List ℕ). letter ∷ bs) (take-add s run (drop 1 tail) ∙ ap (λ (bs : List ℕ). take s (drop 1 tail) ++ take run bs) (drop-drop s 1 tail)));
    }

-- based numbers
base_sign : (bytes : List ℕ) → (take (signed_len bytes) bytes ≡ []) ⊎ ((take (signed_len bytes) bytes ≡ 115 ∷ []) ⊎ (take (signed_len bytes) bytes ≡ 83 ∷ []))
base_sign bytes =
    elim (cases_Bool (eqb (first bytes) 115)) [
      | inl e ↦ let one : signed_len bytes ≡ 1 = rw e refl in inr (inl (ap (λ n. take n bytes) one ∙ one_byte 115 bytes (eqb-true (first bytes) 115 e) (omega arith)))
      | inr other ↦ elim (cases_Bool (eqb (first bytes) 83)) [
        | inl e ↦ let one : signed_len bytes ≡ 1 = rw (other, e) refl in inr (inr (ap (λ n. take n bytes) one ∙ one_byte 83 bytes (eqb-true (first bytes) 83 e) (omega arith)))
        | inr none ↦ let zero_len : signed_len bytes ≡ 0 = rw (other, none) refl in inl (ap (λ n. take n bytes) zero_len)
      ]
    ]

base_some : (letter : ℕ) (base : Base) → base_of letter ≡ Some base → 0 < letter
unfolding base_of
base_some zero base is = absurd (none-some base is)
base_some (suc letter) base is = omega arith

digits_first : (signed : Bool) (base : Base) (start : ℕ) (bytes : List ℕ) (form : Form) → form_with signed base start bytes ≡ Some form → eqb (first (drop start bytes)) 95 ≡ false
unfolding form_with
digits_first signed base start bytes form is =
    false_from_ne_true (eqb (first (drop start bytes)) 95) (λ e. none (eqb (literal_run (drop start bytes)) 0) (rw e at is))
  where
    none : (b : Bool) → (if b || true then None else Some (record { signed = signed; base = base; digits = take (literal_run (drop start bytes)) (drop start bytes); len = start + literal_run (drop start bytes) })) ≡ Some form → ⊥
    none true e = none-some form e
    none false e = none-some form e

unsized_takes : (bytes : List ℕ) (form : Form) → first bytes ≡ 39 → form_at bytes ≡ Some form → IsUnsized (take form.len bytes)
unfolding formed
unsized_takes bytes form quote is =
    let s : ℕ = signed_len (drop 1 bytes) in
    let offset : ℕ = 1 + s in
    let made : formed s bytes ≡ Some form = sym (form_at-formed bytes) ∙ is in
    let parts : (base : Base) × (base_of (first (drop (1 + s) bytes)) ≡ Some base) × (form_after (eqb s 1) (1 + s) bytes base ≡ Some form) = and_then-some (base_of (first (drop (1 + s) bytes))) (form_after (eqb s 1) (1 + s) bytes) form made in
    let letter : ℕ = first (drop offset bytes) in
    let b : ℕ = blank_run (drop (offset + 1) bytes) in
    let start : ℕ = offset + 1 + b in
    let rest : List ℕ = drop start bytes in
    let run : ℕ = literal_run rest in
    let long : (0 < literal_run (drop start bytes)) × (form.len ≡ start + literal_run (drop start bytes)) = form_with-some (eqb s 1) parts.0 start bytes form parts.2 in
    let sum : form.len ≡ 1 + (s + (1 + (b + run))) = omega (arith, long.1) in
    let other : eqb (first rest) 95 ≡ false = digits_first (eqb s 1) parts.0 start bytes form parts.2 in
    record {
      sign = take s (drop 1 bytes);
      letter = letter;
      base = parts.0;
      blanks = take b (drop (offset + 1) bytes);
      digits = take run rest;
      is_sign = base_sign (drop 1 bytes);
      is_base = parts.1;
      are_blank = run_all is_blank (drop (offset + 1) bytes);
      some = omega (arith, long.0, length-prefix_len is_literal_byte rest);
      begins = not_from_false (eqb (first (take run rest)) 95) (ap (λ byte. eqb byte 95) (first_cut 0 run rest long.0) ∙ other);
      are_digits = run_all is_literal_byte rest;
      all = ap (λ n. take n bytes) sum ∙ front_is (s + (1 + (b + run))) 39 bytes quote (omega arith)
          ∙ ap (λ (bs : List ℕ). 39 ∷ bs)
          (take-add s (1 + (b + run)) (drop 1 bytes) ∙ ap (λ (bs : List ℕ). take s (drop 1 bytes) ++ bs)
          (ap (λ (bs : List ℕ). take (1 + (b + run)) bs) (drop-drop s 1 bytes) ∙ front_is (b + run) letter (drop offset bytes) refl (base_some letter parts.0 parts.1)
          ∙ ap (λ (bs : List ℕ). letter ∷ take (b + run) bs) (drop-drop 1 offset bytes)
          ∙ ap (λ (bs : List ℕ). letter ∷ bs) (take-add b run (drop (offset + 1) bytes) ∙ ap (λ (bs : List ℕ). take b (drop (offset + 1) bytes) ++ take run bs) (drop-drop b (offset + 1) bytes))));
    }

sized_takes : (n : ℕ) (bytes : List ℕ) (form : Form) → IsNumber (take n bytes) → first (drop (quote_offset n bytes) bytes) ≡ 39 → form_at (drop (quote_offset n bytes) bytes) ≡ Some form → IsSized (take (quote_offset n bytes + form.len) bytes)
sized_takes n bytes form number quote is =
    let b : ℕ = blank_run (drop n bytes) in
    let sum : quote_offset n bytes + form.len ≡ n + (b + form.len) = omega arith in
    record {
      size = take n bytes;
      blanks = take b (drop n bytes);
      rest = take form.len (drop (quote_offset n bytes) bytes);
      is_size = number;
      are_blank = run_all is_blank (drop n bytes);
      is_rest = unsized_takes (drop (quote_offset n bytes) bytes) form quote is;
      all = ap (λ m. take m bytes) sum ∙ take-add n (b + form.len) bytes
          ∙ ap (λ (bs : List ℕ). take n bytes ++ bs) (take-add b form.len (drop n bytes) ∙ ap (λ (bs : List ℕ). take b (drop n bytes) ++ take form.len bs) (drop-drop b n bytes));
    }

-- inside a table
symbol_some : (byte : ℕ) → is_symbol byte ≡ true → 0 < byte
unfolding is_symbol symbols
symbol_some zero is = absurd (true≢false (sym is))
symbol_some (suc byte) is = omega arith

symbol_takes : (bytes : List ℕ) → is_symbol (first bytes) ≡ true → IsTableByte (take 1 bytes)
symbol_takes bytes is = record { byte = first bytes; symbol = is; all = one_byte (first bytes) bytes refl (symbol_some (first bytes) is) }

endtable_is_word : IsWord (codes "endtable") × (is_reserved (codes "endtable") ≡ true)
endtable_is_word = ((refl, refl), endtable_is_reserved)

table_end_takes : (bytes : List ℕ) → is_table_end bytes ≡ true → IsFormOf kind.Word (take 8 bytes)
unfolding is_table_end
table_end_takes bytes is =
    let same : same_name (take 8 bytes) (codes "endtable") ≡ true = (and_parts (same_name (take 8 bytes) (codes "endtable")) (not (is_name_byte (first (drop 8 bytes)))) is).0 in
    subst (λ (bs : List ℕ). IsFormOf kind.Word bs) (sym ((bytes_eq-Decides (take 8 bytes) (codes "endtable")).0 same)) endtable_is_word

-- what begins with a digit
before_exponent : (bytes : List ℕ) (len : ℕ) → is_ascii_digit (first bytes) ≡ true → IsNumberLen bytes len → IsNumber (take len bytes) ⊎ IsDecimal (take len bytes)
before_exponent bytes len digit (inl whole) = inl (subst (λ n. IsNumber (take n bytes)) (sym whole.1) (number_takes bytes digit))
before_exponent bytes len digit (inr part) = inr (subst (λ n. IsDecimal (take n bytes)) (sym part.1) (decimal_takes bytes digit part.0))

number_has_form : (bytes : List ℕ) (found : PieceOrFault) → is_ascii_digit (first bytes) ≡ true → NumberCase bytes found → Takes bytes found
number_has_form bytes found digit (case.refused wrong) = tt
number_has_form bytes found digit (case.number plain small none) = number_takes bytes digit
number_has_form bytes found digit (case.decimal some none) = decimal_takes bytes digit some
number_has_form bytes found digit (case.exponent len is some) = exponent_takes len bytes (before_exponent bytes len digit is) some
number_has_form bytes found digit (case.sized form none small quote is holds) =
    inr (sized_takes (number_run bytes) bytes form (number_takes bytes digit) (eqb-true (first (drop (quote_offset (number_run bytes) bytes) bytes)) 39 quote) is)

has_form : (bytes : List ℕ) (found : PieceOrFault) → Case bytes found → Takes bytes found
has_form bytes found (case.wrong other) = tt
has_form bytes found (case.blanks blank) = tt
has_form bytes found (case.line_comment is) = tt
has_form bytes found (case.comment len begins is) = tt
has_form bytes found (case.attribute len begins is) = tt
has_form bytes found (case.word letter reserved) = (word_takes bytes letter, reserved)
has_form bytes found (case.name letter other) = inl (word_takes bytes letter, not_from_false (is_reserved (take (name_run bytes) bytes)) other)
has_form bytes found (case.escaped is some) = inr (escaped_takes bytes is some)
has_form bytes found (case.directive is letter) = directive_takes bytes is letter
has_form bytes found (case.text len is end) = text_takes bytes len is end
has_form bytes found (case.digits other digit of_number) = number_has_form bytes other digit of_number
has_form bytes found (case.unsized form quote is holds) =
    let len : form.len ≡ 0 + form.len = omega arith in
    inl (subst (λ n. IsUnsized (take n bytes)) len (unsized_takes bytes form quote is))
has_form bytes found (case.mark visible other) = mark_takes bytes visible other
has_form bytes found (case.symbol is) = symbol_takes bytes is
has_form bytes found (case.table_end is) = table_end_takes bytes is

pub piece_takes : (table : Bool) (bytes : List ℕ) → Takes bytes (piece_at table bytes)
piece_takes table bytes = has_form bytes (piece_at table bytes) (piece_case table bytes)
