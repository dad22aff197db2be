-- What stands at the front of a text, case by case: one principle from which the laws of what is found follow.
use Rattle.std.proofs.Common.{◌≡◌, ℕ, ◌+◌, ◌<◌, Bool, true, false, not, ◌&&◌, eqb, nat_lt, List, take, drop, if◌then◌else◌, ◌⊎◌, refl, ap, ◌∙◌, arith, inl, inr}
use Rattle.std.proofs.lemmas.Bool.{and_parts, not-false, eqb-true, ltb-true, ltb-false}
use Rattle.std.specs.Prelude.{Option, Some, None, Ok, Err}
use Rattle.std.specs.Char.{is_ascii_digit}
use Rattle.v_lexer.specs.declared.token.TokenKind.{TokenKind}
use Rattle.v_lexer.specs.declared.token.TokenKind.TheVariants as kind
use Rattle.v_lexer.specs.declared.fault.FaultKind.{FaultKind}
use Rattle.v_lexer.specs.declared.fault.FaultKind.TheVariants as fault
use Rattle.v_lexer.specs.Bytes.{first, begins, is_letter, is_blank, is_visible, name_run, number_run, blank_run, visible_run, line_run}
use Rattle.v_lexer.specs.Quoted.{text_len}
use Rattle.v_lexer.specs.Gaps.{comment_len, attribute_len}
use Rattle.v_lexer.specs.Numbers.{decimal_value, decimal_len, exponent_len}
use Rattle.v_lexer.specs.Literals.{Form, form_at, holds}
use Rattle.v_lexer.specs.Words.{is_reserved}
use Rattle.v_lexer.specs.Pieces.{PieceOrFault, token, gap, piece_to_end, mark_at, slash_at, open_at, quote_at, escaped_at, directive_at, name_at, literal_with, literal_at, exponent_at, quote_offset, whole_at, number_at, plain_at, is_symbol, is_table_end, row_at, piece_at}
use Rattle.v_lexer.specs.Forms.{begins_other}

-- a `'` comes behind a number, with blanks between or none
abbrev pub has_quote : List ℕ → Bool
has_quote bytes = eqb (first (drop (quote_offset (number_run bytes) bytes) bytes)) 39

-- a number that is neither the whole of a decimal nor the size of a based number
abbrev pub IsPlain : List ℕ → Type 0
IsPlain bytes = (decimal_len bytes ≡ 0) × (has_quote bytes ≡ false)

-- how many bytes a number or a decimal has: what may come before an exponent
abbrev pub IsNumberLen : List ℕ → ℕ → Type 0
IsNumberLen bytes len = (IsPlain bytes × (len ≡ number_run bytes)) ⊎ ((0 < decimal_len bytes) × (len ≡ decimal_len bytes))

-- what begins with a digit
pub data NumberCase (bytes : List ℕ) : PieceOrFault → Type 0 where
  refused : (wrong : FaultKind) → NumberCase bytes (Err wrong)
  number : IsPlain bytes → decimal_value (take (number_run bytes) bytes) < 2147483648 → exponent_len (drop (number_run bytes) bytes) ≡ 0 → NumberCase bytes (token kind.Number (number_run bytes))
  decimal : 0 < decimal_len bytes → exponent_len (drop (decimal_len bytes) bytes) ≡ 0 → NumberCase bytes (token kind.Decimal (decimal_len bytes))
  exponent : (len : ℕ) → IsNumberLen bytes len → 0 < exponent_len (drop len bytes) → NumberCase bytes (token kind.Exponent (len + exponent_len (drop len bytes)))
  sized : (form : Form) → decimal_len bytes ≡ 0 → nat_lt (decimal_value (take (number_run bytes) bytes)) 2147483648 ≡ true → has_quote bytes ≡ true
      → form_at (drop (quote_offset (number_run bytes) bytes) bytes) ≡ Some form → holds (Some (decimal_value (take (number_run bytes) bytes))) form ≡ true
      → NumberCase bytes (token kind.Based (quote_offset (number_run bytes) bytes + form.len))

-- what stands at the front of a text
pub data Case (bytes : List ℕ) : PieceOrFault → Type 0 where
  wrong : (found : FaultKind) → Case bytes (Err found)
  blanks : is_blank (first bytes) ≡ true → Case bytes (gap (blank_run bytes))
  line_comment : first bytes ≡ 47 → Case bytes (gap (line_run bytes))
  comment : (len : ℕ) → begins 47 42 bytes ≡ true → comment_len bytes ≡ Some len → Case bytes (gap len)
  attribute : (len : ℕ) → begins 40 42 bytes ≡ true → attribute_len bytes ≡ Some len → Case bytes (gap len)
  word : is_letter (first bytes) ≡ true → is_reserved (take (name_run bytes) bytes) ≡ true → Case bytes (token kind.Word (name_run bytes))
  name : is_letter (first bytes) ≡ true → is_reserved (take (name_run bytes) bytes) ≡ false → Case bytes (token kind.Name (name_run bytes))
  escaped : first bytes ≡ 92 → 0 < visible_run (drop 1 bytes) → Case bytes (token kind.Name (1 + visible_run (drop 1 bytes)))
  directive : first bytes ≡ 96 → is_letter (first (drop 1 bytes)) ≡ true → Case bytes (token kind.Directive (1 + name_run (drop 1 bytes)))
  text : (len : ℕ) → first bytes ≡ 34 → text_len bytes ≡ Some len → Case bytes (token kind.Text len)
  digits : (found : PieceOrFault) → is_ascii_digit (first bytes) ≡ true → NumberCase bytes found → Case bytes found
  unsized : (form : Form) → first bytes ≡ 39 → form_at bytes ≡ Some form → holds None form ≡ true → Case bytes (token kind.Based (0 + form.len))
  mark : is_visible (first bytes) ≡ true → not (begins_other (first bytes)) ≡ true → Case bytes (token kind.Mark 1)
  symbol : is_symbol (first bytes) ≡ true → Case bytes (token kind.Symbol 1)
  table_end : is_table_end bytes ≡ true → Case bytes (token kind.Word 8)

pub either : (P : PieceOrFault → Type 0) (b : Bool) (x y : PieceOrFault) → (b ≡ true → P x) → (b ≡ false → P y) → P (if b then x else y)
either P true x y f g = f refl
either P false x y f g = g refl

to_end_case : (bytes : List ℕ) (shape : Option TokenKind) (other : FaultKind) (len : Option ℕ) → ((n : ℕ) → len ≡ Some n → Case bytes (Ok (record { kind = shape; len = n }))) → Case bytes (piece_to_end shape other len)
to_end_case bytes shape other None is = wrong other
to_end_case bytes shape other (Some n) is = is n refl

mark_case : (bytes : List ℕ) → not (begins_other (first bytes)) ≡ true → Case bytes (mark_at bytes)
unfolding mark_at
mark_case bytes other = either (Case bytes) (is_visible (first bytes)) (token kind.Mark 1) (Err fault.BadByte) (λ visible. mark visible other) (λ _. wrong fault.BadByte)

-- at one byte
mark_is : (byte : ℕ) (bytes : List ℕ) → first bytes ≡ byte → is_visible byte ≡ true → not (begins_other byte) ≡ true → Case bytes (token kind.Mark 1)
mark_is byte bytes is visible other = mark (ap is_visible is ∙ visible) (ap (λ b. not (begins_other b)) is ∙ other)

slash_case : (other : PieceOrFault) (bytes : List ℕ) → first bytes ≡ 47 → Case bytes other → Case bytes (slash_at other bytes)
unfolding slash_at
slash_case other bytes is case =
    let block : PieceOrFault = piece_to_end None fault.OpenComment (comment_len bytes) in
    either (Case bytes) (begins 47 47 bytes) (gap (line_run bytes)) (if begins 47 42 bytes then block else other) (λ _. line_comment is) (λ _.
    either (Case bytes) (begins 47 42 bytes) block other (λ b. to_end_case bytes None fault.OpenComment (comment_len bytes) (λ n e. comment n b e)) (λ _. case))

open_case : (bytes : List ℕ) → first bytes ≡ 40 → Case bytes (open_at bytes)
unfolding open_at
open_case bytes is =
    let other : Bool = not (eqb (first (drop 2 bytes)) 41) in
    either (Case bytes) (begins 40 42 bytes && other) (piece_to_end None fault.OpenComment (attribute_len bytes)) (token kind.Mark 1)
    (λ b. to_end_case bytes None fault.OpenComment (attribute_len bytes) (λ n e. attribute n (and_parts (begins 40 42 bytes) other b).0 e)) (λ _. mark_is 40 bytes is refl refl)

name_case : (bytes : List ℕ) → is_letter (first bytes) ≡ true → Case bytes (name_at bytes)
unfolding name_at
name_case bytes letter = by (is_reserved (take (name_run bytes) bytes)) refl
  where
    by : (b : Bool) → is_reserved (take (name_run bytes) bytes) ≡ b → Case bytes (token (if b then kind.Word else kind.Name) (name_run bytes))
    by true e = word letter e
    by false e = name letter e

escaped_case : (bytes : List ℕ) → first bytes ≡ 92 → Case bytes (escaped_at bytes)
unfolding escaped_at
escaped_case bytes is =
    let run : ℕ = visible_run (drop 1 bytes) in
    either (Case bytes) (nat_lt 0 run) (token kind.Name (1 + run)) (Err fault.BadByte) (λ some. escaped is (ltb-true 0 run some)) (λ _. wrong fault.BadByte)

directive_case : (bytes : List ℕ) → first bytes ≡ 96 → Case bytes (directive_at bytes)
unfolding directive_at
directive_case bytes is =
    either (Case bytes) (is_letter (first (drop 1 bytes))) (token kind.Directive (1 + name_run (drop 1 bytes))) (Err fault.BadByte) (directive is) (λ _. wrong fault.BadByte)

quote_case : (bytes : List ℕ) → first bytes ≡ 34 → Case bytes (quote_at bytes)
unfolding quote_at
quote_case bytes is = to_end_case bytes (Some kind.Text) fault.OpenString (text_len bytes) (λ n e. text n is e)

-- a based number, with whatever holds of it where it has no fault
pub literal_case : (P : PieceOrFault → Type 0) (size : Option ℕ) (offset : ℕ) (form : Option Form) → P (Err fault.BadNumber)
    → ((f : Form) → form ≡ Some f → holds size f ≡ true → P (token kind.Based (offset + f.len))) → P (literal_with size offset form)
unfolding literal_with
literal_case P size offset None bad good = bad
literal_case P size offset (Some form) bad good = either P (holds size form) (token kind.Based (offset + form.len)) (Err fault.BadNumber) (good form refl) (λ _. bad)

exponent_case : (bytes : List ℕ) (shape : TokenKind) (len : ℕ) → IsNumberLen bytes len → (exponent_len (drop len bytes) ≡ 0 → NumberCase bytes (token shape len)) → NumberCase bytes (exponent_at shape len bytes)
unfolding exponent_at
exponent_case bytes shape len is none =
    let more : ℕ = exponent_len (drop len bytes) in
    either (NumberCase bytes) (nat_lt 0 more) (token kind.Exponent (len + more)) (token shape len) (λ some. exponent len is (ltb-true 0 more some)) (λ e. none (omega (arith, ltb-false 0 more e)))

whole_case : (bytes : List ℕ) → decimal_len bytes ≡ 0 → NumberCase bytes (whole_at (number_run bytes) bytes)
unfolding whole_at
whole_case bytes none =
    let n : ℕ = number_run bytes in
    let value : ℕ = decimal_value (take n bytes) in
    let offset : ℕ = quote_offset n bytes in
    let based : PieceOrFault = literal_at (Some value) offset bytes in
    let other : PieceOrFault = exponent_at kind.Number n bytes in
    either (NumberCase bytes) (not (nat_lt value 2147483648)) (Err fault.BadNumber) (if has_quote bytes then based else other) (λ _. refused fault.BadNumber) (λ not_large.
    let small : nat_lt value 2147483648 ≡ true = not-false (nat_lt value 2147483648) not_large in
    either (NumberCase bytes) (has_quote bytes) based other
    (λ quote. literal_case (NumberCase bytes) (Some value) offset (form_at (drop offset bytes)) (refused fault.BadNumber) (λ form is holds. sized form none small quote is holds))
    (λ no_quote. exponent_case bytes kind.Number n (inl ((none, no_quote), refl)) (number (none, no_quote) (ltb-true value 2147483648 small))))

pub number_case : (bytes : List ℕ) → NumberCase bytes (number_at bytes)
unfolding number_at
number_case bytes =
    let len : ℕ = decimal_len bytes in
    either (NumberCase bytes) (nat_lt 0 len) (exponent_at kind.Decimal len bytes) (whole_at (number_run bytes) bytes)
    (λ some. exponent_case bytes kind.Decimal len (inr (ltb-true 0 len some, refl)) (decimal (ltb-true 0 len some)))
    (λ none. whole_case bytes (omega (arith, ltb-false 0 len none)))

plain_case : (bytes : List ℕ) → Case bytes (plain_at bytes)
unfolding plain_at
plain_case bytes =
    let byte : ℕ = first bytes in
    let P : PieceOrFault → Type 0 = Case bytes in
    let literal : PieceOrFault = if eqb byte 39 then literal_at None 0 bytes else mark_at bytes in
    let directives : PieceOrFault = if eqb byte 96 then directive_at bytes else literal in
    let names : PieceOrFault = if eqb byte 92 then escaped_at bytes else directives in
    let quote : PieceOrFault = if eqb byte 34 then quote_at bytes else names in
    let opening : PieceOrFault = if eqb byte 40 then open_at bytes else quote in
    let slash : PieceOrFault = if eqb byte 47 then slash_at (token kind.Mark 1) bytes else opening in
    let numbers : PieceOrFault = if is_ascii_digit byte then number_at bytes else slash in
    let words : PieceOrFault = if is_letter byte then name_at bytes else numbers in
    either P (is_blank byte) (gap (blank_run bytes)) words blanks (λ _.
    either P (is_letter byte) (name_at bytes) numbers (name_case bytes) (λ no_letter.
    either P (is_ascii_digit byte) (number_at bytes) slash (λ digit. digits (number_at bytes) digit (number_case bytes)) (λ no_digit.
    either P (eqb byte 47) (slash_at (token kind.Mark 1) bytes) opening
    (λ e. let is : first bytes ≡ 47 = eqb-true byte 47 e in slash_case (token kind.Mark 1) bytes is (mark_is 47 bytes is refl refl)) (λ _.
    either P (eqb byte 40) (open_at bytes) quote (λ e. open_case bytes (eqb-true byte 40 e)) (λ _.
    either P (eqb byte 34) (quote_at bytes) names (λ e. quote_case bytes (eqb-true byte 34 e)) (λ no_quote.
    either P (eqb byte 92) (escaped_at bytes) directives (λ e. escaped_case bytes (eqb-true byte 92 e)) (λ no_backslash.
    either P (eqb byte 96) (directive_at bytes) literal (λ e. directive_case bytes (eqb-true byte 96 e)) (λ no_backquote.
    either P (eqb byte 39) (literal_at None 0 bytes) (mark_at bytes)
    (λ e. literal_case P None 0 (form_at bytes) (wrong fault.BadNumber) (λ form is holds. unsized form (eqb-true byte 39 e) is holds)) (λ no_tick.
    mark_case bytes (none_of byte no_letter no_digit no_quote no_backslash no_backquote no_tick))))))))))
  where
    none_of : (b : ℕ) → is_letter b ≡ false → is_ascii_digit b ≡ false → eqb b 34 ≡ false → eqb b 92 ≡ false → eqb b 96 ≡ false → eqb b 39 ≡ false → not (begins_other b) ≡ true
    none_of b letter digit quote backslash backquote tick = rw (letter, digit, quote, backslash, backquote, tick) refl

row_case : (bytes : List ℕ) → Case bytes (row_at bytes)
unfolding row_at
row_case bytes =
    let byte : ℕ = first bytes in
    let P : PieceOrFault → Type 0 = Case bytes in
    let bad : PieceOrFault = Err fault.BadByte in
    let last : PieceOrFault = if is_table_end bytes then token kind.Word 8 else bad in
    let slash : PieceOrFault = if eqb byte 47 then slash_at bad bytes else last in
    let symbols : PieceOrFault = if is_symbol byte then token kind.Symbol 1 else slash in
    either P (is_blank byte) (gap (blank_run bytes)) symbols blanks (λ _.
    either P (is_symbol byte) (token kind.Symbol 1) slash symbol (λ _.
    either P (eqb byte 47) (slash_at bad bytes) last (λ e. slash_case bad bytes (eqb-true byte 47 e) (wrong fault.BadByte)) (λ _.
    either P (is_table_end bytes) (token kind.Word 8) bad table_end (λ _. wrong fault.BadByte))))

-- whatever is found at an offset is one of the cases
pub piece_case : (table : Bool) (bytes : List ℕ) → Case bytes (piece_at table bytes)
unfolding piece_at
piece_case true bytes = row_case bytes
piece_case false bytes = plain_case bytes
