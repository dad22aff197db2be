-- What is found at an offset has a byte or more, and lies in the text.
use Rattle.std.proofs.Common.{◌≡◌, ℕ, zero, suc, ◌+◌, ◌-◌, ◌≤◌, ◌<◌, Bool, true, false, not, ◌&&◌, ◌||◌, eqb, nat_lt, List, [], ◌∷◌, length, take, drop, if◌then◌else◌, inl, inr, refl, sym, ap, subst, ◌∙◌, arith, length-drop}
use Rattle.std.proofs.lemmas.Bool.{and_parts, eqb-true, ltb-true}
use Rattle.std.proofs.lemmas.List.{length-take}
use Rattle.std.proofs.lemmas.List.Sums.{prefix_len-le-length}
use Rattle.std.proofs.lemmas.Slice.Eq.{bytes_eq-Decides}
use Rattle.std.specs.Prelude.{Option, Some, None, Ok, Err, codes}
use Rattle.std.specs.List.{prefix_len}
use Rattle.std.specs.Char.{is_ascii_digit}
use Rattle.name_table.specs.Names.{same_name}
use Rattle.v_lexer.specs.declared.token.Piece.{Piece}
use Rattle.v_lexer.specs.Bytes.{first, begins, plus, is_name_byte, is_number_byte, is_literal_byte, is_blank, is_visible, number_run, digit_run, literal_run, blank_run, line_run}
use Rattle.v_lexer.specs.Quoted.{quote_end}
use Rattle.v_lexer.specs.Gaps.{comment_end, quoted_after, attribute_end}
use Rattle.v_lexer.specs.Numbers.{decimal_len, exponent_head, exponent_len}
use Rattle.v_lexer.specs.Literals.{Form, base_of, signed_len, form_after, form_at, holds}
use Rattle.v_lexer.specs.Pieces.{PieceOrFault, quote_offset, is_table_end, piece_at}
use Rattle.v_lexer.proofs.Fronts.{name_run_some, number_run_some, blank_run_some}
use Rattle.v_lexer.proofs.Cases.{Case, NumberCase, IsNumberLen, piece_case}
use Rattle.v_lexer.proofs.Cases as case
use Rattle.v_lexer.proofs.Cuts.{form_at-formed, formed, form_with-some, and_then-some}

-- what is found has one byte or more, and so many at most
abbrev Within : ℕ → PieceOrFault → Type 0
Within n (Ok piece) = (0 < piece.len) × (piece.len ≤ n)
Within n (Err wrong) = Unit {0}

-- a length is one or more, and so much at most
abbrev Fits : ℕ → Option ℕ → Type 0
Fits n None = Unit {0}
Fits n (Some m) = (0 < m) × (m ≤ n)

either_fits : (n : ℕ) (b : Bool) (x y : Option ℕ) → (b ≡ true → Fits n x) → (b ≡ false → Fits n y) → Fits n (if b then x else y)
either_fits n true x y f g = f refl
either_fits n false x y f g = g refl

plus_fits : (k n m : ℕ) (len : Option ℕ) → k + m ≤ n → Fits m len → Fits n (plus k len)
plus_fits k n m None le fits = tt
plus_fits k n m (Some l) le fits = (omega (arith, fits.0), omega (arith, fits.1, le))

fits_some : (n m : ℕ) (len : Option ℕ) → len ≡ Some m → Fits n len → (0 < m) × (m ≤ n)
fits_some n m len is fits = subst (λ (l : Option ℕ). Fits n l) is fits

-- a byte that isn't 0 stands in the text
reaches : (k : ℕ) (bytes : List ℕ) → 0 < first (drop k bytes) → k < length bytes
reaches k bytes some = by (drop k bytes) (length-drop k bytes) some
  where
    by : (rest : List ℕ) → length rest ≡ length bytes - k → 0 < first rest → k < length bytes
    by [] left some = absurd (omega (arith, some))
    by (byte ∷ rest) left some = omega (arith, left)

begins_long : (a b : ℕ) (bytes : List ℕ) → 0 < b → begins a b bytes ≡ true → 2 ≤ length bytes
begins_long a b bytes some is =
    let same : first (drop 1 bytes) ≡ b = eqb-true (first (drop 1 bytes)) b (and_parts (eqb (first bytes) a) (eqb (first (drop 1 bytes)) b) is).1 in
    omega (arith, reaches 1 bytes (omega (arith, same, some)))

-- a run behind bytes of the text, where it isn't empty
run_within : (p : ℕ → Bool) (k : ℕ) (bytes : List ℕ) → 0 < prefix_len p (drop k bytes) → k + prefix_len p (drop k bytes) ≤ length bytes
run_within p k bytes some = omega (arith, prefix_len-le-length p (drop k bytes), length-drop k bytes, some)

quote_fits : (before : ℕ) (bytes : List ℕ) → Fits (length bytes) (quote_end before bytes)
unfolding quote_end
quote_fits before [] = tt
quote_fits before (byte ∷ bytes) =
    let n : ℕ = length (byte ∷ bytes) in
    let le : 1 + length bytes ≤ n = omega arith in
    let more : Option ℕ = plus 1 (quote_end byte bytes) in
    either_fits n (eqb byte 10) None (if eqb byte 34 && not (eqb before 92) then Some 1 else more) (λ _. tt) (λ _.
    either_fits n (eqb byte 34 && not (eqb before 92)) (Some 1) more (λ _. (omega arith, omega arith)) (λ _.
    plus_fits 1 n (length bytes) (quote_end byte bytes) le (quote_fits byte bytes)))

comment_fits : (bytes : List ℕ) → Fits (length bytes) (comment_end bytes)
unfolding comment_end
comment_fits [] = tt
comment_fits (byte ∷ bytes) =
    let n : ℕ = length (byte ∷ bytes) in
    let le : 1 + length bytes ≤ n = omega arith in
    either_fits n (begins 42 47 (byte ∷ bytes)) (Some 2) (plus 1 (comment_end bytes)) (λ e. (omega arith, begins_long 42 47 (byte ∷ bytes) (omega arith) e)) (λ _.
    plus_fits 1 n (length bytes) (comment_end bytes) le (comment_fits bytes))

attribute_fits : (inside : ℕ) (bytes : List ℕ) → Fits (length bytes) (attribute_end inside bytes)
unfolding attribute_end
attribute_fits inside [] = tt
attribute_fits (suc inside) (byte ∷ bytes) = plus_fits 1 (length (byte ∷ bytes)) (length bytes) (attribute_end inside bytes) (omega arith) (attribute_fits inside bytes)
attribute_fits zero (byte ∷ bytes) =
    let n : ℕ = length (byte ∷ bytes) in
    let le : 1 + length bytes ≤ n = omega arith in
    let q : ℕ = quoted_after (byte ∷ bytes) in
    either_fits n (begins 42 41 (byte ∷ bytes)) (Some 2) (plus 1 (attribute_end q bytes)) (λ e. (omega arith, begins_long 42 41 (byte ∷ bytes) (omega arith) e)) (λ _.
    plus_fits 1 n (length bytes) (attribute_end q bytes) le (attribute_fits q bytes))

-- a run at the front is as long as the text at most
front_within : (p : ℕ → Bool) (bytes : List ℕ) → 0 < prefix_len p bytes → (0 < prefix_len p bytes) × (prefix_len p bytes ≤ length bytes)
front_within p bytes some = (some, prefix_len-le-length p bytes)

-- a comment that a line ends has one byte or more
line_some : (bytes : List ℕ) → first bytes ≡ 47 → 0 < line_run bytes
line_some [] is = absurd (omega (arith, is))
line_some (byte ∷ bytes) is = rw is (omega arith)

-- what has an end behind its first bytes
behind_within : (k : ℕ) (bytes : List ℕ) (end : Option ℕ) (len : ℕ) → k ≤ length bytes → Fits (length (drop k bytes)) end → plus k end ≡ Some len → (0 < len) × (len ≤ length bytes)
behind_within k bytes end len long fits is =
    let le : k + length (drop k bytes) ≤ length bytes = omega (arith, long, length-drop k bytes) in
    fits_some (length bytes) len (plus k end) is (plus_fits k (length bytes) (length (drop k bytes)) end le fits)

-- ---- numbers

-- a length that is 0 or that of a run with bytes before it
parts_le : (n before run : ℕ) (begins : Bool) → (0 < run → before + run ≤ n) → (if begins && nat_lt 0 run then before + run else 0) ≤ n
parts_le n before run begins le = by (begins && nat_lt 0 run) refl
  where
    by : (b : Bool) → (begins && nat_lt 0 run) ≡ b → (if b then before + run else 0) ≤ n
    by true e = le (ltb-true 0 run (and_parts begins (nat_lt 0 run) e).1)
    by false e = omega arith

decimal_le : (bytes : List ℕ) → decimal_len bytes ≤ length bytes
unfolding decimal_len
decimal_le bytes =
    let d : ℕ = digit_run bytes in
    parts_le (length bytes) (d + 1) (digit_run (drop (d + 1) bytes)) (eqb (first (drop d bytes)) 46) (run_within is_ascii_digit (d + 1) bytes)

exponent_le : (bytes : List ℕ) → exponent_len bytes ≤ length bytes
unfolding exponent_len
exponent_le bytes =
    let head : ℕ = exponent_head bytes in
    parts_le (length bytes) head (digit_run (drop head bytes)) (eqb (first bytes) 101 || eqb (first bytes) 69) (run_within is_ascii_digit head bytes)

form_fits : (bytes : List ℕ) (form : Form) → form_at bytes ≡ Some form → (0 < form.len) × (form.len ≤ length bytes)
unfolding formed
form_fits bytes form is =
    let s : ℕ = signed_len (drop 1 bytes) in
    let parts = and_then-some (base_of (first (drop (1 + s) bytes))) (form_after (eqb s 1) (1 + s) bytes) form (sym (form_at-formed bytes) ∙ is) in
    let start : ℕ = 1 + s + 1 + blank_run (drop (1 + s + 1) bytes) in
    let long : (0 < literal_run (drop start bytes)) × (form.len ≡ start + literal_run (drop start bytes)) = form_with-some (eqb s 1) parts.0 start bytes form parts.2 in
    (omega (arith, long.0, long.1), omega (arith, long.1, run_within is_literal_byte start bytes long.0))

table_end_long : (bytes : List ℕ) → is_table_end bytes ≡ true → 8 ≤ length bytes
unfolding is_table_end
table_end_long bytes is =
    let same : same_name (take 8 bytes) (codes "endtable") ≡ true = (and_parts (same_name (take 8 bytes) (codes "endtable")) (not (is_name_byte (first (drop 8 bytes)))) is).0 in
    let eight : length (take 8 bytes) ≡ 8 = ap length ((bytes_eq-Decides (take 8 bytes) (codes "endtable")).0 same) in
    omega (arith, eight, length-take 8 bytes)

-- one byte or more of a text that isn't empty
one_within : (bytes : List ℕ) → 0 < length bytes → (0 < 1) × (1 ≤ length bytes)
one_within bytes some = (omega arith, omega (arith, some))

based_within : (offset : ℕ) (bytes : List ℕ) (form : Form) → form_at (drop offset bytes) ≡ Some form → (0 < offset + form.len) × (offset + form.len ≤ length bytes)
based_within offset bytes form is =
    let fits : (0 < form.len) × (form.len ≤ length (drop offset bytes)) = form_fits (drop offset bytes) form is in
    (omega (arith, fits.0), omega (arith, fits.0, fits.1, length-drop offset bytes))

number_le : (bytes : List ℕ) (len : ℕ) → IsNumberLen bytes len → len ≤ length bytes
number_le bytes len (inl whole) = omega (arith, whole.1, prefix_len-le-length is_number_byte bytes)
number_le bytes len (inr part) = omega (arith, part.1, decimal_le bytes)

number_within : (bytes : List ℕ) (found : PieceOrFault) → is_ascii_digit (first bytes) ≡ true → NumberCase bytes found → Within (length bytes) found
number_within bytes found digit (case.refused wrong) = tt
number_within bytes found digit (case.number plain small none) = front_within is_number_byte bytes (number_run_some bytes digit)
number_within bytes found digit (case.decimal some none) = (some, decimal_le bytes)
number_within bytes found digit (case.exponent len is some) =
    (omega (arith, some), omega (arith, number_le bytes len is, exponent_le (drop len bytes), length-drop len bytes))
number_within bytes found digit (case.sized form none small quote is holds) = based_within (quote_offset (number_run bytes) bytes) bytes form is

found_within : (bytes : List ℕ) (found : PieceOrFault) → 0 < length bytes → Case bytes found → Within (length bytes) found
found_within bytes found some (case.wrong other) = tt
found_within bytes found some (case.blanks blank) = front_within is_blank bytes (blank_run_some bytes blank)
found_within bytes found some (case.line_comment is) = front_within _ bytes (line_some bytes is)
found_within bytes found some (case.comment len begins is) =
    behind_within 2 bytes (comment_end (drop 2 bytes)) len (begins_long 47 42 bytes (omega arith) begins) (comment_fits (drop 2 bytes)) is
found_within bytes found some (case.attribute len begins is) =
    behind_within 2 bytes (attribute_end 0 (drop 2 bytes)) len (begins_long 40 42 bytes (omega arith) begins) (attribute_fits 0 (drop 2 bytes)) is
found_within bytes found some (case.word letter reserved) = front_within is_name_byte bytes (name_run_some bytes letter)
found_within bytes found some (case.name letter other) = front_within is_name_byte bytes (name_run_some bytes letter)
found_within bytes found some (case.escaped is visible) = (omega arith, run_within is_visible 1 bytes visible)
found_within bytes found some (case.directive is letter) = (omega arith, run_within is_name_byte 1 bytes (name_run_some (drop 1 bytes) letter))
found_within bytes found some (case.text len is end) =
    behind_within 1 bytes (quote_end 34 (drop 1 bytes)) len some (quote_fits 34 (drop 1 bytes)) end
found_within bytes found some (case.digits other digit of_number) = number_within bytes other digit of_number
found_within bytes found some (case.unsized form quote is holds) = based_within 0 bytes form is
found_within bytes found some (case.mark visible other) = one_within bytes some
found_within bytes found some (case.symbol is) = one_within bytes some
found_within bytes found some (case.table_end is) = (omega arith, table_end_long bytes is)

-- what is found lies in the text
pub piece_within : (table : Bool) (bytes : List ℕ) (piece : Piece) → 0 < length bytes → piece_at table bytes ≡ Ok piece → (0 < piece.len) × (piece.len ≤ length bytes)
piece_within table bytes piece some is = subst (λ (found : PieceOrFault). Within (length bytes) found) is (found_within bytes (piece_at table bytes) some (piece_case table bytes))
