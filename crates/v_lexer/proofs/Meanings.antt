-- What is found at an offset has the meaning that its kind says.
use Rattle.std.proofs.Common.{◌≡◌, ℕ, get_or, zero, suc, ◌+◌, ◌-◌, ◌≤◌, ◌<◌, Bool, true, false, not, ◌&&◌, ◌||◌, eqb, leb, List, [], ◌∷◌, length, take, drop, replicate, if◌then◌else◌, refl, sym, ap, subst, ◌∙◌, arith, inl, inr, length-append, length-drop}
use Rattle.std.proofs.lemmas.Bool.{cases_Bool, true≢false, or_cases, and_parts, false_from_ne_true, eqb-true, leb-true, ltb-true, ltb-false}
use Rattle.std.proofs.lemmas.List.{drop-take, length-replicate, get_or-take}
use Rattle.std.proofs.lemmas.List.Folds.{length-prefix_len}
use Rattle.std.proofs.lemmas.List.Sums.{prefix_len_passes}
use Rattle.std.proofs.lemmas.Slice.Eq.{bytes_eq-Decides}
use Rattle.std.specs.Prelude.{Option, Some, None, Ok, Err, codes, nat_lt}
use Rattle.std.specs.List.{prefix_len}
use Rattle.std.specs.Int.{is_in_range}
use Rattle.std.specs.Char.{is_ascii_digit, is_ascii_alphanumeric}
use Rattle.name_table.specs.Names.{same_name}
use Rattle.v_lexer.specs.declared.token.TokenKind.{TokenKind}
use Rattle.v_lexer.specs.declared.token.TokenKind.TheVariants as kind
use Rattle.v_lexer.specs.declared.literals.Base.{Base}
use Rattle.v_lexer.specs.declared.literals.Base.TheVariants.{Binary, Octal, Decimal, Hexadecimal}
use Rattle.v_lexer.specs.declared.literals.Bit.{Bit}
use Rattle.v_lexer.specs.declared.values.Literal.{Literal}
use Rattle.v_lexer.specs.Bytes.{first, begins, is_letter, is_name_byte, is_number_byte, is_blank, is_visible, name_run, number_run, blank_run, visible_run}
use Rattle.v_lexer.specs.Numbers.{decimal_value}
use Rattle.v_lexer.specs.Literals.{extension_of, Form, form_at, holds, size_holds, digits_hold, value_holds, filler, fit, binary, bits_of, bits_in, is_single, bit_at}
use Rattle.v_lexer.specs.Words.{is_reserved, reserved_words, grammar_words, words_of}
use Rattle.v_lexer.specs.Pieces.{PieceOrFault, quote_offset, is_symbol, is_table_end, piece_at}
use Rattle.v_lexer.specs.Values.{name_text, width_of, meaning, literal_of}
use Rattle.v_lexer.specs.Sound.{IsVisible, HasBits}
use Rattle.v_lexer.proofs.Digits.{holds_within}
use Rattle.v_lexer.proofs.Fronts.{name_run_some, number_run_some}
use Rattle.v_lexer.proofs.Cases.{Case, NumberCase, piece_case}
use Rattle.v_lexer.proofs.Cases as case
use Rattle.v_lexer.proofs.Cuts.{run_cut, first_cut, take_cut, form_cut}

-- what a kind says of the bytes of a token, which are as many as the length
abbrev pub HasMeaning : Option TokenKind → ℕ → List ℕ → Type 0
HasMeaning None len bytes = Unit {0}
HasMeaning (Some kind.Name) len bytes = IsVisible (name_text bytes)
HasMeaning (Some kind.Word) len bytes = is_reserved bytes ≡ true
HasMeaning (Some kind.Number) len bytes = decimal_value bytes < 2147483648
HasMeaning (Some kind.Based) len bytes = HasBits bytes
HasMeaning (Some kind.Symbol) len bytes = (len ≡ 1) × (is_symbol (first bytes) ≡ true)
HasMeaning (Some kind.Mark) len bytes = (len ≡ 1) × (is_visible (first bytes) ≡ true)
HasMeaning (Some kind.End) len bytes = ⊥
HasMeaning (Some other) len bytes = Unit {0}

-- what is found has its meaning
abbrev pub Says : List ℕ → PieceOrFault → Type 0
Says bytes (Ok piece) = HasMeaning piece.kind piece.len (take piece.len bytes)
Says bytes (Err wrong) = Unit {0}

-- a run of visible bytes
run_visible : (p : ℕ → Bool) (bytes : List ℕ) → ((byte : ℕ) → p byte ≡ true → (33 ≤ byte) × (byte ≤ 126)) → 0 < prefix_len p bytes → IsVisible (take (prefix_len p bytes) bytes)
run_visible p bytes visible some = record {
  some = omega (arith, length-prefix_len p bytes);
  visible = λ k d less.
      let within : k < prefix_len p bytes = omega (arith, length-prefix_len p bytes) in
      let P : ℕ → Type 0 = λ byte. (33 ≤ byte) × (byte ≤ 126) in
      subst P (sym (get_or-take (prefix_len p bytes) bytes k d within)) (visible (get_or bytes k d) (prefix_len_passes p bytes k d within));
}

visible_bytes : (byte : ℕ) → is_visible byte ≡ true → (33 ≤ byte) × (byte ≤ 126)
visible_bytes byte is =
    let parts : (nat_lt 32 byte ≡ true) × (nat_lt byte 127 ≡ true) = and_parts (nat_lt 32 byte) (nat_lt byte 127) is in
    (omega (arith, ltb-true 32 byte parts.0), omega (arith, ltb-true byte 127 parts.1))

range_bytes : (low high byte : ℕ) → 33 ≤ low → high ≤ 126 → is_in_range low high byte ≡ true → (33 ≤ byte) × (byte ≤ 126)
range_bytes low high byte more less is =
    let parts : (leb low byte ≡ true) × (leb byte high ≡ true) = and_parts (leb low byte) (leb byte high) is in
    (omega (arith, leb-true low byte parts.0, more), omega (arith, leb-true byte high parts.1, less))

equal_bytes : (byte n : ℕ) → 33 ≤ n → n ≤ 126 → eqb byte n ≡ true → (33 ≤ byte) × (byte ≤ 126)
equal_bytes byte n more less is = (omega (arith, eqb-true byte n is, more), omega (arith, eqb-true byte n is, less))

name_bytes : (byte : ℕ) → is_name_byte byte ≡ true → (33 ≤ byte) × (byte ≤ 126)
name_bytes byte is =
    elim (or_cases (is_ascii_alphanumeric byte || eqb byte 95) (eqb byte 36) is) [
      | inr dollar ↦ equal_bytes byte 36 (omega arith) (omega arith) dollar
      | inl rest ↦ elim (or_cases (is_ascii_alphanumeric byte) (eqb byte 95) rest) [
        | inr line ↦ equal_bytes byte 95 (omega arith) (omega arith) line
        | inl letters ↦ elim (or_cases (is_in_range 48 57 byte || is_in_range 65 90 byte) (is_in_range 97 122 byte) letters) [
          | inr small ↦ range_bytes 97 122 byte (omega arith) (omega arith) small
          | inl others ↦ elim (or_cases (is_in_range 48 57 byte) (is_in_range 65 90 byte) others) [
            | inl digit ↦ range_bytes 48 57 byte (omega arith) (omega arith) digit
            | inr capital ↦ range_bytes 65 90 byte (omega arith) (omega arith) capital
          ]
        ]
      ]
    ]

plain_text : (bytes : List ℕ) → eqb (first bytes) 92 ≡ false → name_text bytes ≡ bytes
plain_text bytes other = rw other refl

escaped_text : (bytes : List ℕ) → first bytes ≡ 92 → name_text bytes ≡ drop 1 bytes
escaped_text bytes is = rw is refl

escaped_says : (bytes : List ℕ) → first bytes ≡ 92 → 0 < visible_run (drop 1 bytes) → IsVisible (name_text (take (1 + visible_run (drop 1 bytes)) bytes))
escaped_says bytes is some =
    let run : ℕ = visible_run (drop 1 bytes) in
    let less : 0 < 1 + run = omega arith in
    let text : name_text (take (1 + run) bytes) ≡ take run (drop 1 bytes) = escaped_text (take (1 + run) bytes) (first_cut 0 (1 + run) bytes less ∙ is) ∙ drop-take 1 run bytes in
    subst (λ (bs : List ℕ). IsVisible bs) (sym text) (run_visible is_visible (drop 1 bytes) visible_bytes some)

no_backslash : (byte : ℕ) → is_letter byte ≡ true → eqb byte 92 ≡ false
no_backslash byte letter = false_from_ne_true (eqb byte 92) (λ e. true≢false (sym (ap is_letter (sym (eqb-true byte 92 e)) ∙ letter)))

name_says : (bytes : List ℕ) → is_letter (first bytes) ≡ true → IsVisible (name_text (take (name_run bytes) bytes))
name_says bytes letter =
    let run : ℕ = name_run bytes in
    let some : 0 < run = name_run_some bytes letter in
    let other : eqb (first (take run bytes)) 92 ≡ false = ap (λ byte. eqb byte 92) (first_cut 0 run bytes some) ∙ no_backslash (first bytes) letter in
    subst (λ (bs : List ℕ). IsVisible bs) (sym (plain_text (take run bytes) other)) (run_visible is_name_byte bytes name_bytes some)

-- as many bits as the number
length-binary : (n value : ℕ) → length (binary n value) ≡ n
unfolding binary
length-binary zero value = refl
length-binary (suc n) value = ap suc (length-binary n value)

length-fit : (n : ℕ) (bits : List Bit) → length (fit n bits) ≡ n
unfolding fit
length-fit n bits =
    elim (cases_Bool (nat_lt (length bits) n)) [
      | inl e ↦ let less : length bits < n = ltb-true (length bits) n e in
          rw e (length-append (replicate (n - length bits) (filler bits)) bits ∙ ap (λ m. m + length bits) (length-replicate (n - length bits) (filler bits)) ∙ omega arith)
      | inr e ↦ let le : n ≤ length bits = ltb-false (length bits) n e in
          rw e (length-drop (length bits - n) bits ∙ omega arith)
    ]

length-bits_in : (n : ℕ) (base : Base) (digits : List ℕ) → length (bits_in n base digits) ≡ n
unfolding bits_in
length-bits_in n Binary digits = length-fit n (bits_of Binary digits)
length-bits_in n Octal digits = length-fit n (bits_of Octal digits)
length-bits_in n Hexadecimal digits = length-fit n (bits_of Hexadecimal digits)
length-bits_in n Decimal digits =
    elim (cases_Bool (is_single digits)) [
      | inl e ↦ rw e (length-replicate n (bit_at (first digits) 1))
      | inr e ↦ rw e (length-binary n (decimal_value digits))
    ]

size_some : (size : Option ℕ) → size_holds size ≡ true → 1 ≤ width_of size
size_some None h = omega arith
size_some (Some size) h = leb-true 1 size (and_parts (leb 1 size) (leb size 128) h).0

holds_some : (size : Option ℕ) (form : Form) → holds size form ≡ true → 1 ≤ width_of size
unfolding holds
holds_some size form h =
    size_some size (and_parts (size_holds size) (digits_hold form.base form.digits) (and_parts (size_holds size && digits_hold form.base form.digits) (value_holds size form.base form.digits) h).0).0

-- what a based number without faults means
literal_in : Option ℕ → Form → Literal
literal_in size form = record { size = size; signed = form.signed; base = form.base; bits = bits_in (width_of size) form.base form.digits; extension = extension_of form.digits }

meaning-some : (size : Option ℕ) (form : Form) → holds size form ≡ true → meaning size (Some form) ≡ Some (literal_in size form)
unfolding meaning literal_in
meaning-some size form h = rw h refl

based_means : (size : Option ℕ) (form : Form) (bytes : List ℕ) → literal_of bytes ≡ meaning size (Some form) → holds size form ≡ true → HasBits bytes
unfolding literal_in
based_means size form bytes is h =
    let width : length (bits_in (width_of size) form.base form.digits) ≡ width_of size = length-bits_in (width_of size) form.base form.digits in
    record {
      literal = literal_in size form;
      means = is ∙ meaning-some size form h;
      width = width;
      some = omega (arith, width, holds_some size form h);
      few = omega (arith, width, holds_within size form h);
    }

-- a based number at an offset is read alike in the text cut behind it
abbrev ReadsBehind : Option ℕ → ℕ → List ℕ → Type 0
ReadsBehind size offset bytes = (len : ℕ) → offset < len → literal_of (take len bytes) ≡ meaning size (form_at (drop offset (take len bytes)))

based_says : (size : Option ℕ) (offset : ℕ) (bytes : List ℕ) (form : Form) → form_at (drop offset bytes) ≡ Some form → holds size form ≡ true → ReadsBehind size offset bytes → HasBits (take (offset + form.len) bytes)
based_says size offset bytes form is h reads =
    let cut : (0 < form.len) × (form_at (take form.len (drop offset bytes)) ≡ Some form) = form_cut (drop offset bytes) form is in
    let less : offset < offset + form.len = omega (arith, cut.0) in
    based_means size form (take (offset + form.len) bytes)
    (reads (offset + form.len) less ∙ ap (λ (bs : List ℕ). meaning size (form_at bs)) (drop-take offset form.len bytes) ∙ ap (meaning size) cut.1) h

-- without size
no_number_byte : (byte : ℕ) → byte ≡ 39 → is_number_byte byte ≡ false
no_number_byte byte is = ap is_number_byte is

plain_reads : (bytes : List ℕ) → first bytes ≡ 39 → ReadsBehind None 0 bytes
unfolding literal_of
plain_reads bytes is zero less = absurd (omega arith)
plain_reads [] is (suc len) less = refl
plain_reads (byte ∷ bytes) is (suc len) less = rw (no_number_byte byte is) refl

-- with a size
read_by : ℕ → List ℕ → ℕ → List ℕ → Option Literal
read_by n digits offset text =
    if eqb n 0 then meaning None (form_at text)
    else if nat_lt (decimal_value digits) 2147483648 then meaning (Some (decimal_value digits)) (form_at (drop offset text))
    else None

literal_of-read : (text : List ℕ) → literal_of text ≡ read_by (number_run text) (take (number_run text) text) (quote_offset (number_run text) text) text
unfolding literal_of read_by
literal_of-read text = refl

read_by-some : (n offset : ℕ) (digits text : List ℕ) → 0 < n → nat_lt (decimal_value digits) 2147483648 ≡ true → read_by n digits offset text ≡ meaning (Some (decimal_value digits)) (form_at (drop offset text))
unfolding read_by
read_by-some n offset digits text some small =
    let other : eqb n 0 ≡ false = false_from_ne_true (eqb n 0) (λ e. let same : n ≡ 0 = eqb-true n 0 e in absurd (omega arith)) in
    rw (other, small) refl

sized_reads : (n : ℕ) (bytes : List ℕ) → n ≡ number_run bytes → 0 < n → nat_lt (decimal_value (take n bytes)) 2147483648 ≡ true → ReadsBehind (Some (decimal_value (take n bytes))) (quote_offset n bytes) bytes
sized_reads n bytes is some small len less =
    let cut : List ℕ = take len bytes in
    let blanks : ℕ = blank_run (drop n bytes) in
    let m : ℕ = len - n in
    let long : n ≤ len = omega arith in
    let enough : blanks ≤ m = omega arith in
    let sum : len ≡ n + m = omega arith in
    let within : number_run bytes ≤ len = omega (arith, is) in
    let same_run : number_run cut ≡ n = run_cut is_number_byte len bytes within ∙ sym is in
    let tail : drop n cut ≡ take m (drop n bytes) = ap (λ l. drop n (take l bytes)) sum ∙ drop-take n m bytes in
    let same_offset : quote_offset n cut ≡ quote_offset n bytes = ap (λ (bs : List ℕ). n + blank_run bs) tail ∙ ap (λ k. n + k) (run_cut is_blank m (drop n bytes) enough) in
    literal_of-read cut
    ∙ ap (λ k. read_by k (take k cut) (quote_offset k cut) cut) same_run
    ∙ ap (λ (digits : List ℕ). read_by n digits (quote_offset n cut) cut) (take_cut n len bytes long)
    ∙ ap (λ offset. read_by n (take n bytes) offset cut) same_offset
    ∙ read_by-some n (quote_offset n bytes) (take n bytes) cut some small

pub endtable_is_reserved : is_reserved (codes "endtable") ≡ true
unfolding is_reserved reserved_words grammar_words words_of
endtable_is_reserved = refl

table_end_is_reserved : (bytes : List ℕ) → is_table_end bytes ≡ true → is_reserved (take 8 bytes) ≡ true
unfolding is_table_end
table_end_is_reserved bytes is =
    let same : same_name (take 8 bytes) (codes "endtable") ≡ true = (and_parts (same_name (take 8 bytes) (codes "endtable")) (not (is_name_byte (first (drop 8 bytes)))) is).0 in
    ap (λ (name : List ℕ). is_reserved name) ((bytes_eq-Decides (take 8 bytes) (codes "endtable")).0 same) ∙ endtable_is_reserved

-- what begins with a digit
number_says : (bytes : List ℕ) (found : PieceOrFault) → is_ascii_digit (first bytes) ≡ true → NumberCase bytes found → Says bytes found
number_says bytes found digit (case.refused wrong) = tt
number_says bytes found digit (case.number plain small none) = small
number_says bytes found digit (case.decimal some none) = tt
number_says bytes found digit (case.exponent len is some) = tt
number_says bytes found digit (case.sized form none small quote is h) =
    based_says (Some (decimal_value (take (number_run bytes) bytes))) (quote_offset (number_run bytes) bytes) bytes form is h (sized_reads (number_run bytes) bytes refl (number_run_some bytes digit) small)

says : (bytes : List ℕ) (found : PieceOrFault) → Case bytes found → Says bytes found
says bytes found (case.wrong other) = tt
says bytes found (case.blanks blank) = tt
says bytes found (case.line_comment is) = tt
says bytes found (case.comment len begins is) = tt
says bytes found (case.attribute len begins is) = tt
says bytes found (case.word letter reserved) = reserved
says bytes found (case.name letter other) = name_says bytes letter
says bytes found (case.escaped is some) = escaped_says bytes is some
says bytes found (case.directive is letter) = tt
says bytes found (case.text len is end) = tt
says bytes found (case.digits other digit of_number) = number_says bytes other digit of_number
says bytes found (case.unsized form quote is h) = based_says None 0 bytes form is h (plain_reads bytes quote)
says bytes found (case.mark visible other) = (refl, ap is_visible (first_cut 0 1 bytes (omega arith)) ∙ visible)
says bytes found (case.symbol is) = (refl, ap is_symbol (first_cut 0 1 bytes (omega arith)) ∙ is)
says bytes found (case.table_end is) = table_end_is_reserved bytes is

pub piece_says : (table : Bool) (bytes : List ℕ) → Says bytes (piece_at table bytes)
piece_says table bytes = says bytes (piece_at table bytes) (piece_case table bytes)
