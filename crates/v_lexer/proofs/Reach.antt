-- What is found reaches as far as each form of a token does.
use Rattle.std.proofs.Common.{◌≡◌, ℕ, zero, suc, ◌+◌, ◌≤◌, ◌<◌, Bool, true, false, not, ◌&&◌, ◌||◌, eqb, leb, nat_lt, List, [], ◌∷◌, ◌++◌, length, drop, if◌then◌else◌, ◌⊎◌, refl, sym, ap, subst, ◌∙◌, arith, inl, inr, append_assoc, length-append}
use Rattle.std.proofs.lemmas.Bool.{cases_Bool, true≢false, or_cases, or_parts, and_parts, not-true, false_from_ne_true, eqb-true, eq-eqb, ne_eqb, leb-true, lt-ltb}
use Rattle.std.proofs.lemmas.List.{drop-drop}
use Rattle.std.proofs.Math.Seq.{drop-append_seam, drop-append-add}
use Rattle.std.proofs.lemmas.Option.{none-some}
use Rattle.std.specs.Prelude.{Option, Some, None, Ok, Err}
use Rattle.std.specs.List.{prefix_len, list_all}
use Rattle.std.specs.Int.{is_in_range}
use Rattle.std.specs.Char.{is_ascii_digit, is_ascii_alphabetic}
use Rattle.v_lexer.specs.declared.token.TokenKind.{TokenKind}
use Rattle.v_lexer.specs.declared.token.TokenKind.TheVariants as kind
use Rattle.v_lexer.specs.declared.token.Piece.{Piece}
use Rattle.v_lexer.specs.declared.fault.FaultKind.{FaultKind}
use Rattle.v_lexer.specs.declared.fault.FaultKind.TheVariants as fault
use Rattle.v_lexer.specs.declared.literals.Base.{Base}
use Rattle.v_lexer.specs.Bytes.{first, plus, is_letter, is_name_byte, is_number_byte, is_literal_byte, is_blank, is_visible, name_run, number_run, digit_run, literal_run, blank_run, visible_run}
use Rattle.v_lexer.specs.Quoted.{quote_end, text_len}
use Rattle.v_lexer.specs.Numbers.{decimal_len, sign_len, exponent_len}
use Rattle.v_lexer.specs.Literals.{Form, form_at, form_after, base_of, signed_len, holds}
use Rattle.v_lexer.specs.Pieces.{PieceOrFault, piece_to_end, quote_at, escaped_at, directive_at, name_at, quote_offset, number_at, plain_at, piece_at}
use Rattle.v_lexer.specs.Reading.{Stands}
use Rattle.v_lexer.specs.Forms.{IsDigits, IsWord, IsEscaped, IsNumber, IsDecimal, IsExponent, IsUnsized, IsSized, IsInside, IsText, IsDirective, IsFormOf, IsLongest}
use Rattle.v_lexer.proofs.Cases.{NumberCase, IsPlain, has_quote, either, literal_case, number_case}
use Rattle.v_lexer.proofs.Cases as case
use Rattle.v_lexer.proofs.Cuts.{formed, form_at-formed, form_with-some, and_then-some}

-- what is found has this many bytes or more
abbrev Reaches : ℕ → PieceOrFault → Type 0
Reaches n (Ok piece) = n ≤ piece.len
Reaches n (Err wrong) = Unit {0}

-- runs
run_over : (p : ℕ → Bool) (xs ys : List ℕ) → list_all p xs ≡ true → prefix_len p (xs ++ ys) ≡ length xs + prefix_len p ys
run_over p [] ys all = omega arith
run_over p (x ∷ xs) ys all =
    let parts : (p x ≡ true) × (list_all p xs ≡ true) = and_parts (p x) (list_all p xs) all in
    let more : prefix_len p (xs ++ ys) ≡ length xs + prefix_len p ys = run_over p xs ys parts.1 in
    rw parts.0 (omega (arith, more))

run_stops : (p : ℕ → Bool) (bytes : List ℕ) → p (first bytes) ≡ false → prefix_len p bytes ≡ 0
run_stops p [] stops = refl
run_stops p (byte ∷ bytes) stops = rw stops refl

run_to : (p : ℕ → Bool) (d : ℕ) (bytes : List ℕ) → p (first (drop d bytes)) ≡ false → prefix_len p bytes ≤ d
run_to p zero bytes stops = omega (arith, run_stops p bytes stops)
run_to p (suc d) [] stops = omega arith
run_to p (suc d) (byte ∷ bytes) stops =
    elim (cases_Bool (p byte)) [
      | inl e ↦ rw e (omega (arith, run_to p d bytes stops))
      | inr e ↦ rw e (omega arith)
    ]

all_first : (p : ℕ → Bool) (xs : List ℕ) → 0 < length xs → list_all p xs ≡ true → p (first xs) ≡ true
all_first p [] some all = absurd (omega arith)
all_first p (x ∷ xs) some all = (and_parts (p x) (list_all p xs) all).0

first_front : (xs ys : List ℕ) → 0 < length xs → first (xs ++ ys) ≡ first xs
first_front [] ys some = absurd (omega arith)
first_front (x ∷ xs) ys some = refl

-- kinds of bytes that exclude one another
blank_none : (p : ℕ → Bool) → p 32 ≡ false → p 9 ≡ false → p 10 ≡ false → p 13 ≡ false → p 12 ≡ false → (byte : ℕ) → p byte ≡ true → is_blank byte ≡ false
blank_none p space tab feed return form byte is =
    let no : (n : ℕ) → p n ≡ false → eqb byte n ≡ true → ⊥ = λ n other e. true≢false (sym is ∙ ap p (eqb-true byte n e) ∙ other) in
    false_from_ne_true (is_blank byte) (λ blank.
    elim (or_cases (eqb byte 32 || eqb byte 9 || eqb byte 10 || eqb byte 13) (eqb byte 12) blank) [
      | inr e ↦ no 12 form e
      | inl a ↦ elim (or_cases (eqb byte 32 || eqb byte 9 || eqb byte 10) (eqb byte 13) a) [
        | inr e ↦ no 13 return e
        | inl b ↦ elim (or_cases (eqb byte 32 || eqb byte 9) (eqb byte 10) b) [
          | inr e ↦ no 10 feed e
          | inl c ↦ elim (or_cases (eqb byte 32) (eqb byte 9) c) [
            | inl e ↦ no 32 space e
            | inr e ↦ no 9 tab e
          ]
        ]
      ]
    ])

digit_most : (byte : ℕ) → is_ascii_digit byte ≡ true → (48 ≤ byte) × (byte ≤ 57)
digit_most byte is = let parts : (leb 48 byte ≡ true) × (leb byte 57 ≡ true) = and_parts (leb 48 byte) (leb byte 57) is in (leb-true 48 byte parts.0, leb-true byte 57 parts.1)

letter_least : (byte : ℕ) → is_letter byte ≡ true → 65 ≤ byte
letter_least byte is =
    elim (or_cases (is_ascii_alphabetic byte) (eqb byte 95) is) [
      | inr e ↦ omega (arith, eqb-true byte 95 e)
      | inl a ↦ elim (or_cases (is_in_range 65 90 byte) (is_in_range 97 122 byte) a) [
        | inl b ↦ leb-true 65 byte (and_parts (leb 65 byte) (leb byte 90) b).0
        | inr b ↦ omega (arith, leb-true 97 byte (and_parts (leb 97 byte) (leb byte 122) b).0)
      ]
    ]

digit_letter : (byte : ℕ) → is_ascii_digit byte ≡ true → is_letter byte ≡ false
digit_letter byte is = false_from_ne_true (is_letter byte) (λ letter. absurd (omega (arith, digit_most byte is, letter_least byte letter)))

-- what begins with a letter, a digit or another byte
at_letter : (bytes : List ℕ) → is_letter (first bytes) ≡ true → plain_at bytes ≡ name_at bytes
unfolding plain_at
at_letter bytes letter = rw (blank_none is_letter refl refl refl refl refl (first bytes) letter, letter) refl

at_digit : (bytes : List ℕ) → is_ascii_digit (first bytes) ≡ true → plain_at bytes ≡ number_at bytes
unfolding plain_at
at_digit bytes digit = rw (blank_none is_ascii_digit refl refl refl refl refl (first bytes) digit, digit_letter (first bytes) digit, digit) refl

-- a name or a word
word_reaches : (front others : List ℕ) → IsWord front → Reaches (length front) (plain_at (front ++ others))
unfolding name_at
word_reaches [] others word = absurd (true≢false (sym word.0))
word_reaches (byte ∷ front) others word =
    subst (λ (found : PieceOrFault). Reaches (length (byte ∷ front)) found) (sym (at_letter (byte ∷ (front ++ others)) word.0))
    (let long : name_run ((byte ∷ front) ++ others) ≡ length (byte ∷ front) + name_run others = run_over is_name_byte (byte ∷ front) others word.1 in omega (arith, long))

escaped_reaches : (name others : List ℕ) → list_all is_visible name ≡ true → Reaches (1 + length name) (plain_at (92 ∷ (name ++ others)))
unfolding plain_at escaped_at
escaped_reaches name others visible =
    let run : ℕ = visible_run (name ++ others) in
    either (Reaches (1 + length name)) (nat_lt 0 run) (Ok (record { kind = Some kind.Name; len = 1 + run })) (Err fault.BadByte) (λ _. omega (arith, run_over is_visible name others visible)) (λ _. tt)

directive_reaches : (name others : List ℕ) → IsWord name → Reaches (1 + length name) (plain_at (96 ∷ (name ++ others)))
unfolding plain_at directive_at
directive_reaches name others word =
    let run : ℕ = name_run (name ++ others) in
    either (Reaches (1 + length name)) (is_letter (first (name ++ others))) (Ok (record { kind = Some kind.Directive; len = 1 + run })) (Err fault.BadByte) (λ _. omega (arith, run_over is_name_byte name others word.1)) (λ _. tt)

-- a text in quotes
abbrev Has : ℕ → Option ℕ → Type 0
Has n None = Unit {0}
Has n (Some m) = n ≤ m

plus_has : (n : ℕ) (len : Option ℕ) → Has n len → Has (1 + n) (plus 1 len)
plus_has n None has = tt
plus_has n (Some m) has = omega arith

either_has : (n : ℕ) (b : Bool) (x y : Option ℕ) → (b ≡ true → Has n x) → (b ≡ false → Has n y) → Has n (if b then x else y)
either_has n true x y f g = f refl
either_has n false x y f g = g refl

quote_has : (before : ℕ) (inside others : List ℕ) → IsInside before inside → Has (length inside + 1) (quote_end before (inside ++ (34 ∷ others)))
unfolding quote_end
quote_has before [] others closed =
    either_has 1 (not (eqb before 92)) (Some 1) (plus 1 (quote_end 34 others)) (λ _. omega arith)
    (λ e. absurd (closed (eqb-true before 92 (not_not (eqb before 92) e))))
  where
    not_not : (b : Bool) → not b ≡ false → b ≡ true
    not_not true h = refl
    not_not false h = absurd (true≢false h)
quote_has before (byte ∷ inside) others closed =
    let n : ℕ = length (byte ∷ inside) + 1 in
    let rest : Option ℕ = quote_end byte (inside ++ (34 ∷ others)) in
    let e : 1 + (length inside + 1) ≡ n = omega arith in
    either_has n (eqb byte 10) None (if eqb byte 34 && not (eqb before 92) then Some 1 else plus 1 rest) (λ _. tt) (λ _.
    either_has n (eqb byte 34 && not (eqb before 92)) (Some 1) (plus 1 rest)
    (λ both.
    let parts : (eqb byte 34 ≡ true) × (not (eqb before 92) ≡ true) = and_parts (eqb byte 34) (not (eqb before 92)) both in
    absurd (true≢false (sym (eq-eqb before 92 (closed.1 (eqb-true byte 34 parts.0))) ∙ not-true (eqb before 92) parts.1)))
    (λ _. subst (λ m. Has m (plus 1 rest)) e (plus_has (length inside + 1) rest (quote_has byte inside others closed.2))))

to_end_reaches : (n : ℕ) (shape : Option TokenKind) (wrong : FaultKind) (len : Option ℕ) → Has n len → Reaches n (piece_to_end shape wrong len)
to_end_reaches n shape wrong None has = tt
to_end_reaches n shape wrong (Some m) has = has

text_reaches : (inside others : List ℕ) → IsInside 34 inside → Reaches (1 + (length inside + 1)) (plain_at (34 ∷ (inside ++ (34 ∷ others))))
unfolding plain_at quote_at
text_reaches inside others closed =
    to_end_reaches (1 + (length inside + 1)) (Some kind.Text) fault.OpenString (text_len (34 ∷ (inside ++ (34 ∷ others))))
    (plus_has (length inside + 1) (quote_end 34 (inside ++ (34 ∷ others))) (quote_has 34 inside others closed))

-- numbers
-- what begins with a digit has so many bytes where its plain numbers, its decimals and its based numbers do
abbrev PlainReaches : ℕ → List ℕ → Type 0
PlainReaches n bytes = IsPlain bytes → n ≤ number_run bytes + exponent_len (drop (number_run bytes) bytes)

abbrev DecimalReaches : ℕ → List ℕ → Type 0
DecimalReaches n bytes = 0 < decimal_len bytes → n ≤ decimal_len bytes + exponent_len (drop (decimal_len bytes) bytes)

abbrev SizedReaches : ℕ → List ℕ → Type 0
SizedReaches n bytes = (form : Form) → decimal_len bytes ≡ 0 → has_quote bytes ≡ true → form_at (drop (quote_offset (number_run bytes) bytes) bytes) ≡ Some form → n ≤ quote_offset (number_run bytes) bytes + form.len

digits_reach : (n : ℕ) (bytes : List ℕ) (found : PieceOrFault) → PlainReaches n bytes → DecimalReaches n bytes → SizedReaches n bytes → NumberCase bytes found → Reaches n found
digits_reach n bytes found plain decimal sized (case.refused wrong) = tt
digits_reach n bytes found plain decimal sized (case.number is small none) = omega (arith, plain is, none)
digits_reach n bytes found plain decimal sized (case.decimal some none) = omega (arith, decimal some, none)
digits_reach n bytes found plain decimal sized (case.exponent len (inl is) more) = subst (λ m. n ≤ m + exponent_len (drop m bytes)) (sym is.1) (plain is.0)
digits_reach n bytes found plain decimal sized (case.exponent len (inr is) more) = subst (λ m. n ≤ m + exponent_len (drop m bytes)) (sym is.1) (decimal is.0)
digits_reach n bytes found plain decimal sized (case.sized form none small quote is holds) = sized form none quote is

digit_reaches : (n : ℕ) (bytes : List ℕ) → is_ascii_digit (first bytes) ≡ true → PlainReaches n bytes → DecimalReaches n bytes → SizedReaches n bytes → Reaches n (plain_at bytes)
digit_reaches n bytes digit plain decimal sized =
    subst (λ (found : PieceOrFault). Reaches n found) (sym (at_digit bytes digit)) (digits_reach n bytes (number_at bytes) plain decimal sized (number_case bytes))

-- a decimal is longer than the number at its offset
point_over : (point : Bool) (run d number : ℕ) → (point ≡ true → number ≤ d) → 0 < (if point then d + 1 + run else 0) → number ≤ (if point then d + 1 + run else 0)
point_over true run d number le some = omega (arith, le refl)
point_over false run d number le some = absurd (omega arith)

decimal_over : (bytes : List ℕ) → 0 < decimal_len bytes → number_run bytes ≤ decimal_len bytes
unfolding decimal_len
decimal_over bytes some =
    let d : ℕ = digit_run bytes in
    let run : ℕ = digit_run (drop (d + 1) bytes) in
    point_over (eqb (first (drop d bytes)) 46 && nat_lt 0 run) run d (number_run bytes)
    (λ both. run_to is_number_byte d bytes (ap is_number_byte (eqb-true (first (drop d bytes)) 46 (and_parts (eqb (first (drop d bytes)) 46) (nat_lt 0 run) both).0))) some

number_reaches : (front others : List ℕ) → IsNumber front → Reaches (length front) (plain_at (front ++ others))
number_reaches [] others number = absurd (true≢false (sym number.0))
number_reaches (byte ∷ front) others number =
    let bytes : List ℕ = byte ∷ (front ++ others) in
    let n : ℕ = length (byte ∷ front) in
    let long : number_run bytes ≡ n + number_run others = run_over is_number_byte (byte ∷ front) others number.1 in
    digit_reaches n bytes number.0 (λ _. omega (arith, long)) (λ some. omega (arith, long, decimal_over bytes some)) (λ form none quote is. omega (arith, long))

-- the length of a decimal, by its digits, what is behind them, and the digits behind that
decimal_by : ℕ → ℕ → ℕ → ℕ
decimal_by d byte run = if eqb byte 46 && nat_lt 0 run then d + 1 + run else 0

decimal_len-by : (bytes : List ℕ) → decimal_len bytes ≡ decimal_by (digit_run bytes) (first (drop (digit_run bytes) bytes)) (digit_run (drop (digit_run bytes + 1) bytes))
unfolding decimal_len decimal_by
decimal_len-by bytes = refl

decimal_by-some : (d run : ℕ) → 0 < run → decimal_by d 46 run ≡ d + 1 + run
unfolding decimal_by
decimal_by-some d run some = rw (lt-ltb 0 run some) refl

decimal_by-none : (d byte run : ℕ) → eqb byte 46 ≡ false → decimal_by d byte run ≡ 0
unfolding decimal_by
decimal_by-none d byte run none = rw none refl

decimal_is : (whole rest : List ℕ) → list_all is_ascii_digit whole ≡ true → 0 < digit_run rest → decimal_len (whole ++ (46 ∷ rest)) ≡ length whole + 1 + digit_run rest
decimal_is whole rest all some =
    let bytes : List ℕ = whole ++ (46 ∷ rest) in
    let n : ℕ = length whole in
    let digits : digit_run bytes ≡ n = run_over is_ascii_digit whole (46 ∷ rest) all ∙ (let e : n + 0 ≡ n = omega arith in e) in
    let here : drop n bytes ≡ 46 ∷ rest = drop-append_seam whole (46 ∷ rest) in
    let behind : drop (n + 1) bytes ≡ rest = drop-append-add whole (46 ∷ rest) 1 in
    decimal_len-by bytes
    ∙ ap (λ d. decimal_by d (first (drop d bytes)) (digit_run (drop (d + 1) bytes))) digits
    ∙ ap (λ (bs : List ℕ). decimal_by n (first bs) (digit_run (drop (n + 1) bytes))) here
    ∙ ap (λ (bs : List ℕ). decimal_by n 46 (digit_run bs)) behind
    ∙ decimal_by-some n (digit_run rest) some

-- digits, and what comes behind them
digits_over : (digits others : List ℕ) → IsDigits digits → (0 < digit_run (digits ++ others)) × (length digits ≤ digit_run (digits ++ others))
digits_over digits others is = let long : digit_run (digits ++ others) ≡ length digits + digit_run others = run_over is_ascii_digit digits others is.1 in (omega (arith, long, is.0), omega (arith, long))

-- a decimal, and an exponent that begins with one
decimal_at : (n : ℕ) (whole rest : List ℕ) → IsDigits whole → 0 < digit_run rest
    → n ≤ length whole + 1 + digit_run rest + exponent_len (drop (length whole + 1 + digit_run rest) (whole ++ (46 ∷ rest))) → Reaches n (plain_at (whole ++ (46 ∷ rest)))
decimal_at n whole rest digits some le =
    let bytes : List ℕ = whole ++ (46 ∷ rest) in
    let len : decimal_len bytes ≡ length whole + 1 + digit_run rest = decimal_is whole rest digits.1 some in
    let digit : is_ascii_digit (first bytes) ≡ true = ap is_ascii_digit (first_front whole (46 ∷ rest) digits.0) ∙ all_first is_ascii_digit whole digits.0 digits.1 in
    digit_reaches n bytes digit (λ plain. absurd (omega (arith, plain.0, len))) (λ _. subst (λ m. n ≤ m + exponent_len (drop m bytes)) (sym len) le) (λ form none quote is. absurd (omega (arith, none, len)))

decimal_reaches : (whole part others : List ℕ) → IsDigits whole → IsDigits part → Reaches (length whole + (1 + length part)) (plain_at (whole ++ (46 ∷ (part ++ others))))
decimal_reaches whole part others before behind =
    let long : (0 < digit_run (part ++ others)) × (length part ≤ digit_run (part ++ others)) = digits_over part others behind in
    decimal_at (length whole + (1 + length part)) whole (part ++ others) before long.0 (omega (arith, long.1))

-- behind a number no decimal goes on where the next byte is neither a digit nor `.`
no_point : (front rest : List ℕ) → list_all is_number_byte front ≡ true → is_ascii_digit (first rest) ≡ false → eqb (first rest) 46 ≡ false
    → eqb (first (drop (digit_run (front ++ rest)) (front ++ rest))) 46 ≡ false
no_point [] rest all digit point =
    ap (λ n. eqb (first (drop n rest)) 46) (run_stops is_ascii_digit rest digit) ∙ point
no_point (byte ∷ front) rest all digit point =
    let parts : (is_number_byte byte ≡ true) × (list_all is_number_byte front ≡ true) = and_parts (is_number_byte byte) (list_all is_number_byte front) all in
    elim (cases_Bool (is_ascii_digit byte)) [
      | inl e ↦ let one : 1 + digit_run (front ++ rest) ≡ suc (digit_run (front ++ rest)) = omega arith in
          rw (e, one) (no_point front rest parts.1 digit point)
      | inr e ↦ rw e (line byte (or_cases (is_ascii_digit byte) (eqb byte 95) parts.0) e)
    ]
  where
    line : (b : ℕ) → (is_ascii_digit b ≡ true) ⊎ (eqb b 95 ≡ true) → is_ascii_digit b ≡ false → eqb b 46 ≡ false
    line b (inl d) none = absurd (true≢false (sym d ∙ none))
    line b (inr e) none = ap (λ n. eqb n 46) (eqb-true b 95 e)

-- a number behind which a byte stands that goes on with neither a number nor a decimal
number_ends : (front rest : List ℕ) → IsNumber front → is_number_byte (first rest) ≡ false → eqb (first rest) 46 ≡ false
    → (is_ascii_digit (first (front ++ rest)) ≡ true) × (number_run (front ++ rest) ≡ length front) × (decimal_len (front ++ rest) ≡ 0)
number_ends [] rest number stops point = absurd (true≢false (sym number.0))
number_ends (byte ∷ front) rest number stops point =
    let bytes : List ℕ = byte ∷ (front ++ rest) in
    let no_digit : is_ascii_digit (first rest) ≡ false = (or_parts (is_ascii_digit (first rest)) (eqb (first rest) 95) stops).0 in
    let none : number_run rest ≡ 0 = run_stops is_number_byte rest stops in (
      number.0,
      run_over is_number_byte (byte ∷ front) rest number.1 ∙ omega (arith, none),
      decimal_len-by bytes ∙ decimal_by-none (digit_run bytes) (first (drop (digit_run bytes) bytes)) (digit_run (drop (digit_run bytes + 1) bytes)) (no_point (byte ∷ front) rest number.1 no_digit point),
    )

-- an exponent from its `e` on
no_sign : (rest : List ℕ) → is_ascii_digit (first rest) ≡ true → sign_len rest ≡ 0
no_sign rest digit =
    let least : 48 ≤ first rest = (digit_most (first rest) digit).0 in
    let plus_sign : eqb (first rest) 43 ≡ false = ne_eqb (first rest) 43 (λ e. absurd (omega (arith, least, e))) in
    let minus_sign : eqb (first rest) 45 ≡ false = ne_eqb (first rest) 45 (λ e. absurd (omega (arith, least, e))) in
    rw (plus_sign, minus_sign) refl

sign_is : (sign rest : List ℕ) → (sign ≡ []) ⊎ ((sign ≡ 43 ∷ []) ⊎ (sign ≡ 45 ∷ [])) → is_ascii_digit (first rest) ≡ true → sign_len (sign ++ rest) ≡ length sign
sign_is sign rest (inl e) digit = rw e (no_sign rest digit)
sign_is sign rest (inr (inl e)) digit = rw e refl
sign_is sign rest (inr (inr e)) digit = rw e refl

exponent_by : ℕ → ℕ → ℕ → ℕ
exponent_by letter head run = if (eqb letter 101 || eqb letter 69) && nat_lt 0 run then head + run else 0

exponent_len-by : (letter : ℕ) (rest : List ℕ) → exponent_len (letter ∷ rest) ≡ exponent_by letter (1 + sign_len rest) (digit_run (drop (1 + sign_len rest) (letter ∷ rest)))
unfolding exponent_len exponent_by
exponent_len-by letter rest = refl

exponent_by-some : (letter head run : ℕ) → (eqb letter 101 || eqb letter 69) ≡ true → 0 < run → exponent_by letter head run ≡ head + run
unfolding exponent_by
exponent_by-some letter head run is some = rw (is, lt-ltb 0 run some) refl

exponent_tail : (letter : ℕ) (sign digits others : List ℕ) → (eqb letter 101 || eqb letter 69) ≡ true → (sign ≡ []) ⊎ ((sign ≡ 43 ∷ []) ⊎ (sign ≡ 45 ∷ [])) → IsDigits digits
    → 1 + (length sign + length digits) ≤ exponent_len (letter ∷ (sign ++ (digits ++ others)))
exponent_tail letter sign digits others is_e is_sign some =
    let rest : List ℕ = sign ++ (digits ++ others) in
    let long : (0 < digit_run (digits ++ others)) × (length digits ≤ digit_run (digits ++ others)) = digits_over digits others some in
    let head : sign_len rest ≡ length sign = sign_is sign (digits ++ others) is_sign (ap is_ascii_digit (first_front digits others some.0) ∙ all_first is_ascii_digit digits some.0 some.1) in
    let one : 1 + length sign ≡ suc (length sign) = omega arith in
    let behind : drop (1 + length sign) (letter ∷ rest) ≡ digits ++ others = ap (λ n. drop n (letter ∷ rest)) one ∙ drop-append_seam sign (digits ++ others) in
    let len : exponent_len (letter ∷ rest) ≡ 1 + length sign + digit_run (digits ++ others) =
    exponent_len-by letter rest
    ∙ ap (λ n. exponent_by letter (1 + n) (digit_run (drop (1 + n) (letter ∷ rest)))) head
    ∙ ap (λ (bs : List ℕ). exponent_by letter (1 + length sign) (digit_run bs)) behind
    ∙ exponent_by-some letter (1 + length sign) (digit_run (digits ++ others)) is_e long.0 in
    omega (arith, len, long.1)

-- an `e` goes on with no number
e_kinds : (letter : ℕ) → (eqb letter 101 || eqb letter 69) ≡ true → (is_number_byte letter ≡ false) × (eqb letter 46 ≡ false) × (is_blank letter ≡ false) × (eqb letter 39 ≡ false) × (is_ascii_digit letter ≡ false)
e_kinds letter is =
    elim (or_cases (eqb letter 101) (eqb letter 69) is) [
      | inl e ↦ rw (eqb-true letter 101 e) (refl, refl, refl, refl, refl)
      | inr e ↦ rw (eqb-true letter 69 e) (refl, refl, refl, refl, refl)
    ]

number_exponent : (n : ℕ) (front : List ℕ) (letter : ℕ) (rest : List ℕ) → IsNumber front → (eqb letter 101 || eqb letter 69) ≡ true → n ≤ length front + exponent_len (letter ∷ rest) → Reaches n (plain_at (front ++ (letter ∷ rest)))
number_exponent n front letter rest number is le =
    let bytes : List ℕ = front ++ (letter ∷ rest) in
    let kinds : (is_number_byte letter ≡ false) × (eqb letter 46 ≡ false) × (is_blank letter ≡ false) × (eqb letter 39 ≡ false) × (is_ascii_digit letter ≡ false) = e_kinds letter is in
    let ends : (is_ascii_digit (first bytes) ≡ true) × (number_run bytes ≡ length front) × (decimal_len bytes ≡ 0) = number_ends front (letter ∷ rest) number kinds.0 kinds.1 in
    let here : drop (number_run bytes) bytes ≡ letter ∷ rest = ap (λ m. drop m bytes) ends.1 ∙ drop-append_seam front (letter ∷ rest) in
    let blanks : blank_run (drop (number_run bytes) bytes) ≡ 0 = ap (λ (bs : List ℕ). blank_run bs) here ∙ run_stops is_blank (letter ∷ rest) kinds.2 in
    let offset : quote_offset (number_run bytes) bytes ≡ number_run bytes = omega (arith, blanks) in
    let no_quote : has_quote bytes ≡ false = ap (λ m. eqb (first (drop m bytes)) 39) offset ∙ ap (λ (bs : List ℕ). eqb (first bs) 39) here ∙ kinds.3 in
    let same : exponent_len (drop (number_run bytes) bytes) ≡ exponent_len (letter ∷ rest) = ap exponent_len here in
    digit_reaches n bytes ends.0 (λ _. omega (arith, ends.1, same, le)) (λ some. absurd (omega (arith, ends.2, some))) (λ form none quote is. absurd (true≢false (sym quote ∙ no_quote)))

decimal_exponent : (n : ℕ) (whole part : List ℕ) (letter : ℕ) (rest : List ℕ) → IsDigits whole → IsDigits part → (eqb letter 101 || eqb letter 69) ≡ true
    → n ≤ length whole + (1 + length part) + exponent_len (letter ∷ rest) → Reaches n (plain_at (whole ++ (46 ∷ (part ++ (letter ∷ rest)))))
decimal_exponent n whole part letter rest before behind is le =
    let end : List ℕ = letter ∷ rest in
    let bytes : List ℕ = whole ++ (46 ∷ (part ++ end)) in
    let run : digit_run (part ++ end) ≡ length part = run_over is_ascii_digit part end behind.1 ∙ (let none : digit_run end ≡ 0 = run_stops is_ascii_digit end (e_kinds letter is).4 in omega (arith, none)) in
    let some : 0 < digit_run (part ++ end) = omega (arith, run, behind.0) in
    let one : 1 + length part ≡ suc (length part) = omega arith in
    let sum : length whole + 1 + digit_run (part ++ end) ≡ length whole + (1 + length part) = omega (arith, run) in
    let here : drop (length whole + (1 + length part)) bytes ≡ end =
    drop-append-add whole (46 ∷ (part ++ end)) (1 + length part) ∙ ap (λ m. drop m (46 ∷ (part ++ end))) one ∙ drop-append_seam part end in
    let there : drop (length whole + 1 + digit_run (part ++ end)) bytes ≡ end = ap (λ m. drop m bytes) sum ∙ here in
    let more : exponent_len (drop (length whole + 1 + digit_run (part ++ end)) bytes) ≡ exponent_len end = ap exponent_len there in
    decimal_at n whole (part ++ end) before some (omega (arith, le, sum, more))

-- a based number from its `'` on
formed_len : (s : ℕ) (blanks digits others bytes : List ℕ) (form : Form) → drop (1 + s + 1) bytes ≡ blanks ++ (digits ++ others) → list_all is_blank blanks ≡ true → 0 < length digits → list_all is_literal_byte digits ≡ true
    → formed s bytes ≡ Some form → 1 + s + 1 + (length blanks + length digits) ≤ form.len
unfolding formed
formed_len s blanks digits others bytes form tail are_blank some are_digits is =
    let offset : ℕ = 1 + s in
    let parts : (base : Base) × (base_of (first (drop (1 + s) bytes)) ≡ Some base) × (form_after (eqb s 1) (1 + s) bytes base ≡ Some form) = and_then-some (base_of (first (drop (1 + s) bytes))) (form_after (eqb s 1) (1 + s) bytes) form is in
    let rest : List ℕ = digits ++ others in
    let literal_first : is_literal_byte (first rest) ≡ true = ap is_literal_byte (first_front digits others some) ∙ all_first is_literal_byte digits some are_digits in
    let no_blank : blank_run rest ≡ 0 = run_stops is_blank rest (blank_none is_literal_byte refl refl refl refl refl (first rest) literal_first) in
    let blank_len : blank_run (drop (offset + 1) bytes) ≡ length blanks = ap (λ (bs : List ℕ). blank_run bs) tail ∙ run_over is_blank blanks rest are_blank ∙ omega (arith, no_blank) in
    let start : ℕ = offset + 1 + blank_run (drop (offset + 1) bytes) in
    let start_is : start ≡ offset + 1 + length blanks = omega (arith, blank_len) in
    let here : drop start bytes ≡ rest = ap (λ n. drop n bytes) start_is ∙ sym (drop-drop (length blanks) (offset + 1) bytes) ∙ ap (drop (length blanks)) tail ∙ drop-append_seam blanks rest in
    let run : literal_run (drop start bytes) ≡ length digits + literal_run others = ap (λ (bs : List ℕ). literal_run bs) here ∙ run_over is_literal_byte digits others are_digits in
    let long : (0 < literal_run (drop start bytes)) × (form.len ≡ start + literal_run (drop start bytes)) = form_with-some (eqb s 1) parts.0 start bytes form parts.2 in
    omega (arith, long.1, start_is, run)

no_base : (letter : ℕ) (base : Base) → base_of letter ≡ Some base → (eqb letter 115 || eqb letter 83) ≡ false
unfolding base_of
no_base letter base is = false_from_ne_true (eqb letter 115 || eqb letter 83) (λ e.
    elim (or_cases (eqb letter 115) (eqb letter 83) e) [
      | inl a ↦ none-some base (sym (ap base_of (eqb-true letter 115 a)) ∙ is)
      | inr b ↦ none-some base (sym (ap base_of (eqb-true letter 83 b)) ∙ is)
    ])

abbrev Longer : ℕ → List ℕ → Type 0
Longer n bytes = (form : Form) → form_at bytes ≡ Some form → n ≤ form.len

unsized_plain : (letter : ℕ) (base : Base) (blanks digits others : List ℕ) → base_of letter ≡ Some base → list_all is_blank blanks ≡ true → 0 < length digits → list_all is_literal_byte digits ≡ true
    → Longer (2 + (length blanks + length digits)) (39 ∷ letter ∷ (blanks ++ (digits ++ others)))
unsized_plain letter base blanks digits others is_base are_blank some are_digits form is =
    let bytes : List ℕ = 39 ∷ letter ∷ (blanks ++ (digits ++ others)) in
    let none : signed_len (drop 1 bytes) ≡ 0 = rw (no_base letter base is_base) refl in
    formed_len 0 blanks digits others bytes form refl are_blank some are_digits (ap (λ m. formed m bytes) (sym none) ∙ sym (form_at-formed bytes) ∙ is)

unsized_signed : (sign letter : ℕ) (blanks digits others : List ℕ) → (eqb sign 115 || eqb sign 83) ≡ true → list_all is_blank blanks ≡ true → 0 < length digits → list_all is_literal_byte digits ≡ true
    → Longer (3 + (length blanks + length digits)) (39 ∷ sign ∷ letter ∷ (blanks ++ (digits ++ others)))
unsized_signed sign letter blanks digits others is_sign are_blank some are_digits form is =
    let bytes : List ℕ = 39 ∷ sign ∷ letter ∷ (blanks ++ (digits ++ others)) in
    let one : signed_len (drop 1 bytes) ≡ 1 = rw is_sign refl in
    formed_len 1 blanks digits others bytes form refl are_blank some are_digits (ap (λ m. formed m bytes) (sym one) ∙ sym (form_at-formed bytes) ∙ is)

-- what is behind the `'` of an unsized number, with the bytes behind it
abbrev tail_of : List ℕ → ℕ → List ℕ → List ℕ → List ℕ → List ℕ
tail_of sign letter blanks digits others = sign ++ (letter ∷ (blanks ++ (digits ++ others)))

unsized_len : (sign : List ℕ) (letter : ℕ) (base : Base) (blanks digits others : List ℕ) → (sign ≡ []) ⊎ ((sign ≡ 115 ∷ []) ⊎ (sign ≡ 83 ∷ [])) → base_of letter ≡ Some base → list_all is_blank blanks ≡ true → 0 < length digits
    → list_all is_literal_byte digits ≡ true → Longer (1 + (length sign + (1 + (length blanks + length digits)))) (39 ∷ tail_of sign letter blanks digits others)
unsized_len sign letter base blanks digits others is_sign is_base are_blank some are_digits =
    let len : ℕ = length blanks + length digits in
    let P : List ℕ → Type 0 = λ s. Longer (1 + (length s + (1 + len))) (39 ∷ tail_of s letter blanks digits others) in
    let two : 2 + len ≡ 1 + (0 + (1 + len)) = omega arith in
    let three : 3 + len ≡ 1 + (1 + (1 + len)) = omega arith in
    elim is_sign [
      | inl e ↦ subst P (sym e) (subst (λ m. Longer m (39 ∷ letter ∷ (blanks ++ (digits ++ others)))) two (unsized_plain letter base blanks digits others is_base are_blank some are_digits))
      | inr is_signed ↦ elim is_signed [
        | inl e ↦ subst P (sym e) (subst (λ m. Longer m (39 ∷ 115 ∷ letter ∷ (blanks ++ (digits ++ others)))) three (unsized_signed 115 letter blanks digits others refl are_blank some are_digits))
        | inr e ↦ subst P (sym e) (subst (λ m. Longer m (39 ∷ 83 ∷ letter ∷ (blanks ++ (digits ++ others)))) three (unsized_signed 83 letter blanks digits others refl are_blank some are_digits))
      ]
    ]

unsized_reaches : (n : ℕ) (tail : List ℕ) → Longer n (39 ∷ tail) → Reaches n (plain_at (39 ∷ tail))
unfolding plain_at
unsized_reaches n tail longer = literal_case (Reaches n) None 0 (form_at (39 ∷ tail)) tt (λ form is _. omega (arith, longer form is))

blank_kinds : (byte : ℕ) → is_blank byte ≡ true → (is_number_byte byte ≡ false) × (eqb byte 46 ≡ false)
blank_kinds byte blank = (
  false_from_ne_true (is_number_byte byte) (λ e. true≢false (sym blank ∙ blank_none is_number_byte refl refl refl refl refl byte e)),
  false_from_ne_true (eqb byte 46) (λ e. true≢false (sym blank ∙ blank_none (λ b. eqb b 46) refl refl refl refl refl byte e)),
)

behind_size : (blanks tail : List ℕ) → list_all is_blank blanks ≡ true → (is_number_byte (first (blanks ++ (39 ∷ tail))) ≡ false) × (eqb (first (blanks ++ (39 ∷ tail))) 46 ≡ false)
behind_size [] tail all = (refl, refl)
behind_size (byte ∷ blanks) tail all = blank_kinds byte (and_parts (is_blank byte) (list_all is_blank blanks) all).0

sized_reaches : (n m : ℕ) (size blanks tail : List ℕ) → IsNumber size → list_all is_blank blanks ≡ true → Longer m (39 ∷ tail) → n ≤ length size + (length blanks + m) → Reaches n (plain_at (size ++ (blanks ++ (39 ∷ tail))))
sized_reaches n m size blanks tail is_size are_blank longer le =
    let rest : List ℕ = blanks ++ (39 ∷ tail) in
    let bytes : List ℕ = size ++ rest in
    let kinds : (is_number_byte (first rest) ≡ false) × (eqb (first rest) 46 ≡ false) = behind_size blanks tail are_blank in
    let ends : (is_ascii_digit (first bytes) ≡ true) × (number_run bytes ≡ length size) × (decimal_len bytes ≡ 0) = number_ends size rest is_size kinds.0 kinds.1 in
    let none : blank_run (39 ∷ tail) ≡ 0 = run_stops is_blank (39 ∷ tail) refl in
    let blank_len : blank_run (drop (number_run bytes) bytes) ≡ length blanks =
    ap (λ k. blank_run (drop k bytes)) ends.1 ∙ ap (λ (bs : List ℕ). blank_run bs) (drop-append_seam size rest) ∙ run_over is_blank blanks (39 ∷ tail) are_blank ∙ omega (arith, none) in
    let offset : quote_offset (number_run bytes) bytes ≡ length size + length blanks = omega (arith, ends.1, blank_len) in
    let here : drop (quote_offset (number_run bytes) bytes) bytes ≡ 39 ∷ tail = ap (λ k. drop k bytes) offset ∙ drop-append-add size rest (length blanks) ∙ drop-append_seam blanks (39 ∷ tail) in
    let is_quote : has_quote bytes ≡ true = ap (λ (bs : List ℕ). eqb (first bs) 39) here in
    digit_reaches n bytes ends.0 (λ plain. absurd (true≢false (sym is_quote ∙ plain.1))) (λ some. absurd (omega (arith, ends.2, some)))
    (λ form _ _ is. omega (arith, le, offset, longer form (ap form_at (sym here) ∙ is)))

-- each form, with the bytes behind it
carry : (n m : ℕ) (xs ys : List ℕ) → n ≡ m → xs ≡ ys → Reaches m (plain_at ys) → Reaches n (plain_at xs)
carry n m xs ys same e reaches = subst (λ k. Reaches k (plain_at xs)) (sym same) (subst (λ (bs : List ℕ). Reaches m (plain_at bs)) (sym e) reaches)

name_form : (front others : List ℕ) → IsEscaped front → Reaches (length front) (plain_at (front ++ others))
name_form front others form =
    carry (length front) (1 + length form.name) (front ++ others) (92 ∷ (form.name ++ others)) (ap length form.all ∙ omega arith) (ap (λ (bs : List ℕ). bs ++ others) form.all) (escaped_reaches form.name others form.visible)

directive_form : (front others : List ℕ) → IsDirective front → Reaches (length front) (plain_at (front ++ others))
directive_form front others form =
    carry (length front) (1 + length form.name) (front ++ others) (96 ∷ (form.name ++ others)) (ap length form.all ∙ omega arith) (ap (λ (bs : List ℕ). bs ++ others) form.all) (directive_reaches form.name others form.is_name)

text_form : (front others : List ℕ) → IsText front → Reaches (length front) (plain_at (front ++ others))
text_form front others form =
    let inside : List ℕ = form.inside in
    carry (length front) (1 + (length inside + 1)) (front ++ others) (34 ∷ (inside ++ (34 ∷ others)))
    (ap length form.all ∙ omega (arith, length-append inside (34 ∷ [])))
    (ap (λ (bs : List ℕ). bs ++ others) form.all ∙ ap (λ (bs : List ℕ). 34 ∷ bs) (append_assoc inside (34 ∷ []) others))
    (text_reaches inside others form.closed)

decimal_form : (front others : List ℕ) → IsDecimal front → Reaches (length front) (plain_at (front ++ others))
decimal_form front others form =
    carry (length front) (length form.whole + (1 + length form.part)) (front ++ others) (form.whole ++ (46 ∷ (form.part ++ others)))
    (ap length form.all ∙ length-append form.whole (46 ∷ form.part) ∙ omega arith)
    (ap (λ (bs : List ℕ). bs ++ others) form.all ∙ append_assoc form.whole (46 ∷ form.part) others)
    (decimal_reaches form.whole form.part others form.before form.behind)

exponent_form : (front others : List ℕ) → IsExponent front → Reaches (length front) (plain_at (front ++ others))
exponent_form front others form =
    let number : List ℕ = form.front in
    let letter : ℕ = form.letter in
    let rest : List ℕ = form.sign ++ (form.digits ++ others) in
    let n : ℕ = length number + (1 + (length form.sign + length form.digits)) in
    let tail : 1 + (length form.sign + length form.digits) ≤ exponent_len (letter ∷ rest) = exponent_tail letter form.sign form.digits others form.is_e form.is_sign form.some in
    let len : length front ≡ n = ap length form.all ∙ length-append number (letter ∷ (form.sign ++ form.digits)) ∙ omega (arith, length-append form.sign form.digits) in
    let bytes : front ++ others ≡ number ++ (letter ∷ rest) =
    ap (λ (bs : List ℕ). bs ++ others) form.all ∙ append_assoc number (letter ∷ (form.sign ++ form.digits)) others ∙ ap (λ (bs : List ℕ). number ++ (letter ∷ bs)) (append_assoc form.sign form.digits others) in
    carry (length front) n (front ++ others) (number ++ (letter ∷ rest)) len bytes
    (elim form.number [
      | inl is_number ↦ number_exponent n number letter rest is_number form.is_e (omega (arith, tail))
      | inr decimal ↦
          let long : length number ≡ length decimal.whole + (1 + length decimal.part) = ap length decimal.all ∙ length-append decimal.whole (46 ∷ decimal.part) ∙ omega arith in
          carry n n (number ++ (letter ∷ rest)) (decimal.whole ++ (46 ∷ (decimal.part ++ (letter ∷ rest)))) refl
          (ap (λ (bs : List ℕ). bs ++ (letter ∷ rest)) decimal.all ∙ append_assoc decimal.whole (46 ∷ decimal.part) (letter ∷ rest))
          (decimal_exponent n decimal.whole decimal.part letter rest decimal.before decimal.behind form.is_e (omega (arith, tail, long)))
    ])

-- an unsized number with the bytes behind it
unsized_bytes : (front others : List ℕ) (form : IsUnsized front) → front ++ others ≡ 39 ∷ tail_of form.sign form.letter form.blanks form.digits others
unsized_bytes front others form =
    ap (λ (bs : List ℕ). bs ++ others) form.all
    ∙ ap (λ (bs : List ℕ). 39 ∷ bs) (append_assoc form.sign (form.letter ∷ (form.blanks ++ form.digits)) others
    ∙ ap (λ (bs : List ℕ). form.sign ++ (form.letter ∷ bs)) (append_assoc form.blanks form.digits others))

unsized_length : (front : List ℕ) (form : IsUnsized front) → length front ≡ 1 + (length form.sign + (1 + (length form.blanks + length form.digits)))
unsized_length front form =
    ap length form.all ∙ omega (arith, length-append form.sign (form.letter ∷ (form.blanks ++ form.digits)), length-append form.blanks form.digits)

unsized_longer : (front others : List ℕ) (form : IsUnsized front) → Longer (length front) (39 ∷ tail_of form.sign form.letter form.blanks form.digits others)
unsized_longer front others form =
    subst (λ n. Longer n (39 ∷ tail_of form.sign form.letter form.blanks form.digits others)) (sym (unsized_length front form))
    (unsized_len form.sign form.letter form.base form.blanks form.digits others form.is_sign form.is_base form.are_blank form.some form.are_digits)

unsized_form : (front others : List ℕ) → IsUnsized front → Reaches (length front) (plain_at (front ++ others))
unsized_form front others form =
    let tail : List ℕ = tail_of form.sign form.letter form.blanks form.digits others in
    carry (length front) (length front) (front ++ others) (39 ∷ tail) refl (unsized_bytes front others form) (unsized_reaches (length front) tail (unsized_longer front others form))

sized_form : (front others : List ℕ) → IsSized front → Reaches (length front) (plain_at (front ++ others))
sized_form front others form =
    let size : List ℕ = form.size in
    let rest : IsUnsized form.rest = form.is_rest in
    let tail : List ℕ = tail_of rest.sign rest.letter rest.blanks rest.digits others in
    let len : length front ≡ length size + (length form.blanks + length form.rest) = ap length form.all ∙ length-append size (form.blanks ++ form.rest) ∙ ap (λ k. length size + k) (length-append form.blanks form.rest) in
    let bytes : front ++ others ≡ size ++ (form.blanks ++ (39 ∷ tail)) =
    ap (λ (bs : List ℕ). bs ++ others) form.all ∙ append_assoc size (form.blanks ++ form.rest) others
    ∙ ap (λ (bs : List ℕ). size ++ bs) (append_assoc form.blanks form.rest others ∙ ap (λ (bs : List ℕ). form.blanks ++ bs) (unsized_bytes form.rest others rest)) in
    carry (length front) (length front) (front ++ others) (size ++ (form.blanks ++ (39 ∷ tail))) refl bytes
    (sized_reaches (length front) (length form.rest) size form.blanks tail form.is_size form.are_blank (unsized_longer form.rest others rest) (omega (arith, len)))

meets : (n : ℕ) (bytes : List ℕ) (piece : Piece) → piece_at false bytes ≡ Ok piece → Reaches n (plain_at bytes) → n ≤ piece.len
unfolding piece_at
meets n bytes piece found reaches = subst (λ (f : PieceOrFault). Reaches n f) found reaches

form_meets : (shape : TokenKind) (front others : List ℕ) (piece : Piece) → 0 < piece.len → piece_at false (front ++ others) ≡ Ok piece → IsFormOf shape front → length front ≤ piece.len
form_meets kind.Name front others piece some found (inl word) = meets (length front) (front ++ others) piece found (word_reaches front others word.0)
form_meets kind.Name front others piece some found (inr form) = meets (length front) (front ++ others) piece found (name_form front others form)
form_meets kind.Word front others piece some found form = meets (length front) (front ++ others) piece found (word_reaches front others form.0)
form_meets kind.Number front others piece some found form = meets (length front) (front ++ others) piece found (number_reaches front others form)
form_meets kind.Decimal front others piece some found form = meets (length front) (front ++ others) piece found (decimal_form front others form)
form_meets kind.Exponent front others piece some found form = meets (length front) (front ++ others) piece found (exponent_form front others form)
form_meets kind.Based front others piece some found (inl form) = meets (length front) (front ++ others) piece found (unsized_form front others form)
form_meets kind.Based front others piece some found (inr form) = meets (length front) (front ++ others) piece found (sized_form front others form)
form_meets kind.Text front others piece some found form = meets (length front) (front ++ others) piece found (text_form front others form)
form_meets kind.Directive front others piece some found form = meets (length front) (front ++ others) piece found (directive_form front others form)
form_meets kind.Symbol front others piece some found form = let one : length front ≡ 1 = ap length form.all in omega (arith, one, some)
form_meets kind.Mark front others piece some found form = let one : length front ≡ 1 = ap length form.all in omega (arith, one, some)
form_meets kind.End front others piece some found form = absurd form

pub reaches_longest : (text : List ℕ) (at : ℕ) (piece : Piece) → Stands text false at piece → IsLongest (drop at text) piece.len
reaches_longest text at piece stands shape front others is form =
    form_meets shape front others piece stands.some (ap (piece_at false) (sym is) ∙ stands.found) form
