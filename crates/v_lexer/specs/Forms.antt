-- The forms of tokens, each said of all its bytes and without looking at what comes behind. A number may be too large in its form, and a based number have a fault.
use Rattle.std.specs.Prelude.{ℕ, ◌<◌, ◌≤◌, ◌≡◌, ◌⊎◌, ◌||◌, ◌==◌, Bool, not, IsTrue, List, [], ◌∷◌, ◌++◌, length, Some}
use Rattle.std.specs.List.{list_all}
use Rattle.std.specs.Char.{is_ascii_digit}
use Rattle.v_lexer.specs.declared.token.TokenKind.{TokenKind}
use Rattle.v_lexer.specs.declared.token.TokenKind.TheVariants as kind
use Rattle.v_lexer.specs.declared.literals.Base.{Base}
use Rattle.v_lexer.specs.Bytes.{first, is_letter, is_name_byte, is_number_byte, is_literal_byte, is_blank, is_visible}
use Rattle.v_lexer.specs.Literals.{base_of}
use Rattle.v_lexer.specs.Words.{is_reserved}
use Rattle.v_lexer.specs.Pieces.{is_symbol}

-- one or more digits
abbrev pub IsDigits : List ℕ → Type 0
IsDigits bytes = (0 < length bytes) × IsTrue (list_all is_ascii_digit bytes)

-- a letter or `_`, then letters, digits, `_` and `$`
abbrev pub IsWord : List ℕ → Type 0
IsWord bytes = IsTrue (is_letter (first bytes)) × IsTrue (list_all is_name_byte bytes)

-- `\` and bytes from `!` to `~`
pub record IsEscaped (bytes : List ℕ) : Type 0 where
  pub name : List ℕ
  pub some : 0 < length name
  pub visible : IsTrue (list_all is_visible name)
  pub all : bytes ≡ 92 ∷ name

-- a digit, then digits and `_`
abbrev pub IsNumber : List ℕ → Type 0
IsNumber bytes = IsTrue (is_ascii_digit (first bytes)) × IsTrue (list_all is_number_byte bytes)

-- digits, `.` and digits
pub record IsDecimal (bytes : List ℕ) : Type 0 where
  pub whole : List ℕ
  pub part : List ℕ
  pub before : IsDigits whole
  pub behind : IsDigits part
  pub all : bytes ≡ whole ++ (46 ∷ part)

-- a number or a decimal, `e` or `E`, an optional sign and digits
pub record IsExponent (bytes : List ℕ) : Type 0 where
  pub front : List ℕ
  pub letter : ℕ
  pub sign : List ℕ
  pub digits : List ℕ
  pub number : IsNumber front ⊎ IsDecimal front
  pub is_e : IsTrue (letter == 101 || letter == 69)
  pub is_sign : (sign ≡ []) ⊎ ((sign ≡ 43 ∷ []) ⊎ (sign ≡ 45 ∷ []))
  pub some : IsDigits digits
  pub all : bytes ≡ front ++ (letter ∷ (sign ++ digits))

-- `'`, an optional `s`, a base, optional blanks and digits, the first of which isn't `_`
pub record IsUnsized (bytes : List ℕ) : Type 0 where
  pub sign : List ℕ
  pub letter : ℕ
  pub base : Base
  pub blanks : List ℕ
  pub digits : List ℕ
  pub is_sign : (sign ≡ []) ⊎ ((sign ≡ 115 ∷ []) ⊎ (sign ≡ 83 ∷ []))
  pub is_base : base_of letter ≡ Some base
  pub are_blank : IsTrue (list_all is_blank blanks)
  pub some : 0 < length digits
  pub begins : IsTrue (not (first digits == 95))
  pub are_digits : IsTrue (list_all is_literal_byte digits)
  pub all : bytes ≡ 39 ∷ (sign ++ (letter ∷ (blanks ++ digits)))

-- a number, optional blanks and the rest from its `'` on
pub record IsSized (bytes : List ℕ) : Type 0 where
  pub size : List ℕ
  pub blanks : List ℕ
  pub rest : List ℕ
  pub is_size : IsNumber size
  pub are_blank : IsTrue (list_all is_blank blanks)
  pub is_rest : IsUnsized rest
  pub all : bytes ≡ size ++ (blanks ++ rest)

-- behind a byte: no line feed, each `"` has a `\` before it, and none stands at the end
abbrev pub IsInside : ℕ → List ℕ → Type 0
IsInside before [] = ¬ (before ≡ 92)
IsInside before (byte ∷ bytes) = ¬ (byte ≡ 10) × (byte ≡ 34 → before ≡ 92) × IsInside byte bytes

-- `"`, what is inside, and `"`
pub record IsText (bytes : List ℕ) : Type 0 where
  pub inside : List ℕ
  pub closed : IsInside 34 inside
  pub all : bytes ≡ 34 ∷ (inside ++ (34 ∷ []))

-- a backquote and the bytes of a name
pub record IsDirective (bytes : List ℕ) : Type 0 where
  pub name : List ℕ
  pub is_name : IsWord name
  pub all : bytes ≡ 96 ∷ name

-- a byte that another form begins with
abbrev pub begins_other : ℕ → Bool
begins_other byte = is_letter byte || is_ascii_digit byte || byte == 34 || byte == 92 || byte == 96
    || byte == 39

-- one byte from `!` to `~` that begins no other form
pub record IsMark (bytes : List ℕ) : Type 0 where
  pub byte : ℕ
  pub visible : IsTrue (is_visible byte)
  pub other : IsTrue (not (begins_other byte))
  pub all : bytes ≡ byte ∷ []

-- one byte that is a symbol of tables
pub record IsTableByte (bytes : List ℕ) : Type 0 where
  pub byte : ℕ
  pub symbol : IsTrue (is_symbol byte)
  pub all : bytes ≡ byte ∷ []

-- the bytes have the form of a kind
abbrev pub IsFormOf : TokenKind → List ℕ → Type 0
IsFormOf kind.Name bytes = (IsWord bytes × IsTrue (not (is_reserved bytes))) ⊎ IsEscaped bytes
IsFormOf kind.Word bytes = IsWord bytes × IsTrue (is_reserved bytes)
IsFormOf kind.Number bytes = IsNumber bytes
IsFormOf kind.Decimal bytes = IsDecimal bytes
IsFormOf kind.Exponent bytes = IsExponent bytes
IsFormOf kind.Based bytes = IsUnsized bytes ⊎ IsSized bytes
IsFormOf kind.Text bytes = IsText bytes
IsFormOf kind.Directive bytes = IsDirective bytes
IsFormOf kind.Symbol bytes = IsTableByte bytes
IsFormOf kind.Mark bytes = IsMark bytes
IsFormOf kind.End bytes = ⊥

-- no front of the text that is longer has the form of a token
abbrev pub IsLongest : List ℕ → ℕ → Type 0
IsLongest text len = (shape : TokenKind) (front others : List ℕ) → text ≡ front ++ others
    → IsFormOf shape front → length front ≤ len
