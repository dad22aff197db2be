-- What holds of each token of a text, for those who walk down the list.
use Rattle.std.specs.Prelude.{ℕ, ◌+◌, ◌<◌, ◌≤◌, ◌≡◌, IsTrue, List, [], ◌∷◌, length, slice_range, Some}
use Rattle.std.specs.List.{All, AllByRecursion}
use Rattle.v_lexer.specs.declared.token.Token.{Token}
use Rattle.v_lexer.specs.declared.token.TokenKind.TheVariants as kind
use Rattle.v_lexer.specs.declared.values.Literal.{Literal}
use Rattle.v_lexer.specs.Bytes.{first, is_visible}
use Rattle.v_lexer.specs.Numbers.{decimal_value}
use Rattle.v_lexer.specs.Words.{is_reserved}
use Rattle.v_lexer.specs.Pieces.{is_symbol}
use Rattle.v_lexer.specs.Forms.{IsFormOf}
use Rattle.v_lexer.specs.Reading.{line_of}
use Rattle.v_lexer.specs.Values.{name_text, decimal_digits, width_of, literal_of}

-- the bytes of a token
abbrev pub bytes_of : List ℕ → Token → List ℕ
bytes_of text token = slice_range text token.start token.end

-- one or more bytes from `!` to `~`
pub record IsVisible (bytes : List ℕ) : Type 0 where
  pub some : 0 < length bytes
  pub visible : All (λ byte. (33 ≤ byte) × (byte ≤ 126)) bytes

-- a based number means this, with 1 to 128 bits, as many as its size or 32
pub record HasBits (bytes : List ℕ) : Type 0 where
  pub literal : Literal
  pub means : literal_of bytes ≡ Some literal
  pub width : length literal.bits ≡ width_of literal.size
  pub some : 1 ≤ length literal.bits
  pub few : length literal.bits ≤ 128

-- one or more digits, each from 0 to 9
pub record AreDigits (digits : List ℕ) : Type 0 where
  pub some : 0 < length digits
  pub each : AllByRecursion (λ digit. digit < 10) digits

-- a decimal has digits before and behind its `.`, and no more of either than bytes
pub record HasDigits (bytes : List ℕ) : Type 0 where
  pub whole : AreDigits (decimal_digits bytes).whole
  pub fraction : AreDigits (decimal_digits bytes).fraction
  pub few_whole : length (decimal_digits bytes).whole ≤ length bytes
  pub few_fraction : length (decimal_digits bytes).fraction ≤ length bytes

-- a token lies in the text, has the line of its first byte, and its bytes are what its kind says
pub record IsSound (text : List ℕ) (token : Token) : Type 0 where
  pub ordered : token.start ≤ token.end
  pub within : token.end ≤ length text
  pub line : token.line ≡ line_of text token.start
  pub some : ¬ (token.kind ≡ kind.End) → token.start < token.end
  pub form : ¬ (token.kind ≡ kind.End) → IsFormOf token.kind (bytes_of text token)
  pub name : token.kind ≡ kind.Name → IsVisible (name_text (bytes_of text token))
  pub word : token.kind ≡ kind.Word → IsTrue (is_reserved (bytes_of text token))
  pub number : token.kind ≡ kind.Number → decimal_value (bytes_of text token) < 2147483648
  pub decimal : token.kind ≡ kind.Decimal → HasDigits (bytes_of text token)
  pub based : token.kind ≡ kind.Based → HasBits (bytes_of text token)
  pub symbol : token.kind ≡ kind.Symbol → (token.end ≡ token.start + 1)
      × IsTrue (is_symbol (first (bytes_of text token)))
  pub mark : token.kind ≡ kind.Mark → (token.end ≡ token.start + 1)
      × IsTrue (is_visible (first (bytes_of text token)))
  pub last : token.kind ≡ kind.End → token.start ≡ length text

-- each token is sound, the last is the end of the text, and no other is
abbrev pub AreSound : List ℕ → List Token → Type 0
AreSound text [] = ⊥
AreSound text (token ∷ others) =
    IsSound text token × (token.kind ≡ kind.End → others ≡ [])
    × (¬ (token.kind ≡ kind.End) → AreSound text others)
