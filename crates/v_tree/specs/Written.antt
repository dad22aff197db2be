-- The tokens with which a part of a tree is written.
use Rattle.std.specs.Prelude.{◌≡◌, ◌≢◌, codes, ℕ, ◌+◌, nat_lt, List, [], ◌∷◌, ◌++◌, Option, Some, None, if◌then◌else◌}
use Rattle.v_lexer.specs.declared.token.Token.{Token}
use Rattle.v_lexer.specs.declared.token.TokenKind.{TokenKind}
use Rattle.v_lexer.specs.declared.token.TokenKind.TheVariants as kind
use Rattle.v_lexer.specs.declared.values.Literal.{Literal}
use Rattle.v_lexer.specs.declared.values.DecimalDigits.{DecimalDigits}
use Rattle.v_lexer.specs.Bytes.{first}
use Rattle.v_lexer.specs.Numbers.{decimal_value}
use Rattle.v_lexer.specs.Sound.{bytes_of}
use Rattle.v_lexer.specs.Values.{name_text, decimal_digits, literal_of}
use Rattle.v_tree.specs.declared.locations.Location.{Location}

-- what a token says, apart from its location: a name, a reserved word, the value of a number, the digits of a decimal, the meaning of a based number, a directive, a mark, a symbol of a table, the end of the text, or something that the grammar has nowhere
pub data Form : Type 0 where
  Name : List ℕ → Form
  Word : List ℕ → Form
  Number : ℕ → Form
  Decimal : DecimalDigits → Form
  Based : Literal → Form
  Directive : List ℕ → Form
  Mark : ℕ → Form
  Symbol : ℕ → Form
  End : Form
  Other : Form

abbrev pub number_form : ℕ → Form
number_form value = if nat_lt value 2147483648 then Number value else Other

abbrev pub based_form : Option Literal → Form
based_form None = Other
based_form (Some literal) = Based literal

-- a capital as a small letter, another byte as it is
abbrev pub lower : ℕ → ℕ
lower byte = if nat_lt byte 65 then byte else if nat_lt 90 byte then byte else byte + 32

-- what a token of a kind says by its bytes: a symbol means the same in capitals
abbrev pub form_by : TokenKind → List ℕ → Form
form_by kind.Name bytes = Name (name_text bytes)
form_by kind.Word bytes = Word bytes
form_by kind.Number bytes = number_form (decimal_value bytes)
form_by kind.Decimal bytes = Decimal (decimal_digits bytes)
form_by kind.Exponent bytes = Other
form_by kind.Based bytes = based_form (literal_of bytes)
form_by kind.Text bytes = Other
form_by kind.Directive bytes = Directive bytes
form_by kind.Symbol bytes = Symbol (lower (first bytes))
form_by kind.Mark bytes = Mark (first bytes)
form_by kind.End bytes = End

-- what a token of a text says
unfoldable pub form_of : List ℕ → Token → Form
form_of text token = form_by token.kind (bytes_of text token)

-- a token as a tree writes it: what it says, and its location where the tree keeps it
pub record Written : Type 0 where
  pub form : Form
  pub location : Option Location

-- a token whose location the tree keeps
abbrev pub at : Location → Form → Written
at location form = record { form = form; location = Some location }

-- a token whose location the tree doesn't keep
abbrev pub bare : Form → Written
bare form = record { form = form; location = None }

-- what is written, where the location of its first token is kept
abbrev pub placed_first : Location → List Written → List Written
placed_first location [] = []
placed_first location (w ∷ ws) = at location w.form ∷ ws

-- a location is the one that is kept, where one is
abbrev pub IsKept : Option Location → Location → Type 0
IsKept None location = Unit {0}
IsKept (Some kept) location = kept ≡ location

-- the token of a number stands there for what is written
pub record Stands (text : List ℕ) (number : ℕ) (token : Token) (written : Written) : Type 0 where
  pub form : form_of text token ≡ written.form
  pub location : IsKept written.location (record { line = token.line; token = number })

-- what a tree says of one token: that it is as written, or that it is one inside a block
pub data Spelled : Type 0 where
  Exactly : Written → Spelled
  Inside : Spelled

-- inside a block stands any token but the word that ends it and the end of the text
pub record IsInside (form : Form) : Type 0 where
  pub goes_on : form ≢ Word (codes "endspecify")
  pub more : form ≢ End

-- a token that is spelled so, with its number
abbrev pub Meets : List ℕ → ℕ → Token → Spelled → Type 0
Meets text number token (Exactly written) = Stands text number token written
Meets text number token Inside = IsInside (form_of text token)

-- the tokens of a text, numbered from a number on, are spelled so, one by one
abbrev pub AreWritten : List ℕ → ℕ → List Token → List Spelled → Type 0
AreWritten text number [] [] = Unit {0}
AreWritten text number (token ∷ tokens) (spelled ∷ others) = Meets text number token spelled
    × AreWritten text (number + 1) tokens others
AreWritten text number [] (spelled ∷ others) = ⊥
AreWritten text number (token ∷ tokens) [] = ⊥

-- tokens that are all as written
abbrev pub exactly : List Written → List Spelled
exactly [] = []
exactly (written ∷ others) = Exactly written ∷ exactly others

-- ---- lists and parts that may be there

abbrev pub written_if_there : {A : Type 0} → (A → List Written) → Option A → List Written
written_if_there written None = []
written_if_there written (Some x) = written x

-- parts, each behind a comma
abbrev pub behind_commas : {A : Type 0} → (A → List Written) → List A → List Written
behind_commas written [] = []
behind_commas written (x ∷ xs) = bare (Mark 44) ∷ (written x ++ behind_commas written xs)

-- one part or several, with commas between
abbrev pub between_commas : {A : Type 0} → (A → List Written) → List A → List Written
between_commas written [] = []
between_commas written (x ∷ xs) = written x ++ behind_commas written xs

-- parts, one after the other
abbrev pub one_by_one : {A B : Type 0} → (A → List B) → List A → List B
one_by_one written [] = []
one_by_one written (x ∷ xs) = written x ++ one_by_one written xs
