-- What is left to read, and the steps that reading is made of.
use Rattle.std.specs.Prelude.{◌≡◌, ◌≢◌, ℕ, zero, suc, ◌+◌, Bool, true, false, ◌==◌, if◌then◌else◌, List, [], ◌∷◌, ◌++◌, length, Option, Some, None, Result, Ok, Err}
use Rattle.std.specs.Str.{bytes_eq}
use Rattle.name_table.specs.Names.{is_among}
use Rattle.v_lexer.specs.declared.token.Token.{Token}
use Rattle.v_lexer.specs.declared.token.TokenKind.{TokenKind}
use Rattle.v_lexer.specs.declared.token.TokenKind.TheVariants as kind
use Rattle.v_lexer.specs.declared.values.Literal.{Literal}
use Rattle.v_lexer.specs.Words.{left_out_words}
use Rattle.v_tree.specs.declared.locations.Location.{Location}
use Rattle.v_tree.specs.declared.locations.Name.{Name}
use Rattle.v_lexer.specs.Sound.{bytes_of}
use Rattle.v_tree.specs.Written.{Form, form_of}
use Rattle.v_tree.specs.Written as form
use Rattle.v_parser.specs.declared.fault.ParseFault.{ParseFault}
use Rattle.v_parser.specs.declared.fault.ParseFault.TheVariants.{Unsupported, Syntax, Memory}

-- a text, the tokens that are left, and the number of the first of them
pub record Input : Type 0 where
  pub text : List ℕ
  pub tokens : List Token
  pub number : ℕ

-- ---- the next token

abbrev pub front_in : List ℕ → List Token → Form
front_in text [] = form.Other
front_in text (token ∷ tokens) = form_of text token

-- what the next token says
unfoldable pub front : Input → Form
front i = front_in i.text i.tokens

abbrev pub line_in : List Token → ℕ
line_in [] = 0
line_in (token ∷ tokens) = token.line

-- where the next token stands
unfoldable pub location : Input → Location
location i = record { line = line_in i.tokens; token = i.number }

abbrev pub next_in : List ℕ → ℕ → List Token → Input
next_in text number [] = record { text = text; tokens = []; number = number }
next_in text number (token ∷ tokens) = record { text = text; tokens = tokens; number = number + 1 }

-- what is left after the next token
unfoldable pub next : Input → Input
next i = next_in i.text i.number i.tokens

abbrev pub kind_in : List Token → TokenKind
kind_in [] = kind.End
kind_in (token ∷ tokens) = token.kind

-- the kind of the next token
unfoldable pub kind_of : Input → TokenKind
kind_of i = kind_in i.tokens

abbrev pub bytes_in : List ℕ → List Token → List ℕ
bytes_in text [] = []
bytes_in text (token ∷ tokens) = bytes_of text token

-- the bytes of the next token
unfoldable pub bytes : Input → List ℕ
bytes i = bytes_in i.text i.tokens

-- ---- refusals

-- a token of a kind belongs to what the grammar leaves out
abbrev pub is_left_out : TokenKind → List ℕ → Bool
is_left_out kind.Directive bytes = true
is_left_out kind.Decimal bytes = true
is_left_out kind.Exponent bytes = true
is_left_out kind.Word bytes = is_among bytes left_out_words
is_left_out _ bytes = false

abbrev pub is_unsupported_in : List ℕ → List Token → Bool
is_unsupported_in text [] = false
is_unsupported_in text (token ∷ tokens) = is_left_out token.kind (bytes_of text token)

-- why the next token is refused
unfoldable pub refusal : Input → ParseFault
refusal i = if is_unsupported_in i.text i.tokens then Unsupported i.number else Syntax i.number

-- ---- readers

abbrev pub Outcome : Type 0 → Type 0
Outcome A = Result (A × Input) ParseFault

abbrev pub Reader : Type 0 → Type 0
Reader A = Input → Outcome A

abbrev pub and_then : {A B : Type 0} → Outcome A → (A → Reader B) → Outcome B
and_then (Ok p) f = f p.0 p.1
and_then (Err e) f = Err e

infixl 10 ◌>>=◌
abbrev pub ◌>>=◌ : {A B : Type 0} → Reader A → (A → Reader B) → Reader B
p >>= f = λ i. and_then (p i) f

-- nothing is read
abbrev pub pure : {A : Type 0} → A → Reader A
pure a = λ i. Ok (a, i)

infixr 11 ◌<$>◌
-- what is read, seen by a function
abbrev pub ◌<$>◌ : {A B : Type 0} → (A → B) → Reader A → Reader B
f <$> p = p >>= (λ x. pure (f x))

infixr 12 ◌&◌
-- one part after the other
abbrev pub ◌&◌ : {A B : Type 0} → Reader A → Reader B → Reader (A × B)
p & q = p >>= (λ x. (λ y. (x, y)) <$> q)

-- the next token is refused
abbrev pub refuse : {A : Type 0} → Reader A
refuse = λ i. Err (refusal i)

abbrev pub token_by : {A : Type 0} → Option A → Reader (A × Location)
token_by None = refuse
token_by (Some x) = λ i. Ok ((x, location i), next i)

-- one token, with what `pick` has for it, and its location
abbrev pub token : {A : Type 0} → (Form → Option A) → Reader (A × Location)
token pick = λ i. token_by (pick (front i)) i

-- the location of the next token, which isn't taken
abbrev pub here : Reader Location
here = λ i. Ok (location i, i)

-- ---- tokens

abbrev pub name_in : Form → Option (List ℕ)
name_in (form.Name text) = Some text
name_in _ = None

unfoldable pub name : Reader Name
name = (λ p. record { location = p.1; text = p.0 }) <$> token name_in

abbrev pub number_in : Form → Option ℕ
number_in (form.Number n) = Some n
number_in _ = None

-- a number, with its location
unfoldable pub placed_number : Reader (ℕ × Location)
placed_number = token number_in

unfoldable pub number : Reader ℕ
number = (λ p. p.0) <$> placed_number

abbrev pub based_in : Form → Option Literal
based_in (form.Based literal) = Some literal
based_in _ = None

-- a based number, with its location
unfoldable pub placed_based : Reader (Literal × Location)
placed_based = token based_in

abbrev pub is_name : Form → Bool
is_name (form.Name text) = true
is_name _ = false

abbrev pub is_number : Form → Bool
is_number (form.Number n) = true
is_number _ = false

abbrev pub is_based : Form → Bool
is_based (form.Based literal) = true
is_based _ = false

-- the end of the text
abbrev pub is_finish : Form → Bool
is_finish form.End = true
is_finish _ = false

abbrev pub is_mark : ℕ → Form → Bool
is_mark byte (form.Mark b) = b == byte
is_mark byte _ = false

abbrev pub is_word : List ℕ → Form → Bool
is_word word (form.Word w) = bytes_eq w word
is_word word _ = false

-- a symbol of a table
abbrev pub is_symbol : ℕ → Form → Bool
is_symbol byte (form.Symbol b) = b == byte
is_symbol byte _ = false

abbrev pub symbol_in : Form → Option ℕ
symbol_in (form.Symbol b) = Some b
symbol_in _ = None

abbrev pub word_in : Form → Option (List ℕ)
word_in (form.Word w) = Some w
word_in _ = None

-- a directive, with its backquote
abbrev pub directive_in : Form → Option (List ℕ)
directive_in (form.Directive d) = Some d
directive_in _ = None

abbrev pub is_directive : List ℕ → Form → Bool
is_directive bytes (form.Directive d) = bytes_eq d bytes
is_directive bytes _ = false

abbrev pub where_true : Bool → Option (Unit {0})
where_true b = if b then Some tt else None

-- a mark, with its location
unfoldable pub mark : ℕ → Reader Location
mark byte = (λ p. p.1) <$> token (λ f. where_true (is_mark byte f))

-- a mark
unfoldable pub skip : ℕ → Reader (Unit {0})
skip byte = (λ p. p.0) <$> token (λ f. where_true (is_mark byte f))

-- a symbol of a table
unfoldable pub skip_symbol : ℕ → Reader (Unit {0})
skip_symbol byte = (λ p. p.0) <$> token (λ f. where_true (is_symbol byte f))

-- a word, with its location
unfoldable pub word : List ℕ → Reader Location
word bytes = (λ p. p.1) <$> token (λ f. where_true (is_word bytes f))

-- a word
unfoldable pub skip_word : List ℕ → Reader (Unit {0})
skip_word bytes = (λ p. p.0) <$> token (λ f. where_true (is_word bytes f))

-- a directive, with its location
unfoldable pub directive_word : List ℕ → Reader Location
directive_word bytes = (λ p. p.1) <$> token (λ f. where_true (is_directive bytes f))

-- the end of the text
unfoldable pub finish : Reader (Unit {0})
finish = (λ p. p.0) <$> token (λ f. where_true (is_finish f))

-- ---- parts that may be there, and lists

-- a part that is there where the next two tokens say so
unfoldable pub optional : {A : Type 0} → (Form → Form → Bool) → Reader A → Reader (Option A)
optional sees p = λ i. if sees (front i) (front (next i)) then (Some <$> p) i else Ok (None, i)

-- one of two readers, by the next two tokens
unfoldable pub choice : {A : Type 0} → (Form → Form → Bool) → Reader A → Reader A → Reader A
choice sees p q = λ i. if sees (front i) (front (next i)) then p i else q i

-- what is left after a comma, where one comes next
abbrev pub after_comma : Input → Input
after_comma i = if is_mark 44 (front i) then next i else i

-- parts, each behind a comma, put behind those that were found, in so many turns at most
unfoldable pub commas_from : {A : Type 0} → Reader A → ℕ → List A → Reader (List A)
commas_from p zero found = pure found
commas_from p (suc n) found = λ i. if is_mark 44 (front i)
    then (p >>= λ x. commas_from p n (found ++ x ∷ [])) (next i) else Ok (found, i)

-- parts, each behind a comma, put behind those that were found: each takes a token, so as many turns as tokens are enough
unfoldable pub commas : {A : Type 0} → Reader A → List A → Reader (List A)
commas p found = λ i. commas_from p (length i.tokens) found i

-- one part or several, with commas between
unfoldable pub comma_list : {A : Type 0} → Reader A → Reader (List A)
comma_list p = p >>= λ x. commas p (x ∷ [])

-- parts up to a token that ends them, in so many turns at most
unfoldable pub many_from : {A : Type 0} → (Form → Bool) → Reader A → ℕ → List A → Reader (List A)
many_from stops p zero found = pure found
many_from stops p (suc n) found = λ i. if stops (front i) then Ok (found, i)
    else (p >>= λ x. many_from stops p n (found ++ x ∷ [])) i

-- parts up to a token that ends them, put behind those that were found
unfoldable pub many_after : {A : Type 0} → (Form → Bool) → Reader A → List A → Reader (List A)
many_after stops p found = λ i. many_from stops p (length i.tokens) found i

-- parts up to a token that ends them
unfoldable pub many : {A : Type 0} → (Form → Bool) → Reader A → Reader (List A)
many stops p = many_after stops p []

-- one part or several, up to a token that ends them
unfoldable pub some : {A : Type 0} → (Form → Bool) → Reader A → Reader (List A)
some stops p = p >>= λ x. many_after stops p (x ∷ [])

-- ---- what a function that reads ensures

-- the outcome, unless memory runs out
abbrev pub Reads : {A : Type 0} → Outcome A → Result A ParseFault → Input → Type 0
Reads outcome (Ok a) new = outcome ≡ Ok (a, new)
Reads outcome (Err e) new = e ≢ Memory → outcome ≡ Err e
