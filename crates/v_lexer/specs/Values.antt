-- What the tokens of names, numbers and based numbers mean.
use Rattle.std.specs.Prelude.{ℕ, ◌+◌, ◌-◌, ◌==◌, nat_lt, List, map, take, drop, Option, Some, None, if◌then◌else◌}
use Rattle.v_lexer.specs.declared.values.Literal.{Literal}
use Rattle.v_lexer.specs.declared.values.DecimalDigits.{DecimalDigits}
use Rattle.v_lexer.specs.Bytes.{first, number_run, digit_run}
use Rattle.v_lexer.specs.Numbers.{decimal_value}
use Rattle.v_lexer.specs.Literals.{Form, form_at, holds, bits_in, extension_of}
use Rattle.v_lexer.specs.Pieces.{quote_offset}

-- the text of a name: an escaped one is without its `\`
abbrev pub name_text : List ℕ → List ℕ
name_text token = if first token == 92 then drop 1 token else token

-- digits as numbers from 0 to 9
abbrev pub digits_in : List ℕ → List ℕ
digits_in bytes = map (λ byte. byte - 48) bytes

-- the digits of a decimal before and behind its `.`
abbrev pub decimal_digits : List ℕ → DecimalDigits
decimal_digits token =
    record {
      whole = digits_in (take (digit_run token) token);
      fraction = digits_in (drop (digit_run token + 1) token);
    }

-- how many bits a based number has: 32 without size
abbrev pub width_of : Option ℕ → ℕ
width_of None = 32
width_of (Some size) = size

-- the meaning of a based number of a size, where it has none of its faults
unfoldable pub meaning : Option ℕ → Option Form → Option Literal
meaning size None = None
meaning size (Some form) =
    if holds size form then
    Some (record {
      size = size;
      signed = form.signed;
      base = form.base;
      bits = bits_in (width_of size) form.base form.digits;
      extension = extension_of form.digits;
    })
    else None

-- the meaning of the based number at the front of a text, where one without faults is there
unfoldable pub literal_of : List ℕ → Option Literal
literal_of text =
    if number_run text == 0 then meaning None (form_at text)
    else if nat_lt (decimal_value (take (number_run text) text)) 2147483648 then
    meaning (Some (decimal_value (take (number_run text) text)))
    (form_at (drop (quote_offset (number_run text) text) text))
    else None
