-- What stands at an offset of a text: a token, blanks, a comment, an attribute, or a fault.
use Rattle.std.specs.Prelude.{ℕ, ◌+◌, Bool, true, false, not, ◌&&◌, ◌==◌, nat_lt, List, take, drop, codes, Option, Some, None, Result, Ok, Err, if◌then◌else◌}
use Rattle.std.specs.List.{list_any}
use Rattle.std.specs.Char.{is_ascii_digit}
use Rattle.name_table.specs.Names.{same_name}
use Rattle.v_lexer.specs.declared.token.TokenKind.{TokenKind}
use Rattle.v_lexer.specs.declared.token.TokenKind.TheVariants as kind
use Rattle.v_lexer.specs.declared.token.Piece.{Piece}
use Rattle.v_lexer.specs.declared.fault.FaultKind.{FaultKind}
use Rattle.v_lexer.specs.declared.fault.FaultKind.TheVariants as fault
use Rattle.v_lexer.specs.Bytes.{is_letter, is_blank, is_visible, is_name_byte, name_run, number_run, blank_run, visible_run, line_run, first, begins}
use Rattle.v_lexer.specs.Quoted.{text_len}
use Rattle.v_lexer.specs.Gaps.{comment_len, attribute_len}
use Rattle.v_lexer.specs.Numbers.{decimal_value, decimal_len, exponent_len}
use Rattle.v_lexer.specs.Literals.{Form, form_at, holds}
use Rattle.v_lexer.specs.Words.{is_reserved}

-- the kind is that of reserved words
abbrev pub is_word : Option TokenKind → Bool
is_word (Some kind.Word) = true
is_word other = false

-- a token or a gap, or a fault
abbrev pub PieceOrFault : Type 0
PieceOrFault = Result Piece FaultKind

-- a token of the kind and the length
abbrev pub token : TokenKind → ℕ → PieceOrFault
token shape len = Ok (record { kind = Some shape; len = len })

-- bytes that are no token
abbrev pub gap : ℕ → PieceOrFault
gap len = Ok (record { kind = None; len = len })

-- a piece up to its end, or the fault where it has none
abbrev pub piece_to_end : Option TokenKind → FaultKind → Option ℕ → PieceOrFault
piece_to_end shape wrong None = Err wrong
piece_to_end shape wrong (Some len) = Ok (record { kind = shape; len = len })

-- one byte that begins nothing else
unfoldable pub mark_at : List ℕ → PieceOrFault
mark_at bytes = if is_visible (first bytes) then token kind.Mark 1 else Err fault.BadByte

-- a comment, or else the other
unfoldable pub slash_at : PieceOrFault → List ℕ → PieceOrFault
slash_at other bytes =
    if begins 47 47 bytes then gap (line_run bytes)
    else if begins 47 42 bytes then piece_to_end None fault.OpenComment (comment_len bytes)
    else other

-- an attribute, or the mark `(`
unfoldable pub open_at : List ℕ → PieceOrFault
open_at bytes =
    if begins 40 42 bytes && not (first (drop 2 bytes) == 41)
    then piece_to_end None fault.OpenComment (attribute_len bytes)
    else token kind.Mark 1

-- a text in quotes
unfoldable pub quote_at : List ℕ → PieceOrFault
quote_at bytes = piece_to_end (Some kind.Text) fault.OpenString (text_len bytes)

-- a `\` and one or more bytes from `!` to `~`
unfoldable pub escaped_at : List ℕ → PieceOrFault
escaped_at bytes = if nat_lt 0 (visible_run (drop 1 bytes))
    then token kind.Name (1 + visible_run (drop 1 bytes)) else Err fault.BadByte

-- a backquote and the bytes of a name
unfoldable pub directive_at : List ℕ → PieceOrFault
directive_at bytes = if is_letter (first (drop 1 bytes))
    then token kind.Directive (1 + name_run (drop 1 bytes)) else Err fault.BadByte

-- a name or a reserved word
unfoldable pub name_at : List ℕ → PieceOrFault
name_at bytes =
    token (if is_reserved (take (name_run bytes) bytes) then kind.Word else kind.Name)
    (name_run bytes)

-- a based number whose `'` stands at the offset, where it has none of its faults
unfoldable pub literal_with : Option ℕ → ℕ → Option Form → PieceOrFault
literal_with size offset None = Err fault.BadNumber
literal_with size offset (Some form) = if holds size form then token kind.Based (offset + form.len)
    else Err fault.BadNumber

abbrev pub literal_at : Option ℕ → ℕ → List ℕ → PieceOrFault
literal_at size offset bytes = literal_with size offset (form_at (drop offset bytes))

-- a number or a decimal of the length, or the exponent that begins with it
unfoldable pub exponent_at : TokenKind → ℕ → List ℕ → PieceOrFault
exponent_at shape len bytes =
    if nat_lt 0 (exponent_len (drop len bytes))
    then token kind.Exponent (len + exponent_len (drop len bytes))
    else token shape len

-- where a `'` may stand after a number of the length
abbrev pub quote_offset : ℕ → List ℕ → ℕ
quote_offset len bytes = len + blank_run (drop len bytes)

-- what begins with a number of the length
unfoldable pub whole_at : ℕ → List ℕ → PieceOrFault
whole_at len bytes =
    if not (nat_lt (decimal_value (take len bytes)) 2147483648) then Err fault.BadNumber
    else if first (drop (quote_offset len bytes) bytes) == 39
    then literal_at (Some (decimal_value (take len bytes))) (quote_offset len bytes) bytes
    else exponent_at kind.Number len bytes

-- what begins with a digit
unfoldable pub number_at : List ℕ → PieceOrFault
number_at bytes = if nat_lt 0 (decimal_len bytes)
    then exponent_at kind.Decimal (decimal_len bytes) bytes else whole_at (number_run bytes) bytes

-- what stands at the front of a text outside tables
unfoldable pub plain_at : List ℕ → PieceOrFault
plain_at bytes =
    if is_blank (first bytes) then gap (blank_run bytes)
    else if is_letter (first bytes) then name_at bytes
    else if is_ascii_digit (first bytes) then number_at bytes
    else if first bytes == 47 then slash_at (token kind.Mark 1) bytes
    else if first bytes == 40 then open_at bytes
    else if first bytes == 34 then quote_at bytes
    else if first bytes == 92 then escaped_at bytes
    else if first bytes == 96 then directive_at bytes
    else if first bytes == 39 then literal_at None 0 bytes
    else mark_at bytes

-- the symbols of a table, letters in both cases
unfoldable pub symbols : List ℕ
symbols = codes "01xX?bBrRfFpPnN*-():;"

unfoldable pub is_symbol : ℕ → Bool
is_symbol byte = list_any (λ symbol. byte == symbol) symbols

-- the word that ends a table, and no longer name
unfoldable pub is_table_end : List ℕ → Bool
is_table_end bytes = same_name (take 8 bytes) (codes "endtable")
    && not (is_name_byte (first (drop 8 bytes)))

-- what stands at the front of a text inside a table
unfoldable pub row_at : List ℕ → PieceOrFault
row_at bytes =
    if is_blank (first bytes) then gap (blank_run bytes)
    else if is_symbol (first bytes) then token kind.Symbol 1
    else if first bytes == 47 then slash_at (Err fault.BadByte) bytes
    else if is_table_end bytes then token kind.Word 8
    else Err fault.BadByte

-- what stands at the front of a text, inside a table or outside
unfoldable pub piece_at : Bool → List ℕ → PieceOrFault
piece_at table bytes = if table then row_at bytes else plain_at bytes

-- the word `table`
unfoldable pub is_table_word : List ℕ → Bool
is_table_word word = same_name word (codes "table")

-- whether what comes after a token or a gap is inside a table: from the word `table` to the next word, which is `endtable`
unfoldable pub table_after : Bool → Piece → List ℕ → Bool
table_after table piece bytes = if is_word piece.kind then not table
    && is_table_word (take piece.len bytes) else table
