-- The tokens of a text, or its first lexical fault.
use Rattle.std.specs.Prelude.{ℕ, zero, suc, ◌+◌, ◌-◌, Bool, false, ◌==◌, List, [], ◌∷◌, ◌++◌, Option, Some, None, Result, Ok, Err, if◌then◌else◌, ◌≡◌}
use Rattle.v_lexer.specs.declared.token.TokenKind.{TokenKind}
use Rattle.v_lexer.specs.declared.token.TokenKind.TheVariants.{End}
use Rattle.v_lexer.specs.declared.token.Token.{Token}
use Rattle.v_lexer.specs.declared.fault.LexFault.{LexFault}
use Rattle.v_lexer.specs.declared.fault.LexFault.TheVariants as fault
use Rattle.v_lexer.specs.Pieces.{PieceOrFault, piece_at, table_after}

-- tokens, or a fault with its line
abbrev pub TokensOrFault : Type 0
TokensOrFault = Result (List Token) LexFault

-- the line of what follows a byte
abbrev pub line_after : ℕ → ℕ → ℕ
line_after line byte = if byte == 10 then line + 1 else line

-- the line of what follows bytes
unfoldable pub lines_after : ℕ → List ℕ → ℕ
lines_after line [] = line
lines_after line (byte ∷ bytes) = lines_after (line_after line byte) bytes

-- the end of the text
abbrev pub end_at : ℕ → ℕ → Token
end_at at line = record { kind = End; start = at; end = at; line = line }

-- the tokens of a piece of a kind and a length at an offset of a line: one, and none for blanks, comments and attributes
abbrev pub tokens_of_piece : ℕ → ℕ → Option TokenKind → ℕ → List Token
tokens_of_piece at line None len = []
tokens_of_piece at line (Some kind) len = record { kind = kind; start = at; end = at + len; line = line } ∷ []

-- tokens before others
abbrev pub onto : List Token → TokensOrFault → TokensOrFault
onto tokens (Ok others) = Ok (tokens ++ others)
onto tokens (Err fault) = Err fault

-- the token of what stands at an offset of a line, and the tokens after it
unfoldable pub tokens_at : ℕ → ℕ → Bool → List ℕ → PieceOrFault → (ℕ → Bool → TokensOrFault) → TokensOrFault
tokens_at at line table bytes (Err wrong) rest = Err (fault.Faulty wrong line)
tokens_at at line table bytes (Ok piece) rest =
    onto (tokens_of_piece at line piece.kind piece.len) (rest (piece.len - 1) (table_after table piece bytes))

-- the tokens from an offset of a line on, whose first `inside` bytes belong to what began before
unfoldable pub tokens_from : ℕ → Bool → ℕ → ℕ → List ℕ → TokensOrFault
tokens_from inside table at line [] = Ok (end_at at line ∷ [])
tokens_from (suc inside) table at line (byte ∷ bytes) =
    tokens_from inside table (at + 1) (line_after line byte) bytes
tokens_from zero table at line (byte ∷ bytes) =
    tokens_at at line table (byte ∷ bytes) (piece_at table (byte ∷ bytes))
    (λ inside after. tokens_from inside after (at + 1) (line_after line byte) bytes)

-- the tokens of a text, or its first lexical fault
unfoldable pub tokens_of : List ℕ → TokensOrFault
tokens_of text = tokens_from 0 false 0 1 text

-- a fault, where the answer is known: want of memory says nothing of it
abbrev pub Fails : LexFault → TokensOrFault → Type 0
Fails fault.Memory answer = Unit {0}
Fails (fault.Faulty wrong line) answer = answer ≡ Err (fault.Faulty wrong line)

-- what was returned, seen by `view`, is the answer, unless memory ran out
abbrev pub Gives : {X : Type 0} → (X → List Token) → Result X LexFault → TokensOrFault → Type 0
Gives view (Ok x) answer = answer ≡ Ok (view x)
Gives view (Err wrong) answer = Fails wrong answer
