-- The tokens of a text as a relation: the text is pieces, one after the other, each a token, blanks, a comment or an attribute.
use Rattle.std.specs.Prelude.{ℕ, ◌+◌, ◌<◌, ◌≤◌, ◌≡◌, Bool, false, List, [], ◌∷◌, ◌++◌, length, take, drop, Ok, Err}
use Rattle.v_lexer.specs.declared.token.Token.{Token}
use Rattle.v_lexer.specs.declared.token.Piece.{Piece}
use Rattle.v_lexer.specs.declared.fault.FaultKind.{FaultKind}
use Rattle.v_lexer.specs.declared.fault.LexFault.{LexFault}
use Rattle.v_lexer.specs.declared.fault.LexFault.TheVariants as fault
use Rattle.v_lexer.specs.Pieces.{piece_at, table_after}
use Rattle.v_lexer.specs.Tokens.{lines_after, end_at, tokens_of_piece}

-- the line of an offset: 1, and the line feeds before it
abbrev pub line_of : List ℕ → ℕ → ℕ
line_of text at = lines_after 1 (take at text)

-- the piece is what stands at the offset, and lies in the text
pub record Stands (text : List ℕ) (table : Bool) (at : ℕ) (piece : Piece) : Type 0 where
  pub found : piece_at table (drop at text) ≡ Ok piece
  pub some : 0 < piece.len
  pub within : at + piece.len ≤ length text

-- from an offset on the text is these pieces up to its end, and these are the tokens among them
abbrev pub Reads : List ℕ → Bool → ℕ → List Piece → List Token → Type 0
Reads text table at [] tokens = (at ≡ length text) × (tokens ≡ end_at at (line_of text at) ∷ [])
Reads text table at (piece ∷ pieces) tokens =
    (others : List Token) × Stands text table at piece
    × (tokens ≡ tokens_of_piece at (line_of text at) piece.kind piece.len ++ others)
    × Reads text (table_after table piece (drop at text)) (at + piece.len) pieces others

-- from an offset on the text is these pieces up to a fault, which is in the line
abbrev pub Stops : List ℕ → FaultKind → ℕ → Bool → ℕ → List Piece → Type 0
Stops text wrong line table at [] = (at < length text)
    × (piece_at table (drop at text) ≡ Err wrong) × (line ≡ line_of text at)
Stops text wrong line table at (piece ∷ pieces) = Stands text table at piece
    × Stops text wrong line (table_after table piece (drop at text)) (at + piece.len) pieces

-- the text is pieces, and these are the tokens among them, and its end
abbrev pub AreTokensOf : List ℕ → List Token → Type 0
AreTokensOf text tokens = (pieces : List Piece) × Reads text false 0 pieces tokens

-- the text is pieces up to its first fault, which is in the line
abbrev pub StopsAt : List ℕ → FaultKind → ℕ → Type 0
StopsAt text wrong line = (pieces : List Piece) × Stops text wrong line false 0 pieces

-- the fault is the first of the text: want of memory says nothing of it
abbrev pub IsFaultOf : List ℕ → LexFault → Type 0
IsFaultOf text fault.Memory = Unit {0}
IsFaultOf text (fault.Faulty wrong line) = StopsAt text wrong line

-- each token begins at or after the end of the one before, and ends at or after its beginning
abbrev pub Rise : ℕ → List Token → Type 0
Rise from [] = Unit {0}
Rise from (token ∷ tokens) = (from ≤ token.start) × (token.start ≤ token.end)
    × Rise token.end tokens
