-- What the function says is what the relation says, for each text.
use Rattle.std.proofs.Common.{◌≡◌, ℕ, zero, suc, ◌+◌, ◌≤◌, ◌<◌, Bool, true, false, nat_lt, List, [], ◌∷◌, length, drop, refl, sym, subst, arith, length-drop}
use Rattle.std.proofs.lemmas.Bool.{ltb-true, ltb-false}
use Rattle.std.specs.Prelude.{Result, Ok, Err, IfOk, IfErr}
use Rattle.v_lexer.specs.declared.token.Token.{Token}
use Rattle.v_lexer.specs.declared.token.Piece.{Piece}
use Rattle.v_lexer.specs.declared.fault.FaultKind.{FaultKind}
use Rattle.v_lexer.specs.declared.fault.LexFault.{LexFault}
use Rattle.v_lexer.specs.declared.fault.LexFault.TheVariants.{Faulty, Memory}
use Rattle.v_lexer.specs.Pieces.{PieceOrFault, piece_at, table_after}
use Rattle.v_lexer.specs.Tokens.{TokensOrFault, lines_after, tokens_of_piece, onto, tokens_from, tokens_of, Gives}
use Rattle.v_lexer.specs.Reading.{line_of, Stands, Reads, Stops, AreTokensOf, StopsAt, IsFaultOf}
use Rattle.v_lexer.proofs.Whole.{front_fails}
use Rattle.v_lexer.proofs.Within.{piece_within}
use Rattle.v_lexer.proofs.Agreement.{at_end, tokens_step, fault_of}

-- from an offset on the tokens are those of pieces, or the fault is the first behind pieces
abbrev Answers : List ℕ → Bool → ℕ → TokensOrFault → Type 0
Answers text table at (Ok tokens) = (pieces : List Piece) × Reads text table at pieces tokens
Answers text table at (Err fault) = (wrong : FaultKind) × (line : ℕ) × (pieces : List Piece) × (fault ≡ Faulty wrong line) × Stops text wrong line table at pieces

-- one piece more
answers_more : (text : List ℕ) (table : Bool) (at : ℕ) (piece : Piece) (lexed : TokensOrFault) → Stands text table at piece → Answers text (table_after table piece (drop at text)) (at + piece.len) lexed
    → Answers text table at (onto (tokens_of_piece at (line_of text at) piece.kind piece.len) lexed)
answers_more text table at piece (Ok tokens) stands answers = (piece ∷ answers.0, (tokens, stands, refl, answers.1))
answers_more text table at piece (Err fault) stands answers = (answers.0, answers.1, piece ∷ answers.2, answers.3, (stands, answers.4))

-- the tokens behind a piece are those of pieces
abbrev Goes : List ℕ → Bool → ℕ → Type 0
Goes text table at = (piece : Piece) → Stands text table at piece
    → Answers text (table_after table piece (drop at text)) (at + piece.len) (tokens_from 0 (table_after table piece (drop at text)) (at + piece.len) (line_of text (at + piece.len)) (drop (at + piece.len) text))

-- what is found at an offset, and what the tokens behind it say
answers_here : (text : List ℕ) (table : Bool) (at : ℕ) (found : PieceOrFault) → at < length text → piece_at table (drop at text) ≡ found
    → Goes text table at → Answers text table at (tokens_from 0 table at (line_of text at) (drop at text))
answers_here text table at (Err wrong) less is behind =
    let some : 0 < length (drop at text) = omega (arith, less, length-drop at text) in
    subst (λ (lexed : TokensOrFault). Answers text table at lexed) (sym (front_fails (drop at text) table at (line_of text at) wrong some is)) (wrong, line_of text at, [], refl, (less, is, refl))
answers_here text table at (Ok piece) less is behind =
    let some : 0 < length (drop at text) = omega (arith, less, length-drop at text) in
    let within : (0 < piece.len) × (piece.len ≤ length (drop at text)) = piece_within table (drop at text) piece some is in
    let stands : Stands text table at piece = record { found = is; some = within.0; within = omega (arith, less, within.1, length-drop at text) } in
    subst (λ (lexed : TokensOrFault). Answers text table at lexed) (sym (tokens_step text table at piece stands)) (answers_more text table at piece _ stands (behind piece stands))

-- at the end of the text
answers_end : (text : List ℕ) (table : Bool) (at : ℕ) → at ≡ length text → Answers text table at (tokens_from 0 table at (line_of text at) (drop at text))
answers_end text table at is =
    let none : length (drop at text) ≡ 0 = omega (arith, is, length-drop at text) in
    subst (λ (lexed : TokensOrFault). Answers text table at lexed) (sym (at_end (drop at text) table at (line_of text at) none)) ([], (is, refl))

-- from an offset on, with so many bytes left at most
answers_from : (n : ℕ) (text : List ℕ) (table : Bool) (at : ℕ) → at ≤ length text → length text ≤ at + n → Answers text table at (tokens_from 0 table at (line_of text at) (drop at text))
answers_from zero text table at le left = answers_end text table at (omega (arith, le, left))
answers_from (suc n) text table at le left =
    by (nat_lt at (length text)) refl (λ (piece : Piece) (stands : Stands text table at piece).
    answers_from n text (table_after table piece (drop at text)) (at + piece.len) stands.within (omega (arith, left, stands.some)))
  where
    by : (more : Bool) → nat_lt at (length text) ≡ more → Goes text table at → Answers text table at (tokens_from 0 table at (line_of text at) (drop at text))
    by false e behind = answers_end text table at (omega (arith, le, ltb-false at (length text) e))
    by true e behind = answers_here text table at (piece_at table (drop at text)) (ltb-true at (length text) e) refl behind

answers_of : (text : List ℕ) → Answers text false 0 (tokens_of text)
unfolding tokens_of lines_after
answers_of text = answers_from (length text) text false 0 (omega arith) (omega arith)

-- the tokens of the function are those of the text
pub tokens_found : (text : List ℕ) (tokens : List Token) → tokens_of text ≡ Ok tokens → AreTokensOf text tokens
tokens_found text tokens is = subst (λ (lexed : TokensOrFault). Answers text false 0 lexed) is (answers_of text)

-- the fault of the function is the first of the text
pub fault_found : (text : List ℕ) (fault : LexFault) → tokens_of text ≡ Err fault → (kind : FaultKind) × (line : ℕ) × (fault ≡ Faulty kind line) × StopsAt text kind line
fault_found text fault is =
    let answers : Answers text false 0 (Err fault) = subst (λ (lexed : TokensOrFault). Answers text false 0 lexed) is (answers_of text) in
    (answers.0, answers.1, answers.3, (answers.2, answers.4))

-- the tokens that were returned are those of the text
pub found_ok : (text : List ℕ) (result : Result (List Token) LexFault) → Gives (λ (ts : List Token). ts) result (tokens_of text) → IfOk result (AreTokensOf text)
found_ok text (Ok tokens) gives = tokens_found text tokens gives
found_ok text (Err fault) gives = tt

first_fault : (text : List ℕ) (fault : LexFault) → tokens_of text ≡ Err fault → IsFaultOf text fault
first_fault text fault is =
    let found = fault_found text fault is in
    subst (IsFaultOf text) (sym found.2) (fault_of text found.0 found.1 found.3)

-- the fault that was returned is the first of the text, unless memory ran out
pub fault_ok : (text : List ℕ) (result : Result (List Token) LexFault) → Gives (λ (ts : List Token). ts) result (tokens_of text) → IfErr result (IsFaultOf text)
fault_ok text (Ok tokens) gives = tt
fault_ok text (Err Memory) gives = tt
fault_ok text (Err (Faulty wrong line)) gives = first_fault text (Faulty wrong line) gives
