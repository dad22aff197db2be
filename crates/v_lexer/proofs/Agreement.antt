-- The relation and the function agree.
use Rattle.std.proofs.Common.{◌≡◌, ℕ, ◌+◌, ◌<◌, ◌≤◌, Bool, false, List, [], ◌∷◌, ◌++◌, length, take, drop, refl, sym, ap, subst, ◌∙◌, arith, length-drop}
use Rattle.std.proofs.Math.Seq.{take-add}
use Rattle.std.proofs.lemmas.List.{drop-drop}
use Rattle.std.specs.Prelude.{Option, Some, None, Result, Ok, Err, IfOk}
use Rattle.v_lexer.specs.declared.fault.LexFault.{LexFault}
use Rattle.v_lexer.specs.declared.token.TokenKind.{TokenKind}
use Rattle.v_lexer.specs.declared.token.Token.{Token}
use Rattle.v_lexer.specs.declared.token.Piece.{Piece}
use Rattle.v_lexer.specs.declared.fault.FaultKind.{FaultKind}
use Rattle.v_lexer.specs.declared.fault.LexFault.TheVariants.{Faulty}
use Rattle.v_lexer.specs.Pieces.{table_after}
use Rattle.v_lexer.specs.Tokens.{TokensOrFault, line_after, lines_after, end_at, tokens_of_piece, onto, tokens_from, tokens_of}
use Rattle.v_lexer.specs.Reading.{line_of, Stands, Reads, Stops, AreTokensOf, StopsAt, IsFaultOf, Rise}
use Rattle.v_lexer.proofs.Whole.{first_token, front_fails}

lines_after-append : (line : ℕ) (xs ys : List ℕ) → lines_after line (xs ++ ys) ≡ lines_after (lines_after line xs) ys
unfolding lines_after
lines_after-append line [] ys = refl
lines_after-append line (byte ∷ xs) ys = lines_after-append (line_after line byte) xs ys

pub line_more : (text : List ℕ) (at len : ℕ) → line_of text (at + len) ≡ lines_after (line_of text at) (take len (drop at text))
line_more text at len = ap (lines_after 1) (take-add at len text) ∙ lines_after-append 1 (take at text) (take len (drop at text))

pub at_end : (rest : List ℕ) (table : Bool) (at line : ℕ) → length rest ≡ 0 → tokens_from 0 table at line rest ≡ Ok (end_at at line ∷ [])
unfolding tokens_from
at_end [] table at line none = refl
at_end (byte ∷ bytes) table at line none = absurd (omega arith)

-- the first piece, and then the tokens behind it
pub tokens_step : (text : List ℕ) (table : Bool) (at : ℕ) (piece : Piece) → Stands text table at piece
    → tokens_from 0 table at (line_of text at) (drop at text)
    ≡ onto (tokens_of_piece at (line_of text at) piece.kind piece.len) (tokens_from 0 (table_after table piece (drop at text)) (at + piece.len) (line_of text (at + piece.len)) (drop (at + piece.len) text))
tokens_step text table at piece stands =
    let len : ℕ = piece.len in
    let after : Bool = table_after table piece (drop at text) in
    let within : len ≤ length (drop at text) = omega (arith, length-drop at text, stands.within) in
    first_token (drop at text) table at (line_of text at) piece stands.found stands.some within
    ∙ ap (onto (tokens_of_piece at (line_of text at) piece.kind len))
    (ap (λ l. tokens_from 0 after (at + len) l (drop len (drop at text))) (sym (line_more text at len))
    ∙ ap (tokens_from 0 after (at + len) (line_of text (at + len))) (drop-drop len at text))

-- the tokens of pieces are those of the function
reads_tokens : (text : List ℕ) (table : Bool) (at : ℕ) (pieces : List Piece) (tokens : List Token) → Reads text table at pieces tokens
    → tokens_from 0 table at (line_of text at) (drop at text) ≡ Ok tokens
reads_tokens text table at [] tokens reads =
    let none : length (drop at text) ≡ 0 = omega (arith, length-drop at text, reads.0) in
    at_end (drop at text) table at (line_of text at) none ∙ ap (λ (ts : List Token). let lexed : TokensOrFault = Ok ts in lexed) (sym reads.1)
reads_tokens text table at (piece ∷ pieces) tokens reads =
    tokens_step text table at piece reads.1
    ∙ ap (onto (tokens_of_piece at (line_of text at) piece.kind piece.len)) (reads_tokens text (table_after table piece (drop at text)) (at + piece.len) pieces reads.0 reads.3)
    ∙ ap (λ (ts : List Token). let lexed : TokensOrFault = Ok ts in lexed) (sym reads.2)

pub reads_only : (text : List ℕ) (tokens : List Token) → AreTokensOf text tokens → tokens_of text ≡ Ok tokens
unfolding tokens_of lines_after
reads_only text tokens are = reads_tokens text false 0 are.0 tokens are.1

-- the fault behind pieces is that of the function
stops_tokens : (text : List ℕ) (wrong : FaultKind) (line : ℕ) (table : Bool) (at : ℕ) (pieces : List Piece) → Stops text wrong line table at pieces
    → tokens_from 0 table at (line_of text at) (drop at text) ≡ Err (Faulty wrong line)
stops_tokens text wrong line table at [] stops =
    let some : 0 < length (drop at text) = omega (arith, length-drop at text, stops.0) in
    front_fails (drop at text) table at (line_of text at) wrong some stops.1 ∙ ap (λ l. let lexed : TokensOrFault = Err (Faulty wrong l) in lexed) (sym stops.2)
stops_tokens text wrong line table at (piece ∷ pieces) stops =
    tokens_step text table at piece stops.0
    ∙ ap (onto (tokens_of_piece at (line_of text at) piece.kind piece.len)) (stops_tokens text wrong line (table_after table piece (drop at text)) (at + piece.len) pieces stops.1)

pub stops_only : (text : List ℕ) (wrong : FaultKind) (line : ℕ) → StopsAt text wrong line → tokens_of text ≡ Err (Faulty wrong line)
unfolding tokens_of lines_after
stops_only text wrong line stops = stops_tokens text wrong line false 0 stops.0 stops.1

rise_piece : (from at line len : ℕ) (kind : Option TokenKind) (others : List Token) → from ≤ at → ((next : ℕ) → next ≤ at + len → Rise next others) → Rise from (tokens_of_piece at line kind len ++ others)
rise_piece from at line len None others le rest = rest from (omega arith)
rise_piece from at line len (Some kind) others le rest = (le, omega arith, rest (at + len) (omega arith))

reads_rise : (text : List ℕ) (table : Bool) (from at : ℕ) (pieces : List Piece) (tokens : List Token) → from ≤ at → Reads text table at pieces tokens → Rise from tokens
reads_rise text table from at [] tokens le reads =
    let one : Rise from (end_at at (line_of text at) ∷ []) = (le, omega arith, tt) in
    subst (λ (ts : List Token). Rise from ts) (sym reads.1) one
reads_rise text table from at (piece ∷ pieces) tokens le reads =
    let after : Bool = table_after table piece (drop at text) in
    subst (λ (ts : List Token). Rise from ts) (sym reads.2)
    (rise_piece from at (line_of text at) piece.len piece.kind reads.0 le (λ (next : ℕ) (h : next ≤ at + piece.len). reads_rise text after next (at + piece.len) pieces reads.0 h reads.3))

pub are_rising : (text : List ℕ) (tokens : List Token) → AreTokensOf text tokens → Rise 0 tokens
are_rising text tokens are = reads_rise text false 0 0 are.0 tokens (omega arith) are.1

pub fault_of : (text : List ℕ) (wrong : FaultKind) (line : ℕ) → StopsAt text wrong line → IsFaultOf text (Faulty wrong line)
fault_of text wrong line stops = stops

pub rising_ok : (text : List ℕ) (result : Result (List Token) LexFault) → IfOk result (AreTokensOf text) → IfOk result (Rise 0)
rising_ok text (Ok tokens) found = are_rising text tokens found
rising_ok text (Err fault) found = tt
