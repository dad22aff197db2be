-- Reading tokens one after the other, as a loop does.
use Rattle.std.proofs.Common.{◌≡◌, ℕ, zero, suc, ◌+◌, ◌-◌, ◌≤◌, ◌<◌, Bool, false, List, [], ◌∷◌, ◌++◌, length, take, drop, refl, sym, ap, ◌∙◌, arith, append_assoc}
use Rattle.std.specs.Prelude.{Ok, Err}
use Rattle.v_lexer.specs.declared.token.Token.{Token}
use Rattle.v_lexer.specs.declared.token.Piece.{Piece}
use Rattle.v_lexer.specs.declared.fault.FaultKind.{FaultKind}
use Rattle.v_lexer.specs.declared.fault.LexFault.TheVariants.{Faulty}
use Rattle.v_lexer.specs.Pieces.{piece_at, table_after}
use Rattle.v_lexer.specs.Tokens.{TokensOrFault, Fails, line_after, lines_after, end_at, tokens_of_piece, onto, tokens_at, tokens_from, tokens_of}

onto-onto : (front others : List Token) (lexed : TokensOrFault) → onto front (onto others lexed) ≡ onto (front ++ others) lexed
onto-onto front others (Ok tokens) = let P : List Token → TokensOrFault = λ x. Ok x in ap P (sym (append_assoc front others tokens))
onto-onto front others (Err fault) = refl

-- the bytes of what began before are passed over
tokens_from-inside : (inside : ℕ) (table : Bool) (at line : ℕ) (bytes : List ℕ) → inside ≤ length bytes
    → tokens_from inside table at line bytes ≡ tokens_from 0 table (at + inside) (lines_after line (take inside bytes)) (drop inside bytes)
unfolding tokens_from lines_after
tokens_from-inside zero table at line bytes le = let e : at + 0 ≡ at = omega arith in ap (λ a. tokens_from 0 table a line bytes) (sym e)
tokens_from-inside (suc inside) table at line [] le = absurd (omega arith)
tokens_from-inside (suc inside) table at line (byte ∷ bytes) le =
    let less : inside ≤ length bytes = omega arith in
    let e : at + 1 + inside ≡ at + suc inside = omega arith in
    tokens_from-inside inside table (at + 1) (line_after line byte) bytes less
    ∙ ap (λ a. tokens_from 0 table a (lines_after (line_after line byte) (take inside bytes)) (drop inside bytes)) e

-- what is found first, and then the tokens after it
at_front : (byte : ℕ) (bytes : List ℕ) (table : Bool) (at line : ℕ) (piece : Piece) → piece_at table (byte ∷ bytes) ≡ Ok piece
    → tokens_from 0 table at line (byte ∷ bytes) ≡ onto (tokens_of_piece at line piece.kind piece.len) (tokens_from (piece.len - 1) (table_after table piece (byte ∷ bytes)) (at + 1) (line_after line byte) bytes)
unfolding tokens_from tokens_at
at_front byte bytes table at line piece found = rw found refl

lines_front : (line byte n : ℕ) (bytes : List ℕ) → lines_after line (take (suc n) (byte ∷ bytes)) ≡ lines_after (line_after line byte) (take n bytes)
unfolding lines_after
lines_front line byte n bytes = refl

pub first_token : (rest : List ℕ) (table : Bool) (at line : ℕ) (piece : Piece) → piece_at table rest ≡ Ok piece → 0 < piece.len → piece.len ≤ length rest
    → tokens_from 0 table at line rest ≡ onto (tokens_of_piece at line piece.kind piece.len) (tokens_from 0 (table_after table piece rest) (at + piece.len) (lines_after line (take piece.len rest)) (drop piece.len rest))
first_token [] table at line piece found some within = absurd (omega arith)
first_token (byte ∷ bytes) table at line piece found some within =
    let n : ℕ = piece.len - 1 in
    let len : piece.len ≡ suc n = omega arith in
    let less : n ≤ length bytes = omega arith in
    let e : at + 1 + n ≡ at + piece.len = omega arith in
    let after : Bool = table_after table piece (byte ∷ bytes) in
    at_front byte bytes table at line piece found
    ∙ ap (onto (tokens_of_piece at line piece.kind piece.len))
    (tokens_from-inside n after (at + 1) (line_after line byte) bytes less
    ∙ ap (λ a. tokens_from 0 after a (lines_after (line_after line byte) (take n bytes)) (drop n bytes)) e
    ∙ ap (λ l. tokens_from 0 after (at + piece.len) l (drop n bytes)) (sym (lines_front line byte n bytes))
    ∙ ap (λ m. tokens_from 0 after (at + piece.len) (lines_after line (take m (byte ∷ bytes))) (drop m (byte ∷ bytes))) (sym len))

pub tokens_go_on : (old new : List Token) (rest : List ℕ) (table : Bool) (at line : ℕ) (piece : Piece) (after : Bool) (next : ℕ) (front back : List ℕ) (all : TokensOrFault)
    → piece_at table rest ≡ Ok piece → 0 < piece.len → piece.len ≤ length rest → new ≡ old ++ tokens_of_piece at line piece.kind piece.len → after ≡ table_after table piece rest
    → front ≡ take piece.len rest → next ≡ lines_after line front → back ≡ drop piece.len rest
    → onto old (tokens_from 0 table at line rest) ≡ all → onto new (tokens_from 0 after (at + piece.len) next back) ≡ all
tokens_go_on old new rest table at line piece after next front back all found some within new-is after-is front-is next-is back-is so_far =
    rw (new-is, after-is, next-is, front-is, back-is)
    (sym (onto-onto old (tokens_of_piece at line piece.kind piece.len) (tokens_from 0 (table_after table piece rest) (at + piece.len) (lines_after line (take piece.len rest)) (drop piece.len rest)))
    ∙ ap (onto old) (sym (first_token rest table at line piece found some within)) ∙ so_far)

pub front_fails : (rest : List ℕ) (table : Bool) (at line : ℕ) (wrong : FaultKind) → 0 < length rest → piece_at table rest ≡ Err wrong → tokens_from 0 table at line rest ≡ Err (Faulty wrong line)
unfolding tokens_from tokens_at
front_fails [] table at line wrong some found = absurd (omega arith)
front_fails (byte ∷ bytes) table at line wrong some found = rw found refl

pub tokens_fail : (old : List Token) (rest : List ℕ) (table : Bool) (at line : ℕ) (wrong : FaultKind) (all : TokensOrFault) → 0 < length rest → piece_at table rest ≡ Err wrong
    → onto old (tokens_from 0 table at line rest) ≡ all → Fails (Faulty wrong line) all
tokens_fail old rest table at line wrong all some found so_far =
    sym so_far ∙ ap (onto old) (front_fails rest table at line wrong some found)

pub tokens_end : (old new : List Token) (rest : List ℕ) (table : Bool) (at line : ℕ) (all : TokensOrFault) → length rest ≡ 0 → new ≡ old ++ end_at at line ∷ []
    → onto old (tokens_from 0 table at line rest) ≡ all → all ≡ Ok new
unfolding tokens_from
tokens_end old new [] table at line all none new-is so_far = rw new-is (sym so_far)
tokens_end old new (byte ∷ bytes) table at line all none new-is so_far = absurd (omega arith)

pub onto_none : (none : List Token) (text : List ℕ) → none ≡ [] → onto none (tokens_from 0 false 0 1 text) ≡ tokens_of text
unfolding tokens_of
onto_none none text is = rw is (same (tokens_from 0 false 0 1 text))
  where
    same : (lexed : TokensOrFault) → onto [] lexed ≡ lexed
    same (Ok tokens) = refl
    same (Err fault) = refl
