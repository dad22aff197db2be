-- The tokens of a text are sound, and what that gives at an index of their list.
use Rattle.std.proofs.Common.{◌≡◌, ℕ, zero, suc, ◌+◌, ◌-◌, ◌≤◌, ◌<◌, Bool, false, List, [], ◌∷◌, ◌++◌, length, get_or, take, drop, refl, sym, ap, subst, arith}
use Rattle.std.specs.Prelude.{Option, Some, None, Result, Ok, Err, IfOk, slice_range}
use Rattle.v_lexer.specs.declared.token.TokenKind.{TokenKind}
use Rattle.v_lexer.specs.declared.token.TokenKind.TheVariants as kind
use Rattle.v_lexer.specs.declared.token.Token.{Token}
use Rattle.v_lexer.specs.declared.token.Piece.{Piece}
use Rattle.v_lexer.specs.declared.fault.LexFault.{LexFault}
use Rattle.v_lexer.specs.Pieces.{PieceOrFault, table_after}
use Rattle.v_lexer.specs.Tokens.{end_at, tokens_of_piece}
use Rattle.v_lexer.specs.Reading.{line_of, Stands, Reads, AreTokensOf}
use Rattle.v_lexer.specs.Sound.{IsSound, AreSound}
use Rattle.v_lexer.proofs.Meanings.{HasMeaning, Says, piece_says}
use Rattle.v_lexer.proofs.Decimals.{has_digits}
use Rattle.v_lexer.specs.Forms.{IsFormOf}
use Rattle.v_lexer.proofs.Shapes.{HasShape, Takes, piece_takes}

-- a kind that isn't the end
abbrev IsOther : TokenKind → Type 0
IsOther kind.End = ⊥
IsOther other = Unit {0}

other_kind : (other : TokenKind) → IsOther other → kind.End ≡ other → ⊥
other_kind other is e = subst IsOther (sym e) is

meaning_here : (text : List ℕ) (table : Bool) (at : ℕ) (piece : Piece) → Stands text table at piece → HasMeaning piece.kind piece.len (take piece.len (drop at text))
meaning_here text table at piece stands = subst (λ (found : PieceOrFault). Says (drop at text) found) stands.found (piece_says table (drop at text))

shape_here : (text : List ℕ) (table : Bool) (at : ℕ) (piece : Piece) → Stands text table at piece → HasShape piece.kind (take piece.len (drop at text))
shape_here text table at piece stands = subst (λ (found : PieceOrFault). Takes (drop at text) found) stands.found (piece_takes table (drop at text))

-- the token of a piece is sound
token_sound : (text : List ℕ) (at len : ℕ) (shape : TokenKind) → IsFormOf shape (take len (drop at text)) → HasMeaning (Some shape) len (take len (drop at text)) → 0 < len → at + len ≤ length text
    → IsSound text (record { kind = shape; start = at; end = at + len; line = line_of text at })
token_sound text at len shape form meant some within =
    let bytes : List ℕ = slice_range text at (at + len) in
    let same : len ≡ at + len - at = omega arith in
    let says : HasMeaning (Some shape) len bytes = subst (λ n. HasMeaning (Some shape) len (take n (drop at text))) same meant in
    let as_kind : (other : TokenKind) → shape ≡ other → HasMeaning (Some other) len bytes = λ other e. subst (λ (k : TokenKind). HasMeaning (Some k) len bytes) e says in
    record {
      ordered = omega arith;
      within = within;
      line = refl;
      some = λ _. omega arith;
      form = λ _. subst (λ n. IsFormOf shape (take n (drop at text))) same form;
      name = λ e. as_kind kind.Name e;
      word = λ e. as_kind kind.Word e;
      number = λ e. as_kind kind.Number e;
      decimal = λ e. has_digits bytes (subst (λ (k : TokenKind). IsFormOf k bytes) e (subst (λ n. IsFormOf shape (take n (drop at text))) same form));
      based = λ e. as_kind kind.Based e;
      symbol = λ e. (ap (λ n. at + n) (as_kind kind.Symbol e).0, (as_kind kind.Symbol e).1);
      mark = λ e. (ap (λ n. at + n) (as_kind kind.Mark e).0, (as_kind kind.Mark e).1);
      last = λ e. absurd (as_kind kind.End e);
    }

end_sound : (text : List ℕ) (at : ℕ) → at ≡ length text → IsSound text (end_at at (line_of text at))
end_sound text at is = record {
  ordered = omega arith;
  within = omega (arith, is);
  line = refl;
  some = λ other. absurd (other refl);
  form = λ other. absurd (other refl);
  name = λ e. absurd (other_kind kind.Name tt e);
  word = λ e. absurd (other_kind kind.Word tt e);
  number = λ e. absurd (other_kind kind.Number tt e);
  decimal = λ e. absurd (other_kind kind.Decimal tt e);
  based = λ e. absurd (other_kind kind.Based tt e);
  symbol = λ e. absurd (other_kind kind.Symbol tt e);
  mark = λ e. absurd (other_kind kind.Mark tt e);
  last = λ _. is;
}

piece_sound : (text : List ℕ) (at len : ℕ) (shape : Option TokenKind) (others : List Token) → HasShape shape (take len (drop at text)) → HasMeaning shape len (take len (drop at text)) → 0 < len → at + len ≤ length text
    → AreSound text others → AreSound text (tokens_of_piece at (line_of text at) shape len ++ others)
piece_sound text at len None others form meant some within sound = sound
piece_sound text at len (Some shape) others form meant some within sound = (
  token_sound text at len shape form meant some within,
  λ e. absurd (subst (λ (k : TokenKind). HasMeaning (Some k) len (take len (drop at text))) e meant),
  λ _. sound,
)

reads_sound : (text : List ℕ) (table : Bool) (at : ℕ) (pieces : List Piece) (tokens : List Token) → Reads text table at pieces tokens → AreSound text tokens
reads_sound text table at [] tokens reads =
    let one : AreSound text (end_at at (line_of text at) ∷ []) = (end_sound text at reads.0, λ _. refl, λ other. absurd (other refl)) in
    subst (λ (ts : List Token). AreSound text ts) (sym reads.1) one
reads_sound text table at (piece ∷ pieces) tokens reads =
    subst (λ (ts : List Token). AreSound text ts) (sym reads.2)
    (piece_sound text at piece.len piece.kind reads.0 (shape_here text table at piece reads.1) (meaning_here text table at piece reads.1) reads.1.some reads.1.within
    (reads_sound text (table_after table piece (drop at text)) (at + piece.len) pieces reads.0 reads.3))

pub are_sound : (text : List ℕ) (tokens : List Token) → AreTokensOf text tokens → AreSound text tokens
are_sound text tokens are = reads_sound text false 0 are.0 tokens are.1

pub sound_ok : (text : List ℕ) (result : Result (List Token) LexFault) → IfOk result (AreTokensOf text) → IfOk result (AreSound text)
sound_ok text (Ok tokens) found = are_sound text tokens found
sound_ok text (Err fault) found = tt

-- sound tokens are never at their end
pub sound_some : (text : List ℕ) (tokens : List Token) → AreSound text tokens → 0 < length tokens
sound_some text [] sound = absurd sound
sound_some text (token ∷ others) sound = omega arith

-- the first of sound tokens
pub sound_first : (text : List ℕ) (tokens : List Token) (d : Token) → AreSound text tokens → IsSound text (get_or tokens 0 d)
sound_first text [] d sound = absurd sound
sound_first text (token ∷ others) d sound = sound.0

-- the tokens behind one that isn't the end
pub sound_rest : (text : List ℕ) (tokens : List Token) (d : Token) → AreSound text tokens → ¬ ((get_or tokens 0 d).kind ≡ kind.End) → AreSound text (drop 1 tokens)
sound_rest text [] d sound other = absurd sound
sound_rest text (token ∷ others) d sound other = sound.2 other

-- by its index in the list: each token is sound
pub sound_at : (text : List ℕ) (tokens : List Token) (i : ℕ) (d : Token) → AreSound text tokens → i < length tokens → IsSound text (get_or tokens i d)
sound_at text [] i d sound less = absurd sound
sound_at text (token ∷ others) zero d sound less = sound.0
sound_at text (token ∷ []) (suc i) d sound less = absurd (omega arith)
sound_at text (token ∷ next ∷ others) (suc i) d sound less = sound_at text (next ∷ others) i d (sound.2 (λ e. more (sound.1 e))) (omega arith)
  where
    more : next ∷ others ≡ [] → ⊥
    more e = let same : length (next ∷ others) ≡ 0 = ap length e in absurd (omega arith)

-- and a token has another behind it exactly where it isn't the end
pub sound_next : (text : List ℕ) (tokens : List Token) (i : ℕ) (d : Token) → AreSound text tokens → i < length tokens → ¬ ((get_or tokens i d).kind ≡ kind.End) → i + 1 < length tokens
sound_next text [] i d sound less other = absurd sound
sound_next text (token ∷ others) zero d sound less other = omega (arith, sound_some text others (sound.2 other))
sound_next text (token ∷ []) (suc i) d sound less other = absurd (omega arith)
sound_next text (token ∷ next ∷ others) (suc i) d sound less other = omega (arith, sound_next text (next ∷ others) i d (sound.2 (λ e. more (sound.1 e))) (omega arith) other)
  where
    more : next ∷ others ≡ [] → ⊥
    more e = let same : length (next ∷ others) ≡ 0 = ap length e in absurd (omega arith)

pub sound_last : (text : List ℕ) (tokens : List Token) (i : ℕ) (d : Token) → AreSound text tokens → i < length tokens → (get_or tokens i d).kind ≡ kind.End → i + 1 ≡ length tokens
sound_last text [] i d sound less e = absurd sound
sound_last text (token ∷ others) zero d sound less e = let none : length others ≡ 0 = ap length (sound.1 e) in omega arith
sound_last text (token ∷ []) (suc i) d sound less e = absurd (omega arith)
sound_last text (token ∷ next ∷ others) (suc i) d sound less e = omega (arith, sound_last text (next ∷ others) i d (sound.2 (λ h. more (sound.1 h))) (omega arith) e)
  where
    more : next ∷ others ≡ [] → ⊥
    more h = let same : length (next ∷ others) ≡ 0 = ap length h in absurd (omega arith)
