-- Texts in quotes.
use Rattle.std.specs.Prelude.{ℕ, not, ◌&&◌, ◌==◌, List, [], ◌∷◌, drop, Option, Some, None, if◌then◌else◌}
use Rattle.v_lexer.specs.Bytes.{plus}

-- the length up to the first `"` that has no `\` before it, where no line feed comes first
unfoldable pub quote_end : ℕ → List ℕ → Option ℕ
quote_end before [] = None
quote_end before (byte ∷ bytes) =
    if byte == 10 then None
    else if byte == 34 && not (before == 92) then Some 1
    else plus 1 (quote_end byte bytes)

-- the length of the text in quotes that begins at the first byte, a `"`, where it ends on its line
abbrev pub text_len : List ℕ → Option ℕ
text_len bytes = plus 1 (quote_end 34 (drop 1 bytes))
