-- Comments and attributes.
use Rattle.std.specs.Prelude.{ℕ, zero, suc, ◌-◌, ◌==◌, List, [], ◌∷◌, drop, Option, Some, None, if◌then◌else◌}
use Rattle.std.specs.Option.{option_map_or}
use Rattle.v_lexer.specs.Bytes.{first, begins, plus}
use Rattle.v_lexer.specs.Quoted.{text_len}

-- the length up to the first `*/`, with it
unfoldable pub comment_end : List ℕ → Option ℕ
comment_end [] = None
comment_end (byte ∷ bytes) = if begins 42 47 (byte ∷ bytes) then Some 2
    else plus 1 (comment_end bytes)

-- the length of a comment that begins with `/*`
abbrev pub comment_len : List ℕ → Option ℕ
comment_len bytes = plus 2 (comment_end (drop 2 bytes))

-- how many bytes after the first belong to a text in quotes that begins with it: none where none does
abbrev pub quoted_after : List ℕ → ℕ
quoted_after bytes = if first bytes == 34 then option_map_or (λ len. len - 1) (text_len bytes) 0
    else 0

-- the length up to the first `*)` outside a text in quotes, with it. The first `inside` bytes belong to such a text.
unfoldable pub attribute_end : ℕ → List ℕ → Option ℕ
attribute_end inside [] = None
attribute_end (suc inside) (byte ∷ bytes) = plus 1 (attribute_end inside bytes)
attribute_end zero (byte ∷ bytes) =
    if begins 42 41 (byte ∷ bytes) then Some 2
    else plus 1 (attribute_end (quoted_after (byte ∷ bytes)) bytes)

-- the length of an attribute, which begins with `(*`
abbrev pub attribute_len : List ℕ → Option ℕ
attribute_len bytes = plus 2 (attribute_end 0 (drop 2 bytes))
