-- The flat names of the things of the top module.
use Rattle.std.specs.Prelude.{ℕ, if◌then◌else◌, List, [], ◌∷◌, ◌++◌}
use Rattle.v_lexer.specs.Words.{is_plain}

-- a plain name as it is, and another as it is written: `\`, its text and one space (IEEE 1364-2005, 3.7.1)
unfoldable pub flat_name : List ℕ → List ℕ
flat_name text = if is_plain text then text else 92 ∷ text ++ 32 ∷ []
