-- How many bits are needed, counted from the left.
use Rattle.std.specs.Prelude.{ℕ, ◌+◌, ◌==◌, List, [], ◌∷◌, if◌then◌else◌}
use Rattle.v_lexer.specs.declared.literals.Bit.{Bit}
use Rattle.v_lexer.specs.declared.literals.Bit.TheVariants.{Zero}

-- one more bit than so many: a zero before all others isn't needed
abbrev pub needed_with : ℕ → Bit → ℕ
needed_with n Zero = if n == 0 then 0 else n + 1
needed_with n bit = n + 1

-- the bits of a digit after so many
unfoldable pub needed_by : ℕ → List Bit → ℕ
needed_by n [] = n
needed_by n (bit ∷ bits) = needed_by (needed_with n bit) bits
