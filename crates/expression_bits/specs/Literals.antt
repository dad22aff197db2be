-- The bits of literals in places of a width, from the left.
use Rattle.std.specs.Prelude.{ℕ, ◌-◌, Bool, List, [], ◌∷◌, ◌++◌, length, replicate, drop, Option, None, Some, if◌then◌else◌}
use Rattle.v_lexer.specs.declared.literals.Bit.{Bit}
use Rattle.v_lexer.specs.declared.literals.Bit.TheVariants.{Zero}
use Rattle.v_lexer.specs.declared.values.Literal.{Literal}
use Rattle.v_lexer.specs.Literals.{binary}

-- bits in a place of a width: cut on the left, or extended on the left with a bit
abbrev pub fit : ℕ → Bit → List Bit → List Bit
fit width extension bits = replicate (width - length bits) extension ++ drop (length bits - width) bits

-- a number without base in a place of a width: in binary, extended with 0 (IEEE 1364-2005, 3.5.1)
abbrev pub number_bits : ℕ → ℕ → List Bit
number_bits width n = fit width Zero (binary 32 n)

abbrev pub leftmost : List Bit → Bit
leftmost [] = Zero
leftmost (bit ∷ bits) = bit

-- a literal without size in a place of a width: one with `s` is extended beyond its 32 bits with the leftmost of them,
-- another with x or z where its leftmost digit is one, else with 0
abbrev pub unsized_bits : ℕ → Literal → List Bit
unsized_bits width literal = fit width (if literal.signed then leftmost literal.bits else literal.extension) literal.bits

-- a literal with a size that is the whole right side of an assignment: one with `s` is extended with its leftmost bit, be
-- that 0, 1, x or z, another with 0 (IEEE 1364-2005, 5.5)
abbrev pub whole_bits : ℕ → Literal → List Bit
whole_bits width literal = fit width (if literal.signed then leftmost literal.bits else Zero) literal.bits

-- a literal that is a terminal or a connection of a width: with a size it has its own bits
abbrev pub place_bits : ℕ → Option ℕ → Literal → List Bit
place_bits width None literal = unsized_bits width literal
place_bits width (Some size) literal = literal.bits

-- a literal that is the right side of an assignment to so many bits
abbrev pub value_bits : ℕ → Option ℕ → Literal → List Bit
value_bits width None literal = unsized_bits width literal
value_bits width (Some size) literal = whole_bits width literal
