-- What a logic gate gives: the one Boolean result of all choices for its unknown inputs, or x where there are two.
use Rattle.std.specs.Prelude.{◌%◌, nat_eq, ◌≡◌, ◌<◌, ℕ, Bool, true, false, not, List, [], ◌∷◌, map, if◌then◌else◌}
use Rattle.std.specs.List.{count_by, flat_map, list_all, list_any}
use Rattle.level_range.specs.declared.range.Logic.{Logic}
use Rattle.level_range.specs.declared.range.Logic.TheVariants.{Zero, One, X, Z}
use Rattle.logic_tables.specs.declared.kinds.FoldKind.{FoldKind}
use Rattle.logic_tables.specs.declared.kinds.FoldKind.TheVariants.{And, Nand, Or, Nor, Xor, Xnor, Buf, Not}

-- the Boolean values that an input may have: z counts as x
abbrev pub choices_of : Logic → List Bool
choices_of Zero = false ∷ []
choices_of One = true ∷ []
choices_of X = false ∷ true ∷ []
choices_of Z = false ∷ true ∷ []

-- each way to choose a Boolean value for each input
abbrev pub choices : List Logic → List (List Bool)
choices [] = [] ∷ []
choices (pin ∷ pins) = flat_map (λ b. map (λ bits. b ∷ bits) (choices pins)) (choices_of pin)

-- whether an odd number of the bits is 1
abbrev pub is_odd : List Bool → Bool
is_odd bits = nat_eq (count_by (λ b. b) bits % 2) 1

-- whether each bit is 1
abbrev pub all_bits : List Bool → Bool
all_bits bits = list_all (λ b. b) bits

-- whether a bit is 1
abbrev pub any_bit : List Bool → Bool
any_bit bits = list_any (λ b. b) bits

-- the Boolean function of a gate (IEEE 1364-2005, 7.2 and 7.3)
abbrev pub boolean : FoldKind → List Bool → Bool
boolean And bits = all_bits bits
boolean Nand bits = not (all_bits bits)
boolean Or bits = any_bit bits
boolean Nor bits = not (any_bit bits)
boolean Xor bits = is_odd bits
boolean Xnor bits = not (is_odd bits)
boolean Buf bits = all_bits bits
boolean Not bits = not (all_bits bits)

-- the results of all choices: all 1, all 0, or both
abbrev pub image : List Bool → Logic
image results = if all_bits results then One else if any_bit results then X else Zero

-- the value of a gate on a list of inputs
abbrev pub gate_value : FoldKind → List Logic → Logic
gate_value kind pins = image (map (boolean kind) (choices pins))

-- how many pins a gate takes: one alone for buf and not, else one or more
abbrev pub Takes : FoldKind → ℕ → Type 0
Takes Buf n = n ≡ 1
Takes Not n = n ≡ 1
Takes _ n = 0 < n
