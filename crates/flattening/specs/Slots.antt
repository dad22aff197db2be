-- For the code alone: a list with a slot for each bit or net, of which each is filled once.
use Rattle.std.specs.Prelude.{ℕ, ◌+◌, not, ◌&&◌, List, [], ◌∷◌, Option, Some, None, is_none, slice_index_or, slice_set, if◌then◌else◌}
use Rattle.netlist_plan.specs.declared.claims.NetClaim.{NetClaim}
use Rattle.netlist_plan.specs.Claims.{is_plain, plain_claim}

-- slots with the number outside of one more bit
abbrev pub number_slots : List (Option ℕ) → ℕ → ℕ → List (Option ℕ)
number_slots slots bit number = if is_none (slice_index_or slots bit (Some 0)) then slice_set slots bit (Some number) else slots

-- the number of each slot: the one in it, else the next
abbrev pub slot_numbers : ℕ → List (Option ℕ) → List ℕ
slot_numbers next [] = []
slot_numbers next (None ∷ slots) = next ∷ slot_numbers (next + 1) slots
slot_numbers next (Some number ∷ slots) = number ∷ slot_numbers next slots

-- the claims on nets with one more
abbrev pub claim_slots : List NetClaim → ℕ → NetClaim → List NetClaim
claim_slots table net claim =
    if is_plain (slice_index_or table net plain_claim) && not (is_plain claim) then slice_set table net claim else table
