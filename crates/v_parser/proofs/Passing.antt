-- One turn of the loop that passes over a block.
use Rattle.std.proofs.Common.{◌≡◌, ℕ, suc, ◌+◌, ◌-◌, ◌<◌, true, false, Ok, refl, sym, ap, ◌∙◌, arith}
use Rattle.v_parser.specs.Input.{Input, Outcome, front, next}
use Rattle.v_parser.specs.Blocks.{ends_block, block_length_from}
use Rattle.v_parser.proofs.Turns.{left_over}

block_length_more : (m count : ℕ) (i : Input) → ends_block (front i) ≡ false → block_length_from (suc m) count i ≡ block_length_from m (count + 1) (next i)
unfolding block_length_from
block_length_more m count i goes = rw goes refl

-- a token is passed over
pub block_length_step : (n k count : ℕ) (i j : Input) (all : Outcome ℕ) → k < n → ends_block (front i) ≡ false → j ≡ next i → block_length_from (n - k) count i ≡ all → block_length_from (n - (k + 1)) (count + 1) j ≡ all
block_length_step n k count i j all below goes is so_far =
    ap (λ (m : Input). block_length_from (n - (k + 1)) (count + 1) m) is ∙ sym (block_length_more (n - (k + 1)) count i goes) ∙ ap (λ m. block_length_from m count i) (sym (left_over n k below)) ∙ so_far

-- the block ends here
pub block_length_ended : (n count : ℕ) (i : Input) (all : Outcome ℕ) → 0 < n → ends_block (front i) ≡ true → block_length_from n count i ≡ all → all ≡ Ok (count, i)
unfolding block_length_from
block_length_ended (suc n) count i all some ended so_far = sym so_far ∙ (rw ended refl)
block_length_ended n count i all some ended so_far = absurd (omega arith)
