-- Blocks whose tokens are passed over.
use Rattle.std.specs.Prelude.{ℕ, zero, suc, ◌+◌, Bool, ◌||◌, if◌then◌else◌, length, codes, Ok}
use Rattle.v_tree.specs.declared.locations.Location.{Location}
use Rattle.v_tree.specs.declared.modules.SpecifyBlock.{SpecifyBlock}
use Rattle.v_tree.specs.Written.{Form}
use Rattle.v_parser.specs.Input.{Reader, ◌<$>◌, ◌&◌, pure, front, next, word, skip_word, is_word, is_finish}

-- the word that ends a block, or the end of the text
abbrev pub ends_block : Form → Bool
ends_block f = is_word (codes "endspecify") f || is_finish f

-- how many tokens stand before the end of a block, added to those that were passed, in so many turns at most
unfoldable pub block_length_from : ℕ → ℕ → Reader ℕ
block_length_from zero count = pure count
block_length_from (suc n) count = λ i. if ends_block (front i) then Ok (count, i)
    else block_length_from n (count + 1) (next i)

-- the number of tokens before the end of a block, which are passed over
unfoldable pub block_length : Reader ℕ
block_length = λ i. block_length_from (length i.tokens) 0 i

abbrev pub block_of : Location × (ℕ × Unit {0}) → SpecifyBlock
block_of z = record { location = z.0; token_count = z.1.0 }

-- `specify { any token but endspecify and the end } endspecify`
unfoldable pub specify_block : Reader SpecifyBlock
specify_block = block_of <$> (word (codes "specify") & block_length & skip_word (codes "endspecify"))
