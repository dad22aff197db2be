-- Finding a row that matches.
use Rattle.std.proofs.Common.{◌≡◌, ℕ, suc, ◌+◌, ◌<◌, Bool, true, false, cond, List, ◌∷◌, length, get_or, drop, refl, add-one}
use Rattle.std.proofs.Math.Seq.{drop-cons}
use Rattle.std.specs.Prelude.{Option, Some}
use Rattle.level_range.specs.declared.range.Logic.{Logic}
use Rattle.udp_table.specs.declared.rows.UdpRow.{UdpRow}
use Rattle.udp_table.specs.Symbols.{Pin}
use Rattle.udp_table.specs.Rows.{matches}
use Rattle.udp_table.specs.LookUp.{matching_output, output_in}

output_in-cond : (b : Bool) (row : UdpRow) (other : Option UdpRow) → output_in (cond b (Some row) other) ≡ cond b (Some row.out) (output_in other)
output_in-cond true row other = refl
output_in-cond false row other = refl

pub matching_output-cons : (row : UdpRow) (rows : List UdpRow) (pins : List Pin) (state : Logic) →
    matching_output (row ∷ rows) pins state ≡ cond (matches row pins state) (Some row.out) (matching_output rows pins state)
matching_output-cons row rows pins state = output_in-cond (matches row pins state) row _

-- what is found in what is left of a list, by its first row
pub matching_output_at : (rows : List UdpRow) (k : ℕ) (row : UdpRow) (pins : List Pin) (state : Logic) → k < length rows → row ≡ get_or rows k row →
    matching_output (drop k rows) pins state ≡ cond (matches row pins state) (Some row.out) (matching_output (drop (k + 1) rows) pins state)
matching_output_at rows k row pins state h e =
    rw (add-one, drop-cons rows k row h, ← e) (matching_output-cons row (drop (suc k) rows) pins state)
