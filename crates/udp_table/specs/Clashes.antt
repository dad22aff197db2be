-- For the code and its proofs alone, no reader of the public contracts needs it: clashes of rows, by the test of two rows.
use Rattle.std.specs.Prelude.{◌≡◌, ℕ, ◌<◌, false, true, List, length, Option, MatchOption}
use Rattle.udp_table.specs.declared.rows.UdpRow.{UdpRow}
use Rattle.udp_table.specs.Rows.{row_at}
use Rattle.udp_table.specs.Tests.{clash_test}

-- none of the first n rows clashes with a later one
abbrev pub NoClash : List UdpRow → ℕ → Type 0
NoClash rows n = (i j : ℕ) → i < n → i < j → j < length rows → clash_test (row_at rows i) (row_at rows j) ≡ false

-- the pair clashes, and none before it
pub record FirstClash (rows : List UdpRow) (i j : ℕ) : Type 0 where
  pub order : i < j
  pub within : j < length rows
  pub clash : clash_test (row_at rows i) (row_at rows j) ≡ true
  pub earlier : NoClash rows i
  pub nearer : (k : ℕ) → i < k → k < j → clash_test (row_at rows i) (row_at rows k) ≡ false

-- the answer is the first pair that clashes, or none where no pair does
abbrev pub IsFirstPair : List UdpRow → Option (ℕ × ℕ) → Type 0
IsFirstPair rows answer = MatchOption answer (NoClash rows (length rows)) (λ pair. FirstClash rows pair.0 pair.1)
