-- Why a primitive is refused, in the order of the checks.
use Rattle.std.specs.Prelude.{◌≡◌, ◌≢◌, Result, Err, ℕ, ◌<◌, ◌≤◌, Bool, List, length, All}
use Rattle.udp_table.specs.declared.rows.UdpRow.{UdpRow}
use Rattle.udp_table.specs.declared.making.UdpFault.{UdpFault}
use Rattle.udp_table.specs.declared.making.UdpFault.TheVariants.{TooManyInputs, BadSymbol, TwoEdges, Clash, Memory}
use Rattle.udp_table.specs.Rows.{IsWellFormed, edge_count, Overlap, row_at}
use Rattle.udp_table.specs.Primitive.{Primitive, IsCount, Agrees}

-- the row at k is the first of which the fact holds
pub record IsFirstRow (P : UdpRow → Type 0) (rows : List UdpRow) (k : ℕ) : Type 0 where
  pub within : k < length rows
  pub holds : P (row_at rows k)
  pub least : (j : ℕ) → j < k → ¬ P (row_at rows j)

-- the rows at i and j, i the lower, overlap and their outputs differ
pub record ClashAt (rows : List UdpRow) (i j : ℕ) : Type 0 where
  pub order : i < j
  pub within : j < length rows
  pub overlap : Overlap (row_at rows i) (row_at rows j)
  pub differ : (row_at rows i).out ≢ (row_at rows j).out

-- the least pair of a clash: the least i, then the least j
pub record IsFirstClash (rows : List UdpRow) (i j : ℕ) : Type 0 where
  pub clash : ClashAt rows i j
  pub least_first : (k l : ℕ) → k < i → ¬ ClashAt rows k l
  pub least_second : (l : ℕ) → l < j → ¬ ClashAt rows i l

-- a row has one edge at most
abbrev pub HasFewEdges : UdpRow → Type 0
HasFewEdges row = edge_count row ≤ 1

-- why the parts are refused; where nothing refuses them only memory can be wanting
abbrev pub IsFault : ℕ → Bool → List UdpRow → UdpFault → Type 0
IsFault inputs sequential rows TooManyInputs = ¬ IsCount inputs
IsFault inputs sequential rows (BadSymbol k) =
    IsCount inputs × IsFirstRow (λ row. ¬ IsWellFormed inputs sequential row) rows k
IsFault inputs sequential rows (TwoEdges k) =
    IsCount inputs × All (IsWellFormed inputs sequential) rows × IsFirstRow (λ row. ¬ HasFewEdges row) rows k
IsFault inputs sequential rows (Clash i j) =
    IsCount inputs × All (IsWellFormed inputs sequential) rows × All HasFewEdges rows × IsFirstClash rows i j
IsFault inputs sequential rows Memory =
    IsCount inputs × All (IsWellFormed inputs sequential) rows × All HasFewEdges rows × Agrees rows

-- a fault for which the parts themselves are refused; want of memory is none
abbrev pub IsRefusal : UdpFault → Type 0
IsRefusal Memory = ⊥
IsRefusal _ = Unit {0}

-- where the parts give cause for a refusal, the answer is that refusal
abbrev pub IsEachRefusal : ℕ → Bool → List UdpRow → Result Primitive UdpFault → Type 0
IsEachRefusal inputs sequential rows answer =
    (f : UdpFault) → IsRefusal f → IsFault inputs sequential rows f → answer ≡ Err f
