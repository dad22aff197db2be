-- The first row that breaks a rule.
use Rattle.std.proofs.Common.{◌≡◌, ℕ, ◌≤◌, Bool, true, false, not, List, refl, sym, arith, nat_lt}
use Rattle.std.specs.Prelude.{Option, Some, None, MatchOption}
use Rattle.std.specs.List.{position, All}
use Rattle.std.proofs.lemmas.List.Quantifiers.{position-Some}
use Rattle.std.proofs.lemmas.List.Elements.{All-from_get_or}
use Rattle.std.proofs.lemmas.Bool.Decides.{not_from_Decides}
use Rattle.udp_table.specs.declared.rows.UdpRow.{UdpRow}
use Rattle.udp_table.specs.Rows.{row_at, no_row, IsWellFormed, edge_count}
use Rattle.udp_table.specs.Tests.{row_test, edges_test}
use Rattle.udp_table.specs.Faults.{IsFirstRow, HasFewEdges}
use Rattle.udp_table.proofs.Positions.{position-None}
use Rattle.udp_table.proofs.SymbolLemmas.{Decides-row_test}

module _ (test : UdpRow → Bool) (Q : UdpRow → Type 0) (no : (row : UdpRow) → test row ≡ true → ¬ Q row) (yes : (row : UdpRow) → test row ≡ false → Q row) where
  first_row : (rows : List UdpRow) (r : Option ℕ) → r ≡ position test rows → MatchOption r (All Q rows) (IsFirstRow (λ row. ¬ Q row) rows)
  first_row rows None e =
      All-from_get_or Q rows no_row (λ i h. yes (row_at rows i) (position-None test no_row rows (sym e) i h))
  first_row rows (Some k) e =
      let found = position-Some test rows k no_row (sym e) in
      record { within = found.0; holds = no (row_at rows k) found.1; least = λ j h n. n (yes (row_at rows j) (found.2 j h)) }

not_true : (b : Bool) → not b ≡ true → b ≡ false
not_true true h = sym h
not_true false h = refl

not_false : (b : Bool) → not b ≡ false → b ≡ true
not_false true h = refl
not_false false h = sym h

pub first_bad_row : (inputs : ℕ) (sequential : Bool) (rows : List UdpRow) (r : Option ℕ) → r ≡ position (λ row. not (row_test inputs sequential row)) rows →
    MatchOption r (All (IsWellFormed inputs sequential) rows) (IsFirstRow (λ row. ¬ IsWellFormed inputs sequential row) rows)
first_bad_row inputs sequential =
    first_row (λ row. not (row_test inputs sequential row)) (IsWellFormed inputs sequential)
    (λ row h. not_from_Decides (row_test inputs sequential row) (Decides-row_test inputs sequential row) (not_true (row_test inputs sequential row) h))
    (λ row h. (Decides-row_test inputs sequential row).0 (not_false (row_test inputs sequential row) h))

many : (n : ℕ) → nat_lt 1 n ≡ true → n ≤ 1 → ⊥
many n h l = grind (arith, h, l)

few : (n : ℕ) → nat_lt 1 n ≡ false → n ≤ 1
few n h = grind (arith, h)

pub first_row_of_edges : (rows : List UdpRow) (r : Option ℕ) → r ≡ position edges_test rows →
    MatchOption r (All HasFewEdges rows) (IsFirstRow (λ row. ¬ HasFewEdges row) rows)
first_row_of_edges =
    first_row edges_test HasFewEdges (λ row h. many (edge_count row) h) (λ row h. few (edge_count row) h)

-- the answers of `build`, from what its parts found; the list that they read is the given one
module _ (inputs : ℕ) (sequential : Bool) (rows read : List UdpRow) (same : read ≡ rows) (r : Option ℕ) where
  pub bad_at : (k : ℕ) → r ≡ position (λ row. not (row_test inputs sequential row)) read → r ≡ Some k → IsFirstRow (λ row. ¬ IsWellFormed inputs sequential row) rows k
  bad_at k e f = rw f at (first_bad_row inputs sequential rows r (rw (← same) e))

  pub all_well_formed : r ≡ position (λ row. not (row_test inputs sequential row)) read → r ≡ None → All (IsWellFormed inputs sequential) rows
  all_well_formed e f = rw f at (first_bad_row inputs sequential rows r (rw (← same) e))

  pub edges_at : (k : ℕ) → r ≡ position edges_test read → r ≡ Some k → IsFirstRow (λ row. ¬ HasFewEdges row) rows k
  edges_at k e f = rw f at (first_row_of_edges rows r (rw (← same) e))

  pub all_few : r ≡ position edges_test read → r ≡ None → All HasFewEdges rows
  all_few e f = rw f at (first_row_of_edges rows r (rw (← same) e))
