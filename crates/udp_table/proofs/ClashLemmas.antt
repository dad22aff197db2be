-- The least pair of clashing rows, found row by row.
use Rattle.std.proofs.Common.{◌≡◌, ℕ, ◌+◌, ◌-◌, ◌<◌, false, List, length, get_or, take, drop, refl, ap, sym, ◌∙◌, inl, inr, arith, length-drop}
use Rattle.std.specs.Prelude.{Some, None}
use Rattle.std.specs.List.{position}
use Rattle.std.proofs.lemmas.List.{get_or_default, take_rest, get_or-drop}
use Rattle.std.proofs.lemmas.List.Quantifiers.{position-Some}
use Rattle.std.proofs.lemmas.Bool.{cases_order}
use Rattle.udp_table.specs.declared.rows.UdpRow.{UdpRow}
use Rattle.udp_table.specs.Rows.{row_at, no_row}
use Rattle.udp_table.specs.Tests.{clash_test}
use Rattle.udp_table.specs.Clashes.{NoClash, FirstClash}
use Rattle.udp_table.proofs.Positions.{position-None}

module _ (rows : List UdpRow) (i : ℕ) (row : UdpRow) (h : i < length rows) (is : row ≡ get_or rows i row) (earlier : NoClash rows i) where
  row_is : row_at rows i ≡ row
  row_is = get_or_default rows i no_row row h ∙ sym is

  -- the row at a distance behind the next one
  behind : (k : ℕ) → get_or (drop (i + 1) rows) k no_row ≡ row_at rows (i + 1 + k)
  behind k = get_or-drop (i + 1) rows k no_row

  test_behind : (k : ℕ) → clash_test (row_at rows i) (row_at rows (i + 1 + k)) ≡ clash_test row (get_or (drop (i + 1) rows) k no_row)
  test_behind k = rw (row_is, behind k) refl

  pub first_clash-Some : (distance : ℕ) → position (clash_test row) (take (length rows - (i + 1)) (drop (i + 1) rows)) ≡ Some distance →
      FirstClash rows i (i + 1 + distance)
  first_clash-Some distance e =
      let f : position (clash_test row) (drop (i + 1) rows) ≡ Some distance = rw take_rest at e in
      let found = position-Some (clash_test row) (drop (i + 1) rows) distance no_row f in
      record {
        order = omega arith;
        within = within (rw length-drop at found.0);
        clash = test_behind distance ∙ found.1;
        earlier = earlier;
        nearer = λ k g l. nearer k g l found.2;
      }
    where
      within : distance < length rows - (i + 1) → i + 1 + distance < length rows
      within g = omega arith

      nearer : (k : ℕ) → i < k → k < i + 1 + distance → ((j : ℕ) → j < distance → clash_test row (get_or (drop (i + 1) rows) j no_row) ≡ false)
          → clash_test (row_at rows i) (row_at rows k) ≡ false
      nearer k g l all =
          let e : k ≡ i + 1 + (k - (i + 1)) = omega arith in
          ap (λ n. clash_test (row_at rows i) (row_at rows n)) e ∙ (test_behind (k - (i + 1)) ∙ all (k - (i + 1)) (omega arith))

  pub first_clash-None : position (clash_test row) (take (length rows - (i + 1)) (drop (i + 1) rows)) ≡ None → NoClash rows (i + 1)
  first_clash-None e j k g l m =
      elim (cases_order j i) [
        | inl s ↦ here s
        | inr o ↦ elim o [ inl lt ↦ earlier j k lt l m | inr gt ↦ absurd (omega arith) ]
      ]
    where
      f : position (clash_test row) (drop (i + 1) rows) ≡ None
      f = rw take_rest at e

      here : j ≡ i → clash_test (row_at rows j) (row_at rows k) ≡ false
      here s =
          let d : k ≡ i + 1 + (k - (i + 1)) = omega arith in
          let b : k - (i + 1) < length (drop (i + 1) rows) = rw length-drop (omega arith) in
          ap (λ n. clash_test (row_at rows n) (row_at rows k)) s
          ∙ (ap (λ n. clash_test (row_at rows i) (row_at rows n)) d
          ∙ (test_behind (k - (i + 1)) ∙ position-None (clash_test row) no_row (drop (i + 1) rows) f (k - (i + 1)) b))
