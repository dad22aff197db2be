-- The order of the rows doesn't matter: rows that match one look-up have the same output.
use Rattle.std.proofs.Common.{◌≡◌, ℕ, zero, suc, ◌<◌, Bool, true, false, inl, inr, List, [], ◌∷◌, ◌++◌, length, get_or, refl, ap, sym, ◌∙◌, arith}
use Rattle.std.specs.Prelude.{Some, None, if◌then◌else◌}
use Rattle.std.specs.List.{Contains}
use Rattle.std.proofs.lemmas.List.{get_or_default}
use Rattle.std.proofs.lemmas.List.Elements.{Contains-get_or}
use Rattle.std.proofs.lemmas.Bool.{cases_order}
use Rattle.level_range.specs.declared.range.Logic.{Logic}
use Rattle.level_range.specs.declared.range.Logic.TheVariants.{X}
use Rattle.udp_table.specs.declared.rows.UdpRow.{UdpRow}
use Rattle.udp_table.specs.Symbols.{Pin, same_value}
use Rattle.udp_table.specs.Rows.{matches, row_at, no_row}
use Rattle.udp_table.specs.Primitive.{Agrees}
use Rattle.udp_table.specs.LookUp.{matching_output, level_inputs, edge_inputs, value_or_x, output_value, level_value, next_value, state_after, HasSameRows}
use Rattle.udp_table.proofs.Finding.{matching_output-cons}

-- no row matches, or the one that is found does
pub data Search (rows : List UdpRow) (pins : List Pin) (state : Logic) : Type 0 where
  Nothing : matching_output rows pins state ≡ None → ((k : ℕ) → k < length rows → matches (row_at rows k) pins state ≡ false) → Search rows pins state
  At : (k : ℕ) → k < length rows → matches (row_at rows k) pins state ≡ true → matching_output rows pins state ≡ Some (row_at rows k).out → Search rows pins state

pub search_rows : (rows : List UdpRow) (pins : List Pin) (state : Logic) → Search rows pins state
search_rows [] pins state = Nothing refl (λ k h. absurd (omega arith))
search_rows (row ∷ rows) pins state = by_first (matches row pins state) refl (search_rows rows pins state)
  where
    later : matches row pins state ≡ false → (k : ℕ) → ((j : ℕ) → j < length rows → matches (row_at rows j) pins state ≡ false)
        → k < suc (length rows) → matches (row_at (row ∷ rows) k) pins state ≡ false
    later e zero none h = e
    later e (suc k) none h = none k (omega arith)

    by_first : (b : Bool) → matches row pins state ≡ b → Search rows pins state → Search (row ∷ rows) pins state
    by_first true e rest = At 0 (omega arith) e (rw (matching_output-cons row rows pins state, e) refl)
    by_first false e (Nothing none all) = Nothing (rw (matching_output-cons row rows pins state, e, none) refl) (λ k. later e k all)
    by_first false e (At k h m f) = At (suc k) (omega arith) m (rw (matching_output-cons row rows pins state, e, f) refl)

-- rows of the list that match one look-up have the same output
abbrev pub IsConsistent : List UdpRow → Type 0
IsConsistent rows =
    (r s : UdpRow) → Contains rows r → Contains rows s → (pins : List Pin) (state : Logic)
    → matches r pins state ≡ true → matches s pins state ≡ true → r.out ≡ s.out

out_at : (rows : List UdpRow) → Agrees rows → (pins : List Pin) (state : Logic) (i j : ℕ) → i < length rows → j < length rows →
    matches (row_at rows i) pins state ≡ true → matches (row_at rows j) pins state ≡ true → (row_at rows i).out ≡ (row_at rows j).out
out_at rows agrees pins state i j h g m n =
    elim (cases_order i j) [
      | inl e ↦ ap (λ k. (row_at rows k).out) e
      | inr o ↦ elim o [
        | inl lt ↦ agrees i j lt g (record { pins = pins; state = state; first = m; second = n })
        | inr gt ↦ sym (agrees j i gt h (record { pins = pins; state = state; first = n; second = m }))
      ]
    ]

row_is : (rows : List UdpRow) (k : ℕ) (r : UdpRow) → k < length rows → get_or rows k r ≡ r → row_at rows k ≡ r
row_is rows k r h e = get_or_default rows k no_row r h ∙ e

pub IsConsistent-Agrees : (rows : List UdpRow) → Agrees rows → IsConsistent rows
IsConsistent-Agrees rows agrees r s (i, h, e) (j, g, f) pins state m n =
    let p : row_at rows i ≡ r = row_is rows i r h e in
    let q : row_at rows j ≡ s = row_is rows j s g f in
    sym (ap (λ x. x.out) p) ∙ (out_at rows agrees pins state i j h g (ap (λ x. matches x pins state) p ∙ m) (ap (λ x. matches x pins state) q ∙ n) ∙ ap (λ x. x.out) q)

-- whichever row matches, its output is found
pub matching_output-any : (rows : List UdpRow) → IsConsistent rows → (row : UdpRow) (pins : List Pin) (state : Logic) → Contains rows row →
    matches row pins state ≡ true → matching_output rows pins state ≡ Some row.out
matching_output-any rows same row pins state (k, h, e) m = by_search (search_rows rows pins state)
  where
    at_k : matches (row_at rows k) pins state ≡ true
    at_k = ap (λ x. matches x pins state) (row_is rows k row h e) ∙ m

    by_search : Search rows pins state → matching_output rows pins state ≡ Some row.out
    by_search (Nothing none all) = absurd (let a : matches (row_at rows k) pins state ≡ false = all k h in let b = at_k in cc)
    by_search (At j g n f) = f ∙ ap Some (same (row_at rows j) row (Contains-get_or rows j no_row g) (k, h, e) pins state n m)

-- two lists of the same rows find the same
pub matching_output-same : (rows others : List UdpRow) → IsConsistent rows → HasSameRows rows others → (pins : List Pin) (state : Logic) →
    matching_output rows pins state ≡ matching_output others pins state
matching_output-same rows others same rows_are pins state = by_search (search_rows rows pins state) (search_rows others pins state)
  where
    by_search : Search rows pins state → Search others pins state → matching_output rows pins state ≡ matching_output others pins state
    by_search (Nothing none all) (Nothing nothing every) = none ∙ sym nothing
    by_search first (At k h m f) =
        matching_output-any rows same (row_at others k) pins state ((rows_are (row_at others k)).1 (Contains-get_or others k no_row h)) m ∙ sym f
    by_search (At k h m f) (Nothing nothing every) = absurd (missed ((rows_are (row_at rows k)).0 (Contains-get_or rows k no_row h)))
      where
        missed : Contains others (row_at rows k) → ⊥
        missed (j, g, e) =
            let a : matches (row_at others j) pins state ≡ false = every j g in
            let b : row_at others j ≡ row_at rows k = row_is others j (row_at rows k) g e in
            let d : matches (row_at others j) pins state ≡ matches (row_at rows k) pins state = ap (λ x. matches x pins state) b in
            let n = m in cc

pub level_value-same : (rows others : List UdpRow) → Agrees rows → HasSameRows rows others → (ins : List Logic) →
    level_value rows ins ≡ level_value others ins
level_value-same rows others agrees rows_are ins =
    ap (λ s. value_or_x s X) (matching_output-same rows others (IsConsistent-Agrees rows agrees) rows_are (level_inputs ins) X)

pub level_value-any : (rows : List UdpRow) → Agrees rows → (row : UdpRow) (ins : List Logic) → Contains rows row →
    matches row (level_inputs ins) X ≡ true → level_value rows ins ≡ output_value row.out X
level_value-any rows agrees row ins h m =
    ap (λ s. value_or_x s X) (matching_output-any rows (IsConsistent-Agrees rows agrees) row (level_inputs ins) X h m)

next_value-same : (rows others : List UdpRow) → IsConsistent rows → HasSameRows rows others →
    (before : List Logic) (was now : Logic) (after : List Logic) (state : Logic) →
    next_value rows before was now after state ≡ next_value others before was now after state
next_value-same rows others same rows_are before was now after state =
    rw (
      matching_output-same rows others same rows_are (level_inputs (before ++ (now ∷ after))) state,
      matching_output-same rows others same rows_are (edge_inputs before was now after) state,
    ) refl

state_after-from : (rows others : List UdpRow) → IsConsistent rows → HasSameRows rows others →
    (before old new : List Logic) (state : Logic) → state_after rows before old new state ≡ state_after others before old new state
state_after-from rows others same rows_are before (v ∷ vs) (w ∷ ws) state =
    rw (next_value-same rows others same rows_are before v w vs state)
    (state_after-from rows others same rows_are (before ++ (w ∷ [])) vs ws (if same_value v w then state else next_value others before v w vs state))
state_after-from rows others same rows_are before [] new state = refl
state_after-from rows others same rows_are before (v ∷ vs) [] state = refl

pub state_after-same : (rows others : List UdpRow) → Agrees rows → HasSameRows rows others →
    (old new : List Logic) (state : Logic) → state_after rows [] old new state ≡ state_after others [] old new state
state_after-same rows others agrees rows_are old new state =
    state_after-from rows others (IsConsistent-Agrees rows agrees) rows_are [] old new state
