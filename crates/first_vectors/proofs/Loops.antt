-- Values, lines and names that are read one after the other, as loops do.
use Rattle.std.proofs.Common.{◌≡◌, ℕ, suc, ◌+◌, ◌<◌, ◌≤◌, eqb, List, [], ◌∷◌, ◌++◌, length, drop, get_or, map, Option, Some, None, refl, sym, ap, ◌∙◌, append_assoc, arith, add-one, drop-cons, inl, inr}
use Rattle.std.proofs.lemmas.List.{append-nil, drop_all, nil_from_length}
use Rattle.std.proofs.lemmas.Bool.{cases_Bool}
use Rattle.std.specs.List.{onto_first}
use Rattle.level_range.specs.declared.range.Logic.{Logic}
use Rattle.gate_net.specs.declared.stimulus.ValueLine.{ValueLine}
use Rattle.first_vectors.specs.declared.row.Row.TheVariants.{Values, End}
use Rattle.gate_net.specs.declared.fault.BuildFault.{BuildFault}
use Rattle.gate_net.specs.declared.fault.BuildFault.TheVariants.{Memory, Unbuilt}
use Rattle.gate_net.specs.Steps.{◌>>=◌, Fails}
use Rattle.first_vectors.specs.Fields.{lines_of, fields_of, table_of}
use Rattle.first_vectors.specs.Reading.{value_of, values_of, row_of, rows_of}

-- ---- values

-- what was read before, and what is still read
abbrev pub with_front : List Logic → Option (List Logic) → Option (List Logic)
with_front front read = read >>= λ values. Some (front ++ values)

regroup : (front : List Logic) (value : Logic) (read : Option (List Logic)) → with_front front (read >>= λ values. Some (value ∷ values)) ≡ with_front (front ++ value ∷ []) read
regroup front value None = refl
regroup front value (Some values) = ap Some (sym (append_assoc front (value ∷ []) values))

pub values_step : (front : List Logic) (value : Logic) (i : ℕ) (bs : List ℕ) (total : Option (List Logic)) → i < length bs → value_of (get_or bs i 0) ≡ Some value → with_front front (values_of (drop i bs)) ≡ total → with_front (front ++ value ∷ []) (values_of (drop (i + 1) bs)) ≡ total
unfolding values_of
values_step front value i bs total lt good so_far =
    let here : drop i bs ≡ get_or bs i 0 ∷ drop (suc i) bs = drop-cons bs i 0 lt in
    let one : with_front front (values_of (get_or bs i 0 ∷ drop (suc i) bs)) ≡ with_front (front ++ value ∷ []) (values_of (drop (suc i) bs)) = rw good (regroup front value (values_of (drop (suc i) bs))) in
    rw add-one (sym one ∙ ap (λ (x : List ℕ). with_front front (values_of x)) (sym here) ∙ so_far)

pub values_stop : (front : List Logic) (i : ℕ) (bs : List ℕ) (total : Option (List Logic)) → i < length bs → value_of (get_or bs i 0) ≡ None → with_front front (values_of (drop i bs)) ≡ total → total ≡ None
unfolding values_of
values_stop front i bs total lt bad so_far =
    let here : drop i bs ≡ get_or bs i 0 ∷ drop (suc i) bs = drop-cons bs i 0 lt in
    let one : with_front front (values_of (get_or bs i 0 ∷ drop (suc i) bs)) ≡ None = rw bad refl in
    sym so_far ∙ ap (λ (x : List ℕ). with_front front (values_of x)) here ∙ one

pub values_end : (front : List Logic) (i : ℕ) (bs : List ℕ) (total : Option (List Logic)) → length bs ≤ i → with_front front (values_of (drop i bs)) ≡ total → total ≡ Some front
unfolding values_of
values_end front i bs total le so_far =
    let one : with_front front (values_of []) ≡ Some front = ap Some (append-nil front) in
    sym so_far ∙ ap (λ (x : List ℕ). with_front front (values_of x)) (drop_all i bs le) ∙ one

-- ---- rows

-- what was read before, and what is still read
abbrev pub with_lines : List ValueLine → Option (List ValueLine × ℕ) → Option (List ValueLine × ℕ)
with_lines front read = read >>= λ x. Some (front ++ x.0, x.1)

regroup_lines : (front : List ValueLine) (line : ValueLine) (read : Option (List ValueLine × ℕ)) → with_lines front (read >>= λ x. Some (line ∷ x.0, x.1)) ≡ with_lines (front ++ line ∷ []) read
regroup_lines front line None = refl
regroup_lines front line (Some x) = ap (λ (ls : List ValueLine). Some (ls, x.1)) (sym (append_assoc front (line ∷ []) x.0))

-- the rest of a text is a line and what stands behind it
pub table_cut : (rest line after : List ℕ) → lines_of rest ≡ line ∷ lines_of after → table_of rest ≡ fields_of line ∷ table_of after
unfolding table_of
table_cut rest line after e = ap (map fields_of) e

pub rows_step : (width least : ℕ) (front : List ValueLine) (value : ValueLine) (rest line after : List ℕ) (total : Option (List ValueLine × ℕ)) → lines_of rest ≡ line ∷ lines_of after → row_of width least (fields_of line) ≡ Some (Values value)
    → with_lines front (rows_of width least (table_of rest)) ≡ total → with_lines (front ++ value ∷ []) (rows_of width (value.time + 1) (table_of after)) ≡ total
unfolding rows_of
rows_step width least front value rest line after total cut here so_far =
    let one : with_lines front (rows_of width least (fields_of line ∷ table_of after)) ≡ with_lines (front ++ value ∷ []) (rows_of width (value.time + 1) (table_of after)) = rw here (regroup_lines front value (rows_of width (value.time + 1) (table_of after))) in
    sym one ∙ ap (λ (x : List (List (List ℕ))). with_lines front (rows_of width least x)) (sym (table_cut rest line after cut)) ∙ so_far

-- a line that ends the reading ends it for the rest
row_ends : (width least : ℕ) (front : List ValueLine) (rest line after : List ℕ) (total : Option (List ValueLine × ℕ)) → lines_of rest ≡ line ∷ lines_of after
    → with_lines front (rows_of width least (table_of rest)) ≡ total → with_lines front (rows_of width least (fields_of line ∷ table_of after)) ≡ total
row_ends width least front rest line after total cut so_far =
    ap (λ (x : List (List (List ℕ))). with_lines front (rows_of width least x)) (sym (table_cut rest line after cut)) ∙ so_far

pub rows_stop : (e : BuildFault) (width least : ℕ) (front : List ValueLine) (rest line after : List ℕ) (total : Option (List ValueLine × ℕ)) → lines_of rest ≡ line ∷ lines_of after → Fails e (row_of width least (fields_of line))
    → with_lines front (rows_of width least (table_of rest)) ≡ total → Fails e total
unfolding rows_of
rows_stop Memory width least front rest line after total cut bad so_far = tt
rows_stop Unbuilt width least front rest line after total cut bad so_far =
    let one : with_lines front (rows_of width least (fields_of line ∷ table_of after)) ≡ None = rw bad refl in
    sym (row_ends width least front rest line after total cut so_far) ∙ one

pub rows_end : (width least time : ℕ) (front : List ValueLine) (rest line after : List ℕ) (total : Option (List ValueLine × ℕ)) → lines_of rest ≡ line ∷ lines_of after → row_of width least (fields_of line) ≡ Some (End time) → length after ≡ 0
    → with_lines front (rows_of width least (table_of rest)) ≡ total → total ≡ Some (front, time)
unfolding rows_of table_of
rows_end width least time front rest line after total cut here done so_far =
    let one : with_lines front (rows_of width least (fields_of line ∷ table_of after)) ≡ Some (front, time) = rw (here, nil_from_length after done) (ap (λ (ls : List ValueLine). Some (ls, time)) (append-nil front)) in
    sym (row_ends width least front rest line after total cut so_far) ∙ one

onto_some : (b : ℕ) (parts : List (List ℕ)) → (first : List ℕ) × (others : List (List ℕ)) × (onto_first b parts ≡ first ∷ others)
onto_some b [] = (b ∷ [], [], refl)
onto_some b (part ∷ parts) = (b ∷ part, parts, refl)

-- a text that isn't empty has a line
pub lines_some : (bs : List ℕ) → 0 < length bs → (first : List ℕ) × (others : List (List ℕ)) × (lines_of bs ≡ first ∷ others)
lines_some [] some = absurd (omega arith)
lines_some (b ∷ bs) some =
    elim (cases_Bool (eqb b 10)) [
      | inl e ↦ ([], lines_of bs, rw e refl)
      | inr e ↦ (let x = onto_some b (lines_of bs) in (x.0, x.1, rw e x.2))
    ]

pub rows_early : (width least time : ℕ) (front : List ValueLine) (rest line after : List ℕ) (total : Option (List ValueLine × ℕ)) → lines_of rest ≡ line ∷ lines_of after → row_of width least (fields_of line) ≡ Some (End time) → 0 < length after
    → with_lines front (rows_of width least (table_of rest)) ≡ total → total ≡ None
unfolding rows_of table_of
rows_early width least time front rest line after total cut here more so_far =
    let one : with_lines front (rows_of width least (fields_of line ∷ table_of after)) ≡ None = rw (here, (lines_some after more).2) refl in
    sym (row_ends width least front rest line after total cut so_far) ∙ one

pub rows_short : (width least : ℕ) (front : List ValueLine) (rest : List ℕ) (total : Option (List ValueLine × ℕ)) → lines_of rest ≡ [] → with_lines front (rows_of width least (table_of rest)) ≡ total → total ≡ None
unfolding rows_of table_of
rows_short width least front rest total none so_far =
    let one : with_lines front (rows_of width least (map fields_of (lines_of rest))) ≡ None = rw none refl in
    sym so_far ∙ one
