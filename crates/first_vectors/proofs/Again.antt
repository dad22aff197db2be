-- What is in the form is read: from the relation to the reading.
use Rattle.std.proofs.Common.{◌≡◌, ℕ, zero, suc, ◌+◌, ◌<◌, ◌≤◌, Bool, true, false, eqb, List, [], ◌∷◌, ◌++◌, length, map, get_or, Option, Some, refl, sym, ap, subst, ◌∙◌, arith, inl, inr, not, Result}
use Rattle.std.specs.Prelude.{find, codes}
use Rattle.std.specs.List.{AllZip, AllByRecursion, Contains}
use Rattle.std.specs.Str.{bytes_eq}
use Rattle.std.proofs.lemmas.Bool.{cases_Bool, cases_eq, and_from, le-leb, eq-eqb, both_ways, false_from_ne_true, not_from_false}
use Rattle.std.proofs.lemmas.Slice.Eq.{bytes_eq-Decides}
use Rattle.std.proofs.lemmas.List.{length-map, get_or_read}
use Rattle.std.proofs.lemmas.List.Elements.{recursion_from_All}
use Rattle.level_range.specs.declared.range.Logic.{Logic}
use Rattle.level_range.specs.declared.range.Logic.TheVariants.{Zero, One, X, Z}
use Rattle.gate_net.specs.declared.netlist.Netlist.{Netlist}
use Rattle.gate_net.specs.declared.stimulus.ValueLine.{ValueLine}
use Rattle.gate_net.specs.declared.stimulus.Stimulus.{Stimulus}
use Rattle.gate_net.specs.Sound.{AreApart, IsSound, IsLawful}
use Rattle.name_table.specs.Names.{is_among, is_distinct}
use Rattle.gate_net.specs.declared.fault.BuildFault.{BuildFault}
use Rattle.first_vectors.specs.declared.row.Row.TheVariants.{Values, End}
use Rattle.first_vectors.specs.Fields.{name_in, table_of, number_after, time_of}
use Rattle.gate_net.specs.Steps.{Gives}
use Rattle.first_vectors.specs.Reading.{values_of, name_of, input_named, inputs_named, input_list, inputs_of, end_row, value_row, row_of, rows_of, stimulus_after, stimulus_in, stimulus_of}
use Rattle.first_vectors.specs.First.{IsValue, IsRow, IsInput, row_fields, IsFirstVectors}
use Rattle.first_vectors.proofs.Names.{is_among-not, names_apart}
use Rattle.first_vectors.proofs.Steps.{zip_length, zip_at, Rises, rises_from}

-- ---- rows

values_again : (bs : List ℕ) (values : List Logic) → AllZip IsValue bs values → values_of bs ≡ Some values
unfolding values_of
values_again [] [] z = refl
values_again [] (value ∷ values) z = absurd z
values_again (b ∷ bs) [] z = absurd z
values_again (b ∷ bs) (Zero ∷ values) z = rw (z.0, values_again bs values z.1) refl
values_again (b ∷ bs) (One ∷ values) z = rw (z.0, values_again bs values z.1) refl
values_again (b ∷ bs) (X ∷ values) z = absurd z.0
values_again (b ∷ bs) (Z ∷ values) z = absurd z.0

end_again : (width least : ℕ) (last : List ℕ) (time : ℕ) → time_of last ≡ Some time → least ≤ time + 1 → row_of width least (codes "end" ∷ last ∷ []) ≡ Some (End time)
unfolding row_of end_row
end_again width least last time e le = rw (e, le-leb least (time + 1) le) refl

-- the keyword is no time
word_is_no_time : (time : ℕ) → time_of (codes "end") ≡ Some time → ⊥
unfolding time_of number_after
word_is_no_time time e = cc

not_end : (field : List ℕ) (time : ℕ) → time_of field ≡ Some time → bytes_eq field (codes "end") ≡ false
not_end field time e =
    false_from_ne_true (bytes_eq field (codes "end")) (λ f.
    let same : time_of (codes "end") ≡ Some time = ap time_of (sym ((bytes_eq-Decides field (codes "end")).0 f)) ∙ e in
    word_is_no_time time same)

row_again : (width least : ℕ) (row : List ℕ × List ℕ) (line : ValueLine) → IsRow row line → length line.values ≡ width → least ≤ line.time → row_of width least (row_fields row) ≡ Some (Values line)
unfolding row_of value_row
row_again width least row line is long le =
    let plain = not_end row.0 line.time is.time in
    let fits : eqb (length row.1) width ≡ true = eq-eqb (length row.1) width (zip_length IsValue row.1 line.values is.values ∙ long) in
    rw (plain, is.time, le-leb least line.time le, fits, values_again row.1 line.values is.values) refl

rows_again : (width least : ℕ) (rows : List (List ℕ × List ℕ)) (last : List ℕ) (lines : List ValueLine) (end : ℕ) → AllZip IsRow rows lines → time_of last ≡ Some end → AllByRecursion (λ line. length line.values ≡ width) lines → Rises least lines end
    → rows_of width least (map row_fields rows ++ (codes "end" ∷ last ∷ []) ∷ []) ≡ Some (lines, end)
unfolding rows_of
rows_again width least [] last [] end zip ended widths rises = rw (end_again width least last end ended rises) refl
rows_again width least [] last (line ∷ lines) end zip ended widths rises = absurd zip
rows_again width least (row ∷ rows) last [] end zip ended widths rises = absurd zip
rows_again width least (row ∷ rows) last (line ∷ lines) end zip ended widths rises =
    rw (row_again width least row line zip.0 widths.0 rises.0, rows_again width (line.time + 1) rows last lines end zip.1 ended widths.1 rises.1) refl

-- ---- inputs

later : (p : ℕ → Bool) (y : ℕ) (ys : List ℕ) (x : ℕ) → Contains (y ∷ ys) x → p x ≡ true → p y ≡ false → Contains ys x
later p y ys x (zero, lt, e) holds fails = absurd (both_ways (p y) fails (ap p e ∙ holds))
later p y ys x (suc k, lt, e) holds fails = (k, omega arith, e)

find_only : (p : ℕ → Bool) (xs : List ℕ) (x : ℕ) → Contains xs x → p x ≡ true → ((y : ℕ) → Contains xs y → p y ≡ true → y ≡ x) → find p xs ≡ Some x
find_only p [] x has holds only = absurd (omega (arith, has.1))
find_only p (y ∷ ys) x has holds only =
    elim (cases_Bool (p y)) [
      | inl f ↦ rw f (ap Some (only y (0, omega arith, refl) f))
      | inr f ↦ rw f (find_only p ys x (later p y ys x has holds f) holds (λ z in' h. only z (suc in'.0, omega (arith, in'.1), in'.2) h))
    ]

net_below : (netlist : Netlist) (net : ℕ) → IsSound netlist → Contains netlist.inputs net → net < length netlist.names
net_below netlist net sound has =
    let is : net ≡ get_or netlist.inputs has.0 0 = get_or_read netlist.inputs has.0 net has.1 (sym has.2) 0 in
    let below : get_or netlist.inputs has.0 0 < length netlist.names = sound.inputs has.0 has.1 in
    omega arith

same_net : (netlist : Netlist) (a b : ℕ) → IsSound netlist → is_distinct netlist.names ≡ true → Contains netlist.inputs a → Contains netlist.inputs b → name_of netlist a ≡ name_of netlist b → a ≡ b
same_net netlist a b sound distinct has_a has_b e =
    elim (cases_eq a b) [
      | inl same ↦ same
      | inr differ ↦ absurd (names_apart netlist distinct a b (net_below netlist a sound has_a) (net_below netlist b sound has_b) differ e)
    ]

input_again : (netlist : Netlist) (name : List ℕ) (net : ℕ) → IsSound netlist → is_distinct netlist.names ≡ true → IsInput netlist name net → input_named netlist name ≡ Some net
unfolding input_named
input_again netlist name net sound distinct is =
    find_only (λ other. bytes_eq name (name_of netlist other)) netlist.inputs net is.input ((bytes_eq-Decides name (name_of netlist net)).1 (sym is.called)) (λ other has e.
    same_net netlist other net sound distinct has is.input (sym ((bytes_eq-Decides name (name_of netlist other)).0 e) ∙ sym is.called))

inputs_again : (netlist : Netlist) (names : List (List ℕ)) (nets : List ℕ) → IsSound netlist → is_distinct netlist.names ≡ true → AllZip (IsInput netlist) names nets → inputs_named netlist names ≡ Some nets
unfolding inputs_named
inputs_again netlist [] [] sound distinct z = refl
inputs_again netlist [] (net ∷ nets) sound distinct z = absurd z
inputs_again netlist (name ∷ names) [] sound distinct z = absurd z
inputs_again netlist (name ∷ names) (net ∷ nets) sound distinct z = rw (input_again netlist name net sound distinct z.0, inputs_again netlist names nets sound distinct z.1) refl

distinct_from : (names : List (List ℕ)) → ((j k : ℕ) → j < k → k < length names → get_or names j [] ≡ get_or names k [] → ⊥) → is_distinct names ≡ true
distinct_from [] apart = refl
distinct_from (name ∷ names) apart =
    and_from (not (is_among name names)) (is_distinct names)
    (not_from_false (is_among name names) (is_among-not name names (λ j lt e. apart 0 (suc j) (omega arith) (omega arith) (sym e))))
    (distinct_from names (λ j k lt in' e. apart (suc j) (suc k) (omega arith) (omega arith) e))

names_distinct : (netlist : Netlist) (names : List (List ℕ)) (nets : List ℕ) → IsSound netlist → is_distinct netlist.names ≡ true → AllZip (IsInput netlist) names nets → AreApart nets → is_distinct names ≡ true
names_distinct netlist names nets sound distinct zip apart =
    distinct_from names (λ j k lt in' e.
    let long = zip_length (IsInput netlist) names nets zip in
    let a = zip_at (IsInput netlist) names nets j [] 0 zip (omega arith) in
    let b = zip_at (IsInput netlist) names nets k [] 0 zip (omega arith) in
    apart j k lt (omega arith) (same_net netlist (get_or nets j 0) (get_or nets k 0) sound distinct a.input b.input (a.called ∙ e ∙ sym b.called)))

input_list_again : (netlist : Netlist) (fields : List (List ℕ)) (nets : List ℕ) → 0 < length fields → is_distinct (map name_in fields) ≡ true → inputs_named netlist (map name_in fields) ≡ Some nets → inputs_of netlist (codes "inputs" ∷ fields) ≡ Some nets
unfolding inputs_of input_list
input_list_again netlist [] nets some distinct e = absurd (omega arith)
input_list_again netlist (field ∷ fields) nets some distinct e = rw (distinct, e) refl

-- ---- the whole

lawful_rises : (netlist : Netlist) (stimulus : Stimulus) → IsLawful netlist stimulus → Rises 0 stimulus.lines stimulus.end
lawful_rises netlist stimulus lawful =
    rises_from 0 stimulus.lines stimulus.end (λ k lt. omega arith) lawful.rising (λ k lt. lawful.ended k 0 (omega (arith, length-map stimulus.lines (λ line. line.time)))) (omega arith)

-- a text in the form is read
pub is_again : (netlist : Netlist) (text : List ℕ) (stimulus : Stimulus) → IsSound netlist → is_distinct netlist.names ≡ true → IsFirstVectors netlist text stimulus → stimulus_of netlist text ≡ Some stimulus
unfolding stimulus_of stimulus_in stimulus_after table_of
is_again netlist text stimulus sound distinct is =
    let names = names_distinct netlist (map name_in is.names) stimulus.inputs sound distinct is.inputs is.lawful.apart in
    let inputs : inputs_of netlist (codes "inputs" ∷ is.names) ≡ Some stimulus.inputs = input_list_again netlist is.names stimulus.inputs is.some names (inputs_again netlist (map name_in is.names) stimulus.inputs sound distinct is.inputs) in
    let rows : rows_of (length stimulus.inputs) 0 (map row_fields is.rows ++ (codes "end" ∷ is.last ∷ []) ∷ []) ≡ Some (stimulus.lines, stimulus.end) =
    rows_again (length stimulus.inputs) 0 is.rows is.last stimulus.lines stimulus.end is.lines is.end (recursion_from_All (λ line. length line.values ≡ length stimulus.inputs) stimulus.lines is.lawful.widths) (lawful_rises netlist stimulus is.lawful) in
    ap (stimulus_in netlist) is.spelled ∙ rw (inputs, rows) refl

-- what reading answered is the one stimulus that the text says
pub only_again : (result : Result Stimulus BuildFault) (read : Option Stimulus) (stimulus : Stimulus) → Gives (λ s. s) result read → read ≡ Some stimulus → Gives (λ s. s) result (Some stimulus)
only_again result read stimulus gives e = subst (λ (r : Option Stimulus). Gives (λ s. s) result r) e gives
