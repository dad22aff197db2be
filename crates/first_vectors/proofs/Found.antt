-- What is read is in the form: from the reading to the relation.
use Rattle.std.proofs.Common.{◌≡◌, ℕ, suc, ◌+◌, ◌<◌, ◌≤◌, Bool, true, false, cond, eqb, leb, List, [], ◌∷◌, ◌++◌, length, map, Some, None, refl, sym, ap, subst, ◌∙◌, arith, inl, inr, ◌⊎◌, ◌&&◌, Result, Ok, Err}
use Rattle.std.specs.Prelude.{find, codes, IfOk}
use Rattle.std.specs.List.{AllZip, AllByRecursion, All, Contains}
use Rattle.std.specs.Str.{bytes_eq}
use Rattle.std.proofs.lemmas.Bool.{cases_Bool, and_parts, leb-true, eqb-true}
use Rattle.std.proofs.lemmas.Slice.Eq.{bytes_eq-Decides}
use Rattle.std.proofs.lemmas.List.Elements.{All-from_get_or, All-from_recursion}
use Rattle.std.proofs.lemmas.List.{length-map}
use Rattle.level_range.specs.declared.range.Logic.{Logic}
use Rattle.level_range.specs.declared.range.Logic.TheVariants.{Zero, One}
use Rattle.gate_net.specs.declared.netlist.Netlist.{Netlist}
use Rattle.gate_net.specs.declared.stimulus.ValueLine.{ValueLine}
use Rattle.gate_net.specs.declared.stimulus.Stimulus.{Stimulus}
use Rattle.gate_net.specs.Sound.{AreApart, IsLawful, times_of}
use Rattle.name_table.specs.Names.{is_distinct}
use Rattle.gate_net.specs.declared.fault.BuildFault.{BuildFault}
use Rattle.first_vectors.specs.declared.row.Row.{Row}
use Rattle.first_vectors.specs.declared.row.Row.TheVariants.{Values, End}
use Rattle.gate_net.specs.Steps.{◌>>=◌, Gives}
use Rattle.first_vectors.specs.Fields.{name_in, table_of, two_of, time_of}
use Rattle.first_vectors.specs.Reading.{value_of, values_of, name_of, input_named, inputs_named, input_list, inputs_of, end_row, value_row, row_of, with_row, rows_of, is_first, stimulus_after, stimulus_in, stimulus_of}
use Rattle.first_vectors.specs.First.{IsValue, IsRow, IsInput, row_fields, spelling, IsFirstVectors}
use Rattle.first_vectors.proofs.Names.{distinct_apart}
use Rattle.first_vectors.proofs.Steps.{bind_some, guard_some, zip_length, zip_at, time_small, Rises, rises_below, rises_pairs}

-- ---- values

value_found : (b : ℕ) (value : Logic) → value_of b ≡ Some value → IsValue b value
value_found b value e =
    elim (cases_Bool (eqb b 48)) [
      | inl zero' ↦ (let same : Zero ≡ value = (let f : cond true (Some Zero) (cond (eqb b 49) (Some One) None) ≡ Some value = rw zero' at e in cc) in subst (IsValue b) same (eqb-true b 48 zero'))
      | inr other ↦ (let g : cond false (Some Zero) (cond (eqb b 49) (Some One) None) ≡ Some value = rw other at e in
          let h = guard_some (eqb b 49) (Some One) value g in
          let same : One ≡ value = cc in subst (IsValue b) same (eqb-true b 49 h.0))
    ]

values_found : (bs : List ℕ) (values : List Logic) → values_of bs ≡ Some values → AllZip IsValue bs values
unfolding values_of
values_found [] values e =
    let same : [] ≡ values = cc in
    subst (AllZip IsValue []) same tt
values_found (b ∷ bs) values e =
    let first = bind_some (value_of b) (λ value. values_of bs >>= λ others. Some (value ∷ others)) values e in
    let rest = bind_some (values_of bs) (λ others. Some (first.0 ∷ others)) values first.2 in
    let same : first.0 ∷ rest.0 ≡ values = (let f : Some (first.0 ∷ rest.0) ≡ Some values = rest.2 in cc) in
    subst (AllZip IsValue (b ∷ bs)) same (value_found b first.0 first.1, values_found bs rest.0 rest.1)

-- ---- rows

two_found : (fields : List (List ℕ)) (two : List ℕ × List ℕ) → two_of fields ≡ Some two → fields ≡ two.0 ∷ two.1 ∷ []
two_found [] two e = absurd cc
two_found (first ∷ []) two e = absurd cc
two_found (first ∷ second ∷ []) two e =
    let same : (let pair : List ℕ × List ℕ = (first, second) in pair) ≡ two = cc in
    subst (λ (p : List ℕ × List ℕ). first ∷ second ∷ [] ≡ p.0 ∷ p.1 ∷ []) same refl
two_found (first ∷ second ∷ third ∷ others) two e = absurd cc

-- what a row says
abbrev RowSays : ℕ → ℕ → List (List ℕ) → Row → Type 0
RowSays width least fields (End time) = (last : List ℕ) × (fields ≡ codes "end" ∷ last ∷ []) × (time_of last ≡ Some time) × (least ≤ time + 1)
RowSays width least fields (Values line) = (row : List ℕ × List ℕ) × (fields ≡ row_fields row) × IsRow row line × (length line.values ≡ width) × (least ≤ line.time)

chosen : {A : Type 0} (b : Bool) (x y z : A) → cond b x y ≡ z → ((b ≡ true) × (x ≡ z)) ⊎ ((b ≡ false) × (y ≡ z))
chosen true x y z e = inl (refl, e)
chosen false x y z e = inr (refl, e)

end_found : (width least : ℕ) (first last : List ℕ) (fields : List (List ℕ)) (row : Row) → fields ≡ first ∷ last ∷ [] → bytes_eq first (codes "end") ≡ true → end_row least last ≡ Some row → RowSays width least fields row
unfolding end_row
end_found width least first last fields row is word e =
    let b = bind_some (time_of last) (λ time. cond (leb least (time + 1)) (Some (End time)) None) row e in
    let g = guard_some (leb least (b.0 + 1)) (Some (End b.0)) row b.2 in
    let same : End b.0 ≡ row = (let f : Some (End b.0) ≡ Some row = g.1 in cc) in
    subst (RowSays width least fields) same (last, is ∙ ap (λ (x : List ℕ). x ∷ last ∷ []) ((bytes_eq-Decides first (codes "end")).0 word), b.1, leb-true least (b.0 + 1) g.0)

values_row_found : (width least : ℕ) (first second : List ℕ) (fields : List (List ℕ)) (row : Row) → fields ≡ first ∷ second ∷ [] → value_row width least first second ≡ Some row → RowSays width least fields row
unfolding value_row
values_row_found width least first second fields row is e =
    let b = bind_some (time_of first) (λ time. cond (leb least time && eqb (length second) width) (values_of second >>= λ values. Some (Values (record { time = time; values = values }))) None) row e in
    let g = guard_some (leb least b.0 && eqb (length second) width) (values_of second >>= λ values. Some (Values (record { time = b.0; values = values }))) row b.2 in
    let tests = and_parts (leb least b.0) (eqb (length second) width) g.0 in
    let v = bind_some (values_of second) (λ values. Some (Values (record { time = b.0; values = values }))) row g.1 in
    let line : ValueLine = record { time = b.0; values = v.0 } in
    let same : Values line ≡ row = (let f : Some (Values line) ≡ Some row = v.2 in cc) in
    let values = values_found second v.0 v.1 in
    let says : RowSays width least fields (Values line) = ((first, second), is, record { time = b.1; values = values }, sym (zip_length IsValue second v.0 values) ∙ eqb-true (length second) width tests.1, leb-true least b.0 tests.0) in
    subst (RowSays width least fields) same says

row_found : (width least : ℕ) (fields : List (List ℕ)) (row : Row) → row_of width least fields ≡ Some row → RowSays width least fields row
unfolding row_of
row_found width least fields row e =
    let b = bind_some (two_of fields) (λ two. cond (bytes_eq two.0 (codes "end")) (end_row least two.1) (value_row width least two.0 two.1)) row e in
    let is = two_found fields b.0 b.1 in
    elim (chosen (bytes_eq b.0.0 (codes "end")) (end_row least b.0.1) (value_row width least b.0.0 b.0.1) (Some row) b.2) [
      | inl x ↦ end_found width least b.0.0 b.0.1 fields row is x.0 x.1
      | inr x ↦ values_row_found width least b.0.0 b.0.1 fields row is x.1
    ]

-- what the lines behind the first two say
pub record Says (width least : ℕ) (table : List (List (List ℕ))) (lines : List ValueLine) (end : ℕ) : Type 0 where
  pub rows : List (List ℕ × List ℕ)
  pub last : List ℕ
  pub spelled : table ≡ map row_fields rows ++ (codes "end" ∷ last ∷ []) ∷ []
  pub each : AllZip IsRow rows lines
  pub ended : time_of last ≡ Some end
  pub widths : AllByRecursion (λ line. length line.values ≡ width) lines
  pub rises : Rises least lines end

with_row_found : (width least : ℕ) (row : Row) (fields : List (List ℕ)) (others : List (List (List ℕ))) (x : List ValueLine × ℕ) → RowSays width least fields row → ((next : ℕ) (y : List ValueLine × ℕ) → rows_of width next others ≡ Some y → Says width next others y.0 y.1)
    → with_row row others (λ next. rows_of width next others) ≡ Some x → Says width least (fields ∷ others) x.0 x.1
with_row_found width least (End time) fields [] x says later e =
    let same : (let p : List ValueLine × ℕ = ([], time) in p) ≡ x = cc in
    let made : Says width least (fields ∷ []) [] time = record { rows = []; last = says.0; spelled = ap (λ (f : List (List ℕ)). f ∷ []) says.1; each = tt; ended = says.2; widths = tt; rises = says.3 } in
    subst (λ (y : List ValueLine × ℕ). Says width least (fields ∷ []) y.0 y.1) same made
with_row_found width least (End time) fields (other ∷ others) x says later e = absurd cc
with_row_found width least (Values line) fields others x says later e =
    let b = bind_some (rows_of width (line.time + 1) others) (λ y. Some (line ∷ y.0, y.1)) x e in
    let rest = later (line.time + 1) b.0 b.1 in
    let same : (let p : List ValueLine × ℕ = (line ∷ b.0.0, b.0.1) in p) ≡ x = (let f : Some (let p : List ValueLine × ℕ = (line ∷ b.0.0, b.0.1) in p) ≡ Some x = b.2 in cc) in
    let made : Says width least (fields ∷ others) (line ∷ b.0.0) b.0.1 = record {
      rows = says.0 ∷ rest.rows;
      last = rest.last;
      spelled = ap (λ (f : List (List ℕ)). f ∷ others) says.1 ∙ ap (λ (t : List (List (List ℕ))). row_fields says.0 ∷ t) rest.spelled;
      each = (says.2, rest.each);
      ended = rest.ended;
      widths = (says.3, rest.widths);
      rises = (says.4, rest.rises);
    } in
    subst (λ (y : List ValueLine × ℕ). Says width least (fields ∷ others) y.0 y.1) same made

rows_found : (width least : ℕ) (table : List (List (List ℕ))) (x : List ValueLine × ℕ) → rows_of width least table ≡ Some x → Says width least table x.0 x.1
unfolding rows_of
rows_found width least [] x e = absurd cc
rows_found width least (fields ∷ others) x e =
    let b = bind_some (row_of width least fields) (λ row. with_row row others (λ next. rows_of width next others)) x e in
    with_row_found width least b.0 fields others x (row_found width least fields b.0 b.1) (λ next y f. rows_found width next others y f) b.2

-- ---- inputs

find_found : (p : ℕ → Bool) (xs : List ℕ) (x : ℕ) → find p xs ≡ Some x → Contains xs x × (p x ≡ true)
find_found p [] x e = absurd cc
find_found p (y ∷ ys) x e =
    elim (chosen (p y) (Some y) (find p ys) (Some x) e) [
      | inl f ↦ (let same : y ≡ x = (let g : Some y ≡ Some x = f.1 in cc) in ((0, omega arith, same), rw (← same) f.0))
      | inr f ↦ (let r = find_found p ys x f.1 in ((suc r.0.0, omega (arith, r.0.1), r.0.2), r.1))
    ]

input_found : (netlist : Netlist) (name : List ℕ) (net : ℕ) → input_named netlist name ≡ Some net → IsInput netlist name net
unfolding input_named
input_found netlist name net e =
    let f = find_found (λ other. bytes_eq name (name_of netlist other)) netlist.inputs net e in
    record { input = f.0; called = sym ((bytes_eq-Decides name (name_of netlist net)).0 f.1) }

inputs_found : (netlist : Netlist) (names : List (List ℕ)) (nets : List ℕ) → inputs_named netlist names ≡ Some nets → AllZip (IsInput netlist) names nets
unfolding inputs_named
inputs_found netlist [] nets e =
    let same : [] ≡ nets = cc in
    subst (AllZip (IsInput netlist) []) same tt
inputs_found netlist (name ∷ names) nets e =
    let first = bind_some (input_named netlist name) (λ net. inputs_named netlist names >>= λ others. Some (net ∷ others)) nets e in
    let rest = bind_some (inputs_named netlist names) (λ others. Some (first.0 ∷ others)) nets first.2 in
    let same : first.0 ∷ rest.0 ≡ nets = (let f : Some (first.0 ∷ rest.0) ≡ Some nets = rest.2 in cc) in
    subst (AllZip (IsInput netlist) (name ∷ names)) same (input_found netlist name first.0 first.1, inputs_found netlist names rest.0 rest.1)

inputs_apart : (netlist : Netlist) (names : List (List ℕ)) (nets : List ℕ) → is_distinct names ≡ true → AllZip (IsInput netlist) names nets → AreApart nets
inputs_apart netlist names nets distinct zip = λ j k lt in' e.
    let long = zip_length (IsInput netlist) names nets zip in
    let a = zip_at (IsInput netlist) names nets j [] 0 zip (omega arith) in
    let b = zip_at (IsInput netlist) names nets k [] 0 zip (omega arith) in
    distinct_apart names distinct j k lt (omega arith) (sym a.called ∙ ap (name_of netlist) e ∙ b.called)

inputs_known : (netlist : Netlist) (names : List (List ℕ)) (nets : List ℕ) → AllZip (IsInput netlist) names nets → All (Contains netlist.inputs) nets
inputs_known netlist names nets zip = λ k d lt.
    let long = zip_length (IsInput netlist) names nets zip in
    (zip_at (IsInput netlist) names nets k [] d zip (omega arith)).input

-- what the second line says
pub record Lists (netlist : Netlist) (fields : List (List ℕ)) (nets : List ℕ) : Type 0 where
  pub names : List (List ℕ)
  pub spelled : fields ≡ codes "inputs" ∷ names
  pub some : 0 < length names
  pub distinct : is_distinct (map name_in names) ≡ true
  pub inputs : AllZip (IsInput netlist) (map name_in names) nets

input_list_found : (netlist : Netlist) (names : List (List ℕ)) (nets : List ℕ) → input_list netlist names ≡ Some nets → (0 < length names) × (is_distinct names ≡ true) × (inputs_named netlist names ≡ Some nets)
unfolding input_list
input_list_found netlist [] nets e = absurd cc
input_list_found netlist (name ∷ names) nets e =
    let g = guard_some (is_distinct (name ∷ names)) (inputs_named netlist (name ∷ names)) nets e in
    (omega arith, g.0, g.1)

lists_found : (netlist : Netlist) (fields : List (List ℕ)) (nets : List ℕ) → inputs_of netlist fields ≡ Some nets → Lists netlist fields nets
unfolding inputs_of
lists_found netlist [] nets e = absurd cc
lists_found netlist (word ∷ names) nets e =
    let g = guard_some (bytes_eq word (codes "inputs")) (input_list netlist (map name_in names)) nets e in
    let l = input_list_found netlist (map name_in names) nets g.1 in
    record {
      names = names;
      spelled = ap (λ (w : List ℕ). w ∷ names) ((bytes_eq-Decides word (codes "inputs")).0 g.0);
      some = omega (arith, l.0, length-map names name_in);
      distinct = l.1;
      inputs = inputs_found netlist (map name_in names) nets l.2;
    }

-- ---- the whole

first_found : (fields : List (List ℕ)) → is_first fields ≡ true → fields ≡ codes "vectors" ∷ codes "1" ∷ []
first_found [] e = absurd cc
first_found (word ∷ []) e = absurd cc
first_found (word ∷ form ∷ []) e =
    let parts = and_parts (bytes_eq word (codes "vectors")) (bytes_eq form (codes "1")) e in
    rw ((bytes_eq-Decides word (codes "vectors")).0 parts.0, (bytes_eq-Decides form (codes "1")).0 parts.1) refl
first_found (word ∷ form ∷ third ∷ others) e = absurd cc

says_lawful : (netlist : Netlist) (fields : List (List ℕ)) (table : List (List (List ℕ))) (stimulus : Stimulus) → Lists netlist fields stimulus.inputs → Says (length stimulus.inputs) 0 table stimulus.lines stimulus.end → IsLawful netlist stimulus
says_lawful netlist fields table stimulus lists says = record {
  known = inputs_known netlist (map name_in lists.names) stimulus.inputs lists.inputs;
  apart = inputs_apart netlist (map name_in lists.names) stimulus.inputs lists.distinct lists.inputs;
  widths = All-from_recursion (λ line. length line.values ≡ length stimulus.inputs) stimulus.lines says.widths;
  rising = λ j k lt in'. rises_pairs 0 stimulus.lines stimulus.end j k says.rises lt in';
  ended = All-from_get_or (λ time. time ≤ stimulus.end) (times_of stimulus.lines) 0 (λ k lt. rises_below 0 stimulus.lines stimulus.end k says.rises (omega (arith, length-map stimulus.lines (λ line. line.time))));
  limit = time_small says.last stimulus.end says.ended;
}

spelled_from : (whole : List (List (List ℕ))) (first second : List (List ℕ)) (rest : List (List (List ℕ))) (names : List (List ℕ)) (rows : List (List ℕ × List ℕ)) (last : List ℕ)
    → whole ≡ first ∷ second ∷ rest → first ≡ codes "vectors" ∷ codes "1" ∷ [] → second ≡ codes "inputs" ∷ names → rest ≡ map row_fields rows ++ (codes "end" ∷ last ∷ []) ∷ [] → whole ≡ spelling names rows last
spelled_from whole first second rest names rows last is f g h = is ∙ ap (λ (x : List (List ℕ)). x ∷ second ∷ rest) f ∙ ap (λ (x : List (List ℕ)). (codes "vectors" ∷ codes "1" ∷ []) ∷ x ∷ rest) g ∙ ap (λ (t : List (List (List ℕ))). (codes "vectors" ∷ codes "1" ∷ []) ∷ (codes "inputs" ∷ names) ∷ t) h

is_found_in : (netlist : Netlist) (text : List ℕ) (table : List (List (List ℕ))) (stimulus : Stimulus) → table_of text ≡ table → stimulus_in netlist table ≡ Some stimulus → IsFirstVectors netlist text stimulus
unfolding table_of stimulus_in stimulus_after
is_found_in netlist text [] stimulus is e = absurd cc
is_found_in netlist text (first ∷ []) stimulus is e = absurd cc
is_found_in netlist text (first ∷ second ∷ rows) stimulus is e =
    let g = guard_some (is_first first) (stimulus_after netlist second rows) stimulus e in
    let a = bind_some (inputs_of netlist second) (λ inputs. rows_of (length inputs) 0 rows >>= λ x. Some (record { inputs = inputs; lines = x.0; end = x.1 })) stimulus g.1 in
    let b = bind_some (rows_of (length a.0) 0 rows) (λ x. Some (record { inputs = a.0; lines = x.0; end = x.1 })) stimulus a.2 in
    let made : Stimulus = record { inputs = a.0; lines = b.0.0; end = b.0.1 } in
    let same : made ≡ stimulus = (let f : Some made ≡ Some stimulus = b.2 in cc) in
    let lists = lists_found netlist second a.0 a.1 in
    let says = rows_found (length a.0) 0 rows b.0 b.1 in
    let found : IsFirstVectors netlist text made = record {
      names = lists.names;
      rows = says.rows;
      last = says.last;
      spelled = spelled_from (table_of text) first second rows lists.names says.rows says.last is (first_found first g.0) lists.spelled says.spelled;
      some = lists.some;
      inputs = lists.inputs;
      lines = says.each;
      end = says.ended;
      lawful = says_lawful netlist second rows made lists says;
    } in
    subst (λ (s : Stimulus). IsFirstVectors netlist text s) same found

-- a text that is read is in the form
pub is_found : (netlist : Netlist) (text : List ℕ) (stimulus : Stimulus) → stimulus_of netlist text ≡ Some stimulus → IsFirstVectors netlist text stimulus
unfolding stimulus_of
is_found netlist text stimulus e = is_found_in netlist text (table_of text) stimulus refl e

-- what reading answered is in the form
pub answer_found : (netlist : Netlist) (text : List ℕ) (result : Result Stimulus BuildFault) → Gives (λ s. s) result (stimulus_of netlist text) → IfOk result (λ s. IsFirstVectors netlist text s)
answer_found netlist text (Ok stimulus) gives = is_found netlist text stimulus gives
answer_found netlist text (Err fault) gives = tt

pub answer_lawful : (netlist : Netlist) (text : List ℕ) (result : Result Stimulus BuildFault) → Gives (λ s. s) result (stimulus_of netlist text) → IfOk result (λ s. IsLawful netlist s)
answer_lawful netlist text (Ok stimulus) gives = (is_found netlist text stimulus gives).lawful
answer_lawful netlist text (Err fault) gives = tt
