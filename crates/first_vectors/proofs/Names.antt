-- Names that are found, names that are apart, and the names of a line one after the other.
use Rattle.std.proofs.Common.{◌≡◌, ℕ, zero, suc, ◌+◌, ◌<◌, Bool, true, false, not, cond, List, [], ◌∷◌, ◌++◌, length, map, take, get_or, Option, Some, None, refl, sym, ap, ◌∙◌, append_assoc, arith, inl, inr, Bor, MatchOption}
use Rattle.std.specs.Prelude.{find}
use Rattle.std.specs.Option.{option_map}
use Rattle.std.specs.Str.{bytes_eq}
use Rattle.std.proofs.lemmas.Bool.{cases_Bool, cases_order, and_parts, and_left, and_right, or_from, or_left, or_right, or_cases, not-true, not-false, not_from_true, not_from_false, both_ways, false_from_ne_true}
use Rattle.std.proofs.lemmas.Option.{MatchOption-at_some, MatchOption-at_none}
use Rattle.std.proofs.lemmas.Slice.Eq.{bytes_eq-Decides}
use Rattle.std.proofs.lemmas.List.{get_or-map, get_or-take, length-map, length-take, map_more, get_or_read}
use Rattle.gate_net.specs.declared.netlist.Netlist.{Netlist}
use Rattle.gate_net.specs.Sound.{IsSound}
use Rattle.name_table.specs.Names.{same_name, is_among, is_distinct, index_of}
use Rattle.name_table.proofs.Found.{is_distinct-push}
use Rattle.gate_net.specs.Steps.{◌>>=◌}
use Rattle.first_vectors.specs.Fields.{fields_of, name_in}
use Rattle.first_vectors.specs.Reading.{name_of, input_names, input_named, inputs_named, input_list}

-- ---- names apart

pub is_among-not : (name : List ℕ) (names : List (List ℕ)) → ((j : ℕ) → j < length names → get_or names j [] ≡ name → ⊥) → is_among name names ≡ false
is_among-not name [] apart = refl
is_among-not name (other ∷ names) apart =
    or_from (same_name name other) (is_among name names) (false_from_ne_true (same_name name other) (λ e. apart 0 (omega arith) (sym ((bytes_eq-Decides name other).0 e)))) (is_among-not name names (λ j lt. apart (suc j) (omega arith)))

pub is_among-get_or : (names : List (List ℕ)) (j : ℕ) → j < length names → is_among (get_or names j []) names ≡ true
is_among-get_or [] j lt = absurd (omega arith)
is_among-get_or (name ∷ names) zero lt = or_left (same_name name name) (is_among name names) ((bytes_eq-Decides name name).1 refl)
is_among-get_or (name ∷ names) (suc j) lt = or_right (same_name (get_or names j []) name) (is_among (get_or names j []) names) (is_among-get_or names j (omega arith))

pub distinct_apart : (names : List (List ℕ)) → is_distinct names ≡ true → (j k : ℕ) → j < k → k < length names → get_or names j [] ≡ get_or names k [] → ⊥
distinct_apart [] distinct j k lt in' = absurd (omega arith)
distinct_apart (name ∷ names) distinct j zero lt in' = absurd (omega arith)
distinct_apart (name ∷ names) distinct zero (suc k) lt in' = λ e.
    let parts = and_parts (not (is_among name names)) (is_distinct names) distinct in
    both_ways (is_among name names) (not-true (is_among name names) parts.0) (ap (λ (x : List ℕ). is_among x names) e ∙ is_among-get_or names k (omega arith))
distinct_apart (name ∷ names) distinct (suc j) (suc k) lt in' =
    let parts = and_parts (not (is_among name names)) (is_distinct names) distinct in
    distinct_apart names parts.1 j k (omega arith) (omega arith)

pub names_apart : (netlist : Netlist) → is_distinct netlist.names ≡ true → (a b : ℕ) → a < length netlist.names → b < length netlist.names → (a ≡ b → ⊥) → name_of netlist a ≡ name_of netlist b → ⊥
names_apart netlist distinct a b in_a in_b differ e =
    elim (cases_order a b) [
      | inl same ↦ differ same
      | inr (inl below) ↦ distinct_apart netlist.names distinct a b below in_b e
      | inr (inr above) ↦ distinct_apart netlist.names distinct b a above in_a (sym e)
    ]

-- the name of an input is another than those of the inputs before it
next_apart : (netlist : Netlist) (i : ℕ) → IsSound netlist → is_distinct netlist.names ≡ true → i < length netlist.inputs → is_among (name_of netlist (get_or netlist.inputs i 0)) (map (name_of netlist) (take i netlist.inputs)) ≡ false
next_apart netlist i sound distinct lt =
    is_among-not (name_of netlist (get_or netlist.inputs i 0)) (map (name_of netlist) (take i netlist.inputs)) (λ j below e.
    let before : j < i = omega (arith, length-map (take i netlist.inputs) (name_of netlist), length-take i netlist.inputs) in
    let within : j < length (take i netlist.inputs) = omega (arith, length-take i netlist.inputs) in
    let here : get_or (map (name_of netlist) (take i netlist.inputs)) j [] ≡ name_of netlist (get_or netlist.inputs j 0) = get_or-map (name_of netlist) (take i netlist.inputs) j 0 [] within ∙ ap (name_of netlist) (get_or-take i netlist.inputs j 0 before) in
    names_apart netlist distinct (get_or netlist.inputs j 0) (get_or netlist.inputs i 0) (sound.inputs j (omega arith)) (sound.inputs i lt) (sound.inputs_apart j i before lt) (sym here ∙ e))

-- the table of the inputs' names grows by the next of them
pub table_grows : (netlist : Netlist) (i : ℕ) (table next : List (List ℕ)) (added : Bool) (name : List ℕ) → IsSound netlist → is_distinct netlist.names ≡ true → i < length netlist.inputs → name ≡ name_of netlist (get_or netlist.inputs i 0)
    → table ≡ map (name_of netlist) (take i netlist.inputs) → added ≡ not (is_among name table) → next ≡ cond added (table ++ name ∷ []) table → next ≡ map (name_of netlist) (take (i + 1) netlist.inputs)
table_grows netlist i table next added name sound distinct lt is so_far new grown =
    let absent : is_among name table ≡ false = rw (is, so_far) (next_apart netlist i sound distinct lt) in
    let yes' : added ≡ true = new ∙ not_from_false (is_among name table) absent in
    grown ∙ ap (λ (b : Bool). cond b (table ++ name ∷ []) table) yes' ∙ rw (is, so_far) (sym (map_more (name_of netlist) netlist.inputs i 0 lt))

-- the name that is read at an input's net
pub name_read : (netlist : Netlist) (names : List (List ℕ)) (nets : List ℕ) (i : ℕ) (name read : List ℕ) → IsSound netlist → i < length netlist.inputs → names ≡ netlist.names → nets ≡ netlist.inputs → read ≡ get_or names (get_or nets i 0) read → name ≡ read → name ≡ name_of netlist (get_or netlist.inputs i 0)
name_read netlist names nets i name read sound lt e f at is =
    let moved : read ≡ get_or netlist.names (get_or netlist.inputs i 0) read = at ∙ rw (e, f) refl in
    is ∙ get_or_read netlist.names (get_or netlist.inputs i 0) read (sound.inputs i lt) moved []

-- ---- a name that is found

below_more : (o : Option ℕ) (index n : ℕ) → ((k : ℕ) → o ≡ Some k → k < n) → option_map (λ k. suc k) o ≡ Some index → index < suc n
below_more None index n below e = absurd cc
below_more (Some k) index n below e =
    let same : suc k ≡ index = cc in
    omega (arith, below k refl)

index_below : (name : List ℕ) (names : List (List ℕ)) (index : ℕ) → index_of name names ≡ Some index → index < length names
index_below name [] index e = absurd cc
index_below name (other ∷ names) index e =
    elim (cases_Bool (bytes_eq name other)) [
      | inl same ↦ (let first : cond true (Some 0) (option_map (λ k. suc k) (index_of name names)) ≡ Some index = rw same at e in let zero' : 0 ≡ index = cc in omega arith)
      | inr apart ↦ (let later : cond false (Some 0) (option_map (λ k. suc k) (index_of name names)) ≡ Some index = rw apart at e in below_more (index_of name names) index (length names) (index_below name names) later)
    ]

shifted : (net : ℕ) (nets : List ℕ) (o : Option ℕ) → option_map (λ k. get_or (net ∷ nets) k 0) (option_map (λ k. suc k) o) ≡ option_map (λ k. get_or nets k 0) o
shifted net nets None = refl
shifted net nets (Some k) = refl

find_at_index : (f : ℕ → List ℕ) (name : List ℕ) (nets : List ℕ) → find (λ net. bytes_eq name (f net)) nets ≡ option_map (λ k. get_or nets k 0) (index_of name (map f nets))
find_at_index f name [] = refl
find_at_index f name (net ∷ nets) =
    elim (cases_Bool (bytes_eq name (f net))) [
      | inl e ↦ rw e refl
      | inr e ↦ rw e (find_at_index f name nets ∙ sym (shifted net nets (index_of name (map f nets))))
    ]

pub found : (netlist : Netlist) (name : List ℕ) (table : List (List ℕ)) (index : ℕ) → table ≡ input_names netlist → index_of name table ≡ Some index → (index < length netlist.inputs) × (Some (get_or netlist.inputs index 0) ≡ input_named netlist name)
unfolding input_named
found netlist name table index is e =
    let at : index_of name (input_names netlist) ≡ Some index = rw (← is) e in
    (omega (arith, index_below name (input_names netlist) index at, length-map netlist.inputs (name_of netlist)), sym (find_at_index (name_of netlist) name netlist.inputs ∙ ap (option_map (λ k. get_or netlist.inputs k 0)) at))

pub not_found : (netlist : Netlist) (name : List ℕ) (table : List (List ℕ)) → table ≡ input_names netlist → index_of name table ≡ None → None ≡ input_named netlist name
unfolding input_named
not_found netlist name table is e =
    let at : index_of name (input_names netlist) ≡ None = rw (← is) e in
    sym (find_at_index (name_of netlist) name netlist.inputs ∙ ap (option_map (λ k. get_or netlist.inputs k 0)) at)

-- ---- the names of a line

regroup : (a : Option ℕ) (b : Option (List ℕ)) (o : Option ℕ) → (a >>= λ f. (b >>= λ nets. o >>= λ net. Some (nets ++ net ∷ [])) >>= λ ns. Some (f ∷ ns)) ≡ ((a >>= λ f. b >>= λ ns. Some (f ∷ ns)) >>= λ nets. o >>= λ net. Some (nets ++ net ∷ []))
regroup None b o = refl
regroup (Some f) None o = refl
regroup (Some f) (Some ns) None = refl
regroup (Some f) (Some ns) (Some net) = refl

inputs_named-append : (netlist : Netlist) (seen : List (List ℕ)) (name : List ℕ) → inputs_named netlist (seen ++ name ∷ []) ≡ (inputs_named netlist seen >>= λ nets. input_named netlist name >>= λ net. Some (nets ++ net ∷ []))
unfolding inputs_named
inputs_named-append netlist [] name = refl
inputs_named-append netlist (first ∷ seen) name = rw (inputs_named-append netlist seen name) (regroup (input_named netlist first) (inputs_named netlist seen) (input_named netlist name))

stopped : (o : Option ℕ) → (o >>= λ net. (let none : Option (List ℕ) = None in none) >>= λ nets. Some (net ∷ nets)) ≡ None
stopped None = refl
stopped (Some net) = refl

inputs_named-unknown : (netlist : Netlist) (seen : List (List ℕ)) (name : List ℕ) (others : List (List ℕ)) → input_named netlist name ≡ None → inputs_named netlist (seen ++ name ∷ others) ≡ None
unfolding inputs_named
inputs_named-unknown netlist [] name others here = rw here refl
inputs_named-unknown netlist (first ∷ seen) name others here = rw (inputs_named-unknown netlist seen name others here) (stopped (input_named netlist first))

is_among-append : (name : List ℕ) (seen others : List (List ℕ)) → is_among name seen ≡ true → is_among name (seen ++ others) ≡ true
is_among-append name [] others e = absurd cc
is_among-append name (first ∷ seen) others e =
    elim (or_cases (same_name name first) (is_among name seen) e) [
      | inl here ↦ or_left (same_name name first) (is_among name (seen ++ others)) here
      | inr later ↦ or_right (same_name name first) (is_among name (seen ++ others)) (is_among-append name seen others later)
    ]

is_among-middle : (name : List ℕ) (seen others : List (List ℕ)) → is_among name (seen ++ name ∷ others) ≡ true
is_among-middle name [] others = or_left (same_name name name) (is_among name others) ((bytes_eq-Decides name name).1 refl)
is_among-middle name (first ∷ seen) others = or_right (same_name name first) (is_among name (seen ++ name ∷ others)) (is_among-middle name seen others)

is_distinct-twice : (name : List ℕ) (seen others : List (List ℕ)) → is_among name seen ≡ true → is_distinct (seen ++ name ∷ others) ≡ false
is_distinct-twice name [] others e = absurd cc
is_distinct-twice name (first ∷ seen) others e =
    elim (or_cases (same_name name first) (is_among name seen) e) [
      | inl here ↦
          (let same : first ≡ name = sym ((bytes_eq-Decides name first).0 here) in
          and_left (not (is_among first (seen ++ name ∷ others))) (is_distinct (seen ++ name ∷ others)) (not_from_true (is_among first (seen ++ name ∷ others)) (rw same (is_among-middle name seen others))))
      | inr later ↦ and_right (not (is_among first (seen ++ name ∷ others))) (is_distinct (seen ++ name ∷ others)) (is_distinct-twice name seen others later)
    ]

cond_none : (b : Bool) (x : Option (List ℕ)) → x ≡ None → cond b x None ≡ None
cond_none true x e = e
cond_none false x e = refl

input_list_is : (netlist : Netlist) (seen : List (List ℕ)) (name : List ℕ) (others : List (List ℕ)) → input_list netlist (seen ++ name ∷ others) ≡ cond (is_distinct (seen ++ name ∷ others)) (inputs_named netlist (seen ++ name ∷ others)) None
unfolding input_list
input_list_is netlist [] name others = refl
input_list_is netlist (first ∷ seen) name others = refl

pub input_list_unknown : (netlist : Netlist) (fields seen : List (List ℕ)) (name : List ℕ) (others : List (List ℕ)) → fields ≡ seen ++ name ∷ others → input_named netlist name ≡ None → input_list netlist fields ≡ None
input_list_unknown netlist fields seen name others is here =
    ap (input_list netlist) is ∙ input_list_is netlist seen name others ∙ cond_none (is_distinct (seen ++ name ∷ others)) (inputs_named netlist (seen ++ name ∷ others)) (inputs_named-unknown netlist seen name others here)

pub input_list_twice : (netlist : Netlist) (fields seen : List (List ℕ)) (name : List ℕ) (others : List (List ℕ)) → fields ≡ seen ++ name ∷ others → is_among name seen ≡ true → input_list netlist fields ≡ None
input_list_twice netlist fields seen name others is twice =
    ap (input_list netlist) is ∙ input_list_is netlist seen name others ∙ rw (is_distinct-twice name seen others twice) refl

-- what is known of the names that were read
pub record Seen (netlist : Netlist) (seen : List (List ℕ)) (nets : List ℕ) : Type 0 where
  pub distinct : is_distinct seen ≡ true
  pub named : inputs_named netlist seen ≡ Some nets

pub seen_none : (netlist : Netlist) → Seen netlist [] []
unfolding inputs_named
seen_none netlist = record { distinct = refl; named = refl }

pub seen_more : (netlist : Netlist) (seen : List (List ℕ)) (nets : List ℕ) (name : List ℕ) (net : ℕ) → Seen netlist seen nets → input_named netlist name ≡ Some net → is_among name seen ≡ false → Seen netlist (seen ++ name ∷ []) (nets ++ net ∷ [])
seen_more netlist seen nets name net h here new =
    record {
      distinct = is_distinct-push seen name h.distinct new;
      named = inputs_named-append netlist seen name ∙ rw (h.named, here) refl;
    }

pub input_list_all : (netlist : Netlist) (fields seen : List (List ℕ)) (nets : List ℕ) (name : List ℕ) (net : ℕ) → Seen netlist (seen ++ name ∷ []) nets → fields ≡ seen ++ name ∷ [] → input_list netlist fields ≡ Some nets
input_list_all netlist fields seen nets name net h is =
    ap (input_list netlist) is ∙ input_list_is netlist seen name [] ∙ rw h.distinct h.named

-- the names that the fields of a line say
abbrev pub names_in : List ℕ → List (List ℕ)
names_in line = map name_in (fields_of line)

-- the first name, whether or not there are others
pub first_name : (line field name : List ℕ) (o : Option (Bor (List ℕ))) → name ≡ name_in field → MatchOption o (fields_of line ≡ field ∷ []) (λ rest. fields_of line ≡ field ∷ fields_of rest.now) → (others : List (List ℕ)) × (names_in line ≡ name ∷ others)
first_name line field name None is e = ([], rw is (ap (map name_in) e))
first_name line field name (Some rest) is e = (names_in rest.now, rw is (ap (map name_in) e))

pub among_from : (added : Bool) (name : List ℕ) (seen : List (List ℕ)) → added ≡ not (is_among name seen) → added ≡ false → is_among name seen ≡ true
among_from added name seen e old = not-false (is_among name seen) (sym e ∙ old)

pub apart_from : (added : Bool) (name : List ℕ) (seen : List (List ℕ)) → added ≡ not (is_among name seen) → added ≡ true → is_among name seen ≡ false
apart_from added name seen e new = not-true (is_among name seen) (sym e ∙ new)

pub grown : (added : Bool) (name : List ℕ) (seen next : List (List ℕ)) → next ≡ cond added (seen ++ name ∷ []) seen → added ≡ true → next ≡ seen ++ name ∷ []
grown added name seen next e new = e ∙ rw new refl

pub parts_more : (fields seen rest : List (List ℕ)) (name : List ℕ) (others next : List (List ℕ)) → fields ≡ seen ++ rest → rest ≡ name ∷ others → next ≡ seen ++ name ∷ [] → fields ≡ next ++ others
parts_more fields seen rest name others next e f g = e ∙ ap (λ (x : List (List ℕ)). seen ++ x) f ∙ sym (append_assoc seen (name ∷ []) others) ∙ ap (λ (x : List (List ℕ)). x ++ others) (sym g)

pub name_then : (line field name : List ℕ) (o : Option (Bor (List ℕ))) (after : Bor (List ℕ)) → name ≡ name_in field → o ≡ Some after → MatchOption o (fields_of line ≡ field ∷ []) (λ rest. fields_of line ≡ field ∷ fields_of rest.now) → names_in line ≡ name ∷ names_in after.now
name_then line field name o after is more parts = rw is (ap (map name_in) (MatchOption-at_some (fields_of line ≡ field ∷ []) (λ rest. fields_of line ≡ field ∷ fields_of rest.now) after more parts))

pub name_last : (line field name : List ℕ) (o : Option (Bor (List ℕ))) → name ≡ name_in field → o ≡ None → MatchOption o (fields_of line ≡ field ∷ []) (λ rest. fields_of line ≡ field ∷ fields_of rest.now) → names_in line ≡ name ∷ []
name_last line field name o is none parts = rw is (ap (map name_in) (MatchOption-at_none (fields_of line ≡ field ∷ []) (λ rest. fields_of line ≡ field ∷ fields_of rest.now) none parts))
