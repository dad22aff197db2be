-- Names of inputs and outputs, a bit at a time.
use Rattle.std.proofs.Common.{◌≡◌, ℕ, zero, suc, ◌+◌, ◌<◌, ◌≤◌, Bool, true, false, eqb, leb, ◌||◌, List, [], ◌∷◌, ◌++◌, length, take, drop, get_or, map, replicate, set, Option, Some, None, Ok, Err, refl, sym, ap, subst, ◌∙◌, append_assoc, arith, inl, inr}
use Rattle.std.specs.Prelude.{slice_get, All}
use Rattle.std.specs.List.{list_all, range_with_len}
use Rattle.std.proofs.lemmas.Bool.{cases_Bool, cases_eq, cases_lt, eq-eqb, ne_eqb, le-leb, lt-leb}
use Rattle.std.proofs.lemmas.List.{length-append, length-take, get_or-take, take_more, take_all, drop_more, drop_all, get_or_past, map-append, ext_get_or, get_or-set_same, get_or-set_other, length-set}
use Rattle.std.proofs.lemmas.List.FromFn.{get_or-map-range_with_len, length-map-range_with_len}
use Rattle.std.specs.Str.{IsUtf8, bytes_eq}
use Rattle.std.proofs.lemmas.Str.{IsUtf8-from_ascii}
use Rattle.std.proofs.lemmas.Slice.Eq.{bytes_eq-Decides}
use Rattle.line_text.specs.Faults.{first_fault, first_fault_behind}
use Rattle.line_text.proofs.FaultLaws.{first_fault_behind-none, first_fault_behind-some}
use Rattle.std.proofs.lemmas.List.Folds.{list_all_at, list_all_more}
use Rattle.flat_net.specs.Soundness.{IsAscii, IsFind}
use Rattle.flat_net.specs.Names.{nets_found}
use Rattle.flat_net.specs.declared.parts.Find.{Find}
use Rattle.vector_text.specs.declared.fault.BindFault.{BindFault}
use Rattle.vector_text.specs.declared.fault.BindFault.TheVariants.{Width}
use Rattle.vector_text.specs.declared.stimulus.StimulusLine.{StimulusLine}
use Rattle.vector_text.specs.declared.vectors.VectorLine.{VectorLine}
use Rattle.vector_text.specs.Binding.{is_net_among, has_width, width_fault, stimulus_line, lines_bound, lines_unless}
use Rattle.vector_text.specs.Lawful.{greatest_outputs}
use Rattle.vector_text.specs.Flags.{flags_of}

-- ---- flags

pub flag_at : (nets : List ℕ) (count net : ℕ) (d : Bool) → net < count → get_or (flags_of nets count) net d ≡ is_net_among nets net
flag_at nets count net d lt = get_or-map-range_with_len (is_net_among nets) 0 count net net d lt (omega arith)

last_or_none : (b : Bool) → (b || false) ≡ (false || b)
last_or_none true = refl
last_or_none false = refl

among-push : (nets : List ℕ) (net k : ℕ) → is_net_among (nets ++ net ∷ []) k ≡ (is_net_among nets k || eqb k net)
among-push [] net k = last_or_none (eqb k net)
among-push (x ∷ nets) net k =
    elim (cases_Bool (eqb k x)) [
      | inl e ↦ rw e refl
      | inr e ↦ rw e (among-push nets net k)
    ]

or_true : (b : Bool) → (b || true) ≡ true
or_true true = refl
or_true false = refl

or_false : (b : Bool) → (b || false) ≡ b
or_false true = refl
or_false false = refl

-- one more net is flagged
pub flags_push : (nets : List ℕ) (count net : ℕ) → net < count → set (flags_of nets count) net true ≡ flags_of (nets ++ net ∷ []) count
flags_push nets count net lt =
    let long : length (flags_of nets count) ≡ count = length-map-range_with_len (is_net_among nets) 0 count in
    let more : length (flags_of (nets ++ net ∷ []) count) ≡ count = length-map-range_with_len (is_net_among (nets ++ net ∷ [])) 0 count in
    let same : length (set (flags_of nets count) net true) ≡ count = length-set (flags_of nets count) net true ∙ long in
    ext_get_or false (set (flags_of nets count) net true) (flags_of (nets ++ net ∷ []) count) (same ∙ sym more) (λ k inside.
    let below : k < count = omega arith in
    let now = flag_at (nets ++ net ∷ []) count k false below ∙ among-push nets net k in
    elim (cases_eq k net) [
      | inl e ↦ (let first : net < length (flags_of nets count) = omega arith in
          ap (λ (j : ℕ). get_or (set (flags_of nets count) net true) j false) e ∙ get_or-set_same (flags_of nets count) net true false first
          ∙ sym (now ∙ ap (λ (b : Bool). is_net_among nets k || b) (eq-eqb k net e) ∙ or_true (is_net_among nets k)))
      | inr ne ↦ get_or-set_other (flags_of nets count) net k true false ne ∙ flag_at nets count k false below
          ∙ sym (now ∙ ap (λ (b : Bool). is_net_among nets k || b) (ne_eqb k net ne) ∙ or_false (is_net_among nets k))
    ])

-- no net is flagged
no_flags_from : (a n : ℕ) → map (is_net_among []) (range_with_len a n) ≡ replicate n false
no_flags_from a zero = refl
no_flags_from a (suc n) = ap (λ (bs : List Bool). false ∷ bs) (no_flags_from (a + 1) n)

pub no_flags : (count : ℕ) → replicate count false ≡ flags_of [] count
no_flags count = sym (no_flags_from 0 count)

-- ---- names that are no text

byte_small : (name : List ℕ) → IsAscii name → (i : ℕ) → get_or name i 0 < 128
byte_small name ascii i =
    elim (cases_lt i (length name)) [
      | inl lt ↦ ascii i 0 lt
      | inr le ↦ rw (get_or_past name i 0 le) (omega arith)
    ]

-- a name that is no text is none of ASCII names
pub unknown_name : (finds : List Find) (name : List ℕ) → All IsAscii (map (λ (found : Find). found.name) finds) → (IsUtf8 name → ⊥) → nets_found finds name ≡ []
unknown_name [] name all bad = refl
unknown_name (found ∷ finds) name all bad =
    elim (cases_Bool (bytes_eq name found.name)) [
      | inl e ↦ (let same : name ≡ found.name = (bytes_eq-Decides name found.name).0 e in
          absurd (bad (subst IsUtf8 (sym same) (IsUtf8-from_ascii found.name (byte_small found.name (all 0 found.name (omega arith)))))))
      | inr e ↦ rw e (unknown_name finds name (λ k d lt. all (suc k) d (omega arith)) bad)
    ]

-- ---- flags of a list, net by net

pub flags_more : (nets : List ℕ) (count i : ℕ) (flags : List Bool) → i < length nets → get_or nets i 0 < count → flags ≡ flags_of (take i nets) count → set flags (get_or nets i 0) true ≡ flags_of (take (i + 1) nets) count
flags_more nets count i flags lt inside e =
    ap (λ (bs : List Bool). set bs (get_or nets i 0) true) e ∙ flags_push (take i nets) count (get_or nets i 0) inside ∙ ap (λ (ns : List ℕ). flags_of ns count) (sym (take_more nets i 0 lt))

-- ---- lines with values

abbrev pub wrong_width : ℕ → ℕ → List VectorLine → VectorLine → Option BindFault
wrong_width inputs outputs before line = width_fault inputs outputs line

-- the lines up to an index are bound, and the first fault of all is that of the rest
pub record HasBound (inputs outputs i : ℕ) (lines : List VectorLine) (bound : List StimulusLine) : Type 0 where
  pub bound_is : bound ≡ map stimulus_line (take i lines)
  pub same_fault : first_fault_behind (wrong_width inputs outputs) (take i lines) (drop i lines) ≡ first_fault (wrong_width inputs outputs) lines

pub bound_start : (inputs outputs : ℕ) (lines : List VectorLine) → HasBound inputs outputs 0 lines []
bound_start inputs outputs lines = record { bound_is = refl; same_fault = refl }

pub bound_more : (inputs outputs i : ℕ) (lines : List VectorLine) (bound next : List StimulusLine) (line : VectorLine) → i < length lines → line ≡ get_or lines i line → has_width inputs outputs line.what ≡ true
    → HasBound inputs outputs i lines bound → next ≡ bound ++ stimulus_line line ∷ [] → HasBound inputs outputs (i + 1) lines next
bound_more inputs outputs i lines bound next line lt is wide h e =
    let front : take (i + 1) lines ≡ take i lines ++ line ∷ [] = take_more lines i line lt ∙ ap (λ (x : VectorLine). take i lines ++ x ∷ []) (sym is) in
    let back : drop i lines ≡ line ∷ drop (i + 1) lines = drop_more lines i line lt ∙ ap (λ (x : VectorLine). x ∷ drop (i + 1) lines) (sym is) in
    let none : wrong_width inputs outputs (take i lines) line ≡ None = rw wide refl in
    record {
      bound_is = e ∙ ap (λ (ls : List StimulusLine). ls ++ stimulus_line line ∷ []) h.bound_is ∙ sym (map-append stimulus_line (take i lines) (line ∷ [])) ∙ ap (map stimulus_line) (sym front);
      same_fault = ap (λ (ls : List VectorLine). first_fault_behind (wrong_width inputs outputs) ls (drop (i + 1) lines)) front
          ∙ sym (first_fault_behind-none (wrong_width inputs outputs) (take i lines) line (drop (i + 1) lines) none)
          ∙ ap (first_fault_behind (wrong_width inputs outputs) (take i lines)) (sym back) ∙ h.same_fault;
    }

pub bound_stop : (inputs outputs i : ℕ) (lines : List VectorLine) (bound : List StimulusLine) (line : VectorLine) → i < length lines → line ≡ get_or lines i line → has_width inputs outputs line.what ≡ false
    → HasBound inputs outputs i lines bound → lines_bound inputs outputs lines ≡ Err (Width line.line)
bound_stop inputs outputs i lines bound line lt is narrow h =
    let back : drop i lines ≡ line ∷ drop (i + 1) lines = drop_more lines i line lt ∙ ap (λ (x : VectorLine). x ∷ drop (i + 1) lines) (sym is) in
    let some : wrong_width inputs outputs (take i lines) line ≡ Some (Width line.line) = rw narrow refl in
    let first : first_fault (wrong_width inputs outputs) lines ≡ Some (Width line.line)
    = sym h.same_fault ∙ ap (first_fault_behind (wrong_width inputs outputs) (take i lines)) back ∙ first_fault_behind-some (wrong_width inputs outputs) (take i lines) line (drop (i + 1) lines) (Width line.line) some in
    ap (lines_unless lines) first

pub bound_all : (inputs outputs i : ℕ) (lines : List VectorLine) (bound : List StimulusLine) → length lines ≤ i → HasBound inputs outputs i lines bound → lines_bound inputs outputs lines ≡ Ok bound
bound_all inputs outputs i lines bound le h =
    let first : first_fault (wrong_width inputs outputs) lines ≡ None
    = sym h.same_fault ∙ ap (first_fault_behind (wrong_width inputs outputs) (take i lines)) (drop_all i lines le) in
    ap (lines_unless lines) first ∙ ap Ok (ap (map stimulus_line) (sym (take_all i lines le)) ∙ sym h.bound_is)

-- ---- bits of a name, one by one

pub get_some : (xs : List ℕ) (k x d : ℕ) → slice_get xs k ≡ Some x → (k < length xs) × (get_or xs k d ≡ x)
get_some [] k x d e = absurd cc
get_some (y ∷ ys) zero x d e = (omega arith, (let same : y ≡ x = cc in same))
get_some (y ∷ ys) (suc k) x d e =
    let rest = get_some ys k x d e in
    (omega (arith, rest.0), rest.1)

pub get_none : (xs : List ℕ) (k : ℕ) → slice_get xs k ≡ None → length xs ≤ k
get_none [] k e = omega arith
get_none (y ∷ ys) zero e = absurd cc
get_none (y ∷ ys) (suc k) e = omega (arith, get_none ys k e)

-- the nets that a name finds are nets of the netlist
pub found_within : (count : ℕ) (finds : List Find) (name : List ℕ) → All (IsFind count) finds → All (λ (net : ℕ). net < count) (nets_found finds name)
found_within count [] name all = λ k d lt. absurd (omega arith)
found_within count (found ∷ finds) name all =
    elim (cases_Bool (bytes_eq name found.name)) [
      | inl e ↦ rw e (all 0 found (omega arith)).within
      | inr e ↦ rw e (found_within count finds name (λ k d lt. all (suc k) d (omega arith)))
    ]

pub net_within : (count : ℕ) (finds : List Find) (name : List ℕ) (at net : ℕ) → All (IsFind count) finds → slice_get (nets_found finds name) at ≡ Some net → net < count
net_within count finds name at net all e =
    let here = get_some (nets_found finds name) at net 0 e in
    let within = found_within count finds name all at 0 here.0 in
    subst (λ (n : ℕ). n < count) here.1 within

pub all_false : (p : ℕ → Bool) (n at net : ℕ) (found : List ℕ) → slice_get found at ≡ Some net → at < n → p net ≡ false → false ≡ list_all p (take n found)
all_false p n at net found e lt bad =
    let here = get_some found at net 0 e in
    let inside : at < length (take n found) = omega (arith, length-take n found, here.0) in
    let same : get_or (take n found) at 0 ≡ net = get_or-take n found at 0 lt ∙ here.1 in
    sym (list_all_at p (take n found) at 0 inside (ap p same ∙ bad))

pub all_more : (p : ℕ → Bool) (at net : ℕ) (found : List ℕ) → slice_get found at ≡ Some net → p net ≡ true → list_all p (take at found) ≡ true → list_all p (take (at + 1) found) ≡ true
all_more p at net found e good so_far =
    let here = get_some found at net 0 e in
    list_all_more p found at 0 here.0 ∙ rw so_far (ap p here.1 ∙ good)

pub all_none : (p : ℕ → Bool) (n at : ℕ) (found : List ℕ) → slice_get found at ≡ None → at < n → list_all p (take at found) ≡ true → true ≡ list_all p (take n found)
all_none p n at found e lt so_far =
    let le = get_none found at e in
    sym (ap (list_all p) (take_all n found (omega arith) ∙ sym (take_all at found le)) ∙ so_far)

-- ---- outputs

pub too_many : (old outputs found : List ℕ) (n at net : ℕ) → outputs ≡ old ++ take at found → greatest_outputs ≤ length outputs → slice_get found at ≡ Some net → at < n → false ≡ leb (length old + length (take n found)) greatest_outputs
too_many old outputs found n at net e many here lt =
    let inside = (get_some found at net 0 here).0 in
    let long : length outputs ≡ length old + length (take at found) = ap length e ∙ length-append old (take at found) in
    sym (lt-leb (length old + length (take n found)) greatest_outputs (omega (arith, length-take at found, length-take n found)))

pub whole_bits : (old outputs found : List ℕ) (n at : ℕ) → outputs ≡ old ++ take at found → slice_get found at ≡ None → at < n → outputs ≡ old ++ take n found
whole_bits old outputs found n at e none lt =
    let le = get_none found at none in
    e ∙ ap (λ (nets : List ℕ). old ++ nets) (take_all at found le ∙ sym (take_all n found (omega arith)))

pub few_enough : (old outputs found : List ℕ) (n at : ℕ) → outputs ≡ old ++ take at found → length outputs ≤ greatest_outputs → slice_get found at ≡ None → at < n → true ≡ leb (length old + length (take n found)) greatest_outputs
few_enough old outputs found n at e few none lt =
    let long : length outputs ≡ length old + length (take n found) = ap length (whole_bits old outputs found n at e none lt) ∙ length-append old (take n found) in
    sym (le-leb (length old + length (take n found)) greatest_outputs (omega arith))

pub bit_more : (old outputs next found : List ℕ) (at net : ℕ) → outputs ≡ old ++ take at found → slice_get found at ≡ Some net → next ≡ outputs ++ net ∷ [] → next ≡ old ++ take (at + 1) found
bit_more old outputs next found at net e here f =
    let r = get_some found at net 0 here in
    f ∙ ap (λ (nets : List ℕ). nets ++ net ∷ []) e ∙ append_assoc old (take at found) (net ∷ [])
    ∙ ap (λ (nets : List ℕ). old ++ nets) (sym (take_more found at 0 r.0 ∙ ap (λ (x : ℕ). take at found ++ x ∷ []) r.1))
