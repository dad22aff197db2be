-- Names of a line, one by one.
use Rattle.std.proofs.Common.{◌≡◌, ℕ, zero, suc, ◌+◌, ◌<◌, ◌≤◌, Bool, true, false, not, eqb, leb, ltb, List, [], ◌∷◌, ◌++◌, length, take, drop, get_or, Option, Some, None, refl, sym, ap, ◌∙◌, append_assoc, arith, inl, inr}
use Rattle.std.specs.Prelude.{slice_get}
use Rattle.std.specs.Option.{is_some}
use Rattle.std.specs.List.{list_all}
use Rattle.std.proofs.lemmas.Bool.{cases_lt, ne_eqb, lt-leb, le-leb, lt-ltb, le-ltb}
use Rattle.std.proofs.lemmas.List.{append-nil, take_more, take_all, drop_more, drop_all}
use Rattle.line_text.specs.Faults.{first_fault, first_fault_behind}
use Rattle.line_text.proofs.FaultLaws.{first_fault_behind-none, first_fault_behind-some}
use Rattle.flat_net.specs.declared.parts.Parts.{Parts}
use Rattle.vector_text.specs.declared.fault.BindFault.{BindFault}
use Rattle.vector_text.specs.declared.fault.BindFault.TheVariants.{UnknownNet, NotAnInput, NamedTwice, Limit}
use Rattle.vector_text.specs.Binding.{bits_of, bits_of_all, is_unknown, is_net_among, are_new, input_fault, output_fault}
use Rattle.vector_text.specs.Lawful.{greatest_outputs}

-- the bits of the names up to an index are listed, and the first fault of all is that of the rest
pub record HasListed (fault : List (List ℕ) → List ℕ → Option BindFault) (parts : Parts) (i : ℕ) (names : List (List ℕ)) (bits : List ℕ) : Type 0 where
  pub bits_are : bits ≡ bits_of_all parts (take i names)
  pub same_fault : first_fault_behind fault (take i names) (drop i names) ≡ first_fault fault names

-- the bits of names and of one more
pub bits_push : (parts : Parts) (names : List (List ℕ)) (name : List ℕ) → bits_of_all parts (names ++ name ∷ []) ≡ bits_of_all parts names ++ bits_of parts name
bits_push parts [] name = append-nil (bits_of parts name)
bits_push parts (first ∷ names) name =
    ap (λ (bits : List ℕ). bits_of parts first ++ bits) (bits_push parts names name) ∙ sym (append_assoc (bits_of parts first) (bits_of_all parts names) (bits_of parts name))

module _ (fault : List (List ℕ) → List ℕ → Option BindFault) (parts : Parts) where
  pub listed_start : (names : List (List ℕ)) → HasListed fault parts 0 names []
  listed_start names = record { bits_are = refl; same_fault = refl }

  pub listed_more : (i : ℕ) (names : List (List ℕ)) (bits next name : List ℕ) → i < length names → name ≡ get_or names i name → fault (take i names) name ≡ None
      → HasListed fault parts i names bits → next ≡ bits ++ bits_of parts name → HasListed fault parts (i + 1) names next
  listed_more i names bits next name lt is none h e =
      let front : take (i + 1) names ≡ take i names ++ name ∷ [] = take_more names i name lt ∙ ap (λ (x : List ℕ). take i names ++ x ∷ []) (sym is) in
      let back : drop i names ≡ name ∷ drop (i + 1) names = drop_more names i name lt ∙ ap (λ (x : List ℕ). x ∷ drop (i + 1) names) (sym is) in
      record {
        bits_are = e ∙ ap (λ (nets : List ℕ). nets ++ bits_of parts name) h.bits_are ∙ sym (bits_push parts (take i names) name) ∙ ap (bits_of_all parts) (sym front);
        same_fault = ap (λ (ns : List (List ℕ)). first_fault_behind fault ns (drop (i + 1) names)) front
            ∙ sym (first_fault_behind-none fault (take i names) name (drop (i + 1) names) none)
            ∙ ap (first_fault_behind fault (take i names)) (sym back) ∙ h.same_fault;
      }

  pub listed_stop : (i : ℕ) (names : List (List ℕ)) (bits name : List ℕ) (found : BindFault) → i < length names → name ≡ get_or names i name → fault (take i names) name ≡ Some found
      → HasListed fault parts i names bits → first_fault fault names ≡ Some found
  listed_stop i names bits name found lt is some h =
      let back : drop i names ≡ name ∷ drop (i + 1) names = drop_more names i name lt ∙ ap (λ (x : List ℕ). x ∷ drop (i + 1) names) (sym is) in
      sym h.same_fault ∙ ap (first_fault_behind fault (take i names)) back ∙ first_fault_behind-some fault (take i names) name (drop (i + 1) names) found some

  pub listed_clean : (i : ℕ) (names : List (List ℕ)) (bits : List ℕ) → length names ≤ i → HasListed fault parts i names bits → first_fault fault names ≡ None
  listed_clean i names bits le h = sym h.same_fault ∙ ap (first_fault_behind fault (take i names)) (drop_all i names le)

  pub listed_all : (i : ℕ) (names : List (List ℕ)) (bits : List ℕ) → length names ≤ i → HasListed fault parts i names bits → bits ≡ bits_of_all parts names
  listed_all i names bits le h = h.bits_are ∙ ap (bits_of_all parts) (take_all i names le)

-- ---- what is wrong with a name

-- a name has no first bit where it has no bits
pub unknown_is : (n : ℕ) (found : List ℕ) (first : Option ℕ) (b : Bool) → 0 < n → first ≡ slice_get found 0 → is_some first ≡ not b → eqb (length (take n found)) 0 ≡ b
unknown_is zero found first b lt e is = absurd (omega arith)
unknown_is (suc n) [] first true lt e is = refl
unknown_is (suc n) [] first false lt e is = absurd cc
unknown_is (suc n) (net ∷ found) first true lt e is = absurd cc
unknown_is (suc n) (net ∷ found) first false lt e is = ne_eqb (suc (length (take n found))) 0 (λ same. absurd (omega arith))

pub input_unknown : (parts : Parts) (line : ℕ) (before : List (List ℕ)) (name : List ℕ) → is_unknown parts name ≡ true → input_fault parts line before name ≡ Some (UnknownNet line)
unfolding input_fault
input_unknown parts line before name e = rw e refl

pub input_other : (parts : Parts) (line : ℕ) (before : List (List ℕ)) (name : List ℕ) → is_unknown parts name ≡ false → list_all (is_net_among parts.inputs) (bits_of parts name) ≡ false → input_fault parts line before name ≡ Some (NotAnInput line)
unfolding input_fault
input_other parts line before name e f = rw (e, f) refl

pub input_twice : (parts : Parts) (line : ℕ) (before : List (List ℕ)) (name : List ℕ) → is_unknown parts name ≡ false → list_all (is_net_among parts.inputs) (bits_of parts name) ≡ true
    → are_new (bits_of_all parts before) (bits_of parts name) ≡ false → input_fault parts line before name ≡ Some (NamedTwice line)
unfolding input_fault
input_twice parts line before name e f g = rw (e, f, g) refl

pub input_good : (parts : Parts) (line : ℕ) (before : List (List ℕ)) (name : List ℕ) → is_unknown parts name ≡ false → list_all (is_net_among parts.inputs) (bits_of parts name) ≡ true
    → are_new (bits_of_all parts before) (bits_of parts name) ≡ true → input_fault parts line before name ≡ None
unfolding input_fault
input_good parts line before name e f g = rw (e, f, g) refl

pub output_unknown : (parts : Parts) (line : ℕ) (before : List (List ℕ)) (name : List ℕ) → is_unknown parts name ≡ true → output_fault parts line before name ≡ Some (UnknownNet line)
unfolding output_fault
output_unknown parts line before name e = rw e refl

more_than : (count greatest : ℕ) (few : Bool) → few ≡ leb count greatest → ltb greatest count ≡ not few
more_than count greatest few e =
    elim (cases_lt greatest count) [
      | inl lt ↦ lt-ltb greatest count lt ∙ sym (ap not (e ∙ lt-leb count greatest lt))
      | inr le ↦ le-ltb greatest count le ∙ sym (ap not (e ∙ le-leb count greatest le))
    ]

pub output_many : (parts : Parts) (line : ℕ) (before : List (List ℕ)) (name : List ℕ) → is_unknown parts name ≡ false → false ≡ leb (length (bits_of_all parts before) + length (bits_of parts name)) greatest_outputs
    → output_fault parts line before name ≡ Some (Limit line)
unfolding output_fault
output_many parts line before name e many =
    let over : ltb greatest_outputs (length (bits_of_all parts before) + length (bits_of parts name)) ≡ true = more_than (length (bits_of_all parts before) + length (bits_of parts name)) greatest_outputs false many in
    rw (e, over) refl

pub output_good : (parts : Parts) (line : ℕ) (before : List (List ℕ)) (name : List ℕ) → is_unknown parts name ≡ false → true ≡ leb (length (bits_of_all parts before) + length (bits_of parts name)) greatest_outputs
    → output_fault parts line before name ≡ None
unfolding output_fault
output_good parts line before name e few =
    let over : ltb greatest_outputs (length (bits_of_all parts before) + length (bits_of parts name)) ≡ false = more_than (length (bits_of_all parts before) + length (bits_of parts name)) greatest_outputs true few in
    rw (e, over) refl
