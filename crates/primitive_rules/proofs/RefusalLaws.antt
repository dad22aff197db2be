-- The first cause for a refusal is what `build` answers.
use Rattle.std.proofs.Common.{◌≡◌, ◌≢◌, ℕ, zero, suc, ◌<◌, ◌≤◌, Bool, true, false, cond, not, ◌&&◌, List, [], ◌∷◌, length, Option, Some, None, position, refl, sym, ap, subst, ◌∙◌, arith, leb, ltb}
use Rattle.std.specs.Prelude.{MatchOption}
use Rattle.std.specs.List.{All}
use Rattle.std.specs.Option.{option_map, option_or}
use Rattle.std.proofs.lemmas.Bool.Decides.{nat_tests}
use Rattle.std.proofs.lemmas.List.Quantifiers.{position-Some}
use Rattle.level_range.specs.declared.range.Logic.{Logic}
use Rattle.udp_table.specs.declared.rows.UdpRow.{UdpRow}
use Rattle.udp_table.specs.declared.making.UdpFault.{UdpFault}
use Rattle.udp_table.specs.declared.making.UdpFault.TheVariants.{TooManyInputs, BadSymbol, TwoEdges, Clash, Memory}
use Rattle.udp_table.specs.Rows.{IsWellFormed, row_at, no_row}
use Rattle.udp_table.specs.Primitive.{Primitive, primitive, IsCount, IsAccepted}
use Rattle.udp_table.specs.Tests.{row_test, edges_test, clash_test}
use Rattle.udp_table.specs.Clashes.{NoClash, FirstClash, IsFirstPair}
use Rattle.udp_table.specs.Faults.{IsFault, IsRefusal, HasFewEdges}
use Rattle.udp_table.proofs.Positions.{position-None}
use Rattle.udp_table.proofs.RowLemmas.{bad_at, all_well_formed, edges_at, all_few}
use Rattle.udp_table.proofs.BuildLemmas.{Agrees-NoClash, IsFirstClash-FirstClash}
use Rattle.udp_table.proofs.FaultLemmas.{IsFault-unique, no_refusal}
use Rattle.primitive_rules.specs.declared.arguments.UdpArguments.{UdpArguments}
use Rattle.primitive_rules.specs.Arguments.{primitive_of}
use Rattle.primitive_rules.specs.Refusals.{IsFaultOf, is_count, next_pair, first_clash, rows_refusal, refusal_of}

-- ---- the least pair of a clash

module _ (row : UdpRow) (rows : List UdpRow) where
  first_at : (k : ℕ) → position (clash_test row) rows ≡ Some k → FirstClash (row ∷ rows) 0 (suc k)
  first_at k e =
      let found = position-Some (clash_test row) rows k no_row e in
      record {
        order = omega arith;
        within = within found.0;
        clash = found.1;
        earlier = λ i j h g l. absurd (omega arith);
        nearer = nearer found.2;
      }
    where
      within : k < length rows → suc k < suc (length rows)
      within h = omega arith

      nearer : ((j : ℕ) → j < k → clash_test row (row_at rows j) ≡ false) → (j : ℕ) → 0 < j → j < suc k → clash_test row (row_at (row ∷ rows) j) ≡ false
      nearer before zero h g = absurd (omega arith)
      nearer before (suc j) h g = before j (omega arith)

  module _ (none : position (clash_test row) rows ≡ None) where
    no_clash : (n : ℕ) → NoClash rows n → NoClash (row ∷ rows) (suc n)
    no_clash n others zero zero h g l = absurd (omega arith)
    no_clash n others zero (suc j) h g l = position-None (clash_test row) no_row rows none j (omega arith)
    no_clash n others (suc i) zero h g l = absurd (omega arith)
    no_clash n others (suc i) (suc j) h g l = others i j (omega arith) (omega arith) (omega arith)

    next_clash : (i j : ℕ) → FirstClash rows i j → FirstClash (row ∷ rows) (suc i) (suc j)
    next_clash i j f = record {
      order = order f.order;
      within = order f.within;
      clash = f.clash;
      earlier = no_clash i f.earlier;
      nearer = nearer f.nearer;
    }
      where
        order : {a b : ℕ} → a < b → suc a < suc b
        order h = omega arith

        nearer : ((k : ℕ) → i < k → k < j → clash_test (row_at rows i) (row_at rows k) ≡ false) →
            (k : ℕ) → suc i < k → k < suc j → clash_test (row_at rows i) (row_at (row ∷ rows) k) ≡ false
        nearer before zero h g = absurd (omega arith)
        nearer before (suc k) h g = before k (omega arith) (omega arith)

  pair_next : (p : Option ℕ) → position (clash_test row) rows ≡ p → (q : Option (ℕ × ℕ)) → IsFirstPair rows q →
      IsFirstPair (row ∷ rows) (option_or (option_map (λ k. (0, suc k)) p) (option_map next_pair q))
  pair_next (Some k) e q first = first_at k e
  pair_next None e None first = no_clash e (length rows) first
  pair_next None e (Some pair) first = next_clash e pair.0 pair.1 first

IsFirstPair-first_clash : (rows : List UdpRow) → IsFirstPair rows (first_clash rows)
IsFirstPair-first_clash [] = λ i j h g l. absurd (omega arith)
IsFirstPair-first_clash (row ∷ rows) =
    pair_next row rows (position (clash_test row) rows) refl (first_clash rows) (IsFirstPair-first_clash rows)

-- ---- the first cause

-- the cause is the fault, and where there is none only memory can be wanting
abbrev Judges : ℕ → Bool → List UdpRow → Option UdpFault → Type 0
Judges inputs sequential rows cause =
    MatchOption cause (IsFault inputs sequential rows Memory) (λ f. IsRefusal f × IsFault inputs sequential rows f)

module _ (inputs : ℕ) (sequential : Bool) (rows : List UdpRow) where
  by_clash : IsCount inputs → All (IsWellFormed inputs sequential) rows → All HasFewEdges rows → (q : Option (ℕ × ℕ)) → IsFirstPair rows q →
      Judges inputs sequential rows (option_map (λ pair. Clash pair.0 pair.1) q)
  by_clash count formed few None first = (count, formed, few, Agrees-NoClash rows first)
  by_clash count formed few (Some pair) first = (tt, (count, formed, few, IsFirstClash-FirstClash rows pair.0 pair.1 first))

  by_edges : IsCount inputs → All (IsWellFormed inputs sequential) rows → (r : Option ℕ) → position edges_test rows ≡ r →
      Judges inputs sequential rows (option_or (option_map TwoEdges r) (option_map (λ pair. Clash pair.0 pair.1) (first_clash rows)))
  by_edges count formed (Some k) e = (tt, (count, formed, edges_at inputs sequential rows rows refl (Some k) k (sym e) refl))
  by_edges count formed None e =
      by_clash count formed (all_few inputs sequential rows rows refl None (sym e) refl) (first_clash rows) (IsFirstPair-first_clash rows)

  by_rows : IsCount inputs → (r : Option ℕ) → position (λ row. not (row_test inputs sequential row)) rows ≡ r →
      Judges inputs sequential rows (option_or (option_map BadSymbol r) (option_or (option_map TwoEdges (position edges_test rows)) (option_map (λ pair. Clash pair.0 pair.1) (first_clash rows))))
  by_rows count (Some k) e = (tt, (count, bad_at inputs sequential rows rows refl (Some k) k (sym e) refl))
  by_rows count None e = by_edges count (all_well_formed inputs sequential rows rows refl None (sym e) refl) (position edges_test rows) refl

  counted : is_count inputs ≡ true → IsCount inputs
  counted e = grind (arith, nat_tests, e)

  not_counted : is_count inputs ≡ false → IsCount inputs → ⊥
  not_counted e count = grind (arith, nat_tests, e, count.0, count.1)

  by_count : (c : Bool) → is_count inputs ≡ c → Judges inputs sequential rows (cond c (rows_refusal inputs sequential rows) (Some TooManyInputs))
  by_count true e = by_rows (counted e) (position (λ row. not (row_test inputs sequential row)) rows) refl
  by_count false e = (tt, not_counted e)

-- the first cause is the fault
pub refusal_judges : (a : UdpArguments) → Judges a.inputs a.sequential a.rows (refusal_of a)
refusal_judges a = by_count a.inputs a.sequential a.rows (is_count a.inputs) refl

-- where only memory can be wanting there is no cause
pub refusal_none : (a : UdpArguments) → IsFaultOf a Memory → refusal_of a ≡ None
refusal_none a accepted = by (refusal_of a) (refusal_judges a)
  where
    by : (r : Option UdpFault) → Judges a.inputs a.sequential a.rows r → r ≡ None
    by None judged = refl
    by (Some f) judged = absurd (no_refusal a.inputs a.sequential a.rows f judged.0 judged.1 accepted)

-- a fault that refuses the arguments is the cause
pub refusal_some : (a : UdpArguments) (f : UdpFault) → IsRefusal f → IsFaultOf a f → refusal_of a ≡ Some f
refusal_some a f refuses fault = by (refusal_of a) (refusal_judges a)
  where
    by : (r : Option UdpFault) → Judges a.inputs a.sequential a.rows r → r ≡ Some f
    by None judged = absurd (no_refusal a.inputs a.sequential a.rows f refuses fault judged)
    by (Some g) judged = ap (λ (x : UdpFault). Some x) (IsFault-unique a.inputs a.sequential a.rows f g refuses fault judged.1)

-- ---- numbers of inputs that are all too large

module _ (n m : ℕ) (is : m ≡ cond (ltb n 256) n 255) where
  same_count : IsCount m → m ≡ n
  same_count count = by (ltb n 256) refl is
    where
      by : (b : Bool) → ltb n 256 ≡ b → m ≡ cond b n 255 → m ≡ n
      by true e same = same
      by false e same = absurd (omega (arith, count.1, same))

  too_many : (IsCount m → ⊥) → IsCount n → ⊥
  too_many refuse count = by (ltb n 256) refl is
    where
      by : (b : Bool) → ltb n 256 ≡ b → m ≡ cond b n 255 → ⊥
      by true e same = refuse (subst IsCount (sym same) count)
      by false e same = let small : n ≤ 10 = count.1 in grind (arith, nat_tests, e, small)

  module _ (sequential : Bool) (rows : List UdpRow) where
    -- the fault at the number that stands for another is that at the other
    pub same_fault : (f : UdpFault) → IsFault m sequential rows f → IsFault n sequential rows f
    same_fault TooManyInputs fault = too_many fault
    same_fault (BadSymbol k) fault = subst (λ (i : ℕ). IsFault i sequential rows (BadSymbol k)) (same_count fault.0) fault
    same_fault (TwoEdges k) fault = subst (λ (i : ℕ). IsFault i sequential rows (TwoEdges k)) (same_count fault.0) fault
    same_fault (Clash j k) fault = subst (λ (i : ℕ). IsFault i sequential rows (Clash j k)) (same_count fault.0) fault
    same_fault Memory fault = subst (λ (i : ℕ). IsFault i sequential rows Memory) (same_count fault.0) fault

-- the primitive at the number that stands for another is that at the other
pub same_primitive : (a : UdpArguments) (m : ℕ) → m ≡ cond (ltb a.inputs 256) a.inputs 255 → (u : Primitive) →
    u ≡ primitive m a.sequential a.start a.rows → IsAccepted u → u ≡ primitive_of a
same_primitive a m is u kept accepted =
    let count : IsCount m = subst (λ (v : Primitive). IsCount v.inputs) kept accepted.inputs in
    kept ∙ ap (λ (i : ℕ). primitive i a.sequential a.start a.rows) (same_count a.inputs m is count)

-- what was accepted gives no cause
pub accepted_fault : (a : UdpArguments) → IsAccepted (primitive_of a) → IsFaultOf a Memory
accepted_fault a accepted = (accepted.inputs, accepted.rows, accepted.edges, accepted.agrees)
