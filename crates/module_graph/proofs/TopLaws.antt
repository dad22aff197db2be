-- Marks of what references are to, and the last that isn't marked.
use Rattle.std.proofs.Common.{◌≡◌, ℕ, zero, suc, ◌+◌, ◌<◌, Bool, true, false, cond, List, [], ◌∷◌, length, get_or, take, Option, Some, None, refl, ap, subst, ◌∙◌, arith, inl, inr}
use Rattle.std.specs.Option.{option_or, option_map}
use Rattle.std.proofs.lemmas.Bool.{cases_eq}
use Rattle.std.proofs.lemmas.List.{take_more}
use Rattle.name_table.specs.Names.{same_name, index_of}
use Rattle.module_graph.specs.Top.{last_below}
use Rattle.module_graph.proofs.NumberLaws.{index_of-push}

-- ---- the last that passes a test

-- what it is: a number below the bound that passes, where none between does
pub record IsLast (test : ℕ → Bool) (bound : ℕ) (last : ℕ) : Type 0 where
  pub within : last < bound
  pub passes : test last ≡ true
  pub none : (k : ℕ) → last < k → k < bound → test k ≡ false

last_step : (test : ℕ → Bool) (n last : ℕ) (b : Bool) → test n ≡ b → (last_below test n ≡ Some last → IsLast test n last) →
    cond b (Some n) (last_below test n) ≡ Some last → IsLast test (suc n) last
last_step test n last true passes others e =
    let same : n ≡ last = cc in
    subst (λ (x : ℕ). IsLast test (suc n) x) same (record { within = omega arith; passes = passes; none = λ k above below. absurd (omega arith) })
last_step test n last false fails others e =
    let before = others e in
    record {
      within = let lt : last < n = before.within in omega arith;
      passes = before.passes;
      none = λ k above below. elim (cases_eq k n) [
        | inl same ↦ ap test same ∙ fails
        | inr ne ↦ before.none k above (omega arith)
      ];
    }

pub IsLast-last_below : (test : ℕ → Bool) (bound last : ℕ) → last_below test bound ≡ Some last → IsLast test bound last
IsLast-last_below test zero last e = absurd cc
IsLast-last_below test (suc n) last e = last_step test n last (test n) refl (IsLast-last_below test n last) e

-- ---- the first of names

or_none : (o : Option ℕ) (s : Bool) (n : ℕ) → o ≡ None → s ≡ false → option_or o (cond s (Some n) None) ≡ None
or_none None false n e f = refl
or_none None true n e f = absurd cc
or_none (Some k) s n e f = absurd cc

-- one more name that is another
pub index_of-more : (q : List ℕ) (names : List (List ℕ)) (i : ℕ) (d : List ℕ) → i < length names → index_of q (take i names) ≡ None → same_name q (get_or names i d) ≡ false →
    index_of q (take (i + 1) names) ≡ None
index_of-more q names i d lt before apart =
    ap (index_of q) (take_more names i d lt) ∙ index_of-push q (take i names) (get_or names i d)
    ∙ or_none (index_of q (take i names)) (same_name q (get_or names i d)) (length (take i names)) before apart

found_next : (i : ℕ) (b : Bool) (rest all : Option ℕ) → cond b (Some 0) (option_map (λ n. suc n) rest) ≡ None → (rest ≡ None → all ≡ Some i) →
    cond b (Some 0) (option_map (λ n. suc n) all) ≡ Some (suc i)
found_next i true rest all e others = absurd cc
found_next i false None all e others = ap (λ (o : Option ℕ). option_map (λ n. suc n) o) (others refl)
found_next i false (Some k) all e others = absurd cc

-- the first name that is the same
pub index_of-found : (q : List ℕ) (names : List (List ℕ)) (i : ℕ) (d : List ℕ) → i < length names → index_of q (take i names) ≡ None → same_name q (get_or names i d) ≡ true →
    index_of q names ≡ Some i
index_of-found q [] i d lt before same = absurd (omega arith)
index_of-found q (name ∷ names) zero d lt before same = rw same refl
index_of-found q (name ∷ names) (suc i) d lt before same =
    found_next i (same_name q name) (index_of q (take i names)) (index_of q names) before
    (λ none. index_of-found q names i d (omega arith) none same)
