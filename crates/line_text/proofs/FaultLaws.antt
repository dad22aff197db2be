-- The first fault as a function is that of the relation, both ways.
use Rattle.std.proofs.Common.{◌≡◌, ℕ, zero, suc, ◌<◌, List, [], ◌∷◌, ◌++◌, take, Option, Some, None, refl, sym, ap, subst, ◌∙◌, append_assoc, arith}
use Rattle.std.specs.Prelude.{slice_get}
use Rattle.std.specs.Option.{option_or}
use Rattle.std.proofs.lemmas.List.{append-nil}
use Rattle.line_text.specs.Faults.{first_fault_behind, first_fault, IsFirstFault, HasNoFault}

-- ---- one element more

-- where those before it have no fault
pub first_fault_behind-none : {A F : Type 0} (fault : List A → A → Option F) (before : List A) (x : A) (xs : List A) → fault before x ≡ None → first_fault_behind fault before (x ∷ xs) ≡ first_fault_behind fault (before ++ x ∷ []) xs
first_fault_behind-none fault before x xs e = rw e refl

-- the first element with a fault
pub first_fault_behind-some : {A F : Type 0} (fault : List A → A → Option F) (before : List A) (x : A) (xs : List A) (found : F) → fault before x ≡ Some found → first_fault_behind fault before (x ∷ xs) ≡ Some found
first_fault_behind-some fault before x xs found e = rw e refl

-- ---- the relation, behind some elements

record FoundBehind {A F : Type 0} (fault : List A → A → Option F) (before xs : List A) (found : F) : Type 0 where
  index : ℕ
  element : A
  here : slice_get xs index ≡ Some element
  faulty : fault (before ++ take index xs) element ≡ Some found
  sound : (k : ℕ) (x : A) → k < index → slice_get xs k ≡ Some x → fault (before ++ take k xs) x ≡ None

abbrev CleanBehind : {A F : Type 0} → (List A → A → Option F) → List A → List A → Type 0
CleanBehind {A} fault before xs = (k : ℕ) (x : A) → slice_get xs k ≡ Some x → fault (before ++ take k xs) x ≡ None

module _ {A F : Type 0} (fault : List A → A → Option F) where
  regroup : (before : List A) (y : A) (ys : List A) (x : A) → fault ((before ++ y ∷ []) ++ ys) x ≡ fault (before ++ y ∷ ys) x
  regroup before y ys x = ap (λ (b : List A). fault b x) (append_assoc before (y ∷ []) ys)

  at_first : (before : List A) (y : A) → fault (before ++ []) y ≡ fault before y
  at_first before y = ap (λ (b : List A). fault b y) (append-nil before)

  -- the elements up to one more have no fault
  clean_more : (before : List A) (y : A) (ys : List A) (k : ℕ) (x : A) → fault before y ≡ None
      → ((j : ℕ) → suc j ≡ k → slice_get ys j ≡ Some x → fault ((before ++ y ∷ []) ++ take j ys) x ≡ None)
      → slice_get (y ∷ ys) k ≡ Some x → fault (before ++ take k (y ∷ ys)) x ≡ None
  clean_more before y ys zero x none rest is =
      let same : y ≡ x = cc in
      subst (λ (z : A). fault (before ++ []) z ≡ None) same (at_first before y ∙ none)
  clean_more before y ys (suc k) x none rest is = sym (regroup before y (take k ys) x) ∙ rest k refl is

  found_more : (before : List A) (y : A) (ys : List A) (found : F) (o : Option F) → fault before y ≡ o → option_or o (first_fault_behind fault (before ++ y ∷ []) ys) ≡ Some found
      → (first_fault_behind fault (before ++ y ∷ []) ys ≡ Some found → FoundBehind fault (before ++ y ∷ []) ys found) → FoundBehind fault before (y ∷ ys) found
  found_more before y ys found (Some first) is e later = record {
    index = 0;
    element = y;
    here = refl;
    faulty = at_first before y ∙ is ∙ e;
    sound = λ k x lt get. absurd (omega arith);
  }
  found_more before y ys found None is e later =
      let rest = later e in
      record {
        index = suc rest.index;
        element = rest.element;
        here = rest.here;
        faulty = sym (regroup before y (take rest.index ys) rest.element) ∙ rest.faulty;
        sound = λ k x lt get. clean_more before y ys k x is (λ j same g. rest.sound j x (omega arith) g) get;
      }

  found_behind : (before xs : List A) (found : F) → first_fault_behind fault before xs ≡ Some found → FoundBehind fault before xs found
  found_behind before [] found e = absurd cc
  found_behind before (y ∷ ys) found e = found_more before y ys found (fault before y) refl e (λ f. found_behind (before ++ y ∷ []) ys found f)

  clean_rest : (before : List A) (y : A) (ys : List A) (o : Option F) → fault before y ≡ o → option_or o (first_fault_behind fault (before ++ y ∷ []) ys) ≡ None
      → (first_fault_behind fault (before ++ y ∷ []) ys ≡ None → CleanBehind fault (before ++ y ∷ []) ys) → CleanBehind fault before (y ∷ ys)
  clean_rest before y ys (Some first) is e later = absurd cc
  clean_rest before y ys None is e later = λ k x get. clean_more before y ys k x is (λ j same g. later e j x g) get

  clean_behind : (before xs : List A) → first_fault_behind fault before xs ≡ None → CleanBehind fault before xs
  clean_behind before [] e = λ k x get. absurd cc
  clean_behind before (y ∷ ys) e = clean_rest before y ys (fault before y) refl e (λ f. clean_behind (before ++ y ∷ []) ys f)

  -- what the function answers is so by the relation
  pub IsFirstFault-from_some : (xs : List A) (found : F) → first_fault fault xs ≡ Some found → IsFirstFault fault xs found
  IsFirstFault-from_some xs found e =
      let f = found_behind [] xs found e in
      record { index = f.index; element = f.element; here = f.here; faulty = f.faulty; sound = f.sound }

  pub HasNoFault-from_none : (xs : List A) → first_fault fault xs ≡ None → HasNoFault fault xs
  HasNoFault-from_none xs e = clean_behind [] xs e

  -- and the other way round
  some_behind : (before xs : List A) (k : ℕ) (x : A) (found : F) → slice_get xs k ≡ Some x → fault (before ++ take k xs) x ≡ Some found
      → ((j : ℕ) (y : A) → j < k → slice_get xs j ≡ Some y → fault (before ++ take j xs) y ≡ None) → first_fault_behind fault before xs ≡ Some found
  some_behind before [] k x found get faulty sound = absurd cc
  some_behind before (y ∷ ys) zero x found get faulty sound =
      let same : y ≡ x = cc in
      first_fault_behind-some fault before y ys found (sym (at_first before y) ∙ subst (λ (z : A). fault (before ++ []) z ≡ Some found) (sym same) faulty)
  some_behind before (y ∷ ys) (suc k) x found get faulty sound =
      first_fault_behind-none fault before y ys (sym (at_first before y) ∙ sound 0 y (omega arith) refl)
      ∙ some_behind (before ++ y ∷ []) ys k x found get (regroup before y (take k ys) x ∙ faulty) (λ j z lt g. regroup before y (take j ys) z ∙ sound (suc j) z (omega arith) g)

  pub some-from_IsFirstFault : (xs : List A) (found : F) → IsFirstFault fault xs found → first_fault fault xs ≡ Some found
  some-from_IsFirstFault xs found is = some_behind [] xs is.index is.element found is.here is.faulty is.sound

  none_behind : (before xs : List A) → CleanBehind fault before xs → first_fault_behind fault before xs ≡ None
  none_behind before [] clean = refl
  none_behind before (y ∷ ys) clean =
      first_fault_behind-none fault before y ys (sym (at_first before y) ∙ clean 0 y refl)
      ∙ none_behind (before ++ y ∷ []) ys (λ k x g. regroup before y (take k ys) x ∙ clean (suc k) x g)

  pub none-from_HasNoFault : (xs : List A) → HasNoFault fault xs → first_fault fault xs ≡ None
  none-from_HasNoFault xs clean = none_behind [] xs clean
