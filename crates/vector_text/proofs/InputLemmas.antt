-- Names of inputs, one by one.
use Rattle.std.proofs.Common.{◌≡◌, ℕ, zero, suc, ◌+◌, ◌<◌, Bool, true, false, not, ◌&&◌, List, [], ◌∷◌, ◌++◌, take, Some, None, refl, sym, ap, ◌∙◌, append_assoc, arith, inl, inr}
use Rattle.std.specs.Prelude.{slice_get}
use Rattle.std.proofs.lemmas.Bool.{cases_Bool}
use Rattle.std.proofs.lemmas.List.{append-nil, take_more, take_all}
use Rattle.vector_text.specs.Binding.{is_net_among, are_new}
use Rattle.vector_text.proofs.BindingLemmas.{get_some, get_none}

-- ---- new nets

and_false : (b : Bool) → (b && false) ≡ false
and_false true = refl
and_false false = refl

-- a net behind new ones
new_push : (before xs : List ℕ) (net : ℕ) → are_new before xs ≡ true → is_net_among (before ++ xs) net ≡ false → are_new before (xs ++ net ∷ []) ≡ true
new_push before [] net new other =
    let out : is_net_among before net ≡ false = ap (λ (nets : List ℕ). is_net_among nets net) (sym (append-nil before)) ∙ other in
    rw out refl
new_push before (x ∷ xs) net new other =
    elim (cases_Bool (is_net_among before x)) [
      | inl e ↦ absurd cc
      | inr e ↦ (let rest : are_new (before ++ x ∷ []) xs ≡ true = sym (ap (λ (b : Bool). not b && are_new (before ++ x ∷ []) xs) e) ∙ new in
          let out : is_net_among ((before ++ x ∷ []) ++ xs) net ≡ false = ap (λ (nets : List ℕ). is_net_among nets net) (append_assoc before (x ∷ []) xs) ∙ other in
          rw e (new_push (before ++ x ∷ []) xs net rest out))
    ]

pub new_more : (before found : List ℕ) (at net : ℕ) → slice_get found at ≡ Some net → is_net_among (before ++ take at found) net ≡ false → are_new before (take at found) ≡ true → are_new before (take (at + 1) found) ≡ true
new_more before found at net e other new =
    let r = get_some found at net 0 e in
    let one : take (at + 1) found ≡ take at found ++ net ∷ [] = take_more found at 0 r.0 ∙ ap (λ (x : ℕ). take at found ++ x ∷ []) r.1 in
    ap (are_new before) one ∙ new_push before (take at found) net new other

-- a net that stands before or among those before it
pub new_stop : (before found : List ℕ) (n at net : ℕ) → slice_get found at ≡ Some net → at < n → is_net_among (before ++ take at found) net ≡ true → false ≡ are_new before (take n found)
new_stop before [] n at net e lt twice = absurd cc
new_stop before (x ∷ xs) zero at net e lt twice = absurd (omega arith)
new_stop before (x ∷ xs) (suc n) zero net e lt twice =
    let same : x ≡ net = cc in
    let in_front : is_net_among before x ≡ true = ap (λ (nets : List ℕ). is_net_among nets x) (sym (append-nil before)) ∙ ap (is_net_among (before ++ [])) same ∙ twice in
    rw in_front refl
new_stop before (x ∷ xs) (suc n) (suc at) net e lt twice =
    let again : is_net_among ((before ++ x ∷ []) ++ take at xs) net ≡ true = ap (λ (nets : List ℕ). is_net_among nets net) (append_assoc before (x ∷ []) (take at xs)) ∙ twice in
    sym (ap (λ (b : Bool). not (is_net_among before x) && b) (sym (new_stop (before ++ x ∷ []) xs n at net e (omega arith) again)) ∙ and_false (not (is_net_among before x)))

pub new_all : (before found : List ℕ) (n at : ℕ) → slice_get found at ≡ None → at < n → are_new before (take at found) ≡ true → true ≡ are_new before (take n found)
new_all before found n at none lt new =
    let le = get_none found at none in
    sym (ap (are_new before) (take_all n found (omega arith) ∙ sym (take_all at found le)) ∙ new)
