-- Positions in order settle that references to modules that have one don't lead back.
use Rattle.std.proofs.Common.{◌≡◌, ℕ, zero, suc, ◌<◌, Bool, true, false, not, ◌||◌, ◌&&◌, eqb, ltb, List, [], ◌∷◌, length, get_or, sym, ap, subst, ◌∙◌, zero-add, arith, inl, inr}
use Rattle.std.specs.List.{list_all, enumerate_from}
use Rattle.std.proofs.lemmas.Bool.{and_parts, or_cases, ltb-true, eqb-true, false_from_ne_true}
use Rattle.std.proofs.lemmas.List.FromFn.{length-enumerate_from, get_or-enumerate_from}
use Rattle.module_graph.specs.declared.references.Master.{Master}
use Rattle.module_graph.specs.declared.references.Master.TheVariants.{Module, Udp, Unknown}
use Rattle.module_graph.specs.declared.references.Reference.{Reference}
use Rattle.module_graph.specs.Reach.{instantiates, refers_to, is_module, is_reached, LeadsTo}
use Rattle.module_graph.specs.Reach.LeadsTo.{Directly, Through}
use Rattle.module_graph.specs.Order.{is_master_later, is_later, are_later, is_behind, is_list_in_order, is_in_order, IsSettled}
use Rattle.module_graph.proofs.ReachLaws.{instantiates_within, is_reached_cases}

list_all_at : {X : Type 0} (test : X → Bool) (xs : List X) (i : ℕ) (d : X) → list_all test xs ≡ true → i < length xs → test (get_or xs i d) ≡ true
list_all_at test [] i d e lt = absurd (omega arith)
list_all_at test (x ∷ xs) zero d e lt = (and_parts (test x) (list_all test xs) e).0
list_all_at test (x ∷ xs) (suc i) d e lt = list_all_at test xs i d (and_parts (test x) (list_all test xs) e).1 (omega arith)

module _ (positions : List ℕ) (reached : List Bool) (rs : List (List Reference)) where
  -- the second module is reached, and where it has a position the first has one before it
  abbrev Follows : ℕ → ℕ → Type 0
  Follows a b = (get_or reached b false ≡ true) × (0 < get_or positions b 0 → (0 < get_or positions a 0) × (get_or positions a 0 < get_or positions b 0))

  placed_behind : (p q : ℕ) → is_behind p q ≡ true → 0 < q → (0 < p) × (p < q)
  placed_behind p q e placed = elim (or_cases (eqb q 0) (ltb 0 p && ltb p q) e) [
    | inl none ↦ let zero_there : q ≡ 0 = eqb-true q 0 none in absurd (omega arith)
    | inr both ↦
        let parts = and_parts (ltb 0 p) (ltb p q) both in
        (ltb-true 0 p parts.0, ltb-true p q parts.1)
  ]

  later_master : (a b : ℕ) (m : Master) → is_master_later positions reached a m ≡ true → is_module b m ≡ true → Follows a b
  later_master a b (Module c) e refers =
      let same : b ≡ c = eqb-true b c refers in
      let parts = and_parts (get_or reached c false) (is_behind (get_or positions a 0) (get_or positions c 0)) e in
      subst (λ (x : ℕ). Follows a x) (sym same) (parts.0, placed_behind (get_or positions a 0) (get_or positions c 0) parts.1)
  later_master a b (Udp c) e refers = absurd cc
  later_master a b Unknown e refers = absurd cc

  later_in : (a b : ℕ) (list : List Reference) → are_later positions reached a list ≡ true → refers_to b list ≡ true → Follows a b
  later_in a b [] e refers = absurd cc
  later_in a b (r ∷ list) e refers =
      let parts = and_parts (is_later positions reached a r) (are_later positions reached a list) e in
      elim (or_cases (is_module b r.master) (refers_to b list) refers) [
        | inl here ↦ later_master a b r.master parts.0 here
        | inr rest ↦ later_in a b list parts.1 rest
      ]

  or_not : (x y : Bool) → (not x || y) ≡ true → x ≡ true → y ≡ true
  or_not true y e f = e
  or_not false y e f = absurd cc

  module _ (ordered : is_in_order positions reached rs ≡ true) where
    step : (a b : ℕ) → get_or reached a false ≡ true → instantiates rs a b ≡ true → Follows a b
    step a b here e =
        let lt : a < length rs = instantiates_within rs a b e in
        let long : a < length (enumerate_from 0 rs) = omega (arith, length-enumerate_from 0 rs) in
        let entry : get_or (enumerate_from 0 rs) a (0, []) ≡ (a, get_or rs a []) = get_or-enumerate_from 0 rs a (0, []) lt ∙ ap (λ (n : ℕ). (n, get_or rs a [])) (zero-add a) in
        let all : is_list_in_order positions reached (a, get_or rs a []) ≡ true
        = ap (is_list_in_order positions reached) (sym entry) ∙ list_all_at (is_list_in_order positions reached) (enumerate_from 0 rs) a (0, []) ordered long in
        later_in a b (get_or rs a []) (or_not (get_or reached a false) (are_later positions reached a (get_or rs a [])) all here) e

    -- what leads to a module that has a position has one too, before it
    before : {b a : ℕ} → LeadsTo rs b a → get_or reached b false ≡ true → 0 < get_or positions a 0 → (0 < get_or positions b 0) × (get_or positions b 0 < get_or positions a 0)
    before (Directly {a = b} {b = a} e) here placed = (step b a here e).1 placed
    before (Through {a = b} {b = x} {c = a} e rest) here placed =
        let one = step b x here e in
        let others = before rest one.0 placed in
        let first = one.1 others.0 in
        let low : get_or positions b 0 < get_or positions x 0 = first.1 in
        let high : get_or positions x 0 < get_or positions a 0 = others.1 in
        (first.0, omega arith)

    -- positions in order settle that no reference to a module that has one leads back
    pub IsSettled-order : IsSettled positions reached rs
    IsSettled-order a b here e placed =
        let one = step a b here e in
        let ahead = one.1 placed in
        let low : get_or positions a 0 < get_or positions b 0 = ahead.1 in
        false_from_ne_true (is_reached rs b a) (λ (back : is_reached rs b a ≡ true).
        elim (is_reached_cases rs b a back) [
          | inl same ↦ let equal : get_or positions a 0 ≡ get_or positions b 0 = ap (λ n. get_or positions n 0) same in omega arith
          | inr walk ↦ let behind : get_or positions b 0 < get_or positions a 0 = (before walk one.0 ahead.0).1 in omega arith
        ])
