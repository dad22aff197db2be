-- What the function `leads_to` answers is whether the relation `LeadsTo` holds, and what follows for reached modules.
use Rattle.std.proofs.Common.{◌≡◌, ℕ, zero, suc, ◌+◌, ◌<◌, ◌≤◌, true, ◌&&◌, ◌||◌, List, [], ◌∷◌, length, eqb, refl, sym, ap, subst, ◌∙◌, arith, inl, inr, ◌⊎◌, ⊎_elim}
use Rattle.std.specs.List.{range_with_len}
use Rattle.std.proofs.lemmas.Bool.{cases_lt, cases_eq, or_cases, or_left, or_right, and_parts, and_from, eqb-true, eq-eqb, false≢true}
use Rattle.std.proofs.lemmas.List.{get_or_past}
use Rattle.module_graph.specs.declared.references.Reference.{Reference}
use Rattle.module_graph.specs.Reach.{refers_to, instantiates, LeadsTo, leads_through, leads_to, indexes, is_reached}
use Rattle.module_graph.specs.Reach.LeadsTo.{Directly, Through}

-- a number is one of a list
abbrev Among : ℕ → List ℕ → Type 0
Among b [] = ⊥
Among b (x ∷ xs) = (b ≡ x) ⊎ Among b xs

Among-range : (start n b : ℕ) → start ≤ b → b < start + n → Among b (range_with_len start n)
Among-range start zero b low high = absurd (omega arith)
Among-range start (suc n) b low high = elim (cases_eq b start) [
  | inl e ↦ inl e
  | inr ne ↦ inr (Among-range (start + 1) n b (omega arith) (omega arith))
]

module _ (rs : List (List Reference)) where
  -- only a module of the file instantiates another
  pub instantiates_within : (a b : ℕ) → instantiates rs a b ≡ true → a < length rs
  instantiates_within a b e = elim (cases_lt a (length rs)) [
    | inl lt ↦ lt
    | inr le ↦ absurd (false≢true (sym (ap (refers_to b) (get_or_past rs a [] le)) ∙ e))
  ]

  pub LeadsTo_within : {a c : ℕ} → LeadsTo rs a c → a < length rs
  LeadsTo_within (Directly {a = a} {b = b} e) = instantiates_within a b e
  LeadsTo_within (Through {a = a} {b = b} e rest) = instantiates_within a b e

  pub LeadsTo_on : {a b c : ℕ} → LeadsTo rs a b → LeadsTo rs b c → LeadsTo rs a c
  LeadsTo_on (Directly e) onward = Through e onward
  LeadsTo_on (Through e rest) onward = Through e (LeadsTo_on rest onward)

  through_edge : (bs : List ℕ) (a c : ℕ) → instantiates rs a c ≡ true → leads_through rs bs a c ≡ true
  through_edge [] a c e = e
  through_edge (b ∷ bs) a c e = or_left (leads_through rs bs a c) (leads_through rs bs a b && leads_through rs bs b c) (through_edge bs a c e)

  through_sound : (bs : List ℕ) (a c : ℕ) → leads_through rs bs a c ≡ true → LeadsTo rs a c
  through_sound [] a c e = Directly e
  through_sound (b ∷ bs) a c e = elim (or_cases (leads_through rs bs a c) (leads_through rs bs a b && leads_through rs bs b c) e) [
    | inl around ↦ through_sound bs a c around
    | inr both ↦
        let parts = and_parts (leads_through rs bs a b) (leads_through rs bs b c) both in
        LeadsTo_on (through_sound bs a b parts.0) (through_sound bs b c parts.1)
  ]

  -- the way on from a middle that was just added
  from_middle : (bs : List ℕ) (b c : ℕ) → (leads_through rs bs b c || (leads_through rs bs b b && leads_through rs bs b c)) ≡ true → leads_through rs bs b c ≡ true
  from_middle bs b c e = elim (or_cases (leads_through rs bs b c) (leads_through rs bs b b && leads_through rs bs b c) e) [
    | inl around ↦ around
    | inr both ↦ (and_parts (leads_through rs bs b b) (leads_through rs bs b c) both).1
  ]

  -- one reference more in front, to a module that may stand between
  through_before : (bs : List ℕ) (a b c : ℕ) → instantiates rs a b ≡ true → Among b bs → leads_through rs bs b c ≡ true → leads_through rs bs a c ≡ true
  through_before [] a b c e none h = absurd none
  through_before (m ∷ bs) a b c e (inl same) h =
      let onward : leads_through rs bs m c ≡ true
      = from_middle bs m c (subst (λ (x : ℕ). (leads_through rs bs x c || (leads_through rs bs x m && leads_through rs bs m c)) ≡ true) same h) in
      or_right (leads_through rs bs a c) (leads_through rs bs a m && leads_through rs bs m c)
      (and_from (leads_through rs bs a m) (leads_through rs bs m c) (through_edge bs a m (subst (λ (x : ℕ). instantiates rs a x ≡ true) same e)) onward)
  through_before (m ∷ bs) a b c e (inr among) h = elim (or_cases (leads_through rs bs b c) (leads_through rs bs b m && leads_through rs bs m c) h) [
    | inl around ↦
        or_left (leads_through rs bs a c) (leads_through rs bs a m && leads_through rs bs m c) (through_before bs a b c e among around)
    | inr both ↦
        let parts = and_parts (leads_through rs bs b m) (leads_through rs bs m c) both in
        or_right (leads_through rs bs a c) (leads_through rs bs a m && leads_through rs bs m c)
        (and_from (leads_through rs bs a m) (leads_through rs bs m c) (through_before bs a b m e among parts.0) parts.1)
  ]

  through_complete : {a c : ℕ} → LeadsTo rs a c → leads_through rs (indexes rs) a c ≡ true
  through_complete (Directly {a = a} {b = b} e) = through_edge (indexes rs) a b e
  through_complete (Through {a = a} {b = b} {c = c} e rest) =
      let within : b < length rs = LeadsTo_within rest in
      through_before (indexes rs) a b c e (Among-range 0 (length rs) b (omega arith) (omega arith)) (through_complete rest)

  -- the law of the relation and the function, in both directions
  pub LeadsTo_from_function : (a c : ℕ) → leads_to rs a c ≡ true → LeadsTo rs a c
  unfolding leads_to
  LeadsTo_from_function a c e = through_sound (indexes rs) a c e

  pub LeadsTo_to_function : {a c : ℕ} → LeadsTo rs a c → leads_to rs a c ≡ true
  unfolding leads_to
  LeadsTo_to_function walk = through_complete walk

  -- ---- reached modules

  pub is_reached_top : (top : ℕ) → is_reached rs top top ≡ true
  is_reached_top top = or_left (eqb top top) (leads_to rs top top) (eq-eqb top top refl)

  pub is_reached_from : (top : ℕ) {k : ℕ} → LeadsTo rs top k → is_reached rs top k ≡ true
  is_reached_from top {k} walk = or_right (eqb k top) (leads_to rs top k) (LeadsTo_to_function walk)

  pub is_reached_cases : (top k : ℕ) → is_reached rs top k ≡ true → (k ≡ top) ⊎ LeadsTo rs top k
  is_reached_cases top k e = ⊎_elim
      (λ (same : eqb k top ≡ true). inl (eqb-true k top same))
      (λ (walk : leads_to rs top k ≡ true). inr (LeadsTo_from_function top k walk))
      (or_cases (eqb k top) (leads_to rs top k) e)

  -- what a reached module instantiates is reached
  pub is_reached_on : (top a b : ℕ) → is_reached rs top a ≡ true → instantiates rs a b ≡ true → is_reached rs top b ≡ true
  is_reached_on top a b e step = elim (is_reached_cases top a e) [
    | inl same ↦ is_reached_from top (Directly (subst (λ (x : ℕ). instantiates rs x b ≡ true) same step))
    | inr walk ↦ is_reached_from top (LeadsTo_on walk (Directly step))
  ]
