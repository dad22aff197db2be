-- Inputs in force by the numbers of nets.
use Rattle.std.proofs.Common.{◌≡◌, ◌≢◌, ℕ, zero, suc, ◌+◌, ◌<◌, ◌≤◌, List, [], ◌∷◌, length, get_or, refl, ap, sym, ◌∙◌, Bool, true, false, cond, arith, inl, inr, length-set, get_or-set_same, ◌⊎◌}
use Rattle.std.specs.Prelude.{slice_set, Some, slice_get, replicate, nat_eq}
use Rattle.std.proofs.lemmas.Bool.{cases_eq, eq-eqb, ne_eqb}
use Rattle.std.proofs.lemmas.List.{get_or-set_other}
use Rattle.std.proofs.lemmas.Option.{slice_get-get_or}
use Rattle.level_range.specs.Signal.{Signal, undriven}
use Rattle.flat_net.specs.Lists.{AreDistinct}
use Rattle.machine.specs.Machine.{input_among}
use Rattle.plain_sim.specs.Lists.{AreForcedBy, AreUndrivenElsewhere}

-- none of the first nets is this one
abbrev pub NoneIs : List ℕ → ℕ → ℕ → Type 0
NoneIs nets k net = (j : ℕ) → j < k → get_or nets j 0 ≢ net

-- the first inputs stand at their nets, and the other nets have what they had
pub record AreForcedUpTo (nets : List ℕ) (inputs before after : List Signal) (k : ℕ) : Type 0 where
  pub size : length after ≡ length before
  pub front : (j : ℕ) → j < k → get_or after (get_or nets j 0) undriven ≡ get_or inputs j undriven
  pub others : (net : ℕ) → NoneIs nets k net → get_or after net undriven ≡ get_or before net undriven

pub forced-none : (nets : List ℕ) (inputs before : List Signal) → AreForcedUpTo nets inputs before before 0
forced-none nets inputs before = record { size = refl; front = λ j lt. absurd (omega arith); others = λ net none. refl }

pub forced-more : (nets : List ℕ) (inputs before after : List Signal) (k net : ℕ) (s : Signal) → AreDistinct nets → k < length nets →
    net ≡ get_or nets k 0 → s ≡ get_or inputs k undriven → net < length after →
    AreForcedUpTo nets inputs before after k → AreForcedUpTo nets inputs before (slice_set after net s) (k + 1)
forced-more nets inputs before after k net s distinct lt there is within forced = record {
  size = length-set after net s ∙ forced.size;
  front = λ j less. elim (cases_eq j k) [
    | inl e ↦
        ap (λ i. get_or (slice_set after net s) (get_or nets i 0) undriven) e
        ∙ ap (λ n. get_or (slice_set after net s) n undriven) (sym there)
        ∙ get_or-set_same after net s undriven within ∙ is ∙ ap (λ i. get_or inputs i undriven) (sym e)
    | inr ne ↦
        let apart : get_or nets j 0 ≢ net =
        (λ same. ne (distinct j k net (slice_get-get_or nets j 0 (omega arith) ∙ ap (λ n. Some n) same)
        (slice_get-get_or nets k 0 lt ∙ ap (λ n. Some n) (sym there)))) in
        get_or-set_other after net (get_or nets j 0) s undriven apart ∙ forced.front j (let g = ne in omega arith)
  ];
  others = λ other none.
      let apart : other ≢ net = (λ same. none k (omega arith) (sym there ∙ sym same)) in
      get_or-set_other after net other s undriven apart ∙ forced.others other (λ j less. none j (omega arith));
}

-- an input net is found at its first place, or it isn't there
Found : List ℕ → List Signal → ℕ → Type 0
Found nets inputs net =
    ((j : ℕ) × (j < length nets) × (get_or nets j 0 ≡ net) × (input_among nets inputs net ≡ get_or inputs j undriven))
    ⊎ (NoneIs nets (length nets) net × (input_among nets inputs net ≡ undriven))

found : (nets : List ℕ) (inputs : List Signal) (net : ℕ) → length inputs ≡ length nets → Found nets inputs net
unfolding Found
found [] inputs net long = inr ((λ j lt. absurd (omega arith)), refl)
found (first ∷ nets) [] net long = absurd (omega arith)
found (first ∷ nets) (input ∷ inputs) net long = elim (cases_eq first net) [
  | inl e ↦ inl (0, omega arith, e, rw (eq-eqb first net e) refl)
  | inr ne ↦ elim (found nets inputs net (omega arith)) [
    | inl there ↦ inl (suc there.0, (let l = there.1 in omega arith), there.2, rw (ne_eqb first net ne) there.3)
    | inr none ↦ inr (later ne none.0, rw (ne_eqb first net ne) none.1)
  ]
]
  where
    later : first ≢ net → NoneIs nets (length nets) net → NoneIs (first ∷ nets) (length (first ∷ nets)) net
    later ne none zero lt = ne
    later ne none (suc j) lt = none j (omega arith)

pub forced-all : (nets : List ℕ) (inputs before after : List Signal) → length inputs ≡ length nets →
    AreUndrivenElsewhere nets before → AreForcedUpTo nets inputs before after (length nets) → AreForcedBy nets inputs after
unfolding Found
forced-all nets inputs before after long none forced net within = elim (found nets inputs net long) [
  | inl there ↦ ap (λ n. get_or after n undriven) (sym there.2) ∙ forced.front there.0 there.1 ∙ sym there.3
  | inr missing ↦ forced.others net missing.0 ∙ none net (let s = forced.size in omega arith) missing.0 ∙ sym missing.1
]

-- a net that is no input is z
pub missing-undriven : (nets : List ℕ) (inputs : List Signal) (net : ℕ) → NoneIs nets (length nets) net → input_among nets inputs net ≡ undriven
missing-undriven [] inputs net none = refl
missing-undriven (first ∷ nets) [] net none = refl
missing-undriven (first ∷ nets) (input ∷ inputs) net none =
    rw (ne_eqb first net (none 0 (omega arith))) (missing-undriven nets inputs net (λ j lt. none (suc j) (omega arith)))

-- where all inputs are z, all nets are
pub all-undriven : (nets : List ℕ) (n net : ℕ) → input_among nets (replicate n undriven) net ≡ undriven
all-undriven [] n net = refl
all-undriven (first ∷ nets) zero net = refl
all-undriven (first ∷ nets) (suc n) net = by_test (nat_eq first net) (all-undriven nets n net)
  where
    by_test : (b : Bool) → input_among nets (replicate n undriven) net ≡ undriven →
        cond b undriven (input_among nets (replicate n undriven) net) ≡ undriven
    by_test true e = refl
    by_test false e = e
