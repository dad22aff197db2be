-- A loop that writes values at places that are apart.
use Rattle.std.proofs.Common.{◌≡◌, ◌≢◌, ℕ, ◌+◌, ◌<◌, Bool, true, false, not, List, [], ◌∷◌, ◌++◌, length, get_or, take, refl, sym, ap, ◌∙◌, arith, inl, inr}
use Rattle.std.proofs.Math.ListN.{set}
use Rattle.std.proofs.lemmas.Bool.{cases_eq, true≢false}
use Rattle.std.proofs.lemmas.List.{get_or-set_same, get_or-set_other, get_or-map, take_more, take_more_set}
use Rattle.gate_net.specs.Sound.{AreApart, IsGate, driven_nets}
use Rattle.gate_net.specs.declared.netlist.Gate.{Gate}
use Rattle.std.specs.Prelude.{All}
use Rattle.level_range.specs.declared.range.Logic.{Logic}
use Rattle.level_range.specs.declared.range.Logic.TheVariants.{Zero, X}
use Rattle.first_machine.specs.Pass.{no_gate}
use Rattle.first_machine.specs.Shown.{logic_at, next_value, same_logic, SaysDue}

-- the first i places have their values
pub record AreWritten (nets : List ℕ) (values seen : List Logic) (i : ℕ) : Type 0 where
  pub each : (j : ℕ) → j < i → logic_at seen (get_or nets j 0) ≡ logic_at values j

-- no place changed but the first i
pub record AreOthersKept (nets : List ℕ) (old seen : List Logic) (i : ℕ) : Type 0 where
  pub each : (n : ℕ) → ((j : ℕ) → j < i → get_or nets j 0 ≢ n) → logic_at seen n ≡ logic_at old n

apart_at : (nets : List ℕ) (i j : ℕ) → AreApart nets → i < length nets → j < i → get_or nets j 0 ≢ get_or nets i 0
apart_at nets i j apart h lt = apart j i lt h

pub write_more : (nets : List ℕ) (values seen : List Logic) (i : ℕ) (v : Logic) → AreApart nets → i < length nets → get_or nets i 0 < length seen → v ≡ logic_at values i → AreWritten nets values seen i → AreWritten nets values (set seen (get_or nets i 0) v) (i + 1)
write_more nets values seen i v apart h fits is so_far = record {
  each = λ j lt. elim (cases_eq j i) [
    | inl e ↦ rw (e) (get_or-set_same seen (get_or nets i 0) v _ fits ∙ is)
    | inr ne ↦ get_or-set_other seen (get_or nets i 0) (get_or nets j 0) v _ (apart_at nets i j apart h (omega arith)) ∙ so_far.each j (omega arith)
  ];
}

pub others_more : (nets : List ℕ) (old seen : List Logic) (i : ℕ) (v : Logic) → AreOthersKept nets old seen i → AreOthersKept nets old (set seen (get_or nets i 0) v) (i + 1)
others_more nets old seen i v so_far = record {
  each = λ n ne. get_or-set_other seen (get_or nets i 0) n v _ (λ e. ne i (omega arith) (sym e)) ∙ so_far.each n (λ j lt. ne j (omega arith));
}

-- what gate k drives
pub gate_output : (gates : List Gate) (k : ℕ) (gate : Gate) → k < length gates → gate ≡ get_or gates k gate → gate.output ≡ get_or (driven_nets gates) k 0
gate_output gates k gate h is = ap (λ (g : Gate). g.output) is ∙ sym (get_or-map (λ (g : Gate). g.output) gates k gate 0 h)

pub driven_at : (gates : List Gate) (k : ℕ) → k < length gates → get_or (driven_nets gates) k 0 ≡ (get_or gates k no_gate).output
driven_at gates k h = get_or-map (λ (g : Gate). g.output) gates k no_gate 0 h

pub gate_in_range : (count : ℕ) (gates : List Gate) (k : ℕ) → All (IsGate count) gates → k < length gates → get_or (driven_nets gates) k 0 < count
gate_in_range count gates k h lt = rw (driven_at gates k lt) ((h k no_gate lt).output)

pub copied_more : (targets outs : List Logic) (k : ℕ) → k < length outs → k < length targets → take k outs ≡ take k targets → take (k + 1) (set outs k (get_or targets k Zero)) ≡ take (k + 1) targets
copied_more targets outs k h lt so_far = take_more_set outs k (get_or targets k Zero) h ∙ ap (λ (xs : List Logic). xs ++ get_or targets k Zero ∷ []) so_far ∙ sym (take_more targets k Zero lt)

pub targets_more : (gates : List Gate) (seen targets : List Logic) (i : ℕ) (v : Logic) → i < length targets → v ≡ next_value (get_or gates i no_gate) seen → ((j : ℕ) → j < i → logic_at targets j ≡ next_value (get_or gates j no_gate) seen)
    → (j : ℕ) → j < i + 1 → logic_at (set targets i v) j ≡ next_value (get_or gates j no_gate) seen
targets_more gates seen targets i v h is so_far j lt =
    elim (cases_eq j i) [
      | inl e ↦ rw e (get_or-set_same targets i v _ h ∙ is)
      | inr ne ↦ get_or-set_other targets i j v _ ne ∙ so_far j (omega arith)
    ]

same_at : (outs targets : List Logic) (i j : ℕ) (v : Logic) (b : Bool) → j ≢ i → same_logic (logic_at outs j) (logic_at targets j) ≡ b → same_logic (logic_at outs j) (logic_at (set targets i v) j) ≡ b
same_at outs targets i j v b ne h = rw (get_or-set_other targets i j v X ne) h

new_at : (outs targets : List Logic) (i : ℕ) (v : Logic) (b : Bool) → i < length targets → same_logic (logic_at outs i) v ≡ b → same_logic (logic_at outs i) (logic_at (set targets i v) i) ≡ b
new_at outs targets i v b h e = rw (get_or-set_same targets i v X h) e

-- the target at i differs
pub says_differs : (outs targets : List Logic) (i : ℕ) (v : Logic) → i < length targets → same_logic (logic_at outs i) v ≡ false → SaysDue true outs (set targets i v) (i + 1)
says_differs outs targets i v h e = record {
  some = λ is. (i, (omega arith, new_at outs targets i v false h e));
  none = λ is. absurd (true≢false is);
}

-- the target at i doesn't differ
pub says_same : (due : Bool) (outs targets : List Logic) (i : ℕ) (v : Logic) → i < length targets → same_logic (logic_at outs i) v ≡ true → SaysDue due outs targets i → SaysDue due outs (set targets i v) (i + 1)
says_same due outs targets i v h e so_far = record {
  some = λ is. let w = so_far.some is in (w.0, (omega (arith, w.1.0), same_at outs targets i w.0 v false (omega (arith, w.1.0)) w.1.1));
  none = λ is j lt. elim (cases_eq j i) [
    | inl same ↦ rw same (new_at outs targets i v true h e)
    | inr ne ↦ same_at outs targets i j v true ne (so_far.none is j (omega arith))
  ];
}

pub differs_if : (a b v : Logic) (r : Bool) → a ≡ v → r ≡ not (same_logic a b) → r ≡ true → same_logic v b ≡ false
differs_if a b v r e is yes' = rw (← e) (not_true (same_logic a b) (sym is ∙ yes'))
  where
    not_true : (t : Bool) → not t ≡ true → t ≡ false
    not_true true h = absurd (true≢false (sym h))
    not_true false h = refl

pub same_if : (a b v : Logic) (r : Bool) → a ≡ v → r ≡ not (same_logic a b) → r ≡ false → same_logic v b ≡ true
same_if a b v r e is yes' = rw (← e) (not_false (same_logic a b) (sym is ∙ yes'))
  where
    not_false : (t : Bool) → not t ≡ false → t ≡ true
    not_false true h = refl
    not_false false h = absurd (true≢false h)
