-- A pass over the lists of values is a pass of the machine that they stand for.
use Rattle.std.proofs.Common.{◌≡◌, ◌≢◌, ℕ, suc, ◌<◌, Bool, true, false, not, cond, List, [], ◌∷◌, ◌++◌, length, get_or, map, Some, None, refl, sym, ap, ◌∙◌, subst, arith, inl, inr, eqb}
use Rattle.std.specs.List.{range_with_len}
use Rattle.std.proofs.lemmas.Bool.{le-leb, eq-eqb, cases_lt}
use Rattle.std.proofs.lemmas.Bool.Decides.{eqb_tells}
use Rattle.std.proofs.lemmas.List.{length-map, get_or-map, get_or_default}
use Rattle.std.proofs.lemmas.List.FromFn.{length-map-range_with_len, get_or-map-range_with_len}
use Rattle.std.proofs.lemmas.List.Folds.{list_any_none, list_any_at}
use Rattle.level_range.specs.Signal.{Signal, reads}
use Rattle.level_range.specs.declared.range.Logic.{Logic}
use Rattle.level_range.specs.declared.range.Logic.TheVariants.{X, Z}
use Rattle.logic_tables.specs.Fold.{gate_value}
use Rattle.logic_tables.specs.declared.kinds.FoldKind.TheVariants.{Nand}
use Rattle.gate_net.specs.Sound.{IsSound, driven_nets}
use Rattle.gate_net.specs.declared.netlist.Gate.{Gate}
use Rattle.gate_net.specs.declared.netlist.Netlist.{Netlist}
use Rattle.first_machine.specs.Machine.{Machine, ElementState, NetState, strong, fresh_element, fresh_net}
use Rattle.first_machine.specs.Pass.{is_due, is_due_at, matured, no_gate, gate_at, element_drives, input_drives, combined, settled_net, target_of, evaluated, settle, evaluate, pass}
use Rattle.first_machine.specs.Shown.{Values, values_from, logic_at, same_logic, element_of, net_of, IsUndriven, IsNoInput, AreShown, ArePassed, SaysDue}
use Rattle.first_machine.proofs.Signals.{reads-strong, same_signal-strong, same_logic-true}
use Rattle.first_machine.proofs.Ranges.{filter_map_none, filter_map_one, at_some_place}

-- an element after its due change
abbrev settled_element : Logic → ElementState
settled_element target = record { out = strong target; due = None }

-- ---- one element

matured_by : (now : ℕ) (out target : Logic) (b : Bool) → same_logic out target ≡ b → matured now (record { out = strong out; due = cond b None (Some (record { value = strong target; at = now })) }) ≡ settled_element target
matured_by now out target true e = ap settled_element (same_logic-true out target e)
matured_by now out target false e = rw (le-leb now now (omega arith)) refl

pub matured_element : (now : ℕ) (out target : Logic) → matured now (element_of now out target) ≡ settled_element target
matured_element now out target = matured_by now out target (same_logic out target) refl

evaluated_element : (now : ℕ) (gate : Gate) (nets : List NetState) (out next : Logic) → target_of gate nets ≡ strong next → evaluated now gate nets (settled_element out) ≡ element_of now out next
evaluated_element now gate nets out next e = rw (e, same_signal-strong out next) refl

pub ne-eqb : (a b : ℕ) → a ≢ b → eqb a b ≡ false
ne-eqb a b ne = elim (eqb_tells a b) [
  | inl same ↦ absurd (ne same.1)
  | inr differs ↦ differs.0
]

-- a value at a test that holds, and at one that doesn't
some_if : {Y : Type 0} (b : Bool) (y : Y) → b ≡ true → cond b (Some y) None ≡ Some y
some_if b y e = rw e refl

none_if : {Y : Type 0} (b : Bool) (y : Y) → b ≡ false → cond b (Some y) None ≡ None
none_if b y e = rw e refl

next_pins : (seen : List Logic) (nets : List NetState) (pins : List ℕ) → ((k : ℕ) → k < length pins → get_or nets (get_or pins k 0) fresh_net ≡ net_of (logic_at seen (get_or pins k 0)))
    → map (λ n. reads (get_or nets n fresh_net).seen) pins ≡ map (logic_at seen) pins
next_pins seen nets [] h = refl
next_pins seen nets (n ∷ ns) h =
    let head : reads (get_or nets n fresh_net).seen ≡ logic_at seen n = ap (λ (s : NetState). reads s.seen) (h 0 (omega arith)) ∙ reads-strong (logic_at seen n) in
    let tail = next_pins seen nets ns (λ k lt. h (suc k) (omega arith)) in
    rw (head, tail) refl

-- ---- a pass

module _ (netlist : Netlist) (sound : IsSound netlist) (old new : Values) (m : Machine) (shown : AreShown netlist old m) (passed : ArePassed netlist old new) where
  elements : List ElementState
  elements = map (matured m.time) m.elements

  at_element : (k : ℕ) → k < length netlist.gates → get_or elements k fresh_element ≡ settled_element (logic_at old.targets k)
  unfolding elements
  at_element k h =
      get_or-map (matured m.time) m.elements k fresh_element fresh_element (omega (arith, shown.elements_len)) ∙ ap (matured m.time) (shown.elements k h) ∙ matured_element m.time (logic_at old.outs k) (logic_at old.targets k)

  -- the net that gate k drives, in the two ways that it is written
  driven_at : (k : ℕ) → k < length netlist.gates → get_or (driven_nets netlist.gates) k 0 ≡ (gate_at netlist k).output
  driven_at k h = get_or-map (λ (g : Gate). g.output) netlist.gates k no_gate 0 h

  one_driver : (j k : ℕ) → j < length netlist.gates → k < length netlist.gates → k ≢ j → (gate_at netlist k).output ≢ (gate_at netlist j).output
  one_driver j k hj hk ne e =
      let same : get_or (driven_nets netlist.gates) k 0 ≡ get_or (driven_nets netlist.gates) j 0 = driven_at k hk ∙ e ∙ sym (driven_at j hj) in
      let len : length (driven_nets netlist.gates) ≡ length netlist.gates = length-map netlist.gates (λ (g : Gate). g.output) in
      elim (cases_lt j k) [
        | inl lt ↦ sound.one_driver j k lt (omega arith) (sym same)
        | inr le ↦ sound.one_driver k j (omega arith) (omega arith) same
      ]

  -- what the gates give to a net
  driven_by : (n j : ℕ) → j < length netlist.gates → (gate_at netlist j).output ≡ n → element_drives netlist elements n ≡ strong (logic_at old.targets j) ∷ []
  driven_by n j hj e =
      filter_map_one (λ (k : ℕ). cond (eqb (gate_at netlist k).output n) (Some (get_or elements k fresh_element).out) None) 0 (length netlist.gates) j (strong (logic_at old.targets j)) (omega arith) (omega arith)
      (some_if (eqb (gate_at netlist j).output n) (get_or elements j fresh_element).out (eq-eqb _ _ e) ∙ ap (λ (s : ElementState). Some s.out) (at_element j hj))
      (λ k low high ne. none_if (eqb (gate_at netlist k).output n) (get_or elements k fresh_element).out (ne-eqb _ _ (λ same. one_driver j k hj (omega arith) ne (same ∙ sym e))))

  undriven : (n : ℕ) → IsUndriven netlist n → element_drives netlist elements n ≡ []
  undriven n no_driver =
      filter_map_none (λ (k : ℕ). cond (eqb (gate_at netlist k).output n) (Some (get_or elements k fresh_element).out) None) 0 (length netlist.gates)
      (λ k low high. none_if (eqb (gate_at netlist k).output n) (get_or elements k fresh_element).out (ne-eqb _ _ (no_driver k (omega arith))))

  input_is : (k : ℕ) → k < length netlist.inputs → get_or m.inputs k (strong Z) ≡ strong (logic_at old.forced k)
  input_is k h =
      subst (λ (xs : List Signal). get_or xs k (strong Z) ≡ strong (logic_at old.forced k)) (sym shown.inputs) (get_or-map strong old.forced k X (strong Z) (omega (arith, shown.sizes.forced)))

  inputs_apart : (j k : ℕ) → j < length netlist.inputs → k < length netlist.inputs → k ≢ j → get_or netlist.inputs k 0 ≢ get_or netlist.inputs j 0
  inputs_apart j k hj hk ne e =
      elim (cases_lt j k) [
        | inl lt ↦ sound.inputs_apart j k lt hk (sym e)
        | inr le ↦ sound.inputs_apart k j (omega arith) hj e
      ]

  entered_by : (n j : ℕ) → j < length netlist.inputs → get_or netlist.inputs j 0 ≡ n → input_drives netlist m.inputs n ≡ strong (logic_at old.forced j) ∷ []
  entered_by n j hj e =
      filter_map_one (λ (k : ℕ). cond (eqb (get_or netlist.inputs k 0) n) (Some (get_or m.inputs k (strong Z))) None) 0 (length netlist.inputs) j (strong (logic_at old.forced j)) (omega arith) (omega arith)
      (some_if (eqb (get_or netlist.inputs j 0) n) (get_or m.inputs j (strong Z)) (eq-eqb _ _ e) ∙ ap (λ (s : Signal). Some s) (input_is j hj))
      (λ k low high ne. none_if (eqb (get_or netlist.inputs k 0) n) (get_or m.inputs k (strong Z)) (ne-eqb _ _ (λ same. inputs_apart j k hj (omega arith) ne (same ∙ sym e))))

  not_entered : (n : ℕ) → IsNoInput netlist n → input_drives netlist m.inputs n ≡ []
  not_entered n no_input =
      filter_map_none (λ (k : ℕ). cond (eqb (get_or netlist.inputs k 0) n) (Some (get_or m.inputs k (strong Z))) None) 0 (length netlist.inputs)
      (λ k low high. none_if (eqb (get_or netlist.inputs k 0) n) (get_or m.inputs k (strong Z)) (ne-eqb _ _ (no_input k (omega arith))))

  net_signal : (n : ℕ) → n < length netlist.names → combined (element_drives netlist elements n ++ input_drives netlist m.inputs n) ≡ strong (logic_at new.seen n)
  net_signal n h =
      elim (at_some_place (λ (k : ℕ). (gate_at netlist k).output) (length netlist.gates) n) [
        | inl gate ↦
            let value : logic_at new.seen n ≡ logic_at old.targets gate.0 = subst (λ (i : ℕ). logic_at new.seen i ≡ logic_at old.targets gate.0) gate.1.1 (passed.driven gate.0 gate.1.0) in
            rw (driven_by n gate.0 gate.1.0 gate.1.1, value) refl
        | inr no_driver ↦
            elim (at_some_place (λ (k : ℕ). get_or netlist.inputs k 0) (length netlist.inputs) n) [
              | inl input ↦
                  let value : logic_at new.seen n ≡ logic_at old.forced input.0 = subst (λ (i : ℕ). logic_at new.seen i ≡ logic_at old.forced input.0) input.1.1 (passed.entered input.0 input.1.0) in
                  rw (undriven n no_driver, entered_by n input.0 input.1.0 input.1.1, value) refl
              | inr no_input ↦
                  let value : logic_at new.seen n ≡ Z = passed.idle n h no_driver no_input ∙ shown.idle n h no_driver no_input in
                  rw (undriven n no_driver, not_entered n no_input, value) refl
            ]
      ]

  nets : List NetState
  nets = map (settled_net netlist elements m.inputs) (range_with_len 0 (length netlist.names))

  at_net : (n : ℕ) → n < length netlist.names → get_or nets n fresh_net ≡ net_of (logic_at new.seen n)
  unfolding nets
  at_net n h =
      get_or-map-range_with_len (settled_net netlist elements m.inputs) 0 (length netlist.names) n n fresh_net h (omega arith) ∙ ap (λ (s : Signal). record { settled = s; seen = s }) (net_signal n h)

  target_is : (k : ℕ) → k < length netlist.gates → target_of (gate_at netlist k) nets ≡ strong (logic_at new.targets k)
  target_is k h =
      let gate = gate_at netlist k in
      let in_range = (sound.gates k no_gate h).inputs in
      let pins : map (λ n. reads (get_or nets n fresh_net).seen) gate.inputs ≡ map (logic_at new.seen) gate.inputs = next_pins new.seen nets gate.inputs (λ j lt. at_net (get_or gate.inputs j 0) (in_range j lt)) in
      ap (λ (ps : List Logic). strong (gate_value Nand ps)) pins ∙ ap strong (sym (passed.targets k h))

  next_elements : List ElementState
  next_elements = map (λ k. evaluated m.time (gate_at netlist k) nets (get_or elements k fresh_element)) (range_with_len 0 (length netlist.gates))

  at_next : (k : ℕ) → k < length netlist.gates → get_or next_elements k fresh_element ≡ element_of m.time (logic_at new.outs k) (logic_at new.targets k)
  unfolding next_elements
  at_next k h =
      let f = λ (j : ℕ). evaluated m.time (gate_at netlist j) nets (get_or elements j fresh_element) in
      get_or-map-range_with_len f 0 (length netlist.gates) k k fresh_element h (omega arith)
      ∙ ap (evaluated m.time (gate_at netlist k) nets) (at_element k h)
      ∙ evaluated_element m.time (gate_at netlist k) nets (logic_at old.targets k) (logic_at new.targets k) (target_is k h)
      ∙ ap (λ (xs : List Logic). element_of m.time (logic_at xs k) (logic_at new.targets k)) (sym passed.outs)

  pub pass_shown : AreShown netlist new (pass netlist m)
  unfolding pass evaluate settle nets next_elements elements
  pass_shown = record {
    sizes = passed.sizes;
    elements_len = length-map-range_with_len (λ k. evaluated m.time (gate_at netlist k) nets (get_or elements k fresh_element)) 0 (length netlist.gates);
    elements = at_next;
    nets_len = length-map-range_with_len (settled_net netlist elements m.inputs) 0 (length netlist.names);
    nets = at_net;
    inputs = shown.inputs ∙ ap (map strong) (sym passed.forced);
    idle = λ n h no_driver no_input. passed.idle n h no_driver no_input ∙ shown.idle n h no_driver no_input;
  }

-- ---- what is due

pub due_element : (now : ℕ) (out target : Logic) (b : Bool) → same_logic out target ≡ b → is_due_at now (element_of now out target).due ≡ not b
due_element now out target true e = rw e refl
due_element now out target false e = rw e (le-leb now now (omega arith))

pub due_shown : (netlist : Netlist) (values : Values) (m : Machine) (due : Bool) → AreShown netlist values m → SaysDue due values.outs values.targets (length netlist.gates) → is_due m ≡ due
due_shown netlist values m true shown says =
    let k = says.some refl in
    let here : is_due_at m.time (get_or m.elements k.0 fresh_element).due ≡ true =
    ap (λ (s : ElementState). is_due_at m.time s.due) (shown.elements k.0 k.1.0) ∙ due_element m.time (logic_at values.outs k.0) (logic_at values.targets k.0) false k.1.1 in
    list_any_at (λ (e : ElementState). is_due_at m.time e.due) m.elements k.0 fresh_element (omega (arith, shown.elements_len, k.1.0)) here
due_shown netlist values m false shown says =
    list_any_none (λ (e : ElementState). is_due_at m.time e.due) m.elements
    (λ k d h.
    let lt : k < length netlist.gates = omega (arith, shown.elements_len) in
    let here : is_due_at m.time (get_or m.elements k fresh_element).due ≡ false =
    ap (λ (s : ElementState). is_due_at m.time s.due) (shown.elements k lt) ∙ due_element m.time (logic_at values.outs k) (logic_at values.targets k) true (says.none refl k lt) in
    subst (λ (s : ElementState). is_due_at m.time s.due ≡ false) (get_or_default m.elements k fresh_element d h) here)

pub same_values : (a a' b b' d d' f : List Logic) → a ≡ a' → b ≡ b' → d ≡ d' → values_from a b d f ≡ values_from a' b' d' f
same_values a a' b b' d d' f p q r = rw (p, q, r) refl
