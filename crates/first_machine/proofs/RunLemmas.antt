-- Steps and times of a run.
use Rattle.std.proofs.Common.{◌≡◌, ◌≢◌, ℕ, zero, suc, ◌+◌, ◌<◌, ◌≤◌, min, Bool, true, false, not, cond, ◌⊎◌, List, [], ◌∷◌, ◌++◌, length, get_or, map, take, Option, Some, None, refl, sym, ap, ◌∙◌, subst, arith, inl, inr, ltb, leb}
use Rattle.std.specs.Prelude.{◌&&◌, filter}
use Rattle.std.specs.Option.{option_map}
use Rattle.std.specs.List.{filter_map}
use Rattle.std.proofs.lemmas.Bool.{cases_lt, cases_eq, le-leb, true≢false, ltb-true, eq-eqb}
use Rattle.std.proofs.lemmas.Bool.Decides.{leb_tells}
use Rattle.std.proofs.lemmas.List.{length-map, get_or-map, get_or_default, length-append, get_or_append_left, get_or_at}
use Rattle.std.proofs.lemmas.List.Folds.{list_any_at}
use Rattle.level_range.specs.declared.range.Logic.{Logic}
use Rattle.level_range.specs.declared.range.Logic.TheVariants.{X, Z}
use Rattle.gate_net.specs.Sound.{IsLawful, AreApart, times_of}
use Rattle.gate_net.specs.declared.netlist.Netlist.{Netlist}
use Rattle.gate_net.specs.declared.stimulus.ValueLine.{ValueLine}
use Rattle.gate_net.specs.declared.stimulus.Stimulus.{Stimulus}
use Rattle.first_machine.specs.Machine.{Machine, ElementState, Pending, strong, fresh_element, element_at}
use Rattle.first_machine.specs.Pass.{is_due, is_due_at}
use Rattle.first_machine.specs.Run.{begun, value_of, last_values, values_at, due_times, lesser, least, next_tick}
use Rattle.first_machine.specs.Shown.{Values, values_from, logic_at, same_logic, element_of, AreShown}
use Rattle.first_machine.proofs.PassLemmas.{ne-eqb, due_element}
use Rattle.first_machine.specs.Places.{IsPlace, placed_value, time_at, AreUpTo, tick_after, IsQuiet}

-- ---- values in force

pub last_values-take : (before : List Logic) (lines : List ValueLine) (n : ℕ) (d : ValueLine) → n < length lines → last_values before (take (n + 1) lines) ≡ (get_or lines n d).values
last_values-take before [] n d h = absurd (omega arith)
last_values-take before (line ∷ lines) zero d h = refl
last_values-take before (line ∷ lines) (suc n) d h =
    let more : suc n + 1 ≡ suc (n + 1) = omega arith in
    rw more (last_values-take line.values lines n d (omega arith))

pub filter_take : {X : Type 0} (p : X → Bool) (xs : List X) (n : ℕ) → ((j : ℕ) (d : X) → j < n → j < length xs → p (get_or xs j d) ≡ true) → ((j : ℕ) (d : X) → n ≤ j → j < length xs → p (get_or xs j d) ≡ false) → filter p xs ≡ take n xs
filter_take p [] zero front back = refl
filter_take p [] (suc n) front back = refl
filter_take p (x ∷ xs) zero front back =
    rw (back 0 x (omega arith) (omega arith)) (filter_take p xs zero (λ j d lt h. absurd (omega arith)) (λ j d le h. back (suc j) d (omega arith) (omega arith)))
filter_take p (x ∷ xs) (suc n) front back =
    rw (front 0 x (omega arith) (omega arith)) (ap (λ (ys : List _). x ∷ ys) (filter_take p xs n (λ j d lt h. front (suc j) d (omega arith) (omega arith)) (λ j d le h. back (suc j) d (omega arith) (omega arith))))

time_of_line : (lines : List ValueLine) (j : ℕ) (d : ValueLine) → j < length lines → (get_or lines j d).time ≡ time_at lines j
time_of_line lines j d h = sym (get_or-map (λ (l : ValueLine). l.time) lines j d 0 h)

gt-leb : (a b : ℕ) → b < a → leb a b ≡ false
gt-leb a b h = elim (leb_tells a b) [
  | inl w ↦ absurd (omega (arith, w.1))
  | inr w ↦ w.0
]

pub values_up_to : (lines : List ValueLine) (tick count : ℕ) → AreUpTo lines tick count → values_at lines tick ≡ last_values [] (take count lines)
values_up_to lines tick count up_to =
    ap (last_values []) (filter_take (λ (line : ValueLine). leb line.time tick) lines count
    (λ j d lt h. le-leb _ _ (rw (time_of_line lines j d h) (up_to.before j lt)))
    (λ j d le h. gt-leb _ _ (rw (time_of_line lines j d h) (up_to.after j le h))))

value_of_none : (listed : List ℕ) (values : List Logic) (n : ℕ) → ((j : ℕ) → j < length listed → get_or listed j 0 ≢ n) → value_of listed values n ≡ Z
value_of_none [] values n h = refl
value_of_none (m ∷ ms) [] n h = rw (ne-eqb m n (h 0 (omega arith))) (value_of_none ms [] n (λ j lt. h (suc j) (omega arith)))
value_of_none (m ∷ ms) (v ∷ vs) n h = rw (ne-eqb m n (h 0 (omega arith))) (value_of_none ms vs n (λ j lt. h (suc j) (omega arith)))

past_nil : (k : ℕ) → X ≡ logic_at [] k
past_nil zero = refl
past_nil (suc k) = refl

value_of_some : (listed : List ℕ) (values : List Logic) (n p : ℕ) → AreApart listed → p < length listed → get_or listed p 0 ≡ n → value_of listed values n ≡ logic_at values p
value_of_some [] values n p apart h e = absurd (omega arith)
value_of_some (m ∷ ms) [] n zero apart h e = rw (eq-eqb m n e) refl
value_of_some (m ∷ ms) (v ∷ vs) n zero apart h e = rw (eq-eqb m n e) refl
value_of_some (m ∷ ms) [] n (suc p) apart h e =
    rw (ne-eqb m n (λ s. apart 0 (suc p) (omega arith) h (s ∙ sym e))) (value_of_some ms [] n p (λ j k lt l. apart (suc j) (suc k) (omega arith) (omega arith)) (omega arith) e)
value_of_some (m ∷ ms) (v ∷ vs) n (suc p) apart h e =
    rw (ne-eqb m n (λ s. apart 0 (suc p) (omega arith) h (s ∙ sym e))) (value_of_some ms vs n p (λ j k lt l. apart (suc j) (suc k) (omega arith) (omega arith)) (omega arith) e)

pub value_placed : (listed : List ℕ) (values : List Logic) (n : ℕ) (place : Option ℕ) → AreApart listed → IsPlace listed (length listed) n place → placed_value values place ≡ value_of listed values n
value_placed listed values n None apart h = sym (value_of_none listed values n h)
value_placed listed values n (Some p) apart h = sym (value_of_some listed values n p apart h.0 h.1)

pub forced_are : (listed : List ℕ) (values : List Logic) (by_net : List (Option ℕ)) (inputs : List ℕ) → AreApart listed → ((k : ℕ) → k < length inputs → IsPlace listed (length listed) (get_or inputs k 0) (get_or by_net (get_or inputs k 0) None))
    → map strong (map (placed_value values) (map (λ n. get_or by_net n None) inputs)) ≡ map (λ n. strong (value_of listed values n)) inputs
forced_are listed values by_net [] apart places = refl
forced_are listed values by_net (n ∷ ns) apart places =
    let here : strong (placed_value values (get_or by_net n None)) ≡ strong (value_of listed values n) = ap strong (value_placed listed values n (get_or by_net n None) apart (places 0 (omega arith))) in
    let rest = forced_are listed values by_net ns apart (λ k lt. places (suc k) (omega arith)) in
    rw (here, rest) refl

-- ---- the machine between steps

pub quiet_from : (netlist : Netlist) (values : Values) (m : Machine) → AreShown netlist values m → is_due m ≡ false → IsQuiet netlist values
quiet_from netlist values m shown none k h = by_test (same_logic (logic_at values.outs k) (logic_at values.targets k)) refl
  where
    due_at : (b : Bool) → same_logic (logic_at values.outs k) (logic_at values.targets k) ≡ b → is_due_at m.time (element_at m k).due ≡ not b
    due_at b e = ap (λ (s : ElementState). is_due_at m.time s.due) (shown.elements k h) ∙ due_element m.time (logic_at values.outs k) (logic_at values.targets k) b e

    by_test : (b : Bool) → same_logic (logic_at values.outs k) (logic_at values.targets k) ≡ b → same_logic (logic_at values.outs k) (logic_at values.targets k) ≡ true
    by_test true e = e
    by_test false e =
        absurd (true≢false (sym (list_any_at (λ (s : ElementState). is_due_at m.time s.due) m.elements k fresh_element (omega (arith, shown.elements_len)) (due_at false e)) ∙ none))

filter_map_nothing : {X Y : Type 0} (f : X → Option Y) (xs : List X) → ((k : ℕ) (d : X) → k < length xs → f (get_or xs k d) ≡ None) → filter_map f xs ≡ []
filter_map_nothing f [] h = refl
filter_map_nothing f (x ∷ xs) h = rw (h 0 x (omega arith)) (filter_map_nothing f xs (λ k d lt. h (suc k) d (omega arith)))

quiet_element : (now : ℕ) (out target : Logic) → same_logic out target ≡ true → element_of now out target ≡ record { out = strong out; due = None }
quiet_element now out target e = rw e refl

pub no_due_times : (netlist : Netlist) (values : Values) (m : Machine) → AreShown netlist values m → IsQuiet netlist values → due_times m ≡ []
no_due_times netlist values m shown quiet =
    filter_map_nothing (λ (e : ElementState). option_map (λ (p : Pending). p.at) e.due) m.elements
    (λ k d h.
    let lt : k < length netlist.gates = omega (arith, shown.elements_len) in
    let here : get_or m.elements k d ≡ record { out = strong (logic_at values.outs k); due = None } =
    get_or_default m.elements k d fresh_element h ∙ shown.elements k lt ∙ quiet_element m.time (logic_at values.outs k) (logic_at values.targets k) (quiet k lt) in
    ap (λ (e : ElementState). option_map (λ (p : Pending). p.at) e.due) here)

pub begun_shown : (netlist : Netlist) (outs targets seen forced now : List Logic) (m : Machine) (tick : ℕ) → AreShown netlist (values_from outs targets seen forced) m → IsQuiet netlist (values_from outs targets seen forced) → length now ≡ length netlist.inputs
    → AreShown netlist (values_from outs targets seen now) (begun tick (map strong now) m)
begun_shown netlist outs targets seen forced now m tick shown quiet len = record {
  sizes = record { outs = shown.sizes.outs; targets = shown.sizes.targets; seen = shown.sizes.seen; forced = len };
  elements_len = shown.elements_len;
  elements = λ k h. shown.elements k h ∙ quiet_element m.time (logic_at outs k) (logic_at targets k) (quiet k h) ∙ sym (quiet_element tick (logic_at outs k) (logic_at targets k) (quiet k h));
  nets_len = shown.nets_len;
  nets = shown.nets;
  inputs = refl;
  idle = shown.idle;
}

-- ---- the next tick

pub filter_none : {X : Type 0} (p : X → Bool) (xs : List X) → ((j : ℕ) (d : X) → j < length xs → p (get_or xs j d) ≡ false) → filter p xs ≡ []
filter_none p [] h = refl
filter_none p (x ∷ xs) h = rw (h 0 x (omega arith)) (filter_none p xs (λ j d lt. h (suc j) d (omega arith)))

min_lesser : (k x : ℕ) (o : Option ℕ) → k ≤ x → lesser k o ≡ k → min k (lesser x o) ≡ k
min_lesser k x None h e = omega arith
min_lesser k x (Some y) h e = omega arith

-- no number of the list that passes is less
lower : (p : ℕ → Bool) (xs : List ℕ) (k : ℕ) → ((j : ℕ) → j < length xs → p (get_or xs j 0) ≡ true → k ≤ get_or xs j 0) → lesser k (least (filter p xs)) ≡ k
lower p [] k bounds = refl
lower p (x ∷ xs) k bounds = by_test (lower p xs k (λ j lt. bounds (suc j) (omega arith))) (p x) refl
  where
    by_test : lesser k (least (filter p xs)) ≡ k → (b : Bool) → p x ≡ b → lesser k (least (cond (p x) (x ∷ filter p xs) (filter p xs))) ≡ k
    by_test rest true e = rw e (min_lesser k x (least (filter p xs)) (bounds 0 (omega arith) e) rest)
    by_test rest false e = rw e rest

lesser_some : (x k : ℕ) (o : Option ℕ) → o ≡ Some k → lesser x o ≡ min x k
lesser_some x k o e = rw e refl

pub least_filter : (p : ℕ → Bool) (xs : List ℕ) (k i : ℕ) → i < length xs → get_or xs i 0 ≡ k → p k ≡ true → ((j : ℕ) → j < length xs → p (get_or xs j 0) ≡ true → k ≤ get_or xs j 0) → least (filter p xs) ≡ Some k
least_filter p [] k i h e passes bounds = absurd (omega arith)
least_filter p (x ∷ xs) k zero h e passes bounds =
    let here : p x ≡ true = ap p e ∙ passes in
    rw here (ap (λ (n : ℕ). Some n) (ap (λ (n : ℕ). lesser n (least (filter p xs))) e ∙ lower p xs k (λ j lt. bounds (suc j) (omega arith))))
least_filter p (x ∷ xs) k (suc i) h e passes bounds = by_test (least_filter p xs k i (omega arith) e passes (λ j lt. bounds (suc j) (omega arith))) (p x) refl
  where
    by_test : least (filter p xs) ≡ Some k → (b : Bool) → p x ≡ b → least (cond (p x) (x ∷ filter p xs) (filter p xs)) ≡ Some k
    by_test rest true t =
        let le : k ≤ x = bounds 0 (omega arith) t in
        let value : lesser x (least (filter p xs)) ≡ k = lesser_some x k (least (filter p xs)) rest ∙ omega arith in
        rw t (ap (λ (n : ℕ). Some n) value)
    by_test rest false t = rw t rest

-- a number of the list, or the one after it
candidate : (times : List ℕ) (end j d : ℕ) → j < length (times ++ end ∷ []) → ((j < length times) × (get_or (times ++ end ∷ []) j d ≡ get_or times j d)) ⊎ ((j ≡ length times) × (get_or (times ++ end ∷ []) j d ≡ end))
candidate times end j d h =
    elim (cases_lt j (length times)) [
      | inl lt ↦ inl (lt, get_or_append_left times (end ∷ []) d j lt)
      | inr le ↦
          let at : length times ≡ j = omega (arith, length-append times (end ∷ [])) in
          inr (sym at, get_or_at times end [] d j at)
    ]

and_left : (a b : Bool) → (a && b) ≡ true → a ≡ true
and_left true b e = refl
and_left false b e = absurd (true≢false (sym e))

and_false : (a b : Bool) → a ≡ false → (a && b) ≡ false
and_false a b e = rw e refl

and_true : (a b : Bool) → a ≡ true → b ≡ true → (a && b) ≡ true
and_true a b e f = rw (e, f) refl

pub ge-ltb : (a b : ℕ) → b ≤ a → ltb a b ≡ false
ge-ltb a b h = gt-leb (suc a) b (omega arith)

pub lt-ltb : (a b : ℕ) → a < b → ltb a b ≡ true
lt-ltb a b h = le-leb (suc a) b (omega arith)

module _ (netlist : Netlist) (stimulus : Stimulus) (lawful : IsLawful netlist stimulus) (m : Machine) (none : due_times m ≡ []) where
  line_count : length (times_of stimulus.lines) ≡ length stimulus.lines
  line_count = length-map stimulus.lines (λ (line : ValueLine). line.time)

  ended_at : (j : ℕ) → j < length stimulus.lines → time_at stimulus.lines j ≤ stimulus.end
  ended_at j h = lawful.ended j 0 (omega (arith, line_count))

  -- after the end there is none
  pub next_tick_end : next_tick stimulus stimulus.end m ≡ None
  next_tick_end =
      rw none (ap least (filter_none (λ t. ltb stimulus.end t && leb t stimulus.end) (times_of stimulus.lines ++ stimulus.end ∷ [])
      (λ j d h. and_false (ltb stimulus.end (get_or (times_of stimulus.lines ++ stimulus.end ∷ []) j d)) (leb (get_or (times_of stimulus.lines ++ stimulus.end ∷ []) j d) stimulus.end) (ge-ltb stimulus.end (get_or (times_of stimulus.lines ++ stimulus.end ∷ []) j d) (elim (candidate (times_of stimulus.lines) stimulus.end j d h) [
        | inl w ↦ rw w.1 (lawful.ended j d w.0)
        | inr w ↦ rw w.1 (omega arith)
      ])))))

  line_bound : (tick count : ℕ) → AreUpTo stimulus.lines tick count → count < length stimulus.lines → (j : ℕ) → j < length stimulus.lines → tick < time_at stimulus.lines j → time_at stimulus.lines count ≤ time_at stimulus.lines j
  line_bound tick count up_to lt j h late =
      elim (cases_lt j count) [
        | inl before ↦ absurd (omega (arith, up_to.before j before))
        | inr from ↦ elim (cases_eq j count) [
          | inl e ↦ rw e (omega arith)
          | inr ne ↦ omega (arith, lawful.rising count j (omega arith) h)
        ]
      ]

  late_at : (tick j x : ℕ) → x ≡ time_at stimulus.lines j → (ltb tick x && leb x stimulus.end) ≡ true → tick < time_at stimulus.lines j
  late_at tick j x e passes = subst (λ (n : ℕ). tick < n) e (ltb-true tick x (and_left (ltb tick x) (leb x stimulus.end) passes))

  -- before the end it is the time of the next line, or the end
  pub next_tick_before : (tick count : ℕ) → tick < stimulus.end → AreUpTo stimulus.lines tick count → next_tick stimulus tick m ≡ Some (tick_after stimulus.lines count stimulus.end)
  next_tick_before tick count h up_to =
      elim (cases_lt count (length stimulus.lines)) [
        | inl lt ↦
            let later : tick < time_at stimulus.lines count = up_to.after count (omega arith) lt in
            rw (none, lt-ltb count (length stimulus.lines) lt) (least_filter (λ t. ltb tick t && leb t stimulus.end) (times_of stimulus.lines ++ stimulus.end ∷ []) (time_at stimulus.lines count) count
            (omega (arith, line_count, length-append (times_of stimulus.lines) (stimulus.end ∷ [])))
            (get_or_append_left (times_of stimulus.lines) (stimulus.end ∷ []) 0 count (omega (arith, line_count)))
            (and_true (ltb tick (time_at stimulus.lines count)) (leb (time_at stimulus.lines count) stimulus.end) (lt-ltb _ _ later) (le-leb _ _ (ended_at count lt)))
            (λ j hj passes. elim (candidate (times_of stimulus.lines) stimulus.end j 0 hj) [
              | inl w ↦ rw w.1 (line_bound tick count up_to lt j (omega (arith, line_count, w.0)) (late_at tick j (get_or (times_of stimulus.lines ++ stimulus.end ∷ []) j 0) w.1 passes))
              | inr w ↦ rw w.1 (ended_at count lt)
            ]))
        | inr le ↦
            rw (none, ge-ltb count (length stimulus.lines) le) (least_filter (λ t. ltb tick t && leb t stimulus.end) (times_of stimulus.lines ++ stimulus.end ∷ []) stimulus.end (length (times_of stimulus.lines))
            (omega (arith, length-append (times_of stimulus.lines) (stimulus.end ∷ [])))
            (get_or_at (times_of stimulus.lines) stimulus.end [] 0 (length (times_of stimulus.lines)) refl)
            (and_true (ltb tick stimulus.end) (leb stimulus.end stimulus.end) (lt-ltb _ _ h) (le-leb _ _ (omega arith)))
            (λ j hj passes. elim (candidate (times_of stimulus.lines) stimulus.end j 0 hj) [
              | inl w ↦
                  let late = late_at tick j (get_or (times_of stimulus.lines ++ stimulus.end ∷ []) j 0) w.1 passes in
                  absurd (omega (arith, up_to.before j (omega (arith, line_count, w.0)), late))
              | inr w ↦ rw w.1 (omega arith)
            ]))
      ]
