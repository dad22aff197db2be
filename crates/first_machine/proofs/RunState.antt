-- What the loop over the steps keeps, and how a step goes on.
use Rattle.std.proofs.Common.{◌≡◌, ℕ, zero, suc, ◌+◌, ◌-◌, ◌<◌, ◌≤◌, true, false, List, [], ◌∷◌, ◌++◌, length, get_or, map, take, replicate, Option, Some, None, refl, sym, ap, ◌∙◌, subst, append_assoc, arith, inl, inr}
use Rattle.std.specs.Option.{option_map, option_map_or}
use Rattle.std.proofs.lemmas.Bool.{cases_lt, cases_eq}
use Rattle.std.proofs.lemmas.List.{append-nil, get_or_default, length-replicate, get_or-replicate, length-map}
use Rattle.level_range.specs.Signal.{Signal, signal_text}
use Rattle.level_range.specs.declared.range.Logic.{Logic}
use Rattle.level_range.specs.declared.range.Logic.TheVariants.{X, Z}
use Rattle.gate_net.specs.Sound.{IsSound, IsLawful, AreNets}
use Rattle.gate_net.specs.declared.netlist.Netlist.{Netlist}
use Rattle.gate_net.specs.declared.stimulus.ValueLine.{ValueLine}
use Rattle.gate_net.specs.declared.stimulus.Stimulus.{Stimulus}
use Rattle.first_machine.specs.Machine.{Machine, strong, fresh_element, fresh_net, start}
use Rattle.first_machine.specs.Pass.{is_due}
use Rattle.first_machine.specs.Run.{begun, value_of, last_values, in_force, next_tick, Course, over, after_step, step, run_from, run}
use Rattle.first_machine.specs.Trace.{trace, trace_from, step_text, printed_after}
use Rattle.first_machine.specs.Shown.{Values, values_from, AreShown}
use Rattle.first_machine.specs.Places.{IsPlace, AreEarlier, AreUpTo, tick_after, IsQuiet, FindsValues, placed_value}
use Rattle.first_machine.specs.Progress.{IsAt}
use Rattle.first_machine.specs.PrintedPlaces.{ArePrinted, IsStep}
use Rattle.first_machine.proofs.RunLemmas.{begun_shown, forced_are, values_up_to, lt-ltb, ge-ltb}

map_replicate : (n : ℕ) (v : Logic) → replicate n (strong v) ≡ map strong (replicate n v)
map_replicate zero v = refl
map_replicate (suc n) v = ap (λ (ss : List Signal). strong v ∷ ss) (map_replicate n v)

abbrev pub nothing : Option Logic
nothing = None

nothing_at : (n j : ℕ) → get_or (replicate n nothing) j nothing ≡ nothing
nothing_at zero j = refl
nothing_at (suc n) zero = refl
nothing_at (suc n) (suc j) = nothing_at n j

-- the start
module _ (limit : ℕ) (netlist : Netlist) (stimulus : Stimulus) where
  abbrev start_values : Values
  start_values = values_from (replicate (length netlist.gates) X) (replicate (length netlist.gates) X) (replicate (length netlist.names) Z) (replicate (length netlist.inputs) Z)

  start_shown : AreShown netlist start_values (start netlist)
  unfolding start
  start_shown = record {
    sizes = record {
      outs = length-replicate (length netlist.gates) X;
      targets = length-replicate (length netlist.gates) X;
      seen = length-replicate (length netlist.names) Z;
      forced = length-replicate (length netlist.inputs) Z;
    };
    elements_len = length-replicate (length netlist.gates) fresh_element;
    elements = λ k h. rw (get_or-replicate (length netlist.gates) k fresh_element fresh_element h, get_or-replicate (length netlist.gates) k X X h) refl;
    nets_len = length-replicate (length netlist.names) fresh_net;
    nets = λ n h. rw (get_or-replicate (length netlist.names) n fresh_net fresh_net h, get_or-replicate (length netlist.names) n Z X h) refl;
    inputs = map_replicate (length netlist.inputs) Z;
    idle = λ n h no_driver no_input. get_or-replicate (length netlist.names) n Z X h;
  }

  pub starts : (outs targets seen : List Logic) (printed : List (Option Logic)) (text : List ℕ) → outs ≡ replicate (length netlist.gates) X → targets ≡ replicate (length netlist.gates) X → seen ≡ replicate (length netlist.names) Z
      → printed ≡ replicate (length netlist.outputs) None → text ≡ [] → IsAt limit netlist stimulus outs targets seen printed text 0
  unfolding run trace
  starts outs targets seen printed text o t s p e =
      rw (o, t, s, p, e) record {
        machine = start netlist;
        last = [];
        bound = stimulus.end + 1;
        forced = replicate (length netlist.inputs) Z;
        shown = start_shown;
        quiet = λ k h. rw (get_or-replicate (length netlist.gates) k X X h) refl;
        printed_last = λ j. sym (ap (option_map (λ v. signal_text (strong v))) (nothing_at (length netlist.outputs) j));
        in_bound = omega arith;
        text_rest = refl;
        oscillates = refl;
      }

-- a step
module _ (limit : ℕ) (netlist : Netlist) (stimulus : Stimulus) (outs targets seen : List Logic) (printed : List (Option Logic)) (text : List ℕ) (tick : ℕ) (before : IsAt limit netlist stimulus outs targets seen printed text tick) (within : tick ≤ stimulus.end) where
  abbrev pub after : Machine
  after = step limit netlist (begun tick (in_force netlist stimulus tick) before.machine)

  suc_bound : (b : ℕ) → stimulus.end < tick + b → b ≡ suc (b - 1)
  suc_bound b h = omega arith

  oscillating : (b : ℕ) → is_due after ≡ true → run_from (suc b) limit netlist stimulus tick before.machine ≡ record { ended = []; oscillated = Some tick }
  unfolding run_from
  oscillating b due = rw due refl

  going_on : (b : ℕ) → is_due after ≡ false → run_from (suc b) limit netlist stimulus tick before.machine ≡ after_step after (option_map_or (λ next. run_from b limit netlist stimulus next after) (next_tick stimulus tick after) over)
  unfolding run_from
  going_on b due = rw due refl

  course_is : (course : Course) → ((b : ℕ) → run_from (suc b) limit netlist stimulus tick before.machine ≡ course) → run_from before.bound limit netlist stimulus tick before.machine ≡ course
  course_is course h = ap (λ (b : ℕ). run_from b limit netlist stimulus tick before.machine) (suc_bound before.bound before.in_bound) ∙ h (before.bound - 1)

  -- the step oscillates
  pub text_oscillated : is_due after ≡ true → text ≡ trace netlist (run limit netlist stimulus).ended
  text_oscillated due =
      let course = course_is (record { ended = []; oscillated = Some tick }) (λ b. oscillating b due) in
      sym (append-nil text) ∙ ap (λ (c : Course). text ++ trace_from netlist before.last c.ended) (sym course) ∙ before.text_rest

  pub tick_oscillated : is_due after ≡ true → Some tick ≡ (run limit netlist stimulus).oscillated
  tick_oscillated due =
      let course = course_is (record { ended = []; oscillated = Some tick }) (λ b. oscillating b due) in
      ap (λ (c : Course). c.oscillated) (sym course) ∙ before.oscillates

  -- the step is the last
  pub text_over : (new : List ℕ) → is_due after ≡ false → next_tick stimulus tick after ≡ None → new ≡ text ++ step_text netlist before.last after → new ≡ trace netlist (run limit netlist stimulus).ended
  text_over new due none is =
      let course = course_is (after_step after over) (λ b. going_on b due ∙ ap (λ (o : Option ℕ). after_step after (option_map_or (λ next. run_from b limit netlist stimulus next after) o over)) none) in
      is ∙ ap (λ (xs : List ℕ). text ++ xs) (sym (append-nil (step_text netlist before.last after))) ∙ ap (λ (c : Course). text ++ trace_from netlist before.last c.ended) (sym course) ∙ before.text_rest

  pub tick_over : is_due after ≡ false → next_tick stimulus tick after ≡ None → None ≡ (run limit netlist stimulus).oscillated
  tick_over due none =
      let course = course_is (after_step after over) (λ b. going_on b due ∙ ap (λ (o : Option ℕ). after_step after (option_map_or (λ next. run_from b limit netlist stimulus next after) o over)) none) in
      ap (λ (c : Course). c.oscillated) (sym course) ∙ before.oscillates

  -- the run goes on
  pub goes_on : (outs' targets' seen' forced' : List Logic) (printed' : List (Option Logic)) (new : List ℕ) (next : ℕ) → is_due after ≡ false → next_tick stimulus tick after ≡ Some next → tick < next
      → AreShown netlist (values_from outs' targets' seen' forced') after → IsQuiet netlist (values_from outs' targets' seen' forced')
      → new ≡ text ++ step_text netlist before.last after → ArePrinted printed' (printed_after netlist after)
      → IsAt limit netlist stimulus outs' targets' seen' printed' new next
  goes_on outs' targets' seen' forced' printed' new next due some later shown quiet is printed_is =
      let rest = run_from (before.bound - 1) limit netlist stimulus next after in
      let course : run_from before.bound limit netlist stimulus tick before.machine ≡ after_step after rest =
      ap (λ (b : ℕ). run_from b limit netlist stimulus tick before.machine) (suc_bound before.bound before.in_bound) ∙ going_on (before.bound - 1) due
      ∙ ap (λ (o : Option ℕ). after_step after (option_map_or (λ n. run_from (before.bound - 1) limit netlist stimulus n after) o over)) some in
      record {
        machine = after;
        last = printed_after netlist after;
        bound = before.bound - 1;
        forced = forced';
        shown = shown;
        quiet = quiet;
        printed_last = printed_is;
        in_bound = omega (arith, before.in_bound);
        text_rest =
            ap (λ (xs : List ℕ). xs ++ trace_from netlist (printed_after netlist after) rest.ended) is
            ∙ append_assoc text (step_text netlist before.last after) (trace_from netlist (printed_after netlist after) rest.ended)
            ∙ ap (λ (c : Course). text ++ trace_from netlist before.last c.ended) (sym course) ∙ before.text_rest;
        oscillates = ap (λ (c : Course). c.oscillated) (sym course) ∙ before.oscillates;
      }

-- the machine that begins a step, as the code keeps it
pub begun_with : (limit : ℕ) (netlist : Netlist) (stimulus : Stimulus) (outs targets seen : List Logic) (printed : List (Option Logic)) (text : List ℕ) (tick : ℕ) (before : IsAt limit netlist stimulus outs targets seen printed text tick)
    (places : List (Option ℕ)) (count : ℕ) (values : List Logic) → FindsValues netlist stimulus places → AreUpTo stimulus.lines tick count → values ≡ last_values [] (take count stimulus.lines) → length places ≡ length netlist.inputs
    → AreShown netlist (values_from outs targets seen (map (placed_value values) places)) (begun tick (in_force netlist stimulus tick) before.machine)
begun_with limit netlist stimulus outs targets seen printed text tick before places count values finds up_to is len =
    let forced = map (placed_value values) places in
    let forced_is : map strong forced ≡ in_force netlist stimulus tick = ap (λ (vs : List Logic). map strong (map (placed_value vs) places)) is ∙ finds tick count up_to in
    subst (λ (inputs : List Signal). AreShown netlist (values_from outs targets seen forced) (begun tick inputs before.machine)) forced_is
    (begun_shown netlist outs targets seen before.forced forced before.machine tick before.shown before.quiet (length-map places (placed_value values) ∙ len))

-- the lines before the next step's time
pub earlier_next : (netlist : Netlist) (stimulus : Stimulus) (tick count : ℕ) → IsLawful netlist stimulus → tick < stimulus.end → AreUpTo stimulus.lines tick count → AreEarlier stimulus.lines (tick_after stimulus.lines count stimulus.end) count
earlier_next netlist stimulus tick count lawful h up_to =
    elim (cases_lt count (length stimulus.lines)) [
      | inl lt ↦
          rw (lt-ltb count (length stimulus.lines) lt) record {
            few = up_to.few;
            before = λ j hj. omega (arith, up_to.before j hj, up_to.after count (omega arith) lt);
            after = λ j le hj. elim (cases_eq j count) [
              | inl e ↦ rw e (omega arith)
              | inr ne ↦ omega (arith, lawful.rising count j (omega arith) hj)
            ];
          }
      | inr le ↦
          rw (ge-ltb count (length stimulus.lines) le) record {
            few = up_to.few;
            before = λ j hj. omega (arith, up_to.before j hj);
            after = λ j le' hj. absurd (omega arith);
          }
    ]

pub later_next : (netlist : Netlist) (stimulus : Stimulus) (tick count : ℕ) → IsLawful netlist stimulus → tick < stimulus.end → AreUpTo stimulus.lines tick count → (tick < tick_after stimulus.lines count stimulus.end) × (tick_after stimulus.lines count stimulus.end ≤ stimulus.end)
later_next netlist stimulus tick count lawful h up_to =
    elim (cases_lt count (length stimulus.lines)) [
      | inl lt ↦ rw (lt-ltb count (length stimulus.lines) lt) (up_to.after count (omega arith) lt, lawful.ended count 0 (omega (arith, length-map stimulus.lines (λ (line : ValueLine). line.time))))
      | inr le ↦ rw (ge-ltb count (length stimulus.lines) le) (h, omega arith)
    ]

-- what a step's end shows
pub step_is : (limit : ℕ) (netlist : Netlist) (stimulus : Stimulus) (outs targets seen : List Logic) (printed : List (Option Logic)) (text : List ℕ) (tick : ℕ) (before : IsAt limit netlist stimulus outs targets seen printed text tick) (within : tick ≤ stimulus.end) (values : Values)
    → AreShown netlist values (after limit netlist stimulus outs targets seen printed text tick before within) → (after limit netlist stimulus outs targets seen printed text tick before within).time ≡ tick → IsStep netlist tick values.seen printed (after limit netlist stimulus outs targets seen printed text tick before within) before.last
step_is limit netlist stimulus outs targets seen printed text tick before within values shown time = record { time = time; nets = shown.nets; texts = before.printed_last }

-- ---- the places of the inputs

pub listed_in_range : (netlist : Netlist) (stimulus : Stimulus) → IsSound netlist → IsLawful netlist stimulus → AreNets (length netlist.names) stimulus.inputs
listed_in_range netlist stimulus sound lawful k h =
    let w = lawful.known k 0 h in
    let is : get_or netlist.inputs w.0 0 ≡ get_or stimulus.inputs k 0 = get_or_default netlist.inputs w.0 0 (get_or stimulus.inputs k 0) w.1 ∙ w.2 in
    subst (λ (n : ℕ). n < length netlist.names) is (sound.inputs w.0 w.1)

pub finds_values : (netlist : Netlist) (stimulus : Stimulus) (by_net places : List (Option ℕ)) → IsSound netlist → IsLawful netlist stimulus
    → ((n : ℕ) → n < length netlist.names → IsPlace stimulus.inputs (length stimulus.inputs) n (get_or by_net n None)) → places ≡ map (λ n. get_or by_net n None) netlist.inputs → FindsValues netlist stimulus places
finds_values netlist stimulus by_net places sound lawful found is tick count up_to =
    rw is (forced_are stimulus.inputs (last_values [] (take count stimulus.lines)) by_net netlist.inputs lawful.apart (λ k h. found (get_or netlist.inputs k 0) (sound.inputs k h))
    ∙ ap (λ (vs : List Logic). map (λ n. strong (value_of stimulus.inputs vs n)) netlist.inputs) (sym (values_up_to stimulus.lines tick count up_to)))
