-- An island of one net without links.
use Rattle.std.proofs.Common.{◌≡◌, ℕ, true, false, cond, length, List, [], get_or, slice_set, arith, ap, sym, ◌∙◌, subst, length-set, get_or-set_same}
use Rattle.std.specs.Prelude.{zip, All}
use Rattle.std.proofs.lemmas.List.{get_or_default}
use Rattle.level_range.specs.declared.range.Conduct.{Conduct}
use Rattle.level_range.specs.declared.range.Kind.{Kind}
use Rattle.level_range.specs.Signal.{Signal, IsSignal, undriven}
use Rattle.net_settle.specs.declared.shape.Link.{Link}
use Rattle.net_settle.specs.ByLevels.{settled_signals}
use Rattle.net_settle.specs.Charges.{charged_signals, prefer_driven, prefer_driven_signals, signal_at, excludes_zero}
use Rattle.net_settle.specs.Settling.{AreSettled}
use Rattle.net_settle.proofs.Laws.{settled-are_settled}
use Rattle.net_settle.proofs.Listed.{settled-alone, one_list, one_signal, chosen_signals-all}

-- no links, no switches
without_links : (links : List Link) (on : List Conduct) (own : List Signal) → links ≡ [] → All IsSignal own → settled_signals (zip links on) own ≡ own
without_links links on own none signals = ap (λ l. settled_signals (zip l on) own) none ∙ settled-alone own signals

-- one signal for the driven one of the net, whose own signal is read
pub first_driven : (own before : List Signal) (s : Signal) → length own ≡ 1 → length before ≡ 1 → s ≡ get_or own 0 s → slice_set before 0 s ≡ own
first_driven own before s a b is =
    one_list _ _ (length-set before 0 s ∙ b) a
    (get_or-set_same before 0 s undriven (omega arith) ∙ is ∙ get_or_default own 0 s undriven (omega arith))

-- the signal that is read in a list of one
pub read_one : (xs : List Signal) (s : Signal) → length xs ≡ 1 → s ≡ get_or xs 0 s → s ≡ get_or xs 0 undriven
read_one xs s one is = is ∙ get_or_default xs 0 s undriven (omega arith)

module _ (links : List Link) (on : List Conduct) (own driven : List Signal) (first : Signal)
    (none : links ≡ [])
    (one : length own ≡ 1)
    (driven_is : driven ≡ own)
    (first_is : first ≡ get_or driven 0 first)
    (first_signal : IsSignal first) where
  first_own : first ≡ signal_at own 0
  first_own = read_one driven first (ap length driven_is ∙ one) first_is ∙ ap (λ l. signal_at l 0) driven_is

  own_settled : settled_signals (zip links on) own ≡ own
  own_settled = without_links links on own none (one_signal own first one first_signal first_own)

  pub alone-driven : driven ≡ settled_signals (zip links on) own
  alone-driven = driven_is ∙ sym own_settled

  pub alone-driven_settled : AreSettled (zip links on) own driven
  alone-driven_settled =
      subst (AreSettled (zip links on) own) (sym alone-driven)
      (settled-are_settled (zip links on) own (one_signal own first one first_signal first_own))

  module _ (kinds : List Kind) (levels : List ℕ) (charges charged : List Signal) (second : Signal)
      (charged_is : charged ≡ charged_signals kinds levels own charges driven)
      (one_charged : length charged ≡ 1)
      (second_is : second ≡ get_or charged 0 second)
      (second_signal : IsSignal second) where
    charged_settled : settled_signals (zip links on) charged ≡ charged
    charged_settled =
        without_links links on charged none
        (one_signal charged second one_charged second_signal (read_one charged second one_charged second_is))

    all_chosen : (out : List Signal) → length out ≡ 1 → get_or out 0 undriven ≡ prefer_driven (signal_at own 0) (signal_at charged 0) →
        out ≡ prefer_driven_signals (settled_signals (zip links on) own) (settled_signals (zip links on) (charged_signals kinds levels own charges (settled_signals (zip links on) own)))
    all_chosen out one_out here =
        chosen_signals-all own charged out (one_out ∙ sym one) (λ n lt.
        let z : n ≡ 0 = omega arith in
        let P : ℕ → Type 0 = λ i. get_or out i undriven ≡ prefer_driven (signal_at own i) (signal_at charged i) in
        subst P (sym z) here)
        ∙ ap (λ d. prefer_driven_signals d charged) (sym own_settled)
        ∙ ap (prefer_driven_signals (settled_signals (zip links on) own)) (sym charged_settled)
        ∙ ap (λ s. prefer_driven_signals (settled_signals (zip links on) own) (settled_signals (zip links on) s))
        (charged_is ∙ ap (charged_signals kinds levels own charges) alone-driven)

    pub alone-excluded : (out : List Signal) → excludes_zero first ≡ true → out ≡ slice_set charged 0 first →
        out ≡ prefer_driven_signals (settled_signals (zip links on) own) (settled_signals (zip links on) (charged_signals kinds levels own charges (settled_signals (zip links on) own)))
    alone-excluded out excluded is =
        all_chosen out (ap length is ∙ length-set charged 0 first ∙ one_charged)
        (ap (λ l. get_or l 0 undriven) is ∙ get_or-set_same charged 0 first undriven (omega arith) ∙ first_own
        ∙ ap (λ b. cond b (signal_at own 0) (signal_at charged 0)) (sym excluded ∙ ap excludes_zero first_own))

    pub alone-second : (out : List Signal) → excludes_zero first ≡ false → out ≡ charged →
        out ≡ prefer_driven_signals (settled_signals (zip links on) own) (settled_signals (zip links on) (charged_signals kinds levels own charges (settled_signals (zip links on) own)))
    alone-second out excluded is =
        all_chosen out (ap length is ∙ one_charged)
        (ap (λ l. get_or l 0 undriven) is
        ∙ ap (λ b. cond b (signal_at own 0) (signal_at charged 0)) (sym excluded ∙ ap excludes_zero first_own))

    pub alone-charged_settled : AreSettled (zip links on) (charged_signals kinds levels own charges driven) charged
    alone-charged_settled =
        subst (λ (own : List Signal). AreSettled (zip links on) own charged) charged_is
        (subst (AreSettled (zip links on) charged) charged_settled
        (settled-are_settled (zip links on) charged
        (one_signal charged second one_charged second_signal (read_one charged second one_charged second_is))))

    driven-all : (out : List Signal) → length out ≡ 1 → get_or out 0 undriven ≡ prefer_driven (signal_at driven 0) (signal_at charged 0) → out ≡ prefer_driven_signals driven charged
    driven-all out one_out here =
        chosen_signals-all driven charged out (one_out ∙ sym (ap length driven_is ∙ one)) (λ n lt.
        let z : n ≡ 0 = (let e = ap length driven_is in omega arith) in
        let P : ℕ → Type 0 = λ i. get_or out i undriven ≡ prefer_driven (signal_at driven i) (signal_at charged i) in
        subst P (sym z) here)

    first_driven_is : first ≡ signal_at driven 0
    first_driven_is = first_own ∙ ap (λ l. signal_at l 0) (sym driven_is)

    pub chosen-excluded : (out : List Signal) → excludes_zero first ≡ true → out ≡ slice_set charged 0 first → out ≡ prefer_driven_signals driven charged
    chosen-excluded out excluded is =
        driven-all out (ap length is ∙ length-set charged 0 first ∙ one_charged)
        (ap (λ l. get_or l 0 undriven) is ∙ get_or-set_same charged 0 first undriven (omega arith) ∙ first_driven_is
        ∙ ap (λ b. cond b (signal_at driven 0) (signal_at charged 0)) (sym excluded ∙ ap excludes_zero first_driven_is))

    pub chosen-second : (out : List Signal) → excludes_zero first ≡ false → out ≡ charged → out ≡ prefer_driven_signals driven charged
    chosen-second out excluded is =
        driven-all out (ap length is ∙ one_charged)
        (ap (λ l. get_or l 0 undriven) is
        ∙ ap (λ b. cond b (signal_at driven 0) (signal_at charged 0)) (sym excluded ∙ ap excludes_zero first_driven_is))
