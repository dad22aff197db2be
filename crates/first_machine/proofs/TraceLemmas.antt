-- The lines of a step, place by place.
use Rattle.std.proofs.Common.{◌≡◌, ℕ, zero, suc, ◌+◌, ◌<◌, List, ◌++◌, length, get_or, Option, Some, None, refl, sym, ap, ◌∙◌, append_assoc, arith, inl, inr}
use Rattle.std.specs.Option.{option_map}
use Rattle.std.specs.List.{flat_map, range_with_len}
use Rattle.std.proofs.lemmas.Bool.{cases_lt}
use Rattle.std.proofs.lemmas.List.{append-nil, get_or_past}
use Rattle.std.proofs.lemmas.List.FromFn.{length-map-range_with_len, get_or-map-range_with_len}
use Rattle.level_range.specs.Signal.{signal_text}
use Rattle.level_range.specs.declared.range.Logic.{Logic}
use Rattle.gate_net.specs.declared.netlist.Netlist.{Netlist}
use Rattle.first_machine.specs.Machine.{Machine, NetState, strong}
use Rattle.first_machine.specs.Shown.{logic_at}
use Rattle.first_machine.specs.Trace.{output_at, name_of, text_at, is_printed, line_at, printed_after}
use Rattle.first_machine.specs.PrintedPlaces.{is_last, line_of, ArePrinted, IsStep}
use Rattle.first_machine.proofs.Signals.{bytes_eq-signal_text}

-- one more place of a range
pub flat_map_range_more : {X : Type 0} (f : ℕ → List X) (a n : ℕ) → flat_map f (range_with_len a (n + 1)) ≡ flat_map f (range_with_len a n) ++ f (a + n)
flat_map_range_more f a zero = append-nil (f a) ∙ ap f (omega arith)
flat_map_range_more f a (suc n) =
    let tail = flat_map_range_more f (a + 1) n in
    let at : (a + 1) + n ≡ a + suc n = omega arith in
    let more : suc n + 1 ≡ suc (n + 1) = omega arith in
    rw more (ap (λ (xs : List _). f a ++ xs) tail ∙ sym (append_assoc (f a) (flat_map f (range_with_len (a + 1) n)) (f ((a + 1) + n))) ∙ ap (λ (k : ℕ). (f a ++ flat_map f (range_with_len (a + 1) n)) ++ f k) at)

is_printed-signal_text : (last : Option Logic) (value : Logic) → is_printed (option_map (λ v. signal_text (strong v)) last) (signal_text (strong value)) ≡ is_last last value
is_printed-signal_text None value = refl
is_printed-signal_text (Some last) value = bytes_eq-signal_text last value

pub text_is : (netlist : Netlist) (tick : ℕ) (seen : List Logic) (printed : List (Option Logic)) (m : Machine) (last : List (Option (List ℕ))) (j : ℕ) → IsStep netlist tick seen printed m last → output_at netlist j < length netlist.names
    → text_at netlist m j ≡ signal_text (strong (logic_at seen (output_at netlist j)))
text_is netlist tick seen printed m last j step h = ap (λ (s : NetState). signal_text s.seen) (step.nets (output_at netlist j) h)

-- the line of a place
pub line_is : (netlist : Netlist) (tick : ℕ) (seen : List Logic) (printed : List (Option Logic)) (m : Machine) (last : List (Option (List ℕ))) (j : ℕ) → IsStep netlist tick seen printed m last → output_at netlist j < length netlist.names
    → line_at netlist m last j ≡ line_of (get_or printed j None) tick (name_of netlist (output_at netlist j)) (logic_at seen (output_at netlist j))
line_is netlist tick seen printed m last j step h =
    rw (text_is netlist tick seen printed m last j step h, step.texts j, step.time, is_printed-signal_text (get_or printed j None) (logic_at seen (output_at netlist j))) refl

-- what was printed last, once each place has its value
pub printed_is : (netlist : Netlist) (tick : ℕ) (seen : List Logic) (printed now : List (Option Logic)) (m : Machine) (last : List (Option (List ℕ))) → IsStep netlist tick seen printed m last
    → length now ≡ length netlist.outputs → ((j : ℕ) → j < length netlist.outputs → output_at netlist j < length netlist.names)
    → ((j : ℕ) → j < length netlist.outputs → get_or now j None ≡ Some (logic_at seen (output_at netlist j))) → ArePrinted now (printed_after netlist m)
printed_is netlist tick seen printed now m last step len in_range values j =
    elim (cases_lt j (length netlist.outputs)) [
      | inl h ↦
          get_or-map-range_with_len (λ (k : ℕ). Some (text_at netlist m k)) 0 (length netlist.outputs) j j None h (omega arith)
          ∙ ap (λ (t : List ℕ). Some t) (text_is netlist tick seen printed m last j step (in_range j h))
          ∙ sym (ap (option_map (λ v. signal_text (strong v))) (values j h))
      | inr h ↦
          get_or_past (printed_after netlist m) j None (omega (arith, length-map-range_with_len (λ (k : ℕ). Some (text_at netlist m k)) 0 (length netlist.outputs)))
          ∙ sym (ap (option_map (λ v. signal_text (strong v))) (get_or_past now j None (omega arith)))
    ]

-- a step of the loop over the places
pub lines_more : (netlist : Netlist) (tick : ℕ) (seen : List Logic) (printed now : List (Option Logic)) (m : Machine) (last : List (Option (List ℕ))) (j : ℕ) (before text new : List ℕ) → IsStep netlist tick seen printed m last
    → output_at netlist j < length netlist.names → get_or now j None ≡ get_or printed j None
    → text ≡ before ++ flat_map (line_at netlist m last) (range_with_len 0 j)
    → new ≡ text ++ line_of (get_or now j None) tick (name_of netlist (output_at netlist j)) (logic_at seen (output_at netlist j))
    → new ≡ before ++ flat_map (line_at netlist m last) (range_with_len 0 (j + 1))
lines_more netlist tick seen printed now m last j before text new step h same so_far is =
    let line : line_at netlist m last j ≡ line_of (get_or now j None) tick (name_of netlist (output_at netlist j)) (logic_at seen (output_at netlist j)) =
    line_is netlist tick seen printed m last j step h ∙ ap (λ (l : Option Logic). line_of l tick (name_of netlist (output_at netlist j)) (logic_at seen (output_at netlist j))) (sym same) in
    let zero_plus : 0 + j ≡ j = omega arith in
    is
    ∙ ap (λ (xs : List ℕ). xs ++ line_of (get_or now j None) tick (name_of netlist (output_at netlist j)) (logic_at seen (output_at netlist j))) so_far
    ∙ append_assoc before (flat_map (line_at netlist m last) (range_with_len 0 j)) (line_of (get_or now j None) tick (name_of netlist (output_at netlist j)) (logic_at seen (output_at netlist j)))
    ∙ ap (λ (xs : List ℕ). before ++ (flat_map (line_at netlist m last) (range_with_len 0 j) ++ xs)) (sym line ∙ ap (line_at netlist m last) (sym zero_plus))
    ∙ ap (λ (xs : List ℕ). before ++ xs) (sym (flat_map_range_more (line_at netlist m last) 0 j))
