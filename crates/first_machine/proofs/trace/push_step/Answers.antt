use Rattle.std.proofs.Common.{◌≡◌, ℕ, ◌<◌, List, [], ◌++◌, length, get_or, Some, None, ap, ◌∙◌, arith, inl, inr}
use Rattle.std.proofs.lemmas.Bool.{cases_eq}
use Rattle.std.proofs.lemmas.List.{get_or-set_same, get_or-set_other, get_or_default, get_or_read}
use Rattle.level_range.specs.declared.range.Logic.{Logic}
use Rattle.level_range.specs.declared.range.Logic.TheVariants.{X, Zero}
use Rattle.first_machine.specs.Shown.{logic_at}
use Rattle.first_machine.specs.Trace.{output_at, name_of}
use Rattle.first_machine.specs.PrintedPlaces.{line_of}
use Rattle.first_machine.proofs.TraceLemmas.{lines_more, printed_is}
use Rattle.first_machine.proofs.trace.push_step.Goals as goal
use Rattle.first_machine.proofs.trace.push_step.Goals.{In_ok-push_place}

-- the net of the place, as the code reads it
net_is : (c : In_ok-push_place) → get_or c.as_slice-net-items.result.now c.loop-j.j 0 ≡ output_at c.args.netlist.now c.loop-j.j
net_is c = ap (λ (xs : List ℕ). get_or xs c.loop-j.j 0) c.as_slice-net-items.ensures

in_range : (c : In_ok-push_place) → output_at c.args.netlist.now c.loop-j.j < length c.args.netlist.now.names
in_range c =
    let e = ap (λ (xs : List ℕ). length xs) c.as_slice-net-items.ensures in
    c.requires.outputs c.loop-j.j (omega arith)

name_is : (c : In_ok-push_place) → c.as_slice-name.result.now ≡ name_of c.args.netlist.now (output_at c.args.netlist.now c.loop-j.j)
name_is c =
    let e = ap (λ (xs : List (List ℕ)). length xs) c.as_slice.ensures in
    c.as_slice-name.ensures
    ∙ get_or_read c.as_slice.result.now (get_or c.as_slice-net-items.result.now c.loop-j.j 0) c.index-as_slice-net.result (omega (arith, in_range c, net_is c)) c.index-as_slice-net.is []
    ∙ ap (λ (xs : List (List ℕ)). get_or xs (get_or c.as_slice-net-items.result.now c.loop-j.j 0) []) c.as_slice.ensures
    ∙ ap (λ (n : ℕ). get_or c.args.netlist.now.names n []) (net_is c)

value_is : (c : In_ok-push_place) → get_or c.args.seen.now (get_or c.as_slice-net-items.result.now c.loop-j.j 0) Zero ≡ logic_at c.args.seen.now (output_at c.args.netlist.now c.loop-j.j)
value_is c = ap (λ (n : ℕ). get_or c.args.seen.now n Zero) (net_is c) ∙ get_or_default c.args.seen.now (output_at c.args.netlist.now c.loop-j.j) Zero X (omega (arith, in_range c))

line_pushed : (c : In_ok-push_place) → c.push_place.new.text.items ≡ c.loop-j.text.items ++ line_of (get_or c.loop-j.printed c.loop-j.j None) c.args.tick (name_of c.args.netlist.now (output_at c.args.netlist.now c.loop-j.j)) (logic_at c.args.seen.now (output_at c.args.netlist.now c.loop-j.j))
line_pushed c =
    c.in_ok-push_place.ensures
    ∙ ap (λ (name : List ℕ). c.loop-j.text.items ++ line_of (get_or c.loop-j.printed c.loop-j.j None) c.args.tick name (get_or c.args.seen.now (get_or c.as_slice-net-items.result.now c.loop-j.j 0) Zero)) (name_is c)
    ∙ ap (λ (v : Logic). c.loop-j.text.items ++ line_of (get_or c.loop-j.printed c.loop-j.j None) c.args.tick (name_of c.args.netlist.now (output_at c.args.netlist.now c.loop-j.j)) v) (value_is c)

pub loop-j-preserved : goal.loop-j-preserved
loop-j-preserved c =
    let net = get_or c.as_slice-net-items.result.now c.loop-j.j 0 in
    let value = get_or c.args.seen.now net Zero in
    let fits : c.loop-j.j < length c.loop-j.printed = let e = ap (λ (xs : List ℕ). length xs) c.as_slice-net-items.ensures in omega arith in
    record {
      lines = λ m last step. lines_more c.args.netlist.now c.args.tick c.args.seen.now c.args.printed.now c.loop-j.printed m last c.loop-j.j c.args.text.now.items c.loop-j.text.items c.push_place.new.text.items step (in_range c) (c.loop-j.invariant.rest c.loop-j.j (omega arith)) (c.loop-j.invariant.lines m last step) (line_pushed c);
      done = λ k lt. elim (cases_eq k c.loop-j.j) [
        | inl e ↦ rw e (get_or-set_same c.loop-j.printed c.loop-j.j (Some value) None fits ∙ ap (λ (v : Logic). Some v) (value_is c))
        | inr ne ↦ get_or-set_other c.loop-j.printed c.loop-j.j k (Some value) None ne ∙ c.loop-j.invariant.done k (omega arith)
      ];
      rest = λ k le. get_or-set_other c.loop-j.printed c.loop-j.j k (Some value) None (λ e. absurd (omega (arith, e))) ∙ c.loop-j.invariant.rest k (omega arith);
    }

pub returns-clause-text : goal.returns-clause-text
returns-clause-text c m last step =
    let e = ap (λ (xs : List ℕ). length xs) c.as_slice-net-items.ensures in
    let at : c.loop-j.j ≡ length c.args.netlist.now.outputs = omega arith in
    rw (← at) (c.loop-j.invariant.lines m last step)

pub returns-clause-printed : goal.returns-clause-printed
returns-clause-printed c m last step =
    let e = ap (λ (xs : List ℕ). length xs) c.as_slice-net-items.ensures in
    printed_is c.args.netlist.now c.args.tick c.args.seen.now c.args.printed.now c.loop-j.printed m last step (omega arith) c.requires.outputs (λ k h. c.loop-j.invariant.done k (omega arith))
