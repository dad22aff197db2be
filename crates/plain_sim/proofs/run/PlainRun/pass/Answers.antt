use Rattle.std.proofs.Common.{◌≡◌, ◌++◌, ℕ, List, length, true, arith, refl, ap, sym, subst, ◌∙◌}
use Rattle.std.specs.Vec.{with_items}
use Rattle.std.proofs.lemmas.List.{with_items_is}
use Rattle.level_range.specs.Signal.{Signal}
use Rattle.cell_step.specs.declared.states.CellState.{CellState}
use Rattle.machine.specs.Machine.{Machine}
use Rattle.machine.specs.Pass.{pass}
use Rattle.plain_sim.specs.Lists.{AreElements, AreIslands, HasRoom}
use Rattle.plain_sim.specs.Due.{AreSoon, AreDueTimes}
use Rattle.plain_sim.specs.Plain.{PlainMachine, with_machine}
use Rattle.plain_sim.specs.Inside.{machine_of, plain_of}
use Rattle.plain_sim.specs.Phases.{ripe, islands_after, elements_after}
use Rattle.plain_sim.proofs.Passes.{pass-whole}
use Rattle.plain_sim.proofs.Times.{soon-after}
use Rattle.plain_sim.proofs.run.PlainRun.pass.Goals as goal

pub follow-requires-clause-elements : goal.follow-requires-clause-elements
follow-requires-clause-elements g c =
    let r = c.self.inside in
    let kept = with_items_is r.elements c.pass_over.new.elements (let a = c.pass_over.auto.elements in let b = c.as_mut_slice.ensures.len in omega arith) in
    subst (AreElements r.flat.now.parts) (sym (c.as_slice-2.ensures.value ∙ kept)) c.pass_over.ensures.element_fits

pub follow-requires-clause-islands : goal.follow-requires-clause-islands
follow-requires-clause-islands g c =
    let r = c.self.inside in
    let held = with_items_is r.islands c.pass_over.new.islands (let a = c.pass_over.auto.islands in let b = c.as_mut_slice-2.ensures.len in omega arith) in
    subst (AreIslands r.flat.now.parts) (sym (c.as_slice-3.ensures.value ∙ held)) c.pass_over.ensures.island_fits

pub follow-requires-clause-soon_elements : goal.follow-requires-clause-soon_elements
follow-requires-clause-soon_elements g c =
    let r = c.self.inside in
    let kept = with_items_is r.elements c.pass_over.new.elements (let a = c.pass_over.auto.elements in let b = c.as_mut_slice.ensures.len in omega arith) in
    let soon = soon-after r.flat.now r.time c.as_slice.result.now r.elements.items r.islands.items c.as_mut_slice.result.now c.as_mut_slice-2.result.now
    c.pass_over.new.elements c.pass_over.new.islands c.self.invariant.time c.self.invariant.soon_elements c.self.invariant.soon_islands
    c.as_mut_slice.ensures.value c.as_mut_slice-2.ensures.value c.pass_over.ensures.islands c.pass_over.ensures.elements in
    subst AreSoon (sym (c.as_slice-2.ensures.value ∙ kept)) soon.0

pub follow-requires-clause-soon_islands : goal.follow-requires-clause-soon_islands
follow-requires-clause-soon_islands g c =
    let r = c.self.inside in
    let held = with_items_is r.islands c.pass_over.new.islands (let a = c.pass_over.auto.islands in let b = c.as_mut_slice-2.ensures.len in omega arith) in
    let soon = soon-after r.flat.now r.time c.as_slice.result.now r.elements.items r.islands.items c.as_mut_slice.result.now c.as_mut_slice-2.result.now
    c.pass_over.new.elements c.pass_over.new.islands c.self.invariant.time c.self.invariant.soon_elements c.self.invariant.soon_islands
    c.as_mut_slice.ensures.value c.as_mut_slice-2.ensures.value c.pass_over.ensures.islands c.pass_over.ensures.elements in
    subst AreSoon (sym (c.as_slice-3.ensures.value ∙ held)) soon.1

pub returns-clause-machine : goal.returns-clause-machine
returns-clause-machine g c =
    let r = c.self.inside in
    let netlist = r.flat.now in
    let t = r.time in
    let done = c.pass_over.new.islands in
    let elements = c.as_mut_slice.ensures.value in
    let settled : done ≡ islands_after netlist t r.forced.items (ripe t r.elements.items) (ripe t r.islands.items) =
    c.pass_over.ensures.islands
    ∙ ap (λ (l : List Signal). islands_after netlist t l (ripe t c.as_mut_slice.result.now) (ripe t c.as_mut_slice-2.result.now)) c.as_slice.ensures.value
    ∙ ap (λ (l : List CellState). islands_after netlist t r.forced.items (ripe t l) (ripe t c.as_mut_slice-2.result.now)) elements
    ∙ ap (λ (l : List CellState). islands_after netlist t r.forced.items (ripe t r.elements.items) (ripe t l)) c.as_mut_slice-2.ensures.value in
    let aimed : c.pass_over.new.elements ≡ elements_after netlist t done (ripe t r.elements.items) =
    c.pass_over.ensures.elements ∙ ap (λ (l : List CellState). elements_after netlist t done (ripe t l)) elements in
    let made = pass-whole netlist c.net_count-nets.ensures.sound.sound (machine_of r) r.forced.items c.self.invariant.forced
    r.elements.items r.islands.items refl c.self.invariant.elements.count c.self.invariant.islands.count
    c.pass_over.new.elements done settled aimed c.saturating_add-self-inside.result c.copy_from_slice.new.self.items
    c.saturating_add-self-inside.ensures (c.copy_from_slice.ensures.items ∙ c.as_slice-4.ensures.value) in
    let of : List CellState → Machine = λ cells. record {
      time = t;
      passes = c.saturating_add-self-inside.result;
      has_passed = true;
      inputs = r.inputs.items;
      last_inputs = c.copy_from_slice.new.self.items;
      cells = cells;
    } in
    let kept = with_items_is r.elements c.pass_over.new.elements (let a = c.pass_over.auto.elements in let b = c.as_mut_slice.ensures.len in omega arith) in
    let held = with_items_is r.islands done (let a = c.pass_over.auto.islands in let b = c.as_mut_slice-2.ensures.len in omega arith) in
    ap (λ (l : List CellState). with_machine (plain_of r) (of (l ++ (with_items r.islands done).items))) kept
    ∙ ap (λ (l : List CellState). with_machine (plain_of r) (of (c.pass_over.new.elements ++ l))) held
    ∙ ap (λ (n : Machine). with_machine (plain_of r) n) made
    ∙ ap (λ (p : PlainMachine). with_machine p (pass p.netlist p.machine)) c.self.view_is

pub invariant_of-self : goal.invariant_of-self
invariant_of-self g c =
    let r = c.self.inside in
    let w = c.self.invariant in
    let parts = r.flat.now.parts in
    let es = c.pass_over.new.elements in
    let is = c.pass_over.new.islands in
    let kept = with_items_is r.elements es (let a = c.pass_over.auto.elements in let b = c.as_mut_slice.ensures.len in omega arith) in
    let held = with_items_is r.islands is (let a = c.pass_over.auto.islands in let b = c.as_mut_slice-2.ensures.len in omega arith) in
    let soon = soon-after r.flat.now r.time c.as_slice.result.now r.elements.items r.islands.items c.as_mut_slice.result.now c.as_mut_slice-2.result.now
    es is w.time w.soon_elements w.soon_islands c.as_mut_slice.ensures.value c.as_mut_slice-2.ensures.value
    c.pass_over.ensures.islands c.pass_over.ensures.elements in
    record {
      elements = subst (AreElements parts) (sym kept) c.pass_over.ensures.element_fits;
      islands = subst (AreIslands parts) (sym held) c.pass_over.ensures.island_fits;
      inputs = w.inputs;
      last_inputs = ap length (c.copy_from_slice.ensures.items ∙ c.as_slice-4.ensures.value) ∙ w.inputs;
      forced = w.forced;
      room = subst (HasRoom parts) (sym c.pass_over.ensures.room) w.room;
      soon_elements = subst AreSoon (sym kept) soon.0;
      soon_islands = subst AreSoon (sym held) soon.1;
      due =
          subst (λ (l : List CellState). AreDueTimes parts l (with_items r.islands is).items c.follow.new.due.times) c.as_slice-2.ensures.value
          (subst (λ (l : List CellState). AreDueTimes parts c.as_slice-2.result.now l c.follow.new.due.times) c.as_slice-3.ensures.value c.follow.ensures.times);
      keys = c.follow.ensures.keys;
      time = w.time;
    }

pub invariant_of-self-2 : goal.invariant_of-self-2
invariant_of-self-2 g c =
    let r = c.self.inside in
    let w = c.self.invariant in
    let parts = r.flat.now.parts in
    let es = c.pass_over.new.elements in
    let is = c.pass_over.new.islands in
    let kept = with_items_is r.elements es (let a = c.pass_over.auto.elements in let b = c.as_mut_slice.ensures.len in omega arith) in
    let held = with_items_is r.islands is (let a = c.pass_over.auto.islands in let b = c.as_mut_slice-2.ensures.len in omega arith) in
    let soon = soon-after r.flat.now r.time c.as_slice.result.now r.elements.items r.islands.items c.as_mut_slice.result.now c.as_mut_slice-2.result.now
    es is w.time w.soon_elements w.soon_islands c.as_mut_slice.ensures.value c.as_mut_slice-2.ensures.value
    c.pass_over.ensures.islands c.pass_over.ensures.elements in
    record {
      elements = subst (AreElements parts) (sym kept) c.pass_over.ensures.element_fits;
      islands = subst (AreIslands parts) (sym held) c.pass_over.ensures.island_fits;
      inputs = w.inputs;
      last_inputs = ap length (c.copy_from_slice.ensures.items ∙ c.as_slice-4.ensures.value) ∙ w.inputs;
      forced = w.forced;
      room = subst (HasRoom parts) (sym c.pass_over.ensures.room) w.room;
      soon_elements = subst AreSoon (sym kept) soon.0;
      soon_islands = subst AreSoon (sym held) soon.1;
      due =
          subst (λ (l : List CellState). AreDueTimes parts l (with_items r.islands is).items c.follow.new.due.times) c.as_slice-2.ensures.value
          (subst (λ (l : List CellState). AreDueTimes parts c.as_slice-2.result.now l c.follow.new.due.times) c.as_slice-3.ensures.value c.follow.ensures.times);
      keys = c.follow.ensures.keys;
      time = w.time;
    }
