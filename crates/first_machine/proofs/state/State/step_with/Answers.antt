use Rattle.std.proofs.Common.{◌≡◌, List, map, arith, sym, ◌∙◌, subst}
use Rattle.std.proofs.lemmas.List.{with_items_is}
use Rattle.std.specs.Vec.{with_items}
use Rattle.level_range.specs.declared.range.Logic.{Logic}
use Rattle.first_machine.specs.Places.{placed_value}
use Rattle.first_machine.specs.Shown.{with_forced, AreShown}
use Rattle.first_machine.specs.StateValues.{values_of}
use Rattle.first_machine.proofs.state.State.step_with.Goals as goal
use Rattle.first_machine.proofs.state.State.step_with.Goals.{In_ok-due}

forced_is : (c : In_ok-due) → map (placed_value c.args.values.now) c.args.places.now ≡ (with_items c.args.self.now.forced c.force.new.forced).items
forced_is c = sym (with_items_is c.args.self.now.forced c.force.new.forced (omega arith) ∙ c.force.ensures)

pub returns-clause-shown : goal.returns-clause-shown
returns-clause-shown c m shown =
    c.in_ok-due.ensures.shown m (subst (λ (f : List Logic). AreShown c.args.netlist.now (with_forced (values_of c.args.self.now) f) m) (forced_is c) shown)

pub returns-clause-due : goal.returns-clause-due
returns-clause-due c m shown =
    c.in_ok-due.ensures.due m (subst (λ (f : List Logic). AreShown c.args.netlist.now (with_forced (values_of c.args.self.now) f) m) (forced_is c) shown)
