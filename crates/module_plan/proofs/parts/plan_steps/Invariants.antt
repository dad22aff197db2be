use Rattle.std.proofs.Common.{◌≡◌, map, sum_by, take}
use Rattle.netlist_plan.specs.Unnamed.{unnamed_count}
use Rattle.netlist_plan.specs.Plan.{Meanings, item_form}
use Rattle.module_plan.specs.Surroundings.{given}
use Rattle.module_plan.proofs.Steps.{parts_steps}
use Rattle.module_plan.proofs.parts.plan_steps.Given as goal

abbrev pub invariant-loop-part : goal.invariant-loop-part
invariant-loop-part l = record {
  made : (meant : Meanings) → l.forms ≡ map (item_form meant) l.items → l.steps ≡ parts_steps (given l.scope l.nets l.items meant) 0 (take l.part-index l.parts);
  next : l.next ≡ sum_by unnamed_count (take l.part-index l.parts);
}
