use Rattle.std.proofs.Common.{◌≡◌, ◌+◌, List, [], ◌∷◌, ◌++◌, sum_by, take, sym, ap, ◌∙◌, arith}
use Rattle.std.proofs.lemmas.List.{take_all}
use Rattle.std.proofs.lemmas.List.Sums.{sum_by-append, sum_by-cons}
use Rattle.module_parts.specs.declared.parts.ModulePart.{ModulePart}
use Rattle.netlist_plan.specs.declared.plan.PlanStep.{PlanStep}
use Rattle.netlist_plan.specs.Unnamed.{unnamed_count}
use Rattle.module_plan.specs.Surroundings.{given}
use Rattle.module_plan.proofs.Walks.{made_more, next_more}
use Rattle.module_plan.proofs.Steps.{parts_steps, parts_steps-one, parts_steps-push}
use Rattle.module_plan.proofs.parts.plan_steps.Goals as goal

pub loop-part-preserved : goal.loop-part-preserved
loop-part-preserved c =
    let parts = c.args.parts.now in
    let i = c.loop-part.part-index in
    let part = c.part-item.result in
    let next = c.loop-part.next in
    let count = λ (ps : List ModulePart). sum_by unnamed_count ps in
    let here : next ≡ 0 + count (take i parts) = omega (arith, c.loop-part.invariant.next) in
    let behind : c.in_ok-next.next ≡ next + count (part ∷ []) = omega (arith, c.in_ok-next.ensures.next, sum_by-cons unnamed_count part []) in
    record {
      made = λ meant forms.
          let from = given c.args.scope.now c.args.nets.now c.args.items.now meant in
          made_more (parts_steps from) count (parts_steps-push from) 0 parts i part c.loop-part-test.true c.part-item.is next here
          [] c.loop-part.steps c.push_part.new.steps (c.loop-part.invariant.made meant forms)
          (c.in_ok-next.ensures.steps meant forms ∙ ap (λ (steps : List PlanStep). c.loop-part.steps ++ steps) (sym (parts_steps-one from next part)));
      next =
          omega (
            arith,
            next_more count (λ ps p. sum_by-append unnamed_count ps (p ∷ [])) 0 parts i part c.loop-part-test.true c.part-item.is next c.in_ok-next.next here behind,
          );
    }

pub returns : goal.returns
returns c = λ meant forms.
    c.loop-part.invariant.made meant forms
    ∙ ap (λ (parts : List ModulePart). parts_steps (given c.args.scope.now c.args.nets.now c.args.items.now meant) 0 parts)
    (take_all c.loop-part.part-index c.args.parts.now c.loop-part-test.false)
