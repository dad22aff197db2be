-- What an instance adds step by step.
use Rattle.std.proofs.Common.{◌≡◌, ℕ, suc, ◌+◌, ◌-◌, ◌<◌, ◌≤◌, List, ◌∷◌, length, get_or, drop, sym, ap, ◌∙◌, arith}
use Rattle.std.proofs.lemmas.List.{drop_more, drop_all}
use Rattle.netlist_plan.specs.declared.plan.PlanStep.{PlanStep}
use Rattle.netlist_plan.specs.declared.plan.ModulePlan.{ModulePlan}
use Rattle.netlist_plan.specs.Additions.{Additions, joined}
use Rattle.netlist_plan.specs.Flattening.{no_plan}
use Rattle.flattening.specs.declared.delays.ItemDelays.{ItemDelays}
use Rattle.flattening.specs.declared.places.Place.{Place}
use Rattle.flattening.specs.Spelled.{Inner, additions, nets_additions, place_of, plan_in, step_additions, steps_additions}
use Rattle.flattening.proofs.Joining.{joined-count, joined-joined, joined-nothing}

-- ---- steps

module _ (inner : Inner) (plans : List ModulePlan) (delays : ItemDelays) (at : Place) where
  -- what is there, and what steps add to it
  abbrev pub with_steps : Additions → List PlanStep → Additions
  with_steps seen steps = joined seen (steps_additions inner plans delays at (length seen.net_names) steps)

  pub with_one : (seen more : Additions) (step : PlanStep) (steps : List PlanStep) → more ≡ joined seen (step_additions inner plans delays at (length seen.net_names) step)
      → with_steps seen (step ∷ steps) ≡ with_steps more steps
  with_one seen more step steps is =
      let first = step_additions inner plans delays at (length seen.net_names) step in
      let later = λ (next : ℕ). steps_additions inner plans delays at next steps in
      sym (joined-joined seen first (later (length seen.net_names + length first.net_names)))
      ∙ ap (λ (a : Additions). joined a (later (length seen.net_names + length first.net_names))) (sym is)
      ∙ ap (λ (next : ℕ). joined more (later next)) (sym (joined-count seen first more is))

  pub steps_more : (steps : List PlanStep) (i : ℕ) (step : PlanStep) (seen more whole : Additions) → i < length steps → step ≡ get_or steps i step
      → more ≡ joined seen (step_additions inner plans delays at (length seen.net_names) step)
      → with_steps seen (drop i steps) ≡ whole → with_steps more (drop (i + 1) steps) ≡ whole
  steps_more steps i step seen more whole lt is one all =
      sym (with_one seen more step (drop (i + 1) steps) one)
      ∙ sym (ap (with_steps seen) (drop_more steps i step lt ∙ ap (λ (s : PlanStep). s ∷ drop (i + 1) steps) (sym is)))
      ∙ all

  pub steps_all : (steps : List PlanStep) (i : ℕ) (seen whole : Additions) → length steps ≤ i → with_steps seen (drop i steps) ≡ whole → seen ≡ whole
  steps_all steps i seen whole le all =
      sym (joined-nothing seen)
      ∙ sym (ap (with_steps seen) (drop_all i steps le))
      ∙ all

-- ---- instances

module _ (plans : List ModulePlan) (delays : ItemDelays) (levels master : ℕ) (prefix : List ℕ) (outside : List (ℕ × ℕ)) (old : Additions) where
  abbrev next : ℕ
  next = length old.net_names

  -- no level is left
  pub none_left : levels ≡ 0 → old ≡ joined old (additions plans delays levels master prefix outside next)
  unfolding additions
  none_left e =
      sym (joined-nothing old)
      ∙ ap (λ (n : ℕ). joined old (additions plans delays n master prefix outside next)) (sym e)

  one_less : (levels ≡ 0 → ⊥) → levels ≡ suc (levels - 1)
  one_less some = omega (arith, some)

  -- a module without a plan adds nothing
  pub without_plan : (levels ≡ 0 → ⊥) → plan_in plans master ≡ no_plan → old ≡ joined old (additions plans delays levels master prefix outside next)
  unfolding additions
  without_plan some none =
      sym (joined-nothing old)
      ∙ ap (λ (plan : ModulePlan). joined old (of_plan plan)) (sym none)
      ∙ ap (λ (n : ℕ). joined old (additions plans delays n master prefix outside next)) (sym (one_less some))
    where
      of_plan : ModulePlan → Additions
      of_plan plan =
          let at = place_of plan.nets master prefix outside next in
          let own = nets_additions delays at plan in
          joined own (steps_additions (additions plans delays (levels - 1)) plans delays at (next + length own.net_names) plan.steps)

  -- the nets of a module, and then its steps
  pub with_plan : (levels ≡ 0 → ⊥) → (plan : ModulePlan) (at : Place) (nets whole : Additions) → plan_in plans master ≡ plan
      → at ≡ place_of plan.nets master prefix outside next → nets ≡ joined old (nets_additions delays at plan)
      → whole ≡ with_steps (additions plans delays (levels - 1)) plans delays at nets plan.steps
      → whole ≡ joined old (additions plans delays levels master prefix outside next)
  unfolding additions
  with_plan some plan at nets whole is place own all =
      all
      ∙ ap (λ (n : ℕ). joined nets (steps at n)) (joined-count old (nets_additions delays at plan) nets own)
      ∙ ap (λ (a : Additions). joined a (steps at (next + length (nets_additions delays at plan).net_names))) own
      ∙ joined-joined old (nets_additions delays at plan) (steps at (next + length (nets_additions delays at plan).net_names))
      ∙ ap (λ (p : Place). joined old (joined (nets_additions delays p plan) (steps p (next + length (nets_additions delays p plan).net_names)))) place
      ∙ ap (λ (p : ModulePlan). joined old (of_plan p)) (sym is)
      ∙ ap (λ (n : ℕ). joined old (additions plans delays n master prefix outside next)) (sym (one_less some))
    where
      steps : Place → ℕ → Additions
      steps p n = steps_additions (additions plans delays (levels - 1)) plans delays p n plan.steps

      of_plan : ModulePlan → Additions
      of_plan plan =
          let at = place_of plan.nets master prefix outside next in
          let own = nets_additions delays at plan in
          joined own (steps_additions (additions plans delays (levels - 1)) plans delays at (next + length own.net_names) plan.steps)
