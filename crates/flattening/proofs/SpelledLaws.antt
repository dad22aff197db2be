-- What an instance adds by its spelled path is what it adds by its path.
use Rattle.std.proofs.Common.{◌≡◌, ℕ, zero, suc, ◌+◌, List, [], ◌∷◌, ◌++◌, length, None, refl, ap, ◌∙◌}
use Rattle.std.proofs.lemmas.List.{append-nil}
use Rattle.std.proofs.lemmas.Grind.{flat_map-append}
use Rattle.flat_names.specs.Spelling.{Own, Written, part_spelling, path_spelling}
use Rattle.netlist_plan.specs.declared.plan.ElementName.{ElementName}
use Rattle.netlist_plan.specs.declared.plan.ElementName.TheVariants.{Gate, Half, Bit}
use Rattle.netlist_plan.specs.declared.plan.PlanElement.{PlanElement}
use Rattle.netlist_plan.specs.declared.plan.PlanStep.{PlanStep}
use Rattle.netlist_plan.specs.declared.plan.PlanStep.TheVariants.{Element as ElementStep, Instance as InstanceStep}
use Rattle.netlist_plan.specs.declared.plan.ModulePlan.{ModulePlan}
use Rattle.netlist_plan.specs.Additions.{Additions, joined}
use Rattle.netlist_plan.specs.Flattening.{Inner, Place as PathPlace, additions as path_additions, bound_numbers, element_additions as path_element_additions, element_name, flattening, half_name, nets_additions as path_nets_additions, own_name, place_of as path_place_of, step_additions as path_step_additions, steps_additions as path_steps_additions}
use Rattle.flattening.specs.declared.delays.ItemDelays.{ItemDelays}
use Rattle.flattening.specs.declared.places.Place.{Place}
use Rattle.flattening.specs.Delays.{hierarchy}
use Rattle.flattening.specs.Spelled.{Inner as SpelledInner, additions, element_additions, element_text, nets_additions, place_of, plan_in, spelled_name, step_additions, steps_additions}

-- an instance with its path as it is spelled
abbrev spelled : PathPlace → Place
spelled at = record { master = at.master; prefix = path_spelling at.path; numbers = at.numbers; bound = at.bound }

path_longer : (path : List Own) (own : Own) → path_spelling (path ++ own ∷ []) ≡ path_spelling path ++ part_spelling own
path_longer path own =
    flat_map-append part_spelling path (own ∷ [])
    ∙ ap (λ (text : List ℕ). path_spelling path ++ text) (append-nil (part_spelling own))

text_spelled : (path : List Own) (name : ElementName) → element_name path name ≡ element_text (path_spelling path) name
text_spelled path (Gate own) = refl
text_spelled path (Half own on_one) = ap (λ (prefix : List ℕ). spelled_name prefix (Written (half_name on_one)) None) (path_longer path (own_name own))
text_spelled path (Bit number index) = refl

module _ (plans : List ModulePlan) (delays : ItemDelays) where
  nets_spelled : (at : PathPlace) (plan : ModulePlan) → path_nets_additions (hierarchy plans delays) at plan ≡ nets_additions delays (spelled at) plan
  nets_spelled at plan = refl

  element_spelled : (at : PathPlace) (e : PlanElement) → path_element_additions (hierarchy plans delays) at e ≡ element_additions delays (spelled at) e
  element_spelled at e =
      ap (λ (text : List ℕ). record (element_additions delays (spelled at) e) { element_names = text ∷ [] }) (text_spelled at.path e.name)

  place_spelled : (master : ℕ) (path : List Own) (outside : List (ℕ × ℕ)) (next : ℕ) →
      spelled (path_place_of (hierarchy plans delays) master path outside next) ≡ place_of (plan_in plans master).nets master (path_spelling path) outside next
  place_spelled master path outside next = refl

  module _ (inner : Inner) (spelled_inner : SpelledInner)
      (same : (master : ℕ) (path : List Own) (outside : List (ℕ × ℕ)) (next : ℕ) → inner master path outside next ≡ spelled_inner master (path_spelling path) outside next) where
    step_spelled : (at : PathPlace) (next : ℕ) (step : PlanStep) → path_step_additions inner (hierarchy plans delays) at next step ≡ step_additions spelled_inner plans delays (spelled at) next step
    step_spelled at next (ElementStep e) = element_spelled at e
    step_spelled at next (InstanceStep i) =
        let outside = bound_numbers at.numbers (plan_in plans i.master).ports i.connections in
        same i.master (at.path ++ Written i.name ∷ []) outside next
        ∙ ap (λ (prefix : List ℕ). spelled_inner i.master prefix outside next) (path_longer at.path (Written i.name))

    steps_spelled : (at : PathPlace) (next : ℕ) (steps : List PlanStep) → path_steps_additions inner (hierarchy plans delays) at next steps ≡ steps_additions spelled_inner plans delays (spelled at) next steps
    steps_spelled at next [] = refl
    steps_spelled at next (step ∷ steps) =
        let first = step_additions spelled_inner plans delays (spelled at) next step in
        ap (λ (a : Additions). joined a (path_steps_additions inner (hierarchy plans delays) at (next + length a.net_names) steps)) (step_spelled at next step)
        ∙ ap (joined first) (steps_spelled at (next + length first.net_names) steps)

  additions_spelled : (levels master : ℕ) (path : List Own) (outside : List (ℕ × ℕ)) (next : ℕ) →
      path_additions (hierarchy plans delays) levels master path outside next ≡ additions plans delays levels master (path_spelling path) outside next
  unfolding path_additions additions
  additions_spelled zero master path outside next = refl
  additions_spelled (suc levels) master path outside next =
      let at = path_place_of (hierarchy plans delays) master path outside next in
      let own = nets_additions delays (spelled at) (plan_in plans master) in
      ap (joined own) (steps_spelled (path_additions (hierarchy plans delays) levels) (additions plans delays levels) (additions_spelled levels) at (next + length own.net_names) (plan_in plans master).steps)

  -- the whole of a top
  pub flattening_spelled : (top : ℕ) → flattening (hierarchy plans delays) top ≡ additions plans delays 64 top [] [] 0
  flattening_spelled top = additions_spelled 64 top [] [] 0
