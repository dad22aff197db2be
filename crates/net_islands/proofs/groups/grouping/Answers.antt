use Rattle.std.proofs.Common.{◌≡◌, ℕ, Bool, List, length, sym, ap, subst, ◌∙◌}
use Rattle.std.specs.Prelude.{IfOk, Result}
use Rattle.std.specs.List.{All}
use Rattle.std.proofs.lemmas.Result.{IfOk-weaker}
use Rattle.flat_net.specs.declared.parts.Element.{Element}
use Rattle.flat_net.specs.declared.parts.Parts.{Parts}
use Rattle.flat_net.specs.Elements.{switch_ends}
use Rattle.flat_net.specs.Soundness.{AreJoined, AreDriven, AreLinked}
use Rattle.net_islands.specs.declared.parts.NetClass.{NetClass}
use Rattle.net_islands.specs.declared.parts.Grouping.{Grouping}
use Rattle.net_islands.specs.Leasts.{AreRoots, leasts}
use Rattle.net_islands.specs.Islands.{HasNets, grouping, grouping_by}
use Rattle.net_islands.specs.Parts.{AreIslands, ArePlaces, Gives}
use Rattle.net_islands.proofs.ItemLemmas.{AreBelow-ends}
use Rattle.net_islands.proofs.LeastLemmas.{AreGroups-leasts}
use Rattle.net_islands.proofs.Numbers.{AreRoots-groups}
use Rattle.net_islands.proofs.Laws.{Gives-islands, Gives-places, Gives-joined, Gives-drives, Gives-links}
use Rattle.net_islands.proofs.groups.grouping.Goals as goal

leasts-length : (count : ℕ) (elements : List Element) → All (HasNets count) elements → length (leasts count (switch_ends elements)) ≡ count
leasts-length count elements valid = (AreGroups-leasts count (switch_ends elements) (AreBelow-ends count elements valid)).all

leasts-roots : (count : ℕ) (elements : List Element) → All (HasNets count) elements → AreRoots (leasts count (switch_ends elements))
leasts-roots count elements valid =
    AreRoots-groups count (switch_ends elements) (leasts count (switch_ends elements)) (AreGroups-leasts count (switch_ends elements) (AreBelow-ends count elements valid))

whole : {E : Type 0} (r : Result Grouping E) (slice : List ℕ) (nets : List NetClass) (elements : List Element) (resistive : List Bool) →
    slice ≡ leasts (length nets) (switch_ends elements) → IfOk r (λ (g : Grouping). g ≡ grouping_by slice nets elements resistive) → IfOk r (λ (g : Grouping). g ≡ grouping nets elements resistive)
whole r slice nets elements resistive e h = subst (λ (l : List ℕ). IfOk r (λ (g : Grouping). g ≡ grouping_by l nets elements resistive)) e h

law : {E : Type 0} (r : Result Grouping E) (P : Parts → Type 0) (nets : List NetClass) (elements : List Element) (resistive : List Bool) →
    Gives P nets elements (grouping nets elements resistive) → IfOk r (λ (g : Grouping). g ≡ grouping nets elements resistive) → IfOk r (Gives P nets elements)
law r P nets elements resistive gives h =
    IfOk-weaker r (λ (g : Grouping). g ≡ grouping nets elements resistive) (Gives P nets elements)
    (λ g e. subst (λ (x : Grouping). Gives P nets elements x) (sym e) gives) h

pub leasts-requires : goal.leasts-requires
leasts-requires c = AreBelow-ends (length c.args.nets.now) c.args.elements.now c.requires.elements

pub grouping_by-requires-clause-all : goal.grouping_by-requires-clause-all
grouping_by-requires-clause-all c =
    ap length (c.as_slice.ensures.value ∙ c.in_ok-leasts.ensures) ∙ leasts-length (length c.args.nets.now) c.args.elements.now c.requires.elements

pub grouping_by-requires-clause-roots : goal.grouping_by-requires-clause-roots
grouping_by-requires-clause-roots c =
    subst (λ (l : List ℕ). AreRoots l) (sym (c.as_slice.ensures.value ∙ c.in_ok-leasts.ensures)) (leasts-roots (length c.args.nets.now) c.args.elements.now c.requires.elements)

pub returns-clause-value : goal.returns-clause-value
returns-clause-value c =
    whole c.grouping_by.result c.as_slice.result.now c.args.nets.now c.args.elements.now c.args.resistive.now
    (c.as_slice.ensures.value ∙ c.in_ok-leasts.ensures) c.grouping_by.ensures

pub returns-clause-islands : goal.returns-clause-islands
returns-clause-islands c =
    law c.grouping_by.result AreIslands c.args.nets.now c.args.elements.now c.args.resistive.now
    (Gives-islands c.args.nets.now c.args.elements.now c.args.resistive.now c.requires.elements)
    (whole c.grouping_by.result c.as_slice.result.now c.args.nets.now c.args.elements.now c.args.resistive.now
    (c.as_slice.ensures.value ∙ c.in_ok-leasts.ensures) c.grouping_by.ensures)

pub returns-clause-places : goal.returns-clause-places
returns-clause-places c =
    law c.grouping_by.result ArePlaces c.args.nets.now c.args.elements.now c.args.resistive.now
    (Gives-places c.args.nets.now c.args.elements.now c.args.resistive.now c.requires.elements)
    (whole c.grouping_by.result c.as_slice.result.now c.args.nets.now c.args.elements.now c.args.resistive.now
    (c.as_slice.ensures.value ∙ c.in_ok-leasts.ensures) c.grouping_by.ensures)

pub returns-clause-joined : goal.returns-clause-joined
returns-clause-joined c =
    law c.grouping_by.result AreJoined c.args.nets.now c.args.elements.now c.args.resistive.now
    (Gives-joined c.args.nets.now c.args.elements.now c.args.resistive.now c.requires.elements)
    (whole c.grouping_by.result c.as_slice.result.now c.args.nets.now c.args.elements.now c.args.resistive.now
    (c.as_slice.ensures.value ∙ c.in_ok-leasts.ensures) c.grouping_by.ensures)

pub returns-clause-drives : goal.returns-clause-drives
returns-clause-drives c =
    law c.grouping_by.result AreDriven c.args.nets.now c.args.elements.now c.args.resistive.now
    (Gives-drives c.args.nets.now c.args.elements.now c.args.resistive.now c.requires.elements)
    (whole c.grouping_by.result c.as_slice.result.now c.args.nets.now c.args.elements.now c.args.resistive.now
    (c.as_slice.ensures.value ∙ c.in_ok-leasts.ensures) c.grouping_by.ensures)

pub returns-clause-links : goal.returns-clause-links
returns-clause-links c =
    law c.grouping_by.result AreLinked c.args.nets.now c.args.elements.now c.args.resistive.now
    (Gives-links c.args.nets.now c.args.elements.now c.args.resistive.now c.requires.elements)
    (whole c.grouping_by.result c.as_slice.result.now c.args.nets.now c.args.elements.now c.args.resistive.now
    (c.as_slice.ensures.value ∙ c.in_ok-leasts.ensures) c.grouping_by.ensures)
