use Rattle.std.proofs.Common.{◌≡◌, ◌<◌, ℕ, List, sym, ap, subst, ◌∙◌}
use Rattle.std.specs.Prelude.{IfOk}
use Rattle.std.specs.List.{All}
use Rattle.net_settle.specs.declared.shape.Link.{Link}
use Rattle.flat_net.specs.declared.parts.Drive.{Drive}
use Rattle.flat_net.specs.declared.parts.Island.{Island}
use Rattle.net_islands.specs.declared.parts.NetClass.{NetClass}
use Rattle.net_islands.specs.Islands.{HasNets, item_islands}
use Rattle.net_islands.proofs.ItemLemmas.{members-below, drives-below, links-below}
use Rattle.net_islands.proofs.islands.islands.Goals as goal

below_in : {X : Type 0} (count : ℕ) (slice items made : List (ℕ × X)) → slice ≡ items → items ≡ made → All (λ (x : ℕ × X). x.0 < count) made → All (λ (x : ℕ × X). x.0 < count) slice
below_in {X = X} count slice items made e f h = subst (λ (xs : List (ℕ × X)). All (λ (x : ℕ × X). x.0 < count) xs) (sym (e ∙ f)) h

pub item_islands-requires-clause-nets : goal.item_islands-requires-clause-nets
item_islands-requires-clause-nets c =
    below_in c.args.count _ _ _ c.as_slice.ensures.value c.in_ok-nets.ensures
    (members-below c.args.count c.args.numbers.now c.args.places.now c.requires.within c.args.nets.now)

pub item_islands-requires-clause-drives : goal.item_islands-requires-clause-drives
item_islands-requires-clause-drives c =
    below_in c.args.count _ _ _ c.as_slice-2.ensures.value c.in_ok-drives.ensures
    (drives-below c.args.count c.args.numbers.now c.args.places.now c.requires.within c.args.elements.now
    (subst (λ (n : ℕ). All (HasNets n) c.args.elements.now) (sym c.requires.numbers) c.requires.elements))

pub item_islands-requires-clause-links : goal.item_islands-requires-clause-links
item_islands-requires-clause-links c =
    below_in c.args.count _ _ _ c.as_slice-3.ensures.value c.in_ok-links.ensures
    (links-below c.args.count c.args.numbers.now c.args.places.now c.requires.within c.args.elements.now c.args.resistive.now
    (subst (λ (n : ℕ). All (HasNets n) c.args.elements.now) (sym c.requires.numbers) c.requires.elements))

same_items : (count : ℕ) (nets nets' : List (ℕ × (ℕ × NetClass))) (pins pins' : List (ℕ × Drive)) (switches switches' : List (ℕ × (ℕ × Link))) →
    nets ≡ nets' → pins ≡ pins' → switches ≡ switches' → item_islands count nets pins switches ≡ item_islands count nets' pins' switches'
same_items count nets nets' pins pins' switches switches' a b c =
    ap (λ (xs : List (ℕ × (ℕ × NetClass))). item_islands count xs pins switches) a
    ∙ ap (λ (xs : List (ℕ × Drive)). item_islands count nets' xs switches) b
    ∙ ap (λ (xs : List (ℕ × (ℕ × Link))). item_islands count nets' pins' xs) c

pub returns : goal.returns
returns c =
    subst (λ (islands : List Island). IfOk c.item_islands.result (λ v. v.items ≡ islands))
    (same_items c.args.count _ _ _ _ _ _
    (c.as_slice.ensures.value ∙ c.in_ok-nets.ensures) (c.as_slice-2.ensures.value ∙ c.in_ok-drives.ensures) (c.as_slice-3.ensures.value ∙ c.in_ok-links.ensures))
    c.item_islands.ensures
