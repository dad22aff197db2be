use Rattle.std.proofs.Common.{◌≡◌, ℕ, List, length, sym, ap, subst, ◌∙◌}
use Rattle.std.proofs.lemmas.Bool.Decides.{Decides-at}
use Rattle.net_groups.specs.Joins.{AreBelow, AreGroups}
use Rattle.flat_net.specs.declared.parts.NetPart.{NetPart}
use Rattle.flat_net.specs.declared.parts.Island.{Island}
use Rattle.flat_net.specs.Elements.{switch_ends}
use Rattle.flat_net.specs.Tests.{all_at, is_grouped}
use Rattle.flat_net.proofs.IslandGroups.{Decides-joins}
use Rattle.flat_net.proofs.SwitchEnds.{AreBelow-switch_ends}
use Rattle.flat_net.proofs.grouping.are_joined.Goals as goal

pub groups_of-requires : goal.groups_of-requires
groups_of-requires c =
    let pairs : c.deref.result.now ≡ switch_ends c.args.parts.now.elements = c.deref.ensures.value ∙ c.in_ok-pairs.ensures ∙ ap switch_ends c.as_slice.ensures in
    let below = AreBelow-switch_ends (length c.args.parts.now.nets) c.args.parts.now.udps c.args.parts.now.elements c.requires.elements in
    subst (λ (p : List (ℕ × ℕ)). AreBelow (length c.as_slice-nets.result.now) p) (sym pairs)
    (subst (λ (n : List NetPart). AreBelow (length n) (switch_ends c.args.parts.now.elements)) (sym c.as_slice-nets.ensures) below)

pub returns : goal.returns
returns c =
    let parts = c.args.parts.now in
    let pairs : c.deref.result.now ≡ switch_ends parts.elements = c.deref.ensures.value ∙ c.in_ok-pairs.ensures ∙ ap switch_ends c.as_slice.ensures in
    let one : AreGroups (length c.as_slice-nets.result.now) c.deref.result.now c.in_ok-least.least.items = c.in_ok-least.ensures in
    let two = subst (λ (n : List NetPart). AreGroups (length n) c.deref.result.now c.in_ok-least.least.items) c.as_slice-nets.ensures one in
    let three = subst (λ (p : List (ℕ × ℕ)). AreGroups (length parts.nets) p c.in_ok-least.least.items) pairs two in
    let groups = subst (λ (l : List ℕ). AreGroups (length parts.nets) (switch_ends parts.elements) l) (sym c.deref-2.ensures.value) three in
    let tested : c.are_grouped.result ≡ all_at (is_grouped parts.nets parts.islands c.deref-2.result.now) parts.nets
    = c.are_grouped.ensures
    ∙ ap (λ (n : List NetPart). all_at (is_grouped n c.as_slice-2.result.now c.deref-2.result.now) n) c.as_slice-nets.ensures
    ∙ ap (λ (i : List Island). all_at (is_grouped parts.nets i c.deref-2.result.now) parts.nets) c.as_slice-2.ensures in
    Decides-at c.are_grouped.result (all_at (is_grouped parts.nets parts.islands c.deref-2.result.now) parts.nets) tested
    (Decides-joins parts.nets parts.islands c.deref-2.result.now (switch_ends parts.elements) groups parts.elements c.requires.nets c.requires.islands)
