use Rattle.std.proofs.Common.{◌≡◌, ℕ, List, length, sym, ap, subst, ◌∙◌}
use Rattle.std.specs.Prelude.{Vec, IfOk}
use Rattle.std.proofs.lemmas.List.{length-map}
use Rattle.net_settle.specs.declared.shape.Link.{Link}
use Rattle.flat_net.specs.declared.parts.Drive.{Drive}
use Rattle.flat_net.specs.declared.parts.Island.{Island}
use Rattle.net_islands.specs.declared.parts.NetClass.{NetClass}
use Rattle.net_islands.specs.Keys.{lists_by_key, lists_in}
use Rattle.net_islands.specs.Islands.{list_islands}
use Rattle.net_islands.proofs.KeyLemmas.{length-lists_by_key}
use Rattle.net_islands.proofs.islands.item_islands.Goals as goal

length-of : {X Z : Type 0} (count : ℕ) (items : List (ℕ × X)) (lists slice : List (Vec X Z)) → slice ≡ lists → lists_in lists ≡ lists_by_key count items → length slice ≡ count
length-of {X = X} {Z = Z} count items lists slice e f =
    ap length e ∙ sym (length-map lists (λ (v : Vec X Z). v.items)) ∙ ap length f ∙ length-lists_by_key count items

lists-of : {X Z : Type 0} (count : ℕ) (items : List (ℕ × X)) (lists slice : List (Vec X Z)) → slice ≡ lists → lists_in lists ≡ lists_by_key count items → lists_in slice ≡ lists_by_key count items
lists-of {X = X} {Z = Z} count items lists slice e f = ap (λ (vs : List (Vec X Z)). lists_in vs) e ∙ f

same_islands : (n m : ℕ) (nets nets' : List (List (ℕ × NetClass))) (pins pins' : List (List Drive)) (switches switches' : List (List (ℕ × Link))) →
    n ≡ m → nets ≡ nets' → pins ≡ pins' → switches ≡ switches' → list_islands n nets pins switches ≡ list_islands m nets' pins' switches'
same_islands n m nets nets' pins pins' switches switches' a b c d =
    ap (λ (k : ℕ). list_islands k nets pins switches) a
    ∙ ap (λ (xs : List (List (ℕ × NetClass))). list_islands m xs pins switches) b
    ∙ ap (λ (xs : List (List Drive)). list_islands m nets' xs switches) c
    ∙ ap (λ (xs : List (List (ℕ × Link))). list_islands m nets' pins' xs) d

pub list_islands-requires-clause-drives : goal.list_islands-requires-clause-drives
list_islands-requires-clause-drives c =
    length-of c.args.count c.args.drives.now c.in_ok-drives.drives.items c.as_slice-2.result.now c.as_slice-2.ensures.value c.in_ok-drives.ensures
    ∙ sym (length-of c.args.count c.args.nets.now c.in_ok-nets.nets.items c.as_slice.result.now c.as_slice.ensures.value c.in_ok-nets.ensures)

pub list_islands-requires-clause-links : goal.list_islands-requires-clause-links
list_islands-requires-clause-links c =
    length-of c.args.count c.args.links.now c.in_ok-links.links.items c.as_slice-3.result.now c.as_slice-3.ensures.value c.in_ok-links.ensures
    ∙ sym (length-of c.args.count c.args.nets.now c.in_ok-nets.nets.items c.as_slice.result.now c.as_slice.ensures.value c.in_ok-nets.ensures)

pub returns : goal.returns
returns c =
    subst (λ (islands : List Island). IfOk c.list_islands.result (λ v. v.items ≡ islands))
    (same_islands (length c.as_slice.result.now) c.args.count _ _ _ _ _ _
    (length-of c.args.count c.args.nets.now c.in_ok-nets.nets.items c.as_slice.result.now c.as_slice.ensures.value c.in_ok-nets.ensures)
    (lists-of c.args.count c.args.nets.now c.in_ok-nets.nets.items c.as_slice.result.now c.as_slice.ensures.value c.in_ok-nets.ensures)
    (lists-of c.args.count c.args.drives.now c.in_ok-drives.drives.items c.as_slice-2.result.now c.as_slice-2.ensures.value c.in_ok-drives.ensures)
    (lists-of c.args.count c.args.links.now c.in_ok-links.links.items c.as_slice-3.result.now c.as_slice-3.ensures.value c.in_ok-links.ensures))
    c.list_islands.ensures
