use Rattle.std.proofs.Common.{◌≡◌, ◌+◌, ◌<◌, ℕ, List, [], ◌∷◌, ◌++◌, length, get_or, sym, ap, ◌∙◌, arith}
use Rattle.std.specs.Prelude.{Vec}
use Rattle.std.proofs.lemmas.List.FromFn.{map-range_with_len_more}
use Rattle.net_settle.specs.declared.shape.Link.{Link}
use Rattle.flat_net.specs.declared.parts.Drive.{Drive}
use Rattle.flat_net.specs.declared.parts.Island.{Island}
use Rattle.net_islands.specs.declared.parts.NetClass.{NetClass}
use Rattle.net_islands.specs.Keys.{lists_in}
use Rattle.net_islands.specs.Islands.{island, list_islands}
use Rattle.net_islands.proofs.KeyLemmas.{lists_in-at}
use Rattle.net_islands.proofs.islands.list_islands.Goals as goal

module _ {Z : Type 0} (nets : List (Vec (ℕ × NetClass) Z)) (drives : List (Vec Drive Z)) (links : List (Vec (ℕ × Link) Z)) where
  abbrev made : ℕ → List Island
  made count = list_islands count (lists_in nets) (lists_in drives) (lists_in links)

  islands_more : (i : ℕ) (n : Vec (ℕ × NetClass) Z) (d : Vec Drive Z) (l : Vec (ℕ × Link) Z) → i < length nets → length drives ≡ length nets → length links ≡ length nets →
      n ≡ get_or nets i n → d ≡ get_or drives i d → l ≡ get_or links i l → made i ++ island n.items d.items l.items ∷ [] ≡ made (i + 1)
  islands_more i n d l lt ds ls at-n at-d at-l =
      let one = lists_in-at nets i n lt at-n in
      let two = lists_in-at drives i d (omega arith) at-d in
      let three = lists_in-at links i l (omega arith) at-l in
      ap (λ (xs : List (ℕ × NetClass)). made i ++ island xs d.items l.items ∷ []) (sym one)
      ∙ ap (λ (xs : List Drive). made i ++ island (get_or (lists_in nets) i []) xs l.items ∷ []) (sym two)
      ∙ ap (λ (xs : List (ℕ × Link)). made i ++ island (get_or (lists_in nets) i []) (get_or (lists_in drives) i []) xs ∷ []) (sym three)
      ∙ sym (map-range_with_len_more (λ (k : ℕ). island (get_or (lists_in nets) k []) (get_or (lists_in drives) k []) (get_or (lists_in links) k [])) 0 i i (omega arith))

pub loop-number-preserved : goal.loop-number-preserved
loop-number-preserved c =
    rw (
      c.in_ok-push.ensures.items,
      c.in_ok-island.ensures,
      c.deref.ensures.value,
      c.deref-in-loop-number.ensures.value,
      c.deref-in-loop-number-2.ensures.value,
      c.loop-number.invariant,
    )
    (islands_more c.args.nets.now c.args.drives.now c.args.links.now c.loop-number.number c.index-nets-number.result c.index-drives-number.result
    c.index-links-number.result c.loop-number-test.true c.requires.drives c.requires.links c.index-nets-number.is c.index-drives-number.is c.index-links-number.is)
