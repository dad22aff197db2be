use Rattle.std.proofs.Common.{◌≡◌, ◌+◌, ◌<◌, ℕ, List, [], ◌++◌, length, take, get_or, sym, ap, ◌∙◌}
use Rattle.std.specs.List.{enumerate_from, flat_map}
use Rattle.std.proofs.lemmas.List.{flat_map_more}
use Rattle.flat_net.specs.declared.parts.Element.{Element}
use Rattle.net_islands.specs.Islands.{drives, element_drives}
use Rattle.net_islands.proofs.Ranges.{enumerate_more}
use Rattle.net_islands.proofs.items.drives.Goals as goal

all_drives_more : (numbers places : List ℕ) (elements : List Element) (i : ℕ) (e : Element) → i < length elements → e ≡ get_or elements i e →
    drives numbers places (take (i + 1) elements) ≡ drives numbers places (take i elements) ++ element_drives numbers places i e.outs
all_drives_more numbers places elements i e lt at =
    ap (flat_map (λ (e : ℕ × Element). element_drives numbers places e.0 e.1.outs)) (enumerate_more elements i e lt at)
    ∙ sym (flat_map_more (λ (e : ℕ × Element). element_drives numbers places e.0 e.1.outs) [] (enumerate_from 0 (take i elements)) (i, e))

pub loop-number-preserved : goal.loop-number-preserved
loop-number-preserved c =
    rw (c.in_ok-push_drives.ensures, c.as_slice.ensures, c.loop-number.invariant)
    (sym (all_drives_more c.args.numbers.now c.args.places.now c.args.elements.now c.loop-number.number c.index-elements-number.result
    c.loop-number-test.true c.index-elements-number.is))
