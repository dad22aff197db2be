use Rattle.std.proofs.Common.{◌≡◌, ◌+◌, ◌<◌, ℕ, List, [], ◌∷◌, ◌++◌, length, map, take, get_or, sym, ap, ◌∙◌}
use Rattle.std.specs.List.{enumerate_from}
use Rattle.std.proofs.lemmas.List.{append_assoc, map-append, get_or_default}
use Rattle.flat_net.specs.declared.parts.Drive.{Drive}
use Rattle.net_islands.specs.Islands.{drive, element_drives}
use Rattle.net_islands.proofs.Ranges.{enumerate_more}
use Rattle.net_islands.proofs.items.push_drives.Goals as goal

drives_more : (numbers places : List ℕ) (element : ℕ) (outs : List ℕ) (pin : ℕ) → pin < length outs →
    element_drives numbers places element (take (pin + 1) outs) ≡ element_drives numbers places element (take pin outs) ++ drive numbers places element pin (get_or outs pin 0) ∷ []
drives_more numbers places element outs pin lt =
    ap (map (λ (out : ℕ × ℕ). drive numbers places element out.0 out.1)) (enumerate_more outs pin (get_or outs pin 0) lt (get_or_default outs pin 0 (get_or outs pin 0) lt))
    ∙ map-append (λ (out : ℕ × ℕ). drive numbers places element out.0 out.1) (enumerate_from 0 (take pin outs)) ((pin, get_or outs pin 0) ∷ [])

pushed : (numbers places : List ℕ) (element : ℕ) (outs : List ℕ) (pin : ℕ) (start : List (ℕ × Drive)) → pin < length outs →
    (start ++ element_drives numbers places element (take pin outs)) ++ drive numbers places element pin (get_or outs pin 0) ∷ []
    ≡ start ++ element_drives numbers places element (take (pin + 1) outs)
pushed numbers places element outs pin start lt =
    append_assoc start (element_drives numbers places element (take pin outs)) (drive numbers places element pin (get_or outs pin 0) ∷ [])
    ∙ ap (λ (xs : List (ℕ × Drive)). start ++ xs) (sym (drives_more numbers places element outs pin lt))

pub loop-pin-preserved : goal.loop-pin-preserved
loop-pin-preserved c =
    rw (c.in_ok-push.ensures.items, c.loop-pin.invariant)
    (pushed c.args.numbers.now c.args.places.now c.args.element c.args.outs.now c.loop-pin.pin c.args.drives.now.items c.loop-pin-test.true)
