use Rattle.std.proofs.Common.{◌≡◌, ◌+◌, ◌<◌, ℕ, List, [], ◌∷◌, ◌++◌, length, map, take, sym, ap, ◌∙◌, arith}
use Rattle.std.proofs.lemmas.List.{take_more, flat_map_more}
use Rattle.flat_net.specs.declared.parts.Drive.{Drive}
use Rattle.flat_net.specs.declared.parts.Island.{Island}
use Rattle.flat_net.specs.Islands.{drive_pins}
use Rattle.flat_net.proofs.joints.drive_pins.Goals as goal

abbrev pins_of : Island → List (ℕ × ℕ)
pins_of island = map (λ (drive : Drive). (drive.element, drive.pin)) island.drives

pub loop-island-preserved : goal.loop-island-preserved
loop-island-preserved c =
    let within : c.loop-island.island-index < length c.args.islands.now = omega arith in
    let front : take (c.loop-island.island-index + 1) c.args.islands.now ≡ take c.loop-island.island-index c.args.islands.now ++ c.island-item.result ∷ []
    = take_more c.args.islands.now c.loop-island.island-index c.island-item.result within ∙ ap (λ (x : Island). take c.loop-island.island-index c.args.islands.now ++ x ∷ []) (sym c.island-item.is) in
    let more : drive_pins (take c.loop-island.island-index c.args.islands.now ++ c.island-item.result ∷ []) ≡ drive_pins (take c.loop-island.island-index c.args.islands.now) ++ pins_of c.island-item.result
    = sym (flat_map_more pins_of [] (take c.loop-island.island-index c.args.islands.now) c.island-item.result) in
    c.in_ok-push_pins.ensures
    ∙ ap (λ (x : List (ℕ × ℕ)). x ++ map (λ (drive : Drive). (drive.element, drive.pin)) c.as_slice.result.now) c.loop-island.invariant
    ∙ ap (λ (x : List Drive). drive_pins (take c.loop-island.island-index c.args.islands.now) ++ map (λ (drive : Drive). (drive.element, drive.pin)) x) c.as_slice.ensures
    ∙ sym more ∙ ap drive_pins (sym front)
