use Rattle.std.proofs.Common.{◌≡◌, ◌∙◌, List, Option, [], ◌∷◌, ◌++◌, ℕ, map, take, get_or, ap, sym, ◌+◌}
use Rattle.std.specs.List.{range_with_len}
use Rattle.std.proofs.lemmas.List.{take_more}
use Rattle.netlist_plan.specs.Flattening.{number_outside}
use Rattle.flattening.specs.Slots.{number_slots}
use Rattle.flattening.proofs.SlotLemmas.{slots_none, slots_more}
use Rattle.flattening.proofs.numbers.slots_of.Goals as goal

pub loop-bit-init : goal.loop-bit-init
loop-bit-init c = c.in_ok-slots.ensures ∙ slots_none c.args.count

pub loop-bit-preserved : goal.loop-bit-preserved
loop-bit-preserved c =
    let outside = c.args.outside.now in
    let i = c.loop-bit.bit-index in
    let item = get_or outside i (0, 0) in
    let next : take (i + 1) outside ≡ take i outside ++ item ∷ [] =
    take_more outside i (0, 0) c.loop-bit-test.true in
    c.take_number.ensures
    ∙ ap (λ (slots : List (Option ℕ)). number_slots slots item.0 item.1) c.loop-bit.invariant
    ∙ slots_more (take i outside) item.0 item.1 c.args.count
    ∙ ap (λ (seen : List (ℕ × ℕ)). map (number_outside seen) (range_with_len 0 c.args.count)) (sym next)
