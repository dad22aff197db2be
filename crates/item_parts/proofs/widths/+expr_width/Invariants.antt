use Rattle.std.proofs.Common.{◌≡◌, ◌^◌, min, sum_by, take}
use Rattle.item_parts.proofs.Parts.{part_width}
use Rattle.item_parts.proofs.widths.«+expr_width».Given as goal

abbrev pub invariant-loop-part : goal.invariant-loop-part
invariant-loop-part l = l.width ≡ min (sum_by (part_width l.scope) (take l.part-index l.part-items)) (2 ^ 64)
