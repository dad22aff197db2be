use Rattle.std.proofs.Common.{◌≡◌, false, take}
use Rattle.std.specs.List.{list_any}
use Rattle.item_parts.specs.Literals.{has_literal}
use Rattle.item_parts.proofs.literals.«+has_literal».Given as goal

abbrev pub invariant-loop-part : goal.invariant-loop-part
invariant-loop-part l = list_any has_literal (take l.part-index l.part-items) ≡ false
