use Rattle.std.proofs.Common.{◌≡◌, map, take}
use Rattle.primitive_rules.proofs.arguments.row_list.Given as goal

abbrev pub invariant-loop-row : goal.invariant-loop-row
invariant-loop-row l = l.list.items ≡ map (λ r. r.row) (take l.row-index l.rows)
