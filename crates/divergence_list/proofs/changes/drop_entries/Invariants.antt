-- What is left to drop, dropped from what stands now, gives what is to stand in the end.
use Rattle.std.proofs.Common.{◌≡◌, ◌+◌, ◌<◌, ℕ, true, cond, ◌&&◌, eqb, length, None}
use Rattle.std.specs.List.{list_any}
use Rattle.std.specs.HashSet.{contains}
use Rattle.divergence_list.specs.Entries.{entry_at, count}
use Rattle.divergence_list.specs.Invariant.{IsSound}
use Rattle.divergence_list.proofs.changes.drop_entries.Given as goal

abbrev pub invariant-loop-cell : goal.invariant-loop-cell
invariant-loop-cell g l = record {
  cells : length l.lists ≡ length l.fn.lists;
  sound : IsSound l.lists;
  counted : count l.lists + l.dropped ≡ count l.fn.lists;
  in_range : (c : ℕ) → list_any (eqb c) l.cell-iterator ≡ true → c < length l.lists;
  entries : (c f : ℕ) → cond (eqb l.fault f && list_any (eqb c) l.cell-iterator) None (entry_at l.lists c f)
      ≡ cond (eqb l.fault f && contains eqb l.fn.cells c) None (entry_at l.fn.lists c f);
}
