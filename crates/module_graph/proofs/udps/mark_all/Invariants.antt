use Rattle.std.proofs.Common.{◌≡◌, ◌<◌, ◌||◌, ℕ, false, length, drop, slice_index_or}
use Rattle.std.specs.List.{list_any, enumerate_from}
use Rattle.module_graph.specs.Reach.{is_udp_reached, reaches_udp}
use Rattle.module_graph.proofs.udps.mark_all.Given as goal

abbrev pub invariant-loop-module : goal.invariant-loop-module
invariant-loop-module l = record {
  same_length : length l.marks ≡ length l.initial.marks;
  left : (k : ℕ) → k < length l.initial.marks →
      (slice_index_or l.initial.marks k false || is_udp_reached l.references l.reached k)
      ≡ (slice_index_or l.marks k false || list_any (reaches_udp k l.reached) (enumerate_from l.module (drop l.module l.references)));
}
