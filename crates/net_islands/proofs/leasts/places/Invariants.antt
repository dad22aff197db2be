use Rattle.std.proofs.Common.{◌≡◌, ◌<◌, ℕ, ◌==◌, length, map, take, get_or}
use Rattle.std.specs.List.{count_by, range_with_len}
use Rattle.net_islands.specs.Leasts.{place}
use Rattle.net_islands.proofs.leasts.places.Given as goal

abbrev pub invariant-loop-number : goal.invariant-loop-number
invariant-loop-number l = record {
  all : length l.sizes.items ≡ l.count;
  sizes : (key : ℕ) → key < l.count → get_or l.sizes.items key 0 ≡ count_by (λ number. number == key) (take l.number-index l.numbers);
  places : l.places.items ≡ map (place l.numbers) (range_with_len 0 l.number-index);
}
