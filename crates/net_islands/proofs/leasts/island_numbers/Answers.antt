use Rattle.std.proofs.Common.{◌≡◌, ◌+◌, ◌<◌, ℕ, List, [], ◌∷◌, ◌++◌, length, map, take, get_or, sym, ap, ◌∙◌, arith}
use Rattle.std.specs.List.{All}
use Rattle.std.proofs.lemmas.List.FromFn.{length-map-range_with_len, get_or-map-range_with_len}
use Rattle.net_islands.specs.Leasts.{root_counts, roots}
use Rattle.net_islands.proofs.Ranges.{map_more}
use Rattle.net_islands.proofs.leasts.island_numbers.Goals as goal

module _ (leasts counts : List ℕ) (within : All (λ least. least < length leasts) leasts) (e : counts ≡ root_counts leasts (length leasts + 1)) where
  abbrev roots_below : ℕ → ℕ
  roots_below net = length (roots leasts net)

  counts-length : length counts ≡ length leasts + 1
  counts-length = ap length e ∙ length-map-range_with_len roots_below 0 (length leasts + 1)

  least-within : (i : ℕ) → i < length leasts → get_or leasts i 0 < length counts
  least-within i lt = let h = within i 0 lt in let l = counts-length in omega arith

  count-at : (i : ℕ) → i < length leasts → get_or counts (get_or leasts i 0) 0 ≡ roots_below (get_or leasts i 0)
  count-at i lt =
      let h = within i 0 lt in
      ap (λ (xs : List ℕ). get_or xs (get_or leasts i 0) 0) e
      ∙ get_or-map-range_with_len roots_below 0 (length leasts + 1) (get_or leasts i 0) (get_or leasts i 0) 0 (omega arith) (omega arith)

  numbers_more : (numbers : List ℕ) (i : ℕ) → i < length leasts → numbers ≡ map roots_below (take i leasts) →
      numbers ++ get_or counts (get_or leasts i 0) 0 ∷ [] ≡ map roots_below (take (i + 1) leasts)
  numbers_more numbers i lt f =
      ap (λ (xs : List ℕ). xs ++ get_or counts (get_or leasts i 0) 0 ∷ []) f
      ∙ ap (λ (n : ℕ). map roots_below (take i leasts) ++ n ∷ []) (count-at i lt)
      ∙ sym (map_more roots_below leasts i 0 lt)

pub bounds-counts-least : goal.bounds-counts-least
bounds-counts-least c = least-within c.args.leasts.now c.args.counts.now c.requires.within c.requires.counts c.loop-least.least-index c.loop-least-test.true

pub loop-least-preserved : goal.loop-least-preserved
loop-least-preserved c =
    c.in_ok-push.ensures.items
    ∙ numbers_more c.args.leasts.now c.args.counts.now c.requires.within c.requires.counts c.loop-least.numbers.items c.loop-least.least-index
    c.loop-least-test.true c.loop-least.invariant
