use Rattle.std.proofs.Common.{◌≡◌, ◌+◌, ℕ, List, length, get_or, ap, ◌∙◌, arith}
use Rattle.std.proofs.lemmas.List.FromFn.{length-map-range_with_len, get_or-map-range_with_len}
use Rattle.net_islands.specs.Leasts.{root_counts, roots, island_count}
use Rattle.net_islands.proofs.leasts.numbers.Goals as goal

counts-length : (least counts : List ℕ) (n : ℕ) → counts ≡ root_counts least n → length counts ≡ n
counts-length least counts n e = ap length e ∙ length-map-range_with_len (λ (k : ℕ). length (roots least k)) 0 n

last-count : (least counts : List ℕ) (d : ℕ) → counts ≡ root_counts least (length least + 1) → get_or counts (length least) d ≡ island_count least
last-count least counts d e =
    ap (λ (xs : List ℕ). get_or xs (length least) d) e
    ∙ get_or-map-range_with_len (λ (k : ℕ). length (roots least k)) 0 (length least + 1) (length least) (length least) d (omega arith) (omega arith)

pub index-requires : goal.index-requires
index-requires c =
    let long = counts-length c.args.leasts.now c.in_ok-counts.counts.items (length c.args.leasts.now + 1) c.in_ok-counts.ensures in
    let len : c.in_ok-counts.counts.len ≡ length c.in_ok-counts.counts.items = c.in_ok-counts.counts.ok.0 in
    omega arith

pub returns-clause-count : goal.returns-clause-count
returns-clause-count c = c.index.ensures ∙ last-count c.args.leasts.now c.in_ok-counts.counts.items c.index.result.now c.in_ok-counts.ensures
