use Rattle.std.proofs.Common.{◌≡◌, ◌+◌, ℕ, Bool, cond, List, [], ◌∷◌, ◌++◌, length, get_or, sym, ap, ◌∙◌, arith}
use Rattle.std.proofs.lemmas.Bool.{eq-eqb, ne_eqb}
use Rattle.std.proofs.lemmas.List.FromFn.{map-range_with_len_more}
use Rattle.net_islands.specs.Leasts.{root_counts, roots}
use Rattle.net_islands.proofs.RootLemmas.{root_count_more, root_count-bound}
use Rattle.net_islands.proofs.leasts.root_counts.Goals as goal
use Rattle.net_islands.proofs.leasts.root_counts.Goals.{then-least-net, else-least-net}

counts_more : (least counts : List ℕ) (net count : ℕ) → counts ≡ root_counts least net → count ≡ length (roots least net) → counts ++ count ∷ [] ≡ root_counts least (net + 1)
counts_more least counts net count e f =
    ap (λ (xs : List ℕ). xs ++ count ∷ []) e ∙ ap (λ (n : ℕ). root_counts least net ++ n ∷ []) f
    ∙ sym (map-range_with_len_more (λ (n : ℕ). length (roots least n)) 0 net net (omega arith))

root_yes : (least : List ℕ) (net : ℕ) → get_or least net 0 ≡ net → length (roots least (net + 1)) ≡ length (roots least net) + 1
root_yes least net e = root_count_more least net ∙ ap (λ (b : Bool). length (roots least net) + cond b 1 0) (eq-eqb (get_or least net 0) net e)

root_no : (least : List ℕ) (net : ℕ) → (get_or least net 0 ≡ net → ⊥) → length (roots least (net + 1)) ≡ length (roots least net)
root_no least net ne =
    let z : length (roots least net) + 0 ≡ length (roots least net) = omega arith in
    root_count_more least net ∙ ap (λ (b : Bool). length (roots least net) + cond b 1 0) (ne_eqb (get_or least net 0) net ne) ∙ z

pub overflow_add-count : goal.overflow_add-count
overflow_add-count c =
    let b = root_count-bound c.args.leasts.now c.loop-net.net in
    let i : c.loop-net.count ≡ length (roots c.args.leasts.now c.loop-net.net) = c.loop-net.invariant.count in
    omega arith

pub loop-net-preserved : goal.loop-net-preserved
loop-net-preserved c = record {
  counts = c.in_ok-push.ensures.items ∙ counts_more c.args.leasts.now c.loop-net.counts.items c.loop-net.net c.loop-net.count c.loop-net.invariant.counts c.loop-net.invariant.count;
  count = elim c.if-least-net.branch [
    | then-least-net w ↦
        let more = root_yes c.args.leasts.now c.loop-net.net w.if-least-net.true in
        let i : c.loop-net.count ≡ length (roots c.args.leasts.now c.loop-net.net) = c.loop-net.invariant.count in
        w.count-is ∙ ap (λ (n : ℕ). n + 1) i ∙ sym more
    | else-least-net w ↦
        let more = root_no c.args.leasts.now c.loop-net.net w.if-least-net.false in
        w.count-is ∙ c.loop-net.invariant.count ∙ sym more
  ];
}

pub returns : goal.returns
returns c =
    let end : c.loop-net.net ≡ length c.args.leasts.now = omega arith in
    c.in_ok-push-2.ensures.items
    ∙ counts_more c.args.leasts.now c.loop-net.counts.items c.loop-net.net c.loop-net.count c.loop-net.invariant.counts c.loop-net.invariant.count
    ∙ ap (λ (n : ℕ). root_counts c.args.leasts.now (n + 1)) end
