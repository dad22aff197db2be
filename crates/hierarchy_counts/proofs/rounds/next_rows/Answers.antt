use Rattle.std.proofs.Common.{◌≡◌, ◌<◌, ◌+◌, length, ◌∙◌, ◌++◌, ◌∷◌, [], List, get_or, map, sym, ap, arith, rules}
use Rattle.std.specs.List.{range_with_len}
use Rattle.std.proofs.lemmas.List.{get_or_default}
use Rattle.std.proofs.lemmas.List.FromFn.{map-range_with_len_more}
use Rattle.hierarchy_counts.specs.declared.rounds.Row.{Row}
use Rattle.hierarchy_counts.specs.Hierarchy.{instances_at}
use Rattle.hierarchy_counts.specs.Rounds.{row_of}
use Rattle.hierarchy_counts.proofs.rounds.next_rows.Goals as goal

pub loop-index-preserved : goal.loop-index-preserved
loop-index-preserved c =
    let row = λ (index : _). row_of c.args.modules.now c.args.table.now (instances_at c.args.instances.now index) in
    let i = c.loop-index.index in
    let item : c.as_slice.result.now ≡ get_or c.args.instances.now i c.as_slice.result.now = search rules in
    let inside : i < length c.args.instances.now = omega (arith, c.requires.lists, c.loop-index-test.true) in
    let here : c.as_slice.result.now ≡ instances_at c.args.instances.now i = item ∙ get_or_default c.args.instances.now i c.as_slice.result.now [] inside in
    let made : c.row_of.result ≡ row c.loop-index.index = c.row_of.ensures ∙ ap (row_of c.args.modules.now c.args.table.now) here in
    let items : c.push.new.self.items ≡ c.loop-index.rows.items ++ c.row_of.result ∷ [] = search rules in
    items ∙ ap (λ (rows : List Row). rows ++ c.row_of.result ∷ []) c.loop-index.invariant ∙ ap (λ (r : Row). map row (range_with_len 0 c.loop-index.index) ++ r ∷ []) made
    ∙ sym (map-range_with_len_more row 0 c.loop-index.index c.loop-index.index (omega arith))
