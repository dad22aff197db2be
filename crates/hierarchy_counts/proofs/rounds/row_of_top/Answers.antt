use Rattle.std.proofs.Common.{rules, ◌≡◌, ◌+◌, ◌<◌, ◌≤◌, ◌∙◌, length, get_or, sym, ap, arith, List, vec_len}
use Rattle.hierarchy_counts.specs.declared.rounds.Row.{Row}
use Rattle.hierarchy_counts.specs.Hierarchy.{levels_inside}
use Rattle.hierarchy_counts.specs.Rounds.{cap, next_rows, rows, row_at}
use Rattle.hierarchy_counts.proofs.RoundLemmas.{rows-none, rows-length, round_more, row_among, row_at-whole}
use Rattle.hierarchy_counts.proofs.rounds.row_of_top.Goals as goal

pub loop-level-init : goal.loop-level-init
loop-level-init c = c.in_ok-table.ensures ∙ rows-none c.args.modules.now c.args.instances.now

pub next_rows-requires-clause-table : goal.next_rows-requires-clause-table
next_rows-requires-clause-table c =
    ap length c.deref.ensures.value ∙ rows-length c.args.modules.now c.args.instances.now c.loop-level.level c.loop-level.table.items c.loop-level.invariant

pub index-requires : goal.index-requires
index-requires c =
    let next : c.in_ok-table-2.table.items ≡ rows c.args.modules.now c.args.instances.now (c.loop-level.level + 1)
    = round_more c.args.modules.now c.args.instances.now c.loop-level.level c.loop-level.table.items c.deref.result.now c.in_ok-table-2.table.items c.requires.within c.loop-level.invariant c.deref.ensures.value c.in_ok-table-2.ensures in
    let long = rows-length c.args.modules.now c.args.instances.now (c.loop-level.level + 1) c.in_ok-table-2.table.items next in
    let len : length c.in_ok-table-2.table.items ≡ vec_len c.in_ok-table-2.table = search rules in
    omega (arith, c.requires.top)

pub index-requires-then-index-level : goal.index-requires-then-index-level
index-requires-then-index-level c =
    let next : c.in_ok-table-2.table.items ≡ rows c.args.modules.now c.args.instances.now (c.loop-level.level + 1)
    = round_more c.args.modules.now c.args.instances.now c.loop-level.level c.loop-level.table.items c.deref.result.now c.in_ok-table-2.table.items c.requires.within c.loop-level.invariant c.deref.ensures.value c.in_ok-table-2.ensures in
    let long = rows-length c.args.modules.now c.args.instances.now (c.loop-level.level + 1) c.in_ok-table-2.table.items next in
    let len : length c.in_ok-table-2.table.items ≡ vec_len c.in_ok-table-2.table = search rules in
    omega (arith, c.requires.top)

pub returns-then-index-level : goal.returns-then-index-level
returns-then-index-level c =
    let next : c.in_ok-table-2.table.items ≡ rows c.args.modules.now c.args.instances.now (c.loop-level.level + 1)
    = round_more c.args.modules.now c.args.instances.now c.loop-level.level c.loop-level.table.items c.deref.result.now c.in_ok-table-2.table.items c.requires.within c.loop-level.invariant c.deref.ensures.value c.in_ok-table-2.ensures in
    let seen : c.index.result.now ≡ get_or c.in_ok-table-2.table.items c.args.top c.index.result.now = search rules in
    let given : c.index-then-index-level.result.now ≡ get_or c.in_ok-table-2.table.items c.args.top c.index-then-index-level.result.now = search rules in
    let row : c.index.result.now ≡ row_at c.args.modules.now c.args.instances.now (c.loop-level.level + 1) c.args.top
    = seen ∙ row_among c.args.modules.now c.args.instances.now (c.loop-level.level + 1) c.args.top c.in_ok-table-2.table.items c.index.result.now next c.requires.top in
    let few : c.index.result.now.levels ≤ c.loop-level.level = search (rules, c.if-index-level.true) in
    let levels : c.index.result.now.levels ≡ cap (levels_inside c.args.instances.now (c.loop-level.level + 1) c.args.top) = ap (λ (r : Row). r.levels) row in
    given ∙ row_among c.args.modules.now c.args.instances.now (c.loop-level.level + 1) c.args.top c.in_ok-table-2.table.items c.index-then-index-level.result.now next c.requires.top
    ∙ row_at-whole c.args.modules.now c.args.instances.now c.loop-level.level c.args.top (omega (arith, c.loop-level-test.true)) (omega arith)

pub loop-level-preserved : goal.loop-level-preserved
loop-level-preserved c =
    round_more c.args.modules.now c.args.instances.now c.loop-level.level c.loop-level.table.items c.deref.result.now c.in_ok-table-2.table.items c.requires.within c.loop-level.invariant c.deref.ensures.value c.in_ok-table-2.ensures

pub index-requires-2 : goal.index-requires-2
index-requires-2 c =
    let long = rows-length c.args.modules.now c.args.instances.now c.loop-level.level c.loop-level.table.items c.loop-level.invariant in
    let len : length c.loop-level.table.items ≡ vec_len c.loop-level.table = search rules in
    omega (arith, c.requires.top)

pub returns : goal.returns
returns c =
    let given : c.index-2.result.now ≡ get_or c.loop-level.table.items c.args.top c.index-2.result.now = search rules in
    let end : c.loop-level.level ≡ 64 = search rules in
    given ∙ row_among c.args.modules.now c.args.instances.now c.loop-level.level c.args.top c.loop-level.table.items c.index-2.result.now c.loop-level.invariant c.requires.top
    ∙ ap (λ (n : _). row_at c.args.modules.now c.args.instances.now n c.args.top) end
