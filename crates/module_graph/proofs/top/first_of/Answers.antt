use Rattle.std.proofs.Common.{◌≡◌, ◌<◌, true, false, length, get_or, ap, sym, ◌∙◌, arith}
use Rattle.name_table.specs.Names.{same_name}
use Rattle.module_graph.proofs.TopLaws.{index_of-more, index_of-found}
use Rattle.module_graph.proofs.top.first_of.Goals as goal

pub returns-then-eq : goal.returns-then-eq
returns-then-eq c =
    let within : c.loop-index.index < length c.args.names.now = omega arith in
    let same : same_name c.args.name.now (get_or c.args.names.now c.loop-index.index c.index-names-index.result) ≡ true
    = ap (same_name c.args.name.now) (sym c.index-names-index.is) ∙ ap (same_name c.args.name.now) (sym c.as_slice.ensures) ∙ sym c.eq.ensures ∙ c.if-eq.true in
    sym (index_of-found c.args.name.now c.args.names.now c.loop-index.index c.index-names-index.result within c.loop-index.invariant same)

pub loop-index-preserved : goal.loop-index-preserved
loop-index-preserved c =
    let within : c.loop-index.index < length c.args.names.now = omega arith in
    let apart : same_name c.args.name.now (get_or c.args.names.now c.loop-index.index c.index-names-index.result) ≡ false
    = ap (same_name c.args.name.now) (sym c.index-names-index.is) ∙ ap (same_name c.args.name.now) (sym c.as_slice.ensures) ∙ sym c.eq.ensures ∙ c.if-eq.false in
    index_of-more c.args.name.now c.args.names.now c.loop-index.index c.index-names-index.result within c.loop-index.invariant apart
