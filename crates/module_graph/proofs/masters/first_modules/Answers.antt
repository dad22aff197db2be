use Rattle.std.proofs.Common.{◌<◌, List, ℕ, length, map, sym, ap, subst, ◌∙◌, arith}
use Rattle.std.proofs.lemmas.List.{take_all}
use Rattle.v_tree.specs.declared.modules.Module.{Module}
use Rattle.module_graph.specs.Numbers.{least_under, lesser, number_if}
use Rattle.module_graph.specs.Masters.{HasIndexes}
use Rattle.module_graph.proofs.MasterLaws.{HasIndexes-none, HasIndexes-more}
use Rattle.module_graph.proofs.masters.first_modules.Goals as goal

pub loop-index-init : goal.loop-index-init
loop-index-init c = record { whole = c.new-table.ensures.whole; indexes = HasIndexes-none c.new-table.result c.new-table.ensures.empty }

pub loop-index-preserved : goal.loop-index-preserved
loop-index-preserved c =
    let within : c.loop-index.index < length c.args.modules.now = omega arith in
    record {
      whole = c.in_ok-put.ensures.whole;
      indexes = HasIndexes-more (λ (m : Module). m.name.text) c.args.modules.now c.loop-index.index c.index-modules-index.result c.loop-index.table c.put.new.self within
          (sym c.index-modules-index.is) c.loop-index.invariant.indexes
          (λ other. c.in_ok-put.ensures.numbers other
          ∙ ap (λ (text : List ℕ). lesser (least_under other c.loop-index.table) (number_if other text c.loop-index.index)) c.as_slice.ensures);
    }

pub returns : goal.returns
returns c = subst (λ (xs : List Module). HasIndexes (map (λ (m : Module). m.name.text) xs) c.loop-index.table)
    (take_all c.loop-index.index c.args.modules.now (omega arith)) c.loop-index.invariant.indexes
