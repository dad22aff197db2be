use Rattle.std.proofs.Common.{◌<◌, List, ℕ, length, sym, ap, ◌∙◌, arith}
use Rattle.module_graph.specs.Numbers.{least_under, lesser, number_if}
use Rattle.module_graph.proofs.TokenLaws.{HasTokens-more}
use Rattle.module_graph.proofs.repeated.put_modules.Goals as goal

pub loop-module-preserved : goal.loop-module-preserved
loop-module-preserved c =
    let within : c.loop-module.module-index < length c.args.modules.now = omega arith in
    record {
      whole = c.in_ok-put.ensures.whole;
      tokens = λ names has. HasTokens-more (λ x. x.name) names c.args.modules.now c.loop-module.module-index c.module-item.result c.loop-module.table c.put.new.self within
          (sym c.module-item.is) (c.loop-module.invariant.tokens names has)
          (λ other. c.in_ok-put.ensures.numbers other
          ∙ ap (λ (text : List ℕ). lesser (least_under other c.loop-module.table) (number_if other text c.module-item.result.name.location.token)) c.as_slice.ensures);
    }
