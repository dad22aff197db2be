use Rattle.std.proofs.Common.{◌<◌, List, ℕ, length, sym, ap, ◌∙◌, arith}
use Rattle.module_graph.specs.Numbers.{least_under, lesser, number_if}
use Rattle.module_graph.proofs.TokenLaws.{HasTokens-more}
use Rattle.module_graph.proofs.repeated.put_udps.Goals as goal

pub loop-udp-preserved : goal.loop-udp-preserved
loop-udp-preserved c =
    let within : c.loop-udp.udp-index < length c.args.udps.now = omega arith in
    record {
      whole = c.in_ok-put.ensures.whole;
      tokens = λ names has. HasTokens-more (λ x. x.name) names c.args.udps.now c.loop-udp.udp-index c.udp-item.result c.loop-udp.table c.put.new.self within
          (sym c.udp-item.is) (c.loop-udp.invariant.tokens names has)
          (λ other. c.in_ok-put.ensures.numbers other
          ∙ ap (λ (text : List ℕ). lesser (least_under other c.loop-udp.table) (number_if other text c.udp-item.result.name.location.token)) c.as_slice.ensures);
    }
