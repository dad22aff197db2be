use Rattle.std.proofs.Common.{rules, ◌≡◌, ◌<◌, length, arith, sym, ◌∙◌}
use Rattle.v_lexer.specs.Tokens.{tokens_of}
use Rattle.v_lexer.proofs.Whole.{tokens_go_on, tokens_fail, tokens_end, onto_none}
use Rattle.v_lexer.proofs.lexer.read_tokens.Goals as goal

pub loop-rest-init : goal.loop-rest-init
loop-rest-init c = record {
  so_far = onto_none c.new-tokens.result.items c.args.text.now c.new-tokens.ensures.items;
  offset = omega arith;
  line = omega arith;
}

pub returns-in-Err : goal.returns-in-Err
returns-in-Err c =
    let some : 0 < length c.loop-rest.rest.now = search rules in
    rw c.from.ensures (tokens_fail c.loop-rest.tokens.items c.loop-rest.rest.now c.loop-rest.table c.loop-rest.at c.loop-rest.line c.in-Err.kind (tokens_of c.args.text.now) some (sym c.in-Err.ensures.at) c.loop-rest.invariant.so_far)

pub loop-rest-preserved : goal.loop-rest-preserved
loop-rest-preserved c = record {
  so_far = tokens_go_on c.loop-rest.tokens.items c.push_piece.new.tokens.items c.loop-rest.rest.now c.loop-rest.table c.loop-rest.at c.loop-rest.line c.in-Ok.piece c.table_after-table.result c.lines_after-line.result c.split_at.result.0.now c.split_at.result.1.now (tokens_of c.args.text.now)
      (sym c.in-Ok.ensures.at) c.in-Ok.ensures.within.0 c.in-Ok.ensures.within.1 c.in_ok-push_piece.ensures.ok c.table_after-table.ensures c.split_at.ensures.front c.lines_after-line.ensures.line c.split_at.ensures.back c.loop-rest.invariant.so_far;
  offset = omega (arith, c.split_at.ensures.back_len, c.loop-rest.invariant.offset);
  line = omega (arith, c.lines_after-line.ensures.bound, c.split_at.ensures.front_len, c.loop-rest.invariant.line);
}

pub returns : goal.returns
returns c =
    let none : length c.loop-rest.rest.now ≡ 0 = search rules in
    tokens_end c.loop-rest.tokens.items c.push.new.self.items c.loop-rest.rest.now c.loop-rest.table c.loop-rest.at c.loop-rest.line (tokens_of c.args.text.now) none c.in_ok-push.ensures.items c.loop-rest.invariant.so_far ∙ search rules
