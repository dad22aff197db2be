use Rattle.std.proofs.Common.{rules, arith, length, ◌≡◌, ◌<◌, false}
use Rattle.v_parser.specs.Input.{front}
use Rattle.v_parser.specs.Blocks.{ends_block, block_length}
use Rattle.v_parser.proofs.Passing.{block_length_step}
use Rattle.v_parser.proofs.blocks.block_length.Goals as goal

pub overflow_add-count : goal.overflow_add-count
overflow_add-count c = omega (arith, c.left-end.ensures.few, c.loop.invariant.counted, c.loop-test.true)

pub loop-preserved : goal.loop-preserved
loop-preserved c =
    let below : c.loop.counter < length c.args.cursor.now.tokens = omega (arith, c.left-end.ensures.left, c.loop-test.true) in
    let goes : ends_block (front c.loop.cursor) ≡ false = search rules in
    record {
      counted = omega (arith, c.loop.invariant.counted);
      all = block_length_step (length c.args.cursor.now.tokens) c.loop.counter c.loop.count c.loop.cursor c.advance.new.self (block_length c.args.cursor.now) below goes c.advance.ensures c.loop.invariant.all;
    }
