use Rattle.std.proofs.Common.{rules, ◌<◌, length, drop, refl, arith}
use Rattle.v_lexer.specs.Literals.{bits_of, needed_len}
use Rattle.v_lexer.proofs.Bits.{needed_goes_on, too_many_bits}
use Rattle.v_lexer.proofs.literals.needs_32.Goals as goal

pub loop-rest-preserved : goal.loop-rest-preserved
loop-rest-preserved c =
    let some : 0 < length c.loop-rest.rest.now = search rules in
    (needed_goes_on c.args.base c.loop-rest.so_far c.first.result c.loop-rest.rest.now c.needed_up_to-so_far.result c.after-rest.result.now (needed_len (bits_of c.args.base c.args.digits.now)) some c.first.ensures c.needed_up_to-so_far.ensures.by c.after-rest.ensures c.loop-rest.invariant.0, c.if-so_far-gt32.false)

pub returns-then-so_far-gt32 : goal.returns-then-so_far-gt32
returns-then-so_far-gt32 c =
    let some : 0 < length c.loop-rest.rest.now = search rules in
    let more : 32 < c.needed_up_to-so_far.result = omega arith in
    too_many_bits c.args.base c.needed_up_to-so_far.result (drop 1 c.loop-rest.rest.now) (needed_len (bits_of c.args.base c.args.digits.now)) more
    (needed_goes_on c.args.base c.loop-rest.so_far c.first.result c.loop-rest.rest.now c.needed_up_to-so_far.result (drop 1 c.loop-rest.rest.now) (needed_len (bits_of c.args.base c.args.digits.now)) some c.first.ensures c.needed_up_to-so_far.ensures.by refl c.loop-rest.invariant.0)
