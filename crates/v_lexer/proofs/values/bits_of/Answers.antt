use Rattle.std.proofs.Common.{rules, ◌≡◌, ◌<◌, length}
use Rattle.v_lexer.specs.Literals.{bits_of}
use Rattle.v_lexer.proofs.Digits.{bits_go_on, bits_done}
use Rattle.v_lexer.proofs.values.bits_of.Goals as goal

pub loop-rest-preserved : goal.loop-rest-preserved
loop-rest-preserved c =
    let some : 0 < length c.loop-rest.rest.now = search rules in
    bits_go_on c.args.base c.loop-rest.bits.items c.push_digit.new.bits.items c.first.result c.loop-rest.rest.now c.after-rest.result.now (bits_of c.args.base c.args.digits.now) some c.first.ensures c.after-rest.ensures c.in_ok-push_digit.ensures c.loop-rest.invariant

pub returns : goal.returns
returns c =
    let none : length c.loop-rest.rest.now ≡ 0 = search rules in
    bits_done c.args.base c.loop-rest.bits.items c.loop-rest.rest.now (bits_of c.args.base c.args.digits.now) none c.loop-rest.invariant
