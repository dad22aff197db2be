use Rattle.std.proofs.Common.{◌-◌, ◌++◌, ◌∷◌, [], arith, ap, ◌∙◌}
use Rattle.v_lexer.specs.Literals.{binary}
use Rattle.v_lexer.proofs.Digits.{binary_go_on, binary_done}
use Rattle.expression_bits.proofs.literals.binary.Goals as goal

pub loop-i-preserved : goal.loop-i-preserved
loop-i-preserved c =
    binary_go_on 32 c.loop-i.i c.args.value c.loop-i.bits.items c.push.new.self.items (binary 32 c.args.value) c.loop-i-test.true
    (c.in_ok-push.ensures.items ∙ ap (λ b. c.loop-i.bits.items ++ b ∷ []) c.bit_of.ensures) c.loop-i.invariant

pub returns : goal.returns
returns c =
    binary_done (32 - c.loop-i.i) c.args.value c.loop-i.bits.items (binary 32 c.args.value) (omega arith) c.loop-i.invariant
