use Rattle.std.proofs.Common.{◌≡◌, ◌<◌, ◌∙◌, ℕ, Some, length, length-append, sym, arith}
use Rattle.std.specs.Prelude.{slice_get}
use Rattle.flat_net.specs.Names.{nets_found}
use Rattle.vector_text.proofs.BindingLemmas.{get_some, too_many, whole_bits, few_enough, bit_more}
use Rattle.vector_text.proofs.outputs.push_bits.Goals as goal

pub returns-then-len-ge-GREATEST_OUTPUTS-clause-few : goal.returns-then-len-ge-GREATEST_OUTPUTS-clause-few
returns-then-len-ge-GREATEST_OUTPUTS-clause-few c =
    let found = nets_found c.args.flat.now.parts.finds c.args.name.now in
    too_many c.args.outputs.now.items c.loop-at.outputs.items found 4294967296 c.loop-at.at c.in-Some.net c.loop-at.invariant.pushed (omega arith) (sym c.bit_of.ensures ∙ c.in-Some.is) c.loop-at-test.true

pub returns-in-None-clause-few : goal.returns-in-None-clause-few
returns-in-None-clause-few c =
    let found = nets_found c.args.flat.now.parts.finds c.args.name.now in
    few_enough c.args.outputs.now.items c.loop-at.outputs.items found 4294967296 c.loop-at.at c.loop-at.invariant.pushed c.loop-at.invariant.few (sym c.bit_of.ensures ∙ c.in-None.is) c.loop-at-test.true

pub returns-in-None-clause-bits : goal.returns-in-None-clause-bits
returns-in-None-clause-bits c = λ few.
    whole_bits c.args.outputs.now.items c.loop-at.outputs.items (nets_found c.args.flat.now.parts.finds c.args.name.now) 4294967296 c.loop-at.at c.loop-at.invariant.pushed (sym c.bit_of.ensures ∙ c.in-None.is) c.loop-at-test.true

pub loop-at-preserved : goal.loop-at-preserved
loop-at-preserved c =
    let found = nets_found c.args.flat.now.parts.finds c.args.name.now in
    let here : slice_get found c.loop-at.at ≡ Some c.in-Some.net = sym c.bit_of.ensures ∙ c.in-Some.is in
    let inside : c.loop-at.at < length found = (get_some found c.loop-at.at c.in-Some.net 0 here).0 in
    record {
      pushed = bit_more c.args.outputs.now.items c.loop-at.outputs.items c.push.new.self.items found c.loop-at.at c.in-Some.net c.loop-at.invariant.pushed here c.in_ok-push-in-Some.ensures.items;
      inside = omega arith;
      few = rw c.in_ok-push-in-Some.ensures.items (omega (arith, length-append {A = ℕ}));
    }
