use Rattle.std.proofs.Common.{◌≡◌, ◌<◌, ◌∙◌, ◌++◌, ℕ, Bool, List, Some, length, take, get_or, set, true, false, sym, ap, subst, arith}
use Rattle.std.specs.Prelude.{slice_get}
use Rattle.std.proofs.lemmas.List.FromFn.{length-map-range_with_len}
use Rattle.flat_net.specs.Names.{nets_found}
use Rattle.vector_text.specs.Binding.{is_net_among, are_new}
use Rattle.vector_text.specs.Flags.{flags_of}
use Rattle.vector_text.proofs.BindingLemmas.{flag_at, net_within, flags_push, whole_bits, bit_more}
use Rattle.vector_text.proofs.InputLemmas.{new_more, new_stop, new_all}
use Rattle.vector_text.proofs.inputs.list_bits.Goals as goal

pub bounds-listed-net : goal.bounds-listed-net
bounds-listed-net c =
    let parts = c.args.flat.now.parts in
    let within : c.in-Some.net < length parts.nets = net_within (length parts.nets) parts.finds c.args.name.now c.loop-at.at c.in-Some.net c.requires.sound.names.finds (sym c.bit_of.ensures ∙ c.in-Some.is) in
    let long : length c.loop-at.listed ≡ length parts.nets = ap length c.loop-at.invariant.flags ∙ length-map-range_with_len (is_net_among c.loop-at.bits.items) 0 (length parts.nets) in
    omega arith

pub returns-then-listed-net-clause-new : goal.returns-then-listed-net-clause-new
returns-then-listed-net-clause-new c =
    let parts = c.args.flat.now.parts in
    let found = nets_found parts.finds c.args.name.now in
    let net = c.in-Some.net in
    let here : slice_get found c.loop-at.at ≡ Some net = sym c.bit_of.ensures ∙ c.in-Some.is in
    let within : net < length parts.nets = net_within (length parts.nets) parts.finds c.args.name.now c.loop-at.at net c.requires.sound.names.finds here in
    let flag : get_or c.loop-at.listed net false ≡ is_net_among c.loop-at.bits.items net
    = ap (λ (bs : List Bool). get_or bs net false) c.loop-at.invariant.flags ∙ flag_at c.loop-at.bits.items (length parts.nets) net false within in
    let twice : is_net_among (c.args.bits.now.items ++ take c.loop-at.at found) net ≡ true
    = ap (λ (nets : List ℕ). is_net_among nets net) (sym c.loop-at.invariant.pushed) ∙ sym flag ∙ c.if-listed-net.true in
    new_stop c.args.bits.now.items found 4294967296 c.loop-at.at net here c.loop-at-test.true twice

pub bounds-listed-net-in-Some : goal.bounds-listed-net-in-Some
bounds-listed-net-in-Some c =
    let parts = c.args.flat.now.parts in
    let within : c.in-Some.net < length parts.nets = net_within (length parts.nets) parts.finds c.args.name.now c.loop-at.at c.in-Some.net c.requires.sound.names.finds (sym c.bit_of.ensures ∙ c.in-Some.is) in
    let long : length c.loop-at.listed ≡ length parts.nets = ap length c.loop-at.invariant.flags ∙ length-map-range_with_len (is_net_among c.loop-at.bits.items) 0 (length parts.nets) in
    omega arith

pub returns-in-None-clause-new : goal.returns-in-None-clause-new
returns-in-None-clause-new c =
    new_all c.args.bits.now.items (nets_found c.args.flat.now.parts.finds c.args.name.now) 4294967296 c.loop-at.at (sym c.bit_of.ensures ∙ c.in-None.is) c.loop-at-test.true c.loop-at.invariant.new

pub returns-in-None-clause-bits : goal.returns-in-None-clause-bits
returns-in-None-clause-bits c = λ new.
    whole_bits c.args.bits.now.items c.loop-at.bits.items (nets_found c.args.flat.now.parts.finds c.args.name.now) 4294967296 c.loop-at.at c.loop-at.invariant.pushed (sym c.bit_of.ensures ∙ c.in-None.is) c.loop-at-test.true

pub loop-at-preserved : goal.loop-at-preserved
loop-at-preserved c =
    let parts = c.args.flat.now.parts in
    let found = nets_found parts.finds c.args.name.now in
    let net = c.in-Some.net in
    let here : slice_get found c.loop-at.at ≡ Some net = sym c.bit_of.ensures ∙ c.in-Some.is in
    let within : net < length parts.nets = net_within (length parts.nets) parts.finds c.args.name.now c.loop-at.at net c.requires.sound.names.finds here in
    let flag : get_or c.loop-at.listed net false ≡ is_net_among c.loop-at.bits.items net
    = ap (λ (bs : List Bool). get_or bs net false) c.loop-at.invariant.flags ∙ flag_at c.loop-at.bits.items (length parts.nets) net false within in
    let other : is_net_among (c.args.bits.now.items ++ take c.loop-at.at found) net ≡ false
    = ap (λ (nets : List ℕ). is_net_among nets net) (sym c.loop-at.invariant.pushed) ∙ sym flag ∙ c.if-listed-net.false in
    record {
      pushed = bit_more c.args.bits.now.items c.loop-at.bits.items c.push.new.self.items found c.loop-at.at net c.loop-at.invariant.pushed here c.in_ok-push-in-Some.ensures.items;
      flags = ap (λ (bs : List Bool). set bs net true) c.loop-at.invariant.flags ∙ flags_push c.loop-at.bits.items (length parts.nets) net within
          ∙ ap (λ (nets : List ℕ). flags_of nets (length parts.nets)) (sym c.in_ok-push-in-Some.ensures.items);
      new = new_more c.args.bits.now.items found c.loop-at.at net here other c.loop-at.invariant.new;
    }

pub returns-clause-new : goal.returns-clause-new
returns-clause-new c =
    let found = nets_found c.args.flat.now.parts.finds c.args.name.now in
    let last : c.loop-at.at ≡ 4294967296 = omega (arith, c.loop-at-test.false, c.loop-at.auto.at-end) in
    sym (subst (λ (n : ℕ). are_new c.args.bits.now.items (take n found) ≡ true) last c.loop-at.invariant.new)

pub returns-clause-bits : goal.returns-clause-bits
returns-clause-bits c = λ new.
    let found = nets_found c.args.flat.now.parts.finds c.args.name.now in
    let last : c.loop-at.at ≡ 4294967296 = omega (arith, c.loop-at-test.false, c.loop-at.auto.at-end) in
    subst (λ (n : ℕ). c.loop-at.bits.items ≡ c.args.bits.now.items ++ take n found) last c.loop-at.invariant.pushed
