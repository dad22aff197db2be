use Rattle.std.proofs.Common.{◌≡◌, ◌<◌, ◌∙◌, ℕ, Bool, List, Some, length, take, get_or, true, false, sym, ap, subst, arith}
use Rattle.std.specs.List.{list_all}
use Rattle.std.specs.Prelude.{slice_get}
use Rattle.std.proofs.lemmas.List.FromFn.{length-map-range_with_len}
use Rattle.flat_net.specs.Names.{nets_found}
use Rattle.vector_text.specs.Binding.{is_net_among}
use Rattle.vector_text.proofs.BindingLemmas.{flag_at, net_within, all_false, all_more, all_none}
use Rattle.vector_text.proofs.inputs.are_inputs.Goals as goal

pub bounds-inputs-net : goal.bounds-inputs-net
bounds-inputs-net c =
    let parts = c.args.flat.now.parts in
    let within : c.in-Some.net < length parts.nets = net_within (length parts.nets) parts.finds c.args.name.now c.loop-at.at c.in-Some.net c.requires.sound.names.finds (sym c.bit_of.ensures ∙ c.in-Some.is) in
    let long : length c.args.inputs.now ≡ length parts.nets = ap length c.requires.flags ∙ length-map-range_with_len (is_net_among parts.inputs) 0 (length parts.nets) in
    omega arith

pub returns-in-Some-2 : goal.returns-in-Some-2
returns-in-Some-2 c =
    let parts = c.args.flat.now.parts in
    let found = nets_found parts.finds c.args.name.now in
    let here : slice_get found c.loop-at.at ≡ Some c.in-Some.net = sym c.bit_of.ensures ∙ c.in-Some.is in
    let within : c.in-Some.net < length parts.nets = net_within (length parts.nets) parts.finds c.args.name.now c.loop-at.at c.in-Some.net c.requires.sound.names.finds here in
    let flag : get_or c.args.inputs.now c.in-Some.net false ≡ is_net_among parts.inputs c.in-Some.net
    = ap (λ (bs : List Bool). get_or bs c.in-Some.net false) c.requires.flags ∙ flag_at parts.inputs (length parts.nets) c.in-Some.net false within in
    let bad : is_net_among parts.inputs c.in-Some.net ≡ false = sym flag ∙ c.if-inputs-net.false in
    all_false (is_net_among parts.inputs) 4294967296 c.loop-at.at c.in-Some.net found here c.loop-at-test.true bad

pub returns-in-None : goal.returns-in-None
returns-in-None c =
    let parts = c.args.flat.now.parts in
    all_none (is_net_among parts.inputs) 4294967296 c.loop-at.at (nets_found parts.finds c.args.name.now) (sym c.bit_of.ensures ∙ c.in-None.is) c.loop-at-test.true c.loop-at.invariant

pub loop-at-preserved : goal.loop-at-preserved
loop-at-preserved c =
    let parts = c.args.flat.now.parts in
    let found = nets_found parts.finds c.args.name.now in
    let here : slice_get found c.loop-at.at ≡ Some c.in-Some.net = sym c.bit_of.ensures ∙ c.in-Some.is in
    let within : c.in-Some.net < length parts.nets = net_within (length parts.nets) parts.finds c.args.name.now c.loop-at.at c.in-Some.net c.requires.sound.names.finds here in
    let flag : get_or c.args.inputs.now c.in-Some.net false ≡ is_net_among parts.inputs c.in-Some.net
    = ap (λ (bs : List Bool). get_or bs c.in-Some.net false) c.requires.flags ∙ flag_at parts.inputs (length parts.nets) c.in-Some.net false within in
    all_more (is_net_among parts.inputs) c.loop-at.at c.in-Some.net found here (sym flag ∙ c.if-inputs-net.true) c.loop-at.invariant

pub returns : goal.returns
returns c =
    let parts = c.args.flat.now.parts in
    let found = nets_found parts.finds c.args.name.now in
    let last : c.loop-at.at ≡ 4294967296 = omega (arith, c.loop-at-test.false, c.loop-at.auto.at-end) in
    sym (subst (λ (n : ℕ). list_all (is_net_among parts.inputs) (take n found) ≡ true) last c.loop-at.invariant)
