use Rattle.std.proofs.Common.{◌≡◌, ◌∙◌, ◌++◌, ℕ, Bool, List, true, false, length, take, drop, get_or, [], sym, ap, arith, rules}
use Rattle.std.specs.List.{list_all}
use Rattle.std.proofs.lemmas.List.{append-nil, take_all, drop_all}
use Rattle.std.proofs.lemmas.List.FromFn.{length-map-range_with_len}
use Rattle.vector_text.specs.declared.fault.BindFault.TheVariants.{UnknownNet, NotAnInput, NamedTwice}
use Rattle.vector_text.specs.Binding.{bits_of, bits_of_all, is_unknown, is_net_among, are_new, input_fault}
use Rattle.vector_text.specs.Flags.{bits_unless, flags_of}
use Rattle.vector_text.proofs.NameLemmas.{listed_more, listed_stop, input_unknown, input_other, input_twice, input_good}
use Rattle.vector_text.proofs.inputs.bound_inputs.Goals as goal

pub returns-then-is_unknown : goal.returns-then-is_unknown
returns-then-is_unknown c =
    let parts = c.args.flat.now.parts in
    let names = c.args.names.now in
    let name = c.as_slice-name.result.now in
    let i = c.loop-name.name-index in
    let is : name ≡ get_or names i name = search rules in
    let unknown : is_unknown parts name ≡ true = sym c.is_unknown.ensures ∙ c.if-is_unknown.true in
    ap (bits_unless (bits_of_all parts names)) (listed_stop (input_fault parts c.args.line) parts i names c.loop-name.bits.items name (UnknownNet c.args.line) c.loop-name-test.true is
    (input_unknown parts c.args.line (take i names) name unknown) c.loop-name.invariant.names)

pub returns-then-not-are_inputs : goal.returns-then-not-are_inputs
returns-then-not-are_inputs c =
    let parts = c.args.flat.now.parts in
    let names = c.args.names.now in
    let name = c.as_slice-name.result.now in
    let i = c.loop-name.name-index in
    let is : name ≡ get_or names i name = search rules in
    let known : is_unknown parts name ≡ false = sym c.is_unknown.ensures ∙ c.if-is_unknown.false in
    let other : list_all (is_net_among parts.inputs) (bits_of parts name) ≡ false = sym c.are_inputs.ensures ∙ c.if-not-are_inputs.true in
    ap (bits_unless (bits_of_all parts names)) (listed_stop (input_fault parts c.args.line) parts i names c.loop-name.bits.items name (NotAnInput c.args.line) c.loop-name-test.true is
    (input_other parts c.args.line (take i names) name known other) c.loop-name.invariant.names)

pub returns-then-not-branch : goal.returns-then-not-branch
returns-then-not-branch c =
    let parts = c.args.flat.now.parts in
    let names = c.args.names.now in
    let name = c.as_slice-name.result.now in
    let i = c.loop-name.name-index in
    let is : name ≡ get_or names i name = search rules in
    let known : is_unknown parts name ≡ false = sym c.is_unknown.ensures ∙ c.if-is_unknown.false in
    let inputs : list_all (is_net_among parts.inputs) (bits_of parts name) ≡ true = sym c.are_inputs.ensures ∙ c.if-not-are_inputs.false in
    let twice : are_new (bits_of_all parts (take i names)) (bits_of parts name) ≡ false
    = ap (λ (bits : List ℕ). are_new bits (bits_of parts name)) (sym c.loop-name.invariant.names.bits_are) ∙ sym c.in_ok-list_bits.ensures.new ∙ c.if-not-branch.true in
    ap (bits_unless (bits_of_all parts names)) (listed_stop (input_fault parts c.args.line) parts i names c.loop-name.bits.items name (NamedTwice c.args.line) c.loop-name-test.true is
    (input_twice parts c.args.line (take i names) name known inputs twice) c.loop-name.invariant.names)

pub loop-name-preserved : goal.loop-name-preserved
loop-name-preserved c =
    let parts = c.args.flat.now.parts in
    let names = c.args.names.now in
    let name = c.as_slice-name.result.now in
    let i = c.loop-name.name-index in
    let is : name ≡ get_or names i name = search rules in
    let known : is_unknown parts name ≡ false = sym c.is_unknown.ensures ∙ c.if-is_unknown.false in
    let inputs : list_all (is_net_among parts.inputs) (bits_of parts name) ≡ true = sym c.are_inputs.ensures ∙ c.if-not-are_inputs.false in
    let new : are_new (bits_of_all parts (take i names)) (bits_of parts name) ≡ true
    = ap (λ (bits : List ℕ). are_new bits (bits_of parts name)) (sym c.loop-name.invariant.names.bits_are) ∙ sym c.in_ok-list_bits.ensures.new ∙ c.if-not-branch.false in
    let bits = c.in_ok-list_bits.ensures.bits c.if-not-branch.false in
    let flags : c.list_bits.new.listed ≡ flags_of c.list_bits.new.bits.items (length parts.nets) = c.in_ok-list_bits.ensures.listed c.if-not-branch.false in
    let now : length c.list_bits.new.listed ≡ length parts.nets = ap length flags ∙ length-map-range_with_len (is_net_among c.list_bits.new.bits.items) 0 (length parts.nets) in
    let old : length c.loop-name.listed.items ≡ length parts.nets = ap length c.loop-name.invariant.flags ∙ length-map-range_with_len (is_net_among c.loop-name.bits.items) 0 (length parts.nets) in
    let long : length c.loop-name.listed.items ≡ c.loop-name.listed.len = search rules in
    let rest : drop (length c.list_bits.new.listed) c.loop-name.listed.items ≡ [] = drop_all (length c.list_bits.new.listed) c.loop-name.listed.items (omega arith) in
    let whole : take c.loop-name.listed.len (c.list_bits.new.listed ++ drop (length c.list_bits.new.listed) c.loop-name.listed.items) ≡ c.list_bits.new.listed
    = ap (λ (bs : List Bool). take c.loop-name.listed.len (c.list_bits.new.listed ++ bs)) rest ∙ ap (take c.loop-name.listed.len) (append-nil c.list_bits.new.listed) ∙ take_all c.loop-name.listed.len c.list_bits.new.listed (omega arith) in
    record {
      names = listed_more (input_fault parts c.args.line) parts i names c.loop-name.bits.items c.list_bits.new.bits.items name c.loop-name-test.true is
          (input_good parts c.args.line (take i names) name known inputs new) c.loop-name.invariant.names bits;
      flags = whole ∙ flags;
    }
