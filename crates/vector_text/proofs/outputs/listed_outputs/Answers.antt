use Rattle.std.proofs.Common.{◌≡◌, ◌+◌, ◌∙◌, ℕ, List, true, false, length, take, get_or, leb, sym, ap, arith, rules}
use Rattle.std.proofs.lemmas.List.{length-append}
use Rattle.std.proofs.lemmas.Bool.{leb-true}
use Rattle.vector_text.specs.declared.fault.BindFault.TheVariants.{UnknownNet, Limit}
use Rattle.vector_text.specs.Binding.{bits_of, bits_of_all, is_unknown, output_fault}
use Rattle.vector_text.specs.Flags.{bits_unless}
use Rattle.vector_text.specs.Lawful.{greatest_outputs}
use Rattle.vector_text.proofs.NameLemmas.{listed_more, listed_stop, output_unknown, output_many, output_good}
use Rattle.vector_text.proofs.outputs.listed_outputs.Goals as goal

pub returns-then-is_unknown : goal.returns-then-is_unknown
returns-then-is_unknown c =
    let parts = c.args.flat.now.parts in
    let names = c.args.names.now in
    let name = c.as_slice-name.result.now in
    let i = c.loop-name.name-index in
    let is : name ≡ get_or names i name = search rules in
    let unknown : is_unknown parts name ≡ true = sym c.is_unknown.ensures ∙ c.if-is_unknown.true in
    ap (bits_unless (bits_of_all parts names)) (listed_stop (output_fault parts c.args.line) parts i names c.loop-name.outputs.items name (UnknownNet c.args.line) c.loop-name-test.true is
    (output_unknown parts c.args.line (take i names) name unknown) c.loop-name.invariant.names)

pub returns-then-not-branch : goal.returns-then-not-branch
returns-then-not-branch c =
    let parts = c.args.flat.now.parts in
    let names = c.args.names.now in
    let name = c.as_slice-name.result.now in
    let i = c.loop-name.name-index in
    let is : name ≡ get_or names i name = search rules in
    let known : is_unknown parts name ≡ false = sym c.is_unknown.ensures ∙ c.if-is_unknown.false in
    let many : false ≡ leb (length (bits_of_all parts (take i names)) + length (bits_of parts name)) greatest_outputs
    = sym c.if-not-branch.true ∙ c.in_ok-push_bits.ensures.few ∙ ap (λ (bits : List ℕ). leb (length bits + length (bits_of parts name)) greatest_outputs) c.loop-name.invariant.names.bits_are in
    ap (bits_unless (bits_of_all parts names)) (listed_stop (output_fault parts c.args.line) parts i names c.loop-name.outputs.items name (Limit c.args.line) c.loop-name-test.true is
    (output_many parts c.args.line (take i names) name known many) c.loop-name.invariant.names)

pub loop-name-preserved : goal.loop-name-preserved
loop-name-preserved c =
    let parts = c.args.flat.now.parts in
    let names = c.args.names.now in
    let name = c.as_slice-name.result.now in
    let i = c.loop-name.name-index in
    let is : name ≡ get_or names i name = search rules in
    let known : is_unknown parts name ≡ false = sym c.is_unknown.ensures ∙ c.if-is_unknown.false in
    let few : true ≡ leb (length c.loop-name.outputs.items + length (bits_of parts name)) greatest_outputs = sym c.if-not-branch.false ∙ c.in_ok-push_bits.ensures.few in
    let room : true ≡ leb (length (bits_of_all parts (take i names)) + length (bits_of parts name)) greatest_outputs
    = few ∙ ap (λ (bits : List ℕ). leb (length bits + length (bits_of parts name)) greatest_outputs) c.loop-name.invariant.names.bits_are in
    let bits = c.in_ok-push_bits.ensures.bits c.if-not-branch.false in
    record {
      names = listed_more (output_fault parts c.args.line) parts i names c.loop-name.outputs.items c.push_bits.new.outputs.items name c.loop-name-test.true is
          (output_good parts c.args.line (take i names) name known room) c.loop-name.invariant.names bits;
      few = rw bits (omega (arith, length-append c.loop-name.outputs.items (bits_of parts name), leb-true (length c.loop-name.outputs.items + length (bits_of parts name)) greatest_outputs (sym few)));
    }
