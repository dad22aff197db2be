use Rattle.std.proofs.Common.{◌≡◌, ℕ, cond, length, refl, arith}
use Rattle.std.specs.Prelude.{Option, Some, None, is_some}
use Rattle.v_tree.specs.declared.primitives.UdpInitial.{UdpInitial}
use Rattle.primitive_rules.specs.Ports.{initial_starts}
use Rattle.primitive_rules.proofs.Parts.{length_starts}
use Rattle.primitive_rules.proofs.states.has_several_starts.Goals as goal

length-initial : (initial : Option UdpInitial) → length (initial_starts initial) ≡ cond (is_some initial) 1 0
length-initial None = refl
length-initial (Some i) = refl

pub returns : goal.returns
returns c =
    let parts = length_starts c.args.udp.now in
    let last = length-initial c.args.udp.now.initial in
    grind (arith, parts, last, c.header_has_start.ensures, c.one_if-header.ensures, c.is_some.ensures, c.one_if-initial.ensures, c.count_starts.ensures.count, c.as_slice.ensures)
