use Rattle.std.proofs.Common.{◌≡◌, take}
use Rattle.vector_text.specs.Flags.{flags_of}
use Rattle.vector_text.proofs.inputs.net_flags.Given as goal

abbrev pub invariant-loop-net : goal.invariant-loop-net
invariant-loop-net l = l.flags.items ≡ flags_of (take l.net-index l.nets) l.count
