use Rattle.std.proofs.Common.{sym, arith}
use Rattle.flat_net.specs.Names.{nets_found}
use Rattle.vector_text.proofs.NameLemmas.{unknown_is}
use Rattle.vector_text.proofs.inputs.is_unknown.Goals as goal

pub returns : goal.returns
returns c =
    sym (unknown_is 4294967296 (nets_found c.args.flat.now.parts.finds c.args.name.now) c.bit_of.result c.is_none.result (omega arith) c.bit_of.ensures c.is_none.ensures)
